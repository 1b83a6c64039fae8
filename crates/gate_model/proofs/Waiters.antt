-- A delivery that waits for its deliver or get-ok stands with its link among those that are open; so no link is detached on which one waits for a basic.get.
use Rattle.std.proofs.Common.{◌≡◌, ◌∙◌, inl, inr, ℕ, ◌+◌, ◌≤◌, ◌==◌, not, ◌&&◌, ◌||◌, Bool, true, false, if◌then◌else◌, cond, List, [], ◌∷◌, ◌++◌, map, Option, None, Some}
use Rattle.std.proofs.Common.{refl, sym, ap, subst, arith}
use Rattle.std.proofs.lemmas.List.Sums.{sum_by-cons}
use Rattle.std.specs.List.{AllByRecursion, list_any}
use Rattle.std.specs.Option.{option_map, option_or}
use Rattle.std.specs.Prelude.{IfSome, count_by, filter, is_some}
use Rattle.open_items.proofs.Filtered.{all_find}
use Rattle.publish_path.specs.Offers.{is_pending as is_publish_pending}
use Rattle.consume_path.specs.Deliveries as on
use Rattle.consume_path.specs.Deliveries.{DeliveryEvent, DeliveryState, open_after}
use Rattle.consume_path.specs.Items.{cancelled, is_held, is_on, is_open, limit_of, owed_place, reported, trimmed}
use Rattle.consume_path.specs.Journal.{Fate, IsTaken, caused, fate_of, is_closed, is_counted, is_pending, numbers_of, waits}
use Rattle.consume_path.specs.Kept.{is_getter}
use Rattle.consume_path.specs.Laws.{AreCalls, counted_on, is_counted_on}
use Rattle.consume_path.specs.Links.{counts_on, in_link, link_cancelled, link_of, one_if, recount}
use Rattle.consume_path.specs.Offers.{holds, is_all_covered, is_at_rest, is_for_gets, is_held_on, is_over, is_probe}
use Rattle.consume_path.specs.declared.delivery.Delivery.{Delivery}
use Rattle.consume_path.specs.declared.delivery.Place.{Place}
use Rattle.consume_path.specs.declared.delivery.Place.TheVariants.{Held, Out, Owed, Settled}
use Rattle.consume_path.specs.declared.delivery.Settle.{Settle}
use Rattle.consume_path.specs.declared.delivery.Settle.TheVariants.{Released}
use Rattle.consume_path.specs.declared.delivery.Taker.{Taker}
use Rattle.consume_path.specs.declared.delivery.Taker.TheVariants.{Nobody, Getter}
use Rattle.consume_path.specs.declared.delivery.Taker.TheVariants.{Consumer as Consumes}
use Rattle.consume_path.specs.declared.receiving.ReceivingLink.{ReceivingLink}
use Rattle.consume_path.specs.declared.receiving.RecvKind.{RecvKind}
use Rattle.consume_path.specs.declared.receiving.RecvKind.TheVariants.{Consumer, Get, Probe}
use Rattle.session_path.specs.Events as event
use Rattle.session_path.specs.Events.{PathEvent, after_events, deliveries_of, delivery_events, drops}
use Rattle.session_path.specs.Laws.{AreHeard}
use Rattle.session_path.specs.Links.{is_stage_open, is_to_part}
use Rattle.session_path.specs.Path.{PathState, detaching_of, is_empty_of}
use Rattle.session_path.specs.declared.path.PathLink.{PathLink}
use Rattle.gate_model.proofs.Awaiting.{IsReady, ready}
use Rattle.gate_model.proofs.Basics.{and_both, and_left, and_right, left_false, right_false}
use Rattle.gate_model.proofs.Brought.{each_all, is_plain}
use Rattle.gate_model.proofs.Calling.{get_calls}
use Rattle.gate_model.proofs.Getting.{fewer}
use Rattle.gate_model.proofs.Granting.{CountsAre, DeliveriesAre}
use Rattle.gate_model.proofs.Heard.{ClosedAre, events_open}
use Rattle.gate_model.proofs.Linking.{linked}
use Rattle.gate_model.proofs.Quotas.{equal, number_is}
use Rattle.gate_model.proofs.Releases.{Goes, detaching_goes}
use Rattle.gate_model.proofs.Settles.{CallsAre}
use Rattle.gate_model.proofs.Standing.{AreDrops, AreStanding, IsDrop, on_such, standing, suits}

-- ---- how many count on a link, where none of it is held

any_none : {A : Type 0} (t : A → Bool) (xs : List A) → list_any t xs ≡ false → AllByRecursion (λ (x : A). t x ≡ false) xs
any_none t [] e = tt
any_none t (x ∷ xs) e = (left_false (t x) _ e, any_none t xs (right_false (t x) _ e))

shut : (k : ℕ) (d : Delivery) → is_open d ≡ false → counts_on k d ≡ false
shut k d e = by d.place e
  where
    none : (b : Bool) → (b && false) ≡ false
    none true = refl
    none false = refl

    by : (p : Place) → is_open (record d { place = p }) ≡ false → counts_on k (record d { place = p }) ≡ false
    by Held f = absurd cc
    by Out f = absurd cc
    by (Owed s) f = absurd cc
    by Settled f = none (is_on k d.link)

same_count : (k : ℕ) (f : Delivery → Delivery) (xs : List Delivery) → AllByRecursion (λ (d : Delivery). counts_on k (f d) ≡ counts_on k d) xs
    → count_by (counts_on k) (filter is_open (map f xs)) ≡ count_by (counts_on k) xs
same_count k f [] a = refl
same_count k f (x ∷ xs) a = by (is_open (f x)) refl (same_count k f xs a.1)
  where
    weight : Delivery → ℕ
    weight d = cond (counts_on k d) 1 0

    ys : List Delivery
    ys = filter is_open (map f xs)

    by : (b : Bool) → is_open (f x) ≡ b → count_by (counts_on k) ys ≡ count_by (counts_on k) xs → count_by (counts_on k) (cond b (f x ∷ ys) ys) ≡ count_by (counts_on k) (x ∷ xs)
    by true e ih =
        sum_by-cons weight (f x) ys ∙ ap (λ (b : Bool). cond b 1 0 + count_by (counts_on k) ys) a.0
        ∙ ap (λ (n : ℕ). weight x + n) ih ∙ sym (sum_by-cons weight x xs)
    by false e ih =
        let none : weight x ≡ 0 = ap (λ (b : Bool). cond b 1 0) (sym a.0 ∙ shut k (f x) e) in
        let all : count_by (counts_on k) (x ∷ xs) ≡ weight x + count_by (counts_on k) xs = sum_by-cons weight x xs in
        omega (arith, ih, none, all)

all_same : (k : ℕ) (f : Delivery → Delivery) → ((d : Delivery) → counts_on k (f d) ≡ counts_on k d) → (xs : List Delivery) → AllByRecursion (λ (d : Delivery). counts_on k (f d) ≡ counts_on k d) xs
all_same k f e [] = tt
all_same k f e (x ∷ xs) = (e x, all_same k f e xs)

-- a cancel of its consumer changes none of them
uncancelled : (k : ℕ) (xs : List Delivery) → AllByRecursion (λ (d : Delivery). is_held_on k d ≡ false) xs
    → AllByRecursion (λ (d : Delivery). counts_on k (trimmed (cancelled k d)) ≡ counts_on k d) xs
uncancelled k [] a = tt
uncancelled k (x ∷ xs) a =
    (ap (λ (b : Bool). counts_on k (record x { place = if b then owed_place x.settled Released else x.place })) (turned (is_on k x.link) (is_held x.place) a.0), uncancelled k xs a.1)
  where
    turned : (a b : Bool) → (a && b) ≡ false → (b && a) ≡ false
    turned true true e = absurd cc
    turned true false e = refl
    turned false true e = refl
    turned false false e = refl

-- ---- one that waits counts, until its consumer is cancelled

still_pending : (c : Bool) (due : Option Settle) (left : Bool) → (not (is_some (caused c Released due)) && not left) ≡ true → (not (is_some due) && not left) ≡ true
still_pending true None left e = absurd cc
still_pending true (Some s) left e = e
still_pending false due left e = e

counted_before : (k m : ℕ) (ds : List DeliveryEvent) → is_counted_on k (fate_of m (on.Cancelled k ∷ ds)) ≡ true → is_counted_on k (fate_of m ds) ≡ true
counted_before k m ds e =
    let f = fate_of m ds in
    let g = fate_of m (on.Cancelled k ∷ ds) in
    let counts : is_counted g ≡ true = and_right (is_on k f.link) _ e in
    let pending : is_pending g ≡ true = and_left (is_pending g) _ counts in
    let rest : (not (is_some f.tag) || is_some (limit_of f.taker)) ≡ true = and_right (is_pending g) _ counts in
    and_both (is_on k f.link) (is_counted f) (and_left (is_on k f.link) _ e)
    (and_both (is_pending f) _ (still_pending (is_on k f.link && not (is_some f.tag)) f.due f.left pending) rest)

waiting_counts : (k : ℕ) (f : Fate) → is_on k f.link ≡ true → waits f ≡ true → is_counted_on k f ≡ true
waiting_counts k f i w =
    and_both (is_on k f.link) (is_counted f) i
    (and_both (is_pending f) _ (and_left (is_pending f) _ w) (left (not (is_some f.tag)) (is_some (limit_of f.taker)) (and_right (is_pending f) _ w)))
  where
    left : (a b : Bool) → a ≡ true → (a || b) ≡ true
    left true b e = refl
    left false b e = absurd cc

cancelled_no_more : (k m : ℕ) (ds : List DeliveryEvent) → is_on k (fate_of m ds).link ≡ true → waits (fate_of m ds) ≡ true → is_counted_on k (fate_of m (on.Cancelled k ∷ ds)) ≡ false
cancelled_no_more k m ds i w =
    let f = fate_of m ds in
    let goes : (is_on k f.link && not (is_some f.tag)) ≡ true = and_both _ _ i (and_right (is_pending f) _ w) in
    ap (λ (c : Bool). is_on k f.link && ((not (is_some (caused c Released f.due)) && not f.left) && (not (is_some f.tag) || is_some (limit_of f.taker)))) goes
    ∙ none (is_on k f.link) f.due f.left _
  where
    none : (a : Bool) (due : Option Settle) (left r : Bool) → (a && ((not (is_some (option_or due (Some Released))) && not left) && r)) ≡ false
    none true None left r = refl
    none true (Some s) left r = refl
    none false due left r = refl

-- ---- it is held in the list

-- what counts on a link, by the fates
counted_is : CountsAre → (life : ℕ) (ds : List DeliveryEvent) (k : ℕ) (l : ReceivingLink) → link_of (on.after_events life ds).links k ≡ Some l
    → l.state.counted ≡ counted_on k ds + one_if (is_some l.partial)
counted_is counts life ds k l e =
    subst (λ (i : ℕ). l.state.counted ≡ counted_on i ds + one_if (is_some l.partial)) (number_is (on.after_events life ds).links k l e)
    (all_find _ _ (on.after_events life ds).links l (counts life ds) e).0

pub held_on : CountsAre → (life : ℕ) (ds : List DeliveryEvent) (k m : ℕ) (l : ReceivingLink) → link_of (on.after_events life ds).links k ≡ Some l → IsTaken ds m
    → is_on k (fate_of m ds).link ≡ true → waits (fate_of m ds) ≡ true → holds k (open_after life ds) ≡ true
held_on counts life ds k m l e t i w = by (holds k z.list) refl
  where
    z : DeliveryState
    z = on.after_events life ds

    here : l.link ≡ k
    here = number_is z.links k l e

    told : DeliveryState
    told = on.after_event on.LinesTold z

    gone : DeliveryState
    gone = on.after_event (on.Cancelled k) z

    one : ℕ
    one = one_if (is_some l.partial)

    -- by the list and by the fates: with it, and without it
    before : count_by (counts_on l.link) told.list + one ≡ counted_on k (on.LinesTold ∷ ds) + one
    before = counted_is counts life (on.LinesTold ∷ ds) k (recount told.list l) (linked on.LinesTold z k ∙ ap (option_map (recount told.list)) e)

    after : count_by (counts_on l.link) gone.list + one ≡ counted_on k (on.Cancelled k ∷ ds) + one
    after =
        counted_is counts life (on.Cancelled k ∷ ds) k (recount gone.list (link_cancelled k l))
        (linked (on.Cancelled k) z k ∙ ap (λ (o : Option ReceivingLink). option_map (recount gone.list) (option_map (link_cancelled k) o)) e)

    less : counted_on k (on.Cancelled k ∷ ds) + 1 ≤ counted_on k (on.LinesTold ∷ ds)
    less =
        fewer m (λ j. is_counted_on k (fate_of j (on.LinesTold ∷ ds))) (λ j. is_counted_on k (fate_of j (on.Cancelled k ∷ ds))) (numbers_of ds)
        (λ j c. counted_before k j ds c) t.0 t.1 (waiting_counts k (fate_of m ds) i w) (cancelled_no_more k m ds i w)

    all_told : count_by (counts_on k) told.list ≡ count_by (counts_on k) z.list
    all_told = same_count k (λ d. trimmed (reported d)) z.list (all_same k (λ d. trimmed (reported d)) (λ d. refl) z.list)

    by : (b : Bool) → holds k z.list ≡ b → b ≡ true
    by true f = refl
    by false f =
        let all_gone : count_by (counts_on k) gone.list ≡ count_by (counts_on k) z.list = same_count k (λ d. trimmed (cancelled k d)) z.list (uncancelled k z.list (any_none (is_held_on k) z.list f)) in
        let a : count_by (counts_on k) told.list + one ≡ counted_on k (on.LinesTold ∷ ds) + one = subst (λ (j : ℕ). count_by (counts_on j) told.list + one ≡ counted_on k (on.LinesTold ∷ ds) + one) here before in
        let b : count_by (counts_on k) gone.list + one ≡ counted_on k (on.Cancelled k ∷ ds) + one = subst (λ (j : ℕ). count_by (counts_on j) gone.list + one ≡ counted_on k (on.Cancelled k ∷ ds) + one) here after in
        absurd (omega (arith, less, all_told, all_gone, a, b))

-- ---- a link that is detached

abbrev is_drop : DeliveryEvent → Bool
is_drop (on.LinkDropped link) = true
is_drop y = false

plain : (y : DeliveryEvent) → is_plain y ≡ true → is_drop y ≡ false
plain (on.LinkDropped link) e = absurd cc
plain y e = refl

undropped : (ys ds : List DeliveryEvent) → AllByRecursion (λ (y : DeliveryEvent). is_drop y ≡ false) ys → AreDrops ds → AreDrops (ys ++ ds)
undropped [] ds a d = d
undropped (y ∷ ys) ds a d = (by y a.0, undropped ys ds a.1 d)
  where
    by : (y : DeliveryEvent) → is_drop y ≡ false → IsDrop (ys ++ ds) y
    by (on.LinkDropped link) e = absurd cc
    by y e = tt

pub on_is : (k : ℕ) (o : Option ℕ) → is_on k o ≡ true → o ≡ Some k
on_is k None e = absurd cc
on_is k (Some j) e = ap Some (equal j k e)

serves : (kind : RecvKind) (taker : Taker) → is_getter taker ≡ true → suits kind taker ≡ true → kind ≡ Get
serves Get taker e f = refl
serves Probe taker e f = absurd cc
serves (Consumer tag no_ack) Nobody e f = absurd cc
serves (Consumer tag no_ack) (Getter number free) e f = absurd cc
serves (Consumer tag no_ack) (Consumes free limit) e f = absurd cc

-- the link on which one waits for a get
pub record IsServed (life : ℕ) (ds : List DeliveryEvent) (k : ℕ) : Type 0 where
  pub link : ReceivingLink
  pub is : link_of (on.after_events life ds).links k ≡ Some link
  pub kind : link.kind ≡ Get

pub served : (life : ℕ) (ds : List DeliveryEvent) (k m : ℕ) → AreStanding life ds → IsTaken ds m → waits (fate_of m ds) ≡ true → is_getter (fate_of m ds).taker ≡ true
    → is_on k (fate_of m ds).link ≡ true → IsServed life ds k
served life ds k m stands t w g i = by (link_of (on.after_events life ds).links k) refl ((stands m t w).on k (on_is k (fate_of m ds).link i))
  where
    by : (o : Option ReceivingLink) → link_of (on.after_events life ds).links k ≡ o → in_link (on_such (fate_of m ds).taker) o ≡ true → IsServed life ds k
    by None e f = absurd cc
    by (Some l) e f = record { link = l; is = e; kind = serves l.kind (fate_of m ds).taker g (and_right l.attached _ f) }

-- a link that is held on isn't to part, nor is it idle
parted : (part held up over r : Bool) → held ≡ true → over ≡ false → r ≡ true → ((part && not (r && held)) || ((r && up) && over)) ≡ true → ⊥
parted part false up over r a b c f = absurd cc
parted part true up true r a b c f = absurd cc
parted part true up false false a b c f = absurd cc
parted true true true false true a b c f = absurd cc
parted true true false false true a b c f = absurd cc
parted false true true false true a b c f = absurd cc
parted false true false false true a b c f = absurd cc

rested : (up rest held empty r b : Bool) → held ≡ true → r ≡ true → (up && (if r then (rest && not (held || empty)) else b)) ≡ true → ⊥
rested up rest false empty r b a c f = absurd cc
rested up rest true empty false b a c f = absurd cc
rested true true true empty true b a c f = absurd cc
rested true false true empty true b a c f = absurd cc
rested false rest true empty true b a c f = absurd cc

module _ (deliveries : DeliveriesAre) (closed : ClosedAre) (calls : CallsAre) (counts : CountsAre) (life : ℕ) where
  detached : (es : List PathEvent) (l : PathLink) → AreHeard life es → is_closed (deliveries_of life es) ≡ false → AreDrops (deliveries_of life es)
      → detaching_of (after_events life es) ≡ Some l → l.receives ≡ true → IsDrop (deliveries_of life es) (on.LinkDropped l.link)
  detached es l heard open_yet old e r m t w g = by (is_on l.link (fate_of m ds).link) refl
    where
      s : PathState
      s = after_events life es

      ds : List DeliveryEvent
      ds = deliveries_of life es

      is_calls : AreCalls life ds
      is_calls = calls life es heard

      kept : (k : ReceivingLink) → link_of (on.after_events life ds).links l.link ≡ Some k → is_for_gets k.kind ≡ true → k.cancelled ≡ false
      kept k f h =
          (subst (λ (o : Option ReceivingLink). IfSome o (IsReady ds l.link)) f
          (ready life ds is_calls (get_calls deliveries life es is_calls) (closed life ds ∙ open_yet) l.link) h).kept

      never : (x : IsServed life ds l.link) → holds l.link s.deliveries.list ≡ true → Goes s l → ⊥
      never x h (inl p) =
          let none : x.link.cancelled ≡ false = kept x.link x.is (ap is_for_gets x.kind) in
          let probe : is_probe x.link.kind ≡ false = ap is_probe x.kind in
          let over : is_over l.link s.deliveries ≡ false =
          ap (λ (d : DeliveryState). is_over l.link d) (deliveries life es)
          ∙ ap (λ (o : Option ReceivingLink). in_link (λ k. k.cancelled || is_probe k.kind) o && is_all_covered l.link (on.after_events life ds).list) x.is
          ∙ ap (λ (b : Bool). (b || is_probe x.link.kind) && is_all_covered l.link (on.after_events life ds).list) none
          ∙ ap (λ (b : Bool). b && is_all_covered l.link (on.after_events life ds).list) probe in
          parted (is_to_part l) (holds l.link s.deliveries.list) (is_stage_open l.stage) (is_over l.link s.deliveries) l.receives h over r p
      never x h (inr p) =
          rested (is_stage_open l.stage) (is_at_rest l.link s.deliveries) (holds l.link s.deliveries.list) (not s.deliveries.closed && list_any (is_empty_of l.link) s.oks) l.receives
          (count_by (is_publish_pending (Some l.link)) s.publishes.list == 0) h r p

      by : (b : Bool) → is_on l.link (fate_of m ds).link ≡ b → b ≡ false
      by false i = refl
      by true i =
          let x = served life ds l.link m (standing life ds is_calls old) t w g i in
          absurd (never x (ap (λ (d : DeliveryState). holds l.link d.list) (deliveries life es) ∙ held_on counts life ds l.link m x.link x.is t i w) (detaching_goes s l e))

  pub are_drops : (es : List PathEvent) → AreHeard life es → is_closed (deliveries_of life es) ≡ false → AreDrops (deliveries_of life es)
  are_drops [] heard open_yet = tt
  are_drops (x ∷ es) heard open_yet = by x (are_drops es heard.1 before)
    where
      s : PathState
      s = after_events life es

      ds : List DeliveryEvent
      ds = deliveries_of life es

      before : is_closed ds ≡ false
      before = events_open life (x ∷ []) es open_yet

      by : (x : PathEvent) → AreDrops ds → AreDrops (delivery_events s x ++ ds)
      by event.DetachSent old = pick (detaching_of s) refl
        where
          pick : (o : Option PathLink) → detaching_of s ≡ o → AreDrops (drops o ++ ds)
          pick None e = old
          pick (Some l) e = at l.receives refl
            where
              at : (b : Bool) → l.receives ≡ b → AreDrops ((if b then on.LinkDropped l.link ∷ [] else []) ++ ds)
              at true r = (detached es l heard.1 before old e r, old)
              at false r = old
      by (event.Consumed queue tag no_ack no_wait) old = (tt, old)
      by (event.Declared queue no_wait) old = (tt, old)
      by (event.GetAsked queue no_ack) old = undropped (delivery_events s (event.GetAsked queue no_ack)) ds (each_all (λ (d : DeliveryEvent). is_drop d ≡ false) plain s (event.GetAsked queue no_ack) refl) old
      by (event.CancelCame tag no_wait) old = undropped (delivery_events s (event.CancelCame tag no_wait)) ds (each_all (λ (d : DeliveryEvent). is_drop d ≡ false) plain s (event.CancelCame tag no_wait) (λ link. refl)) old
      by (event.AttachCame a) old = undropped (delivery_events s (event.AttachCame a)) ds (each_all (λ (d : DeliveryEvent). is_drop d ≡ false) plain s (event.AttachCame a) (λ link count. refl)) old
      by (event.TransferCame peer part payload image again) old = undropped (delivery_events s (event.TransferCame peer part payload image again)) ds (each_all (λ (d : DeliveryEvent). is_drop d ≡ false) plain s (event.TransferCame peer part payload image again) (λ link d. refl)) old
      by (event.DeliverSent d) old = (tt, old)
      by (event.ContentWhole tag) old = (tt, old)
      by event.LifeClosed old = (tt, old)
      by event.SessionLost old = (tt, old)
      by event.SessionEnded old = (tt, old)
      by event.UpLost old = (tt, (tt, old))
      by y old = undropped (delivery_events s y) ds (each_all (λ (d : DeliveryEvent). is_drop d ≡ false) plain s y tt) old
