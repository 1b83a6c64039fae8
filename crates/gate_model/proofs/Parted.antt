-- A receiving link that the container detached or that failed: each of its deliveries had its disposition, and no event takes that back.
use Rattle.std.proofs.Common.{◌≡◌, ℕ, ◌+◌, ◌==◌, ◌<◌, ◌≤◌, not, ◌&&◌, ◌||◌, Bool, true, false, if◌then◌else◌}
use Rattle.std.proofs.Common.{List, [], ◌∷◌, ◌++◌, Option, None, Some, refl, sym, ap, ◌∙◌, subst, arith, cond, is_some}
use Rattle.std.proofs.lemmas.Bool.Decides.{nat_tests}
use Rattle.std.specs.List.{AllByRecursion, list_any}
use Rattle.std.specs.Prelude.{find}
use Rattle.open_items.proofs.Filtered.{all_both, all_filter, all_find, all_map, all_weaker}
use Rattle.consume_path.specs.Deliveries as on
use Rattle.consume_path.specs.Deliveries.{DeliveryEvent, DeliveryState}
use Rattle.consume_path.specs.Items.{is_on, without_link}
use Rattle.consume_path.specs.Journal.{IsTaken, arrives as comes, fate_of, is_closed, is_uncovered, new_fate, numbers_of}
use Rattle.consume_path.specs.Laws.{lacks_settle}
use Rattle.consume_path.specs.Links.{link_of}
use Rattle.consume_path.specs.Offers.{arriving_in, next_settle_of}
use Rattle.consume_path.specs.declared.delivery.Content.{Content}
use Rattle.consume_path.specs.declared.receiving.Part.{Part}
use Rattle.consume_path.specs.declared.receiving.ReceivingLink.{ReceivingLink}
use Rattle.consume_path.specs.declared.receiving.TransferFault.{TransferFault}
use Rattle.publish_path.specs.Links.{link_to}
use Rattle.publish_path.specs.declared.publish.Publish.{Publish}
use Rattle.session_path.specs.Events as event
use Rattle.session_path.specs.Events.{PathEvent, after_event, after_events, arrivals, deliveries_of, delivery_events, empties, transfers}
use Rattle.session_path.specs.Links.{LinksState, Rises, answered, asked_as, asked_by, asked_on, at_handle, attach_fault}
use Rattle.session_path.specs.Links.{attached, attached_as, detached_on, failed_by, failed_on, link_failed}
use Rattle.session_path.specs.Links.{flowed_on, free_number, given_by, given_on, gone_on, is_asked_as, is_at, is_given, is_left}
use Rattle.session_path.specs.Links.{is_stage_failed, is_stage_left, is_stage_whole, is_to_part, is_wanted, left_by, link_asked, link_detached}
use Rattle.session_path.specs.Links.{link_flowed, linked_to, named, parted, put, put_for, told_by, told_on, told_once, wanted_link, with_link_to}
use Rattle.session_path.specs.Links.{with_receiver}
use Rattle.session_path.specs.Path.{PathState, detaching_of, flow_of, get_link, is_grant_next, is_last, owes_flow, queue_or, receiver_in, taking}
use Rattle.session_path.specs.Path.{taking_in, transferred}
use Rattle.session_path.specs.declared.path.AttachHeard.{AttachHeard}
use Rattle.session_path.specs.declared.path.PathLink.{PathLink}
use Rattle.session_path.specs.declared.path.Stage.{Stage}
use Rattle.session_path.specs.declared.path.Stage.TheVariants.{Wanted}
use Rattle.session_path.proofs.SameLinks.{attach_same, disposed_same, dropped_same, flow_sent_same, flowed_if, flowed_same, got_links, got_same}
use Rattle.session_path.proofs.SameLinks.{transfer_same}
use Rattle.session_path.proofs.Takes.{unless_lost}
use Rattle.session_path.proofs.Ties.{dropped, unique}
use Rattle.session_path.proofs.Wanted.{all_insert}
use Rattle.gate_model.proofs.Basics.{and_left, and_right, left_false, right_false}
use Rattle.gate_model.proofs.Arrived.{event_none}
use Rattle.gate_model.proofs.Moves.{arrives}
use Rattle.gate_model.proofs.Receivers.{LinksAre}

-- ---- deliveries of a link

-- each one had its disposition
abbrev pub Covers : ℕ → List DeliveryEvent → Type 0
Covers link ds = (k : ℕ) → IsTaken ds k → lacks_settle link (fate_of k ds) ≡ false

-- one of the link comes
abbrev pub is_of : ℕ → DeliveryEvent → Bool
is_of link (on.Arrived a content again) = a.link == link
is_of link y = false

abbrev pub AreOff : ℕ → List DeliveryEvent → Type 0
AreOff link ys = list_any (is_of link) ys ≡ false

no_more : (a b c : Bool) → (b ≡ true → c ≡ true) → (a && c) ≡ false → (a && b) ≡ false
no_more true true c f e = sym (f refl) ∙ e
no_more true false c f e = refl
no_more false b c f e = refl

covers_one : (link : ℕ) (y : DeliveryEvent) (ds : List DeliveryEvent) → is_of link y ≡ false → Covers link ds → Covers link (y ∷ ds)
covers_one link (on.Arrived a content again) ds off c k t = by (k == numbers_of ds + 1) refl
  where
    by : (b : Bool) → (k == numbers_of ds + 1) ≡ b → lacks_settle link (if b then new_fate (is_closed ds) a content again else fate_of k ds) ≡ false
    by true e = ap (λ (x : Bool). x && is_uncovered (new_fate (is_closed ds) a content again)) off
    by false e =
        let most : k ≤ numbers_of ds + 1 = t.1 in
        let less : k < numbers_of ds + 1 = grind (arith, nat_tests, e, most) in
        c k (t.0, omega (arith, less))
covers_one link (on.LinkDropped own) ds off c k t = by (fate_of k ds).link (c k t)
  where
    u : Bool
    u = is_uncovered (fate_of k ds)

    at : (b : Bool) (own : Option ℕ) → (is_on link own && u) ≡ false → (is_on link (if b then None else own) && u) ≡ false
    at true own e = refl
    at false own e = e

    by : (o : Option ℕ) → (is_on link o && u) ≡ false → (is_on link (without_link own o) && u) ≡ false
    by o e = at (is_on own o) o e
covers_one link on.EndLost ds off c k t =
    no_more _ _ _ (by (fate_of k ds).settled (fate_of k ds).sent (fate_of k ds).left (is_uncovered (fate_of k ds))) (c k t)
  where
    by : (x y z u : Bool) → (not x && not y && not (z || u)) ≡ true → (not x && not y && not z) ≡ true
    by true y z u e = absurd cc
    by false true z u e = absurd cc
    by false false true u e = absurd cc
    by false false false u e = refl
covers_one link (on.SettleSent s) ds off c k t = no_more _ _ _ (by (fate_of k ds).settled (fate_of k ds).sent (fate_of k ds).left _) (c k t)
  where
    by : (x y z u : Bool) → (not x && not (y || u) && not z) ≡ true → (not x && not y && not z) ≡ true
    by true y z u e = absurd cc
    by false true z u e = absurd cc
    by false false true true e = absurd cc
    by false false true false e = absurd cc
    by false false false u e = refl
covers_one link y ds off c k t = c k t

pub covers_more : (link : ℕ) (ys ds : List DeliveryEvent) → AreOff link ys → Covers link ds → Covers link (ys ++ ds)
covers_more link [] ds off c = c
covers_more link (y ∷ ys) ds off c = covers_one link y (ys ++ ds) (left_false _ _ off) (covers_more link ys ds (right_false _ _ off) c)

-- none comes at all
none_off : (link : ℕ) (ys : List DeliveryEvent) → list_any comes ys ≡ false → AreOff link ys
none_off link [] e = refl
none_off link (y ∷ ys) e = both _ _ _ (one y) e (none_off link ys)
  where
    one : (y : DeliveryEvent) → comes y ≡ false → is_of link y ≡ false
    one (on.Arrived a content again) e = absurd cc
    one y e = refl

    both : (a b c : Bool) → (a ≡ false → c ≡ false) → (a || b) ≡ false → (b ≡ false → AreOff link ys) → (c || list_any (is_of link) ys) ≡ false
    both true b c f e more = absurd cc
    both false b c f e more = ap (λ (x : Bool). x || list_any (is_of link) ys) (f refl) ∙ more e

both_off : (link : ℕ) (xs ys : List DeliveryEvent) → AreOff link xs → AreOff link ys → AreOff link (xs ++ ys)
both_off link [] ys e f = f
both_off link (x ∷ xs) ys e f = by (is_of link x) e (both_off link xs ys)
  where
    by : (b : Bool) → (b || list_any (is_of link) xs) ≡ false → (AreOff link xs → AreOff link ys → AreOff link (xs ++ ys))
        → (b || list_any (is_of link) (xs ++ ys)) ≡ false
    by true g more = absurd cc
    by false g more = more g f

if_off : (link : ℕ) (b : Bool) (y : DeliveryEvent) → is_of link y ≡ false → AreOff link (if b then y ∷ [] else [])
if_off link true y e = ap (λ (x : Bool). x || false) e
if_off link false y e = refl

-- of a transfer one of its link alone
transfer_off : (link : ℕ) (l : PathLink) (part : Part) (payload : List ℕ) (image : Option Content) (again : Bool) (d : DeliveryState) → (l.link == link) ≡ false
    → AreOff link (transfers (Some l) part payload image again d)
transfer_off link l part payload image again d e =
    both_off link (empties l.link (transferred l.link part payload image again d)) _ (if_off link _ (on.Emptied l.link) refl)
    (both_off link (arrivals (is_last part) l.link image again c) _
    (if_off link (is_last part) _ (ap (λ (k : ℕ). k == link) (its (link_of c.links l.link)) ∙ e)) refl)
  where
    c : DeliveryState
    c = on.after_event (on.TransferCame l.link part payload) d

    its : (o : Option ReceivingLink) → (arriving_in l.link o).link ≡ l.link
    its None = refl
    its (Some r) = refl

-- ---- links

-- what is known of each receiving link that is to part
abbrev pub AllParted : (ℕ → Type 0) → List PathLink → Type 0
AllParted C ls = AllByRecursion (λ l. (l.receives && is_to_part l) ≡ true → C l.link) ls

-- of such a link what an event needs: none fails
abbrev pub Fits : (ℕ → Type 0) → PathState → PathEvent → Type 0
Fits C s (event.DetachCame peer not_found) = (l : PathLink) → named peer s.links ≡ Some l → l.receives ≡ true → is_given l ≡ false → C l.link
Fits C s (event.LinkFailed peer fault) = ⊥
Fits C s x = Unit {0}

-- what is known of each link, whatever was told of it; of one that isn't to part it always is
pub record IsKept (T : PathLink → Type 0) : Type 0 where
  pub free : (l : PathLink) → is_to_part l ≡ false → T l
  pub told : (drain echo : Bool) (l : PathLink) → T l → T (told_by drain echo l)
  pub once : (l : PathLink) → T l → T (told_once l)

-- and what an event needs that makes one part
abbrev pub Suits : (PathLink → Type 0) → PathState → PathEvent → Type 0
Suits T s (event.DetachCame peer not_found) = (l : PathLink) → named peer s.links ≡ Some l → is_given l ≡ false → T (left_by s.links.sending l)
Suits T s (event.LinkFailed peer fault) = (l : PathLink) → named peer s.links ≡ Some l → T (failed_by fault l)
Suits T s x = Unit {0}

module _ (Fine : PathLink → Type 0) (kept : IsKept Fine) where
  abbrev AreFine : LinksState → Type 0
  AreFine s = AllByRecursion Fine s.links

  put_fine : (x : PathLink) (ls : List PathLink) → Fine x → AllByRecursion Fine ls → AllByRecursion Fine (put x ls)
  put_fine x ls new old = all_map (put_for x) Fine Fine (λ k h. one k (k.link == x.link) h) ls old
    where
      one : (k : PathLink) (b : Bool) → Fine k → Fine (cond b x k)
      one k true h = new
      one k false h = h

  found : (p : PathLink → Bool) (ls : List PathLink) (l : PathLink) → AllByRecursion Fine ls → find p ls ≡ Some l → Fine l
  found p ls l a e = (all_find Fine p ls l a e).0

  at_fine : (o : Option ℕ) (s : LinksState) (l : PathLink) → AreFine s → at_handle o s.links ≡ Some l → Fine l
  at_fine None s l a e = absurd cc
  at_fine (Some h) s l a e = found (is_at h) s.links l a e

  linked : (address : List ℕ) (s : LinksState) → AreFine s → AreFine (linked_to address s)
  linked address s a = by (is_some (link_to s.sending address))
    where
      by : (b : Bool) → AreFine (cond b s (with_link_to address s))
      by true = a
      by false = all_insert Fine s.links (free_number s.links) (wanted_link (free_number s.links) false) a (kept.free (wanted_link (free_number s.links) false) refl)

  received : (s : LinksState) → AreFine s → AreFine (with_receiver s)
  received s a = all_insert Fine s.links (free_number s.links) (wanted_link (free_number s.links) true) a (kept.free (wanted_link (free_number s.links) true) refl)

  attaches : (a : AttachHeard) (s : LinksState) → AreFine s → AreFine (attached a s)
  attaches a s u = by (is_some (attach_fault a.name a.role a.peer s)) (find (is_asked_as a.name a.role) s.links)
    where
      there : (b : Bool) (l : PathLink) → is_to_part (answered b l) ≡ false
      there true l = refl
      there false l = refl

      by : (b : Bool) (o : Option PathLink) → AreFine (attached_as (cond b None o) a.peer a.there s)
      by true o = u
      by false None = u
      by false (Some l) = put_fine (answered a.there l) s.links (kept.free (answered a.there l) (there a.there l)) u

  flowed : (peer : ℕ) (count : Option ℕ) (credit : ℕ) (drain echo : Bool) (s : LinksState) → AreFine s → AreFine (link_flowed peer count credit drain echo s)
  flowed peer count credit drain echo s a = by (named peer s) refl
    where
      by : (o : Option PathLink) → named peer s ≡ o → AreFine (flowed_on o count credit drain echo s)
      by None e = a
      by (Some l) e = put_fine (told_by drain echo l) s.links (kept.told drain echo l (at_fine _ s l a e)) a

  detaches : (peer : ℕ) (s : LinksState) → ((l : PathLink) → named peer s ≡ Some l → is_given l ≡ false → Fine (left_by s.sending l)) → AreFine s
      → AreFine (link_detached peer s)
  detaches peer s fits a = by (named peer s) refl
    where
      by : (o : Option PathLink) → named peer s ≡ o → AreFine (detached_on o s)
      by None e = a
      by (Some l) e = either (is_given l) refl
        where
          either : (b : Bool) → is_given l ≡ b → AllByRecursion Fine (cond b (dropped l.link s.links) (put (left_by s.sending l) s.links))
          either true f = all_filter _ Fine s.links a
          either false f = put_fine (left_by s.sending l) s.links (fits l e f) a

  fails : (peer : ℕ) (fault : TransferFault) (s : LinksState) → ((l : PathLink) → named peer s ≡ Some l → Fine (failed_by fault l)) → AreFine s
      → AreFine (link_failed peer fault s)
  fails peer fault s fits a = by (named peer s) refl
    where
      by : (o : Option PathLink) → named peer s ≡ o → AreFine (failed_on o fault s)
      by None e = a
      by (Some l) e = either (is_stage_whole l.stage && l.receives)
        where
          either : (b : Bool) → AreFine (if b then record s { links = put (failed_by fault l) s.links } else s)
          either true = put_fine (failed_by fault l) s.links (fits l e) a
          either false = a

  asks : (name : ℕ) (s : LinksState) → AreFine s → AreFine (link_asked name s)
  asks name s a = by (find is_wanted s.links) _
    where
      by : (o : Option PathLink) (f : Option ℕ) → AreFine (asked_on o f name s)
      by None f = a
      by (Some l) None = a
      by (Some l) (Some h) = put_fine (asked_as h name l) s.links (kept.free (asked_as h name l) refl) a

  told : (list : List Publish) (s : LinksState) → AreFine s → AreFine (told_on (flow_of list s) s)
  told list s a = by (flow_of list s) refl
    where
      by : (o : Option PathLink) → find (owes_flow list s.sending) s.links ≡ o → AreFine (told_on o s)
      by None e = a
      by (Some l) e = put_fine (told_once l) s.links (kept.once l (found (owes_flow list s.sending) s.links l a e)) a

  parts : (s : LinksState) (o : Option PathLink) → AreFine s → AreFine (parted o s)
  parts s None a = a
  parts s (Some l) a = by (is_left l)
    where
      by : (b : Bool) → AreFine (cond b (gone_on (Some l) s) (given_on (Some l) s))
      by true = all_filter _ Fine s.links a
      by false = put_fine (given_by l) s.links (kept.free (given_by l) refl) a

  gets : (o : Option PathLink) (s : LinksState) → AreFine s → AreFine (got_links o s)
  gets None s a = received s a
  gets (Some l) s a = a

  flow_came : (peer : ℕ) (count : Option ℕ) (credit : ℕ) (drain echo : Bool) (s : PathState) → AreFine s.links
      → AreFine (after_event (event.FlowCame peer count credit drain echo) s).links
  flow_came peer count credit drain echo s a =
      subst AreFine (sym (flowed_same (receiver_in (named peer s.links)) peer count credit drain echo s)) (by (receiver_in (named peer s.links)))
    where
      by : (o : Option PathLink) → AreFine (flowed_if o peer count credit drain echo s.links)
      by None = flowed peer count credit drain echo s.links a
      by (Some l) = a

  flow_went : (s : PathState) → AreFine s.links → AreFine (after_event event.LinkFlowSent s).links
  flow_went s a = subst AreFine (sym (flow_sent_same s)) (by (is_grant_next s))
    where
      by : (b : Bool) → AreFine (cond b s.links (told_on (flow_of s.publishes.list s.links) s.links))
      by true = a
      by false = told s.publishes.list s.links a

  pub step : (x : PathEvent) (s : PathState) → Suits Fine s x → AreFine s.links → AreFine (after_event x s).links
  step (event.Published address payload back) s f a = linked address s.links a
  step (event.Consumed address tag no_ack no_wait) s f a = received s.links a
  step (event.Declared queue no_wait) s f a = received s.links a
  step (event.GetAsked queue no_ack) s f a =
      subst AreFine (sym (got_same (get_link (queue_or s.queue queue) s) (queue_or s.queue queue) no_ack s))
      (gets (get_link (queue_or s.queue queue) s) s.links a)
  step (event.AttachCame attach) s f a =
      subst AreFine (sym (attach_same (asked_by attach s.links) attach (record s { links = attached attach s.links }))) (attaches attach s.links a)
  step (event.FlowCame peer count credit drain echo) s f a = flow_came peer count credit drain echo s a
  step (event.DetachCame peer not_found) s f a = detaches peer s.links f a
  step (event.TransferCame peer part payload image again) s f a = subst AreFine (sym (transfer_same (taking peer s) part payload image again s)) a
  step (event.LinkFailed peer fault) s f a = fails peer fault s.links f a
  step (event.AttachSent name) s f a = asks name s.links a
  step event.LinkFlowSent s f a = flow_went s a
  step event.DisposeSent s f a = subst AreFine (sym (disposed_same (next_settle_of s.deliveries.list) s)) a
  step event.DetachSent s f a =
      subst AreFine (sym (dropped_same (detaching_of s) (record s { links = parted (detaching_of s) s.links }))) (parts s.links (detaching_of s) a)
  step event.LifeClosed s f a = all_filter _ Fine s.links.links a
  step event.SessionLost s f a = all_filter _ Fine _ (all_filter _ Fine s.links.links a)
  step event.SessionEnded s f a = tt
  step event.UpLost s f a = tt
  step x s f a = a

-- ---- events of a life

-- the deliveries of the links that are to part are covered
abbrev pub AreParted : List DeliveryEvent → PathState → Type 0
AreParted ds s = AllParted (λ link. Covers link ds) s.links.links

-- no transfer counts on one of these
others_take : (peer : ℕ) (s : LinksState) (l : PathLink) → Rises 0 s.links → taking_in (named peer s) ≡ Some l
    → AllByRecursion (λ k. (k.receives && is_to_part k) ≡ true → (l.link == k.link) ≡ false) s.links
others_take peer s l r e = by _ e
  where
    never : (q : Stage) → is_stage_whole q ≡ true → (is_stage_left q || is_stage_failed q) ≡ true → ⊥
    never Wanted e f = absurd cc
    never x e f = absurd cc

    apart : (k : PathLink) → is_stage_whole l.stage ≡ true → ((k.link == l.link) ≡ true → k ≡ l) → (k.receives && is_to_part k) ≡ true
        → (l.link == k.link) ≡ false
    apart k whole same part = at (l.link == k.link) refl
      where
        at : (b : Bool) → (l.link == k.link) ≡ b → b ≡ false
        at true e =
            let here : (k.link == l.link) ≡ true = grind (arith, nat_tests, e) in
            absurd (never l.stage whole (subst (λ (z : PathLink). is_to_part z ≡ true) (same here) (and_right k.receives (is_to_part k) part)))
        at false e = refl

    one : (h : ℕ) (o : Option PathLink) → find (is_at h) s.links ≡ o → taking_in o ≡ Some l
        → AllByRecursion (λ k. (k.receives && is_to_part k) ≡ true → (l.link == k.link) ≡ false) s.links
    one h None f e = absurd cc
    one h (Some k) f e = pick (k.receives && is_stage_whole k.stage) refl e
      where
        pick : (b : Bool) → (k.receives && is_stage_whole k.stage) ≡ b → (if b then Some k else None) ≡ Some l
            → AllByRecursion (λ z. (z.receives && is_to_part z) ≡ true → (l.link == z.link) ≡ false) s.links
        pick true g e =
            let same : k ≡ l = cc in
            let whole : is_stage_whole l.stage ≡ true = subst (λ (z : PathLink). is_stage_whole z.stage ≡ true) same (and_right k.receives _ g) in
            all_weaker _ _ (λ z u. apart z whole u) s.links (unique (is_at h) s.links l r (f ∙ ap Some same))
        pick false g e = absurd cc

    by : (o : Option ℕ) → taking_in (at_handle o s.links) ≡ Some l
        → AllByRecursion (λ k. (k.receives && is_to_part k) ≡ true → (l.link == k.link) ≡ false) s.links
    by None e = absurd cc
    by (Some h) e = one h (find (is_at h) s.links) refl e

-- the events of one are added to those of the deliveries
grown : (x : PathEvent) (s : PathState) (ds : List DeliveryEvent) → Rises 0 s.links.links → AreParted ds s → AreParted (delivery_events s x ++ ds) s
grown x s ds r a = by x (arrives x) refl
  where
    quiet : (x : PathEvent) → list_any comes (delivery_events s x) ≡ false → AreParted (delivery_events s x ++ ds) s
    quiet x e = all_weaker _ _ (λ l c part. covers_more l.link (delivery_events s x) ds (none_off l.link (delivery_events s x) e) (c part)) s.links.links a

    arrived : (peer : ℕ) (part : Part) (payload : List ℕ) (image : Option Content) (again : Bool) (o : Option PathLink) → taking peer s ≡ o
        → AreParted (transfers o part payload image again s.deliveries ++ ds) s
    arrived peer part payload image again None e = a
    arrived peer part payload image again (Some l) e =
        all_weaker _ _
        (λ k both is. covers_more k.link (transfers (Some l) part payload image again s.deliveries) ds
        (transfer_off k.link l part payload image again s.deliveries (both.1 is)) (both.0 is)) s.links.links
        (all_both _ _ s.links.links a (others_take peer s.links l r (unless_lost s.lost _ l e)))

    by : (x : PathEvent) (b : Bool) → arrives x ≡ b → AreParted (delivery_events s x ++ ds) s
    by (event.TransferCame peer part payload image again) b e = arrived peer part payload image again (taking peer s) refl
    by x true e = absurd cc
    by x false e = quiet x (event_none s x e)

-- a link that is to part
pub parts_kept : (C : ℕ → Type 0) → IsKept (λ l. (l.receives && is_to_part l) ≡ true → C l.link)
parts_kept C = record {
  free = λ l e f. absurd (let wrong : true ≡ false = sym (and_right l.receives (is_to_part l) f) ∙ e in cc);
  told = λ drain echo l t. t;
  once = λ l t. t;
}

pub suits : (C : ℕ → Type 0) (s : PathState) (x : PathEvent) → Fits C s x → Suits (λ l. (l.receives && is_to_part l) ≡ true → C l.link) s x
suits C s (event.DetachCame peer not_found) f = λ l e g part. f l e (and_left l.receives _ part) g
suits C s (event.LinkFailed peer fault) f = absurd f
suits C s x f = tt

pub parted_after : LinksAre → (life : ℕ) (x : PathEvent) (es : List PathEvent)
    → Fits (λ link. Covers link (delivery_events (after_events life es) x ++ deliveries_of life es)) (after_events life es) x
    → AreParted (deliveries_of life es) (after_events life es) → AreParted (deliveries_of life (x ∷ es)) (after_events life (x ∷ es))
parted_after tied life x es f a =
    step (λ l. (l.receives && is_to_part l) ≡ true → Covers l.link (deliveries_of life (x ∷ es))) (parts_kept (λ link. Covers link (deliveries_of life (x ∷ es)))) x
    (after_events life es) (suits (λ link. Covers link (deliveries_of life (x ∷ es))) (after_events life es) x f)
    (grown x (after_events life es) (deliveries_of life es) (tied life es).rising a)
