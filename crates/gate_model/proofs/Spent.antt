-- Where no detach is due, no link is left that is attached and of which nothing is to come: a link of that kind holds no delivery.
use Rattle.std.proofs.Common.{◌≡◌, ◌∙◌, ◌⊎◌, inl, inr, ℕ, ◌+◌, ◌==◌, ◌≤◌, nat_lt, not, ◌&&◌, ◌||◌, Bool, true, false, if◌then◌else◌, List, [], ◌∷◌, ◌++◌, map, Option, None, Some}
use Rattle.std.proofs.Common.{refl, sym, ap, subst}
use Rattle.std.specs.List.{AllByRecursion, list_any}
use Rattle.std.specs.Prelude.{find, is_some}
use Rattle.open_items.proofs.Filtered.{all_find}
use Rattle.gate_relay.specs.Sides.{is_readable}
use Rattle.gate_relay.specs.declared.sides.Side.{Side}
use Rattle.gate_relay.specs.declared.sides.Side.TheVariants as side
use Rattle.consume_path.specs.Deliveries as on
use Rattle.consume_path.specs.Deliveries.{DeliveryEvent, DeliveryState, open_after}
use Rattle.consume_path.specs.Items as items
use Rattle.consume_path.specs.Items.{first_place, is_held, is_nobody, is_on, is_open, new_delivery, owed_place, trimmed}
use Rattle.consume_path.specs.Journal.{is_closed}
use Rattle.consume_path.specs.Laws.{AreCalls, IsCall, are_covered}
use Rattle.consume_path.specs.Links.{in_link, link_cancelled, link_closed, link_of, taker_by, transfer_came, without}
use Rattle.consume_path.specs.Offers.{arriving_in, holds, is_all_covered, is_held_on, is_over, is_probe}
use Rattle.consume_path.specs.declared.delivery.Arriving.{Arriving}
use Rattle.consume_path.specs.declared.delivery.Delivery.{Delivery}
use Rattle.consume_path.specs.declared.delivery.NextSettle.{NextSettle}
use Rattle.consume_path.specs.declared.delivery.Place.{Place}
use Rattle.consume_path.specs.declared.delivery.Place.TheVariants as place
use Rattle.consume_path.specs.declared.delivery.Settle.{Settle}
use Rattle.consume_path.specs.declared.delivery.Settle.TheVariants.{Accepted, Rejected, Released}
use Rattle.consume_path.specs.declared.delivery.Taker.{Taker}
use Rattle.consume_path.specs.declared.receiving.ReceivingLink.{ReceivingLink}
use Rattle.consume_path.specs.declared.receiving.RecvKind.{RecvKind}
use Rattle.consume_path.specs.declared.receiving.RecvKind.TheVariants.{Consumer, Get, Probe}
use Rattle.consume_path.specs.declared.receiving.WaitingGet.{WaitingGet}
use Rattle.machine_091.specs.declared.limits.TheConstants.{CHANNEL_MAX}
use Rattle.session_path.specs.Due.{next_detach}
use Rattle.session_path.specs.Events.{PathEvent, after_events, deliveries_of}
use Rattle.session_path.specs.Laws.{AreHeard}
use Rattle.session_path.specs.Links.{has_number, is_stage_failed, is_stage_left, is_stage_open}
use Rattle.session_path.specs.Path.{PathState, lower_of, parts}
use Rattle.session_path.specs.declared.path.PathLink.{PathLink}
use Rattle.session_path.specs.declared.path.Stage.{Stage}
use Rattle.session_path.specs.declared.path.Stage.TheVariants as stage
use Rattle.session_path.proofs.Numbers.{any_less, takes, takes_one}
use Rattle.session_path.proofs.Tied.{tied_after}
use Rattle.session_path.proofs.Ties.{eq_of, found_number, found_passes}
use Rattle.gate_model.specs.Credits.{kind_in}
use Rattle.gate_model.specs.Folds.{side_in}
use Rattle.gate_model.specs.Picks.{ArePicks}
use Rattle.gate_model.specs.Publishing.{path_events, path_life}
use Rattle.gate_model.specs.Rests.{SuppliesContainers}
use Rattle.gate_model.specs.State.{Step}
use Rattle.gate_model.specs.Supplies.{DetachesDone, ends, ends_in, is_attached, is_cancelled, is_done}
use Rattle.gate_model.proofs.Basics.{and_both, and_left, and_right, not_true}
use Rattle.gate_model.proofs.Connections.{clash}
use Rattle.gate_model.proofs.Credits.{JoinedAre, kept_is}
use Rattle.gate_model.proofs.Filling.{Told, known_takes, told_of}
use Rattle.gate_model.proofs.Granting.{DeliveriesAre}
use Rattle.gate_model.proofs.Heard.{ClosedAre, is_kept, open_heard}
use Rattle.gate_model.proofs.Leaving.{CoveredAre}
use Rattle.gate_model.proofs.LinkRooms.{have_room}
use Rattle.gate_model.proofs.LinkUps.{is_met, is_up, owns, serves, serves_in}
use Rattle.gate_model.proofs.Linking.{counted_anew, link_after, linked, recounts}
use Rattle.gate_model.proofs.Quotas.{Kept, equal, number_is, turned}
use Rattle.gate_model.proofs.Receivers.{LinksAre}
use Rattle.gate_model.proofs.Rests.{LivesBelow}
use Rattle.gate_model.proofs.Settles.{CallsAre}
use Rattle.gate_model.proofs.Sources.{QueuesAre}
use Rattle.gate_model.proofs.Wanting.{none_all, none_any}

-- ---- what is held after an event was held before

any_map : {A : Type 0} (p : A → Bool) (f : A → A) → ((x : A) → p (f x) ≡ true → p x ≡ true) → (xs : List A) → list_any p (map f xs) ≡ true → list_any p xs ≡ true
any_map p f less [] e = e
any_map p f less (x ∷ xs) e = by (p (f x)) refl e (any_map p f less xs)
  where
    left : (a b : Bool) → a ≡ true → (a || b) ≡ true
    left true b g = refl
    left false b g = absurd cc

    right : (a b : Bool) → b ≡ true → (a || b) ≡ true
    right true b g = refl
    right false b g = g

    by : (b : Bool) → p (f x) ≡ b → (b || list_any p (map f xs)) ≡ true → (list_any p (map f xs) ≡ true → list_any p xs ≡ true) → (p x || list_any p xs) ≡ true
    by true i g rest = left (p x) (list_any p xs) (less x i)
    by false i g rest = right (p x) (list_any p xs) (rest g)

any_never : {A : Type 0} (p : A → Bool) (f : A → A) → ((x : A) → p (f x) ≡ false) → (xs : List A) → list_any p (map f xs) ≡ false
any_never p f none [] = refl
any_never p f none (x ∷ xs) = ap (λ (b : Bool). b || list_any p (map f xs)) (none x) ∙ any_never p f none xs

any_both : {A : Type 0} (p : A → Bool) (xs : List A) (x : A) → list_any p (xs ++ x ∷ []) ≡ true → (list_any p xs ≡ true) ⊎ (p x ≡ true)
any_both p [] x e = inr (one (p x) e)
  where
    one : (b : Bool) → (b || false) ≡ true → b ≡ true
    one true f = refl
    one false f = absurd cc
any_both p (y ∷ ys) x e = by (p y) e (any_both p ys x)
  where
    by : (b : Bool) → (b || list_any p (ys ++ x ∷ [])) ≡ true → (list_any p (ys ++ x ∷ []) ≡ true → (list_any p ys ≡ true) ⊎ (p x ≡ true)) → ((b || list_any p ys) ≡ true) ⊎ (p x ≡ true)
    by true f rest = inl refl
    by false f rest = rest f

-- a place that changes isn't held
held_else : (b : Bool) (new old : Place) → is_held new ≡ false → is_held (if b then new else old) ≡ true → is_held old ≡ true
held_else true new old e f = absurd (clash (is_held new) f e)
held_else false new old e f = f

owed_unheld : (b : Bool) (s : Settle) → is_held (owed_place b s) ≡ false
owed_unheld true s = refl
owed_unheld false s = refl

both_true : (a b c : Bool) → (b ≡ true → c ≡ true) → (a && b) ≡ true → (a && c) ≡ true
both_true true b c f e = f e
both_true false b c f e = e

module _ (k : ℕ) where
  -- a change of each delivery that leaves its link and holds none anew
  abbrev Less : (Delivery → Delivery) → Type 0
  Less f = (d : Delivery) → is_held_on k (trimmed (f d)) ≡ true → is_held_on k d ≡ true

  each_held : (f : Delivery → Delivery) → Less f → (s : DeliveryState) → holds k (on.each f s).list ≡ true → holds k s.list ≡ true
  each_held f less s e = any_map (is_held_on k) (λ d. trimmed (f d)) less s.list (any_less (is_held_on k) is_open (map (λ d. trimmed (f d)) s.list) e)

  delivered_less : (number tag : ℕ) → Less (items.delivered number tag)
  delivered_less number tag d = both_true (is_on k d.link) _ (is_held d.place) (held_else (items.delivers number d) place.Out d.place refl)

  written_less : (tag : ℕ) → Less (items.written tag)
  written_less tag d = both_true (is_on k d.link) _ (is_held d.place) (held_else _ (owed_place d.settled Accepted) d.place (owed_unheld d.settled Accepted))

  answered_less : (tag : ℕ) (multiple : Bool) (s : Settle) → Less (items.answered tag multiple s)
  answered_less tag multiple s d = both_true (is_on k d.link) _ (is_held d.place) (held_else _ (owed_place d.settled s) d.place (owed_unheld d.settled s))

  cancelled_less : (link : ℕ) → Less (items.cancelled link)
  cancelled_less link d = both_true (is_on k d.link) _ (is_held d.place) (held_else _ (owed_place d.settled Released) d.place (owed_unheld d.settled Released))

  closed_less : Less items.closed
  closed_less d = both_true (is_on k d.link) _ (is_held d.place) (held_else _ (owed_place d.settled Released) d.place (owed_unheld d.settled Released))

  lost_less : Less items.end_lost
  lost_less d = both_true (is_on k d.link) _ (is_held d.place) (held_else _ place.Settled d.place refl)

  settled_less : (s : NextSettle) → Less (items.settle_sent s)
  settled_less s d = both_true (is_on k d.link) _ (is_held d.place) (held_else _ place.Settled d.place refl)

  dropped_less : (link : ℕ) → Less (items.link_dropped link)
  dropped_less link d e = by (is_on link d.link) e
    where
      by : (b : Bool) → (is_on k (if b then None else d.link) && is_held d.place) ≡ true → (is_on k d.link && is_held d.place) ≡ true
      by true f = absurd cc
      by false f = f

  -- a consumer's that is cancelled, and a link that is no more, hold none
  cancelled_none : (s : DeliveryState) → holds k (on.each (items.cancelled k) s).list ≡ true → ⊥
  cancelled_none s e =
      clash _ (any_less (is_held_on k) is_open (map (λ d. trimmed (items.cancelled k d)) s.list) e) (any_never (is_held_on k) (λ d. trimmed (items.cancelled k d)) none s.list)
    where
      none : (d : Delivery) → is_held_on k (trimmed (items.cancelled k d)) ≡ false
      none d = by (is_on k d.link) d.place
        where
          by : (b : Bool) (p : Place) → (b && is_held (if is_held p && b then owed_place d.settled Released else p)) ≡ false
          by false p = refl
          by true place.Held = owed_unheld d.settled Released
          by true place.Out = refl
          by true (place.Owed s) = refl
          by true place.Settled = refl

  dropped_none : (s : DeliveryState) → holds k (on.each (items.link_dropped k) s).list ≡ true → ⊥
  dropped_none s e =
      clash _ (any_less (is_held_on k) is_open (map (λ d. trimmed (items.link_dropped k d)) s.list) e) (any_never (is_held_on k) (λ d. trimmed (items.link_dropped k d)) none s.list)
    where
      none : (d : Delivery) → is_held_on k (trimmed (items.link_dropped k d)) ≡ false
      none d = by (is_on k d.link) refl
        where
          by : (b : Bool) → is_on k d.link ≡ b → (is_on k (if b then None else d.link) && is_held d.place) ≡ false
          by true i = refl
          by false i = ap (λ (b : Bool). b && is_held d.place) i

-- ---- a link of which nothing is to come holds none

abbrev is_going : ReceivingLink → Bool
is_going l = not (ends l.cancelled l.kind)

abbrev Goes : ℕ → DeliveryState → Type 0
Goes k s = in_link is_going (link_of s.links k) ≡ true

-- the first one goes
somebody : (closed image settled : Bool) (taker : Taker) → is_held (first_place closed image settled taker) ≡ true → is_nobody taker ≡ false
somebody closed false settled taker e = absurd (clash (is_held (owed_place settled Rejected)) e (owed_unheld settled Rejected))
somebody true true settled taker e = absurd (clash (is_held (owed_place settled Released)) e (owed_unheld settled Released))
somebody false true settled taker e = by (is_nobody taker) e
  where
    by : (b : Bool) → is_held (if b then owed_place settled Released else place.Held) ≡ true → b ≡ false
    by true f = absurd (clash (is_held (owed_place settled Released)) f (owed_unheld settled Released))
    by false f = refl

taker_goes : (kind : RecvKind) (cancelled : Bool) (limit : Option ℕ) (get : Option WaitingGet) → is_nobody (taker_by kind cancelled limit get) ≡ false → not (ends cancelled kind) ≡ true
taker_goes (Consumer tag no_ack) true limit get e = absurd cc
taker_goes (Consumer tag no_ack) false limit get e = refl
taker_goes Get cancelled limit get e = refl
taker_goes Probe cancelled limit get e = absurd cc

module _ (life k : ℕ) where
  -- an event that leaves the kind, and whether it was cancelled
  goes_on : (x : DeliveryEvent) (s : DeliveryState) → ((l : ReceivingLink) → link_of s.links k ≡ Some l → in_link is_going (link_after x s k (Some l)) ≡ true) → Goes k s → Goes k (on.after_event x s)
  goes_on x s stays g = ap (in_link is_going) (linked x s k) ∙ anew (recounts x) (link_after x s k (link_of s.links k)) ∙ by (link_of s.links k) refl g
    where
      anew : (b : Bool) (o : Option ReceivingLink) → in_link is_going (counted_anew b (on.after_event x s) o) ≡ in_link is_going o
      anew true None = refl
      anew true (Some l) = refl
      anew false o = refl

      by : (o : Option ReceivingLink) → link_of s.links k ≡ o → in_link is_going o ≡ true → in_link is_going (link_after x s k o) ≡ true
      by None e f = absurd cc
      by (Some l) e f = stays l e

  held_goes : (ds : List DeliveryEvent) → AreCalls life ds → holds k (on.after_events life ds).list ≡ true → Goes k (on.after_events life ds)
  held_goes [] c e = absurd cc
  held_goes (x ∷ ds) c e = by x c.0 (held_goes ds c.1) e
    where
      s : DeliveryState
      s = on.after_events life ds

      Old : Type 0
      Old = holds k s.list ≡ true → Goes k s

      found : Goes k s → (l : ReceivingLink) → link_of s.links k ≡ Some l → is_going l ≡ true
      found g l i = sym (ap (in_link is_going) i) ∙ g

      -- one that changes no link that goes
      same : (x : DeliveryEvent) → ((l : ReceivingLink) → in_link is_going (link_after x s k (Some l)) ≡ is_going l) → Goes k s → Goes k (on.after_event x s)
      same x still g = goes_on x s (λ l i. still l ∙ found g l i) g

      by : (x : DeliveryEvent) → IsCall s x → Old → holds k (on.after_event x s).list ≡ true → Goes k (on.after_event x s)
      by (on.LinkAdded link kind) c old e = same (on.LinkAdded link kind) (λ l. refl) (old e)
      by (on.LinkAttached link count) c old e = same (on.LinkAttached link count) (λ l. refl) (old e)
      by (on.LinkFlowed link count) c old e = same (on.LinkFlowed link count) (λ l. refl) (old e)
      by (on.LinkEchoed link) c old e = same (on.LinkEchoed link) (λ l. refl) (old e)
      by (on.GetCame link no_ack) c old e = same (on.GetCame link no_ack) (λ l. refl) (old e)
      by (on.TransferCame link part payload) c old e = same (on.TransferCame link part payload) (λ l. pick (k == link) l) (old e)
        where
          pick : (b : Bool) (l : ReceivingLink) → in_link is_going (if b then Some (transfer_came part payload l) else Some l) ≡ is_going l
          pick true l = refl
          pick false l = refl
      by (on.Arrived a content again) c old e = came (any_both (is_held_on k) s.list (new_delivery s.closed (s.arrived + 1) a content again) e)
        where
          still : Goes k s → Goes k (on.after_event (on.Arrived a content again) s)
          still g = same (on.Arrived a content again) (λ l. refl) g

          taken : (o : Option ReceivingLink) → link_of s.links a.link ≡ o → a ≡ arriving_in a.link o → is_nobody a.taker ≡ false → in_link is_going o ≡ true
          taken None i is some = absurd (clash (is_nobody a.taker) (ap (λ (x : Arriving). is_nobody x.taker) is) some)
          taken (Some l) i is some = taker_goes l.kind l.cancelled l.limit l.get (sym (ap (λ (x : Arriving). is_nobody x.taker) is) ∙ some)

          came : (holds k s.list ≡ true) ⊎ (is_held_on k (new_delivery s.closed (s.arrived + 1) a content again) ≡ true) → Goes k (on.after_event (on.Arrived a content again) s)
          came (inl f) = still (old f)
          came (inr f) =
              let here : a.link ≡ k = equal a.link k (and_left (a.link == k) _ f) in
              let some : is_nobody a.taker ≡ false = somebody s.closed (is_some content) a.settled a.taker (and_right (a.link == k) _ f) in
              still (subst (λ (j : ℕ). in_link is_going (link_of s.links j) ≡ true) here (taken (link_of s.links a.link) refl c.1 some))
      by (on.LinkDropped link) c old e = pick (k == link) refl
        where
          pick : (b : Bool) → (k == link) ≡ b → Goes k (on.after_event (on.LinkDropped link) s)
          pick true i = absurd (dropped_none k (record s { links = without k s.links }) (subst (λ (j : ℕ). holds k (on.after_event (on.LinkDropped j) s).list ≡ true) (sym (equal k link i)) e))
          pick false i =
              let g : Goes k s = old (each_held k (items.link_dropped link) (dropped_less k link) (record s { links = without link s.links }) e) in
              goes_on (on.LinkDropped link) s (λ l j. ap (λ (b : Bool). in_link is_going (if b then None else Some l)) i ∙ found g l j) g
      by (on.Delivered number) c old e = same (on.Delivered number) (λ l. refl) (old (each_held k (items.delivered number (s.tags + 1)) (delivered_less k number (s.tags + 1)) (record s { tags = s.tags + 1 }) e))
      by (on.Written tag) c old e = same (on.Written tag) (λ l. refl) (old (each_held k (items.written tag) (written_less k tag) s e))
      by (on.Answered tag multiple settle) c old e =
          same (on.Answered tag multiple settle) (λ l. refl) (old (each_held k (items.answered tag multiple settle) (answered_less k tag multiple settle) s e))
      by (on.Cancelled link) c old e = pick (link == k) refl
        where
          pick : (b : Bool) → (link == k) ≡ b → Goes k (on.after_event (on.Cancelled link) s)
          pick true i = absurd (cancelled_none k (on.each_link (link_cancelled k) s) (subst (λ (j : ℕ). holds k (on.after_event (on.Cancelled j) s).list ≡ true) (equal link k i) e))
          pick false i =
              let g : Goes k s = old (each_held k (items.cancelled link) (cancelled_less k link) (on.each_link (link_cancelled link) s) e) in
              goes_on (on.Cancelled link) s
              (λ l j. ap (λ (b : Bool). not (ends (if b then true else l.cancelled) l.kind)) (ap (λ (m : ℕ). m == link) (number_is s.links k l j) ∙ turned link k false i) ∙ found g l j) g
      by on.Closed c old e = same on.Closed (λ l. refl) (old (each_held k items.closed (closed_less k) (on.each_link link_closed (record s { closed = true })) e))
      by on.EndLost c old e = same on.EndLost (λ l. refl) (old (each_held k items.end_lost (lost_less k) s e))
      by (on.PrefetchSet count) c old e = same (on.PrefetchSet count) (λ l. refl) (old e)
      by (on.GlobalSet count) c old e = same (on.GlobalSet count) (λ l. refl) (old e)
      by (on.SettleSent x) c old e = same (on.SettleSent x) (λ l. refl) (old (each_held k (items.settle_sent x) (settled_less k x) s e))
      by (on.GrantSent g) c old e = same (on.GrantSent g) (λ l. refl) (old e)
      by (on.Emptied link) c old e = same (on.Emptied link) (λ l. refl) (old e)
      by on.LinesTold c old e = same on.LinesTold (λ l. refl) (old (each_held k items.reported (λ d f. f) s e))

-- ---- no detach is due

none_parts : (a b : Option PathLink) → lower_of a b ≡ None → a ≡ None
none_parts None b e = refl
none_parts (Some l) None e = absurd cc
none_parts (Some l) (Some m) e = absurd (by (nat_lt m.link l.link) e)
  where
    by : (b : Bool) → (if b then Some m else Some l) ≡ None → ⊥
    by true f = cc
    by false f = cc

-- a link that is up is to be detached, where nothing is to come of it and none is held
parts_up : (g : Stage) (receives over held : Bool) → is_up g ≡ true → receives ≡ true → over ≡ true → held ≡ false
    → (((is_stage_left g || is_stage_failed g) && not (receives && held)) || (receives && is_stage_open g && over)) ≡ true
parts_up (stage.Open h) true true false u r o f = refl
parts_up (stage.Left h) true true false u r o f = refl
parts_up (stage.Failed h fault) true true false u r o f = refl
parts_up g false over held u r o f = absurd cc
parts_up g receives false held u r o f = absurd cc
parts_up g receives over true u r o f = absurd cc
parts_up g receives over held u r o f = absurd cc

kept_side : (x : Side) → is_readable x ≡ true → is_kept x ≡ true
kept_side side.Absent e = absurd cc
kept_side side.Open e = refl
kept_side side.Ended e = absurd cc
kept_side side.Failed e = absurd cc
kept_side side.Gone e = absurd cc

module _ (arrives : DeliveriesAre) (closed : ClosedAre) (calls : CallsAre) (joined : JoinedAre) (tied : LinksAre) (queues : QueuesAre) (covers : CoveredAre) (below : LivesBelow) where
  module _ (h : List Step) (n life k : ℕ) (p : ArePicks h) (lives : path_life h n ≡ Some life) (kept : is_kept (side_in h) ≡ true)
      (none : next_detach (after_events life (path_events h n)) ≡ None) (on_yet : is_closed (deliveries_of life (path_events h n)) ≡ false) where
    abbrev es : List PathEvent
    es = path_events h n

    abbrev ds : List DeliveryEvent
    ds = deliveries_of life es

    abbrev s : PathState
    s = after_events life es

    abbrev d : DeliveryState
    d = on.after_events life ds

    least : n ≤ CHANNEL_MAX
    least = below h n life lives

    heard : AreHeard life es
    heard = open_heard arrives closed h n life p least lives on_yet

    called : AreCalls life ds
    called = calls life es heard

    same_deliveries : s.deliveries ≡ d
    same_deliveries = arrives life es

    unparted : AllByRecursion (λ l. parts s.deliveries l ≡ false) s.links.links
    unparted = none_all (parts s.deliveries) s.links.links (none_parts (find (parts s.deliveries) s.links.links) _ none)

    undone : (x : ReceivingLink) → link_of d.links k ≡ Some x → is_done k ds ≡ true → ⊥
    undone x is done = part (find (takes_one k) s.links.links) refl
      where
        w : Told ds k x
        w = told_of joined life ds k (Some x) called is

        ended : ends_in (is_cancelled k ds) (kind_in k ds) ≡ true
        ended = and_left _ _ done

        met_and_covered : (is_attached k ds && are_covered k ds) ≡ true
        met_and_covered = and_right (ends_in (is_cancelled k ds) (kind_in k ds)) _ done

        ending : ends x.cancelled x.kind ≡ true
        ending = let q : Kept ds k x = kept_is life k ds x called is in ap (λ (b : Bool). ends b x.kind) w.cancelled ∙ ap (ends_in (is_cancelled k ds)) q.kind ∙ ended

        there : x.attached ≡ true
        there = w.attached ∙ and_left (is_attached k ds) _ met_and_covered

        covered : is_all_covered k d.list ≡ true
        covered = covers life k ds ∙ and_right (is_attached k ds) _ met_and_covered

        over_by : (kind : RecvKind) (c : Bool) → ends c kind ≡ true → (c || is_probe kind) ≡ true
        over_by (Consumer tag no_ack) true e = refl
        over_by (Consumer tag no_ack) false e = absurd cc
        over_by Get c e = absurd cc
        over_by Probe true e = refl
        over_by Probe false e = refl

        over : is_over k s.deliveries ≡ true
        over =
            ap (λ (q : DeliveryState). is_over k q) same_deliveries
            ∙ ap (λ (o : Option ReceivingLink). in_link (λ l. l.cancelled || is_probe l.kind) o && is_all_covered k d.list) is
            ∙ and_both (x.cancelled || is_probe x.kind) (is_all_covered k d.list) (over_by x.kind x.cancelled ending) covered

        unheld_by : (b : Bool) → holds k d.list ≡ b → b ≡ false
        unheld_by true e =
            let going : not (ends x.cancelled x.kind) ≡ true = sym (ap (in_link is_going) is) ∙ held_goes life k ds called e in
            absurd (clash (ends x.cancelled x.kind) ending (not_true _ going))
        unheld_by false e = refl

        unheld : holds k s.deliveries.list ≡ false
        unheld = ap (λ (q : DeliveryState). holds k q.list) same_deliveries ∙ unheld_by (holds k d.list) refl

        part : (o : Option PathLink) → find (takes_one k) s.links.links ≡ o → ⊥
        part None e = clash (takes k s.links.links) (known_takes arrives closed tied queues life es k heard on_yet x is) (none_any (takes_one k) s.links.links e)
        part (Some l) e =
            let passes : takes_one k l ≡ true = found_passes (takes_one k) s.links.links l e in
            let number : l.link ≡ k = eq_of l.link k (and_left (has_number k l) _ passes) in
            let receives : l.receives ≡ true = and_left l.receives _ (and_right (has_number k l) _ passes) in
            let own : find (has_number k) s.links.links ≡ Some l =
            subst (λ (j : ℕ). find (has_number j) s.links.links ≡ Some l) number (found_number (takes_one k) s.links.links l (tied_after life es).rising e) in
            let met : is_met (link_of s.deliveries.links k) ≡ true = ap (λ (q : DeliveryState). is_met (link_of q.links k)) same_deliveries ∙ ap is_met is ∙ there in
            let fit : serves true l ≡ true = sym (ap (serves_in true) own) ∙ owns arrives calls life k es heard (have_room arrives closed calls n life least h p lives kept) met in
            let due : parts s.deliveries l ≡ true =
            parts_up l.stage l.receives (is_over l.link s.deliveries) (holds l.link s.deliveries.list) (and_left (is_up l.stage) _ fit) receives
            (ap (λ (j : ℕ). is_over j s.deliveries) number ∙ over) (ap (λ (j : ℕ). holds j s.deliveries.list) number ∙ unheld) in
            clash (parts s.deliveries l) due (all_find (λ (m : PathLink). parts s.deliveries m ≡ false) (takes_one k) s.links.links l unparted e).0

    none_done : (b : Bool) → is_done k ds ≡ b → b ≡ false
    none_done false done = refl
    none_done true done = absurd (by (link_of d.links k) refl)
      where
        by : (o : Option ReceivingLink) → link_of d.links k ≡ o → ⊥
        by None e =
            let away : kind_in k ds ≡ None = told_of joined life ds k None called e in
            clash (ends_in (is_cancelled k ds) (kind_in k ds)) (and_left _ _ done) (ap (ends_in (is_cancelled k ds)) away)
        by (Some x) e = undone x e done

  pub detaches_done : ((h : List Step) → ArePicks h → SuppliesContainers h) → (h : List Step) → ArePicks h → DetachesDone h
  detaches_done supplies h p n life k r on_yet =
      none_done h n life k p r.lives (kept_side (side_in h) r.readable) ((supplies h p r.none r.readable r.unclosed n life r.lives r.carried).detaches) on_yet
      (is_done k (deliveries_of life (path_events h n))) refl
