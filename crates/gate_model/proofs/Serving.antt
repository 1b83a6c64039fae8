-- As many deliveries wait for a basic.get as answers to gets are due; so a basic.get-ok goes before any other deliver.
use Rattle.std.proofs.Common.{◌≡◌, ◌∙◌, ℕ, zero, suc, ◌+◌, ◌≤◌, nat_lt, not, ◌&&◌, Bool, true, false, if◌then◌else◌, cond, List, [], ◌∷◌, ◌++◌}
use Rattle.std.proofs.Common.{Option, None, Some, refl, sym, ap, subst, arith}
use Rattle.std.proofs.lemmas.List.Sums.{sum_by-append}
use Rattle.std.specs.List.{AllByRecursion}
use Rattle.std.specs.Option.{option_map, option_or}
use Rattle.std.specs.Prelude.{IfSome, count_by, is_some}
use Rattle.consume_path.specs.Deliveries as on
use Rattle.consume_path.specs.Deliveries.{DeliveryEvent, DeliveryState, open_after}
use Rattle.consume_path.specs.Items.{is_on}
use Rattle.consume_path.specs.Journal.{IsTaken, fate_of, is_closed, numbers_of, waits}
use Rattle.consume_path.specs.Kept.{is_getter}
use Rattle.consume_path.specs.Laws.{AreCalls, consumer_at, deliver_by, get_at, has_room_of_all, held, next_of}
use Rattle.consume_path.specs.Links.{consumer_link, found_empty, in_link, is_empty, link_of, recount, taker_by, taker_of, transfer_came}
use Rattle.consume_path.specs.Offers.{arriving_in, awaits_get, getting, is_drained, is_for_gets, is_getting as is_get_waiting, next_deliver_of, on_link, rank_of, serves_gets, sooner, soonest}
use Rattle.consume_path.specs.declared.delivery.Content.{Content}
use Rattle.consume_path.specs.declared.delivery.NextDeliver.{NextDeliver}
use Rattle.consume_path.specs.declared.delivery.Taker.{Taker}
use Rattle.consume_path.specs.declared.delivery.Taker.TheVariants.{Nobody, Getter}
use Rattle.consume_path.specs.declared.delivery.Taker.TheVariants.{Consumer as Consumes}
use Rattle.consume_path.specs.declared.receiving.Part.{Part}
use Rattle.consume_path.specs.declared.receiving.ReceivingLink.{ReceivingLink}
use Rattle.consume_path.specs.declared.receiving.RecvKind.{RecvKind}
use Rattle.consume_path.specs.declared.receiving.RecvKind.TheVariants.{Get}
use Rattle.consume_path.specs.declared.receiving.WaitingGet.{WaitingGet}
use Rattle.consume_path.specs.declared.searches.Ranked.{Ranked}
use Rattle.session_path.specs.Due.{deliver_if, deliver_in, is_get_ok, most_tags, next_deliver}
use Rattle.session_path.specs.Events as event
use Rattle.session_path.specs.Events.{PathEvent, after_events, arrivals, cancels, deliveries_of, delivery_events, transfers}
use Rattle.session_path.specs.Laws.{AreHeard, IsHeard, answers, arrival_oks, begun_oks, flow_oks, oks_owed, oks_sent, owes}
use Rattle.session_path.specs.Links.{asked_by, named}
use Rattle.session_path.specs.Path.{PathState, declares_in, empty_oks, first_of, is_answered, is_last, is_served, receiver_in, taking, transferred}
use Rattle.session_path.specs.declared.path.AttachHeard.{AttachHeard}
use Rattle.session_path.specs.declared.path.Awaited.{Awaited}
use Rattle.session_path.specs.declared.path.DeliverDue.{DeliverDue}
use Rattle.session_path.specs.declared.path.PathLink.{PathLink}
use Rattle.session_path.specs.declared.path.PathOk.{PathOk}
use Rattle.session_path.specs.declared.path.PathOk.TheVariants as ok
use Rattle.session_path.proofs.Ties.{eq_to}
use Rattle.gate_model.proofs.Basics.{and_left, and_right, not_true}
use Rattle.gate_model.proofs.Brought.{each_all, is_plain}
use Rattle.gate_model.proofs.Calling.{consumes}
use Rattle.gate_model.proofs.Connections.{clash}
use Rattle.gate_model.proofs.Getting.{Passes, all_passing, getting_of, is_getting, keeps, kept_many, new_getting, none_cancelled, one_taken, passing_all, some_passes}
use Rattle.gate_model.proofs.Granting.{CountsAre, DeliveriesAre}
use Rattle.gate_model.proofs.Heard.{AllHold, ClosedAre, events_open}
use Rattle.gate_model.proofs.Linking.{apart, linked}
use Rattle.gate_model.proofs.Proper.{IsProper}
use Rattle.gate_model.proofs.Quiet.{is_asked_ok}
use Rattle.gate_model.proofs.Quotas.{Kept, kept}
use Rattle.gate_model.proofs.Settles.{CallsAre}
use Rattle.gate_model.proofs.Sources.{gets_kind}
use Rattle.gate_model.proofs.Standing.{AreStanding, on_such, standing, suits}
use Rattle.gate_model.proofs.Waiters.{are_drops, served}

-- what consume_path says of the deliver that is due
abbrev pub DuesAre : Type 0
DuesAre = (life global : ℕ) (h : List DeliveryEvent) → next_deliver_of global (open_after life h) ≡ deliver_by global h

-- ---- the first of those with the least key

record IsFirst {A R : Type 0} (P : A → Type 0) (offer : A → Option R) (r : R) : Type 0 where
  item : A
  passes : P item
  is : offer item ≡ Some r

first_is : {A R : Type 0} (P : A → Type 0) (key : R → ℕ) (offer : A → Option R) (xs : List A) (r : R) → AllByRecursion P xs → soonest key offer xs ≡ Some r → IsFirst P offer r
first_is P key offer [] r a e = absurd cc
first_is {A} {R} P key offer (x ∷ xs) r a e = by (offer x) (soonest key offer xs) refl (first_is P key offer xs r a.1) e
  where
    by : (o p : Option R) → offer x ≡ o → (p ≡ Some r → IsFirst P offer r) → sooner key o p ≡ Some r → IsFirst P offer r
    by None p f more e = more e
    by (Some b) None f more e = record { item = x; passes = a.0; is = f ∙ e }
    by (Some b) (Some c) f more e = pick (nat_lt (key c) (key b)) e
      where
        pick : (t : Bool) → (if t then Some c else Some b) ≡ Some r → IsFirst P offer r
        pick true e = more e
        pick false e = record { item = x; passes = a.0; is = f ∙ e }

none_is : {A R : Type 0} (key : R → ℕ) (offer : A → Option R) (xs : List A) → soonest key offer xs ≡ None → AllByRecursion (λ (x : A). offer x ≡ None) xs
none_is key offer [] e = tt
none_is {A} {R} key offer (x ∷ xs) e = by (offer x) (soonest key offer xs) refl (none_is key offer xs) e
  where
    by : (o p : Option R) → offer x ≡ o → (p ≡ None → AllByRecursion (λ (y : A). offer y ≡ None) xs) → sooner key o p ≡ None → AllByRecursion (λ (y : A). offer y ≡ None) (x ∷ xs)
    by None p f more e = (f, more e)
    by (Some b) None f more e = absurd cc
    by (Some b) (Some c) f more e = absurd (pick (nat_lt (key c) (key b)) e)
      where
        pick : (t : Bool) → (if t then Some c else Some b) ≡ None → ⊥
        pick true e = cc
        pick false e = cc

-- ---- the deliver that is due

pub record IsDue (s : PathState) (d : DeliverDue) : Type 0 where
  pub next : next_deliver_of s.deliveries.global s.deliveries.list ≡ Some d.next
  pub get : serves_gets d.next.link s.deliveries.links ≡ d.get
  pub may : d.get ≡ true → is_get_ok (first_of s.oks) ≡ true

pub is_due : (s : PathState) (d : DeliverDue) → next_deliver s ≡ Some d → IsDue s d
is_due s d e = by (nat_lt s.deliveries.tags most_tags) (next_deliver_of s.deliveries.global s.deliveries.list) refl e
  where
    one : (next : NextDeliver) (get may : Bool) → next_deliver_of s.deliveries.global s.deliveries.list ≡ Some next → serves_gets next.link s.deliveries.links ≡ get
        → is_get_ok (first_of s.oks) ≡ may → deliver_if get may s.deliveries.tags next ≡ Some d → IsDue s d
    one next true true f i m g =
        let same : record { next = next; tag = s.deliveries.tags + 1; get = true } ≡ d = cc in
        subst (IsDue s) same (record { next = f; get = i; may = λ x. m })
    one next true false f i m g = absurd cc
    one next false may f i m g =
        let same : record { next = next; tag = s.deliveries.tags + 1; get = false } ≡ d = cc in
        subst (IsDue s) same (record { next = f; get = i; may = λ x. absurd cc })

    by : (b : Bool) (o : Option NextDeliver) → next_deliver_of s.deliveries.global s.deliveries.list ≡ o → (if b then deliver_in o s else None) ≡ Some d → IsDue s d
    by false o f g = absurd cc
    by true None f g = absurd cc
    by true (Some next) f g = one next (serves_gets next.link s.deliveries.links) (is_get_ok (first_of s.oks)) f refl refl g

-- ---- a get has its own first

gets_link : (o : Option ReceivingLink) (taker : Taker) → is_getter taker ≡ true → in_link (on_such taker) o ≡ true → in_link (λ (l : ReceivingLink). is_for_gets l.kind) o ≡ true
gets_link None taker e f = absurd cc
gets_link (Some l) taker e f = by l.kind taker e (and_right l.attached (suits l.kind taker) f)
  where
    by : (kind : RecvKind) (taker : Taker) → is_getter taker ≡ true → suits kind taker ≡ true → is_for_gets kind ≡ true
    by Get taker e f = refl
    by kind (Getter number free) e f = absurd cc
    by kind Nobody e f = absurd cc
    by kind (Consumes free limit) e f = absurd cc

module _ (dues : DuesAre) (life : ℕ) (ds : List DeliveryEvent) (stands : AreStanding life ds) where
  -- a delivery that is held
  abbrev IsHeld : ℕ → Type 0
  IsHeld m = (1 ≤ m) × (m ≤ numbers_of ds) × (waits (fate_of m ds) ≡ true)

  offered : (m : ℕ) → IsTaken ds m → is_getting (fate_of m ds) ≡ true → get_at ds m ≡ None → ⊥
  offered m t w e =
      by (fate_of m ds).link (fate_of m ds).taker ((stands m t (and_left (waits (fate_of m ds)) _ w)).there (and_right (waits (fate_of m ds)) _ w)) (and_right (waits (fate_of m ds)) _ w) e
    where
      by : (o : Option ℕ) (taker : Taker) → is_some o ≡ true → is_getter taker ≡ true → on_link o (λ (link : ℕ). getting taker (next_of link m (fate_of m ds))) ≡ None → ⊥
      by None taker f g i = cc
      by (Some k) (Getter number free) f g i = cc
      by (Some k) Nobody f g i = cc
      by (Some k) (Consumes free limit) f g i = cc

  -- what is offered to a get is on a link for gets
  on_gets : (m : ℕ) (r : Ranked) → IsHeld m → get_at ds m ≡ Some r → serves_gets r.next.link (on.after_events life ds).links ≡ true
  on_gets m r h e = by (fate_of m ds).link (fate_of m ds).taker refl refl e
    where
      by : (o : Option ℕ) (taker : Taker) → (fate_of m ds).link ≡ o → (fate_of m ds).taker ≡ taker → on_link o (λ (link : ℕ). getting taker (next_of link m (fate_of m ds))) ≡ Some r
          → serves_gets r.next.link (on.after_events life ds).links ≡ true
      by None taker f g i = absurd cc
      by (Some k) Nobody f g i = absurd cc
      by (Some k) (Consumes free limit) f g i = absurd cc
      by (Some k) (Getter number free) f g i =
          let same : record { rank = number; next = next_of k m (fate_of m ds) } ≡ r = cc in
          subst (λ (x : Ranked). serves_gets x.next.link (on.after_events life ds).links ≡ true) same
          (gets_link (link_of (on.after_events life ds).links k) (fate_of m ds).taker (ap is_getter g) ((stands m (h.0, h.1) h.2).on k f))

  gets_first : (global : ℕ) (next : NextDeliver) → 1 ≤ getting_of ds → next_deliver_of global (open_after life ds) ≡ Some next
      → serves_gets next.link (on.after_events life ds).links ≡ true
  gets_first global next some e = by (soonest rank_of (get_at ds) (held ds)) refl (sym (dues life global ds) ∙ e)
    where
      p : Passes (λ (m : ℕ). is_getting (fate_of m ds)) (numbers_of ds)
      p = some_passes (λ (m : ℕ). is_getting (fate_of m ds)) (numbers_of ds) some

      by : (o : Option Ranked) → soonest rank_of (get_at ds) (held ds) ≡ o
          → option_map (λ (r : Ranked). r.next) (option_or o (soonest rank_of (consumer_at (has_room_of_all global ds) ds) (held ds))) ≡ Some next
          → serves_gets next.link (on.after_events life ds).links ≡ true
      by None f g =
          absurd (offered p.number (p.from, p.most) p.is
          (all_passing (λ (m : ℕ). get_at ds m ≡ None) (λ (m : ℕ). waits (fate_of m ds)) (numbers_of ds) p.number (none_is rank_of (get_at ds) (held ds) f) p.from p.most
          (and_left (waits (fate_of p.number ds)) _ p.is)))
      by (Some r) f g =
          let x = first_is IsHeld rank_of (get_at ds) (held ds) r (passing_all (λ (m : ℕ). waits (fate_of m ds)) (numbers_of ds)) f in
          let same : r.next ≡ next = cc in
          subst (λ (n : NextDeliver). serves_gets n.link (on.after_events life ds).links ≡ true) same (on_gets x.item r x.passes x.is)

-- ---- answers to gets

abbrev pub is_get : PathOk → Bool
is_get x = is_get_ok (Some x)

abbrev pub gets_in : List PathOk → ℕ
gets_in xs = count_by is_get xs

pub gets_both : (xs ys : List PathOk) → gets_in (xs ++ ys) ≡ gets_in xs + gets_in ys
gets_both xs ys = sum_by-append (λ (x : PathOk). cond (is_get x) 1 0) xs ys

none_in : (b : Bool) (x : PathOk) → is_get x ≡ false → gets_in (if b then x ∷ [] else []) ≡ 0
none_in true x e = ap (λ (b : Bool). 0 + cond b 1 0) e
none_in false x e = refl

asked_none : (x : PathOk) → is_asked_ok x ≡ true → is_get x ≡ false
asked_none ok.Get e = absurd cc
asked_none x e = refl

attach_none : (o : Option PathLink) (a : AttachHeard) (awaited : Option Awaited) → gets_in (begun_oks o a awaited) ≡ 0
attach_none None a awaited = refl
attach_none (Some l) a awaited = by (l.receives && a.there) (is_answered l.link awaited) (declares_in awaited)
  where
    by : (b c d : Bool) → gets_in (if b then (if c then (if d then ok.Queue else ok.Consume l.link) ∷ [] else []) else []) ≡ 0
    by true true true = refl
    by true true false = refl
    by true false d = refl
    by false c d = refl

flow_none : (o : Option PathLink) (n : Option ℕ) (echo : Bool) (d : DeliveryState) → gets_in (flow_oks o n echo d) ≡ 0
flow_none None n echo d = refl
flow_none (Some l) n echo d = none_in _ (ok.Empty l.link) refl

-- it neither brings a delivery nor takes one
abbrev is_quiet_event : PathEvent → Bool
is_quiet_event (event.TransferCame peer part payload image again) = false
is_quiet_event (event.CancelCame tag no_wait) = false
is_quiet_event (event.DeliverSent d) = false
is_quiet_event event.LifeClosed = false
is_quiet_event event.SessionLost = false
is_quiet_event event.SessionEnded = false
is_quiet_event event.UpLost = false
is_quiet_event x = true

quiet_owes : (s : PathState) (x : PathEvent) → IsProper s x → is_quiet_event x ≡ true → gets_in (owes s x) ≡ 0
quiet_owes s (event.Owed y) m e = none_in true y (asked_none y m)
quiet_owes s (event.AttachCame a) m e = attach_none (asked_by a s.links) a s.awaited
quiet_owes s (event.FlowCame peer n credit drain echo) m e = flow_none (receiver_in (named peer s.links)) n echo s.deliveries
quiet_owes s (event.TransferCame peer part payload image again) m e = absurd cc
quiet_owes s (event.CancelCame tag no_wait) m e = absurd cc
quiet_owes s x m e = refl

abbrev Keeps : DeliveryEvent → Type 0
Keeps y = keeps y ≡ true

plain_keeps : (y : DeliveryEvent) → is_plain y ≡ true → Keeps y
plain_keeps (on.Delivered number) e = absurd cc
plain_keeps (on.Cancelled link) e = absurd cc
plain_keeps on.Closed e = absurd cc
plain_keeps on.EndLost e = absurd cc
plain_keeps y e = refl

quiet_keeps : (s : PathState) (x : PathEvent) → is_quiet_event x ≡ true → AllByRecursion Keeps (delivery_events s x)
quiet_keeps s (event.Consumed queue tag no_ack no_wait) e = (refl, tt)
quiet_keeps s (event.Declared queue no_wait) e = (refl, tt)
quiet_keeps s (event.GetAsked queue no_ack) e = each_all Keeps plain_keeps s (event.GetAsked queue no_ack) refl
quiet_keeps s (event.AttachCame a) e = each_all Keeps plain_keeps s (event.AttachCame a) (λ link count. refl)
quiet_keeps s event.DetachSent e = each_all Keeps plain_keeps s event.DetachSent (λ link. refl)
quiet_keeps s (event.ContentWhole tag) e = (refl, tt)
quiet_keeps s (event.TransferCame peer part payload image again) e = absurd cc
quiet_keeps s (event.CancelCame tag no_wait) e = absurd cc
quiet_keeps s (event.DeliverSent d) e = absurd cc
quiet_keeps s event.LifeClosed e = absurd cc
quiet_keeps s event.SessionLost e = absurd cc
quiet_keeps s event.SessionEnded e = absurd cc
quiet_keeps s event.UpLost e = absurd cc
quiet_keeps s x e = each_all Keeps plain_keeps s x tt

-- ---- a delivery comes that a get has

-- the taker of a delivery that ends with a transfer on its link
getter_on : (l : ReceivingLink) (part : Part) (payload : List ℕ) → l.kind ≡ Get → is_get_waiting l ≡ true → is_last part ≡ true → is_getter (taker_of (transfer_came part payload l)) ≡ true
getter_on l part payload kind w last =
    ap (λ (k : RecvKind). is_getter (taker_by k l.cancelled l.limit (if part.aborted then found_empty l.get else l.get))) kind
    ∙ by l.get part.aborted w (not_true part.aborted (and_right (not part.more) _ last))
  where
    at : (g : WaitingGet) (b : Bool) → g.empty ≡ b → b ≡ false → is_getter (if b then Nobody else Getter g.number g.no_ack) ≡ true
    at g true e f = absurd cc
    at g false e f = refl

    by : (o : Option WaitingGet) (b : Bool) → (is_some o && not (is_empty o)) ≡ true → b ≡ false → is_getter (taker_by Get l.cancelled l.limit (if b then found_empty o else o)) ≡ true
    by None b e f = absurd cc
    by (Some g) true e f = absurd cc
    by (Some g) false e f = at g g.empty refl (not_true g.empty e)

comes : (life : ℕ) (ds : List DeliveryEvent) (link : ℕ) (part : Part) (payload : List ℕ) → AreCalls life ds → is_last part ≡ true → awaits_get link (on.after_events life ds).links ≡ true
    → is_getter (arriving_in link (link_of (on.after_event (on.TransferCame link part payload) (on.after_events life ds)).links link)).taker ≡ true
comes life ds link part payload calls last w = by (link_of s.links link) refl (kept life ds calls link) w
  where
    s : DeliveryState
    s = on.after_events life ds

    x : DeliveryEvent
    x = on.TransferCame link part payload

    again : ReceivingLink → ReceivingLink
    again l = recount (on.after_event x s).list l

    by : (o : Option ReceivingLink) → link_of s.links link ≡ o → IfSome o (Kept ds link) → in_link is_get_waiting o ≡ true
        → is_getter (arriving_in link (link_of (on.after_event x s).links link)).taker ≡ true
    by None e k f = absurd cc
    by (Some l) e k f =
        ap (λ (o : Option ReceivingLink). is_getter (arriving_in link o).taker)
        (linked x s link
        ∙ ap (λ (b : Bool). option_map again (if b then option_map (transfer_came part payload) (link_of s.links link) else link_of s.links link)) (eq_to link link refl)
        ∙ ap (λ (o : Option ReceivingLink). option_map again (option_map (transfer_came part payload) o)) e)
        ∙ getter_on l part payload (gets_kind l.kind (k.gets (and_left (is_some l.get) _ f))) f last

-- of the answers to gets that became due no more are left than deliveries wait for
abbrev pub Few : ℕ → List PathEvent → Type 0
Few life es = gets_in (oks_owed life es) ≤ getting_of (deliveries_of life es) + gets_in (oks_sent es)

module _ (deliveries : DeliveriesAre) (closed : ClosedAre) (calls : CallsAre) (counts : CountsAre) (dues : DuesAre) (life : ℕ) where
  -- each delivery that waits stands on its link
  pub stands : (es : List PathEvent) → AreHeard life es → is_closed (deliveries_of life es) ≡ false → AreStanding life (deliveries_of life es)
  stands es heard open_yet = standing life (deliveries_of life es) (calls life es heard) (are_drops deliveries closed calls counts life es heard open_yet)

  -- where one waits for a get, what is due is a get-ok
  pub get_goes : (es : List PathEvent) (d : DeliverDue) → AreHeard life es → is_closed (deliveries_of life es) ≡ false → next_deliver (after_events life es) ≡ Some d
      → 1 ≤ getting_of (deliveries_of life es) → d.get ≡ true
  get_goes es d heard open_yet e some =
      let ds : List DeliveryEvent = deliveries_of life es in
      let due = is_due (after_events life es) d e in
      sym due.get
      ∙ ap (λ (z : DeliveryState). serves_gets d.next.link z.links) (deliveries life es)
      ∙ gets_first dues life ds (stands es heard open_yet) (on.after_events life ds).global d.next some
      (ap (λ (z : DeliveryState). next_deliver_of z.global z.list) (sym (deliveries life es)) ∙ due.next)

  module _ (es : List PathEvent) (heard : AreHeard life es) (open_yet : is_closed (deliveries_of life es) ≡ false) (old : Few life es) where
    abbrev s : PathState
    s = after_events life es

    abbrev ds : List DeliveryEvent
    ds = deliveries_of life es

    -- what an event adds
    added : (x : PathEvent) → getting_of ds + gets_in (owes s x) ≤ getting_of (delivery_events s x ++ ds) + gets_in (answers x) → Few life (x ∷ es)
    added x le =
        let owed : gets_in (oks_owed life es ++ owes s x) ≡ gets_in (oks_owed life es) + gets_in (owes s x) = gets_both (oks_owed life es) (owes s x) in
        let sent : gets_in (oks_sent es ++ answers x) ≡ gets_in (oks_sent es) + gets_in (answers x) = gets_both (oks_sent es) (answers x) in
        omega (arith, old, le, owed, sent)

    quiet : (x : PathEvent) → IsProper s x → is_quiet_event x ≡ true → Few life (x ∷ es)
    quiet x m q =
        let none : gets_in (owes s x) ≡ 0 = quiet_owes s x m q in
        let more : getting_of ds ≤ getting_of (delivery_events s x ++ ds) = kept_many (delivery_events s x) ds (quiet_keeps s x q) in
        added x (omega (arith, none, more))

    delivered : (d : DeliverDue) → next_deliver s ≡ Some d → Few life (event.DeliverSent d ∷ es)
    delivered d e = by d.get refl
      where
        one : getting_of ds ≤ getting_of (on.Delivered d.next.number ∷ ds) + 1
        one = one_taken ds d.next.number

        none : d.get ≡ false → (n : ℕ) → getting_of ds ≡ n → n ≡ 0
        none f zero i = refl
        none f (suc n) i = absurd (clash d.get (get_goes es d heard open_yet e (omega (arith, i))) f)

        by : (b : Bool) → d.get ≡ b → Few life (event.DeliverSent d ∷ es)
        by true f =
            let sent : gets_in (if d.get then ok.Get ∷ [] else []) ≡ 1 = ap (λ (b : Bool). gets_in (if b then ok.Get ∷ [] else [])) f in
            added (event.DeliverSent d) (omega (arith, one, sent))
        by false f =
            let zero_now : getting_of ds ≡ 0 = none f (getting_of ds) refl in
            added (event.DeliverSent d) (omega (arith, zero_now))

    cancelled : (tag : List ℕ) (no_wait : Bool) → Few life (event.CancelCame tag no_wait ∷ es)
    cancelled tag no_wait = added (event.CancelCame tag no_wait) (both (by (consumer_link tag s.deliveries.links) refl))
      where
        owed : (b : Bool) → gets_in (if b then [] else ok.Cancel ∷ []) ≡ 0
        owed true = refl
        owed false = refl

        both : getting_of ds ≤ getting_of (cancels (consumer_link tag s.deliveries.links) ++ ds)
            → getting_of ds + gets_in (owes s (event.CancelCame tag no_wait)) ≤ getting_of (cancels (consumer_link tag s.deliveries.links) ++ ds) + 0
        both le = let none : gets_in (if no_wait then [] else ok.Cancel ∷ []) ≡ 0 = owed no_wait in omega (arith, le, none)

        off : (k m : ℕ) → consumer_link tag s.deliveries.links ≡ Some k → IsTaken ds m → is_getting (fate_of m ds) ≡ true → is_on k (fate_of m ds).link ≡ false
        off k m e t w = at (is_on k (fate_of m ds).link) refl
          where
            at : (b : Bool) → is_on k (fate_of m ds).link ≡ b → b ≡ false
            at false i = refl
            at true i =
                let x = served life ds k m (stands es heard open_yet) t (and_left (waits (fate_of m ds)) _ w) (and_right (waits (fate_of m ds)) _ w) i in
                let not_gets : in_link (λ (l : ReceivingLink). is_for_gets l.kind) (link_of (on.after_events life ds).links k) ≡ false =
                consumes tag (on.after_events life ds).links k (apart life ds (calls life es heard)) (ap (λ (z : DeliveryState). consumer_link tag z.links) (sym (deliveries life es)) ∙ e) in
                absurd (clash _ (ap (in_link (λ (l : ReceivingLink). is_for_gets l.kind)) x.is ∙ ap is_for_gets x.kind) not_gets)

        by : (o : Option ℕ) → consumer_link tag s.deliveries.links ≡ o → getting_of ds ≤ getting_of (cancels o ++ ds)
        by None e = omega arith
        by (Some k) e = none_cancelled ds k (λ m t w. off k m e t w)

    transferred_so : (peer : ℕ) (part : Part) (payload : List ℕ) (image : Option Content) (again : Bool) → Few life (event.TransferCame peer part payload image again ∷ es)
    transferred_so peer part payload image again = added (event.TransferCame peer part payload image again) (by (taking peer s))
      where
        Fine : Option PathLink → Type 0
        Fine o = getting_of ds + gets_in (arrival_oks o part payload image again s.deliveries) ≤ getting_of (transfers o part payload image again s.deliveries ++ ds) + 0

        after : ℕ → DeliveryState
        after link = on.after_event (on.TransferCame link part payload) s.deliveries

        -- with its get-empty
        kept_on : (b : Bool) (link : ℕ) (ys : List DeliveryEvent) → getting_of (ys ++ ds) ≤ getting_of (((if b then on.Emptied link ∷ [] else []) ++ ys) ++ ds)
        kept_on true link ys = kept_many (on.Emptied link ∷ []) (ys ++ ds) (refl, tt)
        kept_on false link ys = omega arith

        keeps_all : (last : Bool) (link : ℕ) → AllByRecursion Keeps (arrivals last link image again (after link) ++ on.TransferCame link part payload ∷ [])
        keeps_all true link = (refl, (refl, tt))
        keeps_all false link = (refl, tt)

        -- none waits, or it brings nothing
        plain : (l : PathLink) → gets_in (empty_oks l.link (transferred l.link part payload image again s.deliveries)) ≡ 0
        plain l = none_in _ (ok.Empty l.link) refl

        got : (l : PathLink) → is_last part ≡ true → is_some image ≡ true → awaits_get l.link s.deliveries.links ≡ true
            → getting_of ds + 1 ≤ getting_of (arrivals (is_last part) l.link image again (after l.link) ++ on.TransferCame l.link part payload ∷ ds)
        got l last some w =
            let x = on.TransferCame l.link part payload in
            let first : getting_of ds ≤ getting_of (x ∷ ds) = kept_many (x ∷ []) ds (refl, tt) in
            let getter : is_getter (arriving_in l.link (link_of (after l.link).links l.link)).taker ≡ true =
            subst (λ (z : DeliveryState). is_getter (arriving_in l.link (link_of (on.after_event x z).links l.link)).taker ≡ true) (sym (deliveries life es))
            (comes life ds l.link part payload (calls life es heard) last (ap (λ (z : DeliveryState). awaits_get l.link z.links) (sym (deliveries life es)) ∙ w)) in
            let new : getting_of (x ∷ ds) + 1 ≤ getting_of (on.Arrived (arriving_in l.link (link_of (after l.link).links l.link)) image again ∷ x ∷ ds) =
            new_getting (x ∷ ds) (arriving_in l.link (link_of (after l.link).links l.link)) image again open_yet some getter in
            subst (λ (b : Bool). getting_of ds + 1 ≤ getting_of (arrivals b l.link image again (after l.link) ++ x ∷ ds)) (sym last) (omega (arith, first, new))

        by : (o : Option PathLink) → Fine o
        by None = omega arith
        by (Some l) = at (is_served l.link part image s.deliveries) refl
          where
            ys : List DeliveryEvent
            ys = arrivals (is_last part) l.link image again (after l.link) ++ on.TransferCame l.link part payload ∷ []

            rest : getting_of (ys ++ ds) ≤ getting_of (transfers (Some l) part payload image again s.deliveries ++ ds)
            rest = kept_on (is_drained l.link (transferred l.link part payload image again s.deliveries).links) l.link ys

            same : (b : Bool) → (arrivals b l.link image again (after l.link) ++ on.TransferCame l.link part payload ∷ []) ++ ds
                ≡ arrivals b l.link image again (after l.link) ++ on.TransferCame l.link part payload ∷ ds
            same true = refl
            same false = refl

            at : (b : Bool) → is_served l.link part image s.deliveries ≡ b → Fine (Some l)
            at true e =
                let owed : gets_in (arrival_oks (Some l) part payload image again s.deliveries) ≡ 1 =
                ap (λ (b : Bool). gets_in (if b then ok.Get ∷ [] else empty_oks l.link (transferred l.link part payload image again s.deliveries))) e in
                let more : getting_of ds + 1 ≤ getting_of (ys ++ ds) =
                subst (λ (zs : List DeliveryEvent). getting_of ds + 1 ≤ getting_of zs) (sym (same (is_last part)))
                (got l (and_left (is_last part) _ e) (and_left (is_some image) _ (and_right (is_last part) _ e)) (and_right (is_some image) _ (and_right (is_last part) _ e))) in
                omega (arith, owed, more, rest)
            at false e =
                let owed : gets_in (arrival_oks (Some l) part payload image again s.deliveries) ≡ 0 =
                ap (λ (b : Bool). gets_in (if b then ok.Get ∷ [] else empty_oks l.link (transferred l.link part payload image again s.deliveries))) e ∙ plain l in
                let more : getting_of ds ≤ getting_of (ys ++ ds) = kept_many ys ds (keeps_all (is_last part) l.link) in
                omega (arith, owed, more, rest)

  pub few : (es : List PathEvent) → AreHeard life es → AllHold IsProper life es → is_closed (deliveries_of life es) ≡ false → Few life es
  few [] heard met open_yet = omega arith
  few (x ∷ es) heard met open_yet = by x (few es heard.1 met.1 before) heard.0 met.0 open_yet
    where
      before : is_closed (deliveries_of life es) ≡ false
      before = events_open life (x ∷ []) es open_yet

      by : (x : PathEvent) → Few life es → IsHeard (after_events life es) x → IsProper (after_events life es) x → is_closed (deliveries_of life (x ∷ es)) ≡ false → Few life (x ∷ es)
      by (event.TransferCame peer part payload image again) old h m o = transferred_so es heard.1 before old peer part payload image again
      by (event.CancelCame tag no_wait) old h m o = cancelled es heard.1 before old tag no_wait
      by (event.DeliverSent d) old h m o = delivered es heard.1 before old d m
      by event.LifeClosed old h m o = absurd cc
      by event.SessionLost old h m o = absurd cc
      by event.SessionEnded old h m o = absurd cc
      by event.UpLost old h m o = absurd cc
      by y old h m o = quiet es heard.1 before old y m refl
