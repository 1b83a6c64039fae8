-- The publishes that wait for a confirm are those behind the first confirm.select of their life.
use Rattle.std.proofs.Common.{◌≡◌, ◌∙◌, ℕ, ◌+◌, ◌-◌, ◌==◌, ◌≤◌, ◌<◌, nat_lt, Bool, true, false, if◌then◌else◌, List, [], ◌∷◌, ◌++◌, Option, None, Some}
use Rattle.std.proofs.Common.{refl, sym, ap, subst, arith, ◌&&◌}
use Rattle.std.proofs.lemmas.Bool.Decides.{nat_tests}
use Rattle.publish_path.specs.Journal.{IsTaken, confirms_of, fate_of, new_fate, numbers_of, takes_up}
use Rattle.publish_path.specs.Links.{link_to}
use Rattle.publish_path.specs.Offers.{frame_sent}
use Rattle.publish_path.specs.Publishes.{ConfirmSent, LinesTold, LinkGone, OutcomeCame, PublishEvent, ReturnSent, TakenUp, next_number}
use Rattle.consume_path.specs.Offers.{next_settle_of}
use Rattle.consume_path.specs.declared.delivery.Content.{Content}
use Rattle.consume_path.specs.declared.delivery.NextSettle.{NextSettle}
use Rattle.consume_path.specs.declared.receiving.NextGrant.{NextGrant}
use Rattle.consume_path.specs.declared.receiving.Part.{Part}
use Rattle.session_path.specs.Events as event
use Rattle.session_path.specs.Events.{PathEvent, after_event, after_events, losses, publish_events, publishes_of}
use Rattle.session_path.specs.Links.{asked_by, attached, linked_to, named, parted, told_on}
use Rattle.session_path.specs.Path.{PathState, begun_if, begun_on, detaching_of, disposed_by, dropped, dropped_by, flow_of, flowed_by, get_link, got_on}
use Rattle.session_path.specs.Path.{grant_in, granted_by, is_grant_next, last_or, number_of, queue_or, receiver_in, sender_in, taking, transferred_on}
use Rattle.session_path.specs.declared.path.AttachHeard.{AttachHeard}
use Rattle.session_path.specs.declared.path.PathLink.{PathLink}
use Rattle.gate_model.specs.Publishing.{path_events}
use Rattle.gate_model.specs.Selects.{AreNumbered, CountsFromSelect, has_selected, number_for, unconfirmed}
use Rattle.gate_model.specs.State.{Step}

-- ---- a confirm.select alone selects

attach_keeps : (o : Option PathLink) (a : AttachHeard) (s : PathState) → (begun_if o a s).confirms ≡ s.confirms
attach_keeps None a s = refl
attach_keeps (Some l) a s = by (l.receives && a.there)
  where
    by : (b : Bool) → (if b then begun_on l.link a.count s else s).confirms ≡ s.confirms
    by true = refl
    by false = refl

got_keeps : (o : Option PathLink) (address : List ℕ) (no_ack : Bool) (s : PathState) → (got_on o address no_ack s).confirms ≡ s.confirms
got_keeps None address no_ack s = refl
got_keeps (Some l) address no_ack s = refl

flow_keeps : (o : Option PathLink) (peer : ℕ) (count : Option ℕ) (credit : ℕ) (drain echo : Bool) (s : PathState) → (flowed_by o peer count credit drain echo s).confirms ≡ s.confirms
flow_keeps None peer count credit drain echo s = refl
flow_keeps (Some l) peer count credit drain echo s = refl

transfer_keeps : (o : Option PathLink) (part : Part) (payload : List ℕ) (image : Option Content) (again : Bool) (s : PathState) → (transferred_on o part payload image again s).confirms ≡ s.confirms
transfer_keeps None part payload image again s = refl
transfer_keeps (Some l) part payload image again s = refl

told_keeps : (b : Bool) (o : Option NextGrant) (s t : PathState) → t.confirms ≡ s.confirms → (if b then granted_by o s else t).confirms ≡ s.confirms
told_keeps true None s t e = refl
told_keeps true (Some g) s t e = refl
told_keeps false o s t e = e

disposed_keeps : (o : Option NextSettle) (s : PathState) → (disposed_by o s).confirms ≡ s.confirms
disposed_keeps None s = refl
disposed_keeps (Some x) s = refl

dropped_keeps : (o : Option PathLink) (s : PathState) → (dropped_by o s).confirms ≡ s.confirms
dropped_keeps None s = refl
dropped_keeps (Some l) s = by l.receives
  where
    by : (b : Bool) → (if b then dropped l.link s else s).confirms ≡ s.confirms
    by true = refl
    by false = refl

selects : (life : ℕ) (es : List PathEvent) → (after_events life es).confirms ≡ has_selected es
selects life [] = refl
selects life (x ∷ es) = by x (selects life es)
  where
    s : PathState
    s = after_events life es

    by : (x : PathEvent) → s.confirms ≡ has_selected es → (after_event x s).confirms ≡ has_selected (x ∷ es)
    by event.Selected e = refl
    by (event.GetAsked queue no_ack) e = got_keeps (get_link (queue_or s.queue queue) s) (queue_or s.queue queue) no_ack s ∙ e
    by (event.AttachCame a) e = attach_keeps (asked_by a s.links) a (record s { links = attached a s.links }) ∙ e
    by (event.FlowCame peer count credit drain echo) e = flow_keeps (receiver_in (named peer s.links)) peer count credit drain echo s ∙ e
    by (event.TransferCame peer part payload image again) e = transfer_keeps (taking peer s) part payload image again s ∙ e
    by event.LinkFlowSent e = told_keeps (is_grant_next s) (grant_in s) s (record s { links = told_on (flow_of s.publishes.list s.links) s.links }) refl ∙ e
    by event.DisposeSent e = disposed_keeps (next_settle_of s.deliveries.list) s ∙ e
    by event.DetachSent e = dropped_keeps (detaching_of s) (record s { links = parted (detaching_of s) s.links }) ∙ e
    by x e = e

-- ---- the numbers of the confirms

-- so many publishes stand before the first confirm.select, where there is one
record Counts (before : ℕ) (selected : Bool) (ds : List PublishEvent) : Type 0 where
  count : numbers_of ds ≡ confirms_of ds + before
  none : selected ≡ false → confirms_of ds ≡ 0
  each : (k : ℕ) → IsTaken ds k → (fate_of k ds).confirm ≡ number_for before k

quiet : (before : ℕ) (selected : Bool) (ds : List PublishEvent) (x : PublishEvent) → takes_up x ≡ false → Counts before selected ds → Counts before selected (x ∷ ds)
quiet before selected ds (TakenUp link confirm payload back) e c = absurd cc
quiet before selected ds x e c = record { count = c.count; none = c.none; each = c.each }

loses : (before : ℕ) (selected not_found : Bool) (o : Option PathLink) (ds : List PublishEvent) → Counts before selected ds → Counts before selected (losses not_found o ++ ds)
loses before selected not_found None ds c = c
loses before selected not_found (Some l) ds c = quiet before selected ds (LinkGone (Some l.link) not_found) refl c

-- the number of one behind it
behind : (before confirms count : ℕ) → count ≡ confirms + before → Some (confirms + 1) ≡ number_for before (count + 1)
behind before confirms count e = by (nat_lt before (count + 1)) refl
  where
    by : (b : Bool) → nat_lt before (count + 1) ≡ b → Some (confirms + 1) ≡ (if b then Some ((count + 1) - before) else None)
    by true g = ap Some (omega (arith, e))
    by false g = let less : count + 1 ≤ before = grind (arith, nat_tests, g) in absurd (omega (arith, less, e))

-- those before it have none
in_front : (before k : ℕ) → k ≤ before → number_for before k ≡ None
in_front before k less = by (nat_lt before k) refl
  where
    by : (b : Bool) → nat_lt before k ≡ b → (if b then Some (k - before) else None) ≡ None
    by true g = let more : before < k = grind (arith, nat_tests, g) in absurd (omega (arith, more, less))
    by false g = refl

module _ (before link : ℕ) (payload : List ℕ) (back : List (List ℕ)) (ds : List PublishEvent) where
  -- one that is taken up before
  abbrev Fated : Bool → ℕ → Bool → Option ℕ
  Fated confirm k b = (if b then new_fate link (next_number confirm (confirms_of ds)) payload back else fate_of k ds).confirm

  older : (k : ℕ) → k ≤ numbers_of ds + 1 → (k == numbers_of ds + 1) ≡ false → k ≤ numbers_of ds
  older k most e = grind (arith, nat_tests, e, most)

  confirmed : Counts before true ds → Counts before true (TakenUp link true payload back ∷ ds)
  confirmed c = record { count = (let so = c.count in omega (arith, so)); none = λ e. absurd cc; each = λ k taken. by k taken (k == numbers_of ds + 1) refl }
    where
      by : (k : ℕ) → (1 ≤ k) × (k ≤ numbers_of ds + 1) → (b : Bool) → (k == numbers_of ds + 1) ≡ b → Fated true k b ≡ number_for before k
      by k taken true e = behind before (confirms_of ds) (numbers_of ds) c.count ∙ ap (number_for before) (let same : k ≡ numbers_of ds + 1 = grind (arith, nat_tests, e) in sym same)
      by k taken false e = c.each k (taken.0, older k taken.1 e)

  unconfirmed_too : Counts before false ds → Counts (before + 1) false (TakenUp link false payload back ∷ ds)
  unconfirmed_too c = record { count = (let so = c.count in omega (arith, so)); none = c.none; each = λ k taken. by k taken (k == numbers_of ds + 1) refl }
    where
      all : numbers_of ds ≡ before
      all = let so = c.count in let zero = c.none refl in omega (arith, so, zero)

      by : (k : ℕ) → (1 ≤ k) × (k ≤ numbers_of ds + 1) → (b : Bool) → (k == numbers_of ds + 1) ≡ b → Fated false k b ≡ number_for (before + 1) k
      by k taken true e = sym (in_front (before + 1) k (let most = taken.1 in omega (arith, most, all)))
      by k taken false e =
          let less = older k taken.1 e in
          c.each k (taken.0, less) ∙ in_front before k (omega (arith, less, all)) ∙ sym (in_front (before + 1) k (omega (arith, less, all)))

-- ---- all events

counts : (life : ℕ) (es : List PathEvent) → Counts (unconfirmed es) (has_selected es) (publishes_of life es)
counts life [] = record { count = refl; none = λ e. refl; each = λ k taken. absurd (omega (arith, taken.0, taken.1)) }
counts life (x ∷ es) = by x (counts life es)
  where
    s : PathState
    s = after_events life es

    ds : List PublishEvent
    ds = publishes_of life es

    n : ℕ
    n = unconfirmed es

    b : Bool
    b = has_selected es

    taken : (link : ℕ) (payload : List ℕ) (back : List (List ℕ)) (b : Bool) → Counts n b ds → Counts (if b then n else n + 1) b (TakenUp link b payload back ∷ ds)
    taken link payload back true c = confirmed n link payload back ds c
    taken link payload back false c = unconfirmed_too n link payload back ds c

    by : (x : PathEvent) → Counts n b ds → Counts (unconfirmed (x ∷ es)) (has_selected (x ∷ es)) (publish_events s x ++ ds)
    by (event.Published address payload back) c =
        subst (λ (confirm : Bool). Counts (if b then n else n + 1) b (TakenUp (number_of (link_to (linked_to address s.links).sending address)) confirm payload back ∷ ds))
        (sym (selects life es)) (taken (number_of (link_to (linked_to address s.links).sending address)) payload back b c)
    by event.Selected c = record { count = c.count; none = λ e. absurd cc; each = c.each }
    by (event.DetachCame peer not_found) c = loses n b not_found (sender_in (named peer s.links)) ds c
    by (event.DispositionCame first last outcome settled) c = quiet n b ds (OutcomeCame first (last_or first last) outcome) refl c
    by (event.TransferSent frame count) c = quiet n b ds (frame_sent frame count s.publishes.list) refl c
    by (event.ConfirmWent confirm) c = quiet n b ds (ConfirmSent confirm) refl c
    by (event.ReturnWent number) c = quiet n b ds (ReturnSent number) refl c
    by event.LinesWent c = quiet n b ds LinesTold refl c
    by event.SessionLost c = quiet n b ds (LinkGone None false) refl c
    by event.SessionEnded c = quiet n b ds (LinkGone None false) refl c
    by event.UpLost c = quiet n b ds (LinkGone None false) refl c
    by x c = c

are_numbered : (h : List Step) → AreNumbered h
are_numbered h n life k l taken = (counts life (path_events h n)).each k taken

pub counts_from_select : (h : List Step) → CountsFromSelect h
counts_from_select [] = tt
counts_from_select (s ∷ h) = (are_numbered (s ∷ h), counts_from_select h)
