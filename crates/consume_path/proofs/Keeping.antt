-- After any events the open deliveries are those of which the journal says that something is still
-- to come, each as it says.
use Rattle.std.proofs.Common.{◌≡◌, ◌∙◌, ℕ, ◌+◌, ◌≤◌, ◌<◌, List, [], ◌∷◌, Bool, true, false}
use Rattle.std.proofs.Common.{refl, sym, ap, subst, arith, Option, Some, None, cond, map}
use Rattle.std.specs.Prelude.{not, ◌&&◌, ◌||◌, ◌==◌, is_some, filter}
use Rattle.std.specs.List.{AllByRecursion}
use Rattle.std.proofs.lemmas.Bool.Decides.{nat_tests}
use Rattle.open_items.specs.declared.lost.LostKind.TheVariants.{DeliveryLeft, DeliveryLost}
use Rattle.open_items.proofs.Filtered.{all_both, all_weaker}
use Rattle.open_items.proofs.Numbered.{rising_above}
use Rattle.open_items.proofs.Tracked.{Tracks, none_tracked, each_tracked, push_tracked}
use Rattle.consume_path.specs.declared.delivery.Arriving.{Arriving}
use Rattle.consume_path.specs.declared.delivery.Content.{Content}
use Rattle.consume_path.specs.declared.delivery.Delivery.{Delivery}
use Rattle.consume_path.specs.declared.delivery.NextSettle.{NextSettle}
use Rattle.consume_path.specs.declared.delivery.Place.TheVariants.{Held}
use Rattle.consume_path.specs.declared.delivery.Settle.{Settle}
use Rattle.consume_path.specs.declared.delivery.Settle.TheVariants.{Accepted, Released}
use Rattle.consume_path.specs.declared.delivery.Taker.{Taker}
use Rattle.consume_path.specs.Items.{is_open, is_nobody, trimmed}
use Rattle.consume_path.specs.Items.{new_delivery, first_place, owed_place, delivered, written}
use Rattle.consume_path.specs.Items.{answered, cancelled, closed, end_lost, settle_sent, link_dropped}
use Rattle.consume_path.specs.Items.{reported}
use Rattle.consume_path.specs.Deliveries.{DeliveryState, DeliveryEvent, LinkAdded, LinkAttached}
use Rattle.consume_path.specs.Deliveries.{LinkFlowed, LinkEchoed, GetCame, TransferCame, Arrived}
use Rattle.consume_path.specs.Deliveries.{LinkDropped, Delivered, Written, Answered, Cancelled}
use Rattle.consume_path.specs.Deliveries.{Closed, EndLost, PrefetchSet, GlobalSet, SettleSent}
use Rattle.consume_path.specs.Deliveries.{GrantSent, Emptied, LinesTold, after_event, after_events}
use Rattle.consume_path.specs.Journal.{Fate, fate_step, fate_of, new_fate, first_cause, numbers_of}
use Rattle.consume_path.specs.Journal.{tags_of, is_closed, global_of, arrives, delivers_one, closes}
use Rattle.consume_path.specs.Journal.{caused, passes, waits, is_written, is_uncovered}
use Rattle.consume_path.specs.Journal.{is_at_risk, is_over, is_to_come}
use Rattle.consume_path.proofs.Matching.{PlaceIs, Core, Matches, waits_test, open_test}
use Rattle.consume_path.proofs.Matching.{trim_matches}
use Rattle.consume_path.proofs.Matching.{delivered_core, written_core, answered_core, cancelled_core}
use Rattle.consume_path.proofs.Matching.{closed_core, lost_core, sent_core, dropped_core}
use Rattle.consume_path.proofs.Matching.{reported_core}

-- the numbers of the life

numbers_step : (x : DeliveryEvent) (s : DeliveryState) → (after_event x s).arrived ≡ cond (arrives x) (s.arrived + 1) s.arrived
numbers_step (LinkAdded link kind) s = refl
numbers_step (LinkAttached link count) s = refl
numbers_step (LinkFlowed link count) s = refl
numbers_step (LinkEchoed link) s = refl
numbers_step (GetCame link no_ack) s = refl
numbers_step (TransferCame link part payload) s = refl
numbers_step (Arrived a content again) s = refl
numbers_step (LinkDropped link) s = refl
numbers_step (Delivered number) s = refl
numbers_step (Written tag) s = refl
numbers_step (Answered tag multiple settle) s = refl
numbers_step (Cancelled link) s = refl
numbers_step Closed s = refl
numbers_step EndLost s = refl
numbers_step (PrefetchSet count) s = refl
numbers_step (GlobalSet count) s = refl
numbers_step (SettleSent settle) s = refl
numbers_step (GrantSent grant) s = refl
numbers_step (Emptied link) s = refl
numbers_step LinesTold s = refl

tags_step : (x : DeliveryEvent) (s : DeliveryState) → (after_event x s).tags ≡ cond (delivers_one x) (s.tags + 1) s.tags
tags_step (LinkAdded link kind) s = refl
tags_step (LinkAttached link count) s = refl
tags_step (LinkFlowed link count) s = refl
tags_step (LinkEchoed link) s = refl
tags_step (GetCame link no_ack) s = refl
tags_step (TransferCame link part payload) s = refl
tags_step (Arrived a content again) s = refl
tags_step (LinkDropped link) s = refl
tags_step (Delivered number) s = refl
tags_step (Written tag) s = refl
tags_step (Answered tag multiple settle) s = refl
tags_step (Cancelled link) s = refl
tags_step Closed s = refl
tags_step EndLost s = refl
tags_step (PrefetchSet count) s = refl
tags_step (GlobalSet count) s = refl
tags_step (SettleSent settle) s = refl
tags_step (GrantSent grant) s = refl
tags_step (Emptied link) s = refl
tags_step LinesTold s = refl

closed_step : (x : DeliveryEvent) (s : DeliveryState) → (after_event x s).closed ≡ (closes x || s.closed)
closed_step (LinkAdded link kind) s = refl
closed_step (LinkAttached link count) s = refl
closed_step (LinkFlowed link count) s = refl
closed_step (LinkEchoed link) s = refl
closed_step (GetCame link no_ack) s = refl
closed_step (TransferCame link part payload) s = refl
closed_step (Arrived a content again) s = refl
closed_step (LinkDropped link) s = refl
closed_step (Delivered number) s = refl
closed_step (Written tag) s = refl
closed_step (Answered tag multiple settle) s = refl
closed_step (Cancelled link) s = refl
closed_step Closed s = refl
closed_step EndLost s = refl
closed_step (PrefetchSet count) s = refl
closed_step (GlobalSet count) s = refl
closed_step (SettleSent settle) s = refl
closed_step (GrantSent grant) s = refl
closed_step (Emptied link) s = refl
closed_step LinesTold s = refl

pub numbers_kept : (life : ℕ) (h : List DeliveryEvent) → (after_events life h).arrived ≡ numbers_of h
numbers_kept life [] = refl
numbers_kept life (x ∷ h) = numbers_step x (after_events life h) ∙ ap (λ n. cond (arrives x) (n + 1) n) (numbers_kept life h)

pub tags_kept : (life : ℕ) (h : List DeliveryEvent) → (after_events life h).tags ≡ tags_of h
tags_kept life [] = refl
tags_kept life (x ∷ h) = tags_step x (after_events life h) ∙ ap (λ n. cond (delivers_one x) (n + 1) n) (tags_kept life h)

pub closed_kept : (life : ℕ) (h : List DeliveryEvent) → (after_events life h).closed ≡ is_closed h
closed_kept life [] = refl
closed_kept life (x ∷ h) = closed_step x (after_events life h) ∙ ap (λ b. closes x || b) (closed_kept life h)

pub global_kept : (life : ℕ) (h : List DeliveryEvent) → (after_events life h).global ≡ global_of h
global_kept life [] = refl
global_kept life (LinkAdded link kind ∷ h) = global_kept life h
global_kept life (LinkAttached link count ∷ h) = global_kept life h
global_kept life (LinkFlowed link count ∷ h) = global_kept life h
global_kept life (LinkEchoed link ∷ h) = global_kept life h
global_kept life (GetCame link no_ack ∷ h) = global_kept life h
global_kept life (TransferCame link part payload ∷ h) = global_kept life h
global_kept life (Arrived a content again ∷ h) = global_kept life h
global_kept life (LinkDropped link ∷ h) = global_kept life h
global_kept life (Delivered number ∷ h) = global_kept life h
global_kept life (Written tag ∷ h) = global_kept life h
global_kept life (Answered tag multiple settle ∷ h) = global_kept life h
global_kept life (Cancelled link ∷ h) = global_kept life h
global_kept life (Closed ∷ h) = global_kept life h
global_kept life (EndLost ∷ h) = global_kept life h
global_kept life (PrefetchSet count ∷ h) = global_kept life h
global_kept life (SettleSent settle ∷ h) = global_kept life h
global_kept life (GrantSent grant ∷ h) = global_kept life h
global_kept life (Emptied link ∷ h) = global_kept life h
global_kept life (LinesTold ∷ h) = global_kept life h
global_kept life (GlobalSet count ∷ h) = refl

-- what is needed of a content after an event was so before

pub or_into : (a b t : Bool) → (a ≡ true → t ≡ true) → (b ≡ true → t ≡ true) → (a || b) ≡ true → t ≡ true
or_into true b t f g e = f refl
or_into false b t f g e = g e

pub or_one : (a b : Bool) → a ≡ true → (a || b) ≡ true
or_one true b e = refl
or_one false b e = absurd (cc)

pub or_two : (a b : Bool) → b ≡ true → (a || b) ≡ true
or_two true b e = refl
or_two false b e = e

pub and_one : (a b : Bool) → (a && b) ≡ true → a ≡ true
and_one true b e = refl
and_one false b e = absurd (cc)

pub and_two : (a b : Bool) → (a && b) ≡ true → b ≡ true
and_two true b e = e
and_two false b e = absurd (cc)

and_both : (a b : Bool) → a ≡ true → b ≡ true → (a && b) ≡ true
and_both a b e f = rw (e, f) refl

pub caused_some : (on : Bool) (s : Settle) (due : Option Settle) → is_some due ≡ true → is_some (caused on s due) ≡ true
caused_some true s (Some t) e = refl
caused_some true s None e = absurd (cc)
caused_some false s due e = e

-- a cause leaves less to wait for
waits_caused : (on : Bool) (s : Settle) (due : Option Settle) (left t : Bool) → ((not (is_some (caused on s due)) && not left) && not t) ≡ true → ((not (is_some due) && not left) && not t) ≡ true
waits_caused true s None left t e = absurd (cc)
waits_caused true s (Some u) left t e = e
waits_caused false s due left t e = e

less_written : (t c p : Bool) → (t && not (c || p)) ≡ true → (t && not c) ≡ true
less_written t true p e = e
less_written t false true e = absurd (let no : (t && false) ≡ true = e in never t no)
  where
    never : (b : Bool) → (b && false) ≡ true → ⊥
    never true e = cc
    never false e = cc
less_written t false false e = e

abbrev needs : Fate → Bool
needs f = waits f || is_written f

pub needs_caused : (on : Bool) (s : Settle) (f : Fate) → (((not (is_some (caused on s f.due)) && not f.left) && not (is_some f.tag)) || is_written f) ≡ true → needs f ≡ true
needs_caused on s f e = or_into _ (is_written f) (needs f) (λ w. or_one (waits f) (is_written f) (waits_caused on s f.due f.left (is_some f.tag) w)) (λ w. or_two (waits f) (is_written f) w) e

pub needs_delivered : (number n : ℕ) (h : List DeliveryEvent) (f : Fate) → needs (fate_step n h (Delivered number) f) ≡ true → needs f ≡ true
needs_delivered number n h f e = by ((n == number) && waits f) refl e
  where
    by : (b : Bool) → ((n == number) && waits f) ≡ b
        → (((not (is_some f.due) && not f.left) && not (is_some (cond b (Some (tags_of h + 1)) f.tag))) || (is_some (cond b (Some (tags_of h + 1)) f.tag) && not f.complete)) ≡ true → needs f ≡ true
    by true is e = or_one (waits f) (is_written f) (and_two (n == number) (waits f) is)
    by false is e = e

pub needs_written : (tag n : ℕ) (h : List DeliveryEvent) (f : Fate) → needs (fate_step n h (Written tag) f) ≡ true → needs f ≡ true
needs_written tag n h f e = or_into _ _ (needs f)
    (λ w. or_one (waits f) (is_written f) (waits_caused _ Accepted f.due f.left (is_some f.tag) w))
    (λ w. or_two (waits f) (is_written f) (less_written (is_some f.tag) f.complete (passes (λ t. t == tag) f.tag) w)) e

pub needs_lost : (n : ℕ) (h : List DeliveryEvent) (f : Fate) → needs (fate_step n h EndLost f) ≡ true → needs f ≡ true
needs_lost n h f e = or_into _ (is_written f) (needs f) (λ w. or_one (waits f) (is_written f) (by (is_some f.due) f.left (is_uncovered f) (is_some f.tag) w)) (λ w. or_two (waits f) (is_written f) w) e
  where
    by : (d l u t : Bool) → ((not d && not (l || u)) && not t) ≡ true → ((not d && not l) && not t) ≡ true
    by true l u t e = e
    by false true u t e = e
    by false false true t e = absurd (cc)
    by false false false t e = e

-- what is still to come after an event was so before

in_first : (a b c d : Bool) → a ≡ true → (a || b || c || d) ≡ true
in_first a b c d e = or_one (a || b || c) d (or_one (a || b) c (or_one a b e))

in_second : (a b c d : Bool) → b ≡ true → (a || b || c || d) ≡ true
in_second a b c d e = or_one (a || b || c) d (or_one (a || b) c (or_two a b e))

in_third : (a b c d : Bool) → c ≡ true → (a || b || c || d) ≡ true
in_third a b c d e = or_one (a || b || c) d (or_two (a || b) c e)

in_last : (a b c d : Bool) → d ≡ true → (a || b || c || d) ≡ true
in_last a b c d e = or_two (a || b || c) d e

or_four : (a b c d t : Bool) → (a ≡ true → t ≡ true) → (b ≡ true → t ≡ true) → (c ≡ true → t ≡ true) → (d ≡ true → t ≡ true) → (a || b || c || d) ≡ true → t ≡ true
or_four a b c d t f g k l e = or_into (a || b || c) d t (λ u. or_into (a || b) c t (λ v. or_into a b t f g v) k u) l e

module _ (f : Fate) where
  pub over_comes : not (is_over f) ≡ true → is_to_come f ≡ true
  over_comes e = in_first (not (is_over f)) (is_written f) (is_at_risk f) (is_some f.line) e

  pub written_comes : is_written f ≡ true → is_to_come f ≡ true
  written_comes e = in_second (not (is_over f)) (is_written f) (is_at_risk f) (is_some f.line) e

  pub risk_comes : is_at_risk f ≡ true → is_to_come f ≡ true
  risk_comes e = in_third (not (is_over f)) (is_written f) (is_at_risk f) (is_some f.line) e

  pub line_comes : is_some f.line ≡ true → is_to_come f ≡ true
  line_comes e = in_last (not (is_over f)) (is_written f) (is_at_risk f) (is_some f.line) e

not_over_caused : (left on : Bool) (s : Settle) (due : Option Settle) (x : Bool) → not (left || (is_some (caused on s due) && x)) ≡ true → not (left || (is_some due && x)) ≡ true
not_over_caused left true s None x e = by left x e
  where
    by : (l x : Bool) → not (l || x) ≡ true → not (l || false) ≡ true
    by true x e = e
    by false true e = absurd (cc)
    by false false e = e
not_over_caused left true s (Some t) x e = e
not_over_caused left false s due x e = e

caused_before : (on : Bool) (s : Settle) (f : Fate) → not (f.left || (is_some (caused on s f.due) && (f.settled || f.sent))) ≡ true → is_to_come f ≡ true
caused_before on s f e = over_comes f (not_over_caused f.left on s f.due (f.settled || f.sent) e)

delivered_before : (number n : ℕ) (h : List DeliveryEvent) (f : Fate) → is_to_come (fate_step n h (Delivered number) f) ≡ true → is_to_come f ≡ true
delivered_before number n h f e = or_four _ _ _ _ (is_to_come f) (over_comes f) (λ w. by ((n == number) && waits f) refl w) (risk_comes f) (line_comes f) e
  where
    waiting : (d : Option Settle) (l t x : Bool) → ((not (is_some d) && not l) && not t) ≡ true → not (l || (is_some d && x)) ≡ true
    waiting None true t x e = absurd (cc)
    waiting None false t x e = refl
    waiting (Some s) l t x e = absurd (cc)

    by : (b : Bool) → ((n == number) && waits f) ≡ b → (is_some (cond b (Some (tags_of h + 1)) f.tag) && not f.complete) ≡ true → is_to_come f ≡ true
    by true is w = over_comes f (waiting f.due f.left (is_some f.tag) (f.settled || f.sent) (and_two (n == number) (waits f) is))
    by false is w = written_comes f w

less_risk : (s c p z : Bool) → ((s && not (c || p)) && not z) ≡ true → ((s && not c) && not z) ≡ true
less_risk s true p z e = e
less_risk s false true z e = absurd (let no : (s && false) ≡ true = and_one (s && false) (not z) e in never s no)
  where
    never : (b : Bool) → (b && false) ≡ true → ⊥
    never true e = cc
    never false e = cc
less_risk s false false z e = e

written_before : (tag n : ℕ) (h : List DeliveryEvent) (f : Fate) → is_to_come (fate_step n h (Written tag) f) ≡ true → is_to_come f ≡ true
written_before tag n h f e = or_four _ _ _ _ (is_to_come f)
    (caused_before _ Accepted f)
    (λ w. written_comes f (less_written (is_some f.tag) f.complete (passes (λ t. t == tag) f.tag) w))
    (λ w. risk_comes f (less_risk f.settled f.complete (passes (λ t. t == tag) f.tag) f.closed w)) (line_comes f) e

answered_before : (tag : ℕ) (multiple : Bool) (s : Settle) (n : ℕ) (h : List DeliveryEvent) (f : Fate) → is_to_come (fate_step n h (Answered tag multiple s) f) ≡ true → is_to_come f ≡ true
answered_before tag multiple s n h f e = or_four _ _ _ _ (is_to_come f) (caused_before _ s f) (written_comes f) (risk_comes f) (line_comes f) e

cancelled_before : (link n : ℕ) (h : List DeliveryEvent) (f : Fate) → is_to_come (fate_step n h (Cancelled link) f) ≡ true → is_to_come f ≡ true
cancelled_before link n h f e = or_four _ _ _ _ (is_to_come f) (caused_before _ Released f) (written_comes f) (risk_comes f) (line_comes f) e

closed_before : (n : ℕ) (h : List DeliveryEvent) (f : Fate) → is_to_come (fate_step n h Closed f) ≡ true → is_to_come f ≡ true
closed_before n h f e = or_four _ _ _ _ (is_to_come f) (caused_before true Released f) (written_comes f) (λ w. absurd (never (f.settled && not f.complete) w)) (λ l. by (is_at_risk f) refl l) e
  where
    never : (b : Bool) → (b && false) ≡ true → ⊥
    never true e = cc
    never false e = cc

    by : (b : Bool) → is_at_risk f ≡ b → is_some (cond b (Some DeliveryLost) f.line) ≡ true → is_to_come f ≡ true
    by true is l = risk_comes f is
    by false is l = line_comes f l

lost_before : (n : ℕ) (h : List DeliveryEvent) (f : Fate) → is_to_come (fate_step n h EndLost f) ≡ true → is_to_come f ≡ true
lost_before n h f e = or_four _ _ _ _ (is_to_come f) (λ o. over_comes f (less f.left (is_uncovered f) (is_some f.due && (f.settled || f.sent)) o)) (written_comes f) (risk_comes f) (λ l. by (is_uncovered f) refl l) e
  where
    less : (a u c : Bool) → not ((a || u) || c) ≡ true → not (a || c) ≡ true
    less true u c e = e
    less false true c e = absurd (cc)
    less false false c e = e

    uncovered : (s t l d : Bool) → ((not s && not t) && not l) ≡ true → not (l || (d && (s || t))) ≡ true
    uncovered true t l d e = absurd (cc)
    uncovered false true l d e = absurd (cc)
    uncovered false false true d e = absurd (cc)
    uncovered false false false true e = refl
    uncovered false false false false e = refl

    by : (b : Bool) → is_uncovered f ≡ b → is_some (cond b (Some DeliveryLeft) f.line) ≡ true → is_to_come f ≡ true
    by true is l = over_comes f (uncovered f.settled f.sent f.left (is_some f.due) is)
    by false is l = line_comes f l

sent_before : (s : NextSettle) (n : ℕ) (h : List DeliveryEvent) (f : Fate) → is_to_come (fate_step n h (SettleSent s) f) ≡ true → is_to_come f ≡ true
sent_before s n h f e = or_four _ _ _ _ (is_to_come f) (λ o. over_comes f (less f.left (is_some f.due) f.settled f.sent _ o)) (written_comes f) (risk_comes f) (line_comes f) e
  where
    less : (a b c d x : Bool) → not (a || (b && (c || (d || x)))) ≡ true → not (a || (b && (c || d))) ≡ true
    less true b c d x e = e
    less false false c d x e = e
    less false true true d x e = e
    less false true false true x e = e
    less false true false false x e = refl

told_before : (n : ℕ) (h : List DeliveryEvent) (f : Fate) → is_to_come (fate_step n h LinesTold f) ≡ true → is_to_come f ≡ true
told_before n h f e = or_four _ _ _ _ (is_to_come f) (over_comes f) (written_comes f) (risk_comes f) (λ l. absurd (cc)) e

-- an arrival

arrived_place : (closed image settled : Bool) (taker : Taker) → PlaceIs (first_place closed image settled taker) settled (first_cause closed image taker) false false None false
arrived_place closed false true taker = refl
arrived_place closed false false taker = (refl, refl, refl, refl)
arrived_place closed true settled taker = by (closed || is_nobody taker) settled
  where
    by : (b settled : Bool) → PlaceIs (cond b (owed_place settled Released) Held) settled (cond b (Some Released) None) false false None false
    by true true = refl
    by true false = (refl, refl, refl, refl)
    by false settled = (refl, refl, refl, refl, refl)

new_core : (closed : Bool) (number : ℕ) (a : Arriving) (content : Option Content) (again : Bool) → Core (new_delivery closed number a content again) (new_fate closed a content again)
new_core closed number a content again = record {
  link = refl;
  id = refl;
  settled = refl;
  again = refl;
  taker = refl;
  tag = refl;
  place = arrived_place closed (is_some content) a.settled a.taker;
  writing = refl;
  at_risk = ap (λ b. b && not closed) (sym (and_true a.settled));
  line = refl;
}
  where
    and_true : (b : Bool) → (b && true) ≡ b
    and_true true = refl
    and_true false = refl

new_matches : (closed : Bool) (number : ℕ) (a : Arriving) (content : Option Content) (again : Bool) → Matches (new_delivery closed number a content again) (new_fate closed a content again)
new_matches closed number a content again =
    let core = new_core closed number a content again in
    record {
      core = core;
      content = ap (λ b. cond (b || false) content None) (waits_test (new_delivery closed number a content again) (new_fate closed a content again) core);
    }

-- the list

abbrev pub number_of : Delivery → ℕ
number_of d = d.number

abbrev pub Follows : List DeliveryEvent → List Delivery → Type 0
Follows h list = Tracks number_of Matches is_to_come (λ n. fate_of n h) (numbers_of h) list

opens : (d : Delivery) (f : Fate) → Matches d f → is_to_come f ≡ true → is_open d ≡ true
opens d f m e = open_test d f m.core ∙ e

-- an event that changes each delivery by itself, and leaves its content where it is
each_follows : (g : Delivery → Delivery) (h : List DeliveryEvent) (x : DeliveryEvent) (list : List Delivery)
    → ((d : Delivery) → (g d).number ≡ d.number) → ((d : Delivery) → (g d).content ≡ d.content)
    → ((n : ℕ) (f : Fate) → (fate_step n h x f).content ≡ f.content)
    → ((n : ℕ) (f : Fate) → needs (fate_step n h x f) ≡ true → needs f ≡ true)
    → ((n : ℕ) (f : Fate) → is_to_come (fate_step n h x f) ≡ true → is_to_come f ≡ true)
    → numbers_of (x ∷ h) ≡ numbers_of h
    → ((d : Delivery) (f : Fate) → Core d f → Core (g d) (fate_step d.number h x f))
    → Follows h list → Follows (x ∷ h) (filter is_open (map (λ d. trimmed (g d)) list))
each_follows g h x list same keeps told needed before count core k =
    subst (λ n. Tracks number_of Matches is_to_come (λ i. fate_of i (x ∷ h)) n (filter is_open (map (λ d. trimmed (g d)) list))) (sym count)
    (each_tracked number_of Matches is_to_come is_open (λ d. trimmed (g d)) (λ n. fate_of n h) (λ n. fate_of n (x ∷ h)) (numbers_of h) list same opens
    (λ d m. trim_matches d (g d) (fate_of d.number h) (fate_of d.number (x ∷ h)) m (core d (fate_of d.number h) m.core) (keeps d) (told d.number (fate_of d.number h)) (needed d.number (fate_of d.number h)))
    (λ i e. before i (fate_of i h) e) k)

pub follows : (life : ℕ) (h : List DeliveryEvent) → Follows h (after_events life h).list
follows life [] = none_tracked number_of Matches is_to_come (λ n. fate_of n [])
follows life (LinkAdded link kind ∷ h) = follows life h
follows life (LinkAttached link count ∷ h) = follows life h
follows life (LinkFlowed link count ∷ h) = follows life h
follows life (LinkEchoed link ∷ h) = follows life h
follows life (GetCame link no_ack ∷ h) = follows life h
follows life (TransferCame link part payload ∷ h) = follows life h
follows life (Arrived a content again ∷ h) =
    push_tracked number_of Matches is_to_come (λ n. fate_of n h) (λ n. fate_of n (Arrived a content again ∷ h)) (numbers_of h) s.list (new_delivery s.closed (s.arrived + 1) a content again)
    (ap (λ n. n + 1) (numbers_kept life h)) old new (follows life h)
  where
    s : DeliveryState
    s = after_events life h

    old : (k : ℕ) → k ≤ numbers_of h → fate_of k (Arrived a content again ∷ h) ≡ fate_of k h
    old k le = let other : (k == numbers_of h + 1) ≡ false = grind (arith, nat_tests) in rw other refl

    new : Matches (new_delivery s.closed (s.arrived + 1) a content again) (fate_of (numbers_of h + 1) (Arrived a content again ∷ h))
    new =
        let this : (numbers_of h + 1 == numbers_of h + 1) ≡ true = grind (arith, nat_tests) in
        rw this (subst (λ b. Matches (new_delivery s.closed (s.arrived + 1) a content again) (new_fate b a content again)) (closed_kept life h) (new_matches s.closed (s.arrived + 1) a content again))
follows life (LinkDropped link ∷ h) =
    each_follows (link_dropped link) h (LinkDropped link) (after_events life h).list (λ d. refl) (λ d. refl) (λ n f. refl) (λ n f e. e) (λ n f e. e) refl (λ d f m. dropped_core link d h f m) (follows life h)
follows life (Delivered number ∷ h) =
    subst (λ t. Follows (Delivered number ∷ h) (filter is_open (map (λ d. trimmed (delivered number (t + 1) d)) (after_events life h).list))) (sym (tags_kept life h))
    (each_follows (delivered number (tags_of h + 1)) h (Delivered number) (after_events life h).list (λ d. refl) (λ d. refl) (λ n f. refl) (λ n f e. needs_delivered number n h f e) (λ n f e. delivered_before number n h f e) refl (λ d f m. delivered_core number d h f m) (follows life h))
follows life (Written tag ∷ h) =
    each_follows (written tag) h (Written tag) (after_events life h).list (λ d. refl) (λ d. refl) (λ n f. refl) (λ n f e. needs_written tag n h f e) (λ n f e. written_before tag n h f e) refl (λ d f m. written_core tag d h f m) (follows life h)
follows life (Answered tag multiple s ∷ h) =
    each_follows (answered tag multiple s) h (Answered tag multiple s) (after_events life h).list (λ d. refl) (λ d. refl) (λ n f. refl) (λ n f e. needs_caused _ s f e) (λ n f e. answered_before tag multiple s n h f e) refl (λ d f m. answered_core tag multiple s d h f m) (follows life h)
follows life (Cancelled link ∷ h) =
    each_follows (cancelled link) h (Cancelled link) (after_events life h).list (λ d. refl) (λ d. refl) (λ n f. refl) (λ n f e. needs_caused _ Released f e) (λ n f e. cancelled_before link n h f e) refl (λ d f m. cancelled_core link d h f m) (follows life h)
follows life (Closed ∷ h) =
    each_follows closed h Closed (after_events life h).list (λ d. refl) (λ d. refl) (λ n f. refl) (λ n f e. needs_caused true Released f e) (λ n f e. closed_before n h f e) refl (λ d f m. closed_core d h f m) (follows life h)
follows life (EndLost ∷ h) =
    each_follows end_lost h EndLost (after_events life h).list (λ d. refl) (λ d. refl) (λ n f. refl) (λ n f e. needs_lost n h f e) (λ n f e. lost_before n h f e) refl (λ d f m. lost_core d h f m) (follows life h)
follows life (PrefetchSet count ∷ h) = follows life h
follows life (GlobalSet count ∷ h) = follows life h
follows life (SettleSent s ∷ h) =
    each_follows (settle_sent s) h (SettleSent s) (after_events life h).list (λ d. refl) (λ d. refl) (λ n f. refl) (λ n f e. e) (λ n f e. sent_before s n h f e) refl (λ d f m. sent_core s d h f m) (follows life h)
follows life (GrantSent grant ∷ h) = follows life h
follows life (Emptied link ∷ h) = follows life h
follows life (LinesTold ∷ h) =
    each_follows reported h LinesTold (after_events life h).list (λ d. refl) (λ d. refl) (λ n f. refl) (λ n f e. e) (λ n f e. told_before n h f e) refl (λ d f m. reported_core d h f m) (follows life h)

-- what is known of each delivery in the list
pub record Stands (h : List DeliveryEvent) (d : Delivery) : Type 0 where
  pub positive : 1 ≤ d.number
  pub taken : d.number ≤ numbers_of h
  pub matches : Matches d (fate_of d.number h)

pub stand : (life : ℕ) (h : List DeliveryEvent) → AllByRecursion (Stands h) (after_events life h).list
stand life h =
    let k = follows life h in
    all_weaker _ (Stands h) (λ d a. let up : 0 < d.number = a.0.0 in record { positive = omega arith; taken = a.0.1; matches = a.1 }) (after_events life h).list
    (all_both _ _ (after_events life h).list (all_both _ _ (after_events life h).list (rising_above number_of 0 (after_events life h).list k.rising) k.within) k.matches)
