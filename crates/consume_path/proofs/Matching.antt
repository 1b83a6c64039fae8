-- An open delivery is as the journal says of its number, and stays so at each event.
use Rattle.std.proofs.Common.{◌≡◌, ◌∙◌, ℕ, ◌+◌, List, Bool, true, false, refl, sym, ap}
use Rattle.std.proofs.Common.{Option, Some, None, cond}
use Rattle.std.specs.Prelude.{not, ◌&&◌, ◌||◌, ◌==◌, is_some}
use Rattle.consume_path.specs.declared.delivery.Content.{Content}
use Rattle.consume_path.specs.declared.delivery.Delivery.{Delivery}
use Rattle.consume_path.specs.declared.delivery.NextSettle.{NextSettle}
use Rattle.consume_path.specs.declared.delivery.Place.{Place}
use Rattle.consume_path.specs.declared.delivery.Place.TheVariants.{Held, Out, Owed, Settled}
use Rattle.consume_path.specs.declared.delivery.Settle.{Settle}
use Rattle.consume_path.specs.declared.delivery.Settle.TheVariants.{Accepted, Released}
use Rattle.consume_path.specs.Items.{is_held, is_out, owes, owed_settle, owes_as, is_same, is_that}
use Rattle.consume_path.specs.Items.{is_no_ack, is_on, is_open, trimmed}
use Rattle.consume_path.specs.Items.{owed_place, delivered, written, in_tag, answered, cancelled}
use Rattle.consume_path.specs.Items.{closed, is_left, end_lost, in_range, settle_sent, without_link}
use Rattle.consume_path.specs.Items.{link_dropped, reported}
use Rattle.consume_path.specs.Deliveries.{DeliveryEvent, LinkDropped, Delivered, Written}
use Rattle.consume_path.specs.Deliveries.{Answered, Cancelled, Closed, EndLost, SettleSent}
use Rattle.consume_path.specs.Deliveries.{LinesTold}
use Rattle.consume_path.specs.Journal.{Fate, fate_step, tags_of, caused, passes, is_pending, waits}
use Rattle.consume_path.specs.Journal.{is_written, is_owed, is_uncovered, is_at_risk, is_over}

-- where it is, and what the journal says: whether it came settled, the first cause of a
-- disposition, whether that went or can't go any more, its tag, and whether it is complete
abbrev pub PlaceIs : Place → Bool → Option Settle → Bool → Bool → Option ℕ → Bool → Type 0
PlaceIs Held settled due sent left tag complete =
    (due ≡ None) × (sent ≡ false) × (left ≡ false) × (tag ≡ None) × (complete ≡ false)
PlaceIs Out settled due sent left tag complete =
    (due ≡ None) × (sent ≡ false) × (left ≡ false) × (is_some tag ≡ true)
PlaceIs (Owed s) settled due sent left tag complete =
    (due ≡ Some s) × (sent ≡ false) × (left ≡ false) × (settled ≡ false)
PlaceIs Settled settled due sent left tag complete =
    (left || (is_some due && (settled || sent))) ≡ true

abbrev pub tag_or : Option ℕ → ℕ
tag_or None = 0
tag_or (Some tag) = tag

-- all but its content
pub record Core (d : Delivery) (f : Fate) : Type 0 where
  pub link : d.link ≡ f.link
  pub id : d.id ≡ f.id
  pub settled : d.settled ≡ f.settled
  pub again : d.again ≡ f.again
  pub taker : d.taker ≡ f.taker
  pub tag : d.tag ≡ tag_or f.tag
  pub place : PlaceIs d.place f.settled f.due f.sent f.left f.tag f.complete
  pub writing : d.writing ≡ is_written f
  pub at_risk : d.at_risk ≡ is_at_risk f
  pub line : d.line ≡ f.line

pub record Matches (d : Delivery) (f : Fate) : Type 0 where
  pub core : Core d f
  pub content : d.content ≡ cond (waits f || is_written f) f.content None

-- Booleans

or_false : (b : Bool) → (b || false) ≡ b
or_false true = refl
or_false false = refl

or_true : (b : Bool) → (b || true) ≡ true
or_true true = refl
or_true false = refl

and_false : (b : Bool) → (b && false) ≡ false
and_false true = refl
and_false false = refl

and_true : (b : Bool) → (b && true) ≡ b
and_true true = refl
and_true false = refl

-- tests of a place

waits_is : (place : Place) (settled : Bool) (due : Option Settle) (sent left : Bool) (tag : Option ℕ) (complete : Bool) → PlaceIs place settled due sent left tag complete
    → is_held place ≡ ((not (is_some due) && not left) && not (is_some tag))
waits_is Held settled due sent left tag complete m = rw (m.0, m.2, m.3) refl
waits_is Out settled due sent left tag complete m = rw (m.0, m.2, m.3) refl
waits_is (Owed s) settled due sent left tag complete m = rw m.0 refl
waits_is Settled settled (Some s) sent left tag complete m = refl
waits_is Settled settled None sent true tag complete m = refl
waits_is Settled settled None sent false tag complete m = absurd (cc)

pub waits_test : (d : Delivery) (f : Fate) → Core d f → is_held d.place ≡ waits f
waits_test d f m = waits_is d.place f.settled f.due f.sent f.left f.tag f.complete m.place

out_is : (place : Place) (settled : Bool) (due : Option Settle) (sent left : Bool) (tag : Option ℕ) (complete : Bool) → PlaceIs place settled due sent left tag complete
    → is_out place ≡ ((not (is_some due) && not left) && is_some tag)
out_is Held settled due sent left tag complete m = rw (m.0, m.2, m.3) refl
out_is Out settled due sent left tag complete m = rw (m.0, m.2, m.3) refl
out_is (Owed s) settled due sent left tag complete m = rw m.0 refl
out_is Settled settled (Some s) sent left tag complete m = refl
out_is Settled settled None sent true tag complete m = refl
out_is Settled settled None sent false tag complete m = absurd (cc)

pub out_test : (d : Delivery) (f : Fate) → Core d f → is_out d.place ≡ (is_pending f && is_some f.tag)
out_test d f m = out_is d.place f.settled f.due f.sent f.left f.tag f.complete m.place

owed_is : (place : Place) (settled : Bool) (due : Option Settle) (sent left : Bool) (tag : Option ℕ) (complete : Bool) → PlaceIs place settled due sent left tag complete
    → owes place ≡ (((is_some due && not settled) && not sent) && not left)
owed_is Held settled due sent left tag complete m = rw m.0 refl
owed_is Out settled due sent left tag complete m = rw m.0 refl
owed_is (Owed s) settled due sent left tag complete m = rw (m.0, m.1, m.2, m.3) refl
owed_is Settled settled due sent true tag complete m = sym (and_false _)
owed_is Settled settled None sent false tag complete m = absurd (cc)
owed_is Settled true (Some s) sent false tag complete m = refl
owed_is Settled false (Some s) true false tag complete m = refl
owed_is Settled false (Some s) false false tag complete m = absurd (cc)

pub owed_test : (d : Delivery) (f : Fate) → Core d f → owes d.place ≡ is_owed f
owed_test d f m = owed_is d.place f.settled f.due f.sent f.left f.tag f.complete m.place

-- what is owed is the first cause
owed_due : (place : Place) (settled : Bool) (due : Option Settle) (sent left : Bool) (tag : Option ℕ) (complete : Bool) → PlaceIs place settled due sent left tag complete
    → owes place ≡ true → owed_settle place ≡ due
owed_due Held settled due sent left tag complete m e = absurd (cc)
owed_due Out settled due sent left tag complete m e = absurd (cc)
owed_due (Owed s) settled due sent left tag complete m e = sym m.0
owed_due Settled settled due sent left tag complete m e = absurd (cc)

pub owed_cause : (d : Delivery) (f : Fate) → Core d f → owes d.place ≡ true → owed_settle d.place ≡ f.due
owed_cause d f m e = owed_due d.place f.settled f.due f.sent f.left f.tag f.complete m.place e

left_is : (place : Place) (settled : Bool) (due : Option Settle) (sent left : Bool) (tag : Option ℕ) (complete : Bool) → PlaceIs place settled due sent left tag complete
    → (not settled && (is_held place || is_out place || owes place)) ≡ ((not settled && not sent) && not left)
left_is Held true due sent left tag complete m = refl
left_is Held false due sent left tag complete m = rw (m.1, m.2) refl
left_is Out true due sent left tag complete m = refl
left_is Out false due sent left tag complete m = rw (m.1, m.2) refl
left_is (Owed s) true due sent left tag complete m = refl
left_is (Owed s) false due sent left tag complete m = rw (m.1, m.2) refl
left_is Settled true due sent left tag complete m = refl
left_is Settled false due sent true tag complete m = sym (and_false _)
left_is Settled false None sent false tag complete m = absurd (cc)
left_is Settled false (Some s) true false tag complete m = refl
left_is Settled false (Some s) false false tag complete m = absurd (cc)

pub left_test : (d : Delivery) (f : Fate) → Core d f → is_left d ≡ is_uncovered f
left_test d f m =
    ap (λ b. not b && (is_held d.place || is_out d.place || owes d.place)) m.settled ∙ left_is d.place f.settled f.due f.sent f.left f.tag f.complete m.place

over_is : (place : Place) (settled : Bool) (due : Option Settle) (sent left : Bool) (tag : Option ℕ) (complete : Bool) → PlaceIs place settled due sent left tag complete
    → (is_held place || is_out place || owes place) ≡ not (left || (is_some due && (settled || sent)))
over_is Held settled due sent left tag complete m = rw (m.0, m.2) refl
over_is Out settled due sent left tag complete m = rw (m.0, m.2) refl
over_is (Owed s) settled due sent left tag complete m = rw (m.0, m.1, m.2, m.3) refl
over_is Settled settled due sent left tag complete m = rw m refl

-- an open delivery is one for which something is to come
pub open_test : (d : Delivery) (f : Fate) → Core d f → is_open d ≡ (not (is_over f) || is_written f || is_at_risk f || is_some f.line)
open_test d f m =
    ap (λ b. b || d.writing || d.at_risk || is_some d.line) (over_is d.place f.settled f.due f.sent f.left f.tag f.complete m.place)
    ∙ ap (λ b. not (is_over f) || b || d.at_risk || is_some d.line) m.writing ∙ ap (λ b. not (is_over f) || is_written f || b || is_some d.line) m.at_risk
    ∙ ap (λ l. not (is_over f) || is_written f || is_at_risk f || is_some l) m.line

-- its content is kept while it is needed

kept_content : (now before : Bool) (c : Option Content) → (now ≡ true → before ≡ true) → cond now (cond before c None) None ≡ cond now c None
kept_content true before c only = ap (λ b. cond b c None) (only refl)
kept_content false before c only = refl

-- a change that leaves the content where it is
pub trim_matches : (d next : Delivery) (f later : Fate) → Matches d f → Core next later → next.content ≡ d.content → later.content ≡ f.content
    → ((waits later || is_written later) ≡ true → (waits f || is_written f) ≡ true) → Matches (trimmed next) later
trim_matches d next f later m core same told only = record {
  core = record {
    link = core.link;
    id = core.id;
    settled = core.settled;
    again = core.again;
    taker = core.taker;
    tag = core.tag;
    place = core.place;
    writing = core.writing;
    at_risk = core.at_risk;
    line = core.line;
  };
  content =
      ap (λ b. cond (b || next.writing) next.content None) (waits_test next later core) ∙ ap (λ b. cond (waits later || b) next.content None) core.writing
      ∙ ap (λ c. cond (waits later || is_written later) c None) (same ∙ m.content) ∙ kept_content (waits later || is_written later) (waits f || is_written f) f.content only
      ∙ ap (λ c. cond (waits later || is_written later) c None) (sym told);
}

-- a cause of a disposition

over_caused : (left on x : Bool) (s : Settle) (due : Option Settle) → (left || (is_some due && x)) ≡ true → (left || (is_some (caused on s due) && x)) ≡ true
over_caused true on x s due e = refl
over_caused false true x s (Some t) e = e
over_caused false true x s None e = absurd (cc)
over_caused false false x s due e = e

owed_settled : (settled : Bool) (s : Settle) (sent left : Bool) (tag : Option ℕ) (complete : Bool) → sent ≡ false → left ≡ false → PlaceIs (owed_place settled s) settled (Some s) sent left tag complete
owed_settled true s sent left tag complete e f = or_true left
owed_settled false s sent left tag complete e f = (refl, e, f, refl)

-- it becomes due where the test passes, of one that is held or out
cause_place : (place : Place) (settled : Bool) (due : Option Settle) (sent left : Bool) (tag : Option ℕ) (complete later : Bool) (s : Settle) (on test : Bool)
    → PlaceIs place settled due sent left tag complete → (is_held place ≡ true → later ≡ complete)
    → ((is_held place || is_out place) ≡ true → on ≡ test) → ((is_held place || is_out place) ≡ false → on ≡ false)
    → PlaceIs (cond on (owed_place settled s) place) settled (caused test s due) sent left tag later
cause_place Held settled due sent left tag complete later s on test m stays same none = rw (same refl) (by test)
  where
    by : (b : Bool) → PlaceIs (cond b (owed_place settled s) Held) settled (caused b s due) sent left tag later
    by true = rw m.0 (owed_settled settled s sent left tag later m.1 m.2)
    by false = (m.0, m.1, m.2, m.3, stays refl ∙ m.4)
cause_place Out settled due sent left tag complete later s on test m stays same none = rw (same refl) (by test)
  where
    by : (b : Bool) → PlaceIs (cond b (owed_place settled s) Out) settled (caused b s due) sent left tag later
    by true = rw m.0 (owed_settled settled s sent left tag later m.1 m.2)
    by false = m
cause_place (Owed t) settled due sent left tag complete later s on test m stays same none = rw (none refl) (by test)
  where
    by : (b : Bool) → PlaceIs (Owed t) settled (caused b s due) sent left tag later
    by true = (rw m.0 refl, m.1, m.2, m.3)
    by false = m
cause_place Settled settled due sent left tag complete later s on test m stays same none = rw (none refl) (over_caused left test (settled || sent) s due m)

and_right : (a b : Bool) → (a && b) ≡ true → b ≡ true
and_right true b e = e
and_right false b e = absurd (cc)

held_complete : (place : Place) (settled : Bool) (due : Option Settle) (sent left : Bool) (tag : Option ℕ) (complete : Bool) → PlaceIs place settled due sent left tag complete → is_held place ≡ true → complete ≡ false
held_complete Held settled due sent left tag complete m e = m.4
held_complete Out settled due sent left tag complete m e = absurd (cc)
held_complete (Owed s) settled due sent left tag complete m e = absurd (cc)
held_complete Settled settled due sent left tag complete m e = absurd (cc)

-- its deliver begins

deliver_place : (place : Place) (settled : Bool) (due : Option Settle) (sent left : Bool) (tag : Option ℕ) (complete : Bool) (on : Bool) (t : ℕ) → PlaceIs place settled due sent left tag complete
    → PlaceIs (cond (on && is_held place) Out place) settled due sent left (cond (on && ((not (is_some due) && not left) && not (is_some tag))) (Some t) tag) complete
deliver_place Held settled due sent left tag complete on t m = rw (m.0, m.2, m.3) (by on)
  where
    by : (b : Bool) → PlaceIs (cond (b && true) Out Held) settled None sent false (cond (b && true) (Some t) None) complete
    by true = (refl, m.1, refl, refl)
    by false = (refl, m.1, refl, refl, m.4)
deliver_place Out settled due sent left tag complete on t m = rw (m.0, m.2, m.3) (by on)
  where
    by : (b : Bool) → PlaceIs (cond (b && false) Out Out) settled None sent false (cond (b && false) (Some t) tag) complete
    by true = (refl, m.1, refl, m.3)
    by false = (refl, m.1, refl, m.3)
deliver_place (Owed s) settled due sent left tag complete on t m = rw m.0 (by on)
  where
    by : (b : Bool) → PlaceIs (cond (b && false) Out (Owed s)) settled (Some s) sent left (cond (b && false) (Some t) tag) complete
    by true = (refl, m.1, m.2, m.3)
    by false = (refl, m.1, m.2, m.3)
deliver_place Settled settled due sent left tag complete on t m = rw (and_false on) m

pub delivered_core : (number : ℕ) (d : Delivery) (h : List DeliveryEvent) (f : Fate) → Core d f → Core (delivered number (tags_of h + 1) d) (fate_step d.number h (Delivered number) f)
delivered_core number d h f m = record {
  link = m.link;
  id = m.id;
  settled = m.settled;
  again = m.again;
  taker = m.taker;
  tag = rw held (new_tag ((d.number == number) && waits f));
  place = deliver_place d.place f.settled f.due f.sent f.left f.tag f.complete (d.number == number) (tags_of h + 1) m.place;
  writing = rw held (new_writing ((d.number == number) && waits f) refl);
  at_risk = m.at_risk;
  line = m.line;
}
  where
    held : is_held d.place ≡ waits f
    held = waits_test d f m

    new_tag : (b : Bool) → cond b (tags_of h + 1) d.tag ≡ tag_or (cond b (Some (tags_of h + 1)) f.tag)
    new_tag true = refl
    new_tag false = m.tag

    new_writing : (on : Bool) → ((d.number == number) && waits f) ≡ on → (d.writing || on) ≡ (is_some (cond on (Some (tags_of h + 1)) f.tag) && not f.complete)
    new_writing true e =
        let whole : f.complete ≡ false = held_complete d.place f.settled f.due f.sent f.left f.tag f.complete m.place (held ∙ and_right (d.number == number) (waits f) e) in
        rw whole (or_true d.writing)
    new_writing false e = or_false d.writing ∙ m.writing

-- its content is complete

written_with : (tag : Option ℕ) (k t : ℕ) (w c : Bool) → t ≡ tag_or tag → w ≡ (is_some tag && not c) → ((t == k) && w) ≡ ((is_some tag && not c) && passes (λ i. i == k) tag)
written_with None k t w c e f = rw f (and_false (t == k))
written_with (Some i) k t w c e f = rw (e, f) (by (i == k) c)
  where
    by : (a c : Bool) → (a && not c) ≡ (not c && a)
    by true true = refl
    by true false = refl
    by false true = refl
    by false false = refl

still_written : (tag : Option ℕ) (k : ℕ) (c w : Bool) → w ≡ (is_some tag && not c) → (w && not ((is_some tag && not c) && passes (λ i. i == k) tag)) ≡ (is_some tag && not (c || passes (λ i. i == k) tag))
still_written None k c w e = rw e refl
still_written (Some i) k c w e = rw e (by c (i == k))
  where
    by : (c a : Bool) → (not c && not (not c && a)) ≡ not (c || a)
    by true a = refl
    by false a = refl

still_at_risk : (tag : Option ℕ) (k : ℕ) (settled c closed r : Bool) → r ≡ ((settled && not c) && not closed) → (r && not ((is_some tag && not c) && passes (λ i. i == k) tag)) ≡ ((settled && not (c || passes (λ i. i == k) tag)) && not closed)
still_at_risk None k settled c closed r e = rw (e, or_false c) (and_true _)
still_at_risk (Some i) k settled c closed r e = rw e (by settled c closed (i == k))
  where
    by : (s c z a : Bool) → (((s && not c) && not z) && not (not c && a)) ≡ ((s && not (c || a)) && not z)
    by false c z a = refl
    by true true z a = refl
    by true false z true = and_false (not z)
    by true false z false = and_true (not z)

pub written_core : (k : ℕ) (d : Delivery) (h : List DeliveryEvent) (f : Fate) → Core d f → Core (written k d) (fate_step d.number h (Written k) f)
written_core k d h f m = record {
  link = m.link;
  id = m.id;
  settled = m.settled;
  again = m.again;
  taker = m.taker;
  tag = m.tag;
  place = rw (m.settled, m.taker, writes) (cause_place d.place f.settled f.due f.sent f.left f.tag f.complete (f.complete || now) Accepted ((on && is_out d.place) && is_no_ack f.taker) (is_no_ack f.taker && on) m.place (stays d.place m.place) (same d.place m.place) (none d.place));
  writing = rw writes (still_written f.tag k f.complete d.writing m.writing);
  at_risk = rw writes (still_at_risk f.tag k f.settled f.complete f.closed d.at_risk m.at_risk);
  line = m.line;
}
  where
    now : Bool
    now = passes (λ t. t == k) f.tag

    on : Bool
    on = is_written f && passes (λ t. t == k) f.tag

    writes : ((d.tag == k) && d.writing) ≡ (is_written f && passes (λ t. t == k) f.tag)
    writes = written_with f.tag k d.tag d.writing f.complete m.tag m.writing

    stays : (place : Place) → PlaceIs place f.settled f.due f.sent f.left f.tag f.complete → is_held place ≡ true → (f.complete || passes (λ t. t == k) f.tag) ≡ f.complete
    stays Held p e = rw p.3 (or_false f.complete)
    stays Out p e = absurd (cc)
    stays (Owed s) p e = absurd (cc)
    stays Settled p e = absurd (cc)

    swap : (a n : Bool) → ((a && true) && n) ≡ (n && a)
    swap true true = refl
    swap true false = refl
    swap false true = refl
    swap false false = refl

    same : (place : Place) → PlaceIs place f.settled f.due f.sent f.left f.tag f.complete → (is_held place || is_out place) ≡ true → ((on && is_out place) && is_no_ack f.taker) ≡ (is_no_ack f.taker && on)
    same Held p e = rw p.3 (sym (and_false (is_no_ack f.taker)))
    same Out p e = swap on (is_no_ack f.taker)
    same (Owed s) p e = absurd (cc)
    same Settled p e = absurd (cc)

    none : (place : Place) → (is_held place || is_out place) ≡ false → ((on && is_out place) && is_no_ack f.taker) ≡ false
    none Held e = absurd (cc)
    none Out e = absurd (cc)
    none (Owed s) e = ap (λ b. b && is_no_ack f.taker) (and_false on)
    none Settled e = ap (λ b. b && is_no_ack f.taker) (and_false on)

-- the client settles it

passes_or : (test : ℕ → Bool) (tag : Option ℕ) → is_some tag ≡ true → passes test tag ≡ test (tag_or tag)
passes_or test None e = absurd (cc)
passes_or test (Some t) e = refl

pub answered_core : (k : ℕ) (multiple : Bool) (s : Settle) (d : Delivery) (h : List DeliveryEvent) (f : Fate) → Core d f → Core (answered k multiple s d) (fate_step d.number h (Answered k multiple s) f)
answered_core k multiple s d h f m = record {
  link = m.link;
  id = m.id;
  settled = m.settled;
  again = m.again;
  taker = m.taker;
  tag = m.tag;
  place = rw (m.settled, m.taker, m.tag) (cause_place d.place f.settled f.due f.sent f.left f.tag f.complete f.complete s ((is_out d.place && not (is_no_ack f.taker)) && in_tag k multiple (tag_or f.tag)) (not (is_no_ack f.taker) && passes (in_tag k multiple) f.tag) m.place (λ e. refl) (same d.place m.place) (none d.place));
  writing = m.writing;
  at_risk = m.at_risk;
  line = m.line;
}
  where
    same : (place : Place) → PlaceIs place f.settled f.due f.sent f.left f.tag f.complete → (is_held place || is_out place) ≡ true
        → ((is_out place && not (is_no_ack f.taker)) && in_tag k multiple (tag_or f.tag)) ≡ (not (is_no_ack f.taker) && passes (in_tag k multiple) f.tag)
    same Held p e = rw p.3 (sym (and_false (not (is_no_ack f.taker))))
    same Out p e = ap (λ b. not (is_no_ack f.taker) && b) (sym (passes_or (in_tag k multiple) f.tag p.3))
    same (Owed t) p e = absurd (cc)
    same Settled p e = absurd (cc)

    none : (place : Place) → (is_held place || is_out place) ≡ false → ((is_out place && not (is_no_ack f.taker)) && in_tag k multiple (tag_or f.tag)) ≡ false
    none Held e = absurd (cc)
    none Out e = absurd (cc)
    none (Owed t) e = refl
    none Settled e = refl

-- its consumer is cancelled

pub cancelled_core : (link : ℕ) (d : Delivery) (h : List DeliveryEvent) (f : Fate) → Core d f → Core (cancelled link d) (fate_step d.number h (Cancelled link) f)
cancelled_core link d h f m = record {
  link = m.link;
  id = m.id;
  settled = m.settled;
  again = m.again;
  taker = m.taker;
  tag = m.tag;
  place = rw (m.settled, m.link) (cause_place d.place f.settled f.due f.sent f.left f.tag f.complete f.complete Released (is_held d.place && is_on link f.link) (is_on link f.link && not (is_some f.tag)) m.place (λ e. refl) (same d.place m.place) (none d.place));
  writing = m.writing;
  at_risk = m.at_risk;
  line = m.line;
}
  where
    same : (place : Place) → PlaceIs place f.settled f.due f.sent f.left f.tag f.complete → (is_held place || is_out place) ≡ true → (is_held place && is_on link f.link) ≡ (is_on link f.link && not (is_some f.tag))
    same Held p e = rw p.3 (sym (and_true (is_on link f.link)))
    same Out p e = rw p.3 (sym (and_false (is_on link f.link)))
    same (Owed t) p e = absurd (cc)
    same Settled p e = absurd (cc)

    none : (place : Place) → (is_held place || is_out place) ≡ false → (is_held place && is_on link f.link) ≡ false
    none Held e = absurd (cc)
    none Out e = absurd (cc)
    none (Owed t) e = refl
    none Settled e = refl

-- its life closes

pub closed_core : (d : Delivery) (h : List DeliveryEvent) (f : Fate) → Core d f → Core (closed d) (fate_step d.number h Closed f)
closed_core d h f m = record {
  link = m.link;
  id = m.id;
  settled = m.settled;
  again = m.again;
  taker = m.taker;
  tag = m.tag;
  place = rw m.settled (cause_place d.place f.settled f.due f.sent f.left f.tag f.complete f.complete Released (is_held d.place || is_out d.place) true m.place (λ e. refl) (λ e. e) (λ e. e));
  writing = m.writing;
  at_risk = sym (and_false (f.settled && not f.complete));
  line = rw (m.at_risk, m.line) refl;
}

-- the container's end is lost

lost_place : (place : Place) (settled : Bool) (due : Option Settle) (sent left : Bool) (tag : Option ℕ) (complete u : Bool) → PlaceIs place settled due sent left tag complete
    → ((is_held place || is_out place || owes place) ≡ true → u ≡ not settled)
    → PlaceIs (cond (not settled && (is_held place || is_out place || owes place)) Settled place) settled due sent (left || u) tag complete
lost_place Held true due sent left tag complete u m same = rw (same refl) (m.0, m.1, rw m.2 refl, m.3, m.4)
lost_place Held false due sent left tag complete u m same = rw (same refl, or_true left) refl
lost_place Out true due sent left tag complete u m same = rw (same refl) (m.0, m.1, rw m.2 refl, m.3)
lost_place Out false due sent left tag complete u m same = rw (same refl, or_true left) refl
lost_place (Owed s) true due sent left tag complete u m same = rw (same refl) (m.0, m.1, rw m.2 refl, m.3)
lost_place (Owed s) false due sent left tag complete u m same = rw (same refl, or_true left) refl
lost_place Settled settled due sent left tag complete u m same = rw (and_false (not settled)) (more left u (is_some due && (settled || sent)) m)
  where
    more : (a b c : Bool) → (a || c) ≡ true → ((a || b) || c) ≡ true
    more true b c e = refl
    more false true c e = refl
    more false false c e = e

pub lost_core : (d : Delivery) (h : List DeliveryEvent) (f : Fate) → Core d f → Core (end_lost d) (fate_step d.number h EndLost f)
lost_core d h f m = record {
  link = m.link;
  id = m.id;
  settled = m.settled;
  again = m.again;
  taker = m.taker;
  tag = m.tag;
  place = rw m.settled (lost_place d.place f.settled f.due f.sent f.left f.tag f.complete (is_uncovered f) m.place (λ e. sym (left_test d f m) ∙ rw (m.settled, e) (and_true (not f.settled))));
  writing = m.writing;
  at_risk = m.at_risk;
  line = rw (left_test d f m, m.line) refl;
}

-- a disposition goes

sent_place : (place : Place) (settled : Bool) (due : Option Settle) (sent left : Bool) (tag : Option ℕ) (complete : Bool) (s : Settle) (on : Bool) → PlaceIs place settled due sent left tag complete
    → PlaceIs (cond (owes_as s place && on) Settled place) settled due (sent || ((((is_some due && not settled) && not sent) && not left) && (is_that s due && on))) left tag complete
sent_place Held settled due sent left tag complete s on m = rw (m.0, m.1, m.2) (refl, refl, refl, m.3, m.4)
sent_place Out settled due sent left tag complete s on m = rw (m.0, m.1, m.2) (refl, refl, refl, m.3)
sent_place (Owed t) settled due sent left tag complete s on m = rw (m.0, m.1, m.2, m.3) (by (is_same s t && on))
  where
    by : (b : Bool) → PlaceIs (cond b Settled (Owed t)) false (Some t) b false tag complete
    by true = refl
    by false = (refl, refl, refl, refl)
sent_place Settled settled due sent left tag complete s on m = more left (is_some due) settled sent ((((is_some due && not settled) && not sent) && not left) && (is_that s due && on)) m
  where
    more : (a b c d e : Bool) → (a || (b && (c || d))) ≡ true → (a || (b && (c || (d || e)))) ≡ true
    more true b c d e m = refl
    more false false c d e m = absurd (cc)
    more false true true d e m = refl
    more false true false true e m = refl
    more false true false false e m = absurd (cc)

pub sent_core : (s : NextSettle) (d : Delivery) (h : List DeliveryEvent) (f : Fate) → Core d f → Core (settle_sent s d) (fate_step d.number h (SettleSent s) f)
sent_core s d h f m = record {
  link = m.link;
  id = m.id;
  settled = m.settled;
  again = m.again;
  taker = m.taker;
  tag = m.tag;
  place = rw m.id (sent_place d.place f.settled f.due f.sent f.left f.tag f.complete s.settle (in_range s.first s.last f.id) m.place);
  writing = m.writing;
  at_risk = m.at_risk;
  line = m.line;
}

-- its link goes, and its line is reported

pub dropped_core : (link : ℕ) (d : Delivery) (h : List DeliveryEvent) (f : Fate) → Core d f → Core (link_dropped link d) (fate_step d.number h (LinkDropped link) f)
dropped_core link d h f m = record {
  link = ap (without_link link) m.link;
  id = m.id;
  settled = m.settled;
  again = m.again;
  taker = m.taker;
  tag = m.tag;
  place = m.place;
  writing = m.writing;
  at_risk = m.at_risk;
  line = m.line;
}

pub reported_core : (d : Delivery) (h : List DeliveryEvent) (f : Fate) → Core d f → Core (reported d) (fate_step d.number h LinesTold f)
reported_core d h f m = record {
  link = m.link;
  id = m.id;
  settled = m.settled;
  again = m.again;
  taker = m.taker;
  tag = m.tag;
  place = m.place;
  writing = m.writing;
  at_risk = m.at_risk;
  line = refl;
}
