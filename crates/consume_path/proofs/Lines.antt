-- The lines of the report: which are due, and that each delivery that was lost or left has one.
use Rattle.std.proofs.Common.{◌≡◌, ◌∙◌, ℕ, zero, suc, ◌+◌, List, [], ◌∷◌, ◌++◌, Bool, true, false}
use Rattle.std.proofs.Common.{refl, sym, ap, subst, arith, Option, Some, None, cond, map}
use Rattle.std.specs.Prelude.{not, ◌&&◌, ◌||◌, ◌==◌, nat_le, filter, is_some}
use Rattle.std.specs.Option.{option_map}
use Rattle.std.specs.List.{AllByRecursion}
use Rattle.std.proofs.lemmas.Bool.Decides.{nat_tests}
use Rattle.open_items.specs.declared.lost.LostItem.{LostItem}
use Rattle.open_items.specs.declared.lost.LostKind.{LostKind}
use Rattle.open_items.specs.declared.lost.LostKind.TheVariants.{DeliveryLeft, DeliveryLost}
use Rattle.open_items.specs.Numbers.{passing}
use Rattle.open_items.proofs.Counted.{numbers_passing, passing_more}
use Rattle.consume_path.specs.declared.delivery.Arriving.{Arriving}
use Rattle.consume_path.specs.declared.delivery.Content.{Content}
use Rattle.consume_path.specs.declared.delivery.Delivery.{Delivery}
use Rattle.consume_path.specs.Deliveries.{DeliveryEvent, LinkAdded, LinkAttached, LinkFlowed}
use Rattle.consume_path.specs.Deliveries.{LinkEchoed, GetCame, TransferCame, Arrived, LinkDropped}
use Rattle.consume_path.specs.Deliveries.{Delivered, Written, Answered, Cancelled, Closed, EndLost}
use Rattle.consume_path.specs.Deliveries.{PrefetchSet, GlobalSet, SettleSent, GrantSent, Emptied}
use Rattle.consume_path.specs.Deliveries.{LinesTold, after_events}
use Rattle.consume_path.specs.Offers.{with_line, line_of, lines_of}
use Rattle.consume_path.specs.Links.{one_if}
use Rattle.consume_path.specs.Journal.{Fate, new_fate, fate_of, numbers_of, is_closed, is_uncovered}
use Rattle.consume_path.specs.Journal.{is_at_risk, is_to_come}
use Rattle.consume_path.specs.Laws.{item_by, lines_to, lines_by, is_taken, owes_line, is_lost}
use Rattle.consume_path.specs.Laws.{times_told}
use Rattle.consume_path.proofs.Matching.{Matches}
use Rattle.consume_path.proofs.Keeping.{number_of, follows, Stands, stand, line_comes}

abbrev has_line : Delivery → Bool
has_line d = is_some d.line

-- the lines that are due

-- those of these numbers
abbrev lines_at : ℕ → List DeliveryEvent → List ℕ → List LostItem
lines_at j h [] = []
lines_at j h (n ∷ ns) = with_line (item_by j (fate_of n h)) (lines_at j h ns)

-- the open ones have the lines of those among them that have one, as the journal says
lines_listed : (j : ℕ) (h : List DeliveryEvent) (ds : List Delivery) → AllByRecursion (Stands h) ds → lines_of j ds ≡ lines_at j h (map number_of (filter has_line ds))
lines_listed j h [] a = refl
lines_listed j h (d ∷ ds) a = by d.line refl (lines_listed j h ds a.1)
  where
    more : List Delivery
    more = filter has_line ds

    item : Option LostKind → ℕ → Option LostItem
    item line id = option_map (λ kind. record { life = j; number = id; kind = kind }) line

    by : (line : Option LostKind) → d.line ≡ line → lines_of j ds ≡ lines_at j h (map number_of more) → with_line (line_of j d) (lines_of j ds) ≡ lines_at j h (map number_of (cond (is_some d.line) (d ∷ more) more))
    by None e ih =
        ap (λ l. with_line (item l d.id) (lines_of j ds)) e ∙ ih
        ∙ sym (ap (λ l. lines_at j h (map number_of (cond (is_some l) (d ∷ more) more))) e)
    by (Some kind) e ih =
        ap (λ l. with_line (item l d.id) (lines_of j ds)) a.0.matches.core.line
        ∙ ap (λ i. with_line (item (fate_of d.number h).line i) (lines_of j ds)) a.0.matches.core.id
        ∙ ap (with_line (item_by j (fate_of d.number h))) ih
        ∙ sym (ap (λ l. lines_at j h (map number_of (cond (is_some l) (d ∷ more) more))) e)

lines_append : (j : ℕ) (h : List DeliveryEvent) (ms ns : List ℕ) → lines_at j h (ms ++ ns) ≡ lines_at j h ms ++ lines_at j h ns
lines_append j h [] ns = refl
lines_append j h (m ∷ ms) ns = by (item_by j (fate_of m h)) (lines_append j h ms ns)
  where
    by : (line : Option LostItem) → lines_at j h (ms ++ ns) ≡ lines_at j h ms ++ lines_at j h ns → with_line line (lines_at j h (ms ++ ns)) ≡ with_line line (lines_at j h ms) ++ lines_at j h ns
    by None ih = ih
    by (Some item) ih = ap (λ items. item ∷ items) ih

lines_passing : (j : ℕ) (h : List DeliveryEvent) (n : ℕ) → lines_at j h (passing (λ k. is_some (fate_of k h).line) n) ≡ lines_to j h n
lines_passing j h zero = refl
lines_passing j h (suc n) =
    ap (lines_at j h) (passing_more (λ k. is_some (fate_of k h).line) 0 n)
    ∙ lines_append j h (passing (λ k. is_some (fate_of k h).line) n) (last (0 + suc n))
    ∙ ap (λ items. items ++ lines_at j h (last (0 + suc n))) (lines_passing j h n)
    ∙ ap (λ items. lines_to j h n ++ items) (ap (λ k. lines_at j h (last k)) same ∙ one (suc n) (fate_of (suc n) h).line refl)
  where
    last : ℕ → List ℕ
    last k = cond (is_some (fate_of k h).line) (k ∷ []) []

    same : 0 + suc n ≡ suc n
    same = omega arith

    one : (k : ℕ) (line : Option LostKind) → (fate_of k h).line ≡ line → lines_at j h (last k) ≡ with_line (item_by j (fate_of k h)) []
    one k None e = rw e refl
    one k (Some kind) e = ap (λ l. lines_at j h (cond (is_some l) (k ∷ []) [])) e

pub lines_are : (life : ℕ) (h : List DeliveryEvent) → lines_of life (after_events life h).list ≡ lines_by life h
lines_are life h =
    lines_listed life h list (stand life h)
    ∙ ap (lines_at life h) (numbers_passing number_of Matches is_to_come has_line (λ f. is_some f.line) (λ n. fate_of n h) (numbers_of h) list (λ d f m. ap is_some m.core.line) (λ f e. line_comes f e) (follows life h))
    ∙ lines_passing life h (numbers_of h)
  where
    list : List Delivery
    list = (after_events life h).list

-- each delivery that was lost or left has one line

-- one that was lost came, and neither its life's closing nor the loss of the end is still to take
-- it; its line was reported, or is due
record Told (taken lost owes risk open_still : Bool) (times : ℕ) : Type 0 where
  known : lost ≡ true → (taken ≡ true) × (risk ≡ false) × (open_still ≡ false)
  once : times + one_if owes ≡ one_if lost

or_false : (b : Bool) → (b || false) ≡ b
or_false true = refl
or_false false = refl

and_false : (b : Bool) → (b && false) ≡ false
and_false true = refl
and_false false = refl

-- an event that loses nothing and reports nothing
kept : (taken lost owes r u s v : Bool) (times : ℕ) → (r ≡ false → s ≡ false) → (u ≡ false → v ≡ false) → Told taken lost owes r u times → Told taken (lost || false) owes s v (times + 0)
kept taken true owes r u s v times f g t = record { known = λ e. let k = t.known refl in (k.0, f k.1, g k.2); once = let o = t.once in omega arith }
kept taken false owes r u s v times f g t = record { known = λ e. absurd (cc); once = let o = t.once in omega arith }

-- one that loses what it takes: what is at risk, or open
loss : (taken lost r u on s v : Bool) (line : Option LostKind) (kind : LostKind) (times : ℕ) → (lost ≡ true → on ≡ false) → (on ≡ true → (s ≡ false) × (v ≡ false)) → (r ≡ false → s ≡ false) → (u ≡ false → v ≡ false)
    → Told taken lost (taken && is_some line) r u times → Told taken (lost || (taken && on)) (taken && is_some (cond on (Some kind) line)) s v (times + 0)
loss taken true r u on s v line kind times off gone f g t = rw (off refl) (kept taken true (taken && is_some line) r u s v times f g t)
loss false false r u on s v line kind times off gone f g t = kept false false false r u s v times f g t
loss true false r u true s v line kind times off gone f g t = record { known = λ e. let k = gone refl in (refl, k.0, k.1); once = let o = t.once in omega arith }
loss true false r u false s v line kind times off gone f g t = kept true false (is_some line) r u s v times f g t

-- all that is due is reported
lines_told : (taken lost owes r u : Bool) (times : ℕ) → Told taken lost owes r u times → Told taken (lost || false) (taken && false) r u (times + one_if owes)
lines_told taken true owes r u times t = record { known = λ e. t.known refl; once = rw (and_false taken) (let o = t.once in omega arith) }
lines_told taken false owes r u times t = record { known = λ e. absurd (cc); once = rw (and_false taken) (let o = t.once in omega arith) }

abbrev ToldOf : List DeliveryEvent → ℕ → Type 0
ToldOf h n = Told (is_taken n h) (is_lost n h) (owes_line n h) (is_at_risk (fate_of n h)) (is_uncovered (fate_of n h)) (times_told n h)

-- a delivery comes

new : (n m : ℕ) → (n == m + 1) ≡ true → (nat_le 1 n && nat_le n m) ≡ false
new n m e = grind (arith, nat_tests)

newer : (n m : ℕ) → (n == m + 1) ≡ true → (nat_le 1 n && nat_le n (m + 1)) ≡ true
newer n m e = grind (arith, nat_tests)

older : (n m : ℕ) → (n == m + 1) ≡ false → nat_le n m ≡ nat_le n (m + 1)
older n m e = grind (arith, nat_tests)

first_told : (taken later lost owes r u s z : Bool) (times : ℕ) → taken ≡ false → later ≡ true → owes ≡ (taken && owes) → Told taken lost owes r u times
    → Told later (lost || (s && z)) (later && is_some (cond (s && z) (Some DeliveryLost) None)) ((s && true) && not z) ((not s && true) && true) (times + 0)
first_told taken later true owes r u s z times e f g t = absurd (let no = (t.known refl).0 in cc)
first_told taken later false owes r u true true times e f g t = rw f (record { known = λ k. (refl, refl, refl); once = let o = t.once in let none : owes ≡ false = g ∙ ap (λ b. b && owes) e in let zero_owed : one_if owes ≡ 0 = ap one_if none in omega arith })
first_told taken later false owes r u true false times e f g t = rw f (record { known = λ k. absurd (cc); once = let o = t.once in omega arith })
first_told taken later false owes r u false z times e f g t = rw f (record { known = λ k. absurd (cc); once = let o = t.once in omega arith })

arrived_told : (a : Arriving) (content : Option Content) (again : Bool) (h : List DeliveryEvent) (n : ℕ) → ToldOf h n → ToldOf (Arrived a content again ∷ h) n
arrived_told a content again h n t = by (n == numbers_of h + 1) refl
  where
    later : Bool
    later = nat_le 1 n && nat_le n (numbers_of h + 1)

    x : Fate
    x = new_fate (is_closed h) a content again

    twice : (b c : Bool) → (b && c) ≡ (b && (b && c))
    twice true c = refl
    twice false c = refl

    by : (b : Bool) → (n == numbers_of h + 1) ≡ b
        → Told later (is_lost n h || (b && (a.settled && is_closed h))) (later && is_some (cond b x (fate_of n h)).line) (is_at_risk (cond b x (fate_of n h))) (is_uncovered (cond b x (fate_of n h))) (times_told n h + 0)
    by true e = first_told (is_taken n h) later (is_lost n h) (owes_line n h) (is_at_risk (fate_of n h)) (is_uncovered (fate_of n h)) a.settled (is_closed h) (times_told n h) (new n (numbers_of h) e) (newer n (numbers_of h) e) (twice (is_taken n h) (is_some (fate_of n h).line)) t
    by false e = subst (λ b. Told (nat_le 1 n && b) (is_lost n h || false) ((nat_le 1 n && b) && is_some (fate_of n h).line) (is_at_risk (fate_of n h)) (is_uncovered (fate_of n h)) (times_told n h + 0)) (older n (numbers_of h) e)
        (kept (is_taken n h) (is_lost n h) (owes_line n h) (is_at_risk (fate_of n h)) (is_uncovered (fate_of n h)) _ _ (times_told n h) (λ e. e) (λ e. e) t)

-- each event

risk_stays : (s c p z : Bool) → ((s && not c) && not z) ≡ false → ((s && not (c || p)) && not z) ≡ false
risk_stays false c p z e = refl
risk_stays true true p z e = refl
risk_stays true false true z e = refl
risk_stays true false false z e = e

risk_settled : (s c z t l : Bool) → ((s && not c) && not z) ≡ true → ((not s && not t) && not l) ≡ false
risk_settled true c z t l e = refl
risk_settled false c z t l e = absurd (cc)

uncovered_safe : (s c z t l : Bool) → ((not s && not t) && not l) ≡ true → ((s && not c) && not z) ≡ false
uncovered_safe false c z t l e = refl
uncovered_safe true c z t l e = absurd (cc)

left_gone : (s t l u : Bool) → u ≡ true → ((not s && not t) && not (l || u)) ≡ false
left_gone s t true u e = and_false (not s && not t)
left_gone s t false u e = rw e (and_false (not s && not t))

left_stays : (s t l u : Bool) → ((not s && not t) && not l) ≡ false → ((not s && not t) && not (l || u)) ≡ false
left_stays true t l u e = refl
left_stays false true l u e = refl
left_stays false false true u e = refl
left_stays false false false u e = absurd (cc)

sent_stays : (s t l u : Bool) → ((not s && not t) && not l) ≡ false → ((not s && not (t || u)) && not l) ≡ false
sent_stays true t l u e = refl
sent_stays false true l u e = refl
sent_stays false false true true e = refl
sent_stays false false true false e = refl
sent_stays false false false u e = absurd (cc)

told : (h : List DeliveryEvent) (n : ℕ) → ToldOf h n
told [] n = record { known = λ e. absurd (cc); once = rw (and_false (is_taken n [])) refl }
told (LinkAdded link kind ∷ h) n = kept _ _ _ _ _ _ _ _ (λ e. e) (λ e. e) (told h n)
told (LinkAttached link count ∷ h) n = kept _ _ _ _ _ _ _ _ (λ e. e) (λ e. e) (told h n)
told (LinkFlowed link count ∷ h) n = kept _ _ _ _ _ _ _ _ (λ e. e) (λ e. e) (told h n)
told (LinkEchoed link ∷ h) n = kept _ _ _ _ _ _ _ _ (λ e. e) (λ e. e) (told h n)
told (GetCame link no_ack ∷ h) n = kept _ _ _ _ _ _ _ _ (λ e. e) (λ e. e) (told h n)
told (TransferCame link part payload ∷ h) n = kept _ _ _ _ _ _ _ _ (λ e. e) (λ e. e) (told h n)
told (Arrived a content again ∷ h) n = arrived_told a content again h n (told h n)
told (LinkDropped link ∷ h) n = kept _ _ _ _ _ _ _ _ (λ e. e) (λ e. e) (told h n)
told (Delivered number ∷ h) n = kept _ _ _ _ _ _ _ _ (λ e. e) (λ e. e) (told h n)
told (Written tag ∷ h) n = let f = fate_of n h in kept _ _ _ _ _ _ _ _ (risk_stays f.settled f.complete _ f.closed) (λ e. e) (told h n)
told (Answered tag multiple s ∷ h) n = kept _ _ _ _ _ _ _ _ (λ e. e) (λ e. e) (told h n)
told (Cancelled link ∷ h) n = kept _ _ _ _ _ _ _ _ (λ e. e) (λ e. e) (told h n)
told (Closed ∷ h) n =
    let f = fate_of n h in
    let t : ToldOf h n = told h n in
    loss (is_taken n h) (is_lost n h) (is_at_risk f) (is_uncovered f) (is_at_risk f) _ (is_uncovered f) f.line DeliveryLost (times_told n h) (λ e. (t.known e).1) (λ e. (and_false (f.settled && not f.complete), risk_settled f.settled f.complete f.closed f.sent f.left e))
    (λ e. and_false (f.settled && not f.complete)) (λ e. e) t
told (EndLost ∷ h) n =
    let f = fate_of n h in
    let t : ToldOf h n = told h n in
    loss (is_taken n h) (is_lost n h) (is_at_risk f) (is_uncovered f) (is_uncovered f) (is_at_risk f) _ f.line DeliveryLeft (times_told n h) (λ e. (t.known e).2) (λ e. (uncovered_safe f.settled f.complete f.closed f.sent f.left e, left_gone f.settled f.sent f.left (is_uncovered f) e))
    (λ e. e) (left_stays f.settled f.sent f.left (is_uncovered f)) t
told (PrefetchSet count ∷ h) n = kept _ _ _ _ _ _ _ _ (λ e. e) (λ e. e) (told h n)
told (GlobalSet count ∷ h) n = kept _ _ _ _ _ _ _ _ (λ e. e) (λ e. e) (told h n)
told (SettleSent s ∷ h) n = let f = fate_of n h in kept _ _ _ _ _ _ _ _ (λ e. e) (sent_stays f.settled f.sent f.left _) (told h n)
told (GrantSent grant ∷ h) n = kept _ _ _ _ _ _ _ _ (λ e. e) (λ e. e) (told h n)
told (Emptied link ∷ h) n = kept _ _ _ _ _ _ _ _ (λ e. e) (λ e. e) (told h n)
told (LinesTold ∷ h) n = lines_told (is_taken n h) (is_lost n h) (owes_line n h) (is_at_risk (fate_of n h)) (is_uncovered (fate_of n h)) (times_told n h) (told h n)

pub told_once : (n : ℕ) (h : List DeliveryEvent) → times_told n h + one_if (owes_line n h) ≡ one_if (is_lost n h)
told_once n h = (told h n).once
