-- The lines of the report: which are due, and that each publish that was lost has one.
use Rattle.std.proofs.Common.{◌≡◌, ◌∙◌, ℕ, zero, suc, ◌+◌, List, [], ◌∷◌, ◌++◌, Bool, true, false}
use Rattle.std.proofs.Common.{refl, sym, ap, subst, arith, Option, Some, None, cond, map}
use Rattle.std.specs.Prelude.{not, ◌&&◌, ◌||◌, ◌==◌, nat_le, filter, is_some}
use Rattle.std.specs.Option.{option_map}
use Rattle.std.specs.List.{AllByRecursion}
use Rattle.std.proofs.lemmas.Bool.Decides.{nat_tests}
use Rattle.open_items.specs.declared.lost.LostItem.{LostItem}
use Rattle.open_items.specs.declared.lost.LostKind.{LostKind}
use Rattle.open_items.specs.Numbers.{passing}
use Rattle.open_items.proofs.Counted.{numbers_passing, passing_more}
use Rattle.publish_path.specs.declared.publish.Publish.{Publish}
use Rattle.publish_path.specs.Publishes.{PublishEvent, TakenUp, FrameSent, OutcomeCame, LinkGone}
use Rattle.publish_path.specs.Publishes.{ConfirmSent, LinesTold, ReturnSent, after_events, next_number}
use Rattle.publish_path.specs.Publishes.{in_range, is_on, lost_as, covers, is_accepted}
use Rattle.publish_path.specs.Offers.{with_line, line_of, lines_of}
use Rattle.publish_path.specs.Journal.{Fate, new_fate, decided, fate_of, numbers_of, confirms_of}
use Rattle.publish_path.specs.Journal.{is_undecided, is_to_go, is_done, is_to_come, is_to_return}
use Rattle.publish_path.specs.Laws.{item_by, lines_to, lines_by, is_taken, owes_line, is_lost}
use Rattle.publish_path.specs.Laws.{one_if, times_told}
use Rattle.publish_path.proofs.Matching.{Matches}
use Rattle.publish_path.specs.Kept.{number_of}
use Rattle.publish_path.proofs.Keeping.{follows, Stands, stand}

abbrev has_line : Publish → Bool
has_line p = is_some p.line

-- the lines that are due

-- the one of publish n, if it has one
abbrev line_by : ℕ → List PublishEvent → ℕ → Option LostItem
line_by j h n = option_map (item_by j n) (fate_of n h).line

-- those of these numbers
abbrev lines_at : ℕ → List PublishEvent → List ℕ → List LostItem
lines_at j h [] = []
lines_at j h (n ∷ ns) = with_line (line_by j h n) (lines_at j h ns)

-- the open ones have the lines of those among them that have one, as the journal says
lines_listed : (j : ℕ) (h : List PublishEvent) (ps : List Publish) → AllByRecursion (Stands h) ps → lines_of j ps ≡ lines_at j h (map number_of (filter has_line ps))
lines_listed j h [] a = refl
lines_listed j h (p ∷ ps) a = by p.line refl (lines_listed j h ps a.1)
  where
    more : List Publish
    more = filter has_line ps

    by : (line : Option LostKind) → p.line ≡ line → lines_of j ps ≡ lines_at j h (map number_of more) → with_line (line_of j p) (lines_of j ps) ≡ lines_at j h (map number_of (cond (is_some p.line) (p ∷ more) more))
    by None e ih =
        ap (λ l. with_line (option_map (item_by j p.number) l) (lines_of j ps)) e ∙ ih
        ∙ sym (ap (λ l. lines_at j h (map number_of (cond (is_some l) (p ∷ more) more))) e)
    by (Some kind) e ih =
        ap (λ l. with_line (option_map (item_by j p.number) l) (lines_of j ps)) a.0.matches.line
        ∙ ap (with_line (line_by j h p.number)) ih
        ∙ sym (ap (λ l. lines_at j h (map number_of (cond (is_some l) (p ∷ more) more))) e)

lines_append : (j : ℕ) (h : List PublishEvent) (ms ns : List ℕ) → lines_at j h (ms ++ ns) ≡ lines_at j h ms ++ lines_at j h ns
lines_append j h [] ns = refl
lines_append j h (m ∷ ms) ns = by (line_by j h m) (lines_append j h ms ns)
  where
    by : (line : Option LostItem) → lines_at j h (ms ++ ns) ≡ lines_at j h ms ++ lines_at j h ns → with_line line (lines_at j h (ms ++ ns)) ≡ with_line line (lines_at j h ms) ++ lines_at j h ns
    by None ih = ih
    by (Some item) ih = ap (λ items. item ∷ items) ih

lines_passing : (j : ℕ) (h : List PublishEvent) (n : ℕ) → lines_at j h (passing (λ k. is_some (fate_of k h).line) n) ≡ lines_to j h n
lines_passing j h zero = refl
lines_passing j h (suc n) =
    ap (lines_at j h) (passing_more (λ k. is_some (fate_of k h).line) 0 n)
    ∙ lines_append j h (passing (λ k. is_some (fate_of k h).line) n) (last (0 + suc n))
    ∙ ap (λ items. items ++ lines_at j h (last (0 + suc n))) (lines_passing j h n)
    ∙ ap (λ items. lines_to j h n ++ items) (ap (λ k. lines_at j h (last k)) same ∙ one (suc n) (fate_of (suc n) h).line refl)
  where
    last : ℕ → List ℕ
    last k = cond (is_some (fate_of k h).line) (k ∷ []) []

    same : 0 + suc n ≡ suc n
    same = omega arith

    one : (k : ℕ) (line : Option LostKind) → (fate_of k h).line ≡ line → lines_at j h (last k) ≡ with_line (option_map (item_by j k) (fate_of k h).line) []
    one k None e = rw e refl
    one k (Some kind) e = ap (λ l. lines_at j h (cond (is_some l) (k ∷ []) [])) e

pub lines_are : (life : ℕ) (h : List PublishEvent) → lines_of life (after_events life h).list ≡ lines_by life h
lines_are life h =
    lines_listed life h list (stand life h)
    ∙ ap (lines_at life h) (numbers_passing number_of Matches is_to_come has_line (λ f. is_some f.line) (λ n. fate_of n h) (numbers_of h) list (λ p f m. ap is_some m.line) come (follows life h))
    ∙ lines_passing life h (numbers_of h)
  where
    list : List Publish
    list = (after_events life h).list

    come : (f : Fate) → is_some f.line ≡ true → is_to_come f ≡ true
    come f e = last (is_to_go f) (not (is_done f)) (is_some f.line) (is_to_return f) e
      where
        last : (a b c d : Bool) → c ≡ true → (a || b || c || d) ≡ true
        last true b c d e = refl
        last false true c d e = refl
        last false false c d e = rw e refl

-- each publish that was lost has one line

-- one that was lost was taken up and is decided; its line was reported, or is due
record Told (taken lost owes undecided : Bool) (times : ℕ) : Type 0 where
  known : lost ≡ true → (taken ≡ true) × (undecided ≡ false)
  once : times + one_if owes ≡ one_if lost

-- an event that loses nothing and reports nothing
kept : (taken lost owes u v : Bool) (times : ℕ) → (u ≡ false → v ≡ false) → Told taken lost owes u times → Told taken (lost || false) owes v (times + 0)
kept taken true owes u v times falls t = record { known = λ e. ((t.known refl).0, falls (t.known refl).1); once = let o = t.once in omega arith }
kept taken false owes u v times falls t = record { known = λ e. absurd (cc); once = let o = t.once in omega arith }

decided_stays : (test accepted answered : Bool) (outcome : Option Bool) → (not (is_some outcome) && not answered) ≡ false → (not (is_some (decided test accepted outcome)) && not answered) ≡ false
decided_stays false accepted answered outcome e = e
decided_stays true accepted answered None e = refl
decided_stays true accepted answered (Some a) e = refl

answered_stays : (on answered : Bool) (outcome : Option Bool) → (not (is_some outcome) && not answered) ≡ false → (not (is_some outcome) && not (answered || on)) ≡ false
answered_stays on true None e = refl
answered_stays on false None e = absurd (cc)
answered_stays on answered (Some a) e = refl

-- a loss: of one that was taken up and was not decided
lost_told : (taken lost u on v : Bool) (line : Option LostKind) (kind : LostKind) (times : ℕ) → (u ≡ false → v ≡ false) → (on ≡ true → v ≡ false) → Told taken lost (taken && is_some line) u times
    → Told taken (lost || (taken && (u && on))) (taken && is_some (cond (u && on) (Some kind) line)) v (times + 0)
lost_told taken true true on v line kind times falls gone t = absurd (let no = (t.known refl).1 in cc)
lost_told taken true false on v line kind times falls gone t = kept taken true _ false v times falls t
lost_told false false u on v line kind times falls gone t = kept false false false u v times falls t
lost_told true false false on v line kind times falls gone t = kept true false _ false v times falls t
lost_told true false true false v line kind times falls gone t = kept true false _ true v times falls t
lost_told true false true true v line kind times falls gone t = record { known = λ e. (refl, gone refl); once = let o = t.once in omega arith }

decided_gone : (on answered : Bool) (outcome : Option Bool) → on ≡ true → (not (is_some (decided on false outcome)) && not answered) ≡ false
decided_gone on answered None e = rw e refl
decided_gone on answered (Some a) e = rw e refl

and_false : (b : Bool) → (b && false) ≡ false
and_false true = refl
and_false false = refl

-- all that is due is reported
lines_told : (taken lost owes u : Bool) (times : ℕ) → Told taken lost owes u times → Told taken (lost || false) (taken && false) u (times + one_if owes)
lines_told taken true owes u times t = record { known = λ e. t.known refl; once = rw (and_false taken) (let o = t.once in omega arith) }
lines_told taken false owes u times t = record { known = λ e. absurd (cc); once = rw (and_false taken) (let o = t.once in omega arith) }

-- a publish that wasn't taken up before is taken up
newly_told : (later lost u v : Bool) (line : Option LostKind) (times : ℕ) → Told false lost (false && is_some line) u times → Told later (lost || false) (later && false) v (times + 0)
newly_told later true u v line times t = absurd (let no = (t.known refl).0 in cc)
newly_told later false u v line times t = record { known = λ e. absurd (cc); once = rw (and_false later) (let o = t.once in omega arith) }

taken_told : (link : ℕ) (confirm : Bool) (payload : List ℕ) (back : List (List ℕ)) (h : List PublishEvent) (n : ℕ) → Told (is_taken n h) (is_lost n h) (owes_line n h) (is_undecided (fate_of n h)) (times_told n h)
    → Told (is_taken n (TakenUp link confirm payload back ∷ h)) (is_lost n h || false) (owes_line n (TakenUp link confirm payload back ∷ h)) (is_undecided (fate_of n (TakenUp link confirm payload back ∷ h))) (times_told n h + 0)
taken_told link confirm payload back h n t = by (n == numbers_of h + 1) refl
  where
    x : Fate
    x = new_fate link (next_number confirm (confirms_of h)) payload back

    later : Bool
    later = nat_le 1 n && nat_le n (numbers_of h + 1)

    new : (n m : ℕ) → (n == m + 1) ≡ true → (nat_le 1 n && nat_le n m) ≡ false
    new n m e = grind (arith, nat_tests)

    old : (n m : ℕ) → (n == m + 1) ≡ false → nat_le n m ≡ nat_le n (m + 1)
    old n m e = grind (arith, nat_tests)

    by : (b : Bool) → (n == numbers_of h + 1) ≡ b → Told later (is_lost n h || false) (later && is_some (cond b x (fate_of n h)).line) (is_undecided (cond b x (fate_of n h))) (times_told n h + 0)
    by true e = newly_told later (is_lost n h) (is_undecided (fate_of n h)) true (fate_of n h).line (times_told n h)
        (subst (λ taken. Told taken (is_lost n h) (taken && is_some (fate_of n h).line) (is_undecided (fate_of n h)) (times_told n h)) (new n (numbers_of h) e) t)
    by false e = subst (λ b. Told (nat_le 1 n && b) (is_lost n h || false) ((nat_le 1 n && b) && is_some (fate_of n h).line) (is_undecided (fate_of n h)) (times_told n h + 0)) (old n (numbers_of h) e)
        (kept (is_taken n h) (is_lost n h) (owes_line n h) (is_undecided (fate_of n h)) (is_undecided (fate_of n h)) (times_told n h) (λ e. e) t)

told : (h : List PublishEvent) (n : ℕ) → Told (is_taken n h) (is_lost n h) (owes_line n h) (is_undecided (fate_of n h)) (times_told n h)
told [] n = record { known = λ e. absurd (cc); once = rw (and_false (is_taken n [])) refl }
told (TakenUp link confirm payload back ∷ h) n = taken_told link confirm payload back h n (told h n)
told (FrameSent number first part ∷ h) n = kept _ _ _ _ _ _ (λ e. e) (told h n)
told (OutcomeCame first last outcome ∷ h) n =
    let f = fate_of n h in
    kept _ _ _ _ _ _ (decided_stays (in_range first last f.id) (is_accepted outcome) f.answered f.outcome) (told h n)
told (LinkGone link not_found ∷ h) n =
    let f = fate_of n h in
    let on = is_on link f.link in
    lost_told (is_taken n h) (is_lost n h) (is_undecided f) on _ f.line (lost_as (not f.begun)) (times_told n h) (decided_stays on false f.answered f.outcome) (decided_gone on f.answered f.outcome) (told h n)
told (ReturnSent number ∷ h) n = kept _ _ _ _ _ _ (λ e. e) (told h n)
told (ConfirmSent c ∷ h) n =
    let f = fate_of n h in
    kept _ _ _ _ _ _ (answered_stays (covers c f.confirm) f.answered f.outcome) (told h n)
told (LinesTold ∷ h) n = lines_told (is_taken n h) (is_lost n h) (owes_line n h) (is_undecided (fate_of n h)) (times_told n h) (told h n)

pub told_once : (n : ℕ) (h : List PublishEvent) → times_told n h + one_if (owes_line n h) ≡ one_if (is_lost n h)
told_once n h = (told h n).once
