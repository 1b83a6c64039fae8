-- The first life that owes lines, with one channel more.
use Rattle.std.proofs.Common.{◌≡◌, ◌∙◌, ℕ, ◌+◌, ◌<◌, ◌≤◌, Bool, true, false, ◌&&◌, List, []}
use Rattle.std.proofs.Common.{◌∷◌}
use Rattle.std.proofs.Common.{◌++◌, Option, None, Some, refl, sym, ap, subst, arith, append_assoc}
use Rattle.std.proofs.Common.{append-nil, cond, get_or, length, take}
use Rattle.std.specs.Prelude.{◌==◌, nat_le, nat_lt}
use Rattle.std.proofs.lemmas.Bool.{and_parts, leb-true, ltb-true, le-leb, lt-ltb, ne_eqb}
use Rattle.std.proofs.lemmas.Bool.{eq-eqb}
use Rattle.std.proofs.lemmas.List.{take_more}
use Rattle.gate_relay.specs.Entries.{is_empty}
use Rattle.open_items.specs.declared.lost.LostItem.{LostItem}
use Rattle.session_path.specs.Due.{lines}
use Rattle.session_path.specs.Path.{PathState}
use Rattle.gate_model.specs.Paths.{lines_of_life, lines_on}
use Rattle.bridge_core.specs.Reports.{IsNext, IsNextOwing, is_before, owing_on, sooner}
use Rattle.bridge_core.proofs.OwedLines.{some_before, some_behind}

-- ---- the lines of one channel

nil_of : {A : Type 0} → (xs : List A) → is_empty xs ≡ true → xs ≡ []
nil_of [] e = refl
nil_of (x ∷ xs) e = absurd cc

none_of : (n : ℕ) (s : PathState) → is_empty (lines s) ≡ true → lines_on n (Some s) ≡ []
none_of n s e = by (s.publishes.life == n)
  where
    by : (b : Bool) → cond b (lines s) [] ≡ []
    by true = nil_of (lines s) e
    by false = refl

none_apart : (n : ℕ) (s : PathState) → (s.publishes.life ≡ n → ⊥) → lines_on n (Some s) ≡ []
none_apart n s apart = ap (λ (b : Bool). cond b (lines s) []) (ne_eqb s.publishes.life n apart)

own_lines : (s : PathState) → lines_on s.publishes.life (Some s) ≡ lines s
own_lines s = ap (λ (b : Bool). cond b (lines s) []) (eq-eqb s.publishes.life s.publishes.life refl)

pushed : (n : ℕ) (ps : List (Option PathState)) (o : Option PathState) → lines_of_life n (ps ++ o ∷ []) ≡ lines_of_life n ps ++ lines_on n o
pushed n [] o = append-nil (lines_on n o)
pushed n (p ∷ ps) o =
    ap (λ (ls : List LostItem). lines_on n p ++ ls) (pushed n ps o) ∙ sym (append_assoc (lines_on n p) (lines_of_life n ps) (lines_on n o))

none_pushed : (n : ℕ) (ps : List (Option PathState)) (o : Option PathState) → lines_of_life n ps ≡ [] → lines_on n o ≡ [] → lines_of_life n (ps ++ o ∷ []) ≡ []
none_pushed n ps o e f = pushed n ps o ∙ ap (λ (ls : List LostItem). ls ++ lines_on n o) e ∙ f

-- ---- one channel more

abbrev IsBelow : ℕ → Option ℕ → Type 0
IsBelow n None = Unit {0}
IsBelow n (Some next) = n < next

-- it owes none before the next one
owing_kept : (above last : ℕ) (ps : List (Option PathState)) (o : Option PathState) (next : Option ℕ)
    → ((n : ℕ) → above < n → n ≤ last → IsBelow n next → lines_on n o ≡ []) → IsNextOwing above last ps next → IsNextOwing above last (ps ++ o ∷ []) next
owing_kept above last ps o None none h = λ n over under. none_pushed n ps o (h n over under) (none n over under tt)
owing_kept above last ps o (Some m) none h = record {
  over = h.over;
  within = h.within;
  owes = ap is_empty (pushed m ps o) ∙ some_before (lines_of_life m ps) (lines_on m o) h.owes;
  first = λ n over under. none_pushed n ps o (h.first n over under) (none n over (omega (arith, h.within)) under);
}

-- none before it owes any
none_below : (above last life : ℕ) (ps : List (Option PathState)) (next : Option ℕ) → life ≤ last → is_before life next ≡ true → IsNextOwing above last ps next
    → (n : ℕ) → above < n → n < life → lines_of_life n ps ≡ []
none_below above last life ps None within before h n over under = h n over (omega arith)
none_below above last life ps (Some m) within before h n over under = h.first n over (omega (arith, ltb-true life m before))

owing_taken : (above last : ℕ) (ps : List (Option PathState)) (s : PathState) (next : Option ℕ) → above < s.publishes.life → s.publishes.life ≤ last
    → is_before s.publishes.life next ≡ true → is_empty (lines s) ≡ false → IsNextOwing above last ps next → IsNext above last (ps ++ Some s ∷ []) s.publishes.life
owing_taken above last ps s next over within before owes h = record {
  over = over;
  within = within;
  owes = ap is_empty (pushed s.publishes.life ps (Some s))
      ∙ some_behind (lines_of_life s.publishes.life ps) (lines_on s.publishes.life (Some s)) (ap is_empty (own_lines s) ∙ owes);
  first = λ n over under. none_pushed n ps (Some s) (none_below above last s.publishes.life ps next within before h n over under) (none_apart n s (λ e. omega arith));
}

below_is_before : (n : ℕ) (next : Option ℕ) → IsBelow n next → is_before n next ≡ true
below_is_before n None h = refl
below_is_before n (Some m) h = lt-ltb n m h

-- it doesn't come into question
owes_elsewhere : (above last : ℕ) (s : PathState) (next : Option ℕ)
    → (nat_lt above s.publishes.life && (nat_le s.publishes.life last && is_before s.publishes.life next)) ≡ false
    → (n : ℕ) → above < n → n ≤ last → IsBelow n next → lines_on n (Some s) ≡ []
owes_elsewhere above last s next passed n over under below = none_apart n s (λ e.
    let counts : (nat_lt above n && (nat_le n last && is_before n next)) ≡ true =
    simp (lt-ltb above n over, le-leb n last under, below_is_before n next below) refl in
    let wrong : true ≡ false = sym counts ∙ ap (λ (k : ℕ). nat_lt above k && (nat_le k last && is_before k next)) (sym e) ∙ passed in absurd cc)

pushed_owing : (above last : ℕ) (ps : List (Option PathState)) (o : Option PathState) (next : Option ℕ) → IsNextOwing above last ps next
    → IsNextOwing above last (ps ++ o ∷ []) (sooner above last next (owing_on o))
pushed_owing above last ps None next h = owing_kept above last ps None next (λ n over under below. refl) h
pushed_owing above last ps (Some s) next h = by (is_empty (lines s)) refl
  where
    counted : (b : Bool) → (nat_lt above s.publishes.life && (nat_le s.publishes.life last && is_before s.publishes.life next)) ≡ b → is_empty (lines s) ≡ false
        → IsNextOwing above last (ps ++ Some s ∷ []) (cond b (Some s.publishes.life) next)
    counted true e owes =
        let p = and_parts _ _ e in
        let q = and_parts _ _ p.1 in
        owing_taken above last ps s next (ltb-true _ _ p.0) (leb-true _ _ q.0) q.1 owes h
    counted false e owes = owing_kept above last ps (Some s) next (owes_elsewhere above last s next e) h

    by : (b : Bool) → is_empty (lines s) ≡ b → IsNextOwing above last (ps ++ Some s ∷ []) (sooner above last next (cond b None (Some s.publishes.life)))
    by true e = owing_kept above last ps (Some s) next (λ n over under below. none_of n s e) h
    by false e = counted (nat_lt above s.publishes.life && (nat_le s.publishes.life last && is_before s.publishes.life next)) refl e

pub next_more : (above last : ℕ) (ps : List (Option PathState)) (i : ℕ) (d : Option PathState) (next new : Option ℕ) → i < length ps
    → IsNextOwing above last (take i ps) next → new ≡ sooner above last next (owing_on (get_or ps i d)) → IsNextOwing above last (take (i + 1) ps) new
next_more above last ps i d next new lt h is =
    subst (λ (qs : List (Option PathState)). IsNextOwing above last qs new) (sym (take_more ps i d lt))
    (subst (IsNextOwing above last (take i ps ++ get_or ps i d ∷ [])) (sym is) (pushed_owing above last (take i ps) (get_or ps i d) next h))
