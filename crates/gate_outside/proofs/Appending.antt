-- What is added in two steps.
use Rattle.std.proofs.lemmas.List.{drop-drop, take-append-drop}
use Rattle.std.proofs.Common.{◌≡◌, ℕ, ◌+◌, List, ◌++◌, Option, None, Some, take, drop, append_assoc}
use Rattle.std.proofs.Common.{ap, ◌∙◌, subst, sym}
use Rattle.std.proofs.Math.Seq.{take-add}
use Rattle.gate_outside.specs.Streams.{Appends}

-- one addition and then another
pub appends_then : (a b c : Option (List ℕ)) (xs ys : List ℕ) → Appends a b xs → Appends b c ys → Appends a c (xs ++ ys)
appends_then a b None xs ys p q = tt
appends_then a None (Some new) xs ys p q = absurd q
appends_then None (Some mid) (Some new) xs ys p q = absurd p
appends_then (Some old) (Some mid) (Some new) xs ys p q =
    q ∙ ap (λ (s : List ℕ). s ++ ys) p ∙ append_assoc old xs ys

-- the first bytes of a text, and then the first bytes of its rest
pub appends_more : (a b c : Option (List ℕ)) (text : List ℕ) (n m : ℕ) → Appends a b (take n text)
    → Appends b c (take m (drop n text)) → Appends a c (take (n + m) text)
appends_more a b c text n m p q =
    subst (λ (s : List ℕ). Appends a c s) (sym (take-add n m text)) (appends_then a b c (take n text) (take m (drop n text)) p q)

-- what stands from a place on is its first bytes and what stands behind them
pub front_and_rest : (text : List ℕ) (at n : ℕ) → take n (drop at text) ++ drop (at + n) text ≡ drop at text
front_and_rest text at n = rw (← drop-drop n at text) (take-append-drop n (drop at text))
