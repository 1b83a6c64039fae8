use Rattle.std.proofs.Common.{◌≡◌, ◌∙◌, ℕ, ◌-◌, ◌≤◌, List, [], ◌∷◌, length, drop, arith, ap}
use Rattle.std.specs.Prelude.{not, nat_eq}
use Rattle.std.proofs.lemmas.Bool.Decides.{nat_tests}
use Rattle.std.proofs.lemmas.List.{length-drop}
use Rattle.open_items.specs.Numbers.{has_any}
use Rattle.open_items.proofs.frames.Frames.is_empty.Goals as goal

none_left : {A : Type 0} (n m : ℕ) (left : List A) → n ≤ m → length left ≡ m - n → nat_eq n m ≡ not (has_any left)
none_left n m [] le e = grind (arith, nat_tests)
none_left n m (x ∷ xs) le e = grind (arith, nat_tests)

pub returns : goal.returns
returns c =
    let items = c.self.inside.frames.items in
    let gone = c.self.inside.gone in
    none_left gone c.len.result (drop gone items) (omega arith) (length-drop gone items ∙ ap (λ n. n - gone) (omega arith)) ∙ ap (λ left. not (has_any left)) c.self.view_is
