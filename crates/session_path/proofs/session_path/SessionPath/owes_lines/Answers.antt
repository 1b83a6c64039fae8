use Rattle.std.proofs.Common.{◌≡◌, ◌∙◌, ◌++◌, Bool, true, false, List, [], ◌∷◌, ap, arith, length, sym}
use Rattle.std.specs.Prelude.{nat_lt}
use Rattle.std.proofs.lemmas.Bool.{lt-ltb}
use Rattle.open_items.specs.declared.lost.LostItem.{LostItem}
use Rattle.session_path.specs.Due.{lines}
use Rattle.session_path.specs.Path.{PathState}
use Rattle.session_path.proofs.session_path.SessionPath.owes_lines.Goals as goal

-- some of both are there, or of the second where none is of the first
some_of : (b : Bool) (xs ys : List LostItem) → b ≡ true → b ≡ nat_lt 0 (length xs) → b ≡ nat_lt 0 (length (xs ++ ys))
some_of b [] ys is e = absurd (no (sym is ∙ e))
  where
    no : true ≡ false → ⊥
    no e = absurd (cc)
some_of b (x ∷ xs) ys is e = is ∙ sym (lt-ltb 0 (length (x ∷ xs ++ ys)) (omega arith))

rest_of : (b : Bool) (xs ys : List LostItem) → false ≡ nat_lt 0 (length xs) → b ≡ nat_lt 0 (length ys) → b ≡ nat_lt 0 (length (xs ++ ys))
rest_of b [] ys none e = e
rest_of b (x ∷ xs) ys none e = absurd (no (none ∙ lt-ltb 0 (length (x ∷ xs)) (omega arith)))
  where
    no : false ≡ true → ⊥
    no e = absurd (cc)

pub returns-then-owes_lines : goal.returns-then-owes_lines
returns-then-owes_lines c =
    some_of c.owes_lines.result _ _ c.if-owes_lines.true c.owes_lines.ensures
    ∙ ap (λ (s : PathState). nat_lt 0 (length (lines s))) c.self.view_is

pub returns-else-owes_lines : goal.returns-else-owes_lines
returns-else-owes_lines c =
    rest_of c.owes_lines-else-owes_lines.result _ _ (sym c.if-owes_lines.false ∙ c.owes_lines.ensures) c.owes_lines-else-owes_lines.ensures
    ∙ ap (λ (s : PathState). nat_lt 0 (length (lines s))) c.self.view_is
