use Rattle.std.proofs.Common.{◌≡◌, ℕ, zero, suc, ◌<◌, List, [], ◌∷◌, length, slice_index_or}
use Rattle.std.proofs.Common.{replicate, Option, None, refl, ap, ◌∙◌, arith}
use Rattle.machine_091.specs.Contents.{no_contents}
use Rattle.machine_091.specs.declared.contents.Incoming.{Incoming}
use Rattle.machine_091.proofs.state.no_contents.Goals as goal

-- a list of so many items, each None
all_none : (n : ℕ) (xs : List (Option Incoming)) → length xs ≡ n → ((i : ℕ) → i < n → slice_index_or xs i None ≡ None) → xs ≡ replicate n None
all_none zero [] long each = refl
all_none zero (x ∷ xs) long each = absurd cc
all_none (suc n) [] long each = absurd cc
all_none (suc n) (x ∷ xs) long each =
    ap (λ (y : Option Incoming). y ∷ xs) (each 0 (omega arith))
    ∙ ap (λ (ys : List (Option Incoming)). None ∷ ys) (all_none n xs (omega (arith, long)) (λ i lt. each (suc i) (omega (arith, lt))))

pub returns : goal.returns
unfolding no_contents
returns c = all_none 256 c.default.result c.default.ensures.long (λ i lt. c.default.ensures.at i None lt)
