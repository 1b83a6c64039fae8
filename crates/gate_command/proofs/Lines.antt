-- The lines of a text, one after another.
use Rattle.std.proofs.Common.{◌≡◌, ℕ, ◌==◌, Bool, true, false, List, [], ◌∷◌, ◌++◌, length, map}
use Rattle.std.proofs.Common.{refl, sym, ◌∙◌, append_assoc}
use Rattle.std.specs.Prelude.{codes}
use Rattle.std.proofs.lemmas.List.{map-append}
use Rattle.gate_command.specs.Command.{words_of}
use Rattle.gate_command.proofs.Parts.{parts}

abbrev pub lines : List ℕ → List (List ℕ)
lines text = parts 10 text

-- the lines so far, and those of the rest
pub one_more : {X : Type 0} (f : X → List ℕ) (xs : List X) (x : X) (text line after : List ℕ) (all : List (List ℕ)) → map f xs ++ lines text ≡ all → lines text ≡ line ∷ lines after → f x ≡ line
    → map f (xs ++ x ∷ []) ++ lines after ≡ all
one_more f xs x text line after all before parts is =
    rw (map-append f xs (x ∷ []), append_assoc (map f xs) (f x ∷ []) (lines after), is, ← parts) before

pub last : {X : Type 0} (f : X → List ℕ) (xs : List X) (x : X) (text : List ℕ) (all : List (List ℕ)) → map f xs ++ lines text ≡ all → lines text ≡ text ∷ [] → f x ≡ text → map f (xs ++ x ∷ []) ≡ all
last f xs x text all before one is = rw (map-append f xs (x ∷ []), is, ← one) before

pub words_are : (text : List ℕ) (empty : Bool) → empty ≡ (length text == 0) → empty ≡ false → words_of text ≡ codes "serve" ∷ lines text
words_are [] empty is isnt = let e : true ≡ false = sym is ∙ isnt in absurd cc
words_are (byte ∷ bytes) empty is isnt = refl
