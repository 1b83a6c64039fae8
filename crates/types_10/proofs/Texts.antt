-- Tests of texts.
use Rattle.std.proofs.Common.{◌≡◌, ℕ, Bool, true, false, List, refl, sym}
use Rattle.std.specs.Str.{is_utf8, IsUtf8}
use Rattle.std.proofs.lemmas.Str.{IsUtf8-from_is_utf8}

pub not_utf8 : (s : List ℕ) → (IsUtf8 s → ⊥) → false ≡ is_utf8 s
not_utf8 s h = at (is_utf8 s) refl
  where
    at : (b : Bool) → is_utf8 s ≡ b → false ≡ is_utf8 s
    at true e = absurd (h (IsUtf8-from_is_utf8 s e))
    at false e = sym e
