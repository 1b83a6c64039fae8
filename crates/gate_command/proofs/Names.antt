-- What texts pass that are read as a name or as a host.
use Rattle.std.proofs.Common.{◌≡◌, ℕ, zero, suc, ◌≤◌, ◌&&◌, Bool, true, false, List, [], ◌∷◌}
use Rattle.std.proofs.Common.{get_or, None, refl, ◌∙◌, arith}
use Rattle.std.specs.Bool.{MatchBool}
use Rattle.std.specs.Char.{is_ascii}
use Rattle.std.specs.List.{list_all}
use Rattle.std.specs.Str.{IsAscii, IsNotAscii, IsUtf8}
use Rattle.std.proofs.lemmas.Bool.Decides.{nat_tests}
use Rattle.std.proofs.lemmas.Str.{is_utf8-from_IsUtf8}
use Rattle.gate_command.specs.Reading.{short_in, name_in, host_in}

-- each byte is ASCII, or one isn't
all_ascii : (text : List ℕ) → IsAscii text → list_all is_ascii text ≡ true
all_ascii [] each = refl
all_ascii (byte ∷ bytes) each =
    let first : is_ascii byte ≡ true = let low = each 0 in grind (arith, nat_tests) in
    rw first (all_ascii bytes (λ i. each (suc i)))

none_with : (b : Bool) → (b && false) ≡ false
none_with true = refl
none_with false = refl

not_all_ascii : (text : List ℕ) (i : ℕ) → 128 ≤ get_or text i 0 → list_all is_ascii text ≡ false
not_all_ascii [] zero high = absurd (omega arith)
not_all_ascii [] (suc i) high = absurd (omega arith)
not_all_ascii (byte ∷ bytes) zero high =
    let first : is_ascii byte ≡ false = grind (arith, nat_tests) in
    rw first refl
not_all_ascii (byte ∷ bytes) (suc i) high = rw (not_all_ascii bytes i high) (none_with (is_ascii byte))

ascii_is : (text : List ℕ) (b : Bool) → MatchBool b (IsAscii text) (IsNotAscii text) → list_all is_ascii text ≡ b
ascii_is text true each = all_ascii text each
ascii_is text false one = not_all_ascii text one.0 one.1

pub name_in-ascii : (text : List ℕ) (b : Bool) → MatchBool b (IsAscii text) (IsNotAscii text) → b ≡ true → name_in text ≡ short_in 100 text
unfolding name_in
name_in-ascii text b says is = rw (ascii_is text b says ∙ is) refl

pub name_in-other : (text : List ℕ) (b : Bool) → MatchBool b (IsAscii text) (IsNotAscii text) → b ≡ false → name_in text ≡ None
unfolding name_in
name_in-other text b says is = rw (ascii_is text b says ∙ is) refl

-- each text is UTF-8
pub host_in-text : (text : List ℕ) → IsUtf8 text → host_in text ≡ short_in 200 text
unfolding host_in
host_in-text text is = rw (is_utf8-from_IsUtf8 text is) refl
