-- Decimal numbers, as they are parsed.
use Rattle.std.proofs.Common.{◌≡◌, ℕ, zero, suc, ◌<◌, ◌^◌, Bool, true, false, cond, eqb, ltb, ◌&&◌}
use Rattle.std.proofs.Common.{List, [], ◌∷◌, length, get_or, decimal, Some, None, Result, Ok, Err}
use Rattle.std.proofs.Common.{refl, sym, ap, ◌∙◌, arith}
use Rattle.std.specs.Char.{is_ascii_digit}
use Rattle.std.specs.List.{list_all}
use Rattle.std.specs.Str.{all_ascii_digits, IsUtf8}
use Rattle.std.specs.Str.Parse.{digits_value, ParsesUnsigned}
use Rattle.std.proofs.lemmas.Bool.{ltb-true}
use Rattle.std.proofs.lemmas.Bool.Decides.{nat_tests}
use Rattle.std.proofs.lemmas.Fmt.{decimal-digits_value}
use Rattle.std.proofs.lemmas.Result.{OkIff-at_err}
use Rattle.wire_base.proofs.Laws.{ok_is}
use Rattle.std.proofs.lemmas.Str.{IsUtf8-from_ascii}
use Rattle.std.proofs.lemmas.Str.Parse.{IsNumeralModel, numerals_by_value, tells_all_ascii_digits}
use Rattle.std.proofs.lemmas.Str.Parse.{parse_digits}
use Rattle.property_map.specs.Rows.{is_decimal, decimal_in, ttl_in}
use Rattle.property_map.specs.declared.fault.MapFault.{MapFault}
use Rattle.property_map.specs.declared.fault.MapFault.TheVariants as fault

both_first : (a b : Bool) → (a && b) ≡ true → a ≡ true
both_first true b e = refl
both_first false b e = absurd (cc e)

both_second : (a b : Bool) → (a && b) ≡ true → b ≡ true
both_second true b e = e
both_second false b e = absurd (cc e)

digits_same : (s : List ℕ) → list_all is_ascii_digit s ≡ all_ascii_digits s
digits_same [] = refl
digits_same (c ∷ cs) = ap (λ (b : Bool). is_ascii_digit c && b) (digits_same cs)

digit_small : (c : ℕ) → is_ascii_digit c ≡ true → c < 128
digit_small c e = grind (arith, nat_tests)

digits_small : (s : List ℕ) → list_all is_ascii_digit s ≡ true → (i : ℕ) → get_or s i 0 < 128
digits_small [] e i = omega arith
digits_small (c ∷ cs) e zero = digit_small c (both_first (is_ascii_digit c) (list_all is_ascii_digit cs) e)
digits_small (c ∷ cs) e (suc i) = digits_small cs (both_second (is_ascii_digit c) (list_all is_ascii_digit cs) e) i

-- a decimal number is digits, and one at least
decimal_digits : (s : List ℕ) → is_decimal s ≡ true → (list_all is_ascii_digit s ≡ true) × (0 < length s)
decimal_digits [] e = absurd (cc e)
decimal_digits (c ∷ []) e = (e, omega arith)
decimal_digits (c ∷ d ∷ cs) e = at (eqb c 48) e
  where
    at : (b : Bool) → cond b false (list_all is_ascii_digit (c ∷ d ∷ cs)) ≡ true → (list_all is_ascii_digit (c ∷ d ∷ cs) ≡ true) × (0 < length (c ∷ d ∷ cs))
    at true e = absurd (cc e)
    at false e = (e, omega arith)

decimal_fails : (s : List ℕ) → (is_decimal s ≡ true → digits_value 10 s < 2 ^ 64 → ⊥) → decimal_in s ≡ None
decimal_fails s h = at (is_decimal s) (ltb (digits_value 10 s) (2 ^ 64)) refl refl
  where
    at : (a b : Bool) → is_decimal s ≡ a → ltb (digits_value 10 s) (2 ^ 64) ≡ b → cond (a && b) (Some (digits_value 10 s)) None ≡ None
    at false b d e = refl
    at true false d e = refl
    at true true d e = absurd (h d (ltb-true _ _ e))

-- what is no text is no number
pub no_text : (s : List ℕ) → (IsUtf8 s → ⊥) → decimal_in s ≡ None
no_text s h = decimal_fails s (λ d small. h (IsUtf8-from_ascii s (digits_small s (decimal_digits s d).0)))

own : IsNumeralModel (λ ds. all_ascii_digits ds ≡ true) (digits_value 10)
own = numerals_by_value (λ ds. all_ascii_digits ds ≡ true) tells_all_ascii_digits

-- a decimal number that begins with zero is zero alone
alone : (s : List ℕ) → is_decimal s ≡ true → get_or s 0 0 ≡ 48 → length s ≡ 1
alone [] e h = absurd (cc e)
alone (c ∷ []) e h = omega arith
alone (c ∷ d ∷ cs) e h = let never : false ≡ true = sym (ap (λ (x : ℕ). is_decimal (x ∷ d ∷ cs)) h) ∙ e in absurd (cc never)

-- what was read of a decimal number is written as this number
pub decimal_back : (s : List ℕ) (n : ℕ) → decimal_in s ≡ Some n → decimal n ≡ s
decimal_back s n = at (is_decimal s) (ltb (digits_value 10 s) (2 ^ 64)) refl refl
  where
    at : (a b : Bool) → is_decimal s ≡ a → ltb (digits_value 10 s) (2 ^ 64) ≡ b → cond (a && b) (Some (digits_value 10 s)) None ≡ Some n → decimal n ≡ s
    at false b d e h = absurd (cc h)
    at true false d e h = absurd (cc h)
    at true true d e h =
        let digits = decimal_digits s d in
        let same : decimal (digits_value 10 s) ≡ s = decimal-digits_value own s (sym (digits_same s) ∙ digits.0) digits.1 (alone s d) (ltb-true _ _ e) in
        cc (same, h)

-- what can't be parsed is too great
pub not_parsed : {E : Type 0} (s : List ℕ) (r : Result ℕ E) (d : E) → ParsesUnsigned 64 10 s r → r ≡ Err d → decimal_in s ≡ None
not_parsed s r d p e =
    decimal_fails s (λ is small.
    let digits = decimal_digits s is in
    OkIff-at_err r ((0 < length s) × (digits_value 10 s < 2 ^ 64)) (digits_value 10 s) d (parse_digits own 64 s r p (sym (digits_same s) ∙ digits.0)) e (digits.1, small))

-- a decimal number below 2^32 is one of 64 bits too
ttl_decimal : (s : List ℕ) (n : ℕ) → ttl_in s ≡ Ok n → decimal_in s ≡ Some n
ttl_decimal s n = at (is_decimal s) (ltb (digits_value 10 s) 4294967296) (ltb (digits_value 10 s) (2 ^ 64)) refl refl
  where
    at : (a b c : Bool) → ltb (digits_value 10 s) 4294967296 ≡ b → ltb (digits_value 10 s) (2 ^ 64) ≡ c → cond (a && b) (Ok (digits_value 10 s)) (Err fault.Expiration) ≡ Ok n → cond (a && c) (Some (digits_value 10 s)) None ≡ Some n
    at false b c d e h = absurd (cc h)
    at true false c d e h = absurd (cc h)
    at true true true d e h = ap Some (ok_is {F = MapFault} (digits_value 10 s) n h)
    at true true false d e h = absurd (grind (arith, nat_tests, d, e))

abbrev text_ok : List ℕ → Result (List ℕ) MapFault
text_ok s = Ok s

-- what was read of an expiration is written as it was
pub ttl_back : (s : List ℕ) (n : ℕ) → ttl_in s ≡ Ok n → text_ok (decimal n) ≡ Ok s
ttl_back s n e = ap text_ok (decimal_back s n (ttl_decimal s n e))
