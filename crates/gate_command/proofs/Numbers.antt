-- A number is read exactly where its text is the decimal text of a number from 1 to the most.
use Rattle.std.proofs.Common.{◌≡◌, ℕ, suc, zero, ◌<◌, ◌≤◌, ◌^◌, ◌&&◌, ltb, leb, Bool, true, false}
use Rattle.std.proofs.Common.{cond, List, [], ◌∷◌, length, get_or, slice_get, Option, Some, None}
use Rattle.std.proofs.Common.{Result, Ok, Err, refl, sym, ◌∙◌, ap, arith}
use Rattle.std.specs.Prelude.{decimal}
use Rattle.std.specs.Result.{OkIff, result_ok}
use Rattle.std.specs.Str.{all_ascii_digits}
use Rattle.std.specs.Str.Parse.{digits_value, ParsesUnsigned}
use Rattle.std.proofs.lemmas.Bool.Decides.{nat_tests}
use Rattle.std.proofs.lemmas.Fmt.{first_decimal, digits_decimal, digits_value-decimal}
use Rattle.std.proofs.lemmas.Fmt.{decimal-digits_value, decimal_digit}
use Rattle.std.proofs.lemmas.Str.Parse.{IsNumeralModel, numerals_by_value, tells_all_ascii_digits}
use Rattle.std.proofs.lemmas.Str.Parse.{parse_plain}
use Rattle.gate_command.specs.Reading.{number_in}

own : IsNumeralModel (λ ds. all_ascii_digits ds ≡ true) (digits_value 10)
own = numerals_by_value _ tells_all_ascii_digits

-- an empty text is no number
pub number_in-nil : (most : ℕ) → number_in most [] ≡ None
unfolding number_in
number_in-nil most = refl

-- nor is one that begins with a byte up to `0`
pub number_in-low : (most : ℕ) (text : List ℕ) → get_or text 0 0 ≤ 48 → number_in most text ≡ None
unfolding number_in
number_in-low most text low =
    let test : ltb 48 (get_or text 0 0) ≡ false = grind (arith, nat_tests) in
    rw test refl

-- a text with no first byte is empty
pub number_in-none : (most : ℕ) (text : List ℕ) → slice_get text 0 ≡ None → number_in most text ≡ None
number_in-none most [] h = number_in-nil most
number_in-none most (byte ∷ bytes) h = absurd cc

-- one that begins with a digit from 1 on isn't
has_byte : (text : List ℕ) → 48 < get_or text 0 0 → 0 < length text
has_byte [] h = absurd (omega arith)
has_byte (byte ∷ bytes) h = omega arith

-- what `parse` says of such a text
parses : {E : Type 0} (text : List ℕ) (r : Result ℕ E) → ParsesUnsigned 64 10 text r → 48 < get_or text 0 0
    → OkIff r ((all_ascii_digits text ≡ true) × (0 < length text) × (digits_value 10 text < 2 ^ 64)) (digits_value 10 text)
parses text r parsed above = parse_plain own 64 text r parsed (omega arith)

-- what it refuses is no number
pub number_in-refused : {E : Type 0} (most : ℕ) (text : List ℕ) (r : Result ℕ E) → ParsesUnsigned 64 10 text r → result_ok r ≡ None → 48 < get_or text 0 0 → most < 2 ^ 64 → number_in most text ≡ None
unfolding number_in
number_in-refused {E} most text (Ok n) parsed is above most_fits = absurd cc
number_in-refused {E} most text (Err e) parsed is above most_fits =
    let test : ltb 48 (get_or text 0 0) ≡ true = grind (arith, nat_tests) in
    rw test (at (all_ascii_digits text) (leb (digits_value 10 text) most) refl refl (parses {E = E} text (Err e) parsed above))
  where
    at : (digits low : Bool) → all_ascii_digits text ≡ digits → leb (digits_value 10 text) most ≡ low
        → ¬ ((all_ascii_digits text ≡ true) × (0 < length text) × (digits_value 10 text < 2 ^ 64))
        → cond {A = Option ℕ} (digits && low) (Some (digits_value 10 text)) None ≡ None
    at false low d l refused = refl
    at true false d l refused = refl
    at true true d l refused =
        let below : digits_value 10 text ≤ most = grind (arith, nat_tests) in
        absurd (refused (d, has_byte text above, omega arith))

-- what it reads is a number where it is at most the most
pub number_in-parsed : {E : Type 0} (most : ℕ) (text : List ℕ) (r : Result ℕ E) (n : ℕ) → ParsesUnsigned 64 10 text r → result_ok r ≡ Some n → 48 < get_or text 0 0 → number_in most text ≡ cond (leb n most) (Some n) None
unfolding number_in
number_in-parsed {E} most text (Err e) n parsed is above = absurd cc
number_in-parsed {E} most text (Ok m) n parsed is above =
    let yes = parses {E = E} text (Ok m) parsed above in
    let same : m ≡ n = cc in
    let test : ltb 48 (get_or text 0 0) ≡ true = grind (arith, nat_tests) in
    rw (test, yes.0.0, ← yes.1, same) refl

-- the first byte of a text
pub first_byte : (text : List ℕ) (byte : ℕ) → slice_get text 0 ≡ Some byte → get_or text 0 0 ≡ byte
first_byte [] byte h = absurd cc
first_byte (b ∷ bs) byte h = cc

-- the decimal text of a number within the bounds is read as that number
pub number_in-decimal : (most n : ℕ) → 1 ≤ n → n ≤ most → most < 2 ^ 64 → number_in most (decimal n) ≡ Some n
unfolding number_in
number_in-decimal most n some within fits =
    let small : n < 2 ^ 64 = omega arith in
    let test : ltb 48 (get_or (decimal n) 0 0) ≡ true = let above = first_decimal n some small in grind (arith, nat_tests) in
    let digits : all_ascii_digits (decimal n) ≡ true = digits_decimal own n small in
    let value : digits_value 10 (decimal n) ≡ n = digits_value-decimal own n small in
    let low : leb n most ≡ true = grind (arith, nat_tests) in
    rw (test, digits, value, low) refl

-- a text that a number is read from
pub record IsNumberText (most : ℕ) (text : List ℕ) (n : ℕ) : Type 0 where
  pub spelled : text ≡ decimal n
  pub some : 1 ≤ n
  pub within : n ≤ most

pub number_in-is : (most : ℕ) (text : List ℕ) (n : ℕ) → most < 2 ^ 64 → number_in most text ≡ Some n → IsNumberText most text n
unfolding number_in
number_in-is most text n fits h =
    at (ltb 48 (get_or text 0 0)) (all_ascii_digits text) (leb (digits_value 10 text) most) refl refl refl h
  where
    at : (above digits low : Bool) → ltb 48 (get_or text 0 0) ≡ above → all_ascii_digits text ≡ digits → leb (digits_value 10 text) most ≡ low
        → cond {A = Option ℕ} (above && digits && low) (Some (digits_value 10 text)) None ≡ Some n → IsNumberText most text n
    at false digits low a d l e = absurd cc
    at true false low a d l e = absurd cc
    at true true false a d l e = absurd cc
    at true true true a d l e =
        let same : digits_value 10 text ≡ n = cc in
        let above : 48 < get_or text 0 0 = grind (arith, nat_tests) in
        let below : digits_value 10 text ≤ most = grind (arith, nat_tests) in
        let spelled : decimal (digits_value 10 text) ≡ text = decimal-digits_value own text d (has_byte text above) (λ zero. absurd (omega arith)) (omega arith) in
        let spelled' : text ≡ decimal n = sym spelled ∙ ap decimal same in
        record { spelled = spelled'; some = positive n spelled' above; within = omega arith }
      where
        positive : (n : ℕ) → text ≡ decimal n → 48 < get_or text 0 0 → 1 ≤ n
        positive zero s above =
            let e : get_or text 0 0 ≡ 48 = ap (λ (t : List ℕ). get_or t 0 0) (s ∙ decimal_digit 0 (omega arith)) in
            absurd (omega arith)
        positive (suc m) s above = omega arith
