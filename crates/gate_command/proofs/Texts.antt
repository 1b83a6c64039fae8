-- The text of the words: it is what joining makes of them, and it is short.
use Rattle.std.proofs.Common.{◌≡◌, ℕ, ◌+◌, ◌-◌, ◌*◌, ◌<◌, ◌≤◌, ◌^◌, List, [], ◌∷◌, ◌++◌, length}
use Rattle.std.proofs.Common.{take, drop, inl, inr, refl, ap, arith, append-nil}
use Rattle.std.specs.Prelude.{codes, map, sum_by}
use Rattle.std.specs.List.{flat_map, join_by, join_with_byte}
use Rattle.std.proofs.lemmas.List.{length-append, take_all}
use Rattle.std.proofs.lemmas.List.Sums.{sum_by-cons}
use Rattle.gate_command.specs.declared.options.OptionName.{OptionName}
use Rattle.gate_command.specs.declared.options.OptionName.TheVariants.{Listen, Upstream, Name, Host}
use Rattle.gate_command.specs.declared.options.OptionName.TheVariants.{Vhost, Exchange, Pairs}
use Rattle.gate_command.specs.declared.options.OptionName.TheVariants.{Turns, Capture}
use Rattle.gate_command.specs.declared.words.Asked.{Asked}
use Rattle.gate_command.specs.declared.words.Format.{Format}
use Rattle.gate_command.specs.declared.words.Format.TheVariants as format
use Rattle.gate_command.specs.Command.{Given, joined, apart, option_of, option_text, value_text}
use Rattle.gate_command.specs.Command.{spelling, format_text, IsCommand, Asks, text_of}

-- joined with a byte between each two
pub join_by-byte : {X : Type 0} (f : X → List ℕ) (c : ℕ) (xs : List X) → join_by f (c ∷ []) xs ≡ join_with_byte c (map f xs)
join_by-byte {X = X} f c [] = refl
join_by-byte {X = X} f c (x ∷ xs) = onward x xs
  where
    onward : (x : X) (xs : List X) → join_by f (c ∷ []) (x ∷ xs) ≡ join_with_byte c (map f (x ∷ xs))
    onward x [] = append-nil (f x)
    onward x (y ∷ ys) = ap (λ (t : List ℕ). f x ++ c ∷ t) (onward y ys)

-- the same of what follows the first
pub text_after : {X : Type 0} (f : X → List ℕ) (xs : List X) → join_by f (10 ∷ []) (take (length xs - 1) (drop 1 xs)) ≡ text_of (map f xs)
text_after f [] = refl
text_after f (x ∷ xs) =
    let e : length (x ∷ xs) - 1 ≡ length xs = omega arith in
    rw (e, take_all (length xs) xs (omega arith)) (join_by-byte f 10 xs)

-- no name of an option is empty
named : (option : OptionName) → 1 ≤ length (option_text option)
named Listen = omega arith
named Upstream = omega arith
named Name = omega arith
named Host = omega arith
named Vhost = omega arith
named Exchange = omega arith
named Pairs = omega arith
named Turns = omega arith
named Capture = omega arith

-- two words have at least a byte
one_more : (word : List ℕ) (words : List (List ℕ)) → 1 ≤ length word → length words ≤ 2 * sum_by length words → length (word ∷ words) ≤ 2 * sum_by length (word ∷ words)
one_more word words some few = omega (arith, sum_by-cons length word words)

two_more : (word value : List ℕ) (words : List (List ℕ)) → 1 ≤ length word → length words ≤ 2 * sum_by length words → length (word ∷ value ∷ words) ≤ 2 * sum_by length (word ∷ value ∷ words)
two_more word value words some few = omega (arith, sum_by-cons length word (value ∷ words), sum_by-cons length value words)

begins : (option : OptionName) (sign value : List ℕ) → 1 ≤ length (option_text option ++ sign ++ value)
begins option sign value = omega (arith, named option, length-append (option_text option ++ sign) value, length-append (option_text option) sign)

few_words : (given : List Given) → length (flat_map spelling given) ≤ 2 * sum_by length (flat_map spelling given)
few_words [] = omega arith
few_words (joined setting ∷ given) =
    one_more (option_text (option_of setting) ++ codes "=" ++ value_text setting) (flat_map spelling given) (begins (option_of setting) (codes "=") (value_text setting)) (few_words given)
few_words (apart setting ∷ given) = two_more (option_text (option_of setting)) (value_text setting) (flat_map spelling given) (named (option_of setting)) (few_words given)

-- the words and a byte for each are at least their text
joined_within : (c : ℕ) (words : List (List ℕ)) → length (join_with_byte c words) ≤ sum_by length words + length words
joined_within c [] = omega arith
joined_within c (x ∷ []) = omega (arith, sum_by-cons length x [])
joined_within c (x ∷ y ∷ words) =
    omega (arith, joined_within c (y ∷ words), sum_by-cons length x (y ∷ words), length-append x (c ∷ join_with_byte c (y ∷ words)))

-- so the length of a command line's text fits its field
options_are_small : (words : List (List ℕ)) (given : List Given) → drop 1 words ≡ flat_map spelling given → sum_by length (drop 1 words) ≤ 65536 → length (text_of words) < 2 ^ 32
options_are_small words given rest within =
    let short : sum_by length (flat_map spelling given) ≤ 65536 = rw (← rest) within in
    let small : length (join_with_byte 10 (flat_map spelling given)) < 2 ^ 32 = omega (arith, short, few_words given, joined_within 10 (flat_map spelling given)) in
    rw rest small

pub text_is_small : (words : List (List ℕ)) (asked : Asked) → Asks words asked → length (text_of words) < 2 ^ 32
text_is_small words asked asks = by asks.command
  where
    few : (what : Format) → length (text_of (codes "show" ∷ format_text what ∷ [])) < 2 ^ 32
    few format.Amqp091 = omega arith
    few format.Amqp10 = omega arith
    few format.Capture = omega arith

    by : IsCommand words asked → length (text_of words) < 2 ^ 32
    by (inl command) = options_are_small words command.given (ap (drop 1) command.spelled) asks.within.short
    by (inr (inl (e, a))) = rw e (omega arith)
    by (inr (inr (what, e, a))) = rw e (few what)
