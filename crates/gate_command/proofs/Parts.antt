-- The parts of a text between bytes of one kind, one after another.
use Rattle.std.proofs.Common.{◌≡◌, ◌≢◌, ℕ, ◌+◌, ◌<◌, ◌≤◌, ◌==◌, ◌||◌, Bool, true, false, not}
use Rattle.std.proofs.Common.{cond, List, [], ◌∷◌, ◌++◌, length, Option, None, Some, Bor, refl}
use Rattle.std.proofs.Common.{◌∙◌, ap, arith, eq-eqb}
use Rattle.std.specs.List.{slice_split, onto_first, join_with_byte, position_or_len, list_any}
use Rattle.std.specs.List.{AllByRecursion}
use Rattle.std.proofs.lemmas.List.{length-drop}
use Rattle.std.proofs.lemmas.List.Splits.{slice_split_first, slice_split-cons_yes}
use Rattle.std.proofs.lemmas.List.Splits.{length-slice_split}
use Rattle.std.proofs.lemmas.Str.Pattern.{IsSplitOnceResult, split_once_first}

abbrev pub parts : ℕ → List ℕ → List (List ℕ)
parts c text = slice_split (λ byte. byte == c) text

one_part : (c : ℕ) (text : List ℕ) → position_or_len (λ byte. byte == c) text ≡ length text
    → parts c text ≡ text ∷ []
one_part c [] h = refl
one_part c (byte ∷ bytes) h = at (byte == c) refl (one_part c bytes) h
  where
    at : (t : Bool) → (byte == c) ≡ t
        → (position_or_len (λ byte. byte == c) bytes ≡ length bytes → parts c bytes ≡ bytes ∷ [])
        → cond (not t) (1 + position_or_len (λ byte. byte == c) bytes) 0 ≡ length (byte ∷ bytes)
        → parts c (byte ∷ bytes) ≡ (byte ∷ bytes) ∷ []
    at true is ih e = absurd (omega arith)
    at false is ih e =
        let rest : parts c bytes ≡ bytes ∷ [] = ih (omega arith) in
        rw (is, rest) refl

-- what `split_once` gives, which cuts at the first such byte
pub record IsFirstPart (c : ℕ) (text part after : List ℕ) : Type 0 where
  pub parts_are : parts c text ≡ part ∷ parts c after
  pub shorter : length after < length text

pub part_found : (c : ℕ) (text : List ℕ) (r : Option (Bor (List ℕ) × Bor (List ℕ))) → c < 128
    → IsSplitOnceResult c text r → (x : Bor (List ℕ) × Bor (List ℕ)) → r ≡ Some x
    → IsFirstPart c text x.0.now x.1.now
part_found c text r ascii split x is =
    let (inside, front, back) = rw is at (split_once_first c text r split ascii) in
    record {
      parts_are = slice_split_first (λ byte. byte == c) text 0 inside ∙ rw (front, back) refl;
      shorter =
          let place = position_or_len (λ byte. byte == c) text in
          rw back (omega (arith, inside, length-drop (place + 1) text));
    }

pub part_absent : (c : ℕ) (text : List ℕ) (r : Option (Bor (List ℕ) × Bor (List ℕ))) → c < 128
    → IsSplitOnceResult c text r → r ≡ None → parts c text ≡ text ∷ []
part_absent c text r ascii split is =
    one_part c text (rw is at (split_once_first c text r split ascii))

-- some byte of a text is of that kind
abbrev pub has_byte : ℕ → List ℕ → Bool
has_byte c text = list_any (λ byte. byte == c) text

-- a text without one is one part, and so is what stands before the first
alone : (c : ℕ) (text : List ℕ) → has_byte c text ≡ false → parts c text ≡ text ∷ []
alone c [] h = refl
alone c (byte ∷ bytes) h = at (byte == c) refl (alone c bytes) h
  where
    at : (t : Bool) → (byte == c) ≡ t → (has_byte c bytes ≡ false → parts c bytes ≡ bytes ∷ [])
        → (t || has_byte c bytes) ≡ false → parts c (byte ∷ bytes) ≡ (byte ∷ bytes) ∷ []
    at true is ih e = absurd cc
    at false is ih e = rw (is, ih e) refl

first : (c : ℕ) (text after : List ℕ) → has_byte c text ≡ false
    → parts c (text ++ c ∷ after) ≡ text ∷ parts c after
first c [] after h = slice_split-cons_yes (λ byte. byte == c) c after (eq-eqb c c refl)
first c (byte ∷ bytes) after h = at (byte == c) refl (first c bytes after) h
  where
    at : (t : Bool) → (byte == c) ≡ t
        → (has_byte c bytes ≡ false → parts c (bytes ++ c ∷ after) ≡ bytes ∷ parts c after)
        → (t || has_byte c bytes) ≡ false
        → parts c (byte ∷ bytes ++ c ∷ after) ≡ (byte ∷ bytes) ∷ parts c after
    at true is ih e = absurd cc
    at false is ih e = rw (is, ih e) refl

-- texts without one are the parts of what joining makes of them
pub parts-joined : (c : ℕ) (texts : List (List ℕ)) → texts ≢ []
    → AllByRecursion (λ text. has_byte c text ≡ false) texts
    → parts c (join_with_byte c texts) ≡ texts
parts-joined c [] some free = absurd (some refl)
parts-joined c (text ∷ []) some free = alone c text free.0
parts-joined c (text ∷ next ∷ texts) some free =
    first c text (join_with_byte c (next ∷ texts)) free.0
    ∙ ap (λ (ts : List (List ℕ)). text ∷ ts) (parts-joined c (next ∷ texts) (λ e. absurd cc) free.1)

-- and no part has one
pub parts_free : (c : ℕ) (text : List ℕ)
    → AllByRecursion (λ part. has_byte c part ≡ false) (parts c text)
parts_free c [] = (refl, tt)
parts_free c (byte ∷ bytes) = at (byte == c) (parts c bytes) refl (parts_free c bytes)
  where
    at : (t : Bool) (rest : List (List ℕ)) → (byte == c) ≡ t
        → AllByRecursion (λ part. has_byte c part ≡ false) rest
        → AllByRecursion (λ part. has_byte c part ≡ false)
        (cond t ([] ∷ rest) (onto_first byte rest))
    at true rest is free = (refl, free)
    at false [] is free = (rw is refl, tt)
    at false (part ∷ rest) is free = (rw (is, free.0) refl, free.1)

-- there is at least one
pub parts_some : (c : ℕ) (text : List ℕ) → 1 ≤ length (parts c text)
parts_some c text = omega (arith, length-slice_split (λ byte. byte == c) text)
