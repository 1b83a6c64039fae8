-- A word is cut at its first `=`.
use Rattle.std.proofs.Common.{◌≡◌, ℕ, suc, ◌+◌, ◌<◌, ◌==◌, ◌||◌, Bool, true, false, not, cond, List}
use Rattle.std.proofs.Common.{[], ◌∷◌, ◌++◌, length, take, drop, Option, Some, None, Bor, refl, sym, ◌∙◌, ap}
use Rattle.std.proofs.Common.{arith}
use Rattle.std.specs.List.{position_or_len, before_first, after_first, list_any}
use Rattle.std.proofs.lemmas.Bool.Decides.{nat_tests}
use Rattle.std.proofs.lemmas.Str.Pattern.{IsSplitOnceResult, split_once_first}
use Rattle.gate_command.specs.Reading.{cut}

-- the byte is `=`
abbrev pub is_equals : ℕ → Bool
is_equals byte = byte == 61

-- the parts of a word
pub record IsCut (word front : List ℕ) (back : Option (List ℕ)) : Type 0 where
  pub front_is : (cut word).0 ≡ front
  pub back_is : (cut word).1 ≡ back

-- where there is a `=`, they stand before it and after it
pub cut_found : (word : List ℕ) → position_or_len is_equals word < length word → IsCut word (before_first is_equals word) (Some (after_first is_equals word))
cut_found [] h = absurd (omega arith)
cut_found (byte ∷ bytes) h = record { front_is = front (byte == 61) (λ h. (cut_found bytes h).front_is) h; back_is = back (byte == 61) (λ h. (cut_found bytes h).back_is) h }
  where
    front : (t : Bool) → (position_or_len is_equals bytes < length bytes → (cut bytes).0 ≡ before_first is_equals bytes)
        → cond (not t) (1 + position_or_len is_equals bytes) 0 < length (byte ∷ bytes)
        → (cond {A = List ℕ × Option (List ℕ)} t ([], Some bytes) (byte ∷ (cut bytes).0, (cut bytes).1)).0 ≡ take (cond (not t) (1 + position_or_len is_equals bytes) 0) (byte ∷ bytes)
    front true ih h = refl
    front false ih h =
        let e : 1 + position_or_len is_equals bytes ≡ suc (position_or_len is_equals bytes) = omega arith in
        rw e (ap (λ (front : List ℕ). byte ∷ front) (ih (omega arith)))

    back : (t : Bool) → (position_or_len is_equals bytes < length bytes → (cut bytes).1 ≡ Some (after_first is_equals bytes))
        → cond (not t) (1 + position_or_len is_equals bytes) 0 < length (byte ∷ bytes)
        → (cond {A = List ℕ × Option (List ℕ)} t ([], Some bytes) (byte ∷ (cut bytes).0, (cut bytes).1)).1 ≡ Some (drop (cond (not t) (1 + position_or_len is_equals bytes) 0 + 1) (byte ∷ bytes))
    back true ih h = refl
    back false ih h =
        let e : 1 + position_or_len is_equals bytes + 1 ≡ suc (position_or_len is_equals bytes + 1) = omega arith in
        rw e (ih (omega arith))

-- where there is none, the front is all
pub cut_absent : (word : List ℕ) → position_or_len is_equals word ≡ length word → IsCut word word None
cut_absent [] h = record { front_is = refl; back_is = refl }
cut_absent (byte ∷ bytes) h = record { front_is = front (byte == 61) (λ h. (cut_absent bytes h).front_is) h; back_is = back (byte == 61) (λ h. (cut_absent bytes h).back_is) h }
  where
    front : (t : Bool) → (position_or_len is_equals bytes ≡ length bytes → (cut bytes).0 ≡ bytes)
        → cond (not t) (1 + position_or_len is_equals bytes) 0 ≡ length (byte ∷ bytes)
        → (cond {A = List ℕ × Option (List ℕ)} t ([], Some bytes) (byte ∷ (cut bytes).0, (cut bytes).1)).0 ≡ byte ∷ bytes
    front true ih h = absurd (omega arith)
    front false ih h = ap (λ (front : List ℕ). byte ∷ front) (ih (omega arith))

    back : (t : Bool) → (position_or_len is_equals bytes ≡ length bytes → (cut bytes).1 ≡ None)
        → cond (not t) (1 + position_or_len is_equals bytes) 0 ≡ length (byte ∷ bytes)
        → (cond {A = List ℕ × Option (List ℕ)} t ([], Some bytes) (byte ∷ (cut bytes).0, (cut bytes).1)).1 ≡ None
    back true ih h = absurd (omega arith)
    back false ih h = ih (omega arith)

-- what `split_once` says of the parts
pub split_found : (word : List ℕ) (r : Option (Bor (List ℕ) × Bor (List ℕ))) → IsSplitOnceResult 61 word r
    → (x : Bor (List ℕ) × Bor (List ℕ)) → r ≡ Some x → IsCut word x.0.now (Some x.1.now)
split_found word r split x is =
    let (inside, front, back) = rw is at (split_once_first 61 word r split (omega arith)) in
    let parts = cut_found word inside in
    record { front_is = parts.front_is ∙ sym front; back_is = parts.back_is ∙ ap Some (sym back) }

pub split_absent : (word : List ℕ) (r : Option (Bor (List ℕ) × Bor (List ℕ))) → IsSplitOnceResult 61 word r → r ≡ None → IsCut word word None
split_absent word r split is = cut_absent word (rw is at (split_once_first 61 word r split (omega arith)))

-- a word is made of its parts
pub cut_none : (word : List ℕ) → (cut word).1 ≡ None → (cut word).0 ≡ word
cut_none [] h = refl
cut_none (byte ∷ bytes) h = at (byte == 61) (cut_none bytes) h
  where
    at : (t : Bool) → ((cut bytes).1 ≡ None → (cut bytes).0 ≡ bytes)
        → (cond {A = List ℕ × Option (List ℕ)} t ([], Some bytes) (byte ∷ (cut bytes).0, (cut bytes).1)).1 ≡ None
        → (cond {A = List ℕ × Option (List ℕ)} t ([], Some bytes) (byte ∷ (cut bytes).0, (cut bytes).1)).0 ≡ byte ∷ bytes
    at true ih h = absurd cc
    at false ih h = ap (λ (front : List ℕ). byte ∷ front) (ih h)

pub cut_some : (word value : List ℕ) → (cut word).1 ≡ Some value → (cut word).0 ++ 61 ∷ value ≡ word
cut_some [] value h = absurd cc
cut_some (byte ∷ bytes) value h = at (byte == 61) refl (cut_some bytes value) h
  where
    at : (t : Bool) → (byte == 61) ≡ t → ((cut bytes).1 ≡ Some value → (cut bytes).0 ++ 61 ∷ value ≡ bytes)
        → (cond {A = List ℕ × Option (List ℕ)} t ([], Some bytes) (byte ∷ (cut bytes).0, (cut bytes).1)).1 ≡ Some value
        → (cond {A = List ℕ × Option (List ℕ)} t ([], Some bytes) (byte ∷ (cut bytes).0, (cut bytes).1)).0 ++ 61 ∷ value ≡ byte ∷ bytes
    at true is ih h =
        let equals : byte ≡ 61 = grind (arith, nat_tests) in
        let same : bytes ≡ value = cc in
        cc
    at false is ih h = ap (λ (front : List ℕ). byte ∷ front) (ih h)

-- what stands before the first `=` has none
pub front_free : (word : List ℕ) → list_any is_equals (cut word).0 ≡ false
front_free [] = refl
front_free (byte ∷ bytes) = at (byte == 61) refl (front_free bytes)
  where
    at : (t : Bool) → (byte == 61) ≡ t → list_any is_equals (cut bytes).0 ≡ false
        → list_any is_equals
        (cond {A = List ℕ × Option (List ℕ)} t ([], Some bytes) (byte ∷ (cut bytes).0, (cut bytes).1)).0
        ≡ false
    at true is ih = refl
    at false is ih = rw (is, ih) refl

-- so a word that begins with a text that has none is cut behind it
pub cut_behind : (front back : List ℕ) → list_any is_equals front ≡ false
    → cut (front ++ 61 ∷ back) ≡ (front, Some back)
cut_behind [] back h = refl
cut_behind (byte ∷ bytes) back h = at (byte == 61) refl (cut_behind bytes back) h
  where
    at : (t : Bool) → (byte == 61) ≡ t
        → (list_any is_equals bytes ≡ false → cut (bytes ++ 61 ∷ back) ≡ (bytes, Some back))
        → (t || list_any is_equals bytes) ≡ false
        → cut (byte ∷ bytes ++ 61 ∷ back) ≡ (byte ∷ bytes, Some back)
    at true is ih e = absurd cc
    at false is ih e = rw (is, ih e) refl
