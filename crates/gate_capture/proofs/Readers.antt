-- The laws of the readers from which those of a capture are put together.
use Rattle.std.proofs.Common.{◌≡◌, ℕ, ◌<◌, ◌≤◌, ◌||◌, Bool, true, false, ltb, eqb, List, [], ◌∷◌}
use Rattle.std.proofs.Common.{◌++◌, length, take, drop, Option, Some, None, Ok, Err, refl, sym, ap}
use Rattle.std.proofs.Common.{subst, ◌∙◌, append_assoc, append-nil, arith}
use Rattle.std.specs.Int.{w8, w32, to_be_bytes}
use Rattle.std.proofs.lemmas.Bool.{ltb-false, le-ltb, eqb-false, ne_eqb}
use Rattle.std.proofs.lemmas.List.{take_at, drop_at, take-append-drop, length-append, length-take}
use Rattle.wire_base.specs.Bytes.{IsBytes}
use Rattle.wire_base.specs.declared.scan.At.{At}
use Rattle.wire_base.specs.Reading.{Reads, ◌>>=◌}
use Rattle.wire_base.specs.Spelling.{IsNumber}
use Rattle.wire_base.proofs.Bytes.{IsBytes-drop}
use Rattle.wire_base.proofs.Laws.{IsReader, Finds, wide8, wide32, bind_is, guard_is, ok_is}
use Rattle.wire_base.proofs.Laws.{number_reader}
use Rattle.gate_capture.specs.Reading.{Part, cut, misfit, octet_in, long_in, then_in, value_in}
use Rattle.gate_capture.specs.Reading.{known_in, byte_in, within_in, count_in, bytes_in}
use Rattle.gate_capture.specs.declared.reading.CaptureFault.{CaptureFault}

-- a reader is one of each relation that says the same
pub reader_as : {A F : Type 0} (R S : A → List ℕ → Type 0) (read : ℕ → List ℕ → Reads A F) → ((a : A) (text : List ℕ) → R a text → S a text) → ((a : A) (text : List ℕ) → S a text → R a text) → IsReader R read → IsReader S read
reader_as R S read to from r = record {
  finds = λ size text x fits e. let f = r.finds size text x fits e in record { front = f.front; spelled = to x.0 f.front f.spelled; parts = f.parts; rest_fits = f.rest_fits };
  again = λ size a front rest h. r.again size a front rest (from a front h);
}

-- one value, and one that is read by it
abbrev pub IsThen : {A B : Type 0} → (A → List ℕ → Type 0) → (A → B → List ℕ → Type 0) → B → List ℕ → Type 0
IsThen {A} R S b text = (a : A) × (front : List ℕ) × (back : List ℕ) × R a front × S a b back × (text ≡ front ++ back)

pub then_reader : {A B : Type 0} (R : A → List ℕ → Type 0) (S : A → B → List ℕ → Type 0) (first : ℕ → List ℕ → Part A) (second : A → At CaptureFault → ℕ → List ℕ → Part B)
    → IsReader R first → ((a : A) (f : At CaptureFault) → IsReader (S a) (second a f)) → IsReader (IsThen R S) (then_in first second)
then_reader {A} {B} R S first second r s = record { finds = finds; again = again }
  where
    finds : (size : ℕ) (text : List ℕ) (x : B × List ℕ) → IsBytes text → then_in first second size text ≡ Ok x → Finds (IsThen R S) text x
    finds size text x fits e =
        let a = bind_is (first size text) (λ a. second a.0 (misfit size text) size a.1) x e in
        let f = r.finds size text a.0 fits a.1 in
        let g = (s a.0.0 (misfit size text)).finds size a.0.1 x f.rest_fits a.2 in
        let parts : text ≡ (f.front ++ g.front) ++ x.1 = f.parts ∙ ap (λ (t : List ℕ). f.front ++ t) g.parts ∙ sym (append_assoc f.front g.front x.1) in
        record { front = f.front ++ g.front; spelled = (a.0.0, f.front, g.front, f.spelled, g.spelled, refl); parts = parts; rest_fits = g.rest_fits }

    again : (size : ℕ) (b : B) (front rest : List ℕ) → IsThen R S b front → then_in first second size (front ++ rest) ≡ Ok (b, rest)
    again size b front rest h =
        let regrouped : front ++ rest ≡ h.1 ++ (h.2 ++ rest) = ap (λ (t : List ℕ). t ++ rest) h.5 ∙ append_assoc h.1 h.2 rest in
        let one : first size (h.1 ++ (h.2 ++ rest)) ≡ Ok (h.0, h.2 ++ rest) = r.again size h.0 h.1 (h.2 ++ rest) h.3 in
        ap (then_in first second size) regrouped ∙ ap (λ (a : Part A). a >>= λ x. second x.0 (misfit size (h.1 ++ (h.2 ++ rest))) size x.1) one ∙ (s h.0 (misfit size (h.1 ++ (h.2 ++ rest)))).again size b h.2 rest h.4

-- a value without bytes, and none
abbrev pub IsValue : {A : Type 0} → A → A → List ℕ → Type 0
IsValue a b text = (b ≡ a) × (text ≡ [])

abbrev pub IsNone : {A : Type 0} → A → List ℕ → Type 0
IsNone a text = ⊥

pub value_reader : {A : Type 0} (a : A) → IsReader (IsValue a) (value_in a)
value_reader {A} a = record {
  finds = λ size text x fits e. subst (λ (y : A × List ℕ). Finds (IsValue a) text y) (ok_is {F = At CaptureFault} (a, text) x e) (record { front = []; spelled = (refl, refl); parts = refl; rest_fits = fits });
  again = λ size b front rest h. rw (h.0, h.1) refl;
}

pub none_reader : {A : Type 0} (f : At CaptureFault) → IsReader {A = A} {F = At CaptureFault} IsNone (λ size text. Err f)
none_reader f = record { finds = λ size text x fits e. absurd cc; again = λ size a front rest h. absurd h }

-- the value that an option holds
abbrev pub IsKnown : {A : Type 0} → Option A → A → List ℕ → Type 0
IsKnown o a text = (o ≡ Some a) × (text ≡ [])

pub known_reader : {A : Type 0} (o : Option A) (f : At CaptureFault) → IsReader (IsKnown o) (known_in o f)
known_reader None f = record { finds = λ size text x fits e. absurd cc; again = λ size a front rest h. absurd cc }
known_reader (Some a) f = reader_as (IsValue a) (IsKnown (Some a)) (value_in a) (λ b text h. (ap (λ x. Some x) (sym h.0), h.1)) (λ b text h. (cc, h.1)) (value_reader a)

-- ---- a byte that stands for a value

abbrev pub IsByte : {A : Type 0} → (A → ℕ) → A → List ℕ → Type 0
IsByte byte a text = text ≡ byte a ∷ []

-- the values and their bytes, both ways
pub record AreBytes {A : Type 0} (value_of : ℕ → Option A) (byte : A → ℕ) : Type 0 where
  pub below : (a : A) → byte a < 256
  pub known : (a : A) → value_of (byte a) ≡ Some a
  pub is : (b : ℕ) (a : A) → value_of b ≡ Some a → byte a ≡ b

pub octet_text : (n : ℕ) → n < 256 → n ∷ [] ≡ to_be_bytes w8 n
octet_text n below = ap (λ (m : ℕ). m ∷ []) (omega arith)

pub octet_reader : IsReader (IsNumber w8) octet_in
octet_reader = record { finds = λ size. (number_reader (cut size) w8 wide8).finds size; again = λ size. (number_reader (cut size) w8 wide8).again size }

pub byte_reader : {A : Type 0} (value_of : ℕ → Option A) (byte : A → ℕ) → AreBytes value_of byte → IsReader (IsByte byte) (byte_in value_of)
byte_reader {A} value_of byte b =
    reader_as (IsThen (IsNumber w8) (λ n. IsKnown (value_of n))) (IsByte byte) (byte_in value_of) to from
    (then_reader (IsNumber w8) (λ n. IsKnown (value_of n)) octet_in (λ n f. known_in (value_of n) f) octet_reader (λ n f. known_reader (value_of n) f))
  where
    to : (a : A) (text : List ℕ) → IsThen (IsNumber w8) (λ n. IsKnown (value_of n)) a text → IsByte byte a text
    to a text (n, front, back, p, q, e) = e ∙ rw (q.1, p.1, append-nil) (sym (octet_text n p.0)) ∙ ap (λ (m : ℕ). m ∷ []) (sym (b.is n a q.0))

    from : (a : A) (text : List ℕ) → IsByte byte a text → IsThen (IsNumber w8) (λ n. IsKnown (value_of n)) a text
    from a text e = (byte a, byte a ∷ [], [], (b.below a, octet_text (byte a) (b.below a)), (b.known a, refl), e)

-- ---- counts and bytes

pub long_reader : IsReader (IsNumber w32) long_in
long_reader = record { finds = λ size. (number_reader (cut size) w32 wide32).finds size; again = λ size. (number_reader (cut size) w32 wide32).again size }

abbrev IsWithin : ℕ → ℕ → ℕ → List ℕ → Type 0
IsWithin most n m text = (1 ≤ n) × (n ≤ most) × IsValue n m text

either_false : (a b : Bool) → (a || b) ≡ false → (a ≡ false) × (b ≡ false)
either_false true b e = absurd cc
either_false false b e = (refl, e)

within_reader : (most n : ℕ) (f : At CaptureFault) → IsReader (IsWithin most n) (within_in most n f)
within_reader most n f = record { finds = finds; again = again }
  where
    finds : (size : ℕ) (text : List ℕ) (x : ℕ × List ℕ) → IsBytes text → within_in most n f size text ≡ Ok x → Finds (IsWithin most n) text x
    finds size text x fits e =
        let g = guard_is (eqb n 0 || ltb most n) f (n, text) x e in
        let t = either_false (eqb n 0) (ltb most n) g.0 in
        let some : n ≡ 0 → ⊥ = eqb-false n 0 t.0 in
        let small : n ≤ most = ltb-false _ _ t.1 in
        subst (λ (y : ℕ × List ℕ). Finds (IsWithin most n) text y) g.1 (record { front = []; spelled = (omega arith, small, (refl, refl)); parts = refl; rest_fits = fits })

    again : (size m : ℕ) (front rest : List ℕ) → IsWithin most n m front → within_in most n f size (front ++ rest) ≡ Ok (m, rest)
    again size m front rest h =
        let some : eqb n 0 ≡ false = ne_eqb n 0 (λ (e : n ≡ 0). omega (arith, h.0)) in
        let small : ltb most n ≡ false = le-ltb _ _ h.1 in
        rw (h.2.0, h.2.1, some, small) refl

-- at least 1 and at most so many
abbrev pub IsCount : ℕ → ℕ → List ℕ → Type 0
IsCount most n text = (1 ≤ n) × (n ≤ most) × IsNumber w32 n text

pub count_reader : (most : ℕ) → IsReader (IsCount most) (count_in most)
count_reader most =
    reader_as (IsThen (IsNumber w32) (IsWithin most)) (IsCount most) (count_in most) to from
    (then_reader (IsNumber w32) (IsWithin most) long_in (within_in most) long_reader (within_reader most))
  where
    to : (n : ℕ) (text : List ℕ) → IsThen (IsNumber w32) (IsWithin most) n text → IsCount most n text
    to n text (m, front, back, p, q, e) = rw q.2.0 (q.0, q.1, (p.0, e ∙ rw (q.2.1, append-nil) p.1))

    from : (n : ℕ) (text : List ℕ) → IsCount most n text → IsThen (IsNumber w32) (IsWithin most) n text
    from n text h = (n, text, [], h.2, (h.0, h.1, (refl, refl)), sym (append-nil text))

abbrev pub IsRun : ℕ → List ℕ → List ℕ → Type 0
IsRun n s text = (length s ≡ n) × (text ≡ s)

pub bytes_reader : (n : ℕ) → IsReader (IsRun n) (bytes_in n)
bytes_reader n = record { finds = finds; again = again }
  where
    finds : (size : ℕ) (text : List ℕ) (x : List ℕ × List ℕ) → IsBytes text → bytes_in n size text ≡ Ok x → Finds (IsRun n) text x
    finds size text x fits e =
        let g = guard_is (ltb (length text) n) (cut size size) (take n text, drop n text) x e in
        let long : n ≤ length text = ltb-false _ _ g.0 in
        subst (λ (y : List ℕ × List ℕ). Finds (IsRun n) text y) g.1
        (record { front = take n text; spelled = (omega (arith, length-take n text), refl); parts = sym (take-append-drop n text); rest_fits = IsBytes-drop n text fits })

    again : (size : ℕ) (s front rest : List ℕ) → IsRun n s front → bytes_in n size (front ++ rest) ≡ Ok (s, rest)
    again size s front rest h =
        let long : ltb (length (s ++ rest)) n ≡ false = le-ltb _ _ (omega (arith, h.0, length-append s rest)) in
        rw (h.1, long, take_at s rest n h.0, drop_at s rest n h.0) refl
