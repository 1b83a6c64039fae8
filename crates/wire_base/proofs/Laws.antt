-- Readers against spellings: what is read is spelled so, and what is spelled so is read, whatever follows.
-- The law of a reader is put together from the laws of its parts.
use Rattle.std.proofs.Common.{◌≡◌, ◌↔◌, ℕ, ◌+◌, ◌-◌, ◌^◌, ◌<◌, ◌≤◌, Bool, true, false, cond, ltb}
use Rattle.std.proofs.Common.{List, [], ◌∷◌, ◌++◌, length, take, drop, Result, Ok, Err, refl, sym}
use Rattle.std.proofs.Common.{ap, subst, ◌∙◌, append_assoc, arith}
use Rattle.std.specs.Int.{Width, w8, w16, w32, w64, byte_len, from_be_bytes, to_be_bytes}
use Rattle.std.proofs.lemmas.Bool.{ltb-false, le-ltb}
use Rattle.std.proofs.lemmas.List.{take_at, drop_at, take-append-drop, length-append, length-take}
use Rattle.std.proofs.lemmas.List.{length-drop}
use Rattle.std.proofs.lemmas.Nat.{be_bytes_2, be_bytes_4, be_bytes_8, from_be_bytes-to_be_bytes_2}
use Rattle.std.proofs.lemmas.Nat.{from_be_bytes-to_be_bytes_4, from_be_bytes-to_be_bytes_8}
use Rattle.wire_base.specs.Bytes.{IsBytes}
use Rattle.wire_base.specs.Reading.{Reads, ◌>>=◌, made, pair_in, number_in, text_in, whole_in}
use Rattle.wire_base.proofs.Bytes.{IsBytes-drop, IsBytes-take}
use Rattle.wire_base.specs.Spelling.{IsNumber, IsText, IsMade, IsPair, StandsAt}

-- ---- steps

-- the value of a step that did not fail
pub bind_is : {A B F : Type 0} (r : Result A F) (f : A → Result B F) (y : B) → (r >>= f) ≡ Ok y → (x : A) × (r ≡ Ok x) × (f x ≡ Ok y)
bind_is (Ok x) f y e = (x, refl, e)
bind_is (Err d) f y e = absurd cc

-- a test that did not fail
pub guard_is : {A F : Type 0} (b : Bool) (d : F) (x y : A) → cond b (Err d) (Ok x) ≡ Ok y → (b ≡ false) × (x ≡ y)
guard_is true d x y e = absurd cc
guard_is false d x y e = (refl, cc)

abbrev done : {A : Type 0} (F : Type 0) → A → Result A F
done F x = Ok x

pub ok_is : {A F : Type 0} (x y : A) → done F x ≡ done F y → x ≡ y
ok_is x y e = cc

-- ---- the law of a reader

-- what stands at the front of the bytes spells the value that was read
pub record Finds {A : Type 0} (R : A → List ℕ → Type 0) (text : List ℕ) (x : A × List ℕ) : Type 0 where
  pub front : List ℕ
  pub spelled : R x.0 front
  pub parts : text ≡ front ++ x.1
  pub rest_fits : IsBytes x.1

-- what is read is spelled so, and what is spelled so is read, whatever follows
pub record IsReader {A F : Type 0} (R : A → List ℕ → Type 0) (read : ℕ → List ℕ → Reads A F) : Type 0 where
  pub finds : (end : ℕ) (text : List ℕ) (x : A × List ℕ) → IsBytes text → read end text ≡ Ok x → Finds R text x
  pub again : (end : ℕ) (a : A) (front rest : List ℕ) → R a front → read end (front ++ rest) ≡ Ok (a, rest)

-- ---- made values and pairs

pub made_reader : {A B F : Type 0} (make : A → B) (R : A → List ℕ → Type 0) (read : ℕ → List ℕ → Reads A F) → IsReader R read → IsReader (IsMade make R) (λ end text. made make (read end text))
made_reader {A} {B} {F} make R read r = record { finds = finds; again = again }
  where
    finds : (end : ℕ) (text : List ℕ) (x : B × List ℕ) → IsBytes text → made make (read end text) ≡ Ok x → Finds (IsMade make R) text x
    finds end text x fits e =
        let a = bind_is (read end text) (λ x. Ok (make x.0, x.1)) x e in
        let f = r.finds end text a.0 fits a.1 in
        subst (λ (y : B × List ℕ). Finds (IsMade make R) text y) (ok_is (make a.0.0, a.0.1) x a.2)
        (record { front = f.front; spelled = (a.0.0, refl, f.spelled); parts = f.parts; rest_fits = f.rest_fits })

    again : (end : ℕ) (b : B) (front rest : List ℕ) → IsMade make R b front → made make (read end (front ++ rest)) ≡ Ok (b, rest)
    again end b front rest h = rw (r.again end h.0 front rest h.2, h.1) refl

pub pair_reader : {A B F : Type 0} (R : A → List ℕ → Type 0) (S : B → List ℕ → Type 0) (read : ℕ → List ℕ → Reads A F) (more : ℕ → List ℕ → Reads B F) → IsReader R read → IsReader S more
    → IsReader (IsPair R S) (pair_in read more)
pair_reader {A} {B} {F} R S read more r s = record { finds = finds; again = again }
  where
    finds : (end : ℕ) (text : List ℕ) (x : (A × B) × List ℕ) → IsBytes text → pair_in read more end text ≡ Ok x → Finds (IsPair R S) text x
    finds end text x fits e =
        let a = bind_is (read end text) (λ a. more end a.1 >>= λ b. Ok ((a.0, b.0), b.1)) x e in
        let b = bind_is (more end a.0.1) (λ b. Ok ((a.0.0, b.0), b.1)) x a.2 in
        let f = r.finds end text a.0 fits a.1 in
        let g = s.finds end a.0.1 b.0 f.rest_fits b.1 in
        let parts : text ≡ (f.front ++ g.front) ++ b.0.1 = f.parts ∙ ap (λ (t : List ℕ). f.front ++ t) g.parts ∙ sym (append_assoc f.front g.front b.0.1) in
        subst (λ (y : (A × B) × List ℕ). Finds (IsPair R S) text y) (ok_is ((a.0.0, b.0.0), b.0.1) x b.2)
        (record { front = f.front ++ g.front; spelled = (f.front, g.front, f.spelled, g.spelled, refl); parts = parts; rest_fits = g.rest_fits })

    again : (end : ℕ) (p : A × B) (front rest : List ℕ) → IsPair R S p front → pair_in read more end (front ++ rest) ≡ Ok (p, rest)
    again end p front rest h =
        let regrouped : front ++ rest ≡ h.0 ++ (h.1 ++ rest) = ap (λ (t : List ℕ). t ++ rest) h.4 ∙ append_assoc h.0 h.1 rest in
        ap (pair_in read more end) regrouped ∙ rw (r.again end p.0 h.0 (h.1 ++ rest) h.2, s.again end p.1 h.1 rest h.3) refl

-- ---- values of at least so many bytes

unguarded : {A F : Type 0} (b : Bool) (d : F) (r : Result A F) (y : A) → cond b (Err d) r ≡ Ok y → r ≡ Ok y
unguarded true d r y e = absurd cc
unguarded false d r y e = e

pub whole_reader : {A F : Type 0} (fault : ℕ → F) (n : ℕ) (R : A → List ℕ → Type 0) (read : ℕ → List ℕ → Reads A F) → IsReader R read → ((a : A) (text : List ℕ) → R a text → n ≤ length text) → IsReader R (whole_in fault n read)
whole_reader {A} {F} fault n R read r long = record { finds = finds; again = again }
  where
    finds : (end : ℕ) (text : List ℕ) (x : A × List ℕ) → IsBytes text → whole_in fault n read end text ≡ Ok x → Finds R text x
    finds end text x fits e = r.finds end text x fits (unguarded (ltb (length text) n) (fault (end - length text)) (read end text) x e)

    again : (end : ℕ) (a : A) (front rest : List ℕ) → R a front → whole_in fault n read end (front ++ rest) ≡ Ok (a, rest)
    again end a front rest h =
        let there : ltb (length (front ++ rest)) n ≡ false = le-ltb _ _ (omega (arith, long a front h, length-append front rest)) in
        rw there (r.again end a front rest h)

-- ---- numbers

pub record IsWide (w : Width) : Type 0 where
  pub len : (n : ℕ) → length (to_be_bytes w n) ≡ byte_len w
  pub back : (text : List ℕ) → length text ≡ byte_len w → IsBytes text → to_be_bytes w (from_be_bytes w text) ≡ text
  pub again : (n : ℕ) → n < 256 ^ byte_len w → from_be_bytes w (to_be_bytes w n) ≡ n
  pub below : (text : List ℕ) → IsBytes text → from_be_bytes w text < 256 ^ byte_len w

pub wide8 : IsWide w8
wide8 = record {
  len = λ n. refl;
  back = octet_back;
  again = λ n lt. omega arith;
  below = λ text fits. omega (arith, fits 0);
}
  where
    octet_back : (text : List ℕ) → length text ≡ 1 → IsBytes text → to_be_bytes w8 (from_be_bytes w8 text) ≡ text
    octet_back [] len fits = absurd (omega arith)
    octet_back (b ∷ []) len fits = let below : b < 256 = fits 0 in ap (λ (n : ℕ). n ∷ []) (omega arith)
    octet_back (b ∷ c ∷ text) len fits = absurd (omega arith)

pub wide16 : IsWide w16
wide16 = record {
  len = λ n. refl;
  back = λ text len fits. be_bytes_2 text _ len fits refl;
  again = λ n lt. from_be_bytes-to_be_bytes_2 n lt;
  below = λ text fits. omega (arith, fits 0, fits 1);
}

pub wide32 : IsWide w32
wide32 = record {
  len = λ n. refl;
  back = λ text len fits. be_bytes_4 text _ len fits refl;
  again = λ n lt. from_be_bytes-to_be_bytes_4 n lt;
  below = λ text fits. omega (arith, fits 0, fits 1, fits 2, fits 3);
}

pub wide64 : IsWide w64
wide64 = record {
  len = λ n. refl;
  back = λ text len fits. be_bytes_8 text _ len fits refl;
  again = λ n lt. from_be_bytes-to_be_bytes_8 n lt;
  below = λ text fits. omega (arith, fits 0, fits 1, fits 2, fits 3, fits 4, fits 5, fits 6, fits 7);
}

pub number_reader : {F : Type 0} (fault : ℕ → F) (w : Width) → IsWide w → IsReader (IsNumber w) (number_in fault w)
number_reader {F} fault w wide = record { finds = finds; again = again }
  where
    finds : (end : ℕ) (text : List ℕ) (x : ℕ × List ℕ) → IsBytes text → number_in fault w end text ≡ Ok x → Finds (IsNumber w) text x
    finds end text x fits e =
        let g = guard_is (ltb (length text) (byte_len w)) (fault (end - length text)) (from_be_bytes w (take (byte_len w) text), drop (byte_len w) text) x e in
        let long : byte_len w ≤ length text = ltb-false _ _ g.0 in
        let front : to_be_bytes w (from_be_bytes w (take (byte_len w) text)) ≡ take (byte_len w) text = wide.back (take (byte_len w) text) (omega (arith, length-take (byte_len w) text)) (IsBytes-take (byte_len w) text fits) in
        subst (λ (y : ℕ × List ℕ). Finds (IsNumber w) text y) g.1
        (record {
          front = take (byte_len w) text;
          spelled = (wide.below (take (byte_len w) text) (IsBytes-take (byte_len w) text fits), sym front);
          parts = sym (take-append-drop (byte_len w) text);
          rest_fits = IsBytes-drop (byte_len w) text fits;
        })

    again : (end n : ℕ) (front rest : List ℕ) → IsNumber w n front → number_in fault w end (front ++ rest) ≡ Ok (n, rest)
    again end n front rest h =
        let len = wide.len n in
        let long : ltb (length (to_be_bytes w n ++ rest)) (byte_len w) ≡ false = le-ltb _ _ (omega (arith, length-append (to_be_bytes w n) rest)) in
        rw (h.1, long, take_at (to_be_bytes w n) rest (byte_len w) len, drop_at (to_be_bytes w n) rest (byte_len w) len, wide.again n h.0) refl

-- ---- texts behind their length

pub text_reader : {F : Type 0} (fault : ℕ → F) (w : Width) → IsWide w → IsReader (IsText w) (text_in fault w)
unfolding text_in
text_reader {F} fault w wide = record { finds = finds; again = again }
  where
    numbers : IsReader (IsNumber w) (number_in fault w)
    numbers = number_reader fault w wide

    finds : (end : ℕ) (text : List ℕ) (x : List ℕ × List ℕ) → IsBytes text → text_in fault w end text ≡ Ok x → Finds (IsText w) text x
    finds end text x fits e =
        let b = bind_is (number_in fault w end text) (λ n. cond (ltb (length n.1) n.0) (Err (fault (end - length text))) (Ok (take n.0 n.1, drop n.0 n.1))) x e in
        let n = b.0 in
        let f = numbers.finds end text n fits b.1 in
        let g = guard_is (ltb (length n.1) n.0) (fault (end - length text)) (take n.0 n.1, drop n.0 n.1) x b.2 in
        let long : n.0 ≤ length n.1 = ltb-false _ _ g.0 in
        let len : length (take n.0 n.1) ≡ n.0 = omega (arith, length-take n.0 n.1) in
        let parts : text ≡ (f.front ++ take n.0 n.1) ++ drop n.0 n.1 = f.parts ∙ ap (λ (t : List ℕ). f.front ++ t) (sym (take-append-drop n.0 n.1)) ∙ sym (append_assoc f.front (take n.0 n.1) (drop n.0 n.1)) in
        subst (λ (y : List ℕ × List ℕ). Finds (IsText w) text y) g.1
        (record {
          front = f.front ++ take n.0 n.1;
          spelled = (rw len f.spelled.0, ap (λ (t : List ℕ). t ++ take n.0 n.1) (f.spelled.1 ∙ ap (to_be_bytes w) (sym len)));
          parts = parts;
          rest_fits = IsBytes-drop n.0 n.1 f.rest_fits;
        })

    again : (end : ℕ) (s front rest : List ℕ) → IsText w s front → text_in fault w end (front ++ rest) ≡ Ok (s, rest)
    again end s front rest h =
        let long : ltb (length (s ++ rest)) (length s) ≡ false = le-ltb _ _ (omega (arith, length-append s rest)) in
        let regrouped : front ++ rest ≡ to_be_bytes w (length s) ++ (s ++ rest) = ap (λ (t : List ℕ). t ++ rest) h.1 ∙ append_assoc (to_be_bytes w (length s)) s rest in
        ap (text_in fault w end) regrouped ∙ rw (numbers.again end (length s) (to_be_bytes w (length s)) (s ++ rest) (h.0, refl), long, take_at s rest (length s) refl, drop_at s rest (length s) refl) refl

-- ---- what stands at an offset

-- a value is read exactly where it stands, if what is read stands there, and what stands there is read, whatever follows
pub reads_exactly : {A F : Type 0} (R : A → List ℕ → Type 0) (read : List ℕ → ℕ → Result (A × ℕ) F) → ((a : A) (text : List ℕ) → R a text → 0 < length text)
    → ((bytes : List ℕ) (at : ℕ) (x : A × ℕ) → IsBytes bytes → read bytes at ≡ Ok x → (x.1 ≤ length bytes) × R x.0 (take (x.1 - at) (drop at bytes)))
    → ((bytes : List ℕ) (at : ℕ) (a : A) (text rest : List ℕ) → R a text → drop at bytes ≡ text ++ rest → read bytes at ≡ Ok (a, at + length text))
    → (a : A) (bytes : List ℕ) (at after : ℕ) → IsBytes bytes → (read bytes at ≡ Ok (a, after)) ↔ StandsAt R a bytes at after
reads_exactly {A} R read filled found again a bytes at after fits = (there, back)
  where
    there : read bytes at ≡ Ok (a, after) → StandsAt R a bytes at after
    there e =
        let f = found bytes at (a, after) fits e in
        (omega (arith, filled a _ f.1, length-take (after - at) (drop at bytes)), f.0, f.1)

    back : StandsAt R a bytes at after → read bytes at ≡ Ok (a, after)
    back h =
        let text = take (after - at) (drop at bytes) in
        let place : at + length text ≡ after = omega (arith, h.0, h.1, length-take (after - at) (drop at bytes), length-drop at bytes) in
        again bytes at a text (drop (after - at) (drop at bytes)) h.2 (sym (take-append-drop (after - at) (drop at bytes))) ∙ ap (λ (n : ℕ). Ok (a, n)) place
