-- Laws of readers that several kinds of values share: tests, what depends on what was read, and sizes that are filled.
use Rattle.std.proofs.Common.{◌≡◌, ℕ, ◌-◌, ◌≤◌, Bool, true, false, cond, eqb, ltb, List, [], ◌++◌}
use Rattle.std.proofs.Common.{length, take, drop, Ok, Err, refl, sym, ap, subst, ◌∙◌, append_assoc}
use Rattle.std.proofs.Common.{arith}
use Rattle.std.specs.Bool.{IsTrue}
use Rattle.std.proofs.lemmas.Bool.{eqb-true, ltb-false, le-ltb}
use Rattle.std.proofs.lemmas.List.{append-nil, nil_from_length, length-append, length-take, take_at}
use Rattle.std.proofs.lemmas.List.{drop_at, take-append-drop}
use Rattle.std.specs.Int.{Width}
use Rattle.wire_base.specs.Bytes.{IsBytes}
use Rattle.wire_base.specs.Spelling.{IsNumber, IsText}
use Rattle.wire_base.specs.Reading.{Reads, ◌>>=◌, number_in, text_in}
use Rattle.wire_base.proofs.Bytes.{IsBytes-drop}
use Rattle.wire_base.proofs.Items.{text_bytes}
use Rattle.wire_base.proofs.Laws.{IsReader, Finds, IsWide, wide8, wide32, bind_is, ok_is}
use Rattle.wire_base.proofs.Laws.{number_reader, text_reader}
use Rattle.types_10.specs.Reading.{Fault, fault_at, count_in, bytes_in, sixteen_in, tested}
use Rattle.types_10.specs.Reading.{filled_in}
use Rattle.types_10.specs.Kinds.{size_width}
use Rattle.types_10.specs.Grammar.{IsSuch, IsSixteen, IsFilled, IsThen}
use Rattle.types_10.specs.declared.fault.TypeFault.TheVariants as fault
use Rattle.types_10.specs.declared.kind.Size.{Size}
use Rattle.types_10.specs.declared.kind.Size.TheVariants as size

pub size_is : (s : Size) → IsWide (size_width s)
size_is size.Short = wide8
size_is size.Long = wide32

-- numbers, and bytes behind their length, with a fault that depends on no offset
pub count_reader : (cut : Fault) (w : Width) → IsWide w → IsReader (IsNumber w) (λ end text. count_in cut w text)
count_reader cut w wide =
    let r : IsReader (IsNumber w) (number_in (λ at. cut) w) = number_reader (λ at. cut) w wide in
    record { finds = λ end. r.finds 0; again = λ end. r.again 0 }

pub bytes_reader : (cut : Fault) (w : Width) → IsWide w → IsReader (IsText w) (λ end text. bytes_in cut w text)
bytes_reader cut w wide =
    let r : IsReader (IsText w) (text_in (λ at. cut) w) = text_reader (λ at. cut) w wide in
    record { finds = λ end. r.finds 0; again = λ end. r.again 0 }

-- one of two outcomes of a test
passed : {A : Type 0} (b : Bool) (x y : A) (d : Fault) → cond b (Ok x) (Err d) ≡ Ok y → (b ≡ true) × (x ≡ y)
passed true x y d e = (refl, ok_is {F = Fault} x y e)
passed false x y d e = absurd cc

refused : {A : Type 0} (b : Bool) (x y : A) (d : Fault) → cond b (Err d) (Ok x) ≡ Ok y → (b ≡ false) × (x ≡ y)
refused true x y d e = absurd cc
refused false x y d e = (refl, ok_is {F = Fault} x y e)

-- sixteen bytes
pub sixteen_reader : (cut : Fault) → IsReader IsSixteen (λ end text. sixteen_in cut text)
sixteen_reader cut = record { finds = finds; again = again }
  where
    finds : (end : ℕ) (text : List ℕ) (x : List ℕ × List ℕ) → IsBytes text → sixteen_in cut text ≡ Ok x → Finds IsSixteen text x
    finds end text x fits e =
        let g = refused (ltb (length text) 16) (take 16 text, drop 16 text) x cut e in
        let long : 16 ≤ length text = ltb-false _ _ g.0 in
        subst (λ (y : List ℕ × List ℕ). Finds IsSixteen text y) g.1
        (record { front = take 16 text; spelled = (omega (arith, length-take 16 text), refl); parts = sym (take-append-drop 16 text); rest_fits = IsBytes-drop 16 text fits })

    again : (end : ℕ) (s front rest : List ℕ) → IsSixteen s front → sixteen_in cut (front ++ rest) ≡ Ok (s, rest)
    again end s front rest h =
        let long : ltb (length (s ++ rest)) 16 ≡ false = le-ltb _ _ (omega (arith, length-append s rest)) in
        rw (h.1, long, take_at s rest 16 h.0, drop_at s rest 16 h.0) refl

-- what passes a test
pub tested_reader : {A : Type 0} (passes : A → Bool) (fault : A → ℕ → Fault) (R : A → List ℕ → Type 0) (read : ℕ → List ℕ → Reads A Fault) → IsReader R read
    → IsReader (IsSuch (λ x. IsTrue (passes x)) R) (λ end text. tested passes fault end (read end text))
tested_reader {A} passes fault R read r = record { finds = finds; again = again }
  where
    finds : (end : ℕ) (text : List ℕ) (x : A × List ℕ) → IsBytes text → tested passes fault end (read end text) ≡ Ok x → Finds (IsSuch (λ x. IsTrue (passes x)) R) text x
    finds end text x fits e =
        let a = bind_is (read end text) (λ x. cond (passes x.0) (Ok x) (Err (fault x.0 (end - length x.1)))) x e in
        let g = passed (passes a.0.0) a.0 x (fault a.0.0 (end - length a.0.1)) a.2 in
        let f = r.finds end text a.0 fits a.1 in
        subst (λ (y : A × List ℕ). Finds (IsSuch (λ x. IsTrue (passes x)) R) text y) g.1
        (record { front = f.front; spelled = (g.0, f.spelled); parts = f.parts; rest_fits = f.rest_fits })

    again : (end : ℕ) (a : A) (front rest : List ℕ) → IsSuch (λ x. IsTrue (passes x)) R a front → tested passes fault end (read end (front ++ rest)) ≡ Ok (a, rest)
    again end a front rest h = rw (r.again end a front rest h.1, h.0) refl

-- one value, and then what depends on it
pub then_reader : {A B : Type 0} (R : A → List ℕ → Type 0) (S : A → B → List ℕ → Type 0) (read : ℕ → List ℕ → Reads A Fault) (more : A → ℕ → List ℕ → Reads B Fault)
    → IsReader R read → ((a : A) → IsReader (S a) (more a)) → IsReader (IsThen R S) (λ end text. read end text >>= λ a. more a.0 end a.1)
then_reader {A} {B} R S read more r s = record { finds = finds; again = again }
  where
    finds : (end : ℕ) (text : List ℕ) (x : B × List ℕ) → IsBytes text → (read end text >>= λ a. more a.0 end a.1) ≡ Ok x → Finds (IsThen R S) text x
    finds end text x fits e =
        let a = bind_is (read end text) (λ a. more a.0 end a.1) x e in
        let f = r.finds end text a.0 fits a.1 in
        let g = (s a.0.0).finds end a.0.1 x f.rest_fits a.2 in
        let parts : text ≡ (f.front ++ g.front) ++ x.1 = f.parts ∙ ap (λ (t : List ℕ). f.front ++ t) g.parts ∙ sym (append_assoc f.front g.front x.1) in
        record { front = f.front ++ g.front; spelled = (a.0.0, f.front, g.front, f.spelled, g.spelled, refl); parts = parts; rest_fits = g.rest_fits }

    again : (end : ℕ) (y : B) (front rest : List ℕ) → IsThen R S y front → (read end (front ++ rest) >>= λ a. more a.0 end a.1) ≡ Ok (y, rest)
    again end y front rest h =
        let regrouped : front ++ rest ≡ h.1 ++ (h.2 ++ rest) = ap (λ (t : List ℕ). t ++ rest) h.5 ∙ append_assoc h.1 h.2 rest in
        ap (λ (t : List ℕ). read end t >>= λ a. more a.0 end a.1) regrouped ∙ rw (r.again end h.0 h.1 (h.2 ++ rest) h.3) ((s h.0).again end y h.2 rest h.4)

-- a size that is filled
pub filled_reader : {A : Type 0} (w : Width) (at : ℕ) (cut : Fault) → IsWide w → (R : A → List ℕ → Type 0) (inner : Fault → ℕ → List ℕ → Reads A Fault) → ((cut : Fault) → IsReader R (inner cut))
    → IsReader (IsFilled w R) (filled_in w at inner cut)
filled_reader {A} w at cut wide R inner r = record { finds = finds; again = again }
  where
    inside : Fault
    inside = fault_at fault.Count at

    texts : IsReader (IsText w) (λ end text. bytes_in cut w text)
    texts = bytes_reader cut w wide

    finds : (end : ℕ) (text : List ℕ) (x : A × List ℕ) → IsBytes text → filled_in w at inner cut end text ≡ Ok x → Finds (IsFilled w R) text x
    finds end text x fits e =
        let b = bind_is (bytes_in cut w text) (λ body. inner (fault_at fault.Count at) (end - length body.1) body.0 >>= λ x. cond (eqb (length x.1) 0) (Ok (x.0, body.1)) (Err (fault_at fault.Count at))) x e in
        let c = bind_is (inner (fault_at fault.Count at) (end - length b.0.1) b.0.0) (λ x. cond (eqb (length x.1) 0) (Ok (x.0, b.0.1)) (Err (fault_at fault.Count at))) x b.2 in
        let g = passed (eqb (length c.0.1) 0) (c.0.0, b.0.1) x (fault_at fault.Count at) c.2 in
        let none : c.0.1 ≡ [] = nil_from_length c.0.1 (eqb-true _ _ g.0) in
        let f = texts.finds end text b.0 fits b.1 in
        let body = text_bytes w b.0.0 f.front b.0.1 (subst IsBytes f.parts fits) f.spelled in
        let h = (r (fault_at fault.Count at)).finds (end - length b.0.1) b.0.0 c.0 body c.1 in
        let whole : h.front ≡ b.0.0 = sym (h.parts ∙ ap (λ (t : List ℕ). h.front ++ t) none ∙ append-nil h.front) in
        subst (λ (y : A × List ℕ). Finds (IsFilled w R) text y) g.1
        (record { front = f.front; spelled = (b.0.0, subst (R c.0.0) whole h.spelled, f.spelled); parts = f.parts; rest_fits = f.rest_fits })

    again : (end : ℕ) (y : A) (front rest : List ℕ) → IsFilled w R y front → filled_in w at inner cut end (front ++ rest) ≡ Ok (y, rest)
    again end y front rest h =
        let all : inner (fault_at fault.Count at) (end - length rest) h.0 ≡ Ok (y, []) = ap (inner (fault_at fault.Count at) (end - length rest)) (sym (append-nil h.0)) ∙ (r (fault_at fault.Count at)).again (end - length rest) y h.0 [] h.1 in
        rw (texts.again end h.0 front rest h.2, all) refl
