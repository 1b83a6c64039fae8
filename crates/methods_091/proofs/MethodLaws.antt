-- Reading methods against their spellings.
use Rattle.std.proofs.Common.{◌≡◌, ℕ, Bool, true, false, cond, ltb, List, [], ◌∷◌, ◌++◌, length}
use Rattle.std.proofs.Common.{Option, Some, None, Result, Ok, Err, refl, sym, ap, subst, ◌∙◌, arith}
use Rattle.std.proofs.lemmas.Bool.{le-ltb}
use Rattle.std.proofs.lemmas.List.{append-nil, length-append}
use Rattle.std.specs.Int.{w16, to_be_bytes}
use Rattle.wire_base.specs.Bytes.{IsBytes}
use Rattle.wire_base.specs.Spelling.{IsNumber, IsPair}
use Rattle.wire_base.specs.Reading.{◌>>=◌, offset, pair_in, number_in}
use Rattle.wire_base.proofs.Laws.{IsReader, wide16, bind_is, ok_is, number_reader, pair_reader}
use Rattle.methods_091.specs.Rows.{class_of, id_of, shape, kind_with}
use Rattle.methods_091.specs.Arguments.{Arg}
use Rattle.methods_091.specs.Grammar.{IsArgs, IsPayload, IsMethod}
use Rattle.methods_091.specs.Reading.{row_in, whole, known_in, ids_in, payload_in}
use Rattle.methods_091.specs.View.{parts_of}
use Rattle.methods_091.specs.declared.kind.MethodKind.{MethodKind}
use Rattle.methods_091.specs.declared.method.Method91.{Method91}
use Rattle.methods_091.proofs.KindLaws.{kind_is, kind_known}
use Rattle.methods_091.proofs.Rebuilding.{same_parts}
use Rattle.methods_091.proofs.ArgumentLaws.{row_reader}

shorts : IsReader (IsNumber w16) (number_in offset w16)
shorts = number_reader offset w16 wide16

id_pairs : IsReader (IsPair (IsNumber w16) (IsNumber w16)) (pair_in (number_in offset w16) (number_in offset w16))
id_pairs = pair_reader (IsNumber w16) (IsNumber w16) (number_in offset w16) (number_in offset w16) shorts shorts

-- ---- what is read is spelled so

whole_is : {A : Type 0} (end : ℕ) (x : A) (rest : List ℕ) (y : A) → whole end (x, rest) ≡ Ok y → (x ≡ y) × (rest ≡ [])
whole_is end x [] y e = (ok_is {F = ℕ} x y e, refl)
whole_is end x (b ∷ rest) y e = absurd cc

some_is : {A : Type 0} (x y : A) → Some x ≡ Some y → x ≡ y
some_is x y e = cc

-- behind the ids of a kind stand its arguments, and nothing else
known_is : (found : Option MethodKind) (end : ℕ) (text : List ℕ) (p : MethodKind × List Arg) → IsBytes text → known_in found end text ≡ Ok (Some p) → (found ≡ Some p.0) × IsArgs (shape p.0) p.1 text
known_is None end text p fits e = absurd cc
known_is (Some k) end text p fits e =
    let x = bind_is (row_in k end text) (λ x. whole end x >>= λ parts. Ok (Some parts)) (Some p) e in
    let y = bind_is (whole end x.0) (λ parts. Ok (Some parts)) (Some p) x.2 in
    let f = (row_reader k).finds end text x.0 fits x.1 in
    let all = whole_is end x.0.0 x.0.1 y.0 y.1 in
    let same : x.0.0 ≡ p = all.0 ∙ some_is y.0 p (ok_is {F = ℕ} (Some y.0) (Some p) y.2) in
    let front : text ≡ f.front = f.parts ∙ ap (λ (rest : List ℕ). f.front ++ rest) all.1 ∙ append-nil f.front in
    let made : (k, f.spelled.0) ≡ p = sym f.spelled.1 ∙ same in
    subst (λ (q : MethodKind × List Arg). (Some k ≡ Some q.0) × IsArgs (shape q.0) q.1 text) made (refl, subst (λ (t : List ℕ). IsArgs (shape k) f.spelled.0 t) (sym front) f.spelled.2)

-- a test that did not fail
unguarded : {A F : Type 0} (b : Bool) (d : F) (r : Result A F) (y : A) → cond b (Err d) r ≡ Ok y → r ≡ Ok y
unguarded true d r y e = absurd cc
unguarded false d r y e = e

pub read_is_spelled : (bytes : List ℕ) (p : MethodKind × List Arg) → IsBytes bytes → payload_in bytes ≡ Ok (Some p) → IsPayload p bytes
read_is_spelled bytes p fits e =
    let end = length bytes in
    let a = bind_is (ids_in bytes) (λ ids. known_in (kind_with ids.0.0 ids.0.1) end ids.1) (Some p) e in
    let both = unguarded (ltb end 4) end (pair_in (number_in offset w16) (number_in offset w16) end bytes) a.0 a.1 in
    let f = id_pairs.finds end bytes a.0 fits both in
    let k = known_is (kind_with a.0.0.0 a.0.0.1) end a.0.1 p f.rest_fits a.2 in
    let ids = kind_is a.0.0.0 a.0.0.1 p.0 k.0 in
    let class : f.spelled.0 ≡ to_be_bytes w16 (class_of p.0) = f.spelled.2.1 ∙ ap (to_be_bytes w16) (sym ids.0) in
    let id : f.spelled.1 ≡ to_be_bytes w16 (id_of p.0) = f.spelled.3.1 ∙ ap (to_be_bytes w16) (sym ids.1) in
    (a.0.1, k.1, f.parts ∙ ap (λ (t : List ℕ). t ++ a.0.1) f.spelled.4 ∙ rw (class, id) refl)

-- ---- what is spelled so is read

pub spelled_is_read : (bytes : List ℕ) (p : MethodKind × List Arg) → IsPayload p bytes → payload_in bytes ≡ Ok (Some p)
spelled_is_read bytes p h =
    let k = p.0 in
    let end = length bytes in
    let known = kind_known k in
    let class = to_be_bytes w16 (class_of k) in
    let id = to_be_bytes w16 (id_of k) in
    let row : row_in k end h.0 ≡ Ok (p, []) = ap (row_in k end) (sym (append-nil h.0)) ∙ (row_reader k).again end p h.0 [] (p.1, refl, h.1) in
    let long : ltb end 4 ≡ false = le-ltb _ _ (omega (arith, ap length h.2, length-append (class ++ id) h.0)) in
    let both : pair_in (number_in offset w16) (number_in offset w16) end bytes ≡ Ok ((class_of k, id_of k), h.0) =
    ap (pair_in (number_in offset w16) (number_in offset w16) end) h.2 ∙ id_pairs.again end (class_of k, id_of k) (class ++ id) h.0 (class, id, (known.0, refl), (known.1, refl), refl) in
    rw (long, both, known.2, row) refl

-- ---- methods

pub method_is_read : (m : Method91) (bytes : List ℕ) → IsMethod m bytes → payload_in bytes ≡ Ok (Some (parts_of m))
method_is_read m bytes h = spelled_is_read bytes (parts_of m) h

-- what was read is the one method that the bytes spell
pub read_is : (n m : Method91) (bytes : List ℕ) → payload_in bytes ≡ Ok (Some (parts_of n)) → IsMethod m bytes → n ≡ m
read_is n m bytes e h =
    let both = sym e ∙ method_is_read m bytes h in
    same_parts n m (some_is (parts_of n) (parts_of m) (ok_is {F = ℕ} (Some (parts_of n)) (Some (parts_of m)) both))

-- bytes spell at most one method
pub one_method : (m n : Method91) (bytes : List ℕ) → IsMethod m bytes → IsMethod n bytes → m ≡ n
one_method m n bytes h k = read_is m n bytes (method_is_read m bytes h) k
