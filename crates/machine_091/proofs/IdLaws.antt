-- A method that was read has the ids that stand in its frame.
use Rattle.std.proofs.Common.{◌≡◌, ℕ, ◌-◌, Bool, true, false, cond, nat_lt, List, [], ◌∷◌, length}
use Rattle.std.proofs.Common.{take, drop, Option, None, Some, Result, Ok, Err, sym, ap, ◌∙◌}
use Rattle.std.specs.Int.{w16, from_be_bytes}
use Rattle.wire_base.specs.Reading.{Reads, ◌>>=◌, offset, pair_in, number_in}
use Rattle.wire_base.specs.declared.scan.At.{At}
use Rattle.wire_base.proofs.Laws.{bind_is, ok_is}
use Rattle.methods_091.specs.Arguments.{Arg}
use Rattle.methods_091.specs.Reading.{args_in, row_in, whole, known_in, ids_in, payload_in, told}
use Rattle.methods_091.specs.Reading.{method_in}
use Rattle.methods_091.specs.Rows.{Kind, class_of, id_of, shape, kind_with}
use Rattle.methods_091.specs.declared.reading.MethodFault.{MethodFault}
use Rattle.methods_091.proofs.KindLaws.{kind_is}
use Rattle.machine_091.specs.Ids.{class_in, id_in}

pub told_is : (r : Result (Option (Kind × List Arg)) ℕ) (p : Kind × List Arg) → told r ≡ Ok p → r ≡ Ok (Some p)
told_is (Ok (Some x)) p e = ap (λ (y : Kind × List Arg). Ok (Some y)) (ok_is {F = At MethodFault} x p e)
told_is (Ok None) p e = absurd cc
told_is (Err at) p e = absurd cc

-- a number of two bytes
number_is : (end : ℕ) (bytes : List ℕ) (y : ℕ × List ℕ) → number_in offset w16 end bytes ≡ Ok y → (from_be_bytes w16 (take 2 bytes), drop 2 bytes) ≡ y
number_is end bytes y e = by (nat_lt (length bytes) 2) e
  where
    by : (short : Bool) → cond {A = Reads ℕ ℕ} short (Err (offset (end - length bytes))) (Ok (from_be_bytes w16 (take 2 bytes), drop 2 bytes)) ≡ Ok y
        → (from_be_bytes w16 (take 2 bytes), drop 2 bytes) ≡ y
    by true e = absurd cc
    by false e = ok_is {F = ℕ} (from_be_bytes w16 (take 2 bytes), drop 2 bytes) y e

-- what stands in the front of a method
ids_are : (bytes : List ℕ) (x : (ℕ × ℕ) × List ℕ) → ids_in bytes ≡ Ok x → (class_in bytes ≡ x.0.0) × (id_in bytes ≡ x.0.1)
ids_are bytes x e = by (nat_lt (length bytes) 4) e
  where
    by : (short : Bool)
        → cond {A = Reads (ℕ × ℕ) ℕ} short (Err (length bytes)) (pair_in (number_in offset w16) (number_in offset w16) (length bytes) bytes) ≡ Ok x
        → (cond short 0 (from_be_bytes w16 (take 2 bytes)) ≡ x.0.0) × (cond short 0 (from_be_bytes w16 (take 2 (drop 2 bytes))) ≡ x.0.1)
    by true e = absurd cc
    by false e =
        let a = bind_is (number_in offset w16 (length bytes) bytes) (λ a. number_in offset w16 (length bytes) a.1 >>= λ b. Ok ((a.0, b.0), b.1)) x e in
        let b = bind_is (number_in offset w16 (length bytes) a.0.1) (λ b. Ok ((a.0.0, b.0), b.1)) x a.2 in
        let first = number_is (length bytes) bytes a.0 a.1 in
        let second = number_is (length bytes) a.0.1 b.0 b.1 in
        let all = ok_is {F = ℕ} ((a.0.0, b.0.0), b.0.1) x b.2 in (
          ap (λ (y : ℕ × List ℕ). y.0) first ∙ ap (λ (y : (ℕ × ℕ) × List ℕ). y.0.0) all,
          ap (λ (y : ℕ × List ℕ). from_be_bytes w16 (take 2 y.1)) first ∙ ap (λ (y : ℕ × List ℕ). y.0) second
              ∙ ap (λ (y : (ℕ × ℕ) × List ℕ). y.0.1) all,
        )

whole_is : (end : ℕ) (x : (Kind × List Arg) × List ℕ) (y : Kind × List Arg) → whole end x ≡ Ok y → x.0 ≡ y
whole_is end (x, []) y e = ok_is {F = ℕ} x y e
whole_is end (x, b ∷ rest) y e = absurd cc

some_is : (x y : Kind × List Arg) → Some x ≡ Some y → x ≡ y
some_is x y e = cc

-- the kind that is read is the one that was looked up
known_is : (found : Option Kind) (end : ℕ) (text : List ℕ) (p : Kind × List Arg) → known_in found end text ≡ Ok (Some p) → found ≡ Some p.0
known_is None end text p e = absurd cc
known_is (Some k) end text p e =
    let x = bind_is (row_in k end text) (λ x. whole end x >>= λ parts. Ok (Some parts)) (Some p) e in
    let y = bind_is (whole end x.0) (λ parts. Ok (Some parts)) (Some p) x.2 in
    let z = bind_is (args_in (shape k) end text) (λ z. Ok ((k, z.0), z.1)) x.0 x.1 in
    let kind : (k, z.0.0) ≡ p =
    ap (λ (w : (Kind × List Arg) × List ℕ). w.0) (ok_is {F = ℕ} ((k, z.0.0), z.0.1) x.0 z.2)
    ∙ whole_is end x.0 y.0 y.1 ∙ some_is y.0 p (ok_is {F = ℕ} (Some y.0) (Some p) y.2) in
    ap (λ (w : Kind × List Arg). Some w.0) kind

pub ids_known : (payload : List ℕ) (k : Kind) (args : List Arg) → method_in payload ≡ Ok (k, args)
    → (class_in payload ≡ class_of k) × (id_in payload ≡ id_of k)
ids_known payload k args e =
    let read = told_is (payload_in payload) (k, args) e in
    let a = bind_is (ids_in payload) (λ ids. known_in (kind_with ids.0.0 ids.0.1) (length payload) ids.1) (Some (k, args)) read in
    let ids = ids_are payload a.0 a.1 in
    let is = kind_is a.0.0.0 a.0.0.1 k (known_is (kind_with a.0.0.0 a.0.0.1) (length payload) a.0.1 (k, args) a.2) in
    (ids.0 ∙ sym is.0, ids.1 ∙ sym is.1)
