-- A field of some depth, where the depth is no numeral.
use Rattle.std.proofs.Common.{◌≡◌, ℕ, zero, suc, ◌-◌, ◌<◌, false, cond, eqb, List, Result, Ok, Some}
use Rattle.std.proofs.Common.{refl, sym, subst, arith, rules, tests}
use Rattle.std.specs.Int.{w8}
use Rattle.wire_base.specs.declared.stop.Stop.{Stop}
use Rattle.wire_base.specs.Reading.{Gives, number_in, offset}
use Rattle.tables_091.specs.Tree.{Tree}
use Rattle.tables_091.specs.Kinds.{kind_of}
use Rattle.tables_091.specs.Reading.{typed_in, flat_in, deep_in, field_in}
use Rattle.tables_091.specs.declared.kind.Kind.{Kind}

-- a field that is no scalar by its depth is read by its kind
field_in_more : (d end byte : ℕ) (bytes content : List ℕ) (k : Kind) → 0 < d → number_in offset w8 end bytes ≡ Ok (byte, content) → kind_of byte ≡ Some k
    → field_in d end bytes ≡ deep_in (field_in (d - 1)) k end content
unfolding field_in
field_in_more zero end byte bytes content k more b e = absurd (omega arith)
field_in_more (suc d) end byte bytes content k more b e =
    let less : suc d - 1 ≡ d = omega arith in
    rw (b, e, less) refl

pub deep_gives : {X : Type 0} (view : X → Tree × List ℕ) (result : Result X (Stop ℕ)) (d end byte : ℕ) (bytes content : List ℕ) (k : Kind) → 0 < d
    → number_in offset w8 end bytes ≡ Ok (byte, content) → kind_of byte ≡ Some k → Gives view result (deep_in (field_in (d - 1)) k end content) → Gives view result (field_in d end bytes)
deep_gives view result d end byte bytes content k more b e given =
    subst (λ (read : Result (Tree × List ℕ) ℕ). Gives view result read) (sym (field_in_more d end byte bytes content k more b e)) given

-- a field by whether its depth is 0
pub field_in_is : (d end : ℕ) (bytes : List ℕ) → field_in d end bytes ≡ typed_in (λ k at end bytes. cond (eqb d 0) (flat_in k at end bytes) (deep_in (field_in (d - 1)) k end bytes)) end bytes
unfolding field_in
field_in_is zero end bytes = refl
field_in_is (suc d) end bytes =
    let less : suc d - 1 ≡ d = omega arith in
    let more : eqb (suc d) 0 ≡ false = search (rules, tests) in
    simp (less, more) refl
