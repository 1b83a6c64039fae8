use Rattle.std.proofs.Common.{List, ℕ, [], ◌∷◌, ◌++◌, ◌+◌, length, ap, subst, arith}
use Rattle.types_10.specs.Writing.{value_text}
use Rattle.types_10.specs.Fields.{a_uint, maybe}
use Rattle.performatives_10.specs.Closing.{head_text, IsWrittenOver}
use Rattle.performatives_10.proofs.closing.put_disposition.Goals as goal

pub returns-clause-frame : goal.returns-clause-frame
returns-clause-frame c =
    let old = c.args.out.now in
    let items : ℕ = 1 + c.uint_len.result + c.optional_len.result + length c.args.rest.now in
    let head : ℕ → List ℕ = λ n. head_text c.args.channel (14 + n) in
    let lead : ℕ → List ℕ = λ n. 0 ∷ 83 ∷ 21 ∷ 192 ∷ (n + 1) ∷ c.args.count ∷ c.args.role ∷ [] in
    let f : List ℕ = value_text (a_uint c.args.first) in
    let l : List ℕ = value_text (maybe a_uint c.args.last) in
    let second = c.write_at-at.ensures.bytes (head items) old c.write_head-at.ensures.bytes in
    let third = c.write_uint-at.ensures.bytes (head items ++ lead items) old second in
    let fourth = c.write_optional-at.ensures.bytes ((head items ++ lead items) ++ f) old third in
    let fifth = c.write_at.ensures.bytes (((head items ++ lead items) ++ f) ++ l) old fourth in
    let Stands : List ℕ → Type 0 = λ t. IsWrittenOver t old c.write_at.new.out c.write_at.result in
    let count = c.uint_len.ensures.length in
    let more = c.optional_len.ensures.length in
    subst Stands (ap (λ (n : ℕ). (((head n ++ lead n) ++ f) ++ l) ++ c.args.rest.now) (omega (arith, count, more))) fifth
