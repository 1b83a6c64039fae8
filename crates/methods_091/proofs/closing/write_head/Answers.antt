use Rattle.std.proofs.Common.{List, ℕ, [], ◌∷◌, ◌++◌, refl, subst}
use Rattle.methods_091.specs.Closing.{IsWrittenOver}
use Rattle.methods_091.proofs.Placing.{head_is}
use Rattle.methods_091.proofs.closing.write_head.Goals as goal

pub returns : goal.returns
returns c =
    let old = c.args.out.now in
    let first = c.write_at-at.ensures.bytes [] old (refl, refl) in
    let second = c.write_at-at-2.ensures.bytes (1 ∷ []) old first in
    let third = c.write_at.ensures.bytes ((1 ∷ []) ++ c.to_be_bytes.result) old second in
    let Stands : List ℕ → Type 0 = λ t. IsWrittenOver t old c.write_at.new.out c.write_at.result in
    subst Stands (head_is c.args.channel c.args.size c.to_be_bytes.result c.to_be_bytes-2.result c.to_be_bytes.ensures c.to_be_bytes-2.ensures) third
