use Rattle.std.proofs.Common.{List, ℕ, [], ◌∷◌, ◌++◌, refl, subst}
use Rattle.performatives_10.specs.Closing.{IsWrittenOver}
use Rattle.performatives_10.proofs.Frames.{head_is}
use Rattle.performatives_10.proofs.closing.write_head.Goals as goal

pub returns-clause-bytes : goal.returns-clause-bytes
returns-clause-bytes c =
    let old = c.args.out.now in
    let first = c.write_at-at.ensures.bytes [] old (refl, refl) in
    let second = c.write_at-at-2.ensures.bytes c.to_be_bytes.result old first in
    let third = c.write_at.ensures.bytes (c.to_be_bytes.result ++ 2 ∷ 0 ∷ []) old second in
    let Stands : List ℕ → Type 0 = λ t. IsWrittenOver t old c.write_at.new.out c.write_at.result in
    subst Stands (head_is c.args.channel c.args.size c.to_be_bytes.result c.to_be_bytes-2.result c.to_be_bytes.ensures c.to_be_bytes-2.ensures) third
