use Rattle.std.proofs.Common.{List, ℕ, ◌++◌, subst}
use Rattle.methods_091.specs.Closing.{head_text, IsWrittenOver}
use Rattle.methods_091.proofs.Placing.{tagged_is}
use Rattle.methods_091.proofs.closing.put_tagged.Goals as goal

pub returns : goal.returns
returns c =
    let old = c.args.out.now in
    let head : List ℕ = head_text c.args.channel 13 in
    let second = c.write_at-at.ensures.bytes head old c.write_head-at.ensures in
    let ids : List ℕ = head ++ c.args.ids.now in
    let third = c.write_at-at-2.ensures.bytes ids old second in
    let tag : List ℕ = ids ++ c.to_be_bytes.result in
    let fourth = c.write_at.ensures.bytes tag old third in
    let Stands : List ℕ → Type 0 = λ t. IsWrittenOver t old c.write_at.new.out c.write_at.result in
    subst Stands (tagged_is c.args.channel c.args.tag c.args.flags c.args.ids.now c.to_be_bytes.result c.told-ids c.ranges.flags.fits c.to_be_bytes.ensures) fourth
