use Rattle.std.proofs.Common.{ℕ, [], ◌∷◌, subst}
use Rattle.methods_091.specs.Closing.{tagged_text, IsWrittenOver}
use Rattle.methods_091.proofs.closing.put_ack.Goals as goal

pub returns : goal.returns
returns c =
    let Stands : ℕ → Type 0 = λ k. IsWrittenOver (tagged_text c.args.channel (0 ∷ 60 ∷ 0 ∷ 80 ∷ []) c.args.tag k) c.args.out.now c.put_tagged.new.out c.put_tagged.result in
    subst Stands c.octet_of_1.ensures.value c.put_tagged.ensures
