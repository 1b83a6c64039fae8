use Rattle.std.proofs.Common.{List, ℕ, subst}
use Rattle.performatives_10.specs.Closing.{IsWrittenOver}
use Rattle.performatives_10.proofs.Frames.{settled_is}
use Rattle.performatives_10.proofs.closing.put_settled.Goals as goal

pub returns : goal.returns
returns c =
    let Stands : List ℕ → Type 0 = λ t. IsWrittenOver t c.args.out.now c.put_disposition.new.out c.put_disposition.result in
    subst Stands (settled_is c.args.channel c.args.first c.args.last c.put_disposition.ensures.short) c.put_disposition.ensures.frame
