use Rattle.gate_pair.proofs.Saids.{look_failed}
use Rattle.gate_pair.proofs.pair.PairRelay.peek.Goals as goal

pub returns-clause-err : goal.returns-clause-err
returns-clause-err c =
    look_failed c.args.setup.now c.args.self.now c.look.new.self c.look.result c.look.ensures.err c.look.ensures.telling
