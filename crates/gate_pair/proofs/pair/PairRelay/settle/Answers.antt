use Rattle.gate_pair.proofs.Saids.{settle_failed, settled_in}
use Rattle.gate_pair.proofs.pair.PairRelay.settle.Goals as goal

pub returns-clause-ok : goal.returns-clause-ok
returns-clause-ok c =
    settled_in c.args._setup.now c.args.self.now c.take_up.new.self c.take_up.result c.take_up.ensures.ok c.take_up.ensures.telling

pub returns-clause-err : goal.returns-clause-err
returns-clause-err c =
    settle_failed c.args._setup.now c.args.self.now c.take_up.new.self c.take_up.result c.take_up.ensures.err c.take_up.ensures.telling
