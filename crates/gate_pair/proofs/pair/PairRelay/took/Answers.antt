use Rattle.gate_pair.proofs.Writes.{took_said}
use Rattle.gate_pair.proofs.pair.PairRelay.took.Goals as goal

pub returns-clause-entry : goal.returns-clause-entry
returns-clause-entry c = λ s h bytes ready e.
    took_said s c.args.end c.args.count bytes c.args.self.now c.take_away.new.self h c.take_away.ensures.step c.take_away.ensures.telling ready e
