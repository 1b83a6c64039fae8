use Rattle.gate_turns.proofs.NewPairs.{admits_counted}
use Rattle.gate_turns.proofs.welcome.take_in.Goals as goal

pub returns-clause-ok : goal.returns-clause-ok
returns-clause-ok g c = admits_counted (g.R.Relay.represents c.args.setup.now) c.admit-taken.result _ _ _ _ _ c.count.ensures.live c.admit-taken.ensures.ok
