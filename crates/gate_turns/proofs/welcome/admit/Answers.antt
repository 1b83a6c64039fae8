use Rattle.std.proofs.Common.{refl}
use Rattle.gate_turns.proofs.NewPairs.{admits}
use Rattle.gate_turns.proofs.welcome.admit.Goals as goal

pub returns-in-Ok-clause-ok : goal.returns-in-Ok-clause-ok
returns-in-Ok-clause-ok g c = admits (g.R.Relay.represents c.args.setup.now) c.admit.result _ _ _ _ _ c.admit.ensures.ok refl c.new-in-Ok.ensures
    (rw c.in-Ok.ensures.ok c.in_ok-relay.ensures.entry)
