use Rattle.gate_turns.proofs.Closings.{pair_log}
use Rattle.gate_turns.proofs.closing.shut_pair.Goals as goal

pub returns-clause-log : goal.returns-clause-log
returns-clause-log g c = λ s back.
    pair_log (g.R.Relay.words s) (g.R.Relay.represents s) _ _ _ c.args.live c.shut_open-mid.new.live c.shut_open.new.live back _ _ _ _ _ _ _ _ _
    c.requires.has c.shut_open-mid.ensures.sides c.shut_open.ensures.sides (c.shut_open-mid.ensures.log s back) (c.shut_open.ensures.log s back)
