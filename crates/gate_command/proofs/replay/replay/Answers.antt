use Rattle.std.proofs.Common.{ap, subst}
use Rattle.gate_command.specs.Replaying.{RerunState, Agrees, told_over}
use Rattle.gate_command.proofs.Replays.{replays_ok}
use Rattle.gate_command.proofs.replay.replay.Goals as goal

pub returns : goal.returns
returns c =
    let agrees = subst (λ (r : RerunState). Agrees r.ports.differs r.tells r.rest r.ports.log.left) c.rerun.view_is c.rerun.invariant in
    replays_ok _ _ _ _ c.serve_lawfully-served.new.ports _ _ c.requires.spelled agrees c.answer_of.ensures (c.serve_lawfully-served.ensures.served _ (ap told_over c.in_ok-rerun.ensures))
