use Rattle.std.proofs.Common.{rules, Bool, Err, ◌++◌, subst}
use Rattle.gate_runs.specs.Report.{closed_lines}
use Rattle.gate_turns.specs.declared.tally.SinkFault.TheVariants.{Out}
use Rattle.gate_turns.specs.Parts.{TellsBy}
use Rattle.gate_turns.proofs.Telling.{shut_second}
use Rattle.gate_turns.proofs.accounts.tell_shut.Goals as goal

pub returns-else-tell_closed_if-clause-told : goal.returns-else-tell_closed_if-clause-told
returns-else-tell_closed_if-clause-told g c = λ s h r.
    subst (λ (b : Bool). TellsBy (Err Out) (g.K.Sink.held c.args.report.now) (g.K.Sink.held c.tell_closed_if.new.report) ((g.R.Relay.words s).lines h ++ closed_lines c.args.live.now.number b)) c.has_end.ensures
    (shut_second c.args.live.now.number c.has_end.result _ _ _ _ (search rules) c.tell_closed_if.ensures.part (search rules))
