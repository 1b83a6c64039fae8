use Rattle.std.proofs.Common.{Result, ap, sym, ◌∙◌}
use Rattle.gate_turns.specs.declared.tally.SinkFault.{SinkFault}
use Rattle.gate_turns.proofs.ClockMarks.{clock_log, clock_result, holds_clock}
use Rattle.gate_turns.proofs.Reporting.{kept_by}
use Rattle.gate_turns.proofs.welcome.read_clock.Goals as goal

pub returns-in-Ok-clause-holds : goal.returns-in-Ok-clause-holds
returns-in-Ok-clause-holds g c = holds_clock _ _ _ _ _ _ c.now-ms.ensures.pairs c.now-ms.ensures.ends c.tell_pairs.ensures.accepted c.tell_pairs.ensures.ends c.requires.holds

pub returns-in-Err-clause-holds : goal.returns-in-Err-clause-holds
returns-in-Err-clause-holds g c = holds_clock _ _ _ _ _ _ c.now-ms.ensures.pairs c.now-ms.ensures.ends c.tell_pairs.ensures.accepted c.tell_pairs.ensures.ends c.requires.holds

pub returns-in-Ok-clause-log : goal.returns-in-Ok-clause-log
returns-in-Ok-clause-log g c = λ s.
    clock_log (g.R.Relay.words s) (g.R.Relay.represents s) c.now-ms.result _ _ c.tell_all_lines.result c.record-kept.result _ _ _ _ _ _ (c.tell_pairs.ensures.entry s) c.requires.holds.owns
    c.tell_pairs.ensures.accepted c.begin.ensures c.now-ms.ensures.onward c.now-ms.ensures.last (sym c.as_slice.ensures.value) (c.tell_all_lines.ensures.told s)
    (ap (λ (o : Result (Unit {0}) SinkFault). clock_result o c.now-ms.result) (sym c.in-Ok.is ∙ c.both.ensures))
    (kept_by _ _ _ _ c.record-kept.ensures.whole c.record-kept.ensures.part) c.now-ms.ensures.log

pub returns-in-Err-clause-log : goal.returns-in-Err-clause-log
returns-in-Err-clause-log g c = λ s.
    clock_log (g.R.Relay.words s) (g.R.Relay.represents s) c.now-ms.result _ _ c.tell_all_lines.result c.record-kept.result _ _ _ _ _ _ (c.tell_pairs.ensures.entry s) c.requires.holds.owns
    c.tell_pairs.ensures.accepted c.begin.ensures c.now-ms.ensures.onward c.now-ms.ensures.last (sym c.as_slice.ensures.value) (c.tell_all_lines.ensures.told s)
    (ap (λ (o : Result (Unit {0}) SinkFault). clock_result o c.now-ms.result) (sym c.in-Err.is ∙ c.both.ensures))
    (kept_by _ _ _ _ c.record-kept.ensures.whole c.record-kept.ensures.part) c.now-ms.ensures.log
