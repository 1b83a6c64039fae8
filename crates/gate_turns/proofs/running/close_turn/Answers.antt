use Rattle.std.proofs.Common.{◌==◌, ◌&&◌, ℕ, refl, sym, ap, ◌∙◌, true, false}
use Rattle.gate_outside.specs.declared.ports.Next.{Next}
use Rattle.gate_relay.specs.Entries.{is_empty}
use Rattle.gate_runs.specs.Next.{pair_limit}
use Rattle.gate_turns.specs.Rounds.{run_state}
use Rattle.gate_turns.proofs.Runs.{close_idle, end_idle}
use Rattle.gate_turns.proofs.running.close_turn.Goals as goal

pub returns-then-not-record-clause-log : goal.returns-then-not-record-clause-log
returns-then-not-record-clause-log g c = λ s held.
    close_idle (g.R.Relay.words s) (g.R.Relay.represents s) c.args.limits.now false c.idle-answer.result _ _ _ _ _ _ c.if-tally.false
    (ap (λ (last : ℕ). run_state c.args.service.now c.args.tally.now last held (g.T.Recorder.held c.record.new.self)) c.idle-answer.ensures.last)
    c.record.ensures.part refl c.idle-answer.ensures.log

pub returns-in-Go-clause-log : goal.returns-in-Go-clause-log
returns-in-Go-clause-log g c = λ s held.
    close_idle (g.R.Relay.words s) (g.R.Relay.represents s) c.args.limits.now true c.idle-answer.result _ _ _ _ _ _ c.if-tally.false
    (ap (λ (last : ℕ). run_state c.args.service.now c.args.tally.now last held (g.T.Recorder.held c.record.new.self)) c.idle-answer.ensures.last)
    (c.record.ensures.whole c.if-not-record.false)
    (c.end_or_go_on-in-Go.ensures ∙ sym (ap (λ (next : Next). end_idle true next ((c.args.service.now.accepted == pair_limit c.args.limits.now) && is_empty c.args.service.now.live.items)) c.in-Go.is))
    c.idle-answer.ensures.log

pub returns-in-Stop-clause-log : goal.returns-in-Stop-clause-log
returns-in-Stop-clause-log g c = λ s held.
    close_idle (g.R.Relay.words s) (g.R.Relay.represents s) c.args.limits.now true c.idle-answer.result _ _ _ _ _ _ c.if-tally.false
    (ap (λ (last : ℕ). run_state c.args.service.now c.args.tally.now last held (g.T.Recorder.held c.record.new.self)) c.idle-answer.ensures.last)
    (c.record.ensures.whole c.if-not-record.false)
    (sym (ap (λ (next : Next). end_idle true next ((c.args.service.now.accepted == pair_limit c.args.limits.now) && is_empty c.args.service.now.live.items)) c.in-Stop.is))
    c.idle-answer.ensures.log
