use Rattle.std.proofs.Common.{ℕ, List, [], ◌∷◌, sym, ap, ◌∙◌, subst, refl}
use Rattle.gate_outside.specs.declared.ports.Accepted.TheVariants as accepted
use Rattle.gate_outside.specs.declared.ports.End.{End}
use Rattle.gate_outside.specs.declared.ports.End.TheVariants.{Client}
use Rattle.gate_outside.specs.Ends.{closed}
use Rattle.gate_relay.specs.Entries.{Began}
use Rattle.gate_turns.specs.Openings.{outcome}
use Rattle.gate_turns.specs.Represents.{Represents}
use Rattle.gate_turns.specs.Rounds.{run_state}
use Rattle.gate_turns.proofs.AcceptMarks.{away_log, failed_log, failed_outcome, kept_accept}
use Rattle.gate_turns.proofs.AcceptMarks.{new_agrees, none_agrees, quiet_log}
use Rattle.gate_turns.proofs.NewPairs.{AreBelow, are_below, holds_new, holds_same}
use Rattle.gate_turns.proofs.welcome.welcome.Goals as goal

pub returns-in-Ok-clause-holds : goal.returns-in-Ok-clause-holds
returns-in-Ok-clause-holds g c =
    holds_new (g.R.Relay.represents c.args.setup.now) c.in-Pair.number c.args.moment _ _ _ _ _ _ c.in-Pair.ensures.number c.in-Pair.ensures.pairs c.in-Pair.ensures.ends
    c.take_in.ensures.accepted c.in-Ok.ensures.ok c.requires.holds

pub returns-in-Err-clause-holds : goal.returns-in-Err-clause-holds
returns-in-Err-clause-holds g c =
    holds_same c.in-Pair.number _ _ _ _ _ _ c.in-Pair.ensures.number (c.turn_away.ensures.ports.pairs ∙ c.in-Pair.ensures.pairs)
    (c.turn_away.ensures.ends ∙ ap (λ (ends : List (ℕ × End)). closed c.in-Pair.number Client ends) c.in-Pair.ensures.ends)
    c.take_in.ensures.accepted c.in-Err.ensures.err c.requires.holds

pub returns-in-Ok-clause-log : goal.returns-in-Ok-clause-log
returns-in-Ok-clause-log g c =
    let p : ℕ = c.in-Pair.number in
    let live = c.args.service.now.live.items in
    let new = c.in-Ok.ensures.ok in
    let below : AreBelow p live = subst (λ (k : ℕ). AreBelow k live) (sym c.in-Pair.ensures.number) (are_below _ _ live c.requires.holds.owns.each) in
    quiet_log (g.R.Relay.words c.args.setup.now) (g.R.Relay.represents c.args.setup.now) (accepted.Pair p) c.record-kept.result _ _ _ _ _
    (λ m x now a. new_agrees (g.R.Relay.represents c.args.setup.now) p new.pair x _ _ m new.live new.number
    (subst (λ (i : ℕ). Represents (g.R.Relay.represents c.args.setup.now) new.pair (Began p i ∷ [])) c.requires.time new.represents)
    below c.take_in.ensures.accepted c.in-Pair.ensures.last c.in-Ok.ensures.tally now a)
    (λ m e. c.in-Pair.ensures.number ∙ sym c.requires.holds.accepts ∙ sym e) refl refl (c.outcome.ensures ∙ ap outcome c.both.ensures)
    (kept_accept c.accept-answer.result (accepted.Pair p) c.record-kept.result (g.T.Recorder.held c.args.recorder.now) (g.T.Recorder.held c.record-kept.new.self) c.in-Pair.is
    c.record-kept.ensures.whole c.record-kept.ensures.part) c.in-Pair.ensures.log

pub returns-in-Err-clause-log : goal.returns-in-Err-clause-log
returns-in-Err-clause-log g c =
    let p : ℕ = c.in-Pair.number in
    let live = c.args.service.now.live.items in
    let below : AreBelow p live = subst (λ (k : ℕ). AreBelow k live) (sym c.in-Pair.ensures.number) (are_below _ _ live c.requires.holds.owns.each) in
    away_log (g.R.Relay.words c.args.setup.now) (g.R.Relay.represents c.args.setup.now) p c.record-kept.result c.turn_away.result _ (g.T.Recorder.held c.record-kept.new.self) _ _ _ _ _
    (c.in-Pair.ensures.number ∙ sym c.requires.holds.accepts) c.in-Err.ensures.err below c.take_in.ensures.accepted (c.turn_away.ensures.ports.last ∙ c.in-Pair.ensures.last)
    c.in-Err.ensures.tally c.turn_away.ensures.told c.outcome-in-Err.ensures
    (kept_accept c.accept-answer.result (accepted.Pair p) c.record-kept.result (g.T.Recorder.held c.args.recorder.now) (g.T.Recorder.held c.record-kept.new.self) c.in-Pair.is
    c.record-kept.ensures.whole c.record-kept.ensures.part)
    c.turn_away.ensures.kept c.in-Pair.ensures.log c.turn_away.ensures.log

pub returns-in-NotYet-clause-log : goal.returns-in-NotYet-clause-log
returns-in-NotYet-clause-log g c =
    quiet_log (g.R.Relay.words c.args.setup.now) (g.R.Relay.represents c.args.setup.now) accepted.NotYet c.record-kept.result _ _ _ _ _
    (λ m x now a. none_agrees (g.R.Relay.represents c.args.setup.now) x (g.T.Recorder.held c.record-kept.new.self) _ _ m
    (ap (λ (k : ℕ). run_state c.args.service.now c.args.tally.now k (g.K.Sink.held c.args.report.now) (g.T.Recorder.held c.record-kept.new.self)) c.accept-answer.ensures.last) a)
    (λ m e. tt) refl refl (c.outcome-in-NotYet.ensures ∙ ap outcome c.both-in-NotYet.ensures)
    (kept_accept c.accept-answer.result accepted.NotYet c.record-kept.result (g.T.Recorder.held c.args.recorder.now) (g.T.Recorder.held c.record-kept.new.self) c.in-NotYet.is
    c.record-kept.ensures.whole c.record-kept.ensures.part) c.in-NotYet.ensures.log

pub returns-in-Failed-clause-log : goal.returns-in-Failed-clause-log
returns-in-Failed-clause-log g c =
    failed_log (g.R.Relay.words c.args.setup.now) (g.R.Relay.represents c.args.setup.now) c.record-kept.result _ (g.T.Recorder.held c.record-kept.new.self) _ _ _ _
    (ap (λ (k : ℕ). run_state c.args.service.now c.args.tally.now k (g.K.Sink.held c.args.report.now) (g.T.Recorder.held c.record-kept.new.self)) c.accept-answer.ensures.last)
    (ap failed_outcome (sym c.if-kept.true))
    (kept_accept c.accept-answer.result accepted.Failed c.record-kept.result (g.T.Recorder.held c.args.recorder.now) (g.T.Recorder.held c.record-kept.new.self) c.in-Failed.is
    c.record-kept.ensures.whole c.record-kept.ensures.part) c.in-Failed.ensures.log

pub returns-in-Failed-2-clause-log : goal.returns-in-Failed-2-clause-log
returns-in-Failed-2-clause-log g c =
    failed_log (g.R.Relay.words c.args.setup.now) (g.R.Relay.represents c.args.setup.now) c.record-kept.result _ (g.T.Recorder.held c.record-kept.new.self) _ _ _ _
    (ap (λ (k : ℕ). run_state c.args.service.now c.args.tally.now k (g.K.Sink.held c.args.report.now) (g.T.Recorder.held c.record-kept.new.self)) c.accept-answer.ensures.last)
    (ap failed_outcome (sym c.if-kept.false))
    (kept_accept c.accept-answer.result accepted.Failed c.record-kept.result (g.T.Recorder.held c.args.recorder.now) (g.T.Recorder.held c.record-kept.new.self) c.in-Failed-2.is
    c.record-kept.ensures.whole c.record-kept.ensures.part) c.in-Failed-2.ensures.log
