use Rattle.std.proofs.Common.{◌∙◌, refl, sym}
use Rattle.gate_turns.proofs.Closings.{Cut, Mute, Whole, conclude_log}
use Rattle.gate_turns.proofs.EachPair.{owns_told}
use Rattle.gate_turns.proofs.closing.conclude.Goals as goal

pub shut_all-answer-requires : goal.shut_all-answer-requires
shut_all-answer-requires g c = owns_told c.args.service.live.items _ _ _ c.finish_live.ensures.ends c.requires.owns

pub returns-then-not-is_told-clause-log : goal.returns-then-not-is_told-clause-log
returns-then-not-is_told-clause-log g c = λ s tally.
    conclude_log (g.R.Relay.words s) (g.R.Relay.represents s) c.args.why c.shut_all-answer.result _ _ c.finish_live.new.service.live.items _ _ _ _ _ _ _
    c.requires.owns c.finish_live.ensures.ends (c.finish_live.ensures.entry s) c.shut_all-answer.ensures.answer (Mute (sym c.is_told.ensures ∙ c.if-not-is_told.true) refl) (c.shut_all-answer.ensures.log s)

pub returns-then-not-tell_last-clause-log : goal.returns-then-not-tell_last-clause-log
returns-then-not-tell_last-clause-log g c = λ s tally.
    conclude_log (g.R.Relay.words s) (g.R.Relay.represents s) c.args.why c.shut_all-answer.result _ _ c.finish_live.new.service.live.items _ _ _ _ _ _ _
    c.requires.owns c.finish_live.ensures.ends (c.finish_live.ensures.entry s) c.shut_all-answer.ensures.answer (Cut (sym c.is_told.ensures ∙ c.if-not-is_told.false) c.tell_last.ensures.part) (c.shut_all-answer.ensures.log s)

pub returns-clause-log : goal.returns-clause-log
returns-clause-log g c = λ s tally.
    conclude_log (g.R.Relay.words s) (g.R.Relay.represents s) c.args.why c.shut_all-answer.result _ _ c.finish_live.new.service.live.items _ _ _ _ _ _ _
    c.requires.owns c.finish_live.ensures.ends (c.finish_live.ensures.entry s) c.shut_all-answer.ensures.answer (Whole (sym c.is_told.ensures ∙ c.if-not-is_told.false) (c.tell_last.ensures.whole c.if-not-tell_last.false)) (c.shut_all-answer.ensures.log s)
