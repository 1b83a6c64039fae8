use Rattle.std.proofs.Common.{rules, ◌≡◌, Some, sym, ◌∙◌}
use Rattle.gate_turns.proofs.Reporting.{kept_by}
use Rattle.gate_turns.proofs.WriteMarks.{offer_log, same_some, writes_answered}
use Rattle.gate_turns.proofs.part.write_ready.Goals as goal

pub returns-clause-log : goal.returns-clause-log
returns-clause-log g c = λ s bytes ready.
    let offered : g.R.Relay.ready c.args.live.now.relay.value c.args.end ≡ Some c.bytes-bytes.result.now = rw (sym c.deref.ensures) c.bytes-bytes.ensures.ready in
    let same : c.bytes-bytes.result.now ≡ bytes = same_some _ _ (sym offered ∙ ready) in
    rw (sym same) (offer_log (g.R.Relay.words s) (g.R.Relay.represents s) c.args.end c.bytes-bytes.result.now c.write-put.result c.tell.result c.both.result c.record-kept.result c.may_go_on.result
    c.args.live.now c.wrote.new.self c.args.tally.now c.note.new.self _ _ _ _ _ _ (search rules) c.may_go_on.ensures c.wrote.ensures.number (search rules)
    (writes_answered c.args.live.now.number c.args.end c.bytes-bytes.result.now c.write-put.result c.write-put.ensures.taken)
    (λ h r. c.wrote.ensures.entry s h c.bytes-bytes.result.now offered r) (λ h r. c.tell.ensures.told s h r) c.both.ensures
    (kept_by _ _ _ _ c.record-kept.ensures.whole c.record-kept.ensures.part) c.write-put.ensures.log)
