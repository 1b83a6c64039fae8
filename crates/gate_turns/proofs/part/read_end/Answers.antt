use Rattle.std.proofs.Common.{rules, ◌≡◌, length, refl, subst}
use Rattle.wire_base.specs.Bytes.{IsBytes}
use Rattle.gate_turns.proofs.ReadMarks.{read_log, reads_answered}
use Rattle.gate_turns.proofs.Reporting.{kept_by}
use Rattle.gate_turns.proofs.part.read_end.Goals as goal

pub returns-clause-log : goal.returns-clause-log
returns-clause-log g c =
    let same : length c.read-got.new.buf ≡ length c.args.room.now = search rules in
    read_log (g.R.Relay.words c.args.setup.now) (g.R.Relay.represents c.args.setup.now) c.args.end c.read-got.result _ c.bytes_of-bytes.result.now _ c.heard-ran_out.result c.tell.result c.both.result
    c.record-kept.result c.args.live.now c.heard-ran_out.new.self c.args.tally.now c.note.new.self _ _ _ _ _ _
    c.requires.room.size c.bytes_of-bytes.ensures.bytes (search rules) c.heard-ran_out.ensures.number (search rules) c.heard-ran_out.ensures.came
    c.requires.due c.heard-ran_out.ensures.entry
    (reads_answered c.args.live.now.number c.args.end c.read-got.result c.args.room.now c.read-got.new.buf _ c.read-got.ensures.bytes same refl (subst IsBytes c.bytes_of-bytes.ensures.bytes c.bytes_of-bytes.ensures.fit))
    (λ h s. c.tell.ensures.told c.args.setup.now h s) c.both.ensures (kept_by _ _ _ _ c.record-kept.ensures.whole c.record-kept.ensures.part) c.read-got.ensures.log
