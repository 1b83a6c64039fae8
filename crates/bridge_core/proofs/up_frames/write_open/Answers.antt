use Rattle.std.proofs.Common.{◌≤◌, length, sym, subst}
use Rattle.types_10.specs.Writing.{HasSpelling}
use Rattle.performatives_10.specs.Writing.{perf_text, perf_tree}
use Rattle.bridge_core.proofs.Spellings.{open_short, open_spelled}
use Rattle.bridge_core.proofs.up_frames.write_open.Goals as goal

pub write_perf-written-requires-clause-spelled : goal.write_perf-written-requires-clause-spelled
write_perf-written-requires-clause-spelled c =
    let e = c.in_ok-perf.ensures in
    subst (λ p. HasSpelling (perf_tree p)) (sym e.value) (open_spelled c.args.setup.now c.args.number e.form c.ranges.number.fits)

pub write_perf-written-requires-clause-short : goal.write_perf-written-requires-clause-short
write_perf-written-requires-clause-short c =
    let e = c.in_ok-perf.ensures in
    subst (λ p. length (perf_text p) ≤ 504) (sym e.value) (open_short c.args.setup.now c.args.number e.form c.ranges.number.fits)
