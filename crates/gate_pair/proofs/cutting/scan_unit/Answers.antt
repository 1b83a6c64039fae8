use Rattle.std.proofs.Common.{◌++◌}
use Rattle.machine_091.specs.declared.state.Awaited91.TheVariants as awaited
use Rattle.gate_pair.proofs.Within.{within_ok}
use Rattle.gate_pair.proofs.cutting.scan_unit.Goals as goal

pub returns-in-Header-clause-within : goal.returns-in-Header-clause-within
returns-in-Header-clause-within c =
    within_ok awaited.Header (c.args.unread.now ++ c.args.bytes.now) c.scan_greeting.result c.scan_greeting.ensures.exact

pub returns-in-Frame-clause-within : goal.returns-in-Frame-clause-within
returns-in-Frame-clause-within c =
    within_ok (awaited.Frame c.in-Frame.size) (c.args.unread.now ++ c.args.bytes.now) c.scan_next.result c.scan_next.ensures.exact
