use Rattle.std.proofs.Common.{subst, sym}
use Rattle.machine_10.specs.declared.state.Awaited10.TheVariants as awaited
use Rattle.gate_pair.specs.Cutting.{IsWithin}
use Rattle.gate_pair.proofs.Within.{up_within, up_within_ok}
use Rattle.gate_pair.proofs.cutting.scan_up.Goals as goal

pub returns-in-Header-clause-within : goal.returns-in-Header-clause-within
returns-in-Header-clause-within c =
    subst (IsWithin c.args.bytes.now) (sym c.scan_greeting_up.ensures) (up_within (awaited.Header c.in-Header.kind) c.args.bytes.now)

pub returns-in-Frame-clause-within : goal.returns-in-Frame-clause-within
returns-in-Frame-clause-within c = up_within_ok awaited.Frame c.args.bytes.now c.scan_next_up.result c.scan_next_up.ensures.exact
