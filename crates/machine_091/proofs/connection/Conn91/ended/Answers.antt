use Rattle.std.proofs.Common.{sym, subst}
use Rattle.machine_091.specs.Limits.{AreWithin}
use Rattle.machine_091.specs.Writable.{CanPutContents}
use Rattle.machine_091.proofs.Writable.{ended_puts}
use Rattle.machine_091.proofs.connection.Conn91.ended.Goals as goal

pub invariant_of-self : goal.invariant_of-self
invariant_of-self c =
    subst (λ x. AreWithin x.limits × CanPutContents x) (sym c.end.ensures) (c.self.invariant.0, ended_puts c.self.inside.state)
