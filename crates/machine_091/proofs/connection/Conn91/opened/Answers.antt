use Rattle.std.proofs.Common.{sym, subst}
use Rattle.machine_091.specs.Limits.{AreWithin}
use Rattle.machine_091.specs.Writable.{CanPutContents}
use Rattle.machine_091.proofs.connection.Conn91.opened.Goals as goal

pub invariant_of-self : goal.invariant_of-self
invariant_of-self c = subst (λ x. AreWithin x.limits × CanPutContents x) (sym c.open.ensures) c.self.invariant
