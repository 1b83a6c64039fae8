use Rattle.std.proofs.Common.{sym, subst, rules}
use Rattle.machine_091.specs.Writable.{CanPutContents}
use Rattle.machine_091.proofs.Writable.{new_puts}
use Rattle.machine_091.proofs.connection.Conn91.new.Goals as goal

pub invariant_of-result : goal.invariant_of-result
invariant_of-result c = (search rules, subst CanPutContents (sym c.new.ensures) (new_puts c.args.vhost))
