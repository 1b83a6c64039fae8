use Rattle.std.proofs.Common.{sym, subst, rules}
use Rattle.machine_091.specs.Writable.{CanPutContents}
use Rattle.machine_091.proofs.Writable.{freed_puts}
use Rattle.machine_091.proofs.connection.Conn91.closed.Goals as goal

pub invariant_of-self : goal.invariant_of-self
invariant_of-self c =
    (search rules, subst CanPutContents (sym c.free_channel.ensures) (freed_puts c.args.channel c.self.inside.state c.self.invariant.1))
