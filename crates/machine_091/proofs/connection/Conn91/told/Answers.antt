use Rattle.std.proofs.Common.{sym, subst, rules}
use Rattle.machine_091.specs.Writable.{CanPutContents}
use Rattle.machine_091.proofs.Writable.{told_puts}
use Rattle.machine_091.proofs.connection.Conn91.told.Goals as goal

pub invariant_of-self : goal.invariant_of-self
invariant_of-self c =
    (search rules, subst CanPutContents (sym c.tell_channel.ensures) (told_puts c.args.channel c.self.inside.state c.self.invariant.1))
