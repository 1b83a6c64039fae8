use Rattle.std.proofs.Common.{arith}
use Rattle.machine_091.proofs.unit.tell_slice.Goals as goal

pub returns : goal.returns
returns c = λ i. omega (arith, c.type_inv.bytes i)
