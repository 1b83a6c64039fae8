use Rattle.std.proofs.Common.{arith}
use Rattle.types_10.proofs.load.Load.whole.Goals as goal

pub returns : goal.returns
returns c t m = omega (arith, m.front, m.inner)
