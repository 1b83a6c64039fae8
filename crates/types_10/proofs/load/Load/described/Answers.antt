use Rattle.std.proofs.Common.{arith}
use Rattle.types_10.proofs.load.Load.described.Goals as goal

pub returns : goal.returns
returns c d t m n = record {
  front = omega (arith, c.whole.ensures d m, n.front);
  inner = n.inner;
}
