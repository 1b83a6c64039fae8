use Rattle.std.proofs.Common.{arith}
use Rattle.types_10.proofs.load.EachLoad.behind.Goals as goal

pub returns : goal.returns
returns c t ts m each = record {
  whole = omega (arith, c.whole.ensures t m, each.whole);
  first = m.front;
  inner = omega (arith, m.inner, each.inner);
}
