use Rattle.std.proofs.Common.{arith, length-append}
use Rattle.types_10.specs.Writing.{written}
use Rattle.types_10.proofs.measure.Measure.described.Goals as goal

pub returns : goal.returns
returns c d t m n = record {
  kind = n.kind;
  front = omega (arith, c.whole_len.ensures d m, n.front, length-append (written d).text (written t).front);
  body = n.body;
}
