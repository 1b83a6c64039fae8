use Rattle.std.proofs.Common.{ap, arith}
use Rattle.types_10.specs.Measures.{head_len}
use Rattle.types_10.proofs.Measures.{whole_len}
use Rattle.types_10.proofs.measure.Measure.whole_len.Goals as goal

pub returns : goal.returns
returns c t m = omega (arith, m.front, m.body, ap head_len m.kind, whole_len t)
