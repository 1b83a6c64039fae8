use Rattle.std.proofs.Common.{length, arith, ap}
use Rattle.std.proofs.lemmas.List.{length-drop}
use Rattle.publish_path.proofs.publishes.part_from.Goals as goal

pub returns-then-from-len-clause-none : goal.returns-then-from-len-clause-none
returns-then-from-len-clause-none c = (
  λ e. absurd (cc),
  λ e. absurd (omega (arith, ap length e, length-drop c.args.from c.args.payload.now, c.len.ensures, c.if-from-len.true)),
)
