use Rattle.std.proofs.Common.{◌∙◌, sym, arith}
use Rattle.consume_path.proofs.Steps.{run_more}
use Rattle.consume_path.proofs.searches.run_end.Goals as goal

pub loop-preserved : goal.loop-preserved
loop-preserved c =
    run_more c.args.most c.loop.counter c.args.settle c.args.items.now c.loop.last (omega arith) (sym c.has_owing_id.ensures ∙ c.if-not-has_owing_id.false) ∙ c.loop.invariant
