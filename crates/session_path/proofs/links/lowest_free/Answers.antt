use Rattle.std.proofs.Common.{◌∙◌, sym, arith}
use Rattle.session_path.proofs.Gaps.{gap_more}
use Rattle.session_path.proofs.links.lowest_free.Goals as goal

pub loop-this-preserved : goal.loop-this-preserved
loop-this-preserved c = record {
  place = omega arith;
  rest = sym (gap_more c.args.links.now c.loop-this.this-index c.loop-this.n _ c.loop-this-test.true c.if-this-n.false) ∙ c.loop-this.invariant.rest;
}
