use Rattle.std.proofs.Common.{arith}
use Rattle.bridge_core.proofs.PathSlots.{all_none}
use Rattle.bridge_core.proofs.paths.Paths.new.Goals as goal

pub invariant_of-result : goal.invariant_of-result
unfolding Rattle.gate_model.specs.Paths.no_paths
invariant_of-result c =
    (c.default.ensures.long, (omega arith, all_none c.default.result 256 c.default.ensures.long c.default.ensures.at))

pub returns : goal.returns
unfolding Rattle.gate_model.specs.Paths.no_paths
returns c = all_none c.default.result 256 c.default.ensures.long c.default.ensures.at
