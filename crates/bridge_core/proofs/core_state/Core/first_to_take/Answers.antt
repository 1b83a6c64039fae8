use Rattle.gate_model.specs.State.{waits}
use Rattle.bridge_core.proofs.Least.{front_waits}
use Rattle.bridge_core.proofs.core_state.Core.first_to_take.Goals as goal

pub first_of_channels-requires-clause-front : goal.first_of_channels-requires-clause-front
first_of_channels-requires-clause-front c =
    front_waits (waits c.args.self.now) c.args.self.now.queue c.can_take_first.result c.can_take_first.ensures c.if-can_take_first.false
