use Rattle.std.proofs.Common.{◌∙◌, ap}
use Rattle.gate_model.specs.Upstream.{first}
use Rattle.bridge_core.proofs.ChannelRows.{up_by_channels}
use Rattle.bridge_core.proofs.core_state.Core.first_in_up.Goals as goal

pub returns-in_default : goal.returns-in_default
returns-in_default c =
    c.first_up_on_channels.ensures
    ∙ ap first (up_by_channels c.args.self.now c.args.row c.in_default.not-Opening c.in_default.not-Close c.in_default.not-Empty)
