use Rattle.std.proofs.Common.{◌∙◌, Option, ap}
use Rattle.machine_10.specs.declared.state.Upstream.{Upstream}
use Rattle.gate_model.specs.declared.life.Life.{Life}
use Rattle.gate_model.specs.Due.{attach_row, detach_row, dispose_row, link_flow_row}
use Rattle.gate_model.specs.Lives.{life_at, no_life}
use Rattle.gate_model.specs.State.{State}
use Rattle.gate_model.specs.Upstream.{first}
use Rattle.bridge_core.specs.declared.rows.UpRow.TheVariants as up_row
use Rattle.bridge_core.proofs.ChannelRows.{of_up_row}
use Rattle.bridge_core.proofs.core_state.Core.up_unit_on.Goals as goal

pub returns-in-Attach : goal.returns-in-Attach
returns-in-Attach c =
    of_up_row c.args.self.now c.args.row up_row.Attach c.args.channel _ c.in-Attach.is
    (c.attach_on.ensures
    ∙ ap (λ (x : Option Upstream). first (attach_row x c.self.inside.paths c.self.inside.attached c.args.channel no_life)) c.container-container.ensures.value
    ∙ ap (λ (w : State). first (attach_row w.up.container w.paths w.attached c.args.channel no_life)) c.self.view_is)

pub returns-in-LinkFlow : goal.returns-in-LinkFlow
returns-in-LinkFlow c =
    of_up_row c.args.self.now c.args.row up_row.LinkFlow c.args.channel _ c.in-LinkFlow.is
    (c.link_flow_on.ensures
    ∙ ap (λ (l : Life). first (link_flow_row c.container-container.result.now c.self.inside.paths c.args.channel l)) c.get-life.ensures
    ∙ ap (λ (x : Option Upstream). first (link_flow_row x c.self.inside.paths c.args.channel (life_at c.self.inside.lives c.args.channel))) c.container-container.ensures.value
    ∙ ap (λ (w : State). first (link_flow_row w.up.container w.paths c.args.channel (life_at w.lives c.args.channel))) c.self.view_is)

pub returns-in-Dispose : goal.returns-in-Dispose
returns-in-Dispose c =
    of_up_row c.args.self.now c.args.row up_row.Dispose c.args.channel _ c.in-Dispose.is
    (c.disposal_on.ensures
    ∙ ap (λ (x : Option Upstream). first (dispose_row x c.self.inside.paths c.args.channel no_life)) c.container-container.ensures.value
    ∙ ap (λ (w : State). first (dispose_row w.up.container w.paths c.args.channel no_life)) c.self.view_is)

pub returns-in-Detach : goal.returns-in-Detach
returns-in-Detach c =
    of_up_row c.args.self.now c.args.row up_row.Detach c.args.channel _ c.in-Detach.is
    (c.detach_on.ensures
    ∙ ap (λ (x : Option Upstream). first (detach_row x c.self.inside.paths c.args.channel no_life)) c.container-container.ensures.value
    ∙ ap (λ (w : State). first (detach_row w.up.container w.paths c.args.channel no_life)) c.self.view_is)
