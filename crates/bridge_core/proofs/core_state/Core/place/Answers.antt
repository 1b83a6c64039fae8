use Rattle.std.proofs.Common.{◌∙◌, ap, sym}
use Rattle.machine_091.specs.State.{is_opening}
use Rattle.gate_model.specs.Paths.{is_laden}
use Rattle.gate_model.specs.Queue.{is_empty}
use Rattle.gate_model.specs.State.{State}
use Rattle.bridge_core.proofs.Places.{none_when_empty, none_while_laden, none_while_opening}
use Rattle.bridge_core.proofs.core_state.Core.place.Goals as goal
use Rattle.bridge_core.proofs.core_state.Core.place.Goals.{else-is_opening, then-is_opening}

pub returns-then-is_empty-clause-place : goal.returns-then-is_empty-clause-place
returns-then-is_empty-clause-place c =
    sym (none_when_empty c.args.self.now
    (ap (λ (x : State). is_empty x.queue) (sym c.self.view_is) ∙ sym c.is_empty.ensures ∙ c.if-is_empty.true))

pub returns-then-is_laden-clause-place : goal.returns-then-is_laden-clause-place
returns-then-is_laden-clause-place c =
    elim c.if-is_opening.branch [
      | then-is_opening w ↦ sym (none_while_opening c.args.self.now
          (ap (λ (x : State). is_opening x.conn) (sym c.self.view_is) ∙ sym c.is_opening.ensures ∙ w.if-is_opening.true))
      | else-is_opening w ↦ sym (none_while_laden c.args.self.now
          (ap (λ (x : State). is_laden x.paths) (sym c.self.view_is) ∙ sym w.is_laden.ensures ∙ sym w.value-is ∙ c.if-is_laden.true))
    ]
