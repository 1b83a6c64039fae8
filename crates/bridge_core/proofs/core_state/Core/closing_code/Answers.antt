use Rattle.std.proofs.Common.{◌∙◌, Some, ap, false, sym, true}
use Rattle.gate_model.specs.Paths.{path_at}
use Rattle.gate_model.specs.State.{State}
use Rattle.bridge_core.proofs.LinkFaults.{detach_code, transfer_code}
use Rattle.bridge_core.proofs.core_state.Core.closing_code.Goals as goal

pub returns-in-None : goal.returns-in-None
returns-in-None c payload e =
    transfer_code _ _ _ _ payload (path_at c.self.inside.paths c.args.channel) _ _ c.in-Transfer.is c.part_of-part.ensures e
    (sym c.in-None.is ∙ c.transfer_fault.ensures) (ap (λ (w : State). path_at w.paths c.args.channel) c.self.view_is)

pub returns-in-Some : goal.returns-in-Some
returns-in-Some c payload e =
    transfer_code _ _ _ _ payload (path_at c.self.inside.paths c.args.channel) _ _ c.in-Transfer.is c.part_of-part.ensures e
    (sym c.in-Some.is ∙ c.transfer_fault.ensures) (ap (λ (w : State). path_at w.paths c.args.channel) c.self.view_is)

pub returns-then-closes_at : goal.returns-then-closes_at
returns-then-closes_at c payload e =
    ap Some c.code_by-then-closes_at.ensures
    ∙ detach_code _ _ payload (path_at c.self.inside.paths c.args.channel) _ true c.in-Detach.is (sym c.if-closes_at.true ∙ c.closes_at.ensures)
    (ap (λ (w : State). path_at w.paths c.args.channel) c.self.view_is)

pub returns-else-closes_at : goal.returns-else-closes_at
returns-else-closes_at c payload e =
    detach_code _ _ payload (path_at c.self.inside.paths c.args.channel) _ false c.in-Detach.is (sym c.if-closes_at.false ∙ c.closes_at.ensures)
    (ap (λ (w : State). path_at w.paths c.args.channel) c.self.view_is)
