use Rattle.std.proofs.Common.{◌≡◌, Result, IfOk, subst, sym}
use Rattle.wire_base.specs.declared.memory.Memory.{Memory}
use Rattle.types_10.specs.View.{value_tree}
use Rattle.types_10.specs.declared.value.Value10.{Value10}
use Rattle.performatives_10.specs.View.{state_tree}
use Rattle.performatives_10.specs.declared.performative.State.{State}
use Rattle.performatives_10.proofs.composing.state_value.Goals as goal

-- a value is that of a state
abbrev Gives : Result Value10 Memory → State → Type 0
Gives r s = IfOk r (λ v. value_tree v ≡ state_tree s)

pub returns-in-Received : goal.returns-in-Received
returns-in-Received c = subst (Gives c.bare_value.result) (sym c.in-Received.is) c.bare_value.ensures

pub returns-in-Accepted : goal.returns-in-Accepted
returns-in-Accepted c =
    subst (Gives c.bare_value-in-Accepted.result) (sym c.in-Accepted.is) c.bare_value-in-Accepted.ensures

pub returns-in-Rejected : goal.returns-in-Rejected
returns-in-Rejected c = subst (Gives c.rejected_value.result) (sym c.in-Rejected.is) c.rejected_value.ensures

pub returns-in-Released : goal.returns-in-Released
returns-in-Released c =
    subst (Gives c.bare_value-in-Released.result) (sym c.in-Released.is) c.bare_value-in-Released.ensures

pub returns-in-Modified : goal.returns-in-Modified
returns-in-Modified c =
    subst (Gives c.bare_value-in-Modified.result) (sym c.in-Modified.is) c.bare_value-in-Modified.ensures
