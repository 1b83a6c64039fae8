use Rattle.std.proofs.Common.{◌≡◌, List, Result, IfOk, subst, sym}
use Rattle.wire_base.specs.declared.memory.Memory.{Memory}
use Rattle.performatives_10.specs.Reading.{rows}
use Rattle.performatives_10.specs.View.{kind_of, fields_of}
use Rattle.performatives_10.specs.Writing.{written}
use Rattle.types_10.specs.Tree.{Tree}
use Rattle.performatives_10.specs.declared.performative.Perf.{Perf}
use Rattle.performatives_10.proofs.writing.perf_written.Goals as goal

-- what was collected is what is written of a performative
abbrev Gives : Result (List Tree) Memory → Perf → Type 0
Gives r p = IfOk r (λ f. f ≡ written (rows (kind_of p)) (fields_of p))

pub returns-in-Attach : goal.returns-in-Attach
returns-in-Attach c = subst (Gives c.attach_written.result) (sym c.in-Attach.is) c.attach_written.ensures

pub returns-in-Flow : goal.returns-in-Flow
returns-in-Flow c = subst (Gives c.flow_written.result) (sym c.in-Flow.is) c.flow_written.ensures

pub returns-in-Transfer : goal.returns-in-Transfer
returns-in-Transfer c = subst (Gives c.transfer_written.result) (sym c.in-Transfer.is) c.transfer_written.ensures
