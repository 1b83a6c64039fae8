use Rattle.std.proofs.Common.{ℕ, ◌+◌, length, ap, sym, ◌∙◌, arith}
use Rattle.wire_base.proofs.Laws.{ok_is}
use Rattle.types_10.specs.Tree.{Tree}
use Rattle.types_10.specs.View.{value_tree}
use Rattle.types_10.specs.Reading.{Fault}
use Rattle.types_10.proofs.Depths.{value_depth}
use Rattle.types_10.proofs.FaultLaws.{fault_is_first}
use Rattle.types_10.proofs.ValueLaws.{read_is_spelled, spelled_is_read}
use Rattle.types_10.proofs.reading.read_value.Goals as goal

pub returns-in-Ok-clause-found : goal.returns-in-Ok-clause-found
returns-in-Ok-clause-found c = read_is_spelled c.args.bytes.now c.args.at _ (λ i. omega (arith, c.type_inv.bytes i)) c.in-Ok.ensures

pub returns-in-Ok-clause-depth : goal.returns-in-Ok-clause-depth
returns-in-Ok-clause-depth c =
    let found = read_is_spelled c.args.bytes.now c.args.at (value_tree c.in-Ok.read.0, c.in-Ok.read.1) (λ i. omega (arith, c.type_inv.bytes i)) c.in-Ok.ensures in
    value_depth (value_tree c.in-Ok.read.0) _ found.1

pub returns-in-Ok-clause-only : goal.returns-in-Ok-clause-only
returns-in-Ok-clause-only c = λ v text rest h parts.
    let same = ok_is {F = Fault} (value_tree c.in-Ok.read.0, c.in-Ok.read.1) (v, c.args.at + length text) (sym c.in-Ok.ensures ∙ spelled_is_read c.args.bytes.now c.args.at v text rest h parts) in
    (ap (λ (x : Tree × ℕ). x.0) same, ap (λ (x : Tree × ℕ). x.1) same)

pub returns-in-Err-Fault-clause-only : goal.returns-in-Err-Fault-clause-only
returns-in-Err-Fault-clause-only c = λ v text rest h parts.
    let fault = rw c.in-Err-Fault.field-0-is at c.in-Err-Fault.ensures in
    absurd (cc (spelled_is_read c.args.bytes.now c.args.at v text rest h parts, fault))

pub returns-in-Err-Fault-clause-fault : goal.returns-in-Err-Fault-clause-fault
returns-in-Err-Fault-clause-fault c =
    let fault = rw c.in-Err-Fault.field-0-is at c.in-Err-Fault.ensures in
    (fault_is_first c.args.bytes.now c.args.at _ (λ i. omega (arith, c.type_inv.bytes i))).0 fault
