use Rattle.std.proofs.Common.{◌+◌, length, ap, sym, ◌∙◌, arith}
use Rattle.wire_base.proofs.Laws.{ok_is}
use Rattle.types_10.specs.Reading.{Fault, value_at}
use Rattle.types_10.specs.Skipping.{end_of}
use Rattle.types_10.proofs.FaultLaws.{fault_is_first}
use Rattle.types_10.proofs.Pasts.{end_found, end_fault}
use Rattle.types_10.proofs.ValueLaws.{read_is_spelled, spelled_is_read}
use Rattle.types_10.proofs.skipping.skip_value.Goals as goal

pub returns-in-Ok-clause-found : goal.returns-in-Ok-clause-found
returns-in-Ok-clause-found c =
    let x = end_found (value_at c.args.bytes.now c.args.at) c.in-Ok.after c.in-Ok.ensures in
    let found = read_is_spelled c.args.bytes.now c.args.at (x.0, c.in-Ok.after) (λ i. omega (arith, c.type_inv.bytes i)) x.1 in
    (found.0, (x.0, found.1))

pub returns-in-Ok-clause-only : goal.returns-in-Ok-clause-only
returns-in-Ok-clause-only c = λ v text rest h parts.
    ok_is {F = Fault} c.in-Ok.after (c.args.at + length text) (sym c.in-Ok.ensures ∙ ap end_of (spelled_is_read c.args.bytes.now c.args.at v text rest h parts))

pub returns-in-Err-Fault-clause-only : goal.returns-in-Err-Fault-clause-only
returns-in-Err-Fault-clause-only c = λ v text rest h parts.
    let fault = rw c.in-Err-Fault.field-0-is at c.in-Err-Fault.ensures in
    absurd (cc (ap end_of (spelled_is_read c.args.bytes.now c.args.at v text rest h parts), fault))

pub returns-in-Err-Fault-clause-fault : goal.returns-in-Err-Fault-clause-fault
returns-in-Err-Fault-clause-fault c =
    let fault = rw c.in-Err-Fault.field-0-is at c.in-Err-Fault.ensures in
    (fault_is_first c.args.bytes.now c.args.at _ (λ i. omega (arith, c.type_inv.bytes i))).0 (end_fault (value_at c.args.bytes.now c.args.at) _ fault)
