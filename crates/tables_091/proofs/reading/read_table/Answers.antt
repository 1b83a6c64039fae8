use Rattle.std.proofs.Common.{arith}
use Rattle.tables_091.proofs.FaultLaws.{fault_is_first}
use Rattle.tables_091.proofs.ReaderLaws.{read_is_spelled, spelled_is_read}
use Rattle.tables_091.proofs.Writable.{spelled_is_writable}
use Rattle.tables_091.proofs.reading.read_table.Goals as goal

pub returns-in-Ok-clause-found : goal.returns-in-Ok-clause-found
returns-in-Ok-clause-found c = read_is_spelled c.args.bytes.now c.args.at _ (λ i. omega (arith, c.type_inv.bytes i)) c.in-Ok.ensures

pub returns-in-Ok-clause-only : goal.returns-in-Ok-clause-only
returns-in-Ok-clause-only c = λ ms text rest h parts. cc (spelled_is_read c.args.bytes.now c.args.at ms text rest h parts, c.in-Ok.ensures)

pub returns-in-Ok-clause-writable : goal.returns-in-Ok-clause-writable
returns-in-Ok-clause-writable c =
    spelled_is_writable _ _ (read_is_spelled c.args.bytes.now c.args.at _ (λ i. omega (arith, c.type_inv.bytes i)) c.in-Ok.ensures).1

pub returns-in-Err-Fault-clause-only : goal.returns-in-Err-Fault-clause-only
returns-in-Err-Fault-clause-only c = λ ms text rest h parts.
    let fault = rw c.in-Err-Fault.field-0-is at c.in-Err-Fault.ensures in
    absurd (cc (spelled_is_read c.args.bytes.now c.args.at ms text rest h parts, fault))

pub returns-in-Err-Fault-clause-fault : goal.returns-in-Err-Fault-clause-fault
returns-in-Err-Fault-clause-fault c =
    let fault = rw c.in-Err-Fault.field-0-is at c.in-Err-Fault.ensures in
    (fault_is_first c.args.bytes.now c.args.at _ (λ i. omega (arith, c.type_inv.bytes i))).0 fault
