use Rattle.std.proofs.Common.{arith}
use Rattle.sections_10.proofs.FaultLaws.{fault_by}
use Rattle.sections_10.proofs.MessageLaws.{found_by, only_by}
use Rattle.sections_10.proofs.reading.read_message.Goals as goal

pub returns-clause-found : goal.returns-clause-found
returns-clause-found c = found_by c.args.bytes.now c.in_ok-read.read (λ i. omega (arith, c.type_inv.bytes i)) c.in_ok-read.ensures

pub returns-clause-only : goal.returns-clause-only
returns-clause-only c = only_by c.args.bytes.now c.in_ok-read.read (λ i. omega (arith, c.type_inv.bytes i)) c.in_ok-read.ensures

pub returns-clause-fault : goal.returns-clause-fault
returns-clause-fault c = fault_by c.args.bytes.now c.in_ok-read.read (λ i. omega (arith, c.type_inv.bytes i)) c.in_ok-read.ensures
