use Rattle.std.proofs.Common.{arith}
use Rattle.content_091.proofs.FaultLaws.{found_by, only_by, writable_by, fault_by}
use Rattle.content_091.proofs.reading.read_header.Goals as goal

pub returns-clause-found : goal.returns-clause-found
returns-clause-found c = found_by c.args.payload.now c.in_ok-read.read (λ i. omega (arith, c.type_inv.payload i)) c.in_ok-read.ensures

pub returns-clause-only : goal.returns-clause-only
returns-clause-only c = only_by c.args.payload.now c.in_ok-read.read c.in_ok-read.ensures

pub returns-clause-writable : goal.returns-clause-writable
returns-clause-writable c = writable_by c.args.payload.now c.in_ok-read.read (λ i. omega (arith, c.type_inv.payload i)) c.in_ok-read.ensures

pub returns-clause-fault : goal.returns-clause-fault
returns-clause-fault c = fault_by c.args.payload.now c.in_ok-read.read (λ i. omega (arith, c.type_inv.payload i)) c.in_ok-read.ensures
