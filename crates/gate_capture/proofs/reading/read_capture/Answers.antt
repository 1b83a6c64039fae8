use Rattle.std.proofs.Common.{arith}
use Rattle.gate_capture.proofs.CaptureLaws.{found_by, only_by, again_by}
use Rattle.gate_capture.proofs.reading.read_capture.Goals as goal

pub returns-clause-found : goal.returns-clause-found
returns-clause-found c = found_by c.args.bytes.now c.in_ok-read.read (λ i. omega (arith, c.type_inv.bytes i)) c.in_ok-read.ensures

pub returns-clause-only : goal.returns-clause-only
returns-clause-only c = λ words log is. only_by c.args.bytes.now words log c.in_ok-read.read c.in_ok-read.ensures is

pub returns-clause-again : goal.returns-clause-again
returns-clause-again c = again_by c.args.bytes.now c.in_ok-read.read (λ i. omega (arith, c.type_inv.bytes i)) c.in_ok-read.ensures
