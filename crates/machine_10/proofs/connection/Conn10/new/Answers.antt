use Rattle.std.proofs.Common.{arith}
use Rattle.machine_10.proofs.Tops.{new_free}
use Rattle.machine_10.proofs.connection.Conn10.new.Goals as goal

pub invariant_of-result : goal.invariant_of-result
invariant_of-result c = (omega arith, new_free c.args.mechanism c.args.response c.new.result c.new.ensures)
