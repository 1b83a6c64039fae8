use Rattle.machine_10.proofs.Tops.{taken_free}
use Rattle.machine_10.proofs.connection.Conn10.take.Goals as goal

pub invariant_of-self : goal.invariant_of-self
invariant_of-self c = (
  c.self.invariant.0,
  taken_free c.take.result c.self.inside.top c.self.inside.state c.take.new.self c.args.unit.now c.take.ensures.state c.take.ensures.err c.self.invariant.1,
)
