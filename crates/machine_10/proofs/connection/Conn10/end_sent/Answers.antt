use Rattle.machine_10.proofs.Tops.{end_free}
use Rattle.machine_10.proofs.connection.Conn10.end_sent.Goals as goal

pub invariant_of-self : goal.invariant_of-self
invariant_of-self c = (
  c.self.invariant.0,
  end_free c.args.channel c.self.inside.top c.self.inside.state c.end_sent.new.self c.end_sent.ensures c.self.invariant.1,
)
