use Rattle.machine_10.proofs.Tops.{begin_free}
use Rattle.machine_10.proofs.connection.Conn10.begin_sent.Goals as goal

pub invariant_of-self : goal.invariant_of-self
invariant_of-self c = (
  c.top_with-self-inside.ensures.within,
  begin_free c.args.channel c.self.inside.top c.top_with-self-inside.result c.self.inside.state c.begin_sent.new.self c.begin_sent.ensures.step c.begin_sent.ensures.beyond
      c.top_with-self-inside.ensures.above c.top_with-self-inside.ensures.channel c.self.invariant.1,
)
