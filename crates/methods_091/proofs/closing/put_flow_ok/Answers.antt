use Rattle.methods_091.specs.Writing.{octet_of}
use Rattle.methods_091.proofs.closing.put_flow_ok.Goals as goal

pub returns : goal.returns
unfolding octet_of
returns c = c.put_short.ensures
