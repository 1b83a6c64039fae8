use Rattle.bridge_core.proofs.LinkSpellings.{link_flow_spelled}
use Rattle.bridge_core.proofs.link_frames.flow_of.Goals as goal

pub returns-clause-spelled : goal.returns-clause-spelled
returns-clause-spelled c = link_flow_spelled c.args.flow
