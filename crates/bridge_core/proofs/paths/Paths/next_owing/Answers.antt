use Rattle.bridge_core.proofs.Tops.{owing_below}
use Rattle.bridge_core.proofs.paths.Paths.next_owing.Goals as goal

pub returns : goal.returns
returns c = owing_below c.args.above c.args.last c.before.used.result.now c.args.self.now c.next_owing.result c.used.ensures.lines c.next_owing.ensures
