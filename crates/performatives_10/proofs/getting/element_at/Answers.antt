use Rattle.performatives_10.proofs.Places.{found_is}
use Rattle.performatives_10.proofs.getting.element_at.Goals as goal

pub returns : goal.returns
returns c = found_is c.get.result c.args.list.now c.args.place c.get.ensures
