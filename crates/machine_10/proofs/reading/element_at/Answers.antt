use Rattle.types_10.specs.View.{value_tree}
use Rattle.machine_10.proofs.Offers.{found_is}
use Rattle.machine_10.proofs.reading.element_at.Goals as goal

pub returns : goal.returns
returns c = found_is (λ v. value_tree v.now) c.get.result c.args.list.now c.args.place c.get.ensures
