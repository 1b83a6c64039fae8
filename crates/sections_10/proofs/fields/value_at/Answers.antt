use Rattle.types_10.specs.View.{value_tree}
use Rattle.sections_10.proofs.Places.{found_is}
use Rattle.sections_10.proofs.fields.value_at.Goals as goal

pub returns : goal.returns
returns c = found_is (λ v. value_tree v.now) c.get.result c.args.fields.now c.args.place c.get.ensures
