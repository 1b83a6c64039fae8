use Rattle.std.proofs.Common.{◌∙◌, ap}
use Rattle.std.specs.Prelude.{find}
use Rattle.publish_path.specs.Publishes.{takes}
use Rattle.std.proofs.lemmas.List.{take_rest}
use Rattle.publish_path.proofs.Ahead.{taking_ahead}
use Rattle.publish_path.proofs.searches.first_taking.Goals as goal

pub returns : goal.returns
returns c = c.find_taking.ensures ∙ ap (find (takes c.args.number)) (take_rest c.args.items.now c.args.from) ∙ taking_ahead c.args.number c.args.from c.args.items.now c.requires
