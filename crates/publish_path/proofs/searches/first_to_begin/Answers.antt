use Rattle.std.proofs.Common.{◌∙◌, ap}
use Rattle.std.specs.Prelude.{find}
use Rattle.publish_path.specs.Offers.{can_begin}
use Rattle.std.proofs.lemmas.List.{take_rest}
use Rattle.publish_path.proofs.Ahead.{begins_ahead}
use Rattle.publish_path.proofs.searches.first_to_begin.Goals as goal

pub returns-clause-first : goal.returns-clause-first
returns-clause-first c = c.find_to_begin.ensures.first ∙ ap (find (can_begin c.args.links.now)) (take_rest c.args.items.now c.args.from) ∙ begins_ahead c.args.links.now c.args.from c.args.items.now c.requires
