use Rattle.std.proofs.Common.{◌∙◌, ap}
use Rattle.consume_path.specs.Offers.{holds}
use Rattle.std.proofs.lemmas.List.{take_rest}
use Rattle.consume_path.proofs.Ahead.{held_ahead}
use Rattle.consume_path.proofs.searches.held_from.Goals as goal

pub returns : goal.returns
returns c = c.any_held.ensures ∙ ap (holds c.args.link) (take_rest c.args.items.now c.args.from) ∙ held_ahead c.args.link c.args.from c.args.items.now c.requires
