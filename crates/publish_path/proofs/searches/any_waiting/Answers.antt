use Rattle.std.proofs.Common.{◌∙◌, ap}
use Rattle.std.specs.List.{list_any}
use Rattle.publish_path.specs.Offers.{waits_on}
use Rattle.std.proofs.lemmas.List.{take_rest}
use Rattle.publish_path.proofs.Ahead.{waiting_ahead}
use Rattle.publish_path.proofs.searches.any_waiting.Goals as goal

pub returns : goal.returns
returns c = c.has_waiting.ensures ∙ ap (list_any (waits_on c.args.link)) (take_rest c.args.items.now c.args.from) ∙ waiting_ahead c.args.link c.args.from c.args.items.now c.requires
