use Rattle.std.proofs.Common.{◌∙◌, ap}
use Rattle.consume_path.specs.Offers.{soonest, rank_of, get_offer}
use Rattle.std.proofs.lemmas.List.{take_rest}
use Rattle.consume_path.proofs.Ahead.{get_ahead}
use Rattle.consume_path.proofs.searches.get_from.Goals as goal

pub returns : goal.returns
returns c = c.first_get.ensures ∙ ap (soonest rank_of get_offer) (take_rest c.args.items.now c.args.from) ∙ get_ahead c.args.from c.args.items.now c.requires
