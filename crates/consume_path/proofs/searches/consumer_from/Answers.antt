use Rattle.std.proofs.Common.{◌∙◌, ap}
use Rattle.consume_path.specs.Offers.{soonest, rank_of, consumer_offer}
use Rattle.std.proofs.lemmas.List.{take_rest}
use Rattle.consume_path.proofs.Ahead.{consumer_ahead}
use Rattle.consume_path.proofs.searches.consumer_from.Goals as goal

pub returns : goal.returns
returns c = c.first_consumer.ensures ∙ ap (soonest rank_of (consumer_offer c.args.free c.args.items.now)) (take_rest c.args.items.now c.args.from) ∙ consumer_ahead c.args.free c.args.items.now c.args.from c.args.items.now c.requires.ahead
