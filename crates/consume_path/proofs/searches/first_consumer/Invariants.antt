use Rattle.std.proofs.Common.{◌≡◌, drop}
use Rattle.consume_path.specs.Offers.{sooner, soonest, rank_of, consumer_offer}
use Rattle.consume_path.proofs.searches.first_consumer.Given as goal

abbrev pub invariant-loop-d : goal.invariant-loop-d
invariant-loop-d l = sooner rank_of l.best (soonest rank_of (consumer_offer l.free l.items) (drop l.d-index l.rest)) ≡ soonest rank_of (consumer_offer l.free l.items) l.rest
