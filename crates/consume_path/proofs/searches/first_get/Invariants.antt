use Rattle.std.proofs.Common.{◌≡◌, drop}
use Rattle.consume_path.specs.Offers.{sooner, soonest, rank_of, get_offer}
use Rattle.consume_path.proofs.searches.first_get.Given as goal

abbrev pub invariant-loop-d : goal.invariant-loop-d
invariant-loop-d l = sooner rank_of l.best (soonest rank_of get_offer (drop l.d-index l.items)) ≡ soonest rank_of get_offer l.items
