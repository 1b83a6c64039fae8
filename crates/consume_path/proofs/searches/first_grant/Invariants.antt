use Rattle.std.proofs.Common.{◌≡◌, drop}
use Rattle.consume_path.specs.Offers.{sooner, soonest, grant_link, flow_of}
use Rattle.consume_path.proofs.searches.first_grant.Given as goal

abbrev pub invariant-loop-l : goal.invariant-loop-l
invariant-loop-l l = sooner grant_link l.best (soonest grant_link (flow_of l.closed) (drop l.l-index l.links)) ≡ soonest grant_link (flow_of l.closed) l.links
