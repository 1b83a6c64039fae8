use Rattle.std.proofs.Common.{◌≡◌, drop}
use Rattle.std.specs.Prelude.{filter}
use Rattle.session_path.specs.Links.{lowest}
use Rattle.session_path.specs.Path.{is_idle}
use Rattle.session_path.proofs.Idle.{lowest_of}
use Rattle.session_path.proofs.path_links.lowest_idle.Given as goal

abbrev pub invariant-loop-l : goal.invariant-loop-l
invariant-loop-l l = lowest_of l.lowest (lowest (filter (is_idle l.publishes.list l.deliveries l.oks.items) (drop l.l-index l.links))) ≡ lowest (filter (is_idle l.publishes.list l.deliveries l.oks.items) l.links)
