-- What a run doesn't go beyond.
use Rattle.std.specs.Prelude.{◌≤◌, length}
use Rattle.gate_runs.specs.declared.limits.Limits.{Limits}
use Rattle.gate_runs.specs.Marks.{History}
use Rattle.gate_runs.specs.Next.{accepted_count, pair_limit, live_pairs, most_live, turns_begun}

-- at most 256 pairs live, no more are accepted than may be, and no more turns begin than were asked
-- for
pub record IsWithin (c : Limits) (m : History) : Type 0 where
  pub live : length (live_pairs m) ≤ most_live
  pub accepted : accepted_count m ≤ pair_limit c
  pub turns : turns_begun m ≤ c.turns
