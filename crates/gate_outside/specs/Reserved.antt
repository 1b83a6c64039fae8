-- What pairs have reserved.
use Rattle.std.specs.Prelude.{◌*◌, ◌≤◌, vec_len, vec_capacity}
use Rattle.gate_outside.specs.declared.pairs.Pairs.TheInside.{Inside}
use Rattle.gate_outside.specs.OpenEnds.{AreBelow, AreDistinct}

-- each open end is of an accepted pair and stands once, and there is room for the ends of all pairs
pub record HasRoomForPairs (a : Inside) : Type 0 where
  pub accepted : vec_len a.taken ≤ a.most
  pub pairs : a.most ≤ vec_capacity a.taken
  pub ends : 2 * a.most ≤ vec_capacity a.ends
  pub below : AreBelow (vec_len a.taken) a.ends.items
  pub distinct : AreDistinct a.ends.items
