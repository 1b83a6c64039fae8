-- What most steps leave as it is.
use Rattle.std.specs.Prelude.{◌≡◌}
use Rattle.gate_model.specs.State.{State}

-- the units in progress stay
pub record KeepsGoing (old new : State) : Type 0 where
  pub client : new.in_progress ≡ old.in_progress
  pub up : new.up.in_progress ≡ old.up.in_progress
