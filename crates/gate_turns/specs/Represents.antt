-- A live pair's state is what its entries say.
use Rattle.std.specs.Prelude.{◌≡◌, ℕ, Bool, true, false, List, ◌∷◌, Option, None}
use Rattle.gate_outside.specs.declared.ports.End.{End}
use Rattle.gate_outside.specs.declared.ports.Got.{Got}
use Rattle.gate_outside.specs.declared.ports.Got.TheVariants as got
use Rattle.gate_outside.specs.declared.ports.Put.{Put}
use Rattle.gate_outside.specs.declared.ports.Put.TheVariants as put
use Rattle.gate_relay.specs.declared.loss.Loss.TheVariants as loss
use Rattle.gate_relay.specs.declared.sides.Sides.{Sides}
use Rattle.gate_relay.specs.Entries.{Entry, OutOfMemory}
use Rattle.gate_relay.specs.Sides.{sides, side_lost, with_side}
use Rattle.gate_turns.specs.declared.live.Live.{Live}

pub record Represents {A : Type 0} (r : A → List Entry → Type 0) (b : Live A)
    (h : List Entry) : Type 0 where
  pub relay : r b.relay.value h
  pub sides : b.sides ≡ sides h

-- the pair ran out of memory within the newest entry, or not
abbrev pub with_cut : Bool → ℕ → List Entry → List Entry
with_cut true cut h = OutOfMemory cut ∷ h
with_cut false cut h = h

-- both ends after a read of one
abbrev pub sides_read : End → Got → Sides → Sides
sides_read end (got.Bytes n) s = s
sides_read end got.NotYet s = s
sides_read end got.Ended s = with_side end (side_lost loss.Ended) s
sides_read end got.Failed s = with_side end (side_lost loss.Failed) s

-- both ends after a write to one
abbrev pub sides_wrote : End → Put → Sides → Sides
sides_wrote end (put.Took n) s = s
sides_wrote end put.NotYet s = s
sides_wrote end put.Failed s = with_side end (side_lost loss.Failed) s

-- a read gave bytes
abbrev pub has_come : Got → Bool
has_come (got.Bytes n) = true
has_come got.NotYet = false
has_come got.Ended = false
has_come got.Failed = false

-- what a look found
abbrev pub found_by : Bool → Option (List ℕ) → Option (List ℕ)
found_by true bytes = bytes
found_by false bytes = None
