-- How a listing goes on from unit to unit, by the function that finds the first unit of bytes.
use Rattle.std.specs.Prelude.{◌≡◌, ◌≢◌, ℕ, ◌≤◌, List, [], length, drop, Option, Result, Ok, Err}
use Rattle.wire_base.specs.Bytes.{IsBytes}
use Rattle.wire_base.specs.declared.memory.Memory.{Memory}
use Rattle.wire_base.specs.declared.stop.Stop.{Stop}
use Rattle.wire_base.specs.declared.stop.Stop.TheVariants as stop
use Rattle.gate_outside.specs.Streams.{Appends, AppendsFront}
use Rattle.gate_listing.specs.Listing.{Piece, BeginsWith, line, lines}
use Rattle.gate_listing.specs.Scanning.{Found, place, unit_091_in, unit_10_in}
use Rattle.gate_listing.specs.declared.listing.Dialect.{Dialect}
use Rattle.gate_listing.specs.declared.listing.Dialect.TheVariants.{Amqp091, Amqp10}
use Rattle.gate_listing.specs.declared.listing.Listed.{Listed}
use Rattle.gate_listing.specs.declared.listing.Listed.TheVariants.{Whole, Bad, OutFailed}

-- the first unit of bytes
abbrev pub unit_in : Dialect → ℕ → List ℕ → Found
unit_in Amqp091 end bytes = unit_091_in end bytes
unit_in Amqp10 end bytes = unit_10_in end bytes

-- the line of the unit with which the bytes begin, and the bytes after it; or why there is none
abbrev pub NextListed : {X : Type 0} → (X → List ℕ) → Dialect → ℕ → List ℕ → Option (List ℕ)
    → Option (List ℕ) → Result X (Stop Listed) → Type 0
NextListed view d end bytes old new (Ok rest) =
    (words : List ℕ) × (size : ℕ) × (unit_in d end bytes ≡ Ok (words, size)) × (view rest
    ≡ drop size bytes)
    × Appends old new (line (place end bytes) words)
NextListed view d end bytes old new (Err (stop.Fault Whole)) = ⊥
NextListed view d end bytes old new (Err (stop.Fault (Bad e))) =
    (unit_in d end bytes ≡ Err e) × Appends old new []
NextListed view d end bytes old new (Err (stop.Fault OutFailed)) =
    (words : List ℕ) × (size : ℕ) × (unit_in d end bytes ≡ Ok (words, size))
    × AppendsFront old new (line (place end bytes) words)
NextListed view d end bytes old new (Err stop.Memory) = Appends old new []

-- the lines of the units with which the input begins; all of them, or those before the first fault
-- or before out failed
abbrev pub UnitsListed : Dialect → List ℕ → Option (List ℕ) → Option (List ℕ)
    → Result Listed Memory → Type 0
UnitsListed d bytes old new (Ok Whole) =
    (us : List Piece) × BeginsWith d us [] bytes × Appends old new (lines 0 us)
UnitsListed d bytes old new (Ok (Bad e)) =
    (us : List Piece) × (rest : List ℕ) × BeginsWith d us rest bytes × IsBytes rest × (rest ≢ [])
    × (unit_in d (length bytes) rest ≡ Err e) × Appends old new (lines 0 us)
UnitsListed d bytes old new (Ok OutFailed) =
    (us : List Piece) × (rest : List ℕ) × BeginsWith d us rest bytes
    × AppendsFront old new (lines 0 us)
UnitsListed d bytes old new (Err e) =
    (us : List Piece) × (rest : List ℕ) × BeginsWith d us rest bytes × Appends old new (lines 0 us)

-- how far a listing has come: what is left, and the lines of the units before it
pub record SoFar (d : Dialect) (faults faults' : ℕ) (old new : Option (List ℕ))
    (bytes rest : List ℕ) : Type 0 where
  pub units : List Piece
  pub before : BeginsWith d units rest bytes
  pub fits : IsBytes rest
  pub later : faults ≤ faults'
  pub listed : Appends old new (lines 0 units)

abbrev pub ended_by : Stop Listed → Result Listed Memory
ended_by stop.Memory = Err (record {})
ended_by (stop.Fault how) = Ok how
