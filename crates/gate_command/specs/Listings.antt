-- What the commands do whose input is a byte stream of one of the two protocols.
use Rattle.std.specs.Prelude.{◌≡◌, ℕ, ◌⊎◌, List, [], Option, Ok}
use Rattle.gate_outside.specs.Streams.{Appends}
use Rattle.gate_listing.specs.Listing.{Piece, AreUnits, BeginsWith, EndsAll, IsListed, lines}
use Rattle.gate_listing.specs.Names.{fault_text}
use Rattle.gate_listing.specs.declared.listing.Dialect.{Dialect}
use Rattle.gate_listing.specs.declared.listing.Listed.{Listed}
use Rattle.gate_listing.specs.declared.listing.Listed.TheVariants as listed
use Rattle.gate_command.specs.declared.input.Input.{Input}
use Rattle.gate_command.specs.declared.input.Input.TheVariants.{Whole, TooLong, Failed}
use Rattle.gate_command.specs.declared.top_call.Status.{Status}
use Rattle.gate_command.specs.declared.top_call.Status.TheVariants as status
use Rattle.gate_command.specs.Input.{IsInput}
use Rattle.gate_command.specs.Recorded.{Says, bad_line, long_line}

-- the lines of all units; those before the first fault, and its line; or as many as out took
abbrev pub IsStreamBy : Dialect → List ℕ → Listed → Status → Option (List ℕ) → Option (List ℕ)
    → Type 0
IsStreamBy d bytes listed.Whole answer held held' =
    (answer ≡ status.Ok) × IsListed d bytes held held' (Ok listed.Whole)
IsStreamBy d bytes (listed.Bad e) answer held held' =
    (before : Option (List ℕ)) × IsListed d bytes held before (Ok (listed.Bad e))
    × Says status.BadInput (bad_line e.at (fault_text e.fault)) answer before held'
IsStreamBy d bytes listed.OutFailed answer held held' =
    (answer ≡ status.Outside) × IsListed d bytes held held' (Ok listed.OutFailed)

-- bytes that are whole units are never told as at fault
abbrev pub IsStream : Dialect → List ℕ → Status → Option (List ℕ) → Option (List ℕ) → Type 0
IsStream d bytes answer held held' =
    (how : Listed) × IsStreamBy d bytes how answer held held'
    × ((us : List Piece) → BeginsWith d us [] bytes → EndsAll us held held' how)

abbrev pub IsStreamOf : Dialect → Input → Status → Option (List ℕ) → Option (List ℕ) → Type 0
IsStreamOf d (Whole bytes) answer held held' = IsStream d bytes answer held held'
IsStreamOf d TooLong answer held held' = Says status.BadInput long_line answer held held'
IsStreamOf d Failed answer held held' = (answer ≡ status.Outside) × (held' ≡ held)

-- out took the lines of some units
abbrev pub HasUnits : Dialect → Option (List ℕ) → Option (List ℕ) → Type 0
HasUnits d held held' = (us : List Piece) × AreUnits d 0 us × Appends held held' (lines 0 us)

-- what was read of the input was listed; or memory ran out behind the lines of some units
abbrev pub IsStreamListing : Dialect → Status → Option (List ℕ) → Option (List ℕ)
    → Option (List ℕ) → Option (List ℕ) → Type 0
IsStreamListing d answer left left' held held' =
    ((read : Input) × IsInput left left' read × IsStreamOf d read answer held held') ⊎ ((answer
    ≡ status.Memory) × HasUnits d held held')
