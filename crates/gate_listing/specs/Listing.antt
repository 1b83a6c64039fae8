-- Listings: the units of a whole input, one after another, each with the line for it.
use Rattle.std.specs.Prelude.{◌≡◌, ℕ, ◌+◌, List, [], ◌∷◌, ◌++◌, length, codes, decimal, Option}
use Rattle.std.specs.Prelude.{Result, Ok, Err}
use Rattle.wire_base.specs.declared.memory.Memory.{Memory}
use Rattle.wire_base.specs.declared.scan.At.{At}
use Rattle.gate_outside.specs.Streams.{Appends, AppendsFront}
use Rattle.gate_listing.specs.Units.{Shows091, Shows10}
use Rattle.gate_listing.specs.Faults.{IsFault091, IsFault10}
use Rattle.gate_listing.specs.declared.fault.UnitFault.{UnitFault}
use Rattle.gate_listing.specs.declared.listing.Dialect.{Dialect}
use Rattle.gate_listing.specs.declared.listing.Dialect.TheVariants.{Amqp091, Amqp10}
use Rattle.gate_listing.specs.declared.listing.Listed.{Listed}
use Rattle.gate_listing.specs.declared.listing.Listed.TheVariants.{Whole, Bad, OutFailed}

-- a unit at an offset: what its line says, and its bytes
abbrev pub Shows : Dialect → ℕ → List ℕ → List ℕ → Type 0
Shows Amqp091 at words text = Shows091 at words text
Shows Amqp10 at words text = Shows10 words text

-- why no unit begins at an offset
abbrev pub IsFault : Dialect → ℕ → List ℕ → At UnitFault → Type 0
IsFault Amqp091 = IsFault091
IsFault Amqp10 = IsFault10

-- what the line of a unit says, and the unit's bytes
abbrev pub Piece : Type 0
Piece = List ℕ × List ℕ

-- units one after another, from an offset on
abbrev pub AreUnits : Dialect → ℕ → List Piece → Type 0
AreUnits d at [] = Unit {0}
AreUnits d at (u ∷ us) = Shows d at u.0 u.1 × AreUnits d (at + length u.1) us

-- their bytes
abbrev pub bytes_of : List Piece → List ℕ
bytes_of [] = []
bytes_of (u ∷ us) = u.1 ++ bytes_of us

abbrev pub line : ℕ → List ℕ → List ℕ
line at words = decimal at ++ (codes " " ++ (words ++ codes "\n"))

-- their lines
abbrev pub lines : ℕ → List Piece → List ℕ
lines at [] = []
lines at (u ∷ us) = line at u.0 ++ lines (at + length u.1) us

-- the input begins with these units, and the rest is left
pub record BeginsWith (d : Dialect) (us : List Piece) (rest bytes : List ℕ) : Type 0 where
  pub units : AreUnits d 0 us
  pub parts : bytes ≡ bytes_of us ++ rest

-- Whole: the input is these units, and out holds their lines. Bad: it begins with these units,
-- whose lines out holds, and this is the fault behind them. OutFailed, and where memory ran out: a
-- front part of the lines of units with which the input begins.
abbrev pub IsListed : Dialect → List ℕ → Option (List ℕ) → Option (List ℕ)
    → Result Listed Memory → Type 0
IsListed d bytes old new (Ok Whole) =
    (us : List Piece) × BeginsWith d us [] bytes × Appends old new (lines 0 us)
IsListed d bytes old new (Ok (Bad e)) =
    (us : List Piece) × (rest : List ℕ) × BeginsWith d us rest bytes
    × IsFault d (length (bytes_of us)) rest e
    × Appends old new (lines 0 us)
IsListed d bytes old new (Ok OutFailed) =
    (us : List Piece) × (rest : List ℕ) × BeginsWith d us rest bytes
    × AppendsFront old new (lines 0 us)
IsListed d bytes old new (Err e) =
    (us : List Piece) × (rest : List ℕ) × BeginsWith d us rest bytes × Appends old new (lines 0 us)

-- how the listing of an input ends that is these units: with their lines, or where out failed
abbrev pub EndsAll : List Piece → Option (List ℕ) → Option (List ℕ) → Listed → Type 0
EndsAll us old new Whole = Appends old new (lines 0 us)
EndsAll us old new (Bad e) = ⊥
EndsAll us old new OutFailed = Unit {0}
