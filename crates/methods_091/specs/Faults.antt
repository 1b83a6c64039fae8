-- The faults of bytes that are no method, and where each stands (AMQP 0-9-1 2.3.5.2 and 4.2.5).
use Rattle.std.specs.Prelude.{◌≡◌, ◌≢◌, ◌⊎◌, ℕ, ◌-◌, ◌<◌, ◌≤◌, List, [], length, take, drop, Ok}
use Rattle.std.specs.Prelude.{Err}
use Rattle.wire_base.specs.declared.scan.At.{At}
use Rattle.methods_091.specs.Rows.{shape}
use Rattle.methods_091.specs.Arguments.{Arg}
use Rattle.methods_091.specs.Grammar.{ids_text}
use Rattle.methods_091.specs.Reading.{args_in}
use Rattle.methods_091.specs.declared.kind.MethodKind.{MethodKind}
use Rattle.methods_091.specs.declared.reading.MethodFault.{MethodFault}
use Rattle.methods_091.specs.declared.reading.MethodFault.TheVariants.{UnknownMethod, Syntax}

-- the first four bytes are there, and are the ids of no method
abbrev pub IsUnknown : List ℕ → Type 0
IsUnknown bytes = (4 ≤ length bytes) × ((k : MethodKind) → take 4 bytes ≢ ids_text k)

-- the bytes end inside the ids; the place is their end
abbrev pub IsCut : ℕ → List ℕ → Type 0
IsCut at bytes = (length bytes < 4) × (at ≡ length bytes)

-- some argument of the method can't be read, at this place
abbrev pub IsBroken : MethodKind → ℕ → List ℕ → Type 0
IsBroken k at bytes = args_in (shape k) (length bytes) (drop 4 bytes) ≡ Err at

-- bytes are left behind the last argument of the method, the first of them at this place
abbrev pub IsLonger : MethodKind → ℕ → List ℕ → Type 0
IsLonger k at bytes =
    (args : List Arg) × (rest : List ℕ) × (args_in (shape k) (length bytes) (drop 4 bytes)
    ≡ Ok (args, rest)) × (rest ≢ [])
    × (at ≡ length bytes - length rest)

-- UnknownMethod: at 0. Syntax: the ids are cut off, or they are those of a method whose arguments
-- are broken or followed by bytes.
abbrev pub IsFaultOf : MethodFault → ℕ → List ℕ → Type 0
IsFaultOf UnknownMethod at bytes = (at ≡ 0) × IsUnknown bytes
IsFaultOf Syntax at bytes =
    IsCut at bytes ⊎ ((k : MethodKind) × (take 4 bytes ≡ ids_text k)
    × (IsBroken k at bytes ⊎ IsLonger k at bytes))

-- the same of a fault and its place together
abbrev pub IsFault : List ℕ → At MethodFault → Type 0
IsFault bytes e = IsFaultOf e.fault e.at bytes
