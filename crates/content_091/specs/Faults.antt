-- The faults of bytes that are no content header, and where each stands (AMQP 0-9-1 4.2.6.1).
use Rattle.std.specs.Prelude.{◌≡◌, ◌≢◌, ◌⊎◌, ℕ, ◌-◌, ◌<◌, ◌%◌, Bool, true, false, List, [], ◌∷◌}
use Rattle.std.specs.Prelude.{◌++◌, length}
use Rattle.std.specs.Int.{w8, w64}
use Rattle.wire_base.specs.declared.scan.At.{At}
use Rattle.wire_base.specs.Reading.{offset}
use Rattle.wire_base.specs.Faults.{Faults, IsNumberCut, IsTextFault, IsPairFault}
use Rattle.tables_091.specs.Faults.{IsTableFault}
use Rattle.content_091.specs.Rows.{PropertyKind, Row, rows}
use Rattle.content_091.specs.Rows as kind
use Rattle.content_091.specs.Grammar.{bit_at, IsMaybe, IsProps, Head, IsHead, basic, AreFlags}
use Rattle.content_091.specs.declared.reading.HeaderFault.{HeaderFault}
use Rattle.content_091.specs.declared.reading.HeaderFault.TheVariants as fault

-- a property that is cut off, or whose length passes the bytes; and the faults of a table
abbrev pub IsPropertyFault : PropertyKind → Faults ℕ
IsPropertyFault kind.octet = IsNumberCut offset w8
IsPropertyFault kind.longlong = IsNumberCut offset w64
IsPropertyFault kind.shortstr = IsTextFault offset w8
IsPropertyFault kind.fields = IsTableFault

-- a property that isn't there has no fault
abbrev pub IsMaybeFault : Bool → PropertyKind → Faults ℕ
IsMaybeFault true k = IsPropertyFault k
IsMaybeFault false k = λ end bytes at. ⊥

-- the first property that has a fault; those before it are spelled rightly
abbrev pub IsPropsFault : ℕ → List Row → Faults ℕ
IsPropsFault flags [] = λ end bytes at. ⊥
IsPropsFault flags (row ∷ others) =
    IsPairFault (IsMaybeFault (bit_at row.0 flags) row.1) (IsMaybe (bit_at row.0 flags) row.1)
    (IsPropsFault flags others)

-- bytes are left: the fault at the first of them
abbrev pub AreLeft : Faults ℕ
AreLeft end bytes at = (bytes ≢ []) × (at ≡ end - length bytes)

-- bytes begin with such a head
abbrev pub HasHead : Head → List ℕ → List ℕ → Type 0
HasHead head bytes rest = (front : List ℕ) × IsHead head front × (bytes ≡ front ++ rest)

-- the head is cut off: told at the end of the bytes, whatever is there
abbrev pub IsHeadCut : List ℕ → ℕ → Type 0
IsHeadCut bytes at = (length bytes < 14) × (at ≡ length bytes)

-- behind a head without fault a property has a fault, or bytes are left
abbrev pub IsBroken : List ℕ → ℕ → Type 0
IsBroken bytes at =
    (size : ℕ) × (flags : ℕ) × (rest : List ℕ) × HasHead (((basic, 0), size), flags) bytes rest
    × AreFlags flags
    × IsPairFault (IsPropsFault flags rows) (IsProps flags rows) AreLeft (length bytes) rest at

-- Syntax: the head is cut off, or what is behind it is broken. Class: at 0 for another class, and
-- at 2 for a weight that isn't 0. Flags: at 12 where a bit of no property is set. The class counts
-- before the weight, and both before the flags.
abbrev pub IsFaultOf : HeaderFault → ℕ → List ℕ → Type 0
IsFaultOf fault.Syntax at bytes = IsHeadCut bytes at ⊎ IsBroken bytes at
IsFaultOf fault.Class at bytes =
    (class : ℕ) × (weight : ℕ) × (size : ℕ) × (flags : ℕ) × (rest : List ℕ)
    × HasHead (((class, weight), size), flags) bytes rest
    × (((class ≢ basic) × (at ≡ 0)) ⊎ ((class ≡ basic) × (weight ≢ 0) × (at ≡ 2)))
IsFaultOf fault.Flags at bytes =
    (size : ℕ) × (flags : ℕ) × (rest : List ℕ) × HasHead (((basic, 0), size), flags) bytes rest
    × (flags % 4 ≢ 0) × (at ≡ 12)

-- the same of a fault and its place together
abbrev pub IsFault : List ℕ → At HeaderFault → Type 0
IsFault bytes e = IsFaultOf e.fault e.at bytes
