-- The first fault of bytes that are to begin with a table, and its offset (AMQP 0-9-1 4.2.5.5), one
-- row for each: a length that is cut off or passes what holds it, at the length; a number that is
-- cut off, at its first byte, and also a decimal; a type byte that is missing, at the end of what
-- holds it; one that is unknown or passes the depth, at the byte. What stands before the fault is
-- spelled rightly.
use Rattle.std.specs.Prelude.{◌≡◌, ◌≢◌, ◌⊎◌, ℕ, zero, suc, ◌-◌, List, ◌∷◌, length, drop}
use Rattle.std.specs.Int.{w8, w32}
use Rattle.wire_base.specs.Reading.{offset}
use Rattle.wire_base.specs.Spelling.{IsText}
use Rattle.wire_base.specs.Faults.{Faults, IsCut, IsNumberCut, IsTextFault, IsPairFault}
use Rattle.wire_base.specs.Faults.{IsContainerFault}
use Rattle.tables_091.specs.Tree.{Tree}
use Rattle.tables_091.specs.Kinds.{kind_byte, wide_width}
use Rattle.tables_091.specs.Grammar.{IsMember, IsField}
use Rattle.tables_091.specs.declared.kind.Kind.{Kind}
use Rattle.tables_091.specs.declared.kind.Kind.TheVariants as kind
use Rattle.tables_091.specs.declared.kind.Single.{Single}
use Rattle.tables_091.specs.declared.kind.Single.TheVariants as single

-- a value that holds no other: a decimal is a scale and a number, five bytes together
abbrev pub IsSingleFault : Single → Faults ℕ
IsSingleFault (single.Octet k) = IsNumberCut offset w8
IsSingleFault (single.Wide k) = IsNumberCut offset (wide_width k)
IsSingleFault (single.Text k) = IsTextFault offset w32
IsSingleFault single.Decimal = IsCut offset 5
IsSingleFault single.Void = λ end bytes at. ⊥

-- an entry of a table: its name, or its field
abbrev pub IsMemberFault : Faults ℕ → Faults ℕ
IsMemberFault IsInside = IsPairFault (IsTextFault offset w8) (IsText w8) IsInside

-- the value of a field that may hold no other, whose type byte stands at this offset
abbrev pub IsFlatFault : Kind → ℕ → Faults ℕ
IsFlatFault (kind.Single k) byte = IsSingleFault k
IsFlatFault kind.Array byte = λ end bytes at. at ≡ byte
IsFlatFault kind.Table byte = λ end bytes at. at ≡ byte

-- the value of a field that may hold such fields
abbrev pub IsDeepFault : (Tree → List ℕ → Type 0) → Faults ℕ → Kind → ℕ → Faults ℕ
IsDeepFault IsInside IsInsideFault (kind.Single k) byte = IsSingleFault k
IsDeepFault IsInside IsInsideFault kind.Array byte =
    IsContainerFault offset w32 IsInside IsInsideFault
IsDeepFault IsInside IsInsideFault kind.Table byte =
    IsContainerFault offset w32 (IsMember IsInside) (IsMemberFault IsInsideFault)

-- a type byte at this offset is that of no kind, or the value behind it has a fault
abbrev pub IsKindFault : (Kind → ℕ → Faults ℕ) → ℕ → ℕ → Faults ℕ
IsKindFault IsValueFault byte place end bytes at =
    (((k : Kind) → kind_byte k ≢ byte) × (at ≡ place))
    ⊎ ((k : Kind) × (kind_byte k ≡ byte) × IsValueFault k place end bytes at)

-- a type byte is missing, or has a fault
abbrev pub IsTypedFault : (Kind → ℕ → Faults ℕ) → Faults ℕ
IsTypedFault IsValueFault end bytes at =
    IsNumberCut offset w8 end bytes at
    ⊎ ((byte : ℕ) × (rest : List ℕ) × (bytes ≡ byte ∷ rest)
    × IsKindFault IsValueFault byte (end - length bytes) end rest at)

-- a field of at most this depth
unfoldable pub IsFieldFault : ℕ → Faults ℕ
IsFieldFault zero = IsTypedFault IsFlatFault
IsFieldFault (suc depth) = IsTypedFault (IsDeepFault (IsField depth) (IsFieldFault depth))

-- a table: its fields have at most depth 15
abbrev pub IsTableFault : Faults ℕ
IsTableFault = IsContainerFault offset w32 (IsMember (IsField 15)) (IsMemberFault (IsFieldFault 15))

-- the table that is to stand at an offset
abbrev pub IsFaultAt : List ℕ → ℕ → ℕ → Type 0
IsFaultAt bytes from at = IsTableFault (length bytes) (drop from bytes) at
