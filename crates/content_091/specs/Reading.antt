-- Reading a content header from left to right, with the first fault that is met (AMQP 0-9-1
-- 4.2.6.1).
use Rattle.std.specs.Prelude.{ℕ, ◌-◌, ◌%◌, ◌==◌, Bool, true, false, List, [], ◌∷◌, length, Option}
use Rattle.std.specs.Prelude.{Some, None, Ok, Err, Result, nat_lt, if◌then◌else◌}
use Rattle.std.specs.Int.{w8, w16, w64}
use Rattle.wire_base.specs.Reading.{Reads, ◌>>=◌, offset, made, pair_in, number_in, text_in}
use Rattle.wire_base.specs.declared.scan.At.{At}
use Rattle.tables_091.specs.Reading.{table_in}
use Rattle.content_091.specs.Rows.{PropertyKind, Row, rows}
use Rattle.content_091.specs.Rows as kind
use Rattle.content_091.specs.Properties.{Property, Properties, Parts}
use Rattle.content_091.specs.Properties as property
use Rattle.content_091.specs.Grammar.{bit_at, Head, basic}
use Rattle.content_091.specs.View.{parts_of}
use Rattle.content_091.specs.declared.header.Header91.{Header91}
use Rattle.content_091.specs.declared.reading.HeaderFault.{HeaderFault}
use Rattle.content_091.specs.declared.reading.HeaderFault.TheVariants as fault

-- a property of each kind
abbrev pub property_in : PropertyKind → ℕ → List ℕ → Reads Property ℕ
property_in kind.octet end bytes = made property.octet (number_in offset w8 end bytes)
property_in kind.longlong end bytes = made property.longlong (number_in offset w64 end bytes)
property_in kind.shortstr end bytes = made property.shortstr (text_in offset w8 end bytes)
property_in kind.fields end bytes = made property.fields (table_in end bytes)

-- a property that is there, or isn't
abbrev pub maybe_in : Bool → PropertyKind → ℕ → List ℕ → Reads (Option Property) ℕ
maybe_in true k end bytes = made Some (property_in k end bytes)
maybe_in false k end bytes = Ok (None, bytes)

-- the properties of these rows, one after another, by the flags
abbrev pub props_in : ℕ → List Row → ℕ → List ℕ → Reads Properties ℕ
props_in flags [] end bytes = Ok ([], bytes)
props_in flags (row ∷ others) end bytes =
    made (λ p. p.0 ∷ p.1)
    (pair_in (maybe_in (bit_at row.0 flags) row.1) (props_in flags others) end bytes)

-- class, weight, size of the body and flags; where they aren't all there, the fault at the end of
-- the bytes
abbrev pub numbers_in : ℕ → List ℕ → Reads Head ℕ
numbers_in =
    pair_in (pair_in (pair_in (number_in offset w16) (number_in offset w16)) (number_in offset w64))
    (number_in offset w16)

abbrev pub head_in : List ℕ → Reads Head ℕ
head_in bytes =
    if nat_lt (length bytes) 14 then Err (length bytes) else numbers_in (length bytes) bytes

-- the fault of a head
abbrev pub head_fault : Head → Option (At HeaderFault)
head_fault head =
    if head.0.0.0 == basic then
    (if head.0.0.1 == 0 then
    (if (head.1 % 4) == 0 then None else Some (record { fault = fault.Flags; at = 12 }))
    else Some (record { fault = fault.Class; at = 2 }))
    else Some (record { fault = fault.Class; at = 0 })

-- nothing is left; else the fault at the first byte that is left
abbrev pub nothing_in : ℕ → List ℕ → Reads (Unit {0}) ℕ
nothing_in end bytes = if length bytes == 0 then Ok (tt, bytes) else Err (end - length bytes)

-- properties behind which nothing is left
abbrev pub all_in : ℕ → ℕ → List ℕ → Reads (Properties × Unit {0}) ℕ
all_in flags = pair_in (props_in flags rows) nothing_in

-- what stands behind a head, where the head has no fault
abbrev pub behind_in : Option (At HeaderFault) → Head → ℕ → List ℕ
    → Result (Result Parts (At HeaderFault)) ℕ
behind_in (Some e) head end bytes = Ok (Err e)
behind_in None head end bytes = do
  x ← all_in head.1 end bytes
  Ok (Ok (head.0.1, x.0.0))

-- the header; Err in Ok where the head has a fault
abbrev pub payload_in : List ℕ → Result (Result Parts (At HeaderFault)) ℕ
payload_in bytes = do
  head ← head_in bytes
  behind_in (head_fault head.0) head.0 (length bytes) head.1

-- the fault that is told: that of the head, and anything else at its place
abbrev pub told : {A : Type 0} → Result (Result A (At HeaderFault)) ℕ → Result A (At HeaderFault)
told (Ok read) = read
told (Err at) = Err (record { fault = fault.Syntax; at = at })

-- the size and the properties of the header that fills these bytes, or the first fault
abbrev pub header_in : List ℕ → Result Parts (At HeaderFault)
header_in bytes = told (payload_in bytes)

-- a header that was read, as its parts
abbrev pub seen : Result Header91 (At HeaderFault) → Result Parts (At HeaderFault)
seen (Ok h) = Ok (parts_of h)
seen (Err e) = Err e
