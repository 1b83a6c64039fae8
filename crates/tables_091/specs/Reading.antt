-- Reading a table from left to right, with the offset of the first fault that is met: a type byte
-- that is unknown or passes the depth, a length that passes what holds it, or a value that is cut
-- off (AMQP 0-9-1 4.2.5.5).
use Rattle.std.specs.Prelude.{ℕ, zero, suc, ◌-◌, List, length, drop, Option, Some, None, Ok, Err}
use Rattle.std.specs.Prelude.{Result}
use Rattle.std.specs.Int.{w8, w32}
use Rattle.wire_base.specs.declared.scan.At.{At}
use Rattle.wire_base.specs.Reading.{Reads, ◌>>=◌, offset, made, pair_in, number_in, text_in}
use Rattle.wire_base.specs.Reading.{whole_in, container_in}
use Rattle.tables_091.specs.Tree.{Scalar, decimal, void, Tree, scalar, array, table, trees_of}
use Rattle.tables_091.specs.Tree.{members_of}
use Rattle.tables_091.specs.Kinds.{kind_of, octet_scalar, wide_width, wide_scalar, text_scalar}
use Rattle.tables_091.specs.declared.reading.Syntax.{Syntax}
use Rattle.tables_091.specs.declared.kind.Kind.{Kind}
use Rattle.tables_091.specs.declared.kind.Kind.TheVariants as kind
use Rattle.tables_091.specs.declared.kind.Octet.{Octet}
use Rattle.tables_091.specs.declared.kind.Wide.{Wide}
use Rattle.tables_091.specs.declared.kind.Text.{Text}
use Rattle.tables_091.specs.declared.kind.Single.{Single}
use Rattle.tables_091.specs.declared.kind.Single.TheVariants as single

-- a number of one byte, a wider number, bytes behind a length of four bytes, and a decimal: a scale
-- and a number of four bytes
abbrev pub octet_in : Octet → ℕ → List ℕ → Reads Scalar ℕ
octet_in k end bytes = made (octet_scalar k) (number_in offset w8 end bytes)

abbrev pub wide_in : Wide → ℕ → List ℕ → Reads Scalar ℕ
wide_in k end bytes = made (wide_scalar k) (number_in offset (wide_width k) end bytes)

abbrev pub bytes_in : Text → ℕ → List ℕ → Reads Scalar ℕ
bytes_in k end bytes = made (text_scalar k) (text_in offset w32 end bytes)

abbrev pub decimal_in : ℕ → List ℕ → Reads Scalar ℕ
decimal_in end bytes =
    made (λ p. decimal p.0 p.1) (whole_in offset 5 (pair_in (number_in offset w8)
    (number_in offset w32)) end bytes)

-- the value of a field that holds no other
abbrev pub single_in : Single → ℕ → List ℕ → Reads Scalar ℕ
single_in (single.Octet k) end bytes = octet_in k end bytes
single_in (single.Wide k) end bytes = wide_in k end bytes
single_in (single.Text k) end bytes = bytes_in k end bytes
single_in single.Decimal end bytes = decimal_in end bytes
single_in single.Void end bytes = Ok (void, bytes)

-- an entry of a table: a name behind its length, and a field
abbrev pub member_in : (ℕ → List ℕ → Reads Tree ℕ) → ℕ → List ℕ → Reads (List ℕ × Tree) ℕ
member_in read = pair_in (text_in offset w8) read

-- the value of a field that may hold no other, whose type byte stands at this offset
abbrev pub flat_in : Kind → ℕ → ℕ → List ℕ → Reads Tree ℕ
flat_in (kind.Single k) at end bytes = made scalar (single_in k end bytes)
flat_in kind.Array at end bytes = Err at
flat_in kind.Table at end bytes = Err at

-- the value of a field that may hold what this reader reads
abbrev pub deep_in : (ℕ → List ℕ → Reads Tree ℕ) → Kind → ℕ → List ℕ → Reads Tree ℕ
deep_in read (kind.Single k) end bytes = made scalar (single_in k end bytes)
deep_in read kind.Array end bytes =
    made (λ ts. array (trees_of ts)) (container_in offset w32 read end bytes)
deep_in read kind.Table end bytes =
    made (λ ms. table (members_of ms)) (container_in offset w32 (member_in read) end bytes)

-- the value that a type byte announces; where it announces none, the fault at the type byte
abbrev pub kinded_in : (Kind → ℕ → ℕ → List ℕ → Reads Tree ℕ) → Option Kind → ℕ → ℕ → List ℕ
    → Reads Tree ℕ
kinded_in value None at end bytes = Err at
kinded_in value (Some k) at end bytes = value k at end bytes

-- a type byte, and the value that it announces
abbrev pub typed_in : (Kind → ℕ → ℕ → List ℕ → Reads Tree ℕ) → ℕ → List ℕ → Reads Tree ℕ
typed_in value end bytes = do
  b ← number_in offset w8 end bytes
  kinded_in value (kind_of b.0) (end - length bytes) end b.1

-- a field of at most this depth
unfoldable pub field_in : ℕ → ℕ → List ℕ → Reads Tree ℕ
field_in zero = typed_in flat_in
field_in (suc depth) = typed_in (λ k at. deep_in (field_in depth) k)

-- a table: its fields have at most depth 15, so that its own is at most 16
abbrev pub table_in : ℕ → List ℕ → Reads (List (List ℕ × Tree)) ℕ
table_in end bytes = container_in offset w32 (member_in (field_in 15)) end bytes

-- the table that stands at this offset, and the offset after it
abbrev pub table_at : List ℕ → ℕ → Result (List (List ℕ × Tree) × ℕ) ℕ
table_at bytes at = do
  x ← table_in (length bytes) (drop at bytes)
  Ok (x.0, length bytes - length x.1)

-- what was answered of a table, as reading gives it: a fault is its offset
abbrev pub seen : {A : Type 0} → Result A (At Syntax) → Result A ℕ
seen (Ok x) = Ok x
seen (Err e) = Err e.at
