-- The kinds of fields: the byte that stands before the value of each (AMQP 0-9-1 4.2.5.5), and what
-- its numbers and texts mean.
use Rattle.std.specs.Prelude.{ℕ, not, List, Option, Some, None, ◌==◌, if◌then◌else◌}
use Rattle.std.specs.Int.{Width, w8, w16, w32, w64, cast_signed}
use Rattle.tables_091.specs.Tree.{Scalar, boolean, int8, uint8, int16, uint16, int32, uint32, int64}
use Rattle.tables_091.specs.Tree.{float32, float64, longstr, timestamp, blob}
use Rattle.tables_091.specs.declared.kind.Kind.{Kind}
use Rattle.tables_091.specs.declared.kind.Kind.TheVariants as kind
use Rattle.tables_091.specs.declared.kind.Single.TheVariants as single
use Rattle.tables_091.specs.declared.kind.Octet.{Octet}
use Rattle.tables_091.specs.declared.kind.Octet.TheVariants as octet
use Rattle.tables_091.specs.declared.kind.Wide.{Wide}
use Rattle.tables_091.specs.declared.kind.Wide.TheVariants as wide
use Rattle.tables_091.specs.declared.kind.Text.{Text}
use Rattle.tables_091.specs.declared.kind.Text.TheVariants as text

-- the byte of each kind
abbrev pub kind_byte : Kind → ℕ
kind_byte (kind.Single (single.Octet octet.Bool)) = 116
kind_byte (kind.Single (single.Octet octet.I8)) = 98
kind_byte (kind.Single (single.Octet octet.U8)) = 66
kind_byte (kind.Single (single.Wide wide.I16)) = 115
kind_byte (kind.Single (single.Wide wide.U16)) = 117
kind_byte (kind.Single (single.Wide wide.I32)) = 73
kind_byte (kind.Single (single.Wide wide.U32)) = 105
kind_byte (kind.Single (single.Wide wide.I64)) = 108
kind_byte (kind.Single (single.Wide wide.F32)) = 102
kind_byte (kind.Single (single.Wide wide.F64)) = 100
kind_byte (kind.Single (single.Wide wide.Time)) = 84
kind_byte (kind.Single (single.Text text.Long)) = 83
kind_byte (kind.Single (single.Text text.Bytes)) = 120
kind_byte (kind.Single single.Decimal) = 68
kind_byte (kind.Single single.Void) = 86
kind_byte kind.Array = 65
kind_byte kind.Table = 70

-- the kind of each byte
abbrev pub kind_of : ℕ → Option Kind
kind_of b =
    if b == 116 then Some (kind.Single (single.Octet octet.Bool))
    else if b == 98 then Some (kind.Single (single.Octet octet.I8))
    else if b == 66 then Some (kind.Single (single.Octet octet.U8))
    else if b == 115 then Some (kind.Single (single.Wide wide.I16))
    else if b == 117 then Some (kind.Single (single.Wide wide.U16))
    else if b == 73 then Some (kind.Single (single.Wide wide.I32))
    else if b == 105 then Some (kind.Single (single.Wide wide.U32))
    else if b == 108 then Some (kind.Single (single.Wide wide.I64))
    else if b == 102 then Some (kind.Single (single.Wide wide.F32))
    else if b == 100 then Some (kind.Single (single.Wide wide.F64))
    else if b == 84 then Some (kind.Single (single.Wide wide.Time))
    else if b == 83 then Some (kind.Single (single.Text text.Long))
    else if b == 120 then Some (kind.Single (single.Text text.Bytes))
    else if b == 68 then Some (kind.Single single.Decimal)
    else if b == 86 then Some (kind.Single single.Void)
    else if b == 65 then Some kind.Array
    else if b == 70 then Some kind.Table
    else None

-- what an octet means: 0 is false and each other octet true; a signed one is in two's complement
abbrev pub octet_scalar : Octet → ℕ → Scalar
octet_scalar octet.Bool n = boolean (not (n == 0))
octet_scalar octet.I8 n = int8 (cast_signed w8 n)
octet_scalar octet.U8 n = uint8 n

-- how wide a number is
abbrev pub wide_width : Wide → Width
wide_width wide.I16 = w16
wide_width wide.U16 = w16
wide_width wide.I32 = w32
wide_width wide.U32 = w32
wide_width wide.I64 = w64
wide_width wide.F32 = w32
wide_width wide.F64 = w64
wide_width wide.Time = w64

-- what the number means: a signed one is in two's complement, a float is the pattern of its bits
abbrev pub wide_scalar : Wide → ℕ → Scalar
wide_scalar wide.I16 n = int16 (cast_signed w16 n)
wide_scalar wide.U16 n = uint16 n
wide_scalar wide.I32 n = int32 (cast_signed w32 n)
wide_scalar wide.U32 n = uint32 n
wide_scalar wide.I64 n = int64 (cast_signed w64 n)
wide_scalar wide.F32 n = float32 n
wide_scalar wide.F64 n = float64 n
wide_scalar wide.Time n = timestamp n

-- what the bytes behind a length mean
abbrev pub text_scalar : Text → List ℕ → Scalar
text_scalar text.Long s = longstr s
text_scalar text.Bytes s = blob s
