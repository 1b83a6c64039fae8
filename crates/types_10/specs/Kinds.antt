-- The kinds of values: the format code that stands before the content of each (AMQP 1.0 1.6), and
-- what numbers and texts mean.
use Rattle.std.specs.Prelude.{ℕ, Bool, true, false, List, Option, Some, None, ◌==◌, ◌&&◌, ◌||◌}
use Rattle.std.specs.Prelude.{nat_lt, nat_le, if◌then◌else◌}
use Rattle.std.specs.Int.{Width, w8, w16, w32, w64, cast_signed}
use Rattle.std.specs.Char.{is_ascii}
use Rattle.std.specs.Str.{is_utf8}
use Rattle.std.specs.List.{list_all}
use Rattle.types_10.specs.Tree.{Scalar, null, boolean, ubyte, byte, ushort, short, uint, int, ulong}
use Rattle.types_10.specs.Tree.{long, float, double, decimal32, decimal64, decimal128, timestamp}
use Rattle.types_10.specs.Tree.{uuid, binary, string, symbol}
use Rattle.types_10.specs.declared.kind.Kind.{Kind}
use Rattle.types_10.specs.declared.kind.Kind.TheVariants as kind
use Rattle.types_10.specs.declared.kind.Single.TheVariants as single
use Rattle.types_10.specs.declared.kind.Bare.{Bare}
use Rattle.types_10.specs.declared.kind.Bare.TheVariants as bare
use Rattle.types_10.specs.declared.kind.Octet.{Octet}
use Rattle.types_10.specs.declared.kind.Octet.TheVariants as octet
use Rattle.types_10.specs.declared.kind.Wide.{Wide}
use Rattle.types_10.specs.declared.kind.Wide.TheVariants as wide
use Rattle.types_10.specs.declared.kind.Sixteen.{Sixteen}
use Rattle.types_10.specs.declared.kind.Sixteen.TheVariants as sixteen
use Rattle.types_10.specs.declared.kind.Text.{Text}
use Rattle.types_10.specs.declared.kind.Text.TheVariants as text
use Rattle.types_10.specs.declared.kind.Size.{Size}
use Rattle.types_10.specs.declared.kind.Size.TheVariants as size

-- the code of each kind
abbrev pub kind_byte : Kind → ℕ
kind_byte kind.Described = 0
kind_byte (kind.Single (single.Bare bare.Null)) = 64
kind_byte (kind.Single (single.Bare bare.True)) = 65
kind_byte (kind.Single (single.Bare bare.False)) = 66
kind_byte (kind.Single (single.Bare bare.Uint)) = 67
kind_byte (kind.Single (single.Bare bare.Ulong)) = 68
kind_byte kind.EmptyList = 69
kind_byte (kind.Single (single.Octet octet.Ubyte)) = 80
kind_byte (kind.Single (single.Octet octet.Byte)) = 81
kind_byte (kind.Single (single.Octet octet.Uint)) = 82
kind_byte (kind.Single (single.Octet octet.Ulong)) = 83
kind_byte (kind.Single (single.Octet octet.Int)) = 84
kind_byte (kind.Single (single.Octet octet.Long)) = 85
kind_byte (kind.Single single.Boolean) = 86
kind_byte (kind.Single (single.Wide wide.Ushort)) = 96
kind_byte (kind.Single (single.Wide wide.Short)) = 97
kind_byte (kind.Single (single.Wide wide.Uint)) = 112
kind_byte (kind.Single (single.Wide wide.Int)) = 113
kind_byte (kind.Single (single.Wide wide.Float)) = 114
kind_byte (kind.Single single.Char) = 115
kind_byte (kind.Single (single.Wide wide.Decimal32)) = 116
kind_byte (kind.Single (single.Wide wide.Ulong)) = 128
kind_byte (kind.Single (single.Wide wide.Long)) = 129
kind_byte (kind.Single (single.Wide wide.Double)) = 130
kind_byte (kind.Single (single.Wide wide.Timestamp)) = 131
kind_byte (kind.Single (single.Wide wide.Decimal64)) = 132
kind_byte (kind.Single (single.Sixteen sixteen.Decimal128)) = 148
kind_byte (kind.Single (single.Sixteen sixteen.Uuid)) = 152
kind_byte (kind.Single (single.Text text.Binary size.Short)) = 160
kind_byte (kind.Single (single.Text text.String size.Short)) = 161
kind_byte (kind.Single (single.Text text.Symbol size.Short)) = 163
kind_byte (kind.Single (single.Text text.Binary size.Long)) = 176
kind_byte (kind.Single (single.Text text.String size.Long)) = 177
kind_byte (kind.Single (single.Text text.Symbol size.Long)) = 179
kind_byte (kind.List size.Short) = 192
kind_byte (kind.Map size.Short) = 193
kind_byte (kind.List size.Long) = 208
kind_byte (kind.Map size.Long) = 209
kind_byte (kind.Array size.Short) = 224
kind_byte (kind.Array size.Long) = 240

-- the kind of each code
abbrev pub kind_of : ℕ → Option Kind
kind_of b =
    if b == 0 then Some kind.Described
    else if b == 64 then Some (kind.Single (single.Bare bare.Null))
    else if b == 65 then Some (kind.Single (single.Bare bare.True))
    else if b == 66 then Some (kind.Single (single.Bare bare.False))
    else if b == 67 then Some (kind.Single (single.Bare bare.Uint))
    else if b == 68 then Some (kind.Single (single.Bare bare.Ulong))
    else if b == 69 then Some kind.EmptyList
    else if b == 80 then Some (kind.Single (single.Octet octet.Ubyte))
    else if b == 81 then Some (kind.Single (single.Octet octet.Byte))
    else if b == 82 then Some (kind.Single (single.Octet octet.Uint))
    else if b == 83 then Some (kind.Single (single.Octet octet.Ulong))
    else if b == 84 then Some (kind.Single (single.Octet octet.Int))
    else if b == 85 then Some (kind.Single (single.Octet octet.Long))
    else if b == 86 then Some (kind.Single single.Boolean)
    else if b == 96 then Some (kind.Single (single.Wide wide.Ushort))
    else if b == 97 then Some (kind.Single (single.Wide wide.Short))
    else if b == 112 then Some (kind.Single (single.Wide wide.Uint))
    else if b == 113 then Some (kind.Single (single.Wide wide.Int))
    else if b == 114 then Some (kind.Single (single.Wide wide.Float))
    else if b == 115 then Some (kind.Single single.Char)
    else if b == 116 then Some (kind.Single (single.Wide wide.Decimal32))
    else if b == 128 then Some (kind.Single (single.Wide wide.Ulong))
    else if b == 129 then Some (kind.Single (single.Wide wide.Long))
    else if b == 130 then Some (kind.Single (single.Wide wide.Double))
    else if b == 131 then Some (kind.Single (single.Wide wide.Timestamp))
    else if b == 132 then Some (kind.Single (single.Wide wide.Decimal64))
    else if b == 148 then Some (kind.Single (single.Sixteen sixteen.Decimal128))
    else if b == 152 then Some (kind.Single (single.Sixteen sixteen.Uuid))
    else if b == 160 then Some (kind.Single (single.Text text.Binary size.Short))
    else if b == 161 then Some (kind.Single (single.Text text.String size.Short))
    else if b == 163 then Some (kind.Single (single.Text text.Symbol size.Short))
    else if b == 176 then Some (kind.Single (single.Text text.Binary size.Long))
    else if b == 177 then Some (kind.Single (single.Text text.String size.Long))
    else if b == 179 then Some (kind.Single (single.Text text.Symbol size.Long))
    else if b == 192 then Some (kind.List size.Short)
    else if b == 193 then Some (kind.Map size.Short)
    else if b == 208 then Some (kind.List size.Long)
    else if b == 209 then Some (kind.Map size.Long)
    else if b == 224 then Some (kind.Array size.Short)
    else if b == 240 then Some (kind.Array size.Long)
    else None

-- a kind whose values have no content
abbrev pub is_bare : Kind → Bool
is_bare (kind.Single (single.Bare k)) = true
is_bare (kind.Single single.Boolean) = false
is_bare (kind.Single (single.Octet k)) = false
is_bare (kind.Single (single.Wide k)) = false
is_bare (kind.Single single.Char) = false
is_bare (kind.Single (single.Sixteen k)) = false
is_bare (kind.Single (single.Text k s)) = false
is_bare kind.EmptyList = true
is_bare (kind.List s) = false
is_bare (kind.Map s) = false
is_bare (kind.Array s) = false
is_bare kind.Described = false

-- whether a descriptor stands behind the code
abbrev pub is_described : Kind → Bool
is_described (kind.Single k) = false
is_described kind.EmptyList = false
is_described (kind.List s) = false
is_described (kind.Map s) = false
is_described (kind.Array s) = false
is_described kind.Described = true

-- what a code without content means
abbrev pub bare_scalar : Bare → Scalar
bare_scalar bare.Null = null
bare_scalar bare.True = boolean true
bare_scalar bare.False = boolean false
bare_scalar bare.Uint = uint 0
bare_scalar bare.Ulong = ulong 0

-- what a number of one byte means: a signed one is in two's complement
abbrev pub octet_scalar : Octet → ℕ → Scalar
octet_scalar octet.Ubyte n = ubyte n
octet_scalar octet.Byte n = byte (cast_signed w8 n)
octet_scalar octet.Uint n = uint n
octet_scalar octet.Int n = int (cast_signed w8 n)
octet_scalar octet.Ulong n = ulong n
octet_scalar octet.Long n = long (cast_signed w8 n)

-- how wide a number of more bytes is
abbrev pub wide_width : Wide → Width
wide_width wide.Ushort = w16
wide_width wide.Short = w16
wide_width wide.Uint = w32
wide_width wide.Int = w32
wide_width wide.Float = w32
wide_width wide.Decimal32 = w32
wide_width wide.Ulong = w64
wide_width wide.Long = w64
wide_width wide.Double = w64
wide_width wide.Timestamp = w64
wide_width wide.Decimal64 = w64

-- what such a number means: a signed one is in two's complement, a floating one is the pattern of
-- its bits
abbrev pub wide_scalar : Wide → ℕ → Scalar
wide_scalar wide.Ushort n = ushort n
wide_scalar wide.Short n = short (cast_signed w16 n)
wide_scalar wide.Uint n = uint n
wide_scalar wide.Int n = int (cast_signed w32 n)
wide_scalar wide.Float n = float n
wide_scalar wide.Decimal32 n = decimal32 n
wide_scalar wide.Ulong n = ulong n
wide_scalar wide.Long n = long (cast_signed w64 n)
wide_scalar wide.Double n = double n
wide_scalar wide.Timestamp n = timestamp (cast_signed w64 n)
wide_scalar wide.Decimal64 n = decimal64 n

-- what sixteen bytes mean
abbrev pub sixteen_scalar : Sixteen → List ℕ → Scalar
sixteen_scalar sixteen.Decimal128 s = decimal128 s
sixteen_scalar sixteen.Uuid s = uuid s

-- what the bytes behind a length mean
abbrev pub text_scalar : Text → List ℕ → Scalar
text_scalar text.Binary s = binary s
text_scalar text.String s = string s
text_scalar text.Symbol s = symbol s

-- which bytes are such a text: a string is UTF-8, and a symbol ASCII
abbrev pub is_text : Text → List ℕ → Bool
is_text text.Binary s = true
is_text text.String s = is_utf8 s
is_text text.Symbol s = list_all is_ascii s

-- the number of a Unicode character: at most 10FFFF, and none of the surrogates D800 to DFFF
abbrev pub is_character : ℕ → Bool
is_character n = nat_lt n 55296 || (nat_le 57344 n && nat_lt n 1114112)

-- how wide a length is, and how wide a size and a count are
abbrev pub size_width : Size → Width
size_width size.Short = w8
size_width size.Long = w32
