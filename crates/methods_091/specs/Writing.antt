-- The one spelling of a method that is written (AMQP 0-9-1 2.3.5.2 and 4.2.5), and which methods
-- have one.
use Rattle.std.specs.Prelude.{ℕ, ◌+◌, ◌*◌, ◌<◌, ◌≤◌, ◌^◌, Bool, if◌then◌else◌, List, [], ◌∷◌, ◌++◌}
use Rattle.std.specs.Prelude.{length}
use Rattle.std.specs.Int.{w8, w16, w32, w64, to_be_bytes}
use Rattle.wire_base.specs.Spelling.{text_of}
use Rattle.tables_091.specs.Writing.{table_text, HasSpelling}
use Rattle.tables_091.specs.Ranges.{AreRanged}
use Rattle.methods_091.specs.Rows.{ArgKind}
use Rattle.methods_091.specs.Rows as kind
use Rattle.methods_091.specs.Arguments.{Arg}
use Rattle.methods_091.specs.Arguments as arg
use Rattle.methods_091.specs.Grammar.{ids_text}
use Rattle.methods_091.specs.View.{kind_of, args_of}
use Rattle.methods_091.specs.declared.method.Method91.{Method91}

-- the octet with these flags, the first in the lowest bit; its other bits are 0
unfoldable pub octet_of : List Bool → ℕ
octet_of [] = 0
octet_of (b ∷ bs) = (if b then 1 else 0) + 2 * octet_of bs

-- a reserved argument is zero or empty
abbrev pub blank : ArgKind → List ℕ
blank kind.octet = to_be_bytes w8 0
blank kind.short = to_be_bytes w16 0
blank kind.long = to_be_bytes w32 0
blank kind.longlong = to_be_bytes w64 0
blank kind.shortstr = text_of w8 []
blank kind.longstr = text_of w32 []
blank kind.fields = table_text []
blank (kind.bits count) = to_be_bytes w8 0
blank (kind.reserved k) = blank k

-- an argument: a number most significant byte first, a text behind its length, a table, or flags in
-- an octet
abbrev pub arg_text : Arg → List ℕ
arg_text (arg.octet n) = to_be_bytes w8 n
arg_text (arg.short n) = to_be_bytes w16 n
arg_text (arg.long n) = to_be_bytes w32 n
arg_text (arg.longlong n) = to_be_bytes w64 n
arg_text (arg.shortstr s) = text_of w8 s
arg_text (arg.longstr s) = text_of w32 s
arg_text (arg.fields ms) = table_text ms
arg_text (arg.bits bs) = to_be_bytes w8 (octet_of bs)
arg_text (arg.reserved k) = blank k

-- arguments, one after another
abbrev pub args_text : List Arg → List ℕ
args_text [] = []
args_text (x ∷ xs) = arg_text x ++ args_text xs

-- both ids, and the arguments
abbrev pub method_text : Method91 → List ℕ
method_text m = ids_text (kind_of m) ++ args_text (args_of m)

-- short strings have at most 255 bytes, long strings fewer than 2^32, and tables have a spelling
abbrev pub CanPutAll : List Arg → Type 0
CanPutAll [] = Unit {0}
CanPutAll (arg.octet n ∷ xs) = CanPutAll xs
CanPutAll (arg.short n ∷ xs) = CanPutAll xs
CanPutAll (arg.long n ∷ xs) = CanPutAll xs
CanPutAll (arg.longlong n ∷ xs) = CanPutAll xs
CanPutAll (arg.shortstr s ∷ xs) = (length s ≤ 255) × CanPutAll xs
CanPutAll (arg.longstr s ∷ xs) = (length s < 2 ^ 32) × CanPutAll xs
CanPutAll (arg.fields ms ∷ xs) = HasSpelling ms × CanPutAll xs
CanPutAll (arg.bits bs ∷ xs) = CanPutAll xs
CanPutAll (arg.reserved k ∷ xs) = CanPutAll xs

-- a method whose arguments have a spelling
abbrev pub CanPut : Method91 → Type 0
CanPut m = CanPutAll (args_of m)

-- a number is of its type, also inside a table, and flags fit an octet
abbrev pub IsInRange : Arg → Type 0
IsInRange (arg.octet n) = n < 2 ^ 8
IsInRange (arg.short n) = n < 2 ^ 16
IsInRange (arg.long n) = n < 2 ^ 32
IsInRange (arg.longlong n) = n < 2 ^ 64
IsInRange (arg.shortstr s) = Unit {0}
IsInRange (arg.longstr s) = Unit {0}
IsInRange (arg.fields ms) = AreRanged ms
IsInRange (arg.bits bs) = length bs ≤ 8
IsInRange (arg.reserved k) = Unit {0}

-- the same of each argument
abbrev pub AreInRange : List Arg → Type 0
AreInRange [] = Unit {0}
AreInRange (x ∷ xs) = IsInRange x × AreInRange xs

-- what is true of each value of the type: its numbers are of their types
abbrev pub HasRanges : Method91 → Type 0
HasRanges m = AreInRange (args_of m)
