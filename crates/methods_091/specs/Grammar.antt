-- How methods are spelled (AMQP 0-9-1 2.3.5.2 and 4.2.5): a relation between a method and the bytes
-- that spell it, all of the bytes. What stands in a reserved argument is free, and so are the bits
-- of an octet that no flag uses.
use Rattle.std.specs.Prelude.{◌≡◌, ℕ, zero, suc, ◌+◌, ◌/◌, ◌%◌, ◌^◌, ◌==◌, Bool, List, [], ◌∷◌}
use Rattle.std.specs.Prelude.{◌++◌}
use Rattle.std.specs.Int.{w8, w16, w32, w64, to_be_bytes}
use Rattle.wire_base.specs.Spelling.{IsNumber, IsText, IsMade, IsPair}
use Rattle.tables_091.specs.Grammar.{IsTable}
use Rattle.methods_091.specs.Rows.{ArgKind, class_of, id_of, shape}
use Rattle.methods_091.specs.Rows as kind
use Rattle.methods_091.specs.Arguments.{Arg}
use Rattle.methods_091.specs.Arguments as arg
use Rattle.methods_091.specs.View.{parts_of}
use Rattle.methods_091.specs.declared.method.Method91.{Method91}
use Rattle.methods_091.specs.declared.kind.MethodKind.{MethodKind}

-- whether a bit is set; the lowest has the place 0
abbrev pub bit_at : ℕ → ℕ → Bool
bit_at place n = (n / 2 ^ place % 2) == 1

-- so many bits of an octet from a place on, the lower ones first
abbrev pub bits_from : ℕ → ℕ → ℕ → List Bool
bits_from place zero n = []
bits_from place (suc count) n = bit_at place n ∷ bits_from (place + 1) count n

-- an argument of each kind; the first of the flags is the lowest bit
abbrev pub IsArg : ArgKind → Arg → List ℕ → Type 0
IsArg kind.octet = IsMade arg.octet (IsNumber w8)
IsArg kind.short = IsMade arg.short (IsNumber w16)
IsArg kind.long = IsMade arg.long (IsNumber w32)
IsArg kind.longlong = IsMade arg.longlong (IsNumber w64)
IsArg kind.shortstr = IsMade arg.shortstr (IsText w8)
IsArg kind.longstr = IsMade arg.longstr (IsText w32)
IsArg kind.fields = IsMade arg.fields IsTable
IsArg (kind.bits count) = IsMade (λ n. arg.bits (bits_from 0 count n)) (IsNumber w8)
IsArg (kind.reserved k) = IsMade (λ x. arg.reserved k) (IsArg k)

-- arguments of these kinds, one after another
abbrev pub IsArgs : List ArgKind → List Arg → List ℕ → Type 0
IsArgs [] = λ xs text. (xs ≡ []) × (text ≡ [])
IsArgs (k ∷ ks) = IsMade (λ p. p.0 ∷ p.1) (IsPair (IsArg k) (IsArgs ks))

-- the class id and the method id, in two bytes each
abbrev pub ids_text : MethodKind → List ℕ
ids_text k = to_be_bytes w16 (class_of k) ++ to_be_bytes w16 (id_of k)

-- both ids of a kind, and its arguments
abbrev pub IsPayload : MethodKind × List Arg → List ℕ → Type 0
IsPayload p bytes =
    (arguments : List ℕ) × IsArgs (shape p.0) p.1 arguments × (bytes ≡ ids_text p.0 ++ arguments)

-- the ids of the method, and its arguments
abbrev pub IsMethod : Method91 → List ℕ → Type 0
IsMethod m = IsPayload (parts_of m)
