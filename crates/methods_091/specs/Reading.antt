-- Reading a method from left to right, with the first fault that is met (AMQP 0-9-1 2.3.5.2 and
-- 4.2.5).
use Rattle.std.specs.Prelude.{ℕ, ◌-◌, List, [], ◌∷◌, length, Option, Some, None, Ok, Err, Result}
use Rattle.std.specs.Prelude.{nat_lt, if◌then◌else◌}
use Rattle.std.specs.Int.{w8, w16, w32, w64}
use Rattle.wire_base.specs.Reading.{Reads, ◌>>=◌, offset, made, pair_in, number_in, text_in}
use Rattle.wire_base.specs.declared.scan.At.{At}
use Rattle.tables_091.specs.Reading.{table_in}
use Rattle.methods_091.specs.Rows.{ArgKind, shape, kind_with}
use Rattle.methods_091.specs.Rows as kind
use Rattle.methods_091.specs.Arguments.{Arg}
use Rattle.methods_091.specs.Arguments as arg
use Rattle.methods_091.specs.Grammar.{bits_from}
use Rattle.methods_091.specs.View.{parts_of}
use Rattle.methods_091.specs.declared.method.Method91.{Method91}
use Rattle.methods_091.specs.declared.kind.MethodKind.{MethodKind}
use Rattle.methods_091.specs.declared.reading.MethodFault.{MethodFault}
use Rattle.methods_091.specs.declared.reading.MethodFault.TheVariants.{UnknownMethod, Syntax}

-- an argument of each kind
abbrev pub arg_in : ArgKind → ℕ → List ℕ → Reads Arg ℕ
arg_in kind.octet end bytes = made arg.octet (number_in offset w8 end bytes)
arg_in kind.short end bytes = made arg.short (number_in offset w16 end bytes)
arg_in kind.long end bytes = made arg.long (number_in offset w32 end bytes)
arg_in kind.longlong end bytes = made arg.longlong (number_in offset w64 end bytes)
arg_in kind.shortstr end bytes = made arg.shortstr (text_in offset w8 end bytes)
arg_in kind.longstr end bytes = made arg.longstr (text_in offset w32 end bytes)
arg_in kind.fields end bytes = made arg.fields (table_in end bytes)
arg_in (kind.bits count) end bytes =
    made (λ n. arg.bits (bits_from 0 count n)) (number_in offset w8 end bytes)
arg_in (kind.reserved k) end bytes = made (λ x. arg.reserved k) (arg_in k end bytes)

-- arguments of these kinds, one after another
abbrev pub args_in : List ArgKind → ℕ → List ℕ → Reads (List Arg) ℕ
args_in [] end bytes = Ok ([], bytes)
args_in (k ∷ ks) end bytes = made (λ p. p.0 ∷ p.1) (pair_in (arg_in k) (args_in ks) end bytes)

-- the arguments of a method of this kind, beside the kind
abbrev pub row_in : MethodKind → ℕ → List ℕ → Reads (MethodKind × List Arg) ℕ
row_in k end bytes = made (λ args. (k, args)) (args_in (shape k) end bytes)

-- a value behind which nothing is left; else the fault at the first byte that is left
abbrev pub whole : {A : Type 0} → ℕ → A × List ℕ → Result A ℕ
whole end (x, []) = Ok x
whole end (x, b ∷ rest) = Err (end - length (b ∷ rest))

-- what stands behind the ids, where they are those of a method
abbrev pub known_in : Option MethodKind → ℕ → List ℕ → Result (Option (MethodKind × List Arg)) ℕ
known_in None end bytes = Ok None
known_in (Some k) end bytes = do
  x ← row_in k end bytes
  parts ← whole end x
  Ok (Some parts)

-- the class id and the method id; where they aren't both there, the fault at the end of the bytes
abbrev pub ids_in : List ℕ → Reads (ℕ × ℕ) ℕ
ids_in bytes =
    if nat_lt (length bytes) 4 then Err (length bytes)
    else pair_in (number_in offset w16) (number_in offset w16) (length bytes) bytes

-- the kind and the arguments of the method; None where the ids are those of no method
abbrev pub payload_in : List ℕ → Result (Option (MethodKind × List Arg)) ℕ
payload_in bytes = do
  ids ← ids_in bytes
  known_in (kind_with ids.0.0 ids.0.1) (length bytes) ids.1

-- the fault that is told: an unknown method at 0, and anything else at its place
abbrev pub told : {A : Type 0} → Result (Option A) ℕ → Result A (At MethodFault)
told (Ok (Some x)) = Ok x
told (Ok None) = Err (record { fault = UnknownMethod; at = 0 })
told (Err at) = Err (record { fault = Syntax; at = at })

-- what is read of a method: its kind and its arguments, or the first fault
abbrev pub Read : Type 0
Read = Result (MethodKind × List Arg) (At MethodFault)

-- the kind and the arguments of the method that fills these bytes, or the first fault
abbrev pub method_in : List ℕ → Read
method_in bytes = told (payload_in bytes)

-- a method that was read, as its kind and its arguments
abbrev pub seen : Result Method91 (At MethodFault) → Read
seen (Ok m) = Ok (parts_of m)
seen (Err e) = Err e
