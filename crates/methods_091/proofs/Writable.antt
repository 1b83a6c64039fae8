-- What is spelled can be written.
use Rattle.std.proofs.Common.{ℕ, List, [], ◌∷◌, sym, subst, arith}
use Rattle.tables_091.proofs.Writable.{spelled_is_writable}
use Rattle.methods_091.specs.Rows.{ArgKind, shape}
use Rattle.methods_091.specs.Rows as kind
use Rattle.methods_091.specs.Arguments.{Arg}
use Rattle.methods_091.specs.Grammar.{IsArg, IsArgs, IsMethod}
use Rattle.methods_091.specs.View.{kind_of, args_of}
use Rattle.methods_091.specs.Writing.{CanPutAll, CanPut}
use Rattle.methods_091.specs.declared.method.Method91.{Method91}

-- one argument that is spelled so, before others that can be written
arg_writable : (k : ArgKind) (x : Arg) (xs : List Arg) (text : List ℕ) → IsArg k x text → CanPutAll xs → CanPutAll (x ∷ xs)
arg_writable kind.octet x xs text h rest = subst (λ (y : Arg). CanPutAll (y ∷ xs)) (sym h.1) rest
arg_writable kind.short x xs text h rest = subst (λ (y : Arg). CanPutAll (y ∷ xs)) (sym h.1) rest
arg_writable kind.long x xs text h rest = subst (λ (y : Arg). CanPutAll (y ∷ xs)) (sym h.1) rest
arg_writable kind.longlong x xs text h rest = subst (λ (y : Arg). CanPutAll (y ∷ xs)) (sym h.1) rest
arg_writable kind.shortstr x xs text h rest = subst (λ (y : Arg). CanPutAll (y ∷ xs)) (sym h.1) (omega (arith, h.2.0), rest)
arg_writable kind.longstr x xs text h rest = subst (λ (y : Arg). CanPutAll (y ∷ xs)) (sym h.1) (h.2.0, rest)
arg_writable kind.fields x xs text h rest = subst (λ (y : Arg). CanPutAll (y ∷ xs)) (sym h.1) (spelled_is_writable h.0 text h.2, rest)
arg_writable (kind.bits count) x xs text h rest = subst (λ (y : Arg). CanPutAll (y ∷ xs)) (sym h.1) rest
arg_writable (kind.reserved k) x xs text h rest = subst (λ (y : Arg). CanPutAll (y ∷ xs)) (sym h.1) rest

-- arguments in a row
args_writable : (ks : List ArgKind) (xs : List Arg) (text : List ℕ) → IsArgs ks xs text → CanPutAll xs
args_writable [] xs text h = subst CanPutAll (sym h.0) tt
args_writable (k ∷ ks) xs text h =
    subst CanPutAll (sym h.1) (arg_writable k h.0.0 h.0.1 h.2.0 h.2.2 (args_writable ks h.0.1 h.2.1 h.2.3))

-- a method
pub method_writable : (m : Method91) (bytes : List ℕ) → IsMethod m bytes → CanPut m
method_writable m bytes h = args_writable (shape (kind_of m)) (args_of m) h.0 h.1
