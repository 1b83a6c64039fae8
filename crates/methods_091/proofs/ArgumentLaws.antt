-- The readers of arguments against their spellings, by the laws of their parts.
use Rattle.std.proofs.Common.{ℕ, List, [], ◌∷◌, refl, subst}
use Rattle.std.specs.Int.{w8, w16, w32, w64}
use Rattle.wire_base.specs.Spelling.{IsNumber, IsText, IsMade, IsPair}
use Rattle.wire_base.specs.Reading.{offset, pair_in, number_in, text_in}
use Rattle.wire_base.proofs.Laws.{IsReader, Finds, wide8, wide16, wide32, wide64, ok_is}
use Rattle.wire_base.proofs.Laws.{made_reader, pair_reader, number_reader, text_reader}
use Rattle.tables_091.specs.Grammar.{IsTable}
use Rattle.tables_091.specs.Reading.{table_in}
use Rattle.tables_091.proofs.ReaderLaws.{table_reader}
use Rattle.methods_091.specs.Rows.{ArgKind, shape}
use Rattle.methods_091.specs.Rows as kind
use Rattle.methods_091.specs.Arguments.{Arg}
use Rattle.methods_091.specs.Arguments as arg
use Rattle.methods_091.specs.Grammar.{bits_from, IsArg, IsArgs}
use Rattle.methods_091.specs.Reading.{arg_in, args_in, row_in}
use Rattle.methods_091.specs.declared.kind.MethodKind.{MethodKind}

arg_reader : (k : ArgKind) → IsReader (IsArg k) (arg_in k)
arg_reader kind.octet = made_reader arg.octet (IsNumber w8) (number_in offset w8) (number_reader offset w8 wide8)
arg_reader kind.short = made_reader arg.short (IsNumber w16) (number_in offset w16) (number_reader offset w16 wide16)
arg_reader kind.long = made_reader arg.long (IsNumber w32) (number_in offset w32) (number_reader offset w32 wide32)
arg_reader kind.longlong = made_reader arg.longlong (IsNumber w64) (number_in offset w64) (number_reader offset w64 wide64)
arg_reader kind.shortstr = made_reader arg.shortstr (IsText w8) (text_in offset w8) (text_reader offset w8 wide8)
arg_reader kind.longstr = made_reader arg.longstr (IsText w32) (text_in offset w32) (text_reader offset w32 wide32)
arg_reader kind.fields = made_reader arg.fields IsTable table_in table_reader
arg_reader (kind.bits count) = made_reader (λ n. arg.bits (bits_from 0 count n)) (IsNumber w8) (number_in offset w8) (number_reader offset w8 wide8)
arg_reader (kind.reserved k) = made_reader (λ x. arg.reserved k) (IsArg k) (arg_in k) (arg_reader k)

none_reader : IsReader (IsArgs []) (args_in [])
none_reader = record {
  finds = λ end text x fits e. subst (λ (y : List Arg × List ℕ). Finds (IsArgs []) text y) (ok_is {F = ℕ} ([], text) x e) (record { front = []; spelled = (refl, refl); parts = refl; rest_fits = fits });
  again = λ end xs front rest h. rw (h.0, h.1) refl;
}

args_reader : (ks : List ArgKind) → IsReader (IsArgs ks) (args_in ks)
args_reader [] = none_reader
args_reader (k ∷ ks) =
    made_reader (λ p. p.0 ∷ p.1) (IsPair (IsArg k) (IsArgs ks)) (pair_in (arg_in k) (args_in ks)) (pair_reader (IsArg k) (IsArgs ks) (arg_in k) (args_in ks) (arg_reader k) (args_reader ks))

-- the arguments of a kind, beside the kind
pub row_reader : (k : MethodKind) → IsReader (IsMade (λ (args : List Arg). (k, args)) (IsArgs (shape k))) (row_in k)
row_reader k = made_reader (λ (args : List Arg). (k, args)) (IsArgs (shape k)) (args_in (shape k)) (args_reader (shape k))
