-- What is written is in the grammar.
use Rattle.std.proofs.Common.{◌≡◌, List, [], ◌∷◌, length, map, Ok, refl, ap, subst, sym, ◌∙◌, arith}
use Rattle.tables_091.proofs.Written as tables
use Rattle.methods_091.specs.Rows.{ArgKind, shape}
use Rattle.methods_091.specs.Rows as kind
use Rattle.methods_091.specs.Arguments.{Arg}
use Rattle.methods_091.specs.Arguments as arg
use Rattle.methods_091.specs.Grammar.{bits_from, IsArg, IsArgs, IsMethod}
use Rattle.methods_091.specs.Reading.{told, method_in}
use Rattle.methods_091.specs.View.{kind_of, args_of, parts_of}
use Rattle.methods_091.specs.Writing.{octet_of, blank, arg_text, args_text, method_text, CanPutAll}
use Rattle.methods_091.specs.Writing.{CanPut, IsInRange, AreInRange, HasRanges}
use Rattle.methods_091.specs.declared.method.Method91.{Method91}
use Rattle.methods_091.specs.declared.method.Method91.TheVariants as method
use Rattle.methods_091.specs.declared.kind.MethodKind.TheVariants as class
use Rattle.methods_091.specs.declared.kind.ConfirmKind.{ConfirmKind}
use Rattle.methods_091.specs.declared.kind.TxKind.{TxKind}
use Rattle.methods_091.specs.declared.kind.TxKind.TheVariants as in_tx
use Rattle.methods_091.proofs.BitLaws.{flags_back, octet_below}
use Rattle.methods_091.proofs.MethodLaws.{method_is_read}

-- ---- one argument

abbrev kind_in : Arg → ArgKind
kind_in (arg.octet n) = kind.octet
kind_in (arg.short n) = kind.short
kind_in (arg.long n) = kind.long
kind_in (arg.longlong n) = kind.longlong
kind_in (arg.shortstr s) = kind.shortstr
kind_in (arg.longstr s) = kind.longstr
kind_in (arg.fields ms) = kind.fields
kind_in (arg.bits bs) = kind.bits (length bs)
kind_in (arg.reserved k) = kind.reserved k

-- zeros and what is empty are of each kind
blank_is : (k : ArgKind) → (x : Arg) × IsArg k x (blank k)
blank_is kind.octet = (arg.octet 0, (0, refl, (omega arith, refl)))
blank_is kind.short = (arg.short 0, (0, refl, (omega arith, refl)))
blank_is kind.long = (arg.long 0, (0, refl, (omega arith, refl)))
blank_is kind.longlong = (arg.longlong 0, (0, refl, (omega arith, refl)))
blank_is kind.shortstr = (arg.shortstr [], ([], refl, (omega arith, refl)))
blank_is kind.longstr = (arg.longstr [], ([], refl, (omega arith, refl)))
blank_is kind.fields = (arg.fields [], ([], refl, tables.written_is_spelled [] (record { names = tt; size = omega arith; depth = omega arith }) tt))
blank_is (kind.bits count) = (arg.bits (bits_from 0 count 0), (0, refl, (omega arith, refl)))
blank_is (kind.reserved k) = let b = blank_is k in (arg.reserved k, (b.0, refl, b.1))

arg_written : (x : Arg) → CanPutAll (x ∷ []) → IsInRange x → IsArg (kind_in x) x (arg_text x)
arg_written (arg.octet n) can fits = (n, refl, (fits, refl))
arg_written (arg.short n) can fits = (n, refl, (fits, refl))
arg_written (arg.long n) can fits = (n, refl, (fits, refl))
arg_written (arg.longlong n) can fits = (n, refl, (fits, refl))
arg_written (arg.shortstr s) can fits = (s, refl, (omega (arith, can.0), refl))
arg_written (arg.longstr s) can fits = (s, refl, (can.0, refl))
arg_written (arg.fields ms) can fits = (ms, refl, tables.written_is_spelled ms can.0 fits)
arg_written (arg.bits bs) can fits = (octet_of bs, ap arg.bits (sym (flags_back bs)), (octet_below bs fits, refl))
arg_written (arg.reserved k) can fits = let b = blank_is k in (b.0, refl, b.1)

-- ---- arguments in a row

first_can : (x : Arg) (xs : List Arg) → CanPutAll (x ∷ xs) → CanPutAll (x ∷ []) × CanPutAll xs
first_can (arg.octet n) xs can = (tt, can)
first_can (arg.short n) xs can = (tt, can)
first_can (arg.long n) xs can = (tt, can)
first_can (arg.longlong n) xs can = (tt, can)
first_can (arg.shortstr s) xs can = ((can.0, tt), can.1)
first_can (arg.longstr s) xs can = ((can.0, tt), can.1)
first_can (arg.fields ms) xs can = ((can.0, tt), can.1)
first_can (arg.bits bs) xs can = (tt, can)
first_can (arg.reserved k) xs can = (tt, can)

args_written : (xs : List Arg) → CanPutAll xs → AreInRange xs → IsArgs (map kind_in xs) xs (args_text xs)
args_written [] can fits = (refl, refl)
args_written (x ∷ xs) can fits =
    let parts = first_can x xs can in
    ((x, xs), refl, (arg_text x, args_text xs, arg_written x parts.0 fits.0, args_written xs parts.1 fits.1, refl))

-- ---- methods

-- the arguments of a method are of the kinds of its row
args_have_shape : (m : Method91) → map kind_in (args_of m) ≡ shape (kind_of m)
args_have_shape method.ConnectionOpenOk = refl
args_have_shape m = refl

-- the methods of the class tx have no arguments
tx_has_none : (m : Method91) (k : TxKind) → kind_of m ≡ class.Tx k → args_of m ≡ []
tx_has_none m k e = none (args_of m) (args_have_shape m ∙ ap shape e ∙ all k)
  where
    all : (k : TxKind) → shape (class.Tx k) ≡ []
    all in_tx.Select = refl
    all k = refl

    none : (xs : List Arg) → map kind_in xs ≡ [] → xs ≡ []
    none [] h = refl
    none (x ∷ xs) h = absurd cc

pub tx_text : (m : Method91) (k : TxKind) → kind_of m ≡ class.Tx k → args_text (args_of m) ≡ []
tx_text m k e = ap args_text (tx_has_none m k e)

-- those of the classes confirm and tx have no numbers
pub confirm_told : (m : Method91) (k : ConfirmKind) → kind_of m ≡ class.Confirm k → HasRanges m
confirm_told (method.ConfirmSelect no_wait) k e = (omega arith, tt)
confirm_told method.ConfirmSelectOk k e = tt
confirm_told m k e = absurd cc

pub tx_told : (m : Method91) (k : TxKind) → kind_of m ≡ class.Tx k → HasRanges m
tx_told m k e = subst AreInRange (sym (tx_has_none m k e)) tt

pub written_is_spelled : (m : Method91) → CanPut m → HasRanges m → IsMethod m (method_text m)
written_is_spelled m can fits =
    (args_text (args_of m), subst (λ (ks : List ArgKind). IsArgs ks (args_of m) (args_text (args_of m))) (args_have_shape m) (args_written (args_of m) can fits), refl)

pub written_is_read : (m : Method91) → CanPut m → HasRanges m → method_in (method_text m) ≡ Ok (parts_of m)
written_is_read m can fits = ap told (method_is_read m (method_text m) (written_is_spelled m can fits))
