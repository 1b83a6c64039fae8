-- How performatives are spelled (AMQP 1.0 1.4, 2.7, 5.3.3): a described list, whose descriptor is
-- the code of a row of the table as a ulong, and each of whose fields is what the row says. What
-- stands past the last field is free. And the first fault of bytes that are to begin with one.
use Rattle.std.specs.Prelude.{◌≡◌, ◌≢◌, ◌⊎◌, ℕ, ◌+◌, List, [], ◌∷◌, Option, Some, None}
use Rattle.wire_base.specs.Spelling.{StandsAt}
use Rattle.types_10.specs.Tree.{Tree, scalar, ulong, list, described, Trees}
use Rattle.types_10.specs.Grammar.{IsValue}
use Rattle.types_10.specs.Faults.{IsFaultAt}
use Rattle.types_10.specs.Fields.{absent, tree_at}
use Rattle.performatives_10.specs.Fields.{Need, mandatory, optional, defaults, FieldType, Row}
use Rattle.performatives_10.specs.Reading.{Parts, code_of, rows, type_in}
use Rattle.performatives_10.specs.View.{kind_of, fields_of, parts_of}
use Rattle.performatives_10.specs.declared.fault.PerfFault.{PerfFault}
use Rattle.performatives_10.specs.declared.fault.PerfFault.TheVariants as fault
use Rattle.performatives_10.specs.declared.kind.PerfKind.{PerfKind}
use Rattle.performatives_10.specs.declared.performative.Perf.{Perf}

-- how values are taken as fields of a type; None where they have another type
abbrev pub Types : Type 0
Types = FieldType → Tree → Option Tree

-- what a field is that is absent
abbrev pub IsFilled : Need → Tree → Type 0
IsFilled mandatory x = ⊥
IsFilled optional x = x ≡ absent
IsFilled (defaults s) x = x ≡ scalar s

-- a field that is absent, or has the type of its row
abbrev pub IsField : Types → Row → Tree → Tree → Type 0
IsField type_in r t x = ((t ≡ absent) × IsFilled r.1 x) ⊎ ((t ≢ absent) × (type_in r.0 t ≡ Some x))

-- the fields of these rows, from a place on
abbrev pub AreFields : Types → List Row → ℕ → Trees → List Tree → Type 0
AreFields type_in [] k ts xs = xs ≡ []
AreFields type_in (r ∷ rs) k ts xs =
    (x : Tree) × (ys : List Tree) × (xs ≡ x ∷ ys) × IsField type_in r (tree_at ts k) x
    × AreFields type_in rs (k + 1) ts ys

-- the list of these fields behind the descriptor of a kind
abbrev pub IsListed : PerfKind → Trees → Tree → Type 0
IsListed k ts t = t ≡ described (scalar (ulong (code_of k))) (list ts)

-- a value that is a performative
abbrev pub IsParts : Parts → Tree → Type 0
IsParts p t = (ts : Trees) × IsListed p.0 ts t × AreFields type_in (rows p.0) 0 ts p.1

-- bytes begin with a performative, and this is the offset behind it
abbrev pub IsPerfAt : Perf → List ℕ → ℕ → Type 0
IsPerfAt p bytes after = (t : Tree) × StandsAt IsValue t bytes 0 after × IsParts (parts_of p) t

-- ---- faults

-- a mandatory field that is absent, or a field of another type
abbrev pub IsFieldFault : Types → Row → ℕ → Tree → PerfFault → Type 0
IsFieldFault type_in r k t e =
    ((t ≡ absent) × (r.1 ≡ mandatory) × (e ≡ fault.Missing k)) ⊎ ((t ≢ absent) × (type_in r.0 t
    ≡ None) × (e ≡ fault.WrongType k))

-- the first field of these rows that is at fault
abbrev pub IsFirstFault : Types → List Row → ℕ → Trees → PerfFault → Type 0
IsFirstFault type_in [] k ts e = ⊥
IsFirstFault type_in (r ∷ rs) k ts e =
    IsFieldFault type_in r k (tree_at ts k) e ⊎ ((x : Tree) × IsField type_in r (tree_at ts k) x
    × IsFirstFault type_in rs (k + 1) ts e)

-- a value that is a described list of some kind, and a field of it is at fault
abbrev pub HasFieldFault : List ℕ → PerfFault → Type 0
HasFieldFault bytes e =
    (t : Tree) × (after : ℕ) × (k : PerfKind) × (ts : Trees) × StandsAt IsValue t bytes 0 after
    × IsListed k ts t
    × IsFirstFault type_in (rows k) 0 ts e

-- a value that is no described list of any kind
abbrev pub IsUnknown : List ℕ → Type 0
IsUnknown bytes =
    (t : Tree) × (after : ℕ) × StandsAt IsValue t bytes 0 after × ((k : PerfKind) (ts : Trees)
    → IsListed k ts t → ⊥)

abbrev pub IsPerfFault : List ℕ → PerfFault → Type 0
IsPerfFault bytes (fault.Value f) = IsFaultAt bytes 0 f
IsPerfFault bytes fault.UnknownDescriptor = IsUnknown bytes
IsPerfFault bytes (fault.Missing k) = HasFieldFault bytes (fault.Missing k)
IsPerfFault bytes (fault.WrongType k) = HasFieldFault bytes (fault.WrongType k)

-- ---- what can be written and read back

-- fields that are read as themselves: each is absent where it may be, or has the type of its row
abbrev pub AreOfTypes : Types → List Row → List Tree → Type 0
AreOfTypes type_in [] xs = xs ≡ []
AreOfTypes type_in (r ∷ rs) [] = ⊥
AreOfTypes type_in (r ∷ rs) (x ∷ xs) = IsField type_in r x x × AreOfTypes type_in rs xs

abbrev pub HasTypes : Perf → Type 0
HasTypes p = AreOfTypes type_in (rows (kind_of p)) (fields_of p)
