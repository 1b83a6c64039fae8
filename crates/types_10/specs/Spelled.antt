-- Values that aren't built (AMQP 1.0 1.6): what they are at their first level.
use Rattle.std.specs.Prelude.{◌≡◌, ℕ, Bool, true, false, if◌then◌else◌, List, [], Option, Some}
use Rattle.std.specs.Prelude.{None, Ok, Err}
use Rattle.std.specs.Int.{Width}
use Rattle.wire_base.specs.Reading.{Reads}
use Rattle.types_10.specs.Tree.{null, symbol, Tree, scalar, list, mapping, array, described}
use Rattle.types_10.specs.Tree.{Trees, no_trees, tree}
use Rattle.types_10.specs.Reading.{Fault, fault_at, bytes_in, count_in}
use Rattle.types_10.specs.declared.fault.TypeFault.TheVariants as fault
use Rattle.types_10.specs.declared.kind.Kind.{Kind}
use Rattle.types_10.specs.declared.kind.Kind.TheVariants as kind
use Rattle.types_10.specs.declared.kind.Single.TheVariants as single
use Rattle.types_10.specs.declared.kind.Text.TheVariants as text

-- what was read; null where nothing was
abbrev pub told : Reads (Tree × ℕ) Fault → Tree
told (Ok x) = x.0.0
told (Err f) = scalar null

abbrev pub told_row : Reads (List Tree × ℕ) Fault → List Tree
told_row (Ok x) = x.0.0
told_row (Err f) = []

-- something was read
abbrev pub IsRead : {A : Type 0} → Reads A Fault → Type 0
IsRead {A} read = (x : A × List ℕ) × (read ≡ Ok x)

-- a size, and in the bytes that it counts a count
abbrev pub IsCounted : Width → ℕ → Fault → List ℕ → Type 0
IsCounted w at cut content =
    (body : List ℕ × List ℕ) × (bytes_in cut w content ≡ Ok body)
    × IsRead (count_in (fault_at fault.Count at) w body.0)

-- a value that holds no other
abbrev pub is_scalar : Tree → Bool
is_scalar (scalar s) = true
is_scalar t = false

-- a descriptor, and what it describes
abbrev pub described_in : Tree → Option (Tree × Tree)
described_in (described d t) = Some (d, t)
described_in t = None

-- the values of a list
abbrev pub list_in : Tree → Option Trees
list_in (list ts) = Some ts
list_in t = None

abbrev pub is_map : Tree → Bool
is_map (mapping ps) = true
is_map t = false

abbrev pub is_symbol : Tree → Bool
is_symbol (scalar (symbol s)) = true
is_symbol t = false

abbrev pub each_is_symbol : Trees → Bool
each_is_symbol no_trees = true
each_is_symbol (tree t ts) = if is_symbol t then each_is_symbol ts else false

-- one symbol, or an array of symbols
abbrev pub are_symbols : Tree → Bool
are_symbols (array ts) = each_is_symbol ts
are_symbols t = is_symbol t

-- the kind of a symbol
abbrev pub symbol_kind : Kind → Bool
symbol_kind (kind.Single (single.Text text.Symbol s)) = true
symbol_kind k = false
