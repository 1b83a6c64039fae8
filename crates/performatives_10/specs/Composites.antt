-- Composite values (AMQP 1.0 1.4): a list behind the descriptor of its type, which is read as a
-- ulong. Nulls at the end of the list are left out.
use Rattle.std.specs.Prelude.{ℕ, List, Option, Some, None}
use Rattle.types_10.specs.Tree.{Tree, scalar, ulong, list, described, Trees, trees_of}
use Rattle.types_10.specs.Fields.{trim}

-- the list of these fields behind this descriptor
abbrev pub composite : ℕ → List Tree → Tree
composite code xs = described (scalar (ulong code)) (list (trees_of (trim xs)))

abbrev pub ulong_of : Tree → Option ℕ
ulong_of (scalar (ulong n)) = Some n
ulong_of t = None

abbrev pub list_of : Tree → Option Trees
list_of (list ts) = Some ts
list_of t = None

abbrev pub if_some : {A B : Type 0} → Option A → (A → Option B) → Option B
if_some (Some x) f = f x
if_some None f = None

-- the descriptor and the fields of a described list
abbrev pub described_list : Tree → Option (ℕ × Trees)
described_list (described d t) =
    if_some (ulong_of d) (λ n. if_some (list_of t) (λ ts. Some (n, ts)))
described_list t = None
