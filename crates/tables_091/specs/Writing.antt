-- The one spelling of a table that is written (AMQP 0-9-1 4.2.5.5), and which tables have one.
use Rattle.std.specs.Prelude.{ℕ, ◌<◌, ◌≤◌, ◌^◌, List, [], ◌∷◌, ◌++◌, length, if◌then◌else◌}
use Rattle.std.specs.Int.{w8, w16, w32, w64, to_be_bytes, cast_unsigned}
use Rattle.wire_base.specs.Spelling.{text_of}
use Rattle.tables_091.specs.Ranges.{EachInside, EachInTrees, EachInMembers}
use Rattle.tables_091.specs.Tree.{Scalar, boolean, int8, uint8, int16, uint16, int32, uint32, int64}
use Rattle.tables_091.specs.Tree.{float32, float64, decimal, longstr, timestamp, void, blob, Tree}
use Rattle.tables_091.specs.Tree.{scalar, array, table, Trees, no_trees, tree, Members, no_members}
use Rattle.tables_091.specs.Tree.{member, members_of, depth}
use Rattle.tables_091.specs.View.{field_tree}
use Rattle.tables_091.specs.declared.field.Field.{Field}

-- a field that holds no other: its type byte and its value; a bool is 0 or 1
abbrev pub scalar_text : Scalar → List ℕ
scalar_text (boolean b) = 116 ∷ to_be_bytes w8 (if b then 1 else 0)
scalar_text (int8 z) = 98 ∷ to_be_bytes w8 (cast_unsigned w8 z)
scalar_text (uint8 n) = 66 ∷ to_be_bytes w8 n
scalar_text (int16 z) = 115 ∷ to_be_bytes w16 (cast_unsigned w16 z)
scalar_text (uint16 n) = 117 ∷ to_be_bytes w16 n
scalar_text (int32 z) = 73 ∷ to_be_bytes w32 (cast_unsigned w32 z)
scalar_text (uint32 n) = 105 ∷ to_be_bytes w32 n
scalar_text (int64 z) = 108 ∷ to_be_bytes w64 (cast_unsigned w64 z)
scalar_text (float32 n) = 102 ∷ to_be_bytes w32 n
scalar_text (float64 n) = 100 ∷ to_be_bytes w64 n
scalar_text (decimal scale n) = 68 ∷ to_be_bytes w8 scale ++ to_be_bytes w32 n
scalar_text (longstr s) = 83 ∷ text_of w32 s
scalar_text (timestamp n) = 84 ∷ to_be_bytes w64 n
scalar_text void = 86 ∷ []
scalar_text (blob s) = 120 ∷ text_of w32 s

-- a field: an array and a table have the length of what they hold, and what they hold
abbrev mutual
  pub tree_text : Tree → List ℕ
  tree_text (scalar s) = scalar_text s
  tree_text (array ts) = 65 ∷ text_of w32 (trees_text ts)
  tree_text (table ms) = 70 ∷ text_of w32 (members_text ms)

  pub trees_text : Trees → List ℕ
  trees_text no_trees = []
  trees_text (tree t ts) = tree_text t ++ trees_text ts

  pub members_text : Members → List ℕ
  members_text no_members = []
  members_text (member name t ms) = text_of w8 name ++ tree_text t ++ members_text ms

-- a table: the length of its entries, and the entries
abbrev pub table_text : List (List ℕ × Tree) → List ℕ
table_text ms = text_of w32 (members_text (members_of ms))

-- a field of the program, and an entry of a table: a name behind its length, and a field
abbrev pub field_text : Field → List ℕ
field_text f = tree_text (field_tree f)

abbrev pub entry_text : List ℕ × Field → List ℕ
entry_text e = text_of w8 e.0 ++ field_text e.1

-- a name that can be written
abbrev pub IsShort : List ℕ → Type 0
IsShort name = length name ≤ 255

-- the names inside have at most 255 bytes
abbrev pub NamesAreShort : Tree → Type 0
NamesAreShort = EachInside (λ s. Unit {0}) IsShort

abbrev pub FieldIsShort : Field → Type 0
FieldIsShort f = NamesAreShort (field_tree f)

abbrev pub EntryIsShort : List ℕ × Field → Type 0
EntryIsShort e = IsShort e.0 × FieldIsShort e.1

abbrev pub TreesNamesAreShort : Trees → Type 0
TreesNamesAreShort = EachInTrees (λ s. Unit {0}) IsShort

abbrev pub MembersNamesAreShort : Members → Type 0
MembersNamesAreShort = EachInMembers (λ s. Unit {0}) IsShort

-- a table that has a spelling: what it holds is shorter than 2^32 bytes, and so is all that is
-- inside
pub record HasSpelling (ms : List (List ℕ × Tree)) : Type 0 where
  pub names : MembersNamesAreShort (members_of ms)
  pub size : length (members_text (members_of ms)) < 2 ^ 32
  pub depth : depth (table (members_of ms)) ≤ 16
