-- What is written is in the grammar.
use Rattle.std.proofs.Common.{◌≡◌, ℕ, zero, suc, ◌+◌, ◌^◌, ◌<◌, ◌≤◌, true, false, List, [], ◌∷◌}
use Rattle.std.proofs.Common.{◌++◌, length, Ok, refl, sym, ap, arith}
use Rattle.std.proofs.lemmas.Int.{ints, to_z-of_z}
use Rattle.std.proofs.lemmas.List.{length-append, drop_at}
use Rattle.std.specs.Int.{w8, w16, w32, w64, to_be_bytes, cast_unsigned}
use Rattle.wire_base.specs.Spelling.{IsItems, text_of}
use Rattle.tables_091.specs.Tree.{Scalar, boolean, int8, uint8, int16, uint16, int32, uint32, int64}
use Rattle.tables_091.specs.Tree.{float32, float64, decimal, longstr, timestamp, void, blob, Tree}
use Rattle.tables_091.specs.Tree.{scalar, array, table, Trees, no_trees, tree, Members, no_members}
use Rattle.tables_091.specs.Tree.{member, trees_of, members_of, depth, trees_depth, members_depth}
use Rattle.tables_091.specs.Kinds.{kind_byte}
use Rattle.tables_091.specs.Grammar.{IsSingle, IsMember, IsField, IsTable}
use Rattle.tables_091.specs.Reading.{table_at}
use Rattle.tables_091.proofs.ReaderLaws.{spelled_is_read}
use Rattle.tables_091.specs.Writing.{scalar_text, tree_text, trees_text, members_text, table_text}
use Rattle.tables_091.specs.Writing.{IsShort, HasSpelling}
use Rattle.tables_091.specs.Ranges.{EachInside, EachInTrees, EachInMembers, IsInRange, AreRanged}
use Rattle.tables_091.specs.declared.kind.Kind.TheVariants as kind
use Rattle.tables_091.specs.declared.kind.Single.{Single}
use Rattle.tables_091.specs.declared.kind.Single.TheVariants as single
use Rattle.tables_091.specs.declared.kind.Octet.TheVariants as octet
use Rattle.tables_091.specs.declared.kind.Wide.TheVariants as wide
use Rattle.tables_091.specs.declared.kind.Text.TheVariants as text

-- a value that holds no other, behind the byte of its kind
abbrev IsWritten : Scalar → Type 0
IsWritten s = (k : Single) × (value : List ℕ) × IsSingle k s value × (scalar_text s ≡ kind_byte (kind.Single k) ∷ value)

scalar_written : (s : Scalar) → IsInRange s → length (scalar_text s) < 2 ^ 32 → IsWritten s
scalar_written (boolean false) fits size = (single.Octet octet.Bool, _, (0, refl, (omega arith, refl)), refl)
scalar_written (boolean true) fits size = (single.Octet octet.Bool, _, (1, refl, (omega arith, refl)), refl)
scalar_written (int8 z) fits size = (single.Octet octet.I8, _, (cast_unsigned w8 z, ap int8 (sym (to_z-of_z w8 z fits)), (omega (arith, ints), refl)), refl)
scalar_written (uint8 n) fits size = (single.Octet octet.U8, _, (n, refl, (fits, refl)), refl)
scalar_written (int16 z) fits size = (single.Wide wide.I16, _, (cast_unsigned w16 z, ap int16 (sym (to_z-of_z w16 z fits)), (omega (arith, ints), refl)), refl)
scalar_written (uint16 n) fits size = (single.Wide wide.U16, _, (n, refl, (fits, refl)), refl)
scalar_written (int32 z) fits size = (single.Wide wide.I32, _, (cast_unsigned w32 z, ap int32 (sym (to_z-of_z w32 z fits)), (omega (arith, ints), refl)), refl)
scalar_written (uint32 n) fits size = (single.Wide wide.U32, _, (n, refl, (fits, refl)), refl)
scalar_written (int64 z) fits size = (single.Wide wide.I64, _, (cast_unsigned w64 z, ap int64 (sym (to_z-of_z w64 z fits)), (omega (arith, ints), refl)), refl)
scalar_written (float32 n) fits size = (single.Wide wide.F32, _, (n, refl, (fits, refl)), refl)
scalar_written (float64 n) fits size = (single.Wide wide.F64, _, (n, refl, (fits, refl)), refl)
scalar_written (decimal scale n) fits size = (single.Decimal, _, ((scale, n), refl, (to_be_bytes w8 scale, to_be_bytes w32 n, (fits.0, refl), (fits.1, refl), refl)), refl)
scalar_written (longstr s) fits size = (single.Text text.Long, _, (s, refl, (omega (arith, length-append (to_be_bytes w32 (length s)) s), refl)), refl)
scalar_written (timestamp n) fits size = (single.Wide wide.Time, _, (n, refl, (fits, refl)), refl)
scalar_written void fits size = (single.Void, [], (refl, refl), refl)
scalar_written (blob s) fits size = (single.Text text.Bytes, _, (s, refl, (omega (arith, length-append (to_be_bytes w32 (length s)) s), refl)), refl)

-- what an array or a table holds, as a list
list_of : Trees → List Tree
list_of no_trees = []
list_of (tree t ts) = t ∷ list_of ts

entries_of : Members → List (List ℕ × Tree)
entries_of no_members = []
entries_of (member name t ms) = (name, t) ∷ entries_of ms

trees_of-list_of : (ts : Trees) → trees_of (list_of ts) ≡ ts
unfolding list_of
trees_of-list_of no_trees = refl
trees_of-list_of (tree t ts) = ap (tree t) (trees_of-list_of ts)

members_of-entries_of : (ms : Members) → members_of (entries_of ms) ≡ ms
unfolding entries_of
members_of-entries_of no_members = refl
members_of-entries_of (member name t ms) = ap (member name t) (members_of-entries_of ms)

entries_of-members_of : (ms : List (List ℕ × Tree)) → entries_of (members_of ms) ≡ ms
unfolding entries_of
entries_of-members_of [] = refl
entries_of-members_of (m ∷ ms) = ap (λ (ns : List (List ℕ × Tree)). m ∷ ns) (entries_of-members_of ms)

-- what is inside a tree is in its range, and its names are short
abbrev Ranged : Tree → Type 0
Ranged = EachInside IsInRange (λ name. Unit {0})

abbrev Short : Tree → Type 0
Short = EachInside (λ s. Unit {0}) IsShort

mutual
  unfolding IsField list_of entries_of

  tree_written : (d : ℕ) (t : Tree) → depth t ≤ d → Short t → Ranged t → length (tree_text t) < 2 ^ 32 → IsField d t (tree_text t)
  tree_written zero (scalar s) deep short ranged size = let w = scalar_written s ranged size in (kind.Single w.0, w.1, (s, refl, w.2), w.3)
  tree_written (suc d) (scalar s) deep short ranged size = let w = scalar_written s ranged size in (kind.Single w.0, w.1, (s, refl, w.2), w.3)
  tree_written zero (array ts) deep short ranged size = absurd (omega arith)
  tree_written (suc d) (array ts) deep short ranged size =
      let smaller : length (trees_text ts) < 2 ^ 32 = omega (arith, length-append (to_be_bytes w32 (length (trees_text ts))) (trees_text ts)) in
      (kind.Array, _, (list_of ts, ap array (sym (trees_of-list_of ts)), (trees_text ts, trees_written d ts (omega arith) short ranged smaller, (smaller, refl))), refl)
  tree_written zero (table ms) deep short ranged size = absurd (omega arith)
  tree_written (suc d) (table ms) deep short ranged size =
      let smaller : length (members_text ms) < 2 ^ 32 = omega (arith, length-append (to_be_bytes w32 (length (members_text ms))) (members_text ms)) in
      (kind.Table, _, (entries_of ms, ap table (sym (members_of-entries_of ms)), (members_text ms, members_written d ms (omega arith) short ranged smaller, (smaller, refl))), refl)

  trees_written : (d : ℕ) (ts : Trees) → trees_depth ts ≤ d → EachInTrees (λ s. Unit {0}) IsShort ts → EachInTrees IsInRange (λ name. Unit {0}) ts → length (trees_text ts) < 2 ^ 32 → IsItems (IsField d) (list_of ts) (trees_text ts)
  trees_written d no_trees deep short ranged size = refl
  trees_written d (tree t ts) deep short ranged size =
      let both = length-append (tree_text t) (trees_text ts) in
      (tree_text t, trees_text ts, tree_written d t (omega arith) short.0 ranged.0 (omega (arith, both)), trees_written d ts (omega arith) short.1 ranged.1 (omega (arith, both)), refl)

  members_written : (d : ℕ) (ms : Members) → members_depth ms ≤ d → EachInMembers (λ s. Unit {0}) IsShort ms → EachInMembers IsInRange (λ name. Unit {0}) ms → length (members_text ms) < 2 ^ 32
      → IsItems (IsMember (IsField d)) (entries_of ms) (members_text ms)
  members_written d no_members deep short ranged size = refl
  members_written d (member name t ms) deep short ranged size =
      let entry = length-append (text_of w8 name) (tree_text t) in
      let both = length-append (text_of w8 name ++ tree_text t) (members_text ms) in (
        text_of w8 name ++ tree_text t,
        members_text ms,
        (text_of w8 name, tree_text t, (omega (arith, short.0), refl), tree_written d t (omega arith) short.1 ranged.1 (omega (arith, both, entry)), refl),
        members_written d ms (omega arith) short.2 ranged.2 (omega (arith, both)),
        refl,
      )

pub written_is_spelled : (ms : List (List ℕ × Tree)) → HasSpelling ms → AreRanged ms → IsTable ms (table_text ms)
written_is_spelled ms has ranged =
    let items = members_written 15 (members_of ms) (omega (arith, has.depth)) has.names ranged has.size in
    (members_text (members_of ms), rw entries_of-members_of at items, (has.size, refl))

pub written_is_read : (ms : List (List ℕ × Tree)) (before rest : List ℕ) → HasSpelling ms → AreRanged ms
    → table_at (before ++ (table_text ms ++ rest)) (length before) ≡ Ok (ms, length before + length (table_text ms))
written_is_read ms before rest has ranged =
    spelled_is_read (before ++ (table_text ms ++ rest)) (length before) ms (table_text ms) rest (written_is_spelled ms has ranged) (drop_at before (table_text ms ++ rest) (length before) refl)
