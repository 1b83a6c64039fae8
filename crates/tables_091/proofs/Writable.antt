-- What is spelled can be written, in as many bytes.
use Rattle.std.proofs.Common.{◌≡◌, ℕ, zero, suc, ◌+◌, ◌≤◌, List, [], ◌∷◌, ◌++◌, length, refl, sym}
use Rattle.std.proofs.Common.{ap, subst, arith}
use Rattle.std.proofs.lemmas.List.{length-append}
use Rattle.std.specs.Int.{w8, w32, byte_len, to_be_bytes}
use Rattle.wire_base.specs.Spelling.{IsItems, text_of}
use Rattle.tables_091.specs.Tree.{Scalar, Tree, trees_of, members_of, depth, list_depth}
use Rattle.tables_091.specs.Tree.{entries_depth}
use Rattle.tables_091.specs.Kinds.{octet_scalar, wide_width, wide_scalar, text_scalar}
use Rattle.tables_091.specs.Grammar.{IsSingle, IsMember, IsFlat, IsDeep, IsTyped, IsField, IsTable}
use Rattle.tables_091.specs.Writing.{scalar_text, tree_text, trees_text, members_text}
use Rattle.tables_091.specs.Writing.{NamesAreShort, TreesNamesAreShort, MembersNamesAreShort}
use Rattle.tables_091.specs.Writing.{HasSpelling}
use Rattle.tables_091.proofs.ReaderLaws.{wide_is}
use Rattle.tables_091.specs.declared.kind.Kind.{Kind}
use Rattle.tables_091.specs.declared.kind.Kind.TheVariants as kind
use Rattle.tables_091.specs.declared.kind.Single.{Single}
use Rattle.tables_091.specs.declared.kind.Single.TheVariants as single
use Rattle.tables_091.specs.declared.kind.Octet.{Octet}
use Rattle.tables_091.specs.declared.kind.Octet.TheVariants as octet
use Rattle.tables_091.specs.declared.kind.Wide.{Wide}
use Rattle.tables_091.specs.declared.kind.Wide.TheVariants as wide
use Rattle.tables_091.specs.declared.kind.Text.{Text}
use Rattle.tables_091.specs.declared.kind.Text.TheVariants as text

-- ---- values that hold no other: how long they are behind their type byte

octet_size : (k : Octet) (n : ℕ) → length (scalar_text (octet_scalar k n)) ≡ 2
octet_size octet.Bool n = refl
octet_size octet.I8 n = refl
octet_size octet.U8 n = refl

wide_size : (k : Wide) (n : ℕ) → length (scalar_text (wide_scalar k n)) ≡ byte_len (wide_width k) + 1
wide_size wide.I16 n = refl
wide_size wide.U16 n = refl
wide_size wide.I32 n = refl
wide_size wide.U32 n = refl
wide_size wide.I64 n = refl
wide_size wide.F32 n = refl
wide_size wide.F64 n = refl
wide_size wide.Time n = refl

text_size : (k : Text) (s : List ℕ) → length (scalar_text (text_scalar k s)) ≡ length (text_of w32 s) + 1
text_size text.Long s = omega arith
text_size text.Bytes s = omega arith

single_size : (k : Single) (s : Scalar) (text : List ℕ) → IsSingle k s text → length (scalar_text s) ≡ length text + 1
single_size (single.Octet k) s text h = omega (arith, ap (λ (s : Scalar). length (scalar_text s)) h.1, octet_size k h.0, ap length h.2.1)
single_size (single.Wide k) s text h = omega (arith, ap (λ (s : Scalar). length (scalar_text s)) h.1, wide_size k h.0, ap length h.2.1, (wide_is k).len h.0)
single_size (single.Text k) s text h = omega (arith, ap (λ (s : Scalar). length (scalar_text s)) h.1, text_size k h.0, ap length h.2.1)
single_size single.Decimal s text h =
    omega (arith, ap (λ (s : Scalar). length (scalar_text s)) h.1, ap length h.2.4, length-append h.2.0 h.2.1, ap length h.2.2.1, ap length h.2.3.1)
single_size single.Void s text h = omega (arith, ap (λ (s : Scalar). length (scalar_text s)) h.0, ap length h.1)

-- ---- fields

-- a field of at most this depth, written in so many bytes
record IsWritable (d n : ℕ) (t : Tree) : Type 0 where
  pub names : NamesAreShort t
  pub size : length (tree_text t) ≡ n
  pub deep : depth t ≤ d

-- what is spelled so is a field of at most this depth, written in as many bytes
abbrev AreWritable : ℕ → (Tree → List ℕ → Type 0) → Type 0
AreWritable d R = (t : Tree) (text : List ℕ) → R t text → IsWritable d (length text) t

-- fields one after another, and entries
items_writable : (d : ℕ) (R : Tree → List ℕ → Type 0) → AreWritable d R → (ts : List Tree) (text : List ℕ) → IsItems R ts text
    → TreesNamesAreShort (trees_of ts) × (length (trees_text (trees_of ts)) ≡ length text) × (list_depth ts ≤ d)
items_writable d R w [] text h = (tt, omega (arith, ap length h), omega arith)
items_writable d R w (t ∷ ts) text h =
    let first = w t h.0 h.2 in
    let others = items_writable d R w ts h.1 h.3 in (
      (first.names, others.0),
      omega (arith, first.size, others.1, length-append (tree_text t) (trees_text (trees_of ts)), ap length h.4, length-append h.0 h.1),
      omega (arith, first.deep, others.2),
    )

entries_writable : (d : ℕ) (R : Tree → List ℕ → Type 0) → AreWritable d R → (ms : List (List ℕ × Tree)) (text : List ℕ) → IsItems (IsMember R) ms text
    → MembersNamesAreShort (members_of ms) × (length (members_text (members_of ms)) ≡ length text) × (entries_depth ms ≤ d)
entries_writable d R w [] text h = (tt, omega (arith, ap length h), omega arith)
entries_writable d R w (m ∷ ms) text h =
    let name = h.2.2 in
    let first = w m.1 h.2.1 h.2.3 in
    let others = entries_writable d R w ms h.1 h.3 in
    let entry = length-append (text_of w8 m.0) (tree_text m.1) in
    let all = length-append (text_of w8 m.0 ++ tree_text m.1) (members_text (members_of ms)) in (
      (omega (arith, name.0), first.names, others.0),
      omega (arith, first.size, others.1, entry, all, ap length name.1, ap length h.2.4, length-append h.2.0 h.2.1, ap length h.4, length-append h.0 h.1),
      omega (arith, first.deep, others.2),
    )

-- a value by its kind: the type byte is one byte more
flat_writable : (d : ℕ) (k : Kind) (t : Tree) (text : List ℕ) → IsFlat k t text → IsWritable d (length text + 1) t
flat_writable d (kind.Single k) t text h =
    subst (IsWritable d (length text + 1)) (sym h.1) (record { names = tt; size = single_size k h.0 text h.2; deep = omega arith })
flat_writable d kind.Array t text h = absurd h
flat_writable d kind.Table t text h = absurd h

-- behind a type byte and their length, items are as long as others of the same length
body_size : (inside body text : List ℕ) → length inside ≡ length body → text ≡ text_of w32 body → length (text_of w32 inside) + 1 ≡ length text + 1
body_size inside body text same h = omega (arith, same, ap length h, length-append (to_be_bytes w32 (length inside)) inside, length-append (to_be_bytes w32 (length body)) body)

deep_writable : (d : ℕ) (R : Tree → List ℕ → Type 0) → AreWritable d R → (k : Kind) (t : Tree) (text : List ℕ) → IsDeep R k t text → IsWritable (suc d) (length text + 1) t
deep_writable d R w (kind.Single k) t text h = flat_writable (suc d) (kind.Single k) t text h
deep_writable d R w kind.Array t text h =
    let body = h.2.0 in
    let items = items_writable d R w h.0 body h.2.1 in
    let size = body_size (trees_text (trees_of h.0)) body text items.1 h.2.2.1 in
    subst (IsWritable (suc d) (length text + 1)) (sym h.1) (record { names = items.0; size = omega (arith, size); deep = omega (arith, items.2) })
deep_writable d R w kind.Table t text h =
    let body = h.2.0 in
    let items = entries_writable d R w h.0 body h.2.1 in
    let size = body_size (members_text (members_of h.0)) body text items.1 h.2.2.1 in
    subst (IsWritable (suc d) (length text + 1)) (sym h.1) (record { names = items.0; size = omega (arith, size); deep = omega (arith, items.2) })

typed_writable : (d : ℕ) (R : Kind → Tree → List ℕ → Type 0) → ((k : Kind) (t : Tree) (text : List ℕ) → R k t text → IsWritable d (length text + 1) t) → AreWritable d (IsTyped R)
typed_writable d R w t text h =
    let size : length h.1 + 1 ≡ length text = omega (arith, ap length h.3) in
    subst (λ (n : ℕ). IsWritable d n t) size (w h.0 t h.1 h.2)

field_writable : (d : ℕ) → AreWritable d (IsField d)
unfolding IsField
field_writable zero = typed_writable 0 IsFlat (flat_writable 0)
field_writable (suc d) = typed_writable (suc d) (IsDeep (IsField d)) (deep_writable d (IsField d) (field_writable d))

-- ---- tables

pub spelled_is_writable : (ms : List (List ℕ × Tree)) (text : List ℕ) → IsTable ms text → HasSpelling ms
spelled_is_writable ms text h =
    let entries = entries_writable 15 (IsField 15) (field_writable 15) ms h.0 h.1 in
    record { names = entries.0; size = omega (arith, entries.1, h.2.0); depth = omega (arith, entries.2) }
