-- Values of a type: the kind that is written of a value is one of its type, and values of one type share a kind that has contents for
-- each of them.
use Rattle.std.proofs.Common.{◌≡◌, ℕ, ◌≤◌, List, [], refl, sym, ◌∙◌, arith}
use Rattle.types_10.specs.Tree.{Tree, scalar, list, mapping, array, described, Trees, no_trees}
use Rattle.types_10.specs.Tree.{tree}
use Rattle.types_10.specs.Kinds.{kind_byte}
use Rattle.types_10.specs.Writing.{single_kind, type_of, array_body, list_kind, map_kind}
use Rattle.types_10.specs.Writing.{array_kind, shared, written, written_each, written_pairs}
use Rattle.types_10.specs.Writing.{EachIsAlike}
use Rattle.types_10.proofs.Wider.{kind_type, IsWider, same_wider, wider_trans, first_shares}
use Rattle.types_10.proofs.Wider.{rest_shares, last_shares}
use Rattle.types_10.proofs.Written.{first_type}
use Rattle.types_10.proofs.Elements.{single_late}
use Rattle.types_10.proofs.Held.{by_brief, by_list}
use Rattle.types_10.specs.declared.kind.Kind.{Kind}
use Rattle.types_10.specs.declared.kind.Kind.TheVariants as kind
use Rattle.types_10.specs.declared.kind.Size.TheVariants as size

-- ---- the kind of each value

pub list_type : (n : ℕ) (body : List ℕ) → kind_type (list_kind n body) ≡ 208
list_type n body = by_list (λ k. kind_type k ≡ 208) n body (λ e. refl) (λ h. refl) (λ h e. refl)

pub map_type : (n : ℕ) (body : List ℕ) → kind_type (map_kind n body) ≡ 209
map_type n body = by_brief (λ k. kind_type k ≡ 209) n body (kind.Map size.Short) (kind.Map size.Long) (λ h. refl) (λ h. refl)

pub array_type : (n : ℕ) (body : List ℕ) → kind_type (array_kind n body) ≡ 240
array_type n body = by_brief (λ k. kind_type k ≡ 240) n body (kind.Array size.Short) (kind.Array size.Long) (λ h. refl) (λ h. refl)

-- the kind of a value is of its type, and not that of described values
pub tree_type : (t : Tree) → kind_type (written t).kind ≡ type_of t
tree_type (scalar s) = first_type s
tree_type (list ts) = list_type (written_each ts).count (written_each ts).text
tree_type (mapping ps) = map_type (written_pairs ps).0 (written_pairs ps).1
tree_type (array ts) = array_type (written_each ts).count (array_body (written_each ts))
tree_type (described d t) = tree_type t

pub tree_late : (t : Tree) → 64 ≤ kind_byte (written t).kind
tree_late (scalar s) = single_late (single_kind s)
tree_late (list ts) = by_list (λ k. 64 ≤ kind_byte k) (written_each ts).count (written_each ts).text (λ e. omega arith) (λ h. omega arith) (λ h e. omega arith)
tree_late (mapping ps) = by_brief (λ k. 64 ≤ kind_byte k) (written_pairs ps).0 (written_pairs ps).1 (kind.Map size.Short) (kind.Map size.Long) (λ h. omega arith) (λ h. omega arith)
tree_late (array ts) = by_brief (λ k. 64 ≤ kind_byte k) (written_each ts).count (array_body (written_each ts)) (kind.Array size.Short) (kind.Array size.Long) (λ h. omega arith) (λ h. omega arith)
tree_late (described d t) = tree_late t

-- ---- the kind that values share

-- a kind under which each has an element
abbrev pub EachIsWider : Trees → Kind → Type 0
EachIsWider no_trees k = Unit {0}
EachIsWider (tree t ts) k = IsWider (written t).kind k × EachIsWider ts k

pub each_wider : (ts : Trees) (j k : Kind) → IsWider j k → EachIsWider ts j → EachIsWider ts k
each_wider no_trees j k w h = tt
each_wider (tree t ts) j k w h = (wider_trans (written t).kind j k h.0 w, each_wider ts j k w h.1)

-- such is the kind that those of one type share
pub shared_wide : (t u : Tree) (ts : Trees) → type_of u ≡ type_of t → EachIsAlike t ts → (kind_type (written_each (tree u ts)).kind ≡ type_of t) × EachIsWider (tree u ts) (written_each (tree u ts)).kind
shared_wide t u no_trees e h = rw (last_shares (written u).kind (tree_late u)) (tree_type u ∙ e, (same_wider (written u).kind, tt))
shared_wide t u (tree v ts) e h =
    let j = (written u).kind in
    let k = (written_each (tree v ts)).kind in
    let rest = shared_wide t v ts h.0.1 h.1 in
    let alike : kind_type j ≡ kind_type k = tree_type u ∙ e ∙ sym rest.0 in
    let wide = rest_shares j k alike in
    (sym wide.alike ∙ rest.0, (first_shares j k alike, each_wider (tree v ts) k (shared j k) wide rest.1))

-- ---- values that are none

pub none_text : (ts : Trees) → (written_each ts).count ≡ 0 → (written_each ts).text ≡ []
none_text no_trees e = refl
none_text (tree t ts) e = absurd (omega arith)
