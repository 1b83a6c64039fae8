-- How long what is written is: by the kind, and by what the kind does not decide.
use Rattle.std.proofs.Common.{◌≡◌, ℕ, ◌+◌, ◌*◌, Bool, List, ◌∷◌, ◌++◌, length, ℤ, refl, sym, ap}
use Rattle.std.proofs.Common.{◌∙◌, length-append, append_assoc, arith}
use Rattle.std.specs.Int.{byte_len, to_be_bytes}
use Rattle.wire_base.specs.Spelling.{text_of}
use Rattle.types_10.specs.Tree.{Scalar, Tree, scalar, list, mapping, array, described, Trees}
use Rattle.types_10.specs.Tree.{no_trees, tree}
use Rattle.types_10.specs.Kinds.{kind_byte, size_width}
use Rattle.types_10.specs.Writing.{single_content, scalar_content, list_kind, map_kind, array_kind}
use Rattle.types_10.specs.Writing.{held_content, array_body, written, written_each, written_pairs}
use Rattle.types_10.specs.Writing.{scalar_type, AreOfOneType}
use Rattle.types_10.specs.Measures.{single_head, head_len, scalar_body, body_len, bodies_len}
use Rattle.types_10.specs.declared.kind.Kind.{Kind}
use Rattle.types_10.specs.declared.kind.Kind.TheVariants as kind
use Rattle.types_10.specs.declared.kind.Single.{Single}
use Rattle.types_10.specs.declared.kind.Single.TheVariants as single
use Rattle.types_10.specs.declared.kind.Bare.TheVariants as bare
use Rattle.types_10.specs.declared.kind.Octet.TheVariants as octet
use Rattle.types_10.specs.declared.kind.Wide.TheVariants as wide
use Rattle.types_10.specs.declared.kind.Sixteen.TheVariants as sixteen
use Rattle.types_10.specs.declared.kind.Text.TheVariants as text
use Rattle.types_10.specs.declared.kind.Size.{Size}
use Rattle.types_10.proofs.ReaderLaws.{size_is}
use Rattle.types_10.proofs.Wider.{kind_type, single_type, scalar_type_is, IsWider, same_wider}
use Rattle.types_10.proofs.Wider.{of_list, of_map, of_array}
use Rattle.types_10.proofs.Written.{first_type, scalar_at, by_type}
use Rattle.types_10.proofs.Held.{list_empty}
use Rattle.types_10.proofs.Types.{list_type, map_type, array_type, EachIsWider, shared_wide}
use Rattle.types_10.proofs.Types.{none_text}

-- ---- contents

-- of values that hold no other, under each kind of their type
text_len : (z : Size) (s : List ℕ) → length (text_of (size_width z) s) ≡ byte_len (size_width z) + length s
text_len z s = omega (arith, length-append (to_be_bytes (size_width z) (length s)) s, (size_is z).len (length s))

abbrev HasLength : Single → Scalar → Type 0
HasLength k s = length (single_content k s) ≡ single_head k + scalar_body s

single_len : (k : Single) (b : Bool) (n : ℕ) (i : ℤ) (s : List ℕ) → HasLength k (scalar_at (single_type k) b n i s)
single_len (single.Text text.Binary z) b n i s = text_len z s
single_len (single.Text text.String z) b n i s = text_len z s
single_len (single.Text text.Symbol z) b n i s = text_len z s
single_len (single.Bare bare.Null) b n i s = refl
single_len (single.Octet octet.Ubyte) b n i s = refl
single_len (single.Wide wide.Ushort) b n i s = refl
single_len (single.Sixteen sixteen.Uuid) b n i s = omega arith
single_len k b n i s = omega arith

pub scalar_len : (k : Kind) (s : Scalar) → kind_type k ≡ scalar_type s → length (scalar_content k s) ≡ head_len k + scalar_body s
scalar_len (kind.Single k) s h = by_type HasLength single_len k s h
scalar_len kind.EmptyList s h = absurd (omega (arith, scalar_type_is s))
scalar_len (kind.List z) s h = absurd (omega (arith, scalar_type_is s))
scalar_len (kind.Map z) s h = absurd (omega (arith, scalar_type_is s))
scalar_len (kind.Array z) s h = absurd (omega (arith, scalar_type_is s))
scalar_len kind.Described s h = absurd (omega (arith, scalar_type_is s))

-- what holds others, by its size and its count
pub filled_len : (z : Size) (count : ℕ) (body : List ℕ) → length (text_of (size_width z) (to_be_bytes (size_width z) count ++ body)) ≡ 2 * byte_len (size_width z) + length body
filled_len z count body =
    let inside = to_be_bytes (size_width z) count ++ body in
    omega (arith, length-append (to_be_bytes (size_width z) (length inside)) inside, length-append (to_be_bytes (size_width z) count) body, (size_is z).len (length inside), (size_is z).len count)

list_len : (k : Kind) (count : ℕ) (body : List ℕ) → IsWider (list_kind count body) k → (count ≡ 0 → length body ≡ 0) → length (held_content k count body) ≡ head_len k + length body
list_len k count body w none =
    of_list (λ k. IsWider (list_kind count body) k → length (held_content k count body) ≡ head_len k + length body)
    (λ w. omega (arith, none (list_empty count body w))) (λ z w. filled_len z count body) k (sym w.alike ∙ list_type count body) w

map_len : (k : Kind) (count : ℕ) (body : List ℕ) → IsWider (map_kind count body) k → length (held_content k count body) ≡ head_len k + length body
map_len k count body w = of_map (λ k. length (held_content k count body) ≡ head_len k + length body) (λ z. filled_len z count body) k (sym w.alike ∙ map_type count body)

array_len : (k : Kind) (count : ℕ) (body : List ℕ) → IsWider (array_kind count body) k → length (held_content k count body) ≡ head_len k + length body
array_len k count body w = of_array (λ k. length (held_content k count body) ≡ head_len k + length body) (λ z. filled_len z count body) k (sym w.alike ∙ array_type count body)

content_len : (t : Tree) (k : Kind) → IsWider (written t).kind k → length ((written t).content k) ≡ head_len k + body_len t
content_len (scalar s) k w = scalar_len k s (sym w.alike ∙ first_type s)
content_len (list ts) k w = list_len k (written_each ts).count (written_each ts).text w (λ e. ap length (none_text ts e))
content_len (mapping ps) k w = map_len k (written_pairs ps).0 (written_pairs ps).1 w
content_len (array ts) k w = array_len k (written_each ts).count (array_body (written_each ts)) w
content_len (described d t) k w = content_len t k w

-- ---- values that stand alone, and elements

-- what is written of a value, by its parts
pub text_is : (t : Tree) → let w = written t in w.text ≡ w.front ++ (kind_byte w.kind ∷ w.content w.kind)
text_is (scalar s) = refl
text_is (list ts) = refl
text_is (mapping ps) = refl
text_is (array ts) = refl
text_is (described d t) = ap (λ (more : List ℕ). 0 ∷ (written d).text ++ more) (text_is t) ∙ sym (append_assoc (0 ∷ (written d).text) (written t).front _)

pub whole_len : (t : Tree) → length (written t).text ≡ length (written t).front + 1 + head_len (written t).kind + body_len t
whole_len t =
    let w = written t in
    omega (arith, ap length (text_is t), length-append w.front (kind_byte w.kind ∷ w.content w.kind), content_len t w.kind (same_wider w.kind))

-- elements' contents under a kind that all of them have
pub contents_len : (ts : Trees) (k : Kind) → EachIsWider ts k → length ((written_each ts).contents k) ≡ (written_each ts).count * head_len k + bodies_len ts
contents_len no_trees k w = omega arith
contents_len (tree t ts) k w = omega (arith, length-append ((written t).content k) ((written_each ts).contents k), content_len t k w.0, contents_len ts k w.1)

pub elements_len : (ts : Trees) → AreOfOneType ts → length (array_body (written_each ts)) ≡ length (written_each ts).front + 1 + (written_each ts).count * head_len (written_each ts).kind + bodies_len ts
elements_len no_trees alike = refl
elements_len (tree t ts) alike =
    let w = written_each (tree t ts) in
    omega (arith, length-append w.front (kind_byte w.kind ∷ w.contents w.kind), contents_len (tree t ts) w.kind (shared_wide t t ts refl alike).1)
