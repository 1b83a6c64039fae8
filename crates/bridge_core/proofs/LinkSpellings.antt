-- The name and the flow of a link can be written, and how long a frame of a transfer is.
use Rattle.std.proofs.Common.{◌≡◌, ℕ, ◌+◌, ◌<◌, ◌≤◌, ◌^◌, true, false, Bool, List, [], ◌∷◌, length}
use Rattle.std.proofs.Common.{refl, sym, subst, arith}
use Rattle.std.specs.Prelude.{IsTrue, decimal, codes}
use Rattle.std.specs.Int.{w64, to_be_bytes}
use Rattle.std.specs.Str.{is_utf8, IsAscii}
use Rattle.std.proofs.lemmas.Fmt.{IsAscii-decimal}
use Rattle.std.proofs.lemmas.Str.{IsAscii-append, IsUtf8-from_ascii, is_utf8-from_IsUtf8}
use Rattle.std.proofs.lemmas.Str.Ascii.{IsAscii-cons, IsAscii-nil}
use Rattle.types_10.specs.Tree.{Tree, Trees, binary, boolean, described, list, no_trees, null}
use Rattle.types_10.specs.Tree.{scalar, tree, uint, ulong}
use Rattle.types_10.specs.Writing.{HasSpelling, value_text, written_each}
use Rattle.performatives_10.specs.Writing.{perf_text, perf_tree}
use Rattle.session_path.specs.Links.{link_name}
use Rattle.gate_model.specs.Paths.{transfer_perf}
use Rattle.gate_model.specs.Spelling.{link_flow_perf}
use Rattle.gate_model.specs.declared.channel.LinkFlow.{LinkFlow}
use Rattle.gate_model.specs.declared.channel.TransferOut.{TransferOut}
use Rattle.bridge_core.proofs.Lengths.{binary_brief, described_len, each_len, list_brief}
use Rattle.bridge_core.proofs.Lengths.{list_short, uint_short}

-- ---- the name of a link

mark_ascii : IsAscii (codes "l-")
mark_ascii = IsAscii-cons 108 (45 ∷ []) (omega arith) (IsAscii-cons 45 [] (omega arith) IsAscii-nil)

pub name_utf8 : (n : ℕ) → n < 2 ^ 64 → IsTrue (is_utf8 (link_name n))
name_utf8 n fits =
    let ascii : IsAscii (link_name n) = IsAscii-append (codes "l-") (decimal n) mark_ascii (IsAscii-decimal n fits) in
    is_utf8-from_IsUtf8 (link_name n) (IsUtf8-from_ascii (link_name n) ascii)

-- ---- the flow of a link

abbrev drain_trees : Bool → Trees
drain_trees false = no_trees
drain_trees true = tree (scalar null) (tree (scalar (boolean true)) no_trees)

abbrev link_trees : LinkFlow → Trees
link_trees f = tree (scalar (uint f.handle)) (tree (scalar (uint f.count)) (tree (scalar (uint f.credit)) (drain_trees f.drain)))

-- windows of 2,048 frames
abbrev session_trees : LinkFlow → Trees → Trees
session_trees f ts =
    tree (scalar (uint f.incoming)) (tree (scalar (uint 2048)) (tree (scalar (uint f.outgoing)) (tree (scalar (uint 2048)) ts)))

abbrev flow_trees : LinkFlow → Trees
flow_trees f = session_trees f (link_trees f)

abbrev flow_tree : LinkFlow → Tree
flow_tree f = described (scalar (ulong 19)) (list (flow_trees f))

drain_short : (d : Bool) → length (written_each (drain_trees d)).text ≤ 2
drain_short false = omega arith
drain_short true = omega arith

link_short : (f : LinkFlow) → length (written_each (link_trees f)).text ≤ 17
link_short f =
    omega (
      arith,
      each_len (scalar (uint f.handle)) (tree (scalar (uint f.count)) (tree (scalar (uint f.credit)) (drain_trees f.drain))),
      each_len (scalar (uint f.count)) (tree (scalar (uint f.credit)) (drain_trees f.drain)),
      each_len (scalar (uint f.credit)) (drain_trees f.drain),
      uint_short f.handle,
      uint_short f.count,
      uint_short f.credit,
      drain_short f.drain,
    )

session_short : (f : LinkFlow) (ts : Trees) → length (written_each (session_trees f ts)).text ≤ 20 + length (written_each ts).text
session_short f ts =
    omega (
      arith,
      each_len (scalar (uint f.incoming)) (tree (scalar (uint 2048)) (tree (scalar (uint f.outgoing)) (tree (scalar (uint 2048)) ts))),
      each_len (scalar (uint 2048)) (tree (scalar (uint f.outgoing)) (tree (scalar (uint 2048)) ts)),
      each_len (scalar (uint f.outgoing)) (tree (scalar (uint 2048)) ts),
      each_len (scalar (uint 2048)) ts,
      uint_short f.incoming,
      uint_short f.outgoing,
    )

flow_short : (f : LinkFlow) → length (value_text (flow_tree f)) ≤ 100
flow_short f =
    omega (
      arith,
      described_len (scalar (ulong 19)) (list (flow_trees f)),
      list_short (flow_trees f),
      session_short f (link_trees f),
      link_short f,
    )

pub link_flow_spelled : (f : LinkFlow) → HasSpelling (perf_tree (link_flow_perf f))
link_flow_spelled f = by f.drain
  where
    by : (d : Bool) → HasSpelling (perf_tree (link_flow_perf (record f { drain = d })))
    by false = (omega arith, (tt, (tt, (tt, (tt, (tt, (tt, (tt, (tt, tt)))))))), omega (arith, flow_short (record f { drain = false })), omega arith)
    by true = (omega arith, (tt, (tt, (tt, (tt, (tt, (tt, (tt, (tt, (tt, (tt, tt)))))))))), omega (arith, flow_short (record f { drain = true })), omega arith)

-- ---- a frame of a transfer, which others follow

abbrev tag_of : TransferOut → List ℕ
tag_of t = to_be_bytes w64 t.frame.publish

abbrev last_trees : Trees
last_trees = tree (scalar (boolean true)) no_trees

-- of the first, and of the others
abbrev first_trees : TransferOut → Trees
first_trees t =
    tree (scalar (uint t.id)) (tree (scalar (binary (tag_of t))) (tree (scalar (uint 0)) (tree (scalar (boolean false)) last_trees)))

abbrev next_trees : Trees
next_trees = tree (scalar null) (tree (scalar null) (tree (scalar null) (tree (scalar null) last_trees)))

abbrev transfer_trees : TransferOut → Bool → Trees
transfer_trees t true = tree (scalar (uint t.handle)) (first_trees t)
transfer_trees t false = tree (scalar (uint t.handle)) next_trees

abbrev transfer_tree : TransferOut → Bool → Tree
transfer_tree t first = described (scalar (ulong 20)) (list (transfer_trees t first))

transfer_is : (t : TransferOut) → perf_tree (transfer_perf t true) ≡ transfer_tree t t.frame.first
transfer_is t = by t.frame.first
  where
    by : (b : Bool) → perf_tree (transfer_perf (record t { frame = record t.frame { first = b } }) true) ≡ transfer_tree t b
    by true = refl
    by false = refl

first_len : (t : TransferOut) → length (written_each (first_trees t)).text ≡ length (value_text (scalar (uint t.id))) + 13
first_len t =
    let tag = tag_of t in
    omega (
      arith,
      each_len (scalar (uint t.id)) (tree (scalar (binary tag)) (tree (scalar (uint 0)) (tree (scalar (boolean false)) last_trees))),
      each_len (scalar (binary tag)) (tree (scalar (uint 0)) (tree (scalar (boolean false)) last_trees)),
      binary_brief tag (omega arith),
    )

-- behind the handle
abbrev fields_len : TransferOut → Bool → ℕ
fields_len t true = length (value_text (scalar (uint t.id))) + 13
fields_len t false = 5

fields_are : (t : TransferOut) (first : Bool) → length (written_each (transfer_trees t first)).text ≡ length (value_text (scalar (uint t.handle))) + fields_len t first
fields_are t true = omega (arith, each_len (scalar (uint t.handle)) (first_trees t), first_len t)
fields_are t false = omega (arith, each_len (scalar (uint t.handle)) next_trees)

tree_len : (t : TransferOut) (first : Bool) → length (value_text (transfer_tree t first)) ≡ 6 + (length (value_text (scalar (uint t.handle))) + fields_len t first)
tree_len t true =
    omega (
      arith,
      described_len (scalar (ulong 20)) (list (transfer_trees t true)),
      list_brief (transfer_trees t true) (omega arith) (omega arith) (omega (arith, fields_are t true, uint_short t.handle, uint_short t.id)),
      fields_are t true,
    )
tree_len t false =
    omega (
      arith,
      described_len (scalar (ulong 20)) (list (transfer_trees t false)),
      list_brief (transfer_trees t false) (omega arith) (omega arith) (omega (arith, fields_are t false, uint_short t.handle)),
      fields_are t false,
    )

pub transfer_len : (t : TransferOut) → length (perf_text (transfer_perf t true)) ≡ 6 + (length (value_text (scalar (uint t.handle))) + fields_len t t.frame.first)
transfer_len t =
    subst (λ x. length (value_text x) ≡ 6 + (length (value_text (scalar (uint t.handle))) + fields_len t t.frame.first)) (sym (transfer_is t)) (tree_len t t.frame.first)
