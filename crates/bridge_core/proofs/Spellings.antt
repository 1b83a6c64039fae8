-- The open and the sasl-init of a pair can be written, and they are short.
use Rattle.std.proofs.Common.{◌≡◌, ℕ, ◌<◌, ◌≤◌, ◌^◌, ◌||◌, true, List, [], ◌∷◌, ◌++◌, length}
use Rattle.std.proofs.Common.{nat_le, Option, None, Some, refl, sym, subst, length-append, arith}
use mathlib.Core.Logic.{inl, inr}
use Rattle.std.specs.Prelude.{IfSome, IsTrue, decimal, codes}
use Rattle.std.specs.List.{list_all}
use Rattle.std.specs.Char.{is_ascii}
use Rattle.std.specs.Str.{bytes_eq, is_utf8, IsAscii}
use Rattle.std.proofs.lemmas.Bool.{and_parts, leb-true, ltb-true, or_cases}
use Rattle.std.proofs.lemmas.Fmt.{IsAscii-decimal, length-decimal-le}
use Rattle.std.proofs.lemmas.Slice.Eq.{bytes_eq-Decides}
use Rattle.std.proofs.lemmas.Str.{IsAscii-append, IsUtf8-from_ascii, is_utf8-from_IsUtf8}
use Rattle.std.proofs.lemmas.Str.Ascii.{IsAscii-cons, IsAscii-nil}
use Rattle.types_10.specs.Tree.{Tree, Trees, binary, described, list, no_trees, null, scalar}
use Rattle.types_10.specs.Tree.{string, symbol, tree, uint, ulong, ushort}
use Rattle.types_10.specs.Writing.{HasSpelling, value_text, written_each}
use Rattle.performatives_10.specs.Writing.{perf_text, perf_tree}
use Rattle.machine_10.specs.declared.state.Upstream.{Upstream}
use Rattle.machine_091.specs.RefusalsOpening.{is_login}
use Rattle.machine_091.specs.declared.limits.TheConstants.{RESPONSE_MAX}
use Rattle.gate_model.specs.Setup.{IsHost, IsInForm, IsName, SetupText}
use Rattle.gate_model.specs.Spelling.{begin_perf, container_id, flow_perf, init_of, open_of}
use Rattle.bridge_core.proofs.Lengths.{binary_short, described_len, each_len, list_short}
use Rattle.bridge_core.proofs.Lengths.{string_short, symbol_short, uint_short}

-- ---- the trees

abbrev host_tree : Option (List ℕ) → Tree
host_tree None = scalar null
host_tree (Some host) = scalar (string host)

-- frames of 65,536 bytes, channels up to 255, 60 s
abbrev limit_trees : Trees
limit_trees = tree (scalar (uint 65536)) (tree (scalar (ushort 255)) (tree (scalar (uint 60000)) no_trees))

abbrev open_trees : Option (List ℕ) → List ℕ → Trees
open_trees host id = tree (scalar (string id)) (tree (host_tree host) limit_trees)

abbrev open_tree : Option (List ℕ) → List ℕ → Tree
open_tree host id = described (scalar (ulong 16)) (list (open_trees host id))

open_is : (s : SetupText) (n : ℕ) → perf_tree (open_of s n) ≡ open_tree s.host (container_id s.name n)
open_is s n = by s.host
  where
    by : (o : Option (List ℕ)) → perf_tree (open_of (record s { host = o }) n) ≡ open_tree o (container_id s.name n)
    by None = refl
    by (Some host) = refl

abbrev init_trees : List ℕ → List ℕ → Trees
init_trees mechanism response = tree (scalar (symbol mechanism)) (tree (scalar (binary response)) no_trees)

abbrev init_tree : List ℕ → List ℕ → Tree
init_tree mechanism response = described (scalar (ulong 65)) (list (init_trees mechanism response))

init_is : (c : Upstream) → perf_tree (init_of c) ≡ init_tree c.mechanism c.response
init_is c = refl

-- ---- the open

ascii_by : (s : List ℕ) → list_all is_ascii s ≡ true → IsAscii s
ascii_by [] h = IsAscii-nil
ascii_by (b ∷ bs) h = let p = and_parts (is_ascii b) (list_all is_ascii bs) h in IsAscii-cons b bs (ltb-true b 128 p.0) (ascii_by bs p.1)

id_utf8 : (name : List ℕ) (n : ℕ) → IsName name → n < 2 ^ 32 → IsTrue (is_utf8 (container_id name n))
id_utf8 name n i fits =
    let number : IsAscii (codes "-" ++ decimal n) = IsAscii-append (codes "-") (decimal n) (ascii_by (codes "-") refl) (IsAscii-decimal n (omega arith)) in
    let all : IsAscii (container_id name n) = IsAscii-append name (codes "-" ++ decimal n) (ascii_by name i.ascii) number in
    is_utf8-from_IsUtf8 (container_id name n) (IsUtf8-from_ascii (container_id name n) all)

-- a number of 32 bits has at most ten digits
id_short : (name : List ℕ) (n : ℕ) → IsName name → n < 2 ^ 32 → length (container_id name n) ≤ 111
id_short name n i fits =
    omega (arith, length-append name (codes "-" ++ decimal n), length-append (codes "-") (decimal n), length-decimal-le 10 n (omega arith) (omega arith) (omega arith), i.short)

host_short : (o : Option (List ℕ)) → IfSome o IsHost → length (value_text (host_tree o)) ≤ 205
host_short None i = omega arith
host_short (Some host) i = omega (arith, string_short host, i.short)

limits_short : length (written_each limit_trees).text ≤ 13
limits_short = omega arith

open_tree_short : (o : Option (List ℕ)) (id : List ℕ) → IfSome o IsHost → length id ≤ 111 → length (value_text (open_tree o id)) ≤ 504
open_tree_short o id host short =
    omega (
      arith,
      described_len (scalar (ulong 16)) (list (open_trees o id)),
      list_short (open_trees o id),
      each_len (scalar (string id)) (tree (host_tree o) limit_trees),
      each_len (host_tree o) limit_trees,
      string_short id,
      host_short o host,
      limits_short,
      short,
    )

open_tree_spelled : (o : Option (List ℕ)) (id : List ℕ) → IfSome o IsHost → length id ≤ 111 → IsTrue (is_utf8 id) → HasSpelling (open_tree o id)
open_tree_spelled None id host short utf8 = (omega arith, (tt, (utf8, (tt, (tt, (tt, (tt, tt)))))), omega (arith, open_tree_short None id host short), omega arith)
open_tree_spelled (Some h) id host short utf8 = (omega arith, (tt, (utf8, (host.utf8, (tt, (tt, (tt, tt)))))), omega (arith, open_tree_short (Some h) id host short), omega arith)

pub open_short : (s : SetupText) (n : ℕ) → IsInForm s → n < 2 ^ 32 → length (perf_text (open_of s n)) ≤ 504
open_short s n i fits =
    let id = container_id s.name n in
    subst (λ t. length (value_text t) ≤ 504) (sym (open_is s n)) (open_tree_short s.host id i.host (id_short s.name n i.name fits))

pub open_spelled : (s : SetupText) (n : ℕ) → IsInForm s → n < 2 ^ 32 → HasSpelling (perf_tree (open_of s n))
open_spelled s n i fits =
    let id = container_id s.name n in
    subst HasSpelling (sym (open_is s n)) (open_tree_spelled s.host id i.host (id_short s.name n i.name fits) (id_utf8 s.name n i.name fits))

-- ---- the sasl-init

-- the name of a mechanism
record IsMechanism (m : List ℕ) : Type 0 where
  ascii : IsTrue (list_all is_ascii m)
  short : length m ≤ 9

mechanism_by : (m : List ℕ) → (bytes_eq m (codes "PLAIN") || bytes_eq m (codes "ANONYMOUS")) ≡ true → IsMechanism m
mechanism_by m e =
    elim (or_cases (bytes_eq m (codes "PLAIN")) (bytes_eq m (codes "ANONYMOUS")) e) [
      | inl a ↦ subst IsMechanism (sym ((bytes_eq-Decides m (codes "PLAIN")).0 a)) (record { ascii = refl; short = omega arith })
      | inr b ↦ subst IsMechanism (sym ((bytes_eq-Decides m (codes "ANONYMOUS")).0 b)) (record { ascii = refl; short = omega arith })
    ]

login_bounds : (m r : List ℕ) → is_login m r ≡ true → IsMechanism m × (length r ≤ 300)
login_bounds m r e =
    let p = and_parts (bytes_eq m (codes "PLAIN") || bytes_eq m (codes "ANONYMOUS")) (nat_le (length r) RESPONSE_MAX) e in
    (mechanism_by m p.0, leb-true (length r) RESPONSE_MAX p.1)

init_tree_short : (m r : List ℕ) → length m ≤ 9 → length r ≤ 300 → length (value_text (init_tree m r)) ≤ 504
init_tree_short m r few short =
    omega (
      arith,
      described_len (scalar (ulong 65)) (list (init_trees m r)),
      list_short (init_trees m r),
      each_len (scalar (symbol m)) (tree (scalar (binary r)) no_trees),
      each_len (scalar (binary r)) no_trees,
      symbol_short m,
      binary_short r,
      few,
      short,
    )

init_tree_spelled : (m r : List ℕ) → IsMechanism m → length r ≤ 300 → HasSpelling (init_tree m r)
init_tree_spelled m r i short = (omega arith, (tt, (i.ascii, (tt, tt))), omega (arith, init_tree_short m r i.short short), omega arith)

pub init_short : (c : Upstream) → is_login c.mechanism c.response ≡ true → length (perf_text (init_of c)) ≤ 504
init_short c e =
    let b = login_bounds c.mechanism c.response e in
    subst (λ t. length (value_text t) ≤ 504) (sym (init_is c)) (init_tree_short c.mechanism c.response b.0.short b.1)

pub init_spelled : (c : Upstream) → is_login c.mechanism c.response ≡ true → HasSpelling (perf_tree (init_of c))
init_spelled c e =
    let b = login_bounds c.mechanism c.response e in
    subst HasSpelling (sym (init_is c)) (init_tree_spelled c.mechanism c.response b.0 b.1)

-- ---- the begin

pub begin_short : length (perf_text begin_perf) ≤ 504
begin_short = omega arith

pub begin_spelled : HasSpelling (perf_tree begin_perf)
begin_spelled = (omega arith, (tt, (tt, (tt, (tt, (tt, (tt, tt)))))), omega arith, omega arith)

-- ---- a flow

abbrev flow_trees : ℕ → ℕ → Trees
flow_trees i o = tree (scalar (uint i)) (tree (scalar (uint 2048)) (tree (scalar (uint o)) (tree (scalar (uint 2048)) no_trees)))

abbrev flow_tree : ℕ → ℕ → Tree
flow_tree i o = described (scalar (ulong 19)) (list (flow_trees i o))

flow_is : (i o : ℕ) → perf_tree (flow_perf i o) ≡ flow_tree i o
flow_is i o = refl

flow_tree_short : (i o : ℕ) → length (value_text (flow_tree i o)) ≤ 504
flow_tree_short i o =
    omega (
      arith,
      described_len (scalar (ulong 19)) (list (flow_trees i o)),
      list_short (flow_trees i o),
      each_len (scalar (uint i)) (tree (scalar (uint 2048)) (tree (scalar (uint o)) (tree (scalar (uint 2048)) no_trees))),
      each_len (scalar (uint 2048)) (tree (scalar (uint o)) (tree (scalar (uint 2048)) no_trees)),
      each_len (scalar (uint o)) (tree (scalar (uint 2048)) no_trees),
      uint_short i,
      uint_short o,
    )

pub flow_short : (i o : ℕ) → length (perf_text (flow_perf i o)) ≤ 504
flow_short i o = subst (λ t. length (value_text t) ≤ 504) (sym (flow_is i o)) (flow_tree_short i o)

pub flow_spelled : (i o : ℕ) → HasSpelling (perf_tree (flow_perf i o))
flow_spelled i o = subst HasSpelling (sym (flow_is i o)) (omega arith, (tt, (tt, (tt, (tt, (tt, tt))))), omega (arith, flow_tree_short i o), omega arith)
