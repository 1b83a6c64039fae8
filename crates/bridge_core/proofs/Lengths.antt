-- How long what is written of a value is, and a frame.
use Rattle.std.proofs.Common.{◌≡◌, ℕ, ◌+◌, ◌<◌, ◌≤◌, List, length, length-append, arith}
use Rattle.frames_10.specs.Frames.{frame_text, text_behind}
use Rattle.frames_10.specs.declared.frame.Kind10.{Kind10}
use Rattle.types_10.specs.Tree.{Tree, binary, described, list, scalar, string, symbol, Trees, tree}
use Rattle.types_10.specs.Tree.{uint}
use Rattle.types_10.specs.Writing.{list_kind, value_text, written, written_each}
use Rattle.types_10.specs.Measures.{head_len}
use Rattle.types_10.proofs.Measures.{whole_len}

-- ---- texts

string_head : (s : List ℕ) → head_len (written (scalar (string s))).kind ≤ 4
string_head s = grind arith

symbol_head : (s : List ℕ) → head_len (written (scalar (symbol s))).kind ≤ 4
symbol_head s = grind arith

binary_head : (s : List ℕ) → head_len (written (scalar (binary s))).kind ≤ 4
binary_head s = grind arith

pub string_short : (s : List ℕ) → length (value_text (scalar (string s))) ≤ length s + 5
string_short s = omega (arith, whole_len (scalar (string s)), string_head s)

pub symbol_short : (s : List ℕ) → length (value_text (scalar (symbol s))) ≤ length s + 5
symbol_short s = omega (arith, whole_len (scalar (symbol s)), symbol_head s)

pub binary_short : (s : List ℕ) → length (value_text (scalar (binary s))) ≤ length s + 5
binary_short s = omega (arith, whole_len (scalar (binary s)), binary_head s)

-- one whose length fits a byte
binary_brief_head : (s : List ℕ) → length s < 256 → head_len (written (scalar (binary s))).kind ≡ 1
binary_brief_head s short = grind arith

pub binary_brief : (s : List ℕ) → length s < 256 → length (value_text (scalar (binary s))) ≡ length s + 2
binary_brief s short = omega (arith, whole_len (scalar (binary s)), binary_brief_head s short)

-- ---- numbers

pub uint_short : (n : ℕ) → length (value_text (scalar (uint n))) ≤ 5
uint_short n = grind arith

-- ---- lists

list_head : (count : ℕ) (body : List ℕ) → head_len (list_kind count body) ≤ 8
list_head count body = grind arith

pub list_short : (ts : Trees) → length (value_text (list ts)) ≤ length (written_each ts).text + 9
list_short ts = omega (arith, whole_len (list ts), list_head (written_each ts).count (written_each ts).text)

-- one whose count and size fit a byte each
brief_head : (count : ℕ) (body : List ℕ) → 0 < count → count < 256 → length body < 255 → head_len (list_kind count body) ≡ 2
brief_head count body some few short = grind arith

pub list_brief : (ts : Trees) → 0 < (written_each ts).count → (written_each ts).count < 256 → length (written_each ts).text < 255 → length (value_text (list ts)) ≡ length (written_each ts).text + 3
list_brief ts some few short = omega (arith, whole_len (list ts), brief_head (written_each ts).count (written_each ts).text some few short)

pub each_len : (t : Tree) (ts : Trees) → length (written_each (tree t ts)).text ≡ length (value_text t) + length (written_each ts).text
each_len t ts = length-append (value_text t) (written_each ts).text

pub described_len : (d t : Tree) → length (value_text (described d t)) ≡ 1 + length (value_text d) + length (value_text t)
described_len d t = omega (arith, length-append (value_text d) (value_text t))

-- ---- frames

pub frame_len : (kind : Kind10) (channel : ℕ) (body : List ℕ) → length (frame_text (record { kind = kind; channel = channel; body = body })) ≡ 8 + length body
unfolding text_behind
frame_len kind channel body = omega arith
