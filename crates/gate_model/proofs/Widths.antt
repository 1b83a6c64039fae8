-- How many bytes a frame to a container has at most.
use Rattle.std.proofs.Common.{◌≡◌, ℕ, ◌+◌, ◌<◌, ◌≤◌, Bool, true, false, if◌then◌else◌, List, [], ◌∷◌, length, Option, None, Some, arith}
use Rattle.std.proofs.Common.{length-append}
use Rattle.frames_10.specs.Frames.{frame_text, text_behind}
use Rattle.frames_10.specs.declared.frame.Kind10.{Kind10}
use Rattle.types_10.specs.Measures.{head_len}
use Rattle.types_10.specs.Tree.{Tree, Trees, array, described, list, mapping, scalar, trees_of}
use Rattle.types_10.specs.Writing.{list_kind, value_text, written as written_value, written_each}
use Rattle.types_10.specs.Fields.{in_front, trim, a_binary, a_boolean, a_string, a_symbol, a_ubyte}
use Rattle.types_10.specs.Fields.{a_uint, a_ulong, a_ushort, absent, is_absent, maybe}
use Rattle.types_10.proofs.Measures.{whole_len}
use Rattle.performatives_10.specs.Composites.{composite}
use Rattle.performatives_10.specs.Conditions.{name_of}
use Rattle.performatives_10.specs.Fields.{Need, Row}
use Rattle.performatives_10.specs.Fields.{defaults, mandatory, optional}
use Rattle.performatives_10.specs.Reading.{code_of, rows}
use Rattle.performatives_10.specs.View.{fields_of, kind_of}
use Rattle.performatives_10.specs.Writing.{is_same_boolean, perf_text, written, written_field}
use Rattle.performatives_10.specs.declared.condition.Condition.{Condition}
use Rattle.performatives_10.specs.declared.condition.Condition.TheVariants as condition
use Rattle.performatives_10.specs.declared.performative.Perf.{Perf}

-- ---- values that hold no other

pub boolean_few : (b : Bool) → length (value_text (a_boolean b)) ≤ 1
boolean_few true = omega arith
boolean_few false = omega arith

pub ubyte_few : (n : ℕ) → length (value_text (a_ubyte n)) ≤ 2
ubyte_few n = omega arith

pub ushort_few : (n : ℕ) → length (value_text (a_ushort n)) ≤ 3
ushort_few n = omega arith

pub uint_few : (n : ℕ) → length (value_text (a_uint n)) ≤ 5
uint_few n = grind arith

pub ulong_few : (n : ℕ) → length (value_text (a_ulong n)) ≤ 9
ulong_few n = grind arith

string_head : (s : List ℕ) → head_len (written_value (a_string s)).kind ≤ 4
string_head s = grind arith

symbol_head : (s : List ℕ) → head_len (written_value (a_symbol s)).kind ≤ 4
symbol_head s = grind arith

binary_head : (s : List ℕ) → head_len (written_value (a_binary s)).kind ≤ 4
binary_head s = grind arith

pub string_few : (k : ℕ) (s : List ℕ) → length s ≤ k → length (value_text (a_string s)) ≤ 5 + k
string_few k s short = omega (arith, whole_len (a_string s), string_head s, short)

pub symbol_few : (k : ℕ) (s : List ℕ) → length s ≤ k → length (value_text (a_symbol s)) ≤ 5 + k
symbol_few k s short = omega (arith, whole_len (a_symbol s), symbol_head s, short)

pub binary_few : (k : ℕ) (s : List ℕ) → length s ≤ k → length (value_text (a_binary s)) ≤ 5 + k
binary_few k s short = omega (arith, whole_len (a_binary s), binary_head s, short)

-- one that may be absent
pub maybe_few : {A : Type 0} (f : A → Tree) (m : ℕ) (o : Option A) → 1 ≤ m → ((x : A) → length (value_text (f x)) ≤ m) → length (value_text (maybe f o)) ≤ m
maybe_few f m None some few = some
maybe_few f m (Some x) some few = few x

-- ---- lists

list_head : (count : ℕ) (body : List ℕ) → head_len (list_kind count body) ≤ 8
list_head count body = grind arith

list_few : (ts : Trees) → length (value_text (list ts)) ≤ 9 + length (written_each ts).text
list_few ts = omega (arith, whole_len (list ts), list_head (written_each ts).count (written_each ts).text)

some_head : (count : ℕ) (body : List ℕ) → 0 < count → 2 ≤ head_len (list_kind count body)
some_head count body some = grind arith

brief_head : (count : ℕ) (body : List ℕ) → 0 < count → count < 256 → length body < 255 → head_len (list_kind count body) ≡ 2
brief_head count body some few short = grind arith

-- one that holds some, and a short one
pub list_some : (ts : Trees) → 0 < (written_each ts).count → 3 + length (written_each ts).text ≤ length (value_text (list ts))
list_some ts some = omega (arith, whole_len (list ts), some_head (written_each ts).count (written_each ts).text some)

pub list_brief : (ts : Trees) → 0 < (written_each ts).count → (written_each ts).count < 256 → length (written_each ts).text < 255
    → length (value_text (list ts)) ≡ 3 + length (written_each ts).text
list_brief ts some few short = omega (arith, whole_len (list ts), brief_head (written_each ts).count (written_each ts).text some few short)

pub described_long : (d t : Tree) → length (value_text (described d t)) ≡ 1 + length (value_text d) + length (value_text t)
described_long d t = omega (arith, length-append (value_text d) (value_text t))

value_some : (t : Tree) → 1 ≤ length (value_text t)
value_some (scalar s) = omega arith
value_some (list ts) = omega arith
value_some (mapping ps) = omega arith
value_some (array ts) = omega arith
value_some (described d t) = omega arith

-- so many bytes have all of them
abbrev sizes : List Tree → ℕ
sizes [] = 0
sizes (t ∷ ts) = length (value_text t) + sizes ts

front_few : (t : Tree) (us : List Tree) (n : ℕ) → length (written_each (trees_of us)).text ≤ n
    → length (written_each (trees_of (in_front t us))).text ≤ length (value_text t) + n
front_few t [] n few = by (is_absent t)
  where
    by : (b : Bool) → length (written_each (trees_of (if b then [] else t ∷ []))).text ≤ length (value_text t) + n
    by true = omega arith
    by false = omega (arith, length-append (value_text t) [])
front_few t (u ∷ us) n few = omega (arith, few, length-append (value_text t) (written_each (trees_of (u ∷ us))).text)

trim_few : (ts : List Tree) → length (written_each (trees_of (trim ts))).text ≤ sizes ts
trim_few [] = omega arith
trim_few (t ∷ ts) = front_few t (trim ts) (sizes ts) (trim_few ts)

composed_few : (code : ℕ) (ts : List Tree) → length (value_text (composite code ts)) ≤ 19 + sizes ts
composed_few code ts = omega (arith, described_long (a_ulong code) (list (trees_of (trim ts))), ulong_few code, list_few (trees_of (trim ts)), trim_few ts)

field_few : (need : Need) (t : Tree) → length (value_text (written_field need t)) ≤ length (value_text t)
field_few mandatory t = omega arith
field_few optional t = omega arith
field_few (defaults s) t = by (is_same_boolean s t)
  where
    by : (b : Bool) → length (value_text (if b then absent else t)) ≤ length (value_text t)
    by true = value_some t
    by false = omega arith

written_few : (rs : List Row) (ts : List Tree) → sizes (written rs ts) ≤ sizes ts
written_few [] ts = omega arith
written_few (r ∷ rs) [] = omega arith
written_few (r ∷ rs) (t ∷ ts) = omega (arith, field_few r.1 t, written_few rs ts)

-- ---- composites and frames

-- each has at most so many
abbrev pub AreFew : List Tree → List ℕ → Type 0
AreFew [] ms = Unit {0}
AreFew (t ∷ ts) [] = ⊥
AreFew (t ∷ ts) (m ∷ ms) = (length (value_text t) ≤ m) × AreFew ts ms

abbrev pub total : List ℕ → ℕ
total [] = 0
total (m ∷ ms) = m + total ms

sizes_few : (ts : List Tree) (ms : List ℕ) → AreFew ts ms → sizes ts ≤ total ms
sizes_few [] ms few = omega arith
sizes_few (t ∷ ts) [] few = absurd few
sizes_few (t ∷ ts) (m ∷ ms) few = omega (arith, few.0, sizes_few ts ms few.1)

pub composite_few : (code : ℕ) (ts : List Tree) (ms : List ℕ) → AreFew ts ms → length (value_text (composite code ts)) ≤ 19 + total ms
composite_few code ts ms few = omega (arith, composed_few code ts, sizes_few ts ms few)

perf_few : (p : Perf) (ms : List ℕ) → AreFew (fields_of p) ms → length (perf_text p) ≤ 19 + total ms
perf_few p ms few =
    omega (
      arith,
      composed_few (code_of (kind_of p)) (written (rows (kind_of p)) (fields_of p)),
      written_few (rows (kind_of p)) (fields_of p),
      sizes_few (fields_of p) ms few,
    )

pub frame_long : (k : Kind10) (channel : ℕ) (body : List ℕ) → length (frame_text (record { kind = k; channel = channel; body = body })) ≡ 8 + length body
unfolding text_behind
frame_long k channel body = omega arith

pub frame_few : (k : Kind10) (channel : ℕ) (p : Perf) (ms : List ℕ) → AreFew (fields_of p) ms → total ms ≤ 485
    → length (frame_text (record { kind = k; channel = channel; body = perf_text p })) ≤ 512
frame_few k channel p ms few small = omega (arith, frame_long k channel (perf_text p), perf_few p ms few, small)

-- ---- names of conditions

pub condition_few : (c : Condition) → length (name_of c) ≤ 40
condition_few condition.InternalError = omega arith
condition_few x = omega arith
