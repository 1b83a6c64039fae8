-- How many bytes are written of a value (AMQP 1.0 1.6): those of a content that its kind alone
-- decides, and the others.
use Rattle.std.specs.Prelude.{◌≡◌, ℕ, ◌+◌, ◌-◌, ◌*◌, ◌^◌, min, List, ◌++◌, length, if◌then◌else◌}
use Rattle.std.specs.Int.{byte_len, to_be_bytes}
use Rattle.types_10.specs.Tree.{Scalar, null, boolean, ubyte, byte, ushort, short, uint, int, ulong}
use Rattle.types_10.specs.Tree.{long, float, double, decimal32, decimal64, decimal128, char}
use Rattle.types_10.specs.Tree.{timestamp, uuid, binary, string, symbol, Tree, scalar, list}
use Rattle.types_10.specs.Tree.{mapping, array, described, Trees, no_trees, tree}
use Rattle.types_10.specs.Kinds.{wide_width, size_width}
use Rattle.types_10.specs.Writing.{is_brief, written, written_each, written_pairs, array_body}
use Rattle.types_10.specs.Writing.{value_text, front_load, inner_load, each_load, first_load}
use Rattle.types_10.specs.Writing.{inner_loads}
use Rattle.types_10.specs.declared.kind.Kind.{Kind}
use Rattle.types_10.specs.declared.kind.Kind.TheVariants as kind
use Rattle.types_10.specs.declared.kind.Single.{Single}
use Rattle.types_10.specs.declared.kind.Single.TheVariants as single
use Rattle.types_10.specs.declared.kind.Size.{Size}
use Rattle.types_10.specs.declared.kind.Size.TheVariants as size
use Rattle.types_10.specs.View.{value_tree}
use Rattle.types_10.specs.declared.value.Value10.{Value10}
use Rattle.types_10.specs.declared.measure.Measure.{Measure}
use Rattle.types_10.specs.declared.measure.EachMeasure.{EachMeasure}
use Rattle.types_10.specs.declared.load.Load.{Load}
use Rattle.types_10.specs.declared.load.EachLoad.{EachLoad}

-- a length as the program has it: no higher than a usize goes
abbrev pub capped : ℕ → ℕ
capped n = min n (2 ^ 64 - 1)

-- the bytes that the kind decides: a number, the length of a text, or a size and a count
abbrev pub single_head : Single → ℕ
single_head (single.Bare k) = 0
single_head single.Boolean = 1
single_head (single.Octet k) = 1
single_head (single.Wide k) = byte_len (wide_width k)
single_head single.Char = 4
single_head (single.Sixteen k) = 0
single_head (single.Text k z) = byte_len (size_width z)

abbrev pub head_len : Kind → ℕ
head_len (kind.Single k) = single_head k
head_len kind.EmptyList = 0
head_len (kind.List z) = 2 * byte_len (size_width z)
head_len (kind.Map z) = 2 * byte_len (size_width z)
head_len (kind.Array z) = 2 * byte_len (size_width z)
head_len kind.Described = 0

-- the other bytes of a content: sixteen that are one number, a text, or what a value holds
abbrev pub scalar_body : Scalar → ℕ
scalar_body null = 0
scalar_body (boolean b) = 0
scalar_body (ubyte n) = 0
scalar_body (byte z) = 0
scalar_body (ushort n) = 0
scalar_body (short z) = 0
scalar_body (uint n) = 0
scalar_body (int z) = 0
scalar_body (ulong n) = 0
scalar_body (long z) = 0
scalar_body (float n) = 0
scalar_body (double n) = 0
scalar_body (decimal32 n) = 0
scalar_body (decimal64 n) = 0
scalar_body (decimal128 s) = length s
scalar_body (char n) = 0
scalar_body (timestamp z) = 0
scalar_body (uuid s) = length s
scalar_body (binary s) = length s
scalar_body (string s) = length s
scalar_body (symbol s) = length s

abbrev pub body_len : Tree → ℕ
body_len (scalar s) = scalar_body s
body_len (list ts) = length (written_each ts).text
body_len (mapping ps) = length (written_pairs ps).1
body_len (array ts) = length (array_body (written_each ts))
body_len (described d t) = body_len t

-- those of values together
abbrev pub bodies_len : Trees → ℕ
bodies_len no_trees = 0
bodies_len (tree t ts) = body_len t + bodies_len ts

-- what the program knows of a value before it is written
pub record IsMeasure (m : Measure) (t : Tree) : Type 0 where
  pub kind : m.kind ≡ (written t).kind
  pub front : m.front ≡ capped (length (written t).front)
  pub body : m.body ≡ capped (body_len t)

-- and of values together
pub record IsEachMeasure (m : EachMeasure) (ts : Trees) : Type 0 where
  pub text : m.text ≡ capped (length (written_each ts).text)
  pub front : m.front ≡ capped (length (written_each ts).front)
  pub kind : m.kind ≡ (written_each ts).kind
  pub bodies : m.bodies ≡ capped (bodies_len ts)

-- what the program knows of what a value takes besides its bytes
pub record IsLoad (m : Load) (t : Tree) : Type 0 where
  pub front : m.front ≡ capped (front_load t)
  pub inner : m.inner ≡ capped (inner_load t)

-- and of what values together take
pub record IsEachLoad (m : EachLoad) (ts : Trees) : Type 0 where
  pub whole : m.whole ≡ capped (each_load ts)
  pub first : m.first ≡ capped (first_load ts)
  pub inner : m.inner ≡ capped (inner_loads ts)

-- how wide the size and the count of what a value holds are, where it stands alone
abbrev pub held_size : ℕ → List ℕ → Size
held_size count body = if is_brief count body then size.Short else size.Long

-- a pair of a map: the key, and then the value
abbrev pub pair_text : Value10 × Value10 → List ℕ
pair_text p = value_text (value_tree p.0) ++ value_text (value_tree p.1)

-- the size, which counts the count too, and the count before so many bytes
abbrev pub head_text : Size → ℕ → ℕ → List ℕ
head_text z count body =
    to_be_bytes (size_width z) (byte_len (size_width z) + body) ++ to_be_bytes (size_width z) count
