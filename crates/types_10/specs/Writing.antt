-- What is written of a value (AMQP 1.0 1.6): a code, and the content of that kind. An element of an
-- array is a content alone, of the kind that all elements share; what describes it stands once,
-- before them.
use Rattle.std.specs.Prelude.{◌≡◌, ℕ, ◌+◌, ◌*◌, ◌%◌, ◌<◌, ◌≤◌, ◌^◌, ◌==◌, ◌&&◌, ◌||◌, Bool, nat_lt}
use Rattle.std.specs.Prelude.{if◌then◌else◌, IsTrue, List, [], ◌∷◌, ◌++◌, length, ℤ, pos, negsuc}
use Rattle.std.specs.Int.{Width, w8, w16, w32, w64, to_be_bytes, cast_unsigned}
use Rattle.std.specs.Int.Signed.{le_z, lt_z}
use Rattle.wire_base.specs.Spelling.{text_of}
use Rattle.types_10.specs.Tree.{Scalar, null, boolean, ubyte, byte, ushort, short, uint, int, ulong}
use Rattle.types_10.specs.Tree.{long, float, double, decimal32, decimal64, decimal128, char}
use Rattle.types_10.specs.Tree.{timestamp, uuid, binary, string, symbol, Tree, scalar, list}
use Rattle.types_10.specs.Tree.{mapping, array, described, Trees, no_trees, tree, Pairs, no_pairs}
use Rattle.types_10.specs.Tree.{pair, depth}
use Rattle.types_10.specs.Kinds.{kind_byte, is_bare, is_text, is_character, size_width}
use Rattle.types_10.specs.Loads.{element_load}
use Rattle.types_10.specs.declared.kind.Kind.{Kind}
use Rattle.types_10.specs.declared.kind.Kind.TheVariants as kind
use Rattle.types_10.specs.declared.kind.Single.{Single}
use Rattle.types_10.specs.declared.kind.Single.TheVariants as single
use Rattle.types_10.specs.declared.kind.Bare.TheVariants as bare
use Rattle.types_10.specs.declared.kind.Octet.TheVariants as octet
use Rattle.types_10.specs.declared.kind.Wide.TheVariants as wide
use Rattle.types_10.specs.declared.kind.Sixteen.TheVariants as sixteen
use Rattle.types_10.specs.declared.kind.Text.{Text}
use Rattle.types_10.specs.declared.kind.Text.TheVariants as text
use Rattle.types_10.specs.declared.kind.Size.TheVariants as size

-- ---- values that hold no other

-- an integer that fits one signed byte
abbrev pub is_small : ℤ → Bool
is_small z = le_z (negsuc 127) z && lt_z z (pos 128)

-- a text whose length fits one byte
abbrev pub text_kind : Text → List ℕ → Single
text_kind k s = if nat_lt (length s) 256 then single.Text k size.Short else single.Text k size.Long

-- the kind of a value that stands alone: by its type, the first whose range fits
abbrev pub single_kind : Scalar → Single
single_kind null = single.Bare bare.Null
single_kind (boolean b) = if b then single.Bare bare.True else single.Bare bare.False
single_kind (ubyte n) = single.Octet octet.Ubyte
single_kind (byte z) = single.Octet octet.Byte
single_kind (ushort n) = single.Wide wide.Ushort
single_kind (short z) = single.Wide wide.Short
single_kind (uint n) =
    if n == 0 then single.Bare bare.Uint else if nat_lt n 256 then single.Octet octet.Uint
    else single.Wide wide.Uint
single_kind (int z) = if is_small z then single.Octet octet.Int else single.Wide wide.Int
single_kind (ulong n) =
    if n == 0 then single.Bare bare.Ulong else if nat_lt n 256 then single.Octet octet.Ulong
    else single.Wide wide.Ulong
single_kind (long z) = if is_small z then single.Octet octet.Long else single.Wide wide.Long
single_kind (float n) = single.Wide wide.Float
single_kind (double n) = single.Wide wide.Double
single_kind (decimal32 n) = single.Wide wide.Decimal32
single_kind (decimal64 n) = single.Wide wide.Decimal64
single_kind (decimal128 s) = single.Sixteen sixteen.Decimal128
single_kind (char n) = single.Char
single_kind (timestamp z) = single.Wide wide.Timestamp
single_kind (uuid s) = single.Sixteen sixteen.Uuid
single_kind (binary s) = text_kind text.Binary s
single_kind (string s) = text_kind text.String s
single_kind (symbol s) = text_kind text.Symbol s

-- a number of this width under a kind: nothing, its lowest byte, or all of its bytes
abbrev pub number_content : Single → Width → ℕ → List ℕ
number_content (single.Bare k) w n = []
number_content single.Boolean w n = to_be_bytes w n
number_content (single.Octet k) w n = to_be_bytes w8 (n % 256)
number_content (single.Wide k) w n = to_be_bytes w n
number_content single.Char w n = to_be_bytes w n
number_content (single.Sixteen k) w n = to_be_bytes w n
number_content (single.Text k s) w n = to_be_bytes w n

-- a text behind its length, as wide as the kind says
abbrev pub text_content : Single → List ℕ → List ℕ
text_content (single.Bare k) s = []
text_content single.Boolean s = []
text_content (single.Octet k) s = []
text_content (single.Wide k) s = []
text_content single.Char s = []
text_content (single.Sixteen k) s = []
text_content (single.Text k z) s = text_of (size_width z) s

-- the content of a value under a kind of its type; a signed number is in two's complement
abbrev pub single_content : Single → Scalar → List ℕ
single_content k null = []
single_content k (boolean b) = number_content k w8 (if b then 1 else 0)
single_content k (ubyte n) = number_content k w8 n
single_content k (byte z) = number_content k w8 (cast_unsigned w8 z)
single_content k (ushort n) = number_content k w16 n
single_content k (short z) = number_content k w16 (cast_unsigned w16 z)
single_content k (uint n) = number_content k w32 n
single_content k (int z) = number_content k w32 (cast_unsigned w32 z)
single_content k (ulong n) = number_content k w64 n
single_content k (long z) = number_content k w64 (cast_unsigned w64 z)
single_content k (float n) = number_content k w32 n
single_content k (double n) = number_content k w64 n
single_content k (decimal32 n) = number_content k w32 n
single_content k (decimal64 n) = number_content k w64 n
single_content k (decimal128 s) = s
single_content k (char n) = number_content k w32 n
single_content k (timestamp z) = number_content k w64 (cast_unsigned w64 z)
single_content k (uuid s) = s
single_content k (binary s) = text_content k s
single_content k (string s) = text_content k s
single_content k (symbol s) = text_content k s

-- the same under any kind
abbrev pub scalar_content : Kind → Scalar → List ℕ
scalar_content (kind.Single k) s = single_content k s
scalar_content kind.EmptyList s = []
scalar_content (kind.List z) s = []
scalar_content (kind.Map z) s = []
scalar_content (kind.Array z) s = []
scalar_content kind.Described s = []

-- ---- values that hold others

-- a count and a body whose size, with the count, fits one byte
abbrev pub is_brief : ℕ → List ℕ → Bool
is_brief count body = nat_lt count 256 && nat_lt (length body) 255

abbrev pub list_kind : ℕ → List ℕ → Kind
list_kind count body =
    if count == 0 then kind.EmptyList else if is_brief count body then kind.List size.Short
    else kind.List size.Long

abbrev pub map_kind : ℕ → List ℕ → Kind
map_kind count body = if is_brief count body then kind.Map size.Short else kind.Map size.Long

abbrev pub array_kind : ℕ → List ℕ → Kind
array_kind count body = if is_brief count body then kind.Array size.Short else kind.Array size.Long

-- the size, the count and the body, as wide as the kind says; an empty list may have none of them
abbrev pub held_content : Kind → ℕ → List ℕ → List ℕ
held_content (kind.Single k) count body = []
held_content kind.EmptyList count body = []
held_content (kind.List z) count body =
    text_of (size_width z) (to_be_bytes (size_width z) count ++ body)
held_content (kind.Map z) count body =
    text_of (size_width z) (to_be_bytes (size_width z) count ++ body)
held_content (kind.Array z) count body =
    text_of (size_width z) (to_be_bytes (size_width z) count ++ body)
held_content kind.Described count body = []

-- the kind that elements of these two kinds share: the later code, and of true and false the
-- boolean in a byte
abbrev pub shared : Kind → Kind → Kind
shared j k =
    if (kind_byte j == 65 && kind_byte k == 66) || (kind_byte j == 66
    && kind_byte k == 65) then kind.Single single.Boolean
    else if nat_lt (kind_byte j) (kind_byte k) then k else j

-- what is written of a value: all of it where it stands alone; and of an element of an array the
-- descriptors, each behind its code, the kind of what they describe, and the content under a kind
pub record Written : Type 0 where
  pub text : List ℕ
  pub front : List ℕ
  pub kind : Kind
  pub content : Kind → List ℕ

-- the same of values: their count, each where it stands alone, and as elements the descriptors of
-- the first, the kind that all share, which is that of null where there are none, and the contents
pub record WrittenEach : Type 0 where
  pub count : ℕ
  pub text : List ℕ
  pub front : List ℕ
  pub kind : Kind
  pub contents : Kind → List ℕ

-- a value that isn't described
abbrev pub plain : Kind → (Kind → List ℕ) → Written
plain k content = record { text = kind_byte k ∷ content k; front = []; kind = k; content = content }

-- the constructor of an array, and the elements
abbrev pub array_body : WrittenEach → List ℕ
array_body w = w.front ++ (kind_byte w.kind ∷ w.contents w.kind)

abbrev mutual
  pub written : Tree → Written
  written (scalar s) = plain (kind.Single (single_kind s)) (λ k. scalar_content k s)
  written (list ts) = let w = written_each ts in plain (list_kind w.count w.text)
      (λ k. held_content k w.count w.text)
  written (mapping ps) = let w = written_pairs ps in plain (map_kind w.0 w.1)
      (λ k. held_content k w.0 w.1)
  written (array ts) = let w = written_each ts in plain (array_kind w.count (array_body w))
      (λ k. held_content k w.count (array_body w))
  written (described d t) = let x = written d in let w = written t in
      record {
        text = 0 ∷ x.text ++ w.text;
        front = 0 ∷ x.text
            ++ w.front;
        kind = w.kind;
        content = w.content;
      }

  pub written_each : Trees → WrittenEach
  written_each no_trees = record {
    count = 0;
    text = [];
    front = [];
    kind = kind.Single
        (single.Bare bare.Null);
    contents = λ k. [];
  }
  written_each (tree t ts) = let w = written t in let more = written_each ts in
      record {
        count = more.count + 1;
        text = w.text
            ++ more.text;
        front = w.front;
        kind = shared w.kind more.kind;
        contents = λ k. w.content k ++ more.contents k;
      }

  -- the count of keys and values together, and each key and value
  pub written_pairs : Pairs → ℕ × List ℕ
  written_pairs no_pairs = (0, [])
  written_pairs (pair k t ps) = let more = written_pairs ps in (
    more.0 + 2,
    (written k).text
        ++ (written t).text ++ more.1,
  )

-- the bytes that are written of a value
abbrev pub value_text : Tree → List ℕ
value_text t = (written t).text

-- ---- which values can be written

-- a char is a Unicode scalar value, a string UTF-8, and a symbol ASCII
abbrev pub IsProper : Scalar → Type 0
IsProper null = Unit {0}
IsProper (boolean b) = Unit {0}
IsProper (ubyte n) = Unit {0}
IsProper (byte z) = Unit {0}
IsProper (ushort n) = Unit {0}
IsProper (short z) = Unit {0}
IsProper (uint n) = Unit {0}
IsProper (int z) = Unit {0}
IsProper (ulong n) = Unit {0}
IsProper (long z) = Unit {0}
IsProper (float n) = Unit {0}
IsProper (double n) = Unit {0}
IsProper (decimal32 n) = Unit {0}
IsProper (decimal64 n) = Unit {0}
IsProper (decimal128 s) = Unit {0}
IsProper (char n) = IsTrue (is_character n)
IsProper (timestamp z) = Unit {0}
IsProper (uuid s) = Unit {0}
IsProper (binary s) = Unit {0}
IsProper (string s) = IsTrue (is_text text.String s)
IsProper (symbol s) = IsTrue (is_text text.Symbol s)

-- the descriptors of a value, the outermost first, and what they describe
abbrev pub descriptors : Tree → List Tree
descriptors (scalar s) = []
descriptors (list ts) = []
descriptors (mapping ps) = []
descriptors (array ts) = []
descriptors (described d t) = d ∷ descriptors t

-- those of the first of these values
abbrev pub first_descriptors : Trees → List Tree
first_descriptors no_trees = []
first_descriptors (tree t ts) = descriptors t

-- the type of what a value's descriptors describe: the last code that its row has
abbrev pub scalar_type : Scalar → ℕ
scalar_type null = 64
scalar_type (boolean b) = 86
scalar_type (ubyte n) = 80
scalar_type (byte z) = 81
scalar_type (ushort n) = 96
scalar_type (short z) = 97
scalar_type (uint n) = 112
scalar_type (int z) = 113
scalar_type (ulong n) = 128
scalar_type (long z) = 129
scalar_type (float n) = 114
scalar_type (double n) = 130
scalar_type (decimal32 n) = 116
scalar_type (decimal64 n) = 132
scalar_type (decimal128 s) = 148
scalar_type (char n) = 115
scalar_type (timestamp z) = 131
scalar_type (uuid s) = 152
scalar_type (binary s) = 176
scalar_type (string s) = 177
scalar_type (symbol s) = 179

abbrev pub type_of : Tree → ℕ
type_of (scalar s) = scalar_type s
type_of (list ts) = 208
type_of (mapping ps) = 209
type_of (array ts) = 240
type_of (described d t) = type_of t

-- values of one type: described by equal values, where they are described, and of one type behind
-- that
abbrev pub AreAlike : Tree → Tree → Type 0
AreAlike t u = (descriptors t ≡ descriptors u) × (type_of t ≡ type_of u)

-- each is alike to this one
abbrev pub EachIsAlike : Tree → Trees → Type 0
EachIsAlike t no_trees = Unit {0}
EachIsAlike t (tree u ts) = AreAlike u t × EachIsAlike t ts

-- all are of one type
abbrev pub AreOfOneType : Trees → Type 0
AreOfOneType no_trees = Unit {0}
AreOfOneType (tree t ts) = EachIsAlike t ts

-- texts and chars are proper, an array's elements are of one type, and there are at most 65,536 of
-- those that have no bytes
abbrev mutual
  pub IsWritable : Tree → Type 0
  IsWritable (scalar s) = IsProper s
  IsWritable (list ts) = EachIsWritable ts
  IsWritable (mapping ps) = PairsAreWritable ps
  IsWritable (array ts) = EachIsWritable ts × AreOfOneType ts
      × (IsTrue (is_bare (written_each ts).kind) → (written_each ts).count ≤ 65536)
  IsWritable (described d t) = IsWritable d × IsWritable t

  pub EachIsWritable : Trees → Type 0
  EachIsWritable no_trees = Unit {0}
  EachIsWritable (tree t ts) = IsWritable t × EachIsWritable ts

  pub PairsAreWritable : Pairs → Type 0
  PairsAreWritable no_pairs = Unit {0}
  PairsAreWritable (pair k t ps) = IsWritable k × IsWritable t × PairsAreWritable ps

-- what arrays inside a value take besides the bytes of their elements: those in its descriptors,
-- and those in what they describe; and of values together, all, those in the first one's
-- descriptors, and those in what each one's descriptors describe
abbrev mutual
  pub front_load : Tree → ℕ
  front_load (scalar s) = 0
  front_load (list ts) = 0
  front_load (mapping ps) = 0
  front_load (array ts) = 0
  front_load (described d t) = (front_load d + inner_load d) + front_load t

  pub inner_load : Tree → ℕ
  inner_load (scalar s) = 0
  inner_load (list ts) = each_load ts
  inner_load (mapping ps) = pairs_load ps
  inner_load (array ts) = (first_load ts + (written_each ts).count * element_load
      (first_descriptors ts, (written_each ts).kind)) + inner_loads ts
  inner_load (described d t) = inner_load t

  pub each_load : Trees → ℕ
  each_load no_trees = 0
  each_load (tree t ts) = (front_load t + inner_load t) + each_load ts

  pub first_load : Trees → ℕ
  first_load no_trees = 0
  first_load (tree t ts) = front_load t

  pub inner_loads : Trees → ℕ
  inner_loads no_trees = 0
  inner_loads (tree t ts) = inner_load t + inner_loads ts

  pub pairs_load : Pairs → ℕ
  pairs_load no_pairs = 0
  pairs_load (pair k t ps) =
      (front_load k + inner_load k) + ((front_load t + inner_load t) + pairs_load ps)

abbrev pub load : Tree → ℕ
load t = front_load t + inner_load t

-- a value that can be written: its depth is at most 16, it is written in less than 4 GiB, and its
-- elements take at most 65,536 besides their bytes
abbrev pub HasSpelling : Tree → Type 0
HasSpelling t =
    (depth t ≤ 16) × IsWritable t × (length (value_text t) < 2 ^ 32) × (load t ≤ 65536)
