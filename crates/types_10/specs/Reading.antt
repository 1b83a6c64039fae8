-- Reading a value from left to right, with the first fault that is met (AMQP 1.0 1.6).
-- A reader takes the fault of a value that is cut off, which is another one inside a list, a map or
-- an array: there such a value disagrees with the size; and the offset at which its bytes end.
use Rattle.std.specs.Prelude.{◌≡◌, ℕ, zero, suc, ◌-◌, ◌*◌, ◌/◌, ◌%◌, Bool, ◌==◌, nat_lt, if◌then◌else◌}
use Rattle.std.specs.Prelude.{List, [], ◌∷◌, length, take, drop, Option, Some, None, Ok, Err}
use Rattle.std.specs.Prelude.{Result}
use Rattle.std.specs.Int.{Width, w8, w32}
use Rattle.wire_base.specs.declared.scan.At.{At}
use Rattle.wire_base.specs.declared.stop.Stop.{Stop}
use Rattle.wire_base.specs.declared.stop.Stop.TheVariants as stop
use Rattle.wire_base.specs.Reading.{Reads, ◌>>=◌, made, number_in}
use Rattle.wire_base.specs.Reading as wire
use Rattle.types_10.specs.Tree.{Scalar, boolean, char, Tree, scalar, list, mapping, array}
use Rattle.types_10.specs.Tree.{described, depth, no_trees, trees_of, pairs_of}
use Rattle.types_10.specs.Kinds.{kind_of, is_described, bare_scalar, octet_scalar}
use Rattle.types_10.specs.Kinds.{wide_width, wide_scalar, sixteen_scalar, text_scalar, is_text}
use Rattle.types_10.specs.Kinds.{is_character, size_width}
use Rattle.types_10.specs.Loads.{element_load}
use Rattle.types_10.specs.View.{value_tree}
use Rattle.types_10.specs.declared.value.Value10.{Value10}
use Rattle.types_10.specs.declared.fault.TypeFault.{TypeFault}
use Rattle.types_10.specs.declared.fault.TypeFault.TheVariants as fault
use Rattle.types_10.specs.declared.kind.Kind.{Kind}
use Rattle.types_10.specs.declared.kind.Kind.TheVariants as kind
use Rattle.types_10.specs.declared.kind.Single.{Single}
use Rattle.types_10.specs.declared.kind.Single.TheVariants as single
use Rattle.types_10.specs.declared.kind.Text.{Text}
use Rattle.types_10.specs.declared.kind.Text.TheVariants as text
use Rattle.types_10.specs.declared.kind.Size.{Size}

-- a fault, and where it is
abbrev pub Fault : Type 0
Fault = At TypeFault

abbrev pub fault_at : TypeFault → ℕ → Fault
fault_at f at = record { fault = f; at = at }

-- why a function stopped that takes no memory is the fault that reading gives
abbrev pub IsTold : {Y : Type 0} → Stop Fault → Result Y Fault → Type 0
IsTold stop.Memory read = ⊥
IsTold (stop.Fault fault) read = read ≡ Err fault

-- what a function that takes no memory returned, seen by view, is what reading gives
abbrev pub Tells : {X Y : Type 0} → (X → Y) → Result X (Stop Fault) → Result Y Fault → Type 0
Tells view (Ok x) read = read ≡ Ok (view x)
Tells view (Err e) read = IsTold e read

-- ---- numbers and bytes

-- a number, bytes behind their length, and sixteen bytes; where they are cut off, this fault
abbrev pub count_in : Fault → Width → List ℕ → Reads ℕ Fault
count_in cut w bytes = number_in (λ at. cut) w 0 bytes

abbrev pub bytes_in : Fault → Width → List ℕ → Reads (List ℕ) Fault
bytes_in cut w bytes = wire.text_in (λ at. cut) w 0 bytes

abbrev pub sixteen_in : Fault → List ℕ → Reads (List ℕ) Fault
sixteen_in cut bytes =
    if nat_lt (length bytes) 16 then Err cut else Ok (take 16 bytes, drop 16 bytes)

-- what passes a test; where it does not, a fault that depends on it and on the offset behind it
abbrev pub tested : {A : Type 0} → (A → Bool) → (A → ℕ → Fault) → ℕ → Reads A Fault → Reads A Fault
tested passes fault end read = do
  x ← read
  if passes x.0 then Ok x else Err (fault x.0 (end - length x.1))

-- the fault of a text, at its first byte
abbrev pub text_fault : Text → List ℕ → ℕ → Fault
text_fault text.Binary s after = fault_at fault.NotUtf8 (after - length s)
text_fault text.String s after = fault_at fault.NotUtf8 (after - length s)
text_fault text.Symbol s after = fault_at fault.NotAscii (after - length s)

-- bytes behind their length, which are a text of this kind
abbrev pub text_in : Text → Size → Fault → ℕ → List ℕ → Reads (List ℕ) Fault
text_in kind size cut end bytes =
    tested (is_text kind) (text_fault kind) end (bytes_in cut (size_width size) bytes)

-- ---- values that hold no other

abbrev pub boolean_in : Fault → ℕ → List ℕ → Reads Scalar Fault
boolean_in cut end bytes =
    made (λ n. boolean (n == 1)) (tested (λ n. nat_lt n 2) (λ n after. fault_at fault.UnknownCode
    (after - 1)) end (count_in cut w8 bytes))

abbrev pub char_in : Fault → ℕ → List ℕ → Reads Scalar Fault
char_in cut end bytes =
    made char (tested is_character (λ n after. fault_at fault.NotUtf8 (after - 4)) end
    (count_in cut w32 bytes))

abbrev pub single_in : Single → Fault → ℕ → List ℕ → Reads Scalar Fault
single_in (single.Bare k) cut end bytes = Ok (bare_scalar k, bytes)
single_in single.Boolean cut end bytes = boolean_in cut end bytes
single_in (single.Octet k) cut end bytes = made (octet_scalar k) (count_in cut w8 bytes)
single_in (single.Wide k) cut end bytes = made (wide_scalar k) (count_in cut (wide_width k) bytes)
single_in single.Char cut end bytes = char_in cut end bytes
single_in (single.Sixteen k) cut end bytes = made (sixteen_scalar k) (sixteen_in cut bytes)
single_in (single.Text k s) cut end bytes =
    made (text_scalar k) (text_in k s cut end bytes)

-- ---- values by their code

-- a reader of contents within a room, by their kind, with the offset of the code
abbrev pub Contents : Type 0
Contents = ℕ → Kind → ℕ → Fault → ℕ → List ℕ → Reads (Tree × ℕ) Fault

-- what a code announces; where it announces nothing, the fault at the code
abbrev pub known_in : {A : Type 0} → (Kind → ℕ → Fault → ℕ → List ℕ → Reads A Fault)
    → Option Kind → ℕ → Fault → ℕ → List ℕ → Reads A Fault
known_in read None at cut end bytes = Err (fault_at fault.UnknownCode at)
known_in read (Some k) at cut end bytes = read k at cut end bytes

-- a code, and what it announces
abbrev pub coded_in : {A : Type 0} → (Kind → ℕ → Fault → ℕ → List ℕ → Reads A Fault) → Fault → ℕ
    → List ℕ → Reads A Fault
coded_in read cut end bytes = do
  b ← count_in cut w8 bytes
  known_in read (kind_of b.0) (end - length bytes) cut end b.1

-- a code, and its offset
abbrev pub code_in : Fault → ℕ → List ℕ → Reads (Kind × ℕ) Fault
code_in = coded_in (λ k at cut end bytes. Ok ((k, at), bytes))

-- what a constructor tells: the descriptors that all elements have, the outermost first, and the
-- kind of what they describe
abbrev pub Shape : Type 0
Shape = List Tree × Kind

-- a descriptor, in front of the constructor of what it describes
abbrev pub with_descriptor : Tree → Shape × ℕ → Shape × ℕ
with_descriptor d c = ((d ∷ c.0.0, c.0.1), c.1)

-- a constructor of at most so many codes, whose descriptors are read so, each within the room that
-- those before it leave
unfoldable pub constructor_in : (ℕ → Fault → ℕ → List ℕ → Reads (Tree × ℕ) Fault) → ℕ → ℕ → Fault
    → ℕ → List ℕ → Reads (Shape × ℕ) Fault
constructor_in read zero room cut end bytes = Err cut
constructor_in read (suc most) room cut end bytes = do
  c ← code_in cut end bytes
  if is_described c.0.0 then (read room cut end c.1 >>= λ d. made (with_descriptor d.0.0)
      (constructor_in read most d.0.1 cut end d.1)) else Ok ((([], c.0.0), room), c.1)

-- readers of what stands inside a value: contents, and elements behind a constructor
pub record Inside : Type 0 where
  pub contents : Contents
  pub element : ℕ → Shape → ℕ → Fault → ℕ → List ℕ → Reads (Tree × ℕ) Fault

-- a value whose content is read so
abbrev pub value_by : Inside → ℕ → Fault → ℕ → List ℕ → Reads (Tree × ℕ) Fault
value_by inside room = coded_in (inside.contents room)

-- a constructor whose descriptors are such values; it has no more codes than bytes
abbrev pub shape_by : Inside → ℕ → Fault → ℕ → List ℕ → Reads (Shape × ℕ) Fault
shape_by inside room cut end bytes =
    constructor_in (value_by inside) (length bytes) room cut end bytes

-- ---- lists, maps and arrays

-- a size and so many bytes, which are filled by what stands in them; where they disagree, a fault
-- at the code
abbrev pub filled_in : {A : Type 0} → Width → ℕ → (Fault → ℕ → List ℕ → Reads A Fault) → Fault
    → ℕ → List ℕ → Reads A Fault
filled_in w at inner cut end bytes = do
  body ← bytes_in cut w bytes
  x ← inner (fault_at fault.Count at) (end - length body.1) body.0
  if length x.1 == 0 then Ok (x.0, body.1) else Err (fault_at fault.Count at)

-- so many, one after another, each within the room that those before it leave
unfoldable pub row_in : {A : Type 0} → (ℕ → ℕ → List ℕ → Reads (A × ℕ) Fault) → ℕ → ℕ → ℕ → List ℕ
    → Reads (List A × ℕ) Fault
row_in read zero room end bytes = Ok (([], room), bytes)
row_in read (suc count) room end bytes = do
  x ← read room end bytes
  made (λ xs. (x.0.0 ∷ xs.0, xs.1)) (row_in read count x.0.1 end x.1)

-- one value, and then another
abbrev pub two_in : (ℕ → ℕ → List ℕ → Reads (Tree × ℕ) Fault) → ℕ → ℕ → List ℕ
    → Reads ((Tree × Tree) × ℕ) Fault
two_in read room end bytes = do
  x ← read room end bytes
  made (λ y. ((x.0.0, y.0), y.1)) (read x.0.1 end x.1)

-- a count and so many values
abbrev pub items_in : Width → (ℕ → Fault → ℕ → List ℕ → Reads (Tree × ℕ) Fault) → ℕ → Fault → ℕ
    → List ℕ → Reads (List Tree × ℕ) Fault
items_in w read room cut end bytes = do
  n ← count_in cut w bytes
  row_in (λ room. read room cut) n.0 room end n.1

-- a count of keys and values together, and the pairs of them
abbrev pub entries_in : Width → (ℕ → Fault → ℕ → List ℕ → Reads (Tree × ℕ) Fault) → ℕ → Fault → ℕ
    → List ℕ → Reads (List (Tree × Tree) × ℕ) Fault
entries_in w read room cut end bytes = do
  n ← count_in cut w bytes
  if n.0 % 2 == 0 then row_in (two_in (λ room. read room cut)) (n.0 / 2) room end n.1 else Err cut

-- what is left of a room; where more is taken than there is, this fault
abbrev pub spent_in : Fault → ℕ → ℕ → Result ℕ Fault
spent_in cut room load = if nat_lt room load then Err cut else Ok (room - load)

-- a count, a constructor, whatever the count is, and so many elements, before which its last code
-- is the last byte; they take no more besides their bytes than the room that the constructor leaves
abbrev pub elements_in : Width → Inside → ℕ → Fault → ℕ → List ℕ → Reads (List Tree × ℕ) Fault
elements_in w inside room cut end bytes = do
  n ← count_in cut w bytes
  c ← shape_by inside room cut end n.1
  left ← spent_in cut c.0.1 (n.0 * element_load c.0.0)
  row_in (λ room. inside.element room c.0.0 ((end - length c.1) - 1) cut) n.0 left end c.1

-- ---- contents by depth

-- the content of a value that may hold no other
abbrev pub flat_in : Contents
flat_in room (kind.Single k) at cut end bytes =
    made (λ s. (scalar s, room)) (single_in k cut end bytes)
flat_in room kind.EmptyList at cut end bytes = Err (fault_at fault.Depth at)
flat_in room (kind.List s) at cut end bytes = Err (fault_at fault.Depth at)
flat_in room (kind.Map s) at cut end bytes = Err (fault_at fault.Depth at)
flat_in room (kind.Array s) at cut end bytes = Err (fault_at fault.Depth at)
flat_in room kind.Described at cut end bytes = Err (fault_at fault.Depth at)

-- the content of a value that may hold such
abbrev pub deep_in : Inside → Contents
deep_in inside room (kind.Single k) at cut end bytes =
    made (λ s. (scalar s, room)) (single_in k cut end bytes)
deep_in inside room kind.EmptyList at cut end bytes = Ok ((list no_trees, room), bytes)
deep_in inside room (kind.List s) at cut end bytes =
    made (λ ts. (list (trees_of ts.0), ts.1)) (filled_in (size_width s) at (items_in
    (size_width s) (value_by inside) room) cut end bytes)
deep_in inside room (kind.Map s) at cut end bytes =
    made (λ ps. (mapping (pairs_of ps.0), ps.1)) (filled_in (size_width s) at (entries_in
    (size_width s) (value_by inside) room) cut end bytes)
deep_in inside room (kind.Array s) at cut end bytes =
    made (λ ts. (array (trees_of ts.0), ts.1)) (filled_in (size_width s) at (elements_in
    (size_width s) inside room) cut end bytes)
deep_in inside room kind.Described at cut end bytes =
    made (λ p. (described p.0.0 p.0.1, p.1)) (two_in (λ room. value_by inside room cut) room
    end bytes)

-- an element behind its constructor, whose content is read so; where its descriptor is deeper than
-- this, a fault at the constructor's last code
abbrev pub element_by : ℕ → Contents → (ℕ → Shape → ℕ → Fault → ℕ → List ℕ
    → Reads (Tree × ℕ) Fault) → ℕ → Shape → ℕ → Fault → ℕ → List ℕ → Reads (Tree × ℕ) Fault
element_by d contents more room ([], k) at cut end bytes = contents room k at cut end bytes
element_by d contents more room (x ∷ xs, k) at cut end bytes =
    if nat_lt d (depth x) then Err (fault_at fault.Depth at) else made
    (λ y. (described x y.0, y.1)) (more room (xs, k) at cut end bytes)

-- readers of values of at most this depth
unfoldable pub level : ℕ → Inside
level zero = record {
  contents = flat_in;
  element = element_by 0 flat_in (λ room c at cut end bytes. Err (fault_at fault.Depth at));
}
level (suc d) = record {
  contents = deep_in (level d);
  element = element_by d (deep_in (level d)) (level d).element;
}

abbrev pub contents_in : ℕ → Contents
contents_in d = (level d).contents

abbrev pub shape_in : ℕ → ℕ → Fault → ℕ → List ℕ → Reads (Shape × ℕ) Fault
shape_in d = shape_by (level d)

abbrev pub element_in : ℕ → ℕ → Shape → ℕ → Fault → ℕ → List ℕ → Reads (Tree × ℕ) Fault
element_in d = (level d).element

-- a value of at most this depth, within a room
abbrev pub value_in : ℕ → ℕ → Fault → ℕ → List ℕ → Reads (Tree × ℕ) Fault
value_in d = value_by (level d)

-- the value that stands at this offset, and the offset behind it; the depth is at most 16, elements
-- take at most 65,536 besides their bytes, and what is cut off passes the input
abbrev pub value_at : List ℕ → ℕ → Result (Tree × ℕ) Fault
value_at bytes at = do
  x ← value_in 16 65536 (fault_at fault.Cut (length bytes)) (length bytes) (drop at bytes)
  Ok (x.0.0, length bytes - length x.1)

-- what was answered of a value, as reading gives it
abbrev pub seen : Result (Value10 × ℕ) Fault → Result (Tree × ℕ) Fault
seen (Ok x) = Ok (value_tree x.0, x.1)
seen (Err e) = Err e
