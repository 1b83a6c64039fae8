-- The room that bytes leave, part by part, and how many bytes a content header takes.
use Rattle.std.proofs.Common.{◌≡◌, ℕ, suc, ◌+◌, ◌-◌, ◌≤◌, Bool, true, false, cond, leb, List, []}
use Rattle.std.proofs.Common.{◌∷◌, ◌++◌, length, drop, Option, Some, None, slice_get, Result, Ok}
use Rattle.std.proofs.Common.{Err, refl, sym, ap, ◌∙◌, arith}
use Rattle.std.specs.Int.{w8, w16, w32, w64, to_be_bytes, cast_unsigned}
use Rattle.std.proofs.lemmas.Bool.{leb-true, leb-false, le-leb}
use Rattle.std.proofs.lemmas.List.{length-append}
use Rattle.wire_base.specs.Reading.{◌>>=◌, Stops}
use Rattle.wire_base.specs.Spelling.{text_of}
use Rattle.wire_base.specs.declared.stop.Stop.{Stop}
use Rattle.wire_base.specs.declared.stop.Stop.TheVariants as stop
use Rattle.wire_base.proofs.FaultLaws.{err_is}
use Rattle.wire_base.proofs.Laws.{wide8, wide16, wide32, wide64}
use Rattle.tables_091.specs.Tree as field
use Rattle.tables_091.specs.Writing.{scalar_text, tree_text, trees_text, members_text}
use Rattle.content_091.specs.Properties.{Property, Properties}
use Rattle.content_091.specs.Properties as property
use Rattle.content_091.specs.Rows.{rows}
use Rattle.content_091.specs.View.{props_of, earlier_of, later_of}
use Rattle.content_091.specs.Writing.{flags_of, property_text, maybe_text, props_text, earlier_text}
use Rattle.content_091.specs.Writing.{later_text, head_text, header_text}
use Rattle.content_091.specs.declared.header.Props.{Props}
use Rattle.property_map.specs.Rows091.{header_len, header_row}
use Rattle.property_map.specs.Room.{scalar_len, tree_len, trees_len, members_len, property_len}
use Rattle.property_map.specs.Room.{left_of, left_behind, left_behind_all, left_behind_header}
use Rattle.property_map.specs.declared.fault.PropName.TheVariants as prop
use Rattle.property_map.specs.declared.fault.MapFault.{MapFault}
use Rattle.property_map.specs.declared.fault.MapFault.TheVariants as fault
use Rattle.property_map.proofs.Places.{rest_at, rest_past}

abbrev too_long : Result ℕ MapFault
too_long = Err (fault.TooLong prop.Header)

-- ---- room

-- one part and then another
pub left_more : (room a b : ℕ) → (left_of room a >>= λ r. left_of r b) ≡ left_of room (a + b)
left_more room a b = at (leb a room) (leb b (room - a)) (leb (a + b) room) refl refl refl
  where
    at : (x y z : Bool) → leb a room ≡ x → leb b (room - a) ≡ y → leb (a + b) room ≡ z
        → (cond x (Ok (room - a)) too_long >>= λ r. left_of r b) ≡ cond z (Ok (room - (a + b))) too_long
    at true true true e f g = rw f (ap (λ (n : ℕ). Ok n) (omega arith))
    at true false false e f g = rw f refl
    at false y false e f g = refl
    at true true false e f g = absurd (omega (arith, leb-true _ _ e, leb-true _ _ f, leb-false _ _ g))
    at true false true e f g = absurd (omega (arith, leb-true _ _ e, leb-false _ _ f, leb-true _ _ g))
    at false y true e f g = absurd (omega (arith, leb-false _ _ e, leb-true _ _ g))

pub left_none : (room : ℕ) → left_of room 0 ≡ Ok room
left_none room = let e : leb 0 room ≡ true = le-leb _ _ (omega arith) in rw e (ap (λ (n : ℕ). Ok n) (omega arith))

-- what is left behind the first part decides
pub left_next : (room r a b : ℕ) (total : Result ℕ MapFault) → left_of room a ≡ Ok r → left_of room (a + b) ≡ total → left_of r b ≡ total
left_next room r a b total e so_far = sym (ap (λ (x : Result ℕ MapFault). x >>= λ n. left_of n b) e) ∙ left_more room a b ∙ so_far

pub left_stop : (e : Stop MapFault) (room a b : ℕ) (total : Result ℕ MapFault) → Stops e (left_of room a) → left_of room (a + b) ≡ total → Stops e total
left_stop stop.Memory room a b total h so_far = tt
left_stop (stop.Fault f) room a b total h so_far = sym so_far ∙ sym (left_more room a b) ∙ ap (λ (x : Result ℕ MapFault). x >>= λ n. left_of n b) h

-- ---- loops

-- the fields of an array from a place on
abbrev pub list_left : List field.Tree → ℕ → ℕ
list_left ts k = trees_len (field.trees_of (drop k ts))

pub list_at : (ts : List field.Tree) (k : ℕ) (t : field.Tree) → slice_get ts k ≡ Some t → list_left ts k ≡ tree_len t + list_left ts (k + 1)
list_at ts k t is = let one : k + 1 ≡ suc k = omega arith in rw one (ap (λ (xs : List field.Tree). trees_len (field.trees_of xs)) (rest_at ts k t is))

pub list_past : (ts : List field.Tree) (k : ℕ) → length ts ≤ k → list_left ts k ≡ 0
list_past ts k past = ap (λ (xs : List field.Tree). trees_len (field.trees_of xs)) (rest_past ts k past)

abbrev Entry : Type 0
Entry = List ℕ × field.Tree

-- the entries of a table from a place on
abbrev pub table_left : List Entry → ℕ → ℕ
table_left ms k = members_len (field.members_of (drop k ms))

pub table_at : (ms : List Entry) (k : ℕ) (m : Entry) → slice_get ms k ≡ Some m → table_left ms k ≡ (1 + length m.0) + (tree_len m.1 + table_left ms (k + 1))
table_at ms k m is = let one : k + 1 ≡ suc k = omega arith in rw one (ap (λ (xs : List Entry). members_len (field.members_of xs)) (rest_at ms k m is))

pub table_past : (ms : List Entry) (k : ℕ) → length ms ≤ k → table_left ms k ≡ 0
table_past ms k past = ap (λ (xs : List Entry). members_len (field.members_of xs)) (rest_past ms k past)

pub left_over : (room n : ℕ) (total : Result ℕ MapFault) → n ≡ 0 → left_of room n ≡ total → total ≡ Ok room
left_over room n total e so_far = sym so_far ∙ ap (left_of room) e ∙ left_none room

-- ---- how many bytes fields take

text_len : (s : List ℕ) → length (text_of w32 s) ≡ 4 + length s
text_len s = length-append (to_be_bytes w32 (length s)) s ∙ ap (λ (n : ℕ). n + length s) (wide32.len (length s))

name_len : (s : List ℕ) → length (text_of w8 s) ≡ 1 + length s
name_len s = length-append (to_be_bytes w8 (length s)) s ∙ ap (λ (n : ℕ). n + length s) (wide8.len (length s))

scalar_takes : (s : field.Scalar) → length (scalar_text s) ≡ scalar_len s
scalar_takes (field.boolean b) = omega (arith, wide8.len (cond b 1 0))
scalar_takes (field.int8 z) = omega (arith, wide8.len (cast_unsigned w8 z))
scalar_takes (field.uint8 n) = omega (arith, wide8.len n)
scalar_takes (field.int16 z) = omega (arith, wide16.len (cast_unsigned w16 z))
scalar_takes (field.uint16 n) = omega (arith, wide16.len n)
scalar_takes (field.int32 z) = omega (arith, wide32.len (cast_unsigned w32 z))
scalar_takes (field.uint32 n) = omega (arith, wide32.len n)
scalar_takes (field.int64 z) = omega (arith, wide64.len (cast_unsigned w64 z))
scalar_takes (field.float32 n) = omega (arith, wide32.len n)
scalar_takes (field.float64 n) = omega (arith, wide64.len n)
scalar_takes (field.decimal scale n) = omega (arith, length-append (to_be_bytes w8 scale) (to_be_bytes w32 n), wide8.len scale, wide32.len n)
scalar_takes (field.longstr s) = omega (arith, text_len s)
scalar_takes (field.timestamp n) = omega (arith, wide64.len n)
scalar_takes field.void = refl
scalar_takes (field.blob s) = omega (arith, text_len s)

mutual
  tree_takes : (t : field.Tree) → length (tree_text t) ≡ tree_len t
  tree_takes (field.scalar s) = scalar_takes s
  tree_takes (field.array ts) = omega (arith, text_len (trees_text ts), trees_take ts)
  tree_takes (field.table ms) = omega (arith, text_len (members_text ms), members_take ms)

  trees_take : (ts : field.Trees) → length (trees_text ts) ≡ trees_len ts
  trees_take field.no_trees = refl
  trees_take (field.tree t ts) = omega (arith, length-append (tree_text t) (trees_text ts), tree_takes t, trees_take ts)

  pub members_take : (ms : field.Members) → length (members_text ms) ≡ members_len ms
  members_take field.no_members = refl
  members_take (field.member name t ms) =
      omega (arith, length-append (text_of w8 name ++ tree_text t) (members_text ms), length-append (text_of w8 name) (tree_text t), name_len name, tree_takes t, members_take ms)

-- ---- how many bytes properties take

abbrev pub maybe_len : Option Property → ℕ
maybe_len None = 0
maybe_len (Some v) = property_len v

abbrev pub all_len : Properties → ℕ
all_len [] = 0
all_len (v ∷ vs) = maybe_len v + all_len vs

property_takes : (v : Property) → length (property_text v) ≡ property_len v
property_takes (property.octet n) = wide8.len n
property_takes (property.longlong n) = wide64.len n
property_takes (property.shortstr s) = name_len s
property_takes (property.fields ms) = text_len (members_text (field.members_of ms)) ∙ ap (λ (n : ℕ). 4 + n) (members_take (field.members_of ms))

maybe_takes : (v : Option Property) → length (maybe_text v) ≡ maybe_len v
unfolding maybe_text
maybe_takes None = refl
maybe_takes (Some v) = property_takes v

all_take : (vs : Properties) → length (props_text vs) ≡ all_len vs
all_take [] = refl
all_take (v ∷ vs) = omega (arith, length-append (maybe_text v) (props_text vs), maybe_takes v, all_take vs)

head_takes : (class weight size flags : ℕ) → length (head_text class weight size flags) ≡ 14
unfolding head_text
head_takes class weight size flags =
    omega (
      arith,
      length-append (to_be_bytes w16 class ++ to_be_bytes w16 weight ++ to_be_bytes w64 size) (to_be_bytes w16 flags),
      length-append (to_be_bytes w16 class ++ to_be_bytes w16 weight) (to_be_bytes w64 size),
      length-append (to_be_bytes w16 class) (to_be_bytes w16 weight),
      wide16.len class,
      wide16.len weight,
      wide64.len size,
      wide16.len flags,
    )

earlier_takes : (p : Props) → length (earlier_text p) ≡ all_len (earlier_of p)
unfolding earlier_text
earlier_takes p = all_take (earlier_of p)

later_takes : (p : Props) → length (later_text p) ≡ all_len (later_of p)
unfolding later_text
later_takes p = all_take (later_of p)

takes_with : (size : ℕ) (p : Props) → length (header_text (record { size = size; props = p })) ≡ 14 + (all_len (earlier_of p) + all_len (later_of p))
takes_with size p =
    let head : List ℕ = head_text 60 0 size (flags_of rows (props_of p)) in
    omega (arith, length-append (head ++ earlier_text p) (later_text p), length-append head (earlier_text p), head_takes 60 0 size (flags_of rows (props_of p)), earlier_takes p, later_takes p)

pub header_takes : (p : Props) → header_len p ≡ 14 + (all_len (earlier_of p) + all_len (later_of p))
header_takes p = takes_with 0 p

-- as many, whatever the size of the body is
pub size_is_wide : (size : ℕ) (p : Props) → length (header_text (record { size = size; props = p })) ≡ header_len p
size_is_wide size p = takes_with size p ∙ sym (header_takes p)

-- ---- the header

left_behind_is : (room : ℕ) (v : Option Property) → left_behind room v ≡ left_of room (maybe_len v)
left_behind_is room None = sym (left_none room)
left_behind_is room (Some v) = refl

left_all_is : (room : ℕ) (vs : Properties) → left_behind_all room vs ≡ left_of room (all_len vs)
left_all_is room [] = sym (left_none room)
left_all_is room (v ∷ vs) =
    ap (λ (x : Result ℕ MapFault). x >>= λ r. left_behind_all r vs) (left_behind_is room v)
    ∙ each (λ r. left_all_is r vs) (left_of room (maybe_len v)) ∙ left_more room (maybe_len v) (all_len vs)
  where
    each : ((r : ℕ) → left_behind_all r vs ≡ left_of r (all_len vs)) → (x : Result ℕ MapFault) → (x >>= λ r. left_behind_all r vs) ≡ (x >>= λ r. left_of r (all_len vs))
    each same (Ok r) = same r
    each same (Err f) = refl

left_header_is : (room : ℕ) (p : Props) → left_behind_header room p ≡ left_of room (header_len p)
left_header_is room p = parts (left_of room 14) ∙ left_more room 14 (all_len (earlier_of p) + all_len (later_of p)) ∙ ap (left_of room) (sym (header_takes p))
  where
    half : (b : Result ℕ MapFault) → (b >>= λ r. left_behind_all r (later_of p)) ≡ (b >>= λ r. left_of r (all_len (later_of p)))
    half (Ok r) = left_all_is r (later_of p)
    half (Err f) = refl

    parts : (x : Result ℕ MapFault) → (x >>= λ a. left_behind_all a (earlier_of p) >>= λ b. left_behind_all b (later_of p)) ≡ (x >>= λ a. left_of a (all_len (earlier_of p) + all_len (later_of p)))
    parts (Ok a) =
        half (left_behind_all a (earlier_of p)) ∙ ap (λ (y : Result ℕ MapFault). y >>= λ r. left_of r (all_len (later_of p))) (left_all_is a (earlier_of p)) ∙ left_more a (all_len (earlier_of p)) (all_len (later_of p))
    parts (Err f) = refl

-- a header fits where its parts do, one after another
pub header_fits : (room : ℕ) (p : Props) (n : ℕ) → left_behind_header room p ≡ Ok n → header_row room p ≡ Ok p
header_fits room p n e = at (leb (header_len p) room) (sym (left_header_is room p) ∙ e)
  where
    at : (b : Bool) → cond b (Ok (room - header_len p)) too_long ≡ Ok n → cond b (Ok p) (Err (fault.TooLong prop.Header)) ≡ Ok p
    at true h = refl
    at false h = absurd (cc h)

pub header_stops : (e : Stop MapFault) (room : ℕ) (p : Props) → Stops e (left_behind_header room p) → Stops e (header_row room p)
header_stops stop.Memory room p h = tt
header_stops (stop.Fault f) room p h = at (leb (header_len p) room) (sym (left_header_is room p) ∙ h)
  where
    at : (b : Bool) → cond b (Ok (room - header_len p)) too_long ≡ Err f → cond b (Ok p) (Err (fault.TooLong prop.Header)) ≡ Err f
    at true g = absurd (cc g)
    at false g = ap (λ (x : MapFault). Err x) (err_is {A = ℕ} (fault.TooLong prop.Header) f g)
