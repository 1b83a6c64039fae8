-- Headers that become properties of the application and an annotation are read back: the same headers, those that hold no
-- others first.
use Rattle.std.proofs.Common.{◌≡◌, ℕ, Bool, true, false, not, cond, ◌||◌, List, [], ◌∷◌, ◌++◌, Some}
use Rattle.std.proofs.Common.{Result, Ok, Err, nat_lt, refl, sym, ap, subst, ◌∙◌, append_assoc}
use Rattle.std.proofs.Common.{append-nil}
use Rattle.std.specs.List.{filter, AllByRecursion, IsDistinct}
use Rattle.std.specs.List.Sorted.{IsPermutation}
use Rattle.std.specs.Str.{bytes_eq}
use Rattle.std.proofs.lemmas.List.Sorted.{IsPermutation-filter_both, IsPermutation-map}
use Rattle.std.proofs.lemmas.Map.Keys.{IsDistinct-IsPermutation}
use Rattle.wire_base.specs.Reading.{◌>>=◌}
use Rattle.wire_base.proofs.Laws.{bind_is, ok_is}
use Rattle.tables_091.specs.Tree as field
use Rattle.tables_091.specs.Writing.{MembersNamesAreShort}
use Rattle.types_10.specs.Tree as value
use Rattle.property_map.specs.Texts.{string_in, is_among, is_reserved}
use Rattle.property_map.specs.Values.{value_in}
use Rattle.property_map.specs.Headers.{header_name_in, holds_others, with_header, headers_in}
use Rattle.property_map.specs.Headers.{table_in}
use Rattle.property_map.specs.Fields.{members_in, unreserved, names_of}
use Rattle.property_map.specs.Image.{nested_map, application_of}
use Rattle.property_map.specs.Rows091.{pairs_in_map, nested_in, one_table_in, headers_of}
use Rattle.property_map.specs.declared.fault.PropName.TheVariants as prop
use Rattle.property_map.specs.declared.fault.MapFault.{MapFault}
use Rattle.property_map.specs.declared.fault.MapFault.TheVariants as fault
use Rattle.property_map.specs.declared.headers.HeaderMaps.{HeaderMaps}
use Rattle.property_map.proofs.FieldLoops.{Entry, Pair, entries_same}
use Rattle.property_map.proofs.NameSets.{either_side, one_more}
use Rattle.property_map.proofs.ValueTrips.{string_same, key, entry_back, value_back}

-- ---- names that differ

-- each name differs from these, and from those before it
abbrev pub AreFresh : List (List ℕ) → List (List ℕ) → Type 0
AreFresh before [] = Unit {0}
AreFresh before (n ∷ ns) = (is_among n before ≡ false) × AreFresh (before ++ n ∷ []) ns

neither : (a b : Bool) → (a || b) ≡ false → (a ≡ false) × (b ≡ false)
neither false false e = (refl, refl)
neither false true e = absurd (cc e)
neither true b e = absurd (cc e)

-- a name that those differ from which differ from some differs from all that are fresh
apart : (n : List ℕ) (before ns : List (List ℕ)) → ((y : List ℕ) → is_among y before ≡ false → bytes_eq n y ≡ false) → AreFresh before ns → AllByRecursion (λ y. bytes_eq n y ≡ false) ns
apart n before [] h f = tt
apart n before (m ∷ ms) h f =
    (h m f.0, apart n (before ++ m ∷ []) ms (λ y e. h y (neither (bytes_eq m y) (is_among y before) (sym (one_more y before m) ∙ e)).1) f.1)

distinct : (before ns : List (List ℕ)) → AreFresh before ns → IsDistinct bytes_eq ns
unfolding IsDistinct
distinct before [] f = tt
distinct before (n ∷ ns) f =
    (apart n (before ++ n ∷ []) ns (λ y e. (neither (bytes_eq n y) (is_among y before) (sym (one_more y before n) ∙ e)).0) f.1, distinct (before ++ n ∷ []) ns f.1)

both : (n : List ℕ) (before ns : List (List ℕ)) → AllByRecursion (λ y. bytes_eq n y ≡ false) ns → AllByRecursion (λ y. is_among y before ≡ false) ns → AllByRecursion (λ y. is_among y (before ++ n ∷ []) ≡ false) ns
both n before [] a b = tt
both n before (m ∷ ms) a b = (one_more m before n ∙ rw (a.0, b.0) refl, both n before ms a.1 b.1)

fresh : (before ns : List (List ℕ)) → AllByRecursion (λ y. is_among y before ≡ false) ns → IsDistinct bytes_eq ns → AreFresh before ns
unfolding IsDistinct
fresh before [] a d = tt
fresh before (n ∷ ns) a d = (a.0, fresh (before ++ n ∷ []) ns (both n before ns d.0 a.1) d.1)

none_before : (ns : List (List ℕ)) → AllByRecursion (λ y. is_among y [] ≡ false) ns
none_before [] = tt
none_before (n ∷ ns) = (refl, none_before ns)

-- ---- what headers become

abbrev plain : Entry → Bool
plain m = not (holds_others m.1)

abbrev holding : Entry → Bool
holding m = holds_others m.1

-- each pair is what a header becomes; its name stands for nothing else
abbrev AreImages : List Entry → List Pair → Type 0
AreImages [] [] = Unit {0}
AreImages [] (p ∷ ps) = ⊥
AreImages (m ∷ ms) [] = ⊥
AreImages (m ∷ ms) (p ∷ ps) = (p.0 ≡ key m.0) × (value_in m.1 ≡ Ok p.1) × (is_reserved m.0 ≡ false) × AreImages ms ps

record AreMade (before : List (List ℕ)) (ms : List Entry) (maps : HeaderMaps) : Type 0 where
  application : AreImages (filter plain ms) maps.application
  annotation : AreImages (filter holding ms) maps.annotation
  fresh : AreFresh before (names_of ms)

record IsHeaderName (before : List (List ℕ)) (s t : List ℕ) : Type 0 where
  is : s ≡ t
  unreserved : is_reserved s ≡ false
  fresh : is_among s before ≡ false

header_name_is : (before : List (List ℕ)) (s t : List ℕ) → header_name_in before s ≡ Ok t → IsHeaderName before s t
header_name_is before s t e =
    let b = bind_is (string_in prop.Headers s) (λ n. cond (is_reserved n) (Err (fault.Reserved n)) (cond (is_among n before) (Err (fault.Repeated n)) (Ok n))) t e in
    subst (λ (n : List ℕ). cond (is_reserved n) (Err (fault.Reserved n)) (cond (is_among n before) (Err (fault.Repeated n)) (Ok n)) ≡ Ok t → IsHeaderName before s t)
    (string_same prop.Headers s b.0 b.1) (at (is_reserved s) (is_among s before) refl refl) b.2
  where
    at : (r a : Bool) → is_reserved s ≡ r → is_among s before ≡ a → cond r (Err (fault.Reserved s)) (cond a (Err (fault.Repeated s)) (Ok s)) ≡ Ok t → IsHeaderName before s t
    at true a f g e = absurd (cc e)
    at false true f g e = absurd (cc e)
    at false false f g e = record { is = ok_is {F = MapFault} s t e; unreserved = f; fresh = g }

abbrev maps_ok : HeaderMaps → Result HeaderMaps MapFault
maps_ok maps = Ok maps

-- one header in front
one_made : (before : List (List ℕ)) (m : Entry) (ms : List Entry) (v : value.Tree) (rest : HeaderMaps) (b : Bool) → holds_others m.1 ≡ b → is_among m.0 before ≡ false → is_reserved m.0 ≡ false → value_in m.1 ≡ Ok v
    → AreMade (before ++ m.0 ∷ []) ms rest → AreMade before (m ∷ ms) (with_header b (key m.0, v) rest)
one_made before m ms v rest true is among reserved e h =
    record { application = rw is h.application; annotation = rw is (refl, e, reserved, h.annotation); fresh = (among, h.fresh) }
one_made before m ms v rest false is among reserved e h =
    record { application = rw is (refl, e, reserved, h.application); annotation = rw is h.annotation; fresh = (among, h.fresh) }

made_of : (before : List (List ℕ)) (ms : List Entry) (maps : HeaderMaps) → headers_in before ms ≡ Ok maps → AreMade before ms maps
unfolding headers_in
made_of before [] maps e = subst (λ (n : HeaderMaps). AreMade before [] n) (ok_is {F = MapFault} (record { application = []; annotation = [] }) maps e) (record { application = tt; annotation = tt; fresh = tt })
made_of before (m ∷ ms) maps e =
    let rest = headers_in (before ++ m.0 ∷ []) ms in
    let a = bind_is (header_name_in before m.0) (λ s. value_in m.1 >>= λ v. rest >>= λ n. maps_ok (with_header (holds_others m.1) (key s, v) n)) maps e in
    let b = bind_is (value_in m.1) (λ v. rest >>= λ n. maps_ok (with_header (holds_others m.1) (key a.0, v) n)) maps a.2 in
    let d = bind_is rest (λ n. maps_ok (with_header (holds_others m.1) (key a.0, b.0) n)) maps b.2 in
    let n = header_name_is before m.0 a.0 a.1 in
    let whole : AreMade before (m ∷ ms) (with_header (holds_others m.1) (key m.0, b.0) d.0) = one_made before m ms b.0 d.0 (holds_others m.1) refl n.fresh n.unreserved b.1 (made_of (before ++ m.0 ∷ []) ms d.0 d.1) in
    subst (λ (x : HeaderMaps). AreMade before (m ∷ ms) x)
    (ap (λ (s : List ℕ). with_header (holds_others m.1) (key s, b.0) d.0) n.is ∙ ok_is {F = MapFault} (with_header (holds_others m.1) (key a.0, b.0) d.0) maps d.2) whole

-- ---- reading them back

short_kept : (test : Entry → Bool) (ms : List Entry) → MembersNamesAreShort (field.members_of ms) → MembersNamesAreShort (field.members_of (filter test ms))
short_kept test [] h = tt
short_kept test (m ∷ ms) h = at (test m) (short_kept test ms h.2)
  where
    at : (b : Bool) → MembersNamesAreShort (field.members_of (filter test ms)) → MembersNamesAreShort (field.members_of (cond b (m ∷ filter test ms) (filter test ms)))
    at true rest = (h.0, h.1, rest)
    at false rest = rest

read_back : (before : List (List ℕ)) (ms : List Entry) (ps : List Pair) → AreImages ms ps → AreFresh before (names_of ms) → MembersNamesAreShort (field.members_of ms) → members_in before (value.pairs_of ps) ≡ Ok (field.members_of ms)
unfolding members_in
read_back before [] [] i f h = refl
read_back before [] (p ∷ ps) i f h = absurd i
read_back before (m ∷ ms) [] i f h = absurd i
read_back before (m ∷ ms) (p ∷ ps) i f h =
    rw (i.0, entry_back before m.0 h.0 f.0, value_back m.1 p.1 h.1 i.1, read_back (before ++ m.0 ∷ []) ms ps i.3 f.1 h.2) refl

-- none of them is left out
all_kept : (ms : List Entry) (ps : List Pair) → AreImages ms ps → unreserved (value.pairs_of ps) ≡ value.pairs_of ps
all_kept [] [] i = refl
all_kept [] (p ∷ ps) i = absurd i
all_kept (m ∷ ms) [] i = absurd i
all_kept (m ∷ ms) (p ∷ ps) i = rw (i.0, i.2) (ap (value.pair (key m.0) p.1) (all_kept ms ps i.3))

fresh_parts : (before : List (List ℕ)) (ms ns : List Entry) → AreFresh before (names_of (ms ++ ns)) → AreFresh before (names_of ms) × AreFresh (before ++ names_of ms) (names_of ns)
fresh_parts before [] ns f = (tt, rw append-nil f)
fresh_parts before (m ∷ ms) ns f =
    let rest = fresh_parts (before ++ m.0 ∷ []) ms ns f.1 in
    ((f.0, rest.0), subst (λ (xs : List (List ℕ)). AreFresh xs (names_of ns)) (append_assoc before (m.0 ∷ []) (names_of ms)) rest.1)

-- the headers in the order in which they come back
abbrev pub in_order : List Entry → List Entry
in_order ms = filter plain ms ++ filter holding ms

pub same_headers : (ms : List Entry) → IsPermutation ms (in_order ms)
same_headers ms = IsPermutation-filter_both plain holding (λ m. other (holds_others m.1)) ms
  where
    other : (b : Bool) → b ≡ not (not b)
    other true = refl
    other false = refl

-- ---- as one table

section_pairs : (maps : HeaderMaps) → pairs_in_map (application_of (Some maps)) ≡ value.pairs_of maps.application
section_pairs maps = at maps.application maps.annotation
  where
    at : (ps qs : List Pair) → pairs_in_map (application_of (Some (record { application = ps; annotation = qs }))) ≡ value.pairs_of ps
    at [] [] = refl
    at [] (q ∷ qs) = refl
    at (p ∷ ps) qs = refl

nested_pairs : (maps : HeaderMaps) → nested_in (nested_map (Some maps)) ≡ Ok (value.pairs_of maps.annotation)
nested_pairs maps = at maps.annotation
  where
    at : (qs : List Pair) → nested_in (nested_map (Some (record { application = []; annotation = qs }))) ≡ Ok (value.pairs_of qs)
    at [] = refl
    at (q ∷ qs) = refl

-- where headers are there, so is one of both
either_there : (maps : HeaderMaps) → headers_of (application_of (Some maps)) (nested_map (Some maps)) ≡ (one_table_in (application_of (Some maps)) (nested_map (Some maps)) >>= λ ms. Ok (Some ms))
either_there maps = at maps.application maps.annotation
  where
    at : (ps qs : List Pair)
        → headers_of (application_of (Some (record { application = ps; annotation = qs }))) (nested_map (Some (record { application = ps; annotation = qs })))
        ≡ (one_table_in (application_of (Some (record { application = ps; annotation = qs }))) (nested_map (Some (record { application = ps; annotation = qs }))) >>= λ ms. Ok (Some ms))
    at [] [] = refl
    at [] (q ∷ qs) = refl
    at (p ∷ ps) qs = refl

table_back : (ms : List Entry) (maps : HeaderMaps) → MembersNamesAreShort (field.members_of ms) → AreMade [] ms maps → one_table_in (application_of (Some maps)) (nested_map (Some maps)) ≡ Ok (in_order ms)
unfolding one_table_in
table_back ms maps h m =
    let order : IsPermutation (names_of ms) (names_of (in_order ms)) = IsPermutation-map (λ e. e.0) ms (in_order ms) (same_headers ms) in
    let apart : AreFresh [] (names_of (in_order ms)) = fresh [] (names_of (in_order ms)) (none_before (names_of (in_order ms))) (IsDistinct-IsPermutation bytes_eq either_side (names_of ms) (names_of (in_order ms)) order (distinct [] (names_of ms) m.fresh)) in
    let parts = fresh_parts [] (filter plain ms) (filter holding ms) apart in
    let first = read_back [] (filter plain ms) maps.application m.application parts.0 (short_kept plain ms h) in
    let second = read_back (names_of (filter plain ms)) (filter holding ms) maps.annotation m.annotation parts.1 (short_kept holding ms h) in
    rw (section_pairs maps, all_kept (filter plain ms) maps.application m.application, first, nested_pairs maps, entries_same (filter plain ms), second, entries_same (filter holding ms)) refl

-- the depth is tested behind all headers
within : (ms : List Entry) (maps : HeaderMaps) → table_in ms ≡ Ok maps → headers_in [] ms ≡ Ok maps
unfolding table_in
within ms maps e = at (headers_in [] ms) (nat_lt 15 (field.depth (field.table (field.members_of ms)))) e
  where
    at : (r : Result HeaderMaps MapFault) (b : Bool) → (r >>= λ n. cond b (Err fault.Depth) (maps_ok n)) ≡ Ok maps → r ≡ Ok maps
    at (Ok n) true e = absurd (cc e)
    at (Ok n) false e = e
    at (Err f) b e = absurd (cc e)

pub headers_back : (ms : List Entry) (maps : HeaderMaps) → table_in ms ≡ Ok maps → MembersNamesAreShort (field.members_of ms) → headers_of (application_of (Some maps)) (nested_map (Some maps)) ≡ Ok (Some (in_order ms))
headers_back ms maps e h = either_there maps ∙ rw (table_back ms maps h (made_of [] ms maps (within ms maps e))) refl
