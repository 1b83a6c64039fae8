-- Fields that become values are read back.
use Rattle.std.proofs.Common.{◌≡◌, ℕ, ◌*◌, ◌/◌, ◌≤◌, Bool, true, false, cond, leb, List, [], ◌∷◌}
use Rattle.std.proofs.Common.{◌++◌, length, Result, Ok, Err, ℤ, pos, refl, sym, ap, subst, ◌∙◌}
use Rattle.std.proofs.Common.{arith}
use Rattle.std.specs.Str.{is_utf8}
use Rattle.std.proofs.lemmas.Bool.{le-leb}
use Rattle.wire_base.specs.Reading.{◌>>=◌}
use Rattle.wire_base.proofs.Laws.{bind_is, ok_is}
use Rattle.tables_091.specs.Tree as field
use Rattle.tables_091.specs.Writing.{NamesAreShort, TreesNamesAreShort, MembersNamesAreShort}
use Rattle.types_10.specs.Tree as value
use Rattle.property_map.specs.Texts.{string_in, milliseconds_in, last_second, short_in, seconds_in}
use Rattle.property_map.specs.Texts.{is_among}
use Rattle.property_map.specs.Values.{scalar_in, name_in, value_in, values_in, pairs_in}
use Rattle.property_map.specs.Fields.{scalar_field_in, entry_name_in, field_in, fields_in}
use Rattle.property_map.specs.Fields.{members_in}
use Rattle.property_map.specs.declared.fault.PropName.{PropName}
use Rattle.property_map.specs.declared.fault.PropName.TheVariants as prop
use Rattle.property_map.specs.declared.fault.MapFault.{MapFault}
use Rattle.property_map.specs.declared.fault.MapFault.TheVariants as fault

-- ---- texts and times

pub string_same : (name : PropName) (s t : List ℕ) → string_in name s ≡ Ok t → s ≡ t
string_same name s t = at (is_utf8 s)
  where
    at : (b : Bool) → cond b (Ok s) (Err (fault.NotUtf8 name)) ≡ Ok t → s ≡ t
    at true e = ok_is {F = MapFault} s t e
    at false e = absurd (cc e)

pub short_ok : (name : PropName) (s : List ℕ) → length s ≤ 255 → short_in name s ≡ Ok s
short_ok name s h = let e : leb (length s) 255 ≡ true = le-leb _ _ h in rw e refl

thousand : (n : ℕ) → 1000 * n / 1000 ≡ n
thousand n = omega arith

pub seconds_back : (name back : PropName) (n : ℕ) (z : ℤ) → milliseconds_in name n ≡ Ok z → seconds_in back z ≡ Ok n
seconds_back name back n z = at (leb n last_second)
  where
    at : (b : Bool) → cond b (Ok (pos (1000 * n))) (Err (fault.Time name)) ≡ Ok z → seconds_in back z ≡ Ok n
    at true e = subst (λ (y : ℤ). seconds_in back y ≡ Ok n) (ok_is {F = MapFault} (pos (1000 * n)) z e) (ap (λ (k : ℕ). Ok k) (thousand n))
    at false e = absurd (cc e)

-- ---- fields that hold no others

abbrev named : value.Scalar → Result value.Scalar MapFault
named v = Ok v

same : (v w : value.Scalar) → named v ≡ named w → scalar_field_in w ≡ scalar_field_in v
same v w e = ap scalar_field_in (sym (ok_is {F = MapFault} v w e))

scalar_back : (s : field.Scalar) (w : value.Scalar) → scalar_in s ≡ Ok w → scalar_field_in w ≡ Ok s
scalar_back (field.boolean b) w e = same (value.boolean b) w e
scalar_back (field.int8 z) w e = same (value.byte z) w e
scalar_back (field.uint8 n) w e = same (value.ubyte n) w e
scalar_back (field.int16 z) w e = same (value.short z) w e
scalar_back (field.uint16 n) w e = same (value.ushort n) w e
scalar_back (field.int32 z) w e = same (value.int z) w e
scalar_back (field.uint32 n) w e = same (value.uint n) w e
scalar_back (field.int64 z) w e = same (value.long z) w e
scalar_back (field.float32 n) w e = same (value.float n) w e
scalar_back (field.float64 n) w e = same (value.double n) w e
scalar_back (field.decimal scale n) w e = absurd (cc e)
scalar_back (field.longstr s) w e =
    let b = bind_is (string_in prop.Headers s) (λ t. named (value.string t)) w e in
    same (value.string b.0) w b.2 ∙ ap (λ (t : List ℕ). Ok (field.longstr t)) (sym (string_same prop.Headers s b.0 b.1))
scalar_back (field.timestamp n) w e =
    let b = bind_is (milliseconds_in prop.Headers n) (λ z. named (value.timestamp z)) w e in
    same (value.timestamp b.0) w b.2 ∙ rw (seconds_back prop.Headers prop.Headers n b.0 b.1) refl
scalar_back field.void w e = same value.null w e
scalar_back (field.blob s) w e = same (value.binary s) w e

-- ---- names

pub name_same : (before : List (List ℕ)) (s t : List ℕ) → name_in before s ≡ Ok t → (s ≡ t) × (is_among s before ≡ false)
name_same before s t e =
    let b = bind_is (string_in prop.Headers s) (λ n. cond (is_among n before) (Err (fault.Repeated n)) (Ok n)) t e in
    subst (λ (n : List ℕ). cond (is_among n before) (Err (fault.Repeated n)) (Ok n) ≡ Ok t → (s ≡ t) × (is_among s before ≡ false)) (string_same prop.Headers s b.0 b.1) (at (is_among s before) refl) b.2
  where
    at : (r : Bool) → is_among s before ≡ r → cond r (Err (fault.Repeated s)) (Ok s) ≡ Ok t → (s ≡ t) × (is_among s before ≡ false)
    at true is e = absurd (cc e)
    at false is e = (ok_is {F = MapFault} s t e, is)

abbrev pub key : List ℕ → value.Tree
key s = value.scalar (value.string s)

pub entry_back : (before : List (List ℕ)) (s : List ℕ) → length s ≤ 255 → is_among s before ≡ false → entry_name_in before (key s) ≡ Ok s
entry_back before s h e = rw (short_ok prop.Headers s h, e) refl

-- ---- fields that hold others

abbrev tree_ok : value.Tree → Result value.Tree MapFault
tree_ok v = Ok v

abbrev trees_ok : value.Trees → Result value.Trees MapFault
trees_ok v = Ok v

abbrev pairs_ok : value.Pairs → Result value.Pairs MapFault
pairs_ok v = Ok v

mutual
  unfolding value_in values_in pairs_in field_in fields_in members_in

  pub value_back : (t : field.Tree) (v : value.Tree) → NamesAreShort t → value_in t ≡ Ok v → field_in v ≡ Ok t
  value_back (field.scalar s) v h e =
      let b = bind_is (scalar_in s) (λ w. tree_ok (value.scalar w)) v e in
      subst (λ (u : value.Tree). field_in u ≡ Ok (field.scalar s)) (ok_is {F = MapFault} (value.scalar b.0) v b.2) (rw (scalar_back s b.0 b.1) refl)
  value_back (field.array ts) v h e =
      let b = bind_is (values_in ts) (λ us. tree_ok (value.list us)) v e in
      subst (λ (u : value.Tree). field_in u ≡ Ok (field.array ts)) (ok_is {F = MapFault} (value.list b.0) v b.2) (rw (values_back ts b.0 h b.1) refl)
  value_back (field.table ms) v h e =
      let b = bind_is (pairs_in [] ms) (λ ps. tree_ok (value.mapping ps)) v e in
      subst (λ (u : value.Tree). field_in u ≡ Ok (field.table ms)) (ok_is {F = MapFault} (value.mapping b.0) v b.2) (rw (pairs_back [] ms b.0 h b.1) refl)

  values_back : (ts : field.Trees) (us : value.Trees) → TreesNamesAreShort ts → values_in ts ≡ Ok us → fields_in us ≡ Ok ts
  values_back field.no_trees us h e = subst (λ (w : value.Trees). fields_in w ≡ Ok field.no_trees) (ok_is {F = MapFault} value.no_trees us e) refl
  values_back (field.tree t ts) us h e =
      let a = bind_is (value_in t) (λ u. values_in ts >>= λ vs. trees_ok (value.tree u vs)) us e in
      let b = bind_is (values_in ts) (λ vs. trees_ok (value.tree a.0 vs)) us a.2 in
      subst (λ (w : value.Trees). fields_in w ≡ Ok (field.tree t ts)) (ok_is {F = MapFault} (value.tree a.0 b.0) us b.2) (rw (value_back t a.0 h.0 a.1, values_back ts b.0 h.1 b.1) refl)

  pairs_back : (before : List (List ℕ)) (ms : field.Members) (ps : value.Pairs) → MembersNamesAreShort ms → pairs_in before ms ≡ Ok ps → members_in before ps ≡ Ok ms
  pairs_back before field.no_members ps h e = subst (λ (w : value.Pairs). members_in before w ≡ Ok field.no_members) (ok_is {F = MapFault} value.no_pairs ps e) refl
  pairs_back before (field.member name t ms) ps h e =
      let a = bind_is (name_in before name) (λ s. value_in t >>= λ u. pairs_in (before ++ name ∷ []) ms >>= λ qs. pairs_ok (value.pair (key s) u qs)) ps e in
      let b = bind_is (value_in t) (λ u. pairs_in (before ++ name ∷ []) ms >>= λ qs. pairs_ok (value.pair (key a.0) u qs)) ps a.2 in
      let d = bind_is (pairs_in (before ++ name ∷ []) ms) (λ qs. pairs_ok (value.pair (key a.0) b.0 qs)) ps b.2 in
      let n = name_same before name a.0 a.1 in
      let whole : members_in before (value.pair (key name) b.0 d.0) ≡ Ok (field.member name t ms) =
      rw (entry_back before name h.0 n.1, value_back t b.0 h.1 b.1, pairs_back (before ++ name ∷ []) ms d.0 h.2 d.1) refl in
      subst (λ (w : value.Pairs). members_in before w ≡ Ok (field.member name t ms))
      (ap (λ (s : List ℕ). value.pair (key s) b.0 d.0) n.0 ∙ ok_is {F = MapFault} (value.pair (key a.0) b.0 d.0) ps d.2) whole
