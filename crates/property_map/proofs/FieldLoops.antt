-- Fields and entries, as loops make them one by one of values and pairs.
use Rattle.std.proofs.Common.{◌≡◌, ℕ, zero, suc, ◌+◌, ◌≤◌, Bool, true, false, List, [], ◌∷◌, ◌++◌}
use Rattle.std.proofs.Common.{length, drop, Option, Some, None, unwrap_or, slice_get, Result, Ok}
use Rattle.std.proofs.Common.{Err, refl, sym, ap, subst, ◌∙◌, append-nil, arith}
use Rattle.wire_base.specs.Reading.{Stops}
use Rattle.wire_base.specs.declared.stop.Stop.{Stop}
use Rattle.wire_base.proofs.Laws.{bind_is, ok_is}
use Rattle.wire_base.specs.declared.stop.Stop.TheVariants as stop
use Rattle.tables_091.specs.Tree as field
use Rattle.types_10.specs.Tree as value
use Rattle.property_map.specs.Names.{Holds}
use Rattle.property_map.specs.Steps.{joined, behind}
use Rattle.property_map.specs.Fields.{entry_name_in, field_in, fields_in, members_in, unreserved}
use Rattle.property_map.specs.Fields.{kept_of, is_left_out, names_of, an_entry, entries_behind}
use Rattle.property_map.specs.Rows091.{is_symbol, value_under, map_in, pairs_in_map, entries_of}
use Rattle.property_map.specs.Rows091.{one_table_in}
use Rattle.property_map.specs.declared.fault.MapFault.{MapFault}
use Rattle.property_map.specs.declared.names.Names.{Names}
use Rattle.property_map.proofs.Places.{there_is, rest_at, rest_past}
use Rattle.property_map.proofs.Steps.{then_more, next, fail, over, over_at}

-- ---- depth

pub value_holds : (ts : List value.Tree) (k : ℕ) (t : value.Tree) → slice_get ts k ≡ Some t → value.depth t ≤ value.list_depth ts
value_holds [] k t e = absurd (cc e)
value_holds (u ∷ us) zero t e = omega (arith, ap value.depth (there_is u t e))
value_holds (u ∷ us) (suc k) t e = omega (arith, value_holds us k t e)

pub pair_holds : (ps : List (value.Tree × value.Tree)) (k : ℕ) (p : value.Tree × value.Tree) → slice_get ps k ≡ Some p → value.depth p.1 ≤ value.pairs_depth_of ps
pair_holds [] k p e = absurd (cc e)
pair_holds (q ∷ qs) zero p e = omega (arith, ap (λ (o : value.Tree × value.Tree). value.depth o.1) (there_is q p e))
pair_holds (q ∷ qs) (suc k) p e = omega (arith, pair_holds qs k p e)

-- ---- fields

-- the fields of a list
abbrev pub all_fields : List value.Tree → Result field.Trees MapFault
all_fields ts = fields_in (value.trees_of ts)

pub fields_one : (t : value.Tree) (ts : List value.Tree) (f : field.Tree) → field_in t ≡ Ok f → all_fields (t ∷ ts) ≡ then_more field.tree f (all_fields ts)
unfolding fields_in
fields_one t ts f e = rw e refl

pub fields_none : (t : value.Tree) (ts : List value.Tree) (e : Stop MapFault) → Stops e (field_in t) → Stops e (all_fields (t ∷ ts))
unfolding fields_in
fields_none t ts stop.Memory h = tt
fields_none t ts (stop.Fault f) h = rw h refl

fields_empty : all_fields [] ≡ Ok field.no_trees
unfolding fields_in
fields_empty = refl

joined_fields : (fs : List field.Tree) → joined field.tree fs field.no_trees ≡ field.trees_of fs
joined_fields [] = refl
joined_fields (f ∷ fs) = ap (field.tree f) (joined_fields fs)

pub fields_over : (fs : List field.Tree) (ts : List value.Tree) (k : ℕ) (total : Result field.Trees MapFault) → length ts ≤ k → behind field.tree fs (all_fields (drop k ts)) ≡ total → total ≡ Ok (field.trees_of fs)
fields_over fs ts k total past so_far = over_at field.tree field_in all_fields field.no_trees fields_empty fs ts k total past so_far ∙ ap (λ (us : field.Trees). Ok us) (joined_fields fs)

-- ---- entries

abbrev pub Entry : Type 0
Entry = List ℕ × field.Tree

abbrev pub Pair : Type 0
Pair = value.Tree × value.Tree

pub joined_entries : (es : List Entry) → joined an_entry es field.no_members ≡ field.members_of es
joined_entries [] = refl
joined_entries (e ∷ es) = ap (field.member e.0 e.1) (joined_entries es)

members_one : (before : List (List ℕ)) (k t : value.Tree) (ps : value.Pairs) (s : List ℕ) (f : field.Tree) → entry_name_in before k ≡ Ok s → field_in t ≡ Ok f
    → members_in before (value.pair k t ps) ≡ then_more an_entry (s, f) (members_in (before ++ s ∷ []) ps)
unfolding members_in
members_one before k t ps s f named e = rw (named, e) refl

members_unnamed : (before : List (List ℕ)) (k t : value.Tree) (ps : value.Pairs) (e : Stop MapFault) → Stops e (entry_name_in before k) → Stops e (members_in before (value.pair k t ps))
unfolding members_in
members_unnamed before k t ps stop.Memory h = tt
members_unnamed before k t ps (stop.Fault f) h = rw h refl

members_none : (before : List (List ℕ)) (k t : value.Tree) (ps : value.Pairs) (s : List ℕ) (e : Stop MapFault) → entry_name_in before k ≡ Ok s → Stops e (field_in t) → Stops e (members_in before (value.pair k t ps))
unfolding members_in
members_none before k t ps s stop.Memory named h = tt
members_none before k t ps s (stop.Fault f) named h = rw (named, h) refl

pub members_empty : (before : List (List ℕ)) → members_in before value.no_pairs ≡ Ok field.no_members
unfolding members_in
members_empty before = refl

-- what was made of pairs, and what is still made of these, after these names
abbrev pub made : List Entry → List (List ℕ) → value.Pairs → Result field.Members MapFault
made table now rest = entries_behind table (members_in now rest)

pub made_next : (table : List Entry) (now : List (List ℕ)) (k t : value.Tree) (ps : value.Pairs) (s : List ℕ) (f : field.Tree) (total : Result field.Members MapFault) → entry_name_in now k ≡ Ok s → field_in t ≡ Ok f
    → made table now (value.pair k t ps) ≡ total → made (table ++ (s, f) ∷ []) (now ++ s ∷ []) ps ≡ total
made_next table now k t ps s f total named e so_far = next an_entry table (s, f) (members_in now (value.pair k t ps)) (members_in (now ++ s ∷ []) ps) total (members_one now k t ps s f named e) so_far

pub made_unnamed : (e : Stop MapFault) (table : List Entry) (now : List (List ℕ)) (k t : value.Tree) (ps : value.Pairs) (total : Result field.Members MapFault) → Stops e (entry_name_in now k)
    → made table now (value.pair k t ps) ≡ total → Stops e total
made_unnamed e table now k t ps total h so_far = fail an_entry e table (members_in now (value.pair k t ps)) total (members_unnamed now k t ps e h) so_far

pub made_fail : (e : Stop MapFault) (table : List Entry) (now : List (List ℕ)) (k t : value.Tree) (ps : value.Pairs) (s : List ℕ) (total : Result field.Members MapFault) → entry_name_in now k ≡ Ok s → Stops e (field_in t)
    → made table now (value.pair k t ps) ≡ total → Stops e total
made_fail e table now k t ps s total named h so_far = fail an_entry e table (members_in now (value.pair k t ps)) total (members_none now k t ps s e named h) so_far

pub made_over : (table : List Entry) (now : List (List ℕ)) (total : Result field.Members MapFault) → made table now value.no_pairs ≡ total → total ≡ Ok (field.members_of table)
made_over table now total so_far = over an_entry table (members_in now value.no_pairs) field.no_members total (members_empty now) so_far ∙ ap (λ (ms : field.Members). Ok ms) (joined_entries table)

abbrev members_ok : field.Members → Result field.Members MapFault
members_ok ms = Ok ms

-- the pairs from a place on
abbrev pub pairs_from : List Pair → ℕ → value.Pairs
pairs_from ps k = value.pairs_of (drop k ps)

pub pairs_at : (ps : List Pair) (k : ℕ) (p : Pair) → slice_get ps k ≡ Some p → pairs_from ps k ≡ value.pair p.0 p.1 (pairs_from ps (k + 1))
pairs_at ps k p is =
    let one : k + 1 ≡ suc k = omega arith in
    rw one (ap (λ (qs : List Pair). value.pairs_of qs) (rest_at ps k p is))

pub pairs_past : (ps : List Pair) (k : ℕ) → length ps ≤ k → pairs_from ps k ≡ value.no_pairs
pairs_past ps k past = ap (λ (qs : List Pair). value.pairs_of qs) (rest_past ps k past)

-- ---- pairs that are kept

kept_out : (skips : Bool) (k t : value.Tree) (ps : value.Pairs) → is_left_out skips k ≡ true → kept_of skips (value.pair k t ps) ≡ kept_of skips ps
kept_out true k t ps e = rw e refl
kept_out false k t ps e = absurd (cc e)

kept_in : (skips : Bool) (k t : value.Tree) (ps : value.Pairs) → is_left_out skips k ≡ false → kept_of skips (value.pair k t ps) ≡ value.pair k t (kept_of skips ps)
kept_in true k t ps e = rw e refl
kept_in false k t ps e = refl

kept_none : (skips : Bool) → kept_of skips value.no_pairs ≡ value.no_pairs
kept_none true = refl
kept_none false = refl

names_push : (es : List Entry) (s : List ℕ) (f : field.Tree) → names_of (es ++ (s, f) ∷ []) ≡ names_of es ++ s ∷ []
names_push [] s f = refl
names_push (e ∷ es) s f = ap (λ (ns : List (List ℕ)). e.0 ∷ ns) (names_push es s f)

-- what a loop over pairs knows at a place: the names of the table, and what was made with what is still made
pub record Made (names : Names) (table : List Entry) (skips : Bool) (rest : value.Pairs) (total : Result field.Members MapFault) : Type 0 where
  pub holds : Holds names (names_of table)
  pub so_far : made table (names_of table) (kept_of skips rest) ≡ total

-- at a place where a pair stands
made_here : (table : List Entry) (skips : Bool) (ps : List Pair) (k : ℕ) (p : Pair) (total : Result field.Members MapFault) → slice_get ps k ≡ Some p → is_left_out skips p.0 ≡ false
    → made table (names_of table) (kept_of skips (pairs_from ps k)) ≡ total → made table (names_of table) (value.pair p.0 p.1 (kept_of skips (pairs_from ps (k + 1)))) ≡ total
made_here table skips ps k p total is stays so_far =
    let here : kept_of skips (pairs_from ps k) ≡ value.pair p.0 p.1 (kept_of skips (pairs_from ps (k + 1))) = ap (kept_of skips) (pairs_at ps k p is) ∙ kept_in skips p.0 p.1 (pairs_from ps (k + 1)) stays in
    ap (made table (names_of table)) (sym here) ∙ so_far

pub made_skip : (names : Names) (table : List Entry) (skips : Bool) (ps : List Pair) (k : ℕ) (p : Pair) (total : Result field.Members MapFault) → slice_get ps k ≡ Some p → is_left_out skips p.0 ≡ true
    → Made names table skips (pairs_from ps k) total → Made names table skips (pairs_from ps (k + 1)) total
made_skip names table skips ps k p total is out m =
    let here : kept_of skips (pairs_from ps k) ≡ kept_of skips (pairs_from ps (k + 1)) = ap (kept_of skips) (pairs_at ps k p is) ∙ kept_out skips p.0 p.1 (pairs_from ps (k + 1)) out in
    record { holds = m.holds; so_far = ap (made table (names_of table)) (sym here) ∙ m.so_far }

pub made_step : (names new : Names) (table : List Entry) (skips : Bool) (ps : List Pair) (k : ℕ) (p : Pair) (s : List ℕ) (f : field.Tree) (total : Result field.Members MapFault)
    → slice_get ps k ≡ Some p → is_left_out skips p.0 ≡ false → ((before : List (List ℕ)) → Holds names before → entry_name_in before p.0 ≡ Ok s) → ((before : List (List ℕ)) → Holds names before → Holds new (before ++ s ∷ []))
    → field_in p.1 ≡ Ok f → Made names table skips (pairs_from ps k) total → Made new (table ++ (s, f) ∷ []) skips (pairs_from ps (k + 1)) total
made_step names new table skips ps k p s f total is stays named more e m =
    let now = names_of table in
    let rest = kept_of skips (pairs_from ps (k + 1)) in
    let push : names_of (table ++ (s, f) ∷ []) ≡ now ++ s ∷ [] = names_push table s f in
    let so_far : made (table ++ (s, f) ∷ []) (now ++ s ∷ []) rest ≡ total =
    made_next table now p.0 p.1 rest s f total (named now m.holds) e (made_here table skips ps k p total is stays m.so_far) in
    record { holds = subst (Holds new) (sym push) (more now m.holds); so_far = ap (λ (ns : List (List ℕ)). made (table ++ (s, f) ∷ []) ns rest) push ∙ so_far }

pub made_stop_named : (e : Stop MapFault) (names : Names) (table : List Entry) (skips : Bool) (ps : List Pair) (k : ℕ) (p : Pair) (total : Result field.Members MapFault)
    → slice_get ps k ≡ Some p → is_left_out skips p.0 ≡ false → ((before : List (List ℕ)) → Holds names before → Stops e (entry_name_in before p.0)) → Made names table skips (pairs_from ps k) total → Stops e total
made_stop_named e names table skips ps k p total is stays h m =
    made_unnamed e table (names_of table) p.0 p.1 (kept_of skips (pairs_from ps (k + 1))) total (h (names_of table) m.holds) (made_here table skips ps k p total is stays m.so_far)

pub made_stop : (e : Stop MapFault) (names : Names) (table : List Entry) (skips : Bool) (ps : List Pair) (k : ℕ) (p : Pair) (s : List ℕ) (total : Result field.Members MapFault)
    → slice_get ps k ≡ Some p → is_left_out skips p.0 ≡ false → ((before : List (List ℕ)) → Holds names before → entry_name_in before p.0 ≡ Ok s) → Stops e (field_in p.1) → Made names table skips (pairs_from ps k) total → Stops e total
made_stop e names table skips ps k p s total is stays named h m =
    made_fail e table (names_of table) p.0 p.1 (kept_of skips (pairs_from ps (k + 1))) s total (named (names_of table) m.holds) h (made_here table skips ps k p total is stays m.so_far)

pub made_end : (names : Names) (table : List Entry) (skips : Bool) (ps : List Pair) (k : ℕ) (total : Result field.Members MapFault) → length ps ≤ k → Made names table skips (pairs_from ps k) total → total ≡ Ok (field.members_of table)
made_end names table skips ps k total past m =
    let here : kept_of skips (pairs_from ps k) ≡ value.no_pairs = ap (kept_of skips) (pairs_past ps k past) ∙ kept_none skips in
    made_over table (names_of table) total (ap (made table (names_of table)) (sym here) ∙ m.so_far)

-- nothing in front
pub entries_behind_none : (read : Result field.Members MapFault) → entries_behind [] read ≡ read
entries_behind_none (Ok ms) = refl
entries_behind_none (Err f) = refl

-- ---- values under symbols

pub under_next : (name : List ℕ) (ps : List Pair) (k : ℕ) (p : Pair) (total : Option value.Tree) → slice_get ps k ≡ Some p → is_symbol name p.0 ≡ false → value_under name (pairs_from ps k) ≡ total → value_under name (pairs_from ps (k + 1)) ≡ total
under_next name ps k p total is e so_far =
    let here : value_under name (pairs_from ps k) ≡ value_under name (pairs_from ps (k + 1)) = ap (value_under name) (pairs_at ps k p is) ∙ rw e refl in
    sym here ∙ so_far

pub under_at : (name : List ℕ) (ps : List Pair) (k : ℕ) (p : Pair) (total : Option value.Tree) → slice_get ps k ≡ Some p → is_symbol name p.0 ≡ true → value_under name (pairs_from ps k) ≡ total → Some p.1 ≡ total
under_at name ps k p total is e so_far =
    let here : value_under name (pairs_from ps k) ≡ Some p.1 = ap (value_under name) (pairs_at ps k p is) ∙ rw e refl in
    sym here ∙ so_far

pub under_past : (name : List ℕ) (ps : List Pair) (k : ℕ) (total : Option value.Tree) → length ps ≤ k → value_under name (pairs_from ps k) ≡ total → None ≡ total
under_past name ps k total past so_far = sym (ap (value_under name) (pairs_past ps k past)) ∙ so_far

-- ---- one table of two maps

pub no_section : (o : Option value.Tree) → None ≡ map_in o → members_in [] (unreserved (pairs_in_map o)) ≡ Ok field.no_members
no_section o e =
    let none : pairs_in_map o ≡ value.no_pairs = ap (λ (x : Option value.Pairs). unwrap_or x value.no_pairs) (sym e) in
    ap (λ (ps : value.Pairs). members_in [] (unreserved ps)) none ∙ members_empty []

pub entries_same : (es : List Entry) → entries_of (field.members_of es) ≡ es
entries_same [] = refl
entries_same (e ∷ es) = ap (λ (rest : List Entry). e ∷ rest) (entries_same es)

entries_joined : (es : List Entry) (ms : field.Members) → entries_of (joined an_entry es ms) ≡ es ++ entries_of ms
entries_joined [] ms = refl
entries_joined (e ∷ es) ms = ap (λ (rest : List Entry). e ∷ rest) (entries_joined es ms)

pub table_alone : (o : Option value.Tree) (t : List Entry) → members_in [] (unreserved (pairs_in_map o)) ≡ Ok (field.members_of t) → one_table_in o None ≡ Ok t
unfolding one_table_in
table_alone o t e = rw (e, members_empty (names_of (entries_of (field.members_of t))), entries_same t) (ap (λ (es : List Entry). Ok es) (append-nil t))

pub table_more : (o : Option value.Tree) (t u : List Entry) (ps : value.Pairs) → members_in [] (unreserved (pairs_in_map o)) ≡ Ok (field.members_of t) → entries_behind t (members_in (names_of t) ps) ≡ Ok (field.members_of u) → one_table_in o (Some (value.mapping ps)) ≡ Ok u
unfolding one_table_in
table_more o t u ps e h =
    let b = bind_is (members_in (names_of t) ps) (λ ms. members_ok (joined an_entry t ms)) (field.members_of u) h in
    let same : t ++ entries_of b.0 ≡ u = sym (entries_joined t b.0) ∙ ap entries_of (ok_is {F = MapFault} (joined an_entry t b.0) (field.members_of u) b.2) ∙ entries_same u in
    rw (e, entries_same t, b.1) (ap (λ (es : List Entry). Ok es) same)

pub table_stops : (e : Stop MapFault) (o : Option value.Tree) (t : List Entry) (ps : value.Pairs) → members_in [] (unreserved (pairs_in_map o)) ≡ Ok (field.members_of t) → Stops e (entries_behind t (members_in (names_of t) ps)) → Stops e (one_table_in o (Some (value.mapping ps)))
unfolding one_table_in
table_stops stop.Memory o t ps e h = tt
table_stops (stop.Fault f) o t ps e h =
    let inside : members_in (names_of t) ps ≡ Err f = at (members_in (names_of t) ps) h in
    rw (e, entries_same t, inside) refl
  where
    at : (r : Result field.Members MapFault) → entries_behind t r ≡ Err f → r ≡ Err f
    at (Ok ms) g = absurd (cc g)
    at (Err g) h = h
