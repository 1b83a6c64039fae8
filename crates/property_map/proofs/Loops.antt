-- Values, pairs and headers, as loops make them one by one.
use Rattle.std.proofs.Common.{◌≡◌, ℕ, zero, suc, ◌+◌, ◌≤◌, Bool, true, false, List, [], ◌∷◌, ◌++◌}
use Rattle.std.proofs.Common.{length, take, drop, map, Some, slice_get, Result, Ok, Err, refl, sym}
use Rattle.std.proofs.Common.{ap, subst, ◌∙◌, append_assoc, append-nil, arith}
use Rattle.wire_base.specs.Reading.{◌>>=◌, Stops}
use Rattle.wire_base.specs.declared.stop.Stop.{Stop}
use Rattle.wire_base.specs.declared.stop.Stop.TheVariants as stop
use Rattle.tables_091.specs.Tree as field
use Rattle.types_10.specs.Tree as value
use Rattle.property_map.specs.Names.{Holds}
use Rattle.property_map.specs.Steps.{joined, behind}
use Rattle.property_map.specs.Values.{name_in, value_in, values_in, pairs_in}
use Rattle.property_map.specs.Headers.{header_name_in, holds_others, with_header, headers_in}
use Rattle.property_map.specs.declared.fault.MapFault.{MapFault}
use Rattle.property_map.specs.declared.headers.HeaderMaps.{HeaderMaps}
use Rattle.property_map.specs.declared.names.Names.{Names}
use Rattle.property_map.proofs.Places.{rest_at, rest_past}
use Rattle.property_map.proofs.Steps.{then_more, next, fail, over, over_at}

-- ---- values

-- the values of an array
abbrev pub all_values : List field.Tree → Result value.Trees MapFault
all_values ts = values_in (field.trees_of ts)

pub values_one : (t : field.Tree) (ts : List field.Tree) (u : value.Tree) → value_in t ≡ Ok u → all_values (t ∷ ts) ≡ then_more value.tree u (all_values ts)
unfolding values_in
values_one t ts u e = rw e refl

pub values_none : (t : field.Tree) (ts : List field.Tree) (e : Stop MapFault) → Stops e (value_in t) → Stops e (all_values (t ∷ ts))
unfolding values_in
values_none t ts stop.Memory h = tt
values_none t ts (stop.Fault f) h = rw h refl

values_empty : all_values [] ≡ Ok value.no_trees
unfolding values_in
values_empty = refl

joined_values : (vs : List value.Tree) → joined value.tree vs value.no_trees ≡ value.trees_of vs
joined_values [] = refl
joined_values (v ∷ vs) = ap (value.tree v) (joined_values vs)

pub values_over : (vs : List value.Tree) (ts : List field.Tree) (k : ℕ) (total : Result value.Trees MapFault) → length ts ≤ k → behind value.tree vs (all_values (drop k ts)) ≡ total → total ≡ Ok (value.trees_of vs)
values_over vs ts k total past so_far = over_at value.tree value_in all_values value.no_trees values_empty vs ts k total past so_far ∙ ap (λ (us : value.Trees). Ok us) (joined_values vs)

-- ---- pairs

abbrev pub Entry : Type 0
Entry = List ℕ × field.Tree

abbrev pub Pair : Type 0
Pair = value.Tree × value.Tree

abbrev pub a_pair : Pair → value.Pairs → value.Pairs
a_pair p ps = value.pair p.0 p.1 ps

joined_pairs : (ps : List Pair) → joined a_pair ps value.no_pairs ≡ value.pairs_of ps
joined_pairs [] = refl
joined_pairs (p ∷ ps) = ap (value.pair p.0 p.1) (joined_pairs ps)

-- the names of the entries before a place
abbrev pub names_before : List Entry → ℕ → List (List ℕ)
names_before ms k = map (λ m. m.0) (take k ms)

-- the entries of a table from a place on
abbrev pub pairs_from : List Entry → ℕ → Result value.Pairs MapFault
pairs_from ms k = pairs_in (names_before ms k) (field.members_of (drop k ms))

names_next : (ms : List Entry) (k : ℕ) (m : Entry) → slice_get ms k ≡ Some m → names_before ms (suc k) ≡ names_before ms k ++ m.0 ∷ []
names_next [] k m e = absurd (cc e)
names_next (n ∷ ns) zero m e = ap (λ (o : List ℕ). o ∷ []) (first n m e)
  where
    first : (n m : Entry) → Some n ≡ Some m → n.0 ≡ m.0
    first n m e = cc
names_next (n ∷ ns) (suc k) m e = ap (λ (os : List (List ℕ)). n.0 ∷ os) (names_next ns k m e)

-- a set that stands for the names before an entry, and for this one, stands for those before the next
pub names_more : (names : Names) (ms : List Entry) (k : ℕ) (m : Entry) → slice_get ms k ≡ Some m → Holds names (names_before ms k ++ m.0 ∷ []) → Holds names (names_before ms (k + 1))
names_more names ms k m is h =
    let one : k + 1 ≡ suc k = omega arith in
    subst (Holds names) (sym (rw one (names_next ms k m is))) h

abbrev key : List ℕ → value.Tree
key s = value.scalar (value.string s)

pairs_one : (before : List (List ℕ)) (m : Entry) (ms : List Entry) (s : List ℕ) (u : value.Tree) → name_in before m.0 ≡ Ok s → value_in m.1 ≡ Ok u
    → pairs_in before (field.members_of (m ∷ ms)) ≡ then_more a_pair (key s, u) (pairs_in (before ++ m.0 ∷ []) (field.members_of ms))
unfolding pairs_in
pairs_one before m ms s u named e = rw (named, e) refl

pub pairs_next : (ps : List Pair) (ms : List Entry) (k : ℕ) (m : Entry) (s : List ℕ) (u : value.Tree) (total : Result value.Pairs MapFault) → slice_get ms k ≡ Some m → name_in (names_before ms k) m.0 ≡ Ok s → value_in m.1 ≡ Ok u
    → behind a_pair ps (pairs_from ms k) ≡ total → behind a_pair (ps ++ (key s, u) ∷ []) (pairs_from ms (k + 1)) ≡ total
pairs_next ps ms k m s u total is named e so_far =
    let one : k + 1 ≡ suc k = omega arith in
    let here : pairs_from ms k ≡ then_more a_pair (key s, u) (pairs_from ms (suc k)) =
    ap (λ (xs : List Entry). pairs_in (names_before ms k) (field.members_of xs)) (rest_at ms k m is) ∙ pairs_one (names_before ms k) m (drop (suc k) ms) s u named e
    ∙ ap (λ (before : List (List ℕ)). then_more a_pair (key s, u) (pairs_in before (field.members_of (drop (suc k) ms)))) (sym (names_next ms k m is)) in
    rw one (next a_pair ps (key s, u) (pairs_from ms k) (pairs_from ms (suc k)) total here so_far)

pairs_unnamed : (before : List (List ℕ)) (m : Entry) (ms : List Entry) (e : Stop MapFault) → Stops e (name_in before m.0) → Stops e (pairs_in before (field.members_of (m ∷ ms)))
unfolding pairs_in
pairs_unnamed before m ms stop.Memory h = tt
pairs_unnamed before m ms (stop.Fault f) h = rw h refl

pairs_none : (before : List (List ℕ)) (m : Entry) (ms : List Entry) (s : List ℕ) (e : Stop MapFault) → name_in before m.0 ≡ Ok s → Stops e (value_in m.1) → Stops e (pairs_in before (field.members_of (m ∷ ms)))
unfolding pairs_in
pairs_none before m ms s stop.Memory named h = tt
pairs_none before m ms s (stop.Fault f) named h = rw (named, h) refl

pub pairs_fail_named : (e : Stop MapFault) (ps : List Pair) (ms : List Entry) (k : ℕ) (m : Entry) (total : Result value.Pairs MapFault) → slice_get ms k ≡ Some m → Stops e (name_in (names_before ms k) m.0)
    → behind a_pair ps (pairs_from ms k) ≡ total → Stops e total
pairs_fail_named e ps ms k m total is h so_far =
    fail a_pair e ps (pairs_from ms k) total (rw (rest_at ms k m is) (pairs_unnamed (names_before ms k) m (drop (suc k) ms) e h)) so_far

pub pairs_fail : (e : Stop MapFault) (ps : List Pair) (ms : List Entry) (k : ℕ) (m : Entry) (s : List ℕ) (total : Result value.Pairs MapFault) → slice_get ms k ≡ Some m → name_in (names_before ms k) m.0 ≡ Ok s → Stops e (value_in m.1)
    → behind a_pair ps (pairs_from ms k) ≡ total → Stops e total
pairs_fail e ps ms k m s total is named h so_far =
    fail a_pair e ps (pairs_from ms k) total (rw (rest_at ms k m is) (pairs_none (names_before ms k) m (drop (suc k) ms) s e named h)) so_far

pairs_empty : (before : List (List ℕ)) → pairs_in before field.no_members ≡ Ok value.no_pairs
unfolding pairs_in
pairs_empty before = refl

pub pairs_over : (ps : List Pair) (ms : List Entry) (k : ℕ) (total : Result value.Pairs MapFault) → length ms ≤ k → behind a_pair ps (pairs_from ms k) ≡ total → total ≡ Ok (value.pairs_of ps)
pairs_over ps ms k total past so_far =
    let here : pairs_from ms k ≡ Ok value.no_pairs = ap (λ (xs : List Entry). pairs_in (names_before ms k) (field.members_of xs)) (rest_past ms k past) ∙ pairs_empty (names_before ms k) in
    over a_pair ps (pairs_from ms k) value.no_pairs total here so_far ∙ ap (λ (qs : value.Pairs). Ok qs) (joined_pairs ps)

-- ---- headers

abbrev pub maps_of : List Pair → List Pair → HeaderMaps
maps_of application annotation = record { application = application; annotation = annotation }

abbrev pub maps_joined : List Pair → List Pair → HeaderMaps → HeaderMaps
maps_joined application annotation maps = maps_of (application ++ maps.application) (annotation ++ maps.annotation)

abbrev pub maps_behind : List Pair → List Pair → Result HeaderMaps MapFault → Result HeaderMaps MapFault
maps_behind application annotation read = read >>= λ maps. Ok (maps_joined application annotation maps)

-- the headers of a table from a place on
abbrev pub headers_from : List Entry → ℕ → Result HeaderMaps MapFault
headers_from ms k = headers_in (names_before ms k) (drop k ms)

first_header : (before : List (List ℕ)) (m : Entry) (ms : List Entry) (s : List ℕ) (u : value.Tree) → header_name_in before m.0 ≡ Ok s → value_in m.1 ≡ Ok u
    → headers_in before (m ∷ ms) ≡ (headers_in (before ++ m.0 ∷ []) ms >>= λ maps. Ok (with_header (holds_others m.1) (key s, u) maps))
unfolding headers_in
first_header before m ms s u named e = rw (named, e) refl

abbrev then_headers : List Entry → ℕ → Entry → List ℕ → value.Tree → Result HeaderMaps MapFault
then_headers ms k m s u = headers_from ms (suc k) >>= λ maps. Ok (with_header (holds_others m.1) (key s, u) maps)

header_at : (ms : List Entry) (k : ℕ) (m : Entry) (s : List ℕ) (u : value.Tree) → slice_get ms k ≡ Some m → header_name_in (names_before ms k) m.0 ≡ Ok s → value_in m.1 ≡ Ok u
    → headers_from ms k ≡ then_headers ms k m s u
header_at ms k m s u is named e =
    ap (λ (xs : List Entry). headers_in (names_before ms k) xs) (rest_at ms k m is) ∙ first_header (names_before ms k) m (drop (suc k) ms) s u named e
    ∙ ap (λ (before : List (List ℕ)). headers_in before (drop (suc k) ms) >>= λ maps. Ok (with_header (holds_others m.1) (key s, u) maps)) (sym (names_next ms k m is))

application_moved : (application annotation : List Pair) (q : Pair) (read : Result HeaderMaps MapFault)
    → maps_behind application annotation (read >>= λ maps. Ok (with_header false q maps)) ≡ maps_behind (application ++ q ∷ []) annotation read
application_moved application annotation q (Ok maps) = ap (λ (ps : List Pair). Ok (maps_of ps (annotation ++ maps.annotation))) (sym (append_assoc application (q ∷ []) maps.application))
application_moved application annotation q (Err f) = refl

annotation_moved : (application annotation : List Pair) (q : Pair) (read : Result HeaderMaps MapFault)
    → maps_behind application annotation (read >>= λ maps. Ok (with_header true q maps)) ≡ maps_behind application (annotation ++ q ∷ []) read
annotation_moved application annotation q (Ok maps) = ap (λ (ps : List Pair). Ok (maps_of (application ++ maps.application) ps)) (sym (append_assoc annotation (q ∷ []) maps.annotation))
annotation_moved application annotation q (Err f) = refl

pub application_next : (application annotation : List Pair) (ms : List Entry) (k : ℕ) (m : Entry) (s : List ℕ) (u : value.Tree) (total : Result HeaderMaps MapFault)
    → slice_get ms k ≡ Some m → header_name_in (names_before ms k) m.0 ≡ Ok s → value_in m.1 ≡ Ok u → holds_others m.1 ≡ false
    → maps_behind application annotation (headers_from ms k) ≡ total → maps_behind (application ++ (key s, u) ∷ []) annotation (headers_from ms (k + 1)) ≡ total
application_next application annotation ms k m s u total is named e holds so_far =
    let one : k + 1 ≡ suc k = omega arith in
    let here : headers_from ms k ≡ (headers_from ms (suc k) >>= λ maps. Ok (with_header false (key s, u) maps)) =
    header_at ms k m s u is named e ∙ ap (λ (b : Bool). headers_from ms (suc k) >>= λ maps. Ok (with_header b (key s, u) maps)) holds in
    rw one (sym (application_moved application annotation (key s, u) (headers_from ms (suc k))) ∙ ap (maps_behind application annotation) (sym here) ∙ so_far)

pub annotation_next : (application annotation : List Pair) (ms : List Entry) (k : ℕ) (m : Entry) (s : List ℕ) (u : value.Tree) (total : Result HeaderMaps MapFault)
    → slice_get ms k ≡ Some m → header_name_in (names_before ms k) m.0 ≡ Ok s → value_in m.1 ≡ Ok u → holds_others m.1 ≡ true
    → maps_behind application annotation (headers_from ms k) ≡ total → maps_behind application (annotation ++ (key s, u) ∷ []) (headers_from ms (k + 1)) ≡ total
annotation_next application annotation ms k m s u total is named e holds so_far =
    let one : k + 1 ≡ suc k = omega arith in
    let here : headers_from ms k ≡ (headers_from ms (suc k) >>= λ maps. Ok (with_header true (key s, u) maps)) =
    header_at ms k m s u is named e ∙ ap (λ (b : Bool). headers_from ms (suc k) >>= λ maps. Ok (with_header b (key s, u) maps)) holds in
    rw one (sym (annotation_moved application annotation (key s, u) (headers_from ms (suc k))) ∙ ap (maps_behind application annotation) (sym here) ∙ so_far)

header_name_fails : (before : List (List ℕ)) (m : Entry) (ms : List Entry) (f : MapFault) → header_name_in before m.0 ≡ Err f → headers_in before (m ∷ ms) ≡ Err f
unfolding headers_in
header_name_fails before m ms f e = rw e refl

header_fails : (before : List (List ℕ)) (m : Entry) (ms : List Entry) (s : List ℕ) (f : MapFault) → header_name_in before m.0 ≡ Ok s → value_in m.1 ≡ Err f → headers_in before (m ∷ ms) ≡ Err f
unfolding headers_in
header_fails before m ms s f named e = rw (named, e) refl

pub headers_fail_named : (e : Stop MapFault) (application annotation : List Pair) (ms : List Entry) (k : ℕ) (m : Entry) (total : Result HeaderMaps MapFault) → slice_get ms k ≡ Some m → Stops e (header_name_in (names_before ms k) m.0)
    → maps_behind application annotation (headers_from ms k) ≡ total → Stops e total
headers_fail_named stop.Memory application annotation ms k m total is e so_far = tt
headers_fail_named (stop.Fault f) application annotation ms k m total is e so_far =
    let here : headers_from ms k ≡ Err f = ap (λ (xs : List Entry). headers_in (names_before ms k) xs) (rest_at ms k m is) ∙ header_name_fails (names_before ms k) m (drop (suc k) ms) f e in
    sym so_far ∙ ap (maps_behind application annotation) here

pub headers_fail : (e : Stop MapFault) (application annotation : List Pair) (ms : List Entry) (k : ℕ) (m : Entry) (s : List ℕ) (total : Result HeaderMaps MapFault) → slice_get ms k ≡ Some m
    → header_name_in (names_before ms k) m.0 ≡ Ok s → Stops e (value_in m.1) → maps_behind application annotation (headers_from ms k) ≡ total → Stops e total
headers_fail stop.Memory application annotation ms k m s total is named e so_far = tt
headers_fail (stop.Fault f) application annotation ms k m s total is named e so_far =
    let here : headers_from ms k ≡ Err f = ap (λ (xs : List Entry). headers_in (names_before ms k) xs) (rest_at ms k m is) ∙ header_fails (names_before ms k) m (drop (suc k) ms) s f named e in
    sym so_far ∙ ap (maps_behind application annotation) here

no_headers : (before : List (List ℕ)) → headers_in before [] ≡ Ok (maps_of [] [])
unfolding headers_in
no_headers before = refl

pub headers_over : (application annotation : List Pair) (ms : List Entry) (k : ℕ) (total : Result HeaderMaps MapFault) → length ms ≤ k → maps_behind application annotation (headers_from ms k) ≡ total → total ≡ Ok (maps_of application annotation)
headers_over application annotation ms k total past so_far =
    let here : headers_from ms k ≡ Ok (maps_of [] []) = ap (λ (xs : List Entry). headers_in (names_before ms k) xs) (rest_past ms k past) ∙ no_headers (names_before ms k) in
    let whole : maps_joined application annotation (maps_of [] []) ≡ maps_of application annotation =
    ap (λ (ps : List Pair). maps_of ps (annotation ++ [])) (append-nil application) ∙ ap (λ (qs : List Pair). maps_of application qs) (append-nil annotation) in
    sym so_far ∙ ap (maps_behind application annotation) here ∙ ap (λ (maps : HeaderMaps). Ok maps) whole
