-- Values that are read past: what is known of them, as loops come to know it.
use Rattle.std.proofs.Common.{◌≡◌, ◌≢◌, ℕ, zero, suc, ◌+◌, ◌-◌, ◌*◌, ◌/◌, ◌%◌, ◌^◌, ◌<◌, ◌≤◌, max, Bool, true, false, eqb, leb}
use Rattle.std.proofs.Common.{List, [], ◌∷◌, ◌++◌, length, Result, Ok, Err, refl, sym, ap, ◌∙◌, arith}
use Rattle.std.proofs.lemmas.Bool.{le-leb, leb-true, leb-false}
use Rattle.std.specs.Int.{Width}
use Rattle.wire_base.specs.declared.stop.Stop.{Stop}
use Rattle.wire_base.specs.declared.stop.Stop.TheVariants as stop
use Rattle.wire_base.specs.Reading.{Reads, ◌>>=◌, made}
use Rattle.wire_base.proofs.Laws.{ok_is}
use Rattle.types_10.specs.Tree.{Tree, described, depth, list_depth, trees_of}
use Rattle.types_10.specs.Loads.{weight, weights, copies}
use Rattle.types_10.specs.Measures.{capped}
use Rattle.types_10.specs.Reading.{Fault, IsTold, fault_at, count_in, bytes_in, code_in, row_in, two_in, filled_in, entries_in, Shape}
use Rattle.types_10.specs.Reading.{constructor_in, contents_in, element_in}
use Rattle.types_10.specs.Skipping.{with_room, extent, each_extent, pairs_extent, no_extent, joined, outer, front_depth, front}
use Rattle.types_10.specs.Skipping.{no_front, one_more, behind, outline, end_of, times}
use Rattle.types_10.specs.Kinds.{is_bare}
use Rattle.types_10.proofs.Constructors.{behind_descriptors, descriptor_goes_on, ends_at_code, ends_at_descriptor, done_at_code, ends_without_code}
use Rattle.types_10.proofs.Filled.{inside_of, filled_ends, filled_over, filled_done, entries_counted}
use Rattle.types_10.proofs.Levels.{bare_stays, element_plain, element_none, element_deep, element_more}
use Rattle.types_10.proofs.Rows.{behind_row, row_goes_on, row_ends, row_done}
use Rattle.types_10.specs.declared.fault.TypeFault.TheVariants as fault
use Rattle.types_10.specs.declared.kind.Kind.{Kind}
use Rattle.types_10.specs.declared.kind.Kind.TheVariants as kind
use Rattle.types_10.specs.declared.reading.Bounds.{Bounds}
use Rattle.types_10.specs.declared.skipping.Extent.{Extent}
use Rattle.types_10.specs.declared.skipping.Front.{Front}

-- ---- what was made of what was read

abbrev read_so : {A : Type 0} → A → Result A Fault
read_so x = Ok x

pub found_in : {A B : Type 0} (f : A → B) (r : Reads (A × ℕ) Fault) (b : B) (left : ℕ) (rest : List ℕ) → made (with_room f) r ≡ Ok ((b, left), rest) → (a : A) × (r ≡ Ok ((a, left), rest)) × (f a ≡ b)
found_in {A} {B} f (Ok x) b left rest e =
    let p = ok_is {F = Fault} ((f x.0.0, x.0.1), x.1) ((b, left), rest) e in
    let room = ap (λ (y : (B × ℕ) × List ℕ). y.0.1) p in
    let more = ap (λ (y : (B × ℕ) × List ℕ). y.1) p in
    let whole = ap (λ (n : ℕ). read_so ((x.0.0, n), x.1)) room ∙ ap (λ (s : List ℕ). read_so ((x.0.0, left), s)) more in
    (x.0.0, whole, ap (λ (y : (B × ℕ) × List ℕ). y.0.0) p)
found_in f (Err g) b left rest e = absurd cc

pub fault_in : {A B : Type 0} (f : A → B) (r : Reads (A × ℕ) Fault) (e : Fault) → made (with_room f) r ≡ Err e → r ≡ Err e
fault_in f (Ok x) e h = absurd cc
fault_in f (Err g) e h = let same : g ≡ e = cc in cc

pub told_by : {X Y : Type 0} (s : Stop Fault) (inner : Result X Fault) (whole : Result Y Fault) → ((f : Fault) → inner ≡ Err f → whole ≡ Err f) → IsTold s inner → IsTold s whole
told_by stop.Memory inner whole g h = absurd h
told_by (stop.Fault f) inner whole g h = g f h

-- ---- extents

abbrev extent_of : ℕ → ℕ → Extent
extent_of w d = record { weight = w; depth = d }

same_extent : (a b : Extent) → a.weight ≡ b.weight → a.depth ≡ b.depth → a ≡ b
same_extent a b e f = ap (λ (n : ℕ). extent_of n a.depth) e ∙ ap (λ (n : ℕ). extent_of b.weight n) f

pub described_outer : (d t : Tree) → extent (described d t) ≡ outer (joined (extent d) (extent t))
described_outer d t = same_extent _ _ (omega arith) (omega arith)

weights_more : (ts : List Tree) (x : Tree) → weights (trees_of (ts ++ x ∷ [])) ≡ weights (trees_of ts) + weight x
weights_more [] x = omega arith
weights_more (t ∷ ts) x = omega (arith, weights_more ts x)

depths_more : (ts : List Tree) (x : Tree) → list_depth (ts ++ x ∷ []) ≡ max (list_depth ts) (depth x)
depths_more [] x = omega arith
depths_more (t ∷ ts) x = omega (arith, depths_more ts x)

joined_more : (ts : List Tree) (x : Tree) → joined (each_extent ts) (extent x) ≡ each_extent (ts ++ x ∷ [])
joined_more ts x = same_extent _ _ (omega (arith, weights_more ts x)) (omega (arith, depths_more ts x))

-- ---- values one after another

-- these values stand in front, and what is still to be read makes the whole
abbrev pub IsSoFar : (ℕ → ℕ → List ℕ → Reads (Tree × ℕ) Fault) → Reads (List Tree × ℕ) Fault → Extent → ℕ → ℕ → ℕ → List ℕ → Type 0
IsSoFar read total all more room end text = (ts : List Tree) × (all ≡ each_extent ts) × (behind_row ts (row_in read more room end text) ≡ total)

row_none : (r : Reads (List Tree × ℕ) Fault) → behind_row [] r ≡ r
row_none (Ok x) = refl
row_none (Err e) = refl

pub so_far_begins : (read : ℕ → ℕ → List ℕ → Reads (Tree × ℕ) Fault) (count room end : ℕ) (text : List ℕ) → IsSoFar read (row_in read count room end text) no_extent (count - 0) room end text
so_far_begins read count room end text =
    let none : count - 0 ≡ count = omega arith in
    ([], refl, rw none (row_none (row_in read count room end text)))

pub so_far_goes_on : (read : ℕ → ℕ → List ℕ → Reads (Tree × ℕ) Fault) (total : Reads (List Tree × ℕ) Fault) (all : Extent) (count i room end : ℕ) (text : List ℕ) (e : Extent) (left : ℕ) (after : List ℕ) → i < count
    → IsSoFar read total all (count - i) room end text → made (with_room extent) (read room end text) ≡ Ok ((e, left), after) → IsSoFar read total (joined all e) (count - (i + 1)) left end after
so_far_goes_on read total all count i room end text e left after lt h m =
    let f = found_in extent (read room end text) e left after m in
    let sum : joined all e ≡ each_extent (h.0 ++ f.0 ∷ []) = ap (λ (a : Extent). joined a e) h.1 ∙ ap (joined (each_extent h.0)) (sym f.2) ∙ joined_more h.0 f.0 in
    (h.0 ++ f.0 ∷ [], sum, row_goes_on read h.0 count i room end text f.0 left after total lt f.1 h.2)

pub so_far_ends : (s : Stop Fault) (read : ℕ → ℕ → List ℕ → Reads (Tree × ℕ) Fault) (total : Reads (List Tree × ℕ) Fault) (all : Extent) (count i room end : ℕ) (text : List ℕ) → i < count
    → IsSoFar read total all (count - i) room end text → IsTold s (made (with_room extent) (read room end text)) → IsTold s (made (with_room each_extent) total)
so_far_ends s read total all count i room end text lt h =
    told_by s _ _ (λ f e. ap (made (with_room each_extent)) (row_ends (stop.Fault f) read h.0 count i room end text total lt (fault_in extent (read room end text) f e) h.2))

pub so_far_done : (read : ℕ → ℕ → List ℕ → Reads (Tree × ℕ) Fault) (total : Reads (List Tree × ℕ) Fault) (all : Extent) (count i room end : ℕ) (text : List ℕ) → count ≤ i
    → IsSoFar read total all (count - i) room end text → made (with_room each_extent) total ≡ Ok ((all, room), text)
so_far_done read total all count i room end text le h =
    rw (row_done read h.0 count i room end text total le h.2, h.1) refl

-- the keys and values of a map, in turn
pairs_extent_more : (k t : Tree) (ps : List (Tree × Tree)) → pairs_extent ((k, t) ∷ ps) ≡ joined (extent k) (joined (extent t) (pairs_extent ps))
pairs_extent_more k t ps = same_extent _ _ (omega arith) (omega arith)

each_extent_more : (t : Tree) (ts : List Tree) → each_extent (t ∷ ts) ≡ joined (extent t) (each_extent ts)
each_extent_more t ts = same_extent _ _ (omega arith) (omega arith)

abbrev in_front : Extent → Reads (Extent × ℕ) Fault → Reads (Extent × ℕ) Fault
in_front a = made (with_room (joined a))

value_in_front : (t : Tree) (r : Reads (List Tree × ℕ) Fault) → made (with_room each_extent) (made (λ xs. (t ∷ xs.0, xs.1)) r) ≡ in_front (extent t) (made (with_room each_extent) r)
value_in_front t (Ok x) = rw (each_extent_more t x.0.0) refl
value_in_front t (Err e) = refl

pair_in_front : (k t : Tree) (r : Reads (List (Tree × Tree) × ℕ) Fault) → made (with_room pairs_extent) (made (λ xs. ((k, t) ∷ xs.0, xs.1)) r) ≡ in_front (extent k) (in_front (extent t) (made (with_room pairs_extent) r))
pair_in_front k t (Ok x) = rw (pairs_extent_more k t x.0.0) refl
pair_in_front k t (Err e) = refl

-- so many pairs are twice as many values
abbrev pub ArePaired : (ℕ → ℕ → List ℕ → Reads (Tree × ℕ) Fault) → ℕ → Type 0
ArePaired read m =
    (room end : ℕ) (text : List ℕ) → made (with_room pairs_extent) (row_in (two_in read) m room end text) ≡ made (with_room each_extent) (row_in read (2 * m) room end text)

second_turn : (read : ℕ → ℕ → List ℕ → Reads (Tree × ℕ) Fault) (m end : ℕ) → ArePaired read m → (k : Tree) (r : Reads (Tree × ℕ) Fault)
    → made (with_room pairs_extent) (made (λ (y : Tree × ℕ). ((k, y.0), y.1)) r >>= λ (x : ((Tree × Tree) × ℕ) × List ℕ). made (λ (xs : List (Tree × Tree) × ℕ). (x.0.0 ∷ xs.0, xs.1)) (row_in (two_in read) m x.0.1 end x.1))
    ≡ in_front (extent k) (made (with_room each_extent) (r >>= λ (x : (Tree × ℕ) × List ℕ). made (λ (xs : List Tree × ℕ). (x.0.0 ∷ xs.0, xs.1)) (row_in read (2 * m) x.0.1 end x.1)))
second_turn read m end ih k (Ok y) =
    pair_in_front k y.0.0 (row_in (two_in read) m y.0.1 end y.1) ∙ ap (λ (r : Reads (Extent × ℕ) Fault). in_front (extent k) (in_front (extent y.0.0) r)) (ih y.0.1 end y.1)
    ∙ ap (in_front (extent k)) (sym (value_in_front y.0.0 (row_in read (2 * m) y.0.1 end y.1)))
second_turn read m end ih k (Err e) = refl

first_turn : (read : ℕ → ℕ → List ℕ → Reads (Tree × ℕ) Fault) (m end : ℕ) → ArePaired read m → (r : Reads (Tree × ℕ) Fault)
    → made (with_room pairs_extent) ((r >>= λ (x : (Tree × ℕ) × List ℕ). made (λ (y : Tree × ℕ). ((x.0.0, y.0), y.1)) (read x.0.1 end x.1))
    >>= λ (x : ((Tree × Tree) × ℕ) × List ℕ). made (λ (xs : List (Tree × Tree) × ℕ). (x.0.0 ∷ xs.0, xs.1)) (row_in (two_in read) m x.0.1 end x.1))
    ≡ made (with_room each_extent) (r >>= λ (x : (Tree × ℕ) × List ℕ). made (λ (xs : List Tree × ℕ). (x.0.0 ∷ xs.0, xs.1)) (row_in read (suc (2 * m)) x.0.1 end x.1))
unfolding row_in
first_turn read m end ih (Ok x) =
    second_turn read m end ih x.0.0 (read x.0.1 end x.1) ∙ sym (value_in_front x.0.0 (row_in read (suc (2 * m)) x.0.1 end x.1))
first_turn read m end ih (Err e) = refl

pub paired : (read : ℕ → ℕ → List ℕ → Reads (Tree × ℕ) Fault) (m : ℕ) → ArePaired read m
unfolding row_in
paired read zero room end text = refl
paired read (suc m) room end text =
    let two : 2 * suc m ≡ suc (suc (2 * m)) = omega arith in
    rw two (first_turn read m end (paired read m) (read room end text))

-- ---- what fills a size

pub filled_past_ends : {A B : Type 0} (f : A → B) (s : Stop Fault) (w : Width) (at : ℕ) (inner : Fault → ℕ → List ℕ → Reads (A × ℕ) Fault) (cut : Fault) (end : ℕ) (bytes body rest : List ℕ) (i : Bounds) → bytes_in cut w bytes ≡ Ok (body, rest)
    → i ≡ inside_of at end rest → IsTold s (made (with_room f) (inner i.cut i.end body)) → IsTold s (made (with_room f) (filled_in w at inner cut end bytes))
filled_past_ends f s w at inner cut end bytes body rest i b is =
    told_by s _ _ (λ g e. ap (made (with_room f)) (filled_ends (stop.Fault g) w at inner cut end bytes body rest i b is (fault_in f (inner i.cut i.end body) g e)))

pub filled_past_over : {A B : Type 0} (f : A → B) (w : Width) (at : ℕ) (inner : Fault → ℕ → List ℕ → Reads (A × ℕ) Fault) (cut : Fault) (end : ℕ) (bytes body rest : List ℕ) (i : Bounds) (y : B) (room : ℕ) (left : List ℕ) → bytes_in cut w bytes ≡ Ok (body, rest)
    → i ≡ inside_of at end rest → made (with_room f) (inner i.cut i.end body) ≡ Ok ((y, room), left) → eqb (length left) 0 ≡ false → made (with_room f) (filled_in w at inner cut end bytes) ≡ Err i.cut
filled_past_over f w at inner cut end bytes body rest i y room left b is h more =
    let x = found_in f (inner i.cut i.end body) y room left h in
    ap (made (with_room f)) (filled_over w at inner cut end bytes body rest i (x.0, room) left b is x.1 more)

pub filled_past_done : {A B : Type 0} (f : A → B) (w : Width) (at : ℕ) (inner : Fault → ℕ → List ℕ → Reads (A × ℕ) Fault) (cut : Fault) (end : ℕ) (bytes body rest : List ℕ) (i : Bounds) (y : B) (room : ℕ) (left : List ℕ) → bytes_in cut w bytes ≡ Ok (body, rest)
    → i ≡ inside_of at end rest → made (with_room f) (inner i.cut i.end body) ≡ Ok ((y, room), left) → eqb (length left) 0 ≡ true → made (with_room f) (filled_in w at inner cut end bytes) ≡ Ok ((y, room), rest)
filled_past_done f w at inner cut end bytes body rest i y room left b is h none =
    let x = found_in f (inner i.cut i.end body) y room left h in
    ap (made (with_room f)) (filled_done w at inner cut end bytes body rest i (x.0, room) left b is x.1 none) ∙ ap (λ (y : _). Ok ((y, room), rest)) x.2

-- ---- constructors

abbrev Values : Type 0
Values = ℕ → Fault → ℕ → List ℕ → Reads (Tree × ℕ) Fault

-- these descriptors stand in front, and what is still to be read makes the whole
abbrev pub IsFrontSoFar : Values → Reads (Shape × ℕ) Fault → Front → ℕ → ℕ → Fault → ℕ → List ℕ → Type 0
IsFrontSoFar read total f most room cut end text = (ds : List Tree) × (f ≡ front ds) × (behind_descriptors ds (constructor_in read most room cut end text) ≡ total)

front_none : (r : Reads (Shape × ℕ) Fault) → behind_descriptors [] r ≡ r
front_none (Ok x) = refl
front_none (Err e) = refl

pub front_begins : (read : Values) (most room : ℕ) (cut : Fault) (end : ℕ) (text : List ℕ) → IsFrontSoFar read (constructor_in read most room cut end text) no_front most room cut end text
front_begins read most room cut end text = ([], refl, front_none (constructor_in read most room cut end text))

count_more : (ds : List Tree) (x : Tree) → length (ds ++ x ∷ []) ≡ length ds + 1
count_more [] x = omega arith
count_more (d ∷ ds) x = omega (arith, count_more ds x)

front_depth_more : (ds : List Tree) (x : Tree) → front_depth (ds ++ x ∷ []) ≡ max (front_depth ds) (length ds + (depth x + 1))
front_depth_more [] x = omega arith
front_depth_more (d ∷ ds) x = omega (arith, front_depth_more ds x)

abbrev front_of : ℕ → ℕ → ℕ → Front
front_of c n d = record { copies = c; count = n; depth = d }

same_front : (a b : Front) → a.copies ≡ b.copies → a.count ≡ b.count → a.depth ≡ b.depth → a ≡ b
same_front a b e f g =
    ap (λ (n : ℕ). front_of n a.count a.depth) e ∙ ap (λ (n : ℕ). front_of b.copies n a.depth) f ∙ ap (λ (n : ℕ). front_of b.copies b.count n) g

front_more : (ds : List Tree) (x : Tree) → one_more (front ds) (extent x) ≡ front (ds ++ x ∷ [])
front_more ds x = same_front _ _ (omega (arith, weights_more ds x)) (omega (arith, count_more ds x)) (omega (arith, front_depth_more ds x))

pub front_goes_on : (read : Values) (total : Reads (Shape × ℕ) Fault) (f : Front) (most left room : ℕ) (cut : Fault) (end : ℕ) (text : List ℕ) (at : ℕ) (after : List ℕ) (e : Extent) (more : ℕ) (rest : List ℕ) → most ≡ suc left
    → code_in cut end text ≡ Ok ((kind.Described, at), after) → made (with_room extent) (read room cut end after) ≡ Ok ((e, more), rest)
    → IsFrontSoFar read total f most room cut end text → IsFrontSoFar read total (one_more f e) left more cut end rest
front_goes_on read total f most left room cut end text at after e more rest turn code m h =
    let x = found_in extent (read room cut end after) e more rest m in
    let sum : one_more f e ≡ front (h.0 ++ x.0 ∷ []) = ap (λ (g : Front). one_more g e) h.1 ∙ ap (one_more (front h.0)) (sym x.2) ∙ front_more h.0 x.0 in
    (h.0 ++ x.0 ∷ [], sum, descriptor_goes_on read h.0 most left room cut end text at after x.0 more rest total turn code x.1 h.2)

pub front_ends_at_code : (s : Stop Fault) (read : Values) (total : Reads (Shape × ℕ) Fault) (f : Front) (most room : ℕ) (cut : Fault) (end : ℕ) (text : List ℕ) → 0 < most
    → IsTold s (code_in cut end text) → IsFrontSoFar read total f most room cut end text → IsTold s (made (with_room outline) total)
front_ends_at_code s read total f most room cut end text some code h =
    told_by s _ _ (λ g e. ap (made (with_room outline)) (ends_at_code (stop.Fault g) read h.0 most room cut end text total some e h.2)) code

pub front_ends_at_descriptor : (s : Stop Fault) (read : Values) (total : Reads (Shape × ℕ) Fault) (f : Front) (most room : ℕ) (cut : Fault) (end : ℕ) (text : List ℕ) (at : ℕ) (after : List ℕ) → 0 < most
    → code_in cut end text ≡ Ok ((kind.Described, at), after) → IsTold s (made (with_room extent) (read room cut end after))
    → IsFrontSoFar read total f most room cut end text → IsTold s (made (with_room outline) total)
front_ends_at_descriptor s read total f most room cut end text at after some code m h =
    told_by s _ _ (λ g e. ap (made (with_room outline)) (ends_at_descriptor (stop.Fault g) read h.0 most room cut end text at after total some code (fault_in extent (read room cut end after) g e) h.2)) m

pub front_done : (read : Values) (total : Reads (Shape × ℕ) Fault) (f : Front) (most room : ℕ) (cut : Fault) (end : ℕ) (text : List ℕ) (k : Kind) (at : ℕ) (after : List ℕ) → 0 < most
    → code_in cut end text ≡ Ok ((k, at), after) → k ≢ kind.Described → IsFrontSoFar read total f most room cut end text → made (with_room outline) total ≡ Ok ((record { front = f; kind = k }, room), after)
front_done read total f most room cut end text k at after some code plain h =
    rw (done_at_code read h.0 most room cut end text k at after total some code plain h.2, h.1) refl

pub front_without_code : (read : Values) (total : Reads (Shape × ℕ) Fault) (f : Front) (most room : ℕ) (cut : Fault) (end : ℕ) (text : List ℕ) → most ≡ 0
    → IsFrontSoFar read total f most room cut end text → made (with_room outline) total ≡ Err cut
front_without_code read total f most room cut end text none h =
    rw (ends_without_code read h.0 most room cut end text total none h.2) refl

-- ---- elements

-- a value behind these descriptors
abbrev pub within : List Tree → Tree → Tree
within [] t = t
within (x ∷ xs) t = described x (within xs t)

within_weight : (xs : List Tree) (t : Tree) → weight (within xs t) ≡ (copies xs + length xs) + weight t
within_weight [] t = omega arith
within_weight (x ∷ xs) t = omega (arith, within_weight xs t)

within_depth : (xs : List Tree) (t : Tree) → depth (within xs t) ≡ max (front_depth xs) (length xs + depth t)
within_depth [] t = omega arith
within_depth (x ∷ xs) t = omega (arith, within_depth xs t)

within_behind : (xs : List Tree) (t : Tree) → extent (within xs t) ≡ behind (front xs) (extent t)
within_behind xs t = same_extent _ _ (omega (arith, within_weight xs t)) (omega (arith, within_depth xs t))

fused : (x : Tree) (xs : List Tree) (r : Reads (Tree × ℕ) Fault) → made (λ y. (described x y.0, y.1)) (made (with_room (within xs)) r) ≡ made (with_room (within (x ∷ xs))) r
fused x xs (Ok y) = refl
fused x xs (Err e) = refl

none_within : (r : Reads (Tree × ℕ) Fault) → r ≡ made (with_room (within [])) r
none_within (Ok y) = refl
none_within (Err e) = refl

-- an element that isn't too deep
pub element_within : (xs : List Tree) (d room : ℕ) (k : Kind) (at : ℕ) (cut : Fault) (end : ℕ) (text : List ℕ) → front_depth xs ≤ d
    → element_in d room (xs, k) at cut end text ≡ made (with_room (within xs)) (contents_in (d - length xs) room k at cut end text)
element_within [] d room k at cut end text fits =
    let none : d - 0 ≡ d = omega arith in
    rw none (element_plain d room k at cut end text ∙ none_within (contents_in d room k at cut end text))
element_within (x ∷ xs) d room k at cut end text fits =
    let less : (d - 1) - length xs ≡ d - length (x ∷ xs) = omega arith in
    element_more d room x xs k at cut end text (omega arith) (le-leb _ _ (omega arith)) ∙ ap (made (λ y. (described x y.0, y.1))) (element_within xs (d - 1) room k at cut end text (omega arith))
    ∙ fused x xs (contents_in ((d - 1) - length xs) room k at cut end text) ∙ ap (λ (n : ℕ). made (with_room (within (x ∷ xs))) (contents_in n room k at cut end text)) less

-- one that is
beyond_more : (x : Tree) (xs : List Tree) (d room : ℕ) (k : Kind) (at : ℕ) (cut : Fault) (end : ℕ) (text : List ℕ) → suc d < front_depth (x ∷ xs) → (d < front_depth xs → element_in d room (xs, k) at cut end text ≡ Err (fault_at fault.Depth at))
    → (b : Bool) → leb (depth x) (suc d - 1) ≡ b → element_in (suc d) room (x ∷ xs, k) at cut end text ≡ Err (fault_at fault.Depth at)
beyond_more x xs d room k at cut end text beyond ih false e = element_deep (suc d) room x xs k at cut end text (omega arith) e
beyond_more x xs d room k at cut end text beyond ih true e =
    let less : suc d - 1 ≡ d = omega arith in
    let inside : element_in (suc d - 1) room (xs, k) at cut end text ≡ Err (fault_at fault.Depth at) = rw less (ih (omega (arith, beyond, leb-true _ _ e))) in
    element_more (suc d) room x xs k at cut end text (omega arith) e ∙ ap (made (λ (y : Tree × ℕ). (described x y.0, y.1))) inside

pub element_beyond : (xs : List Tree) (d room : ℕ) (k : Kind) (at : ℕ) (cut : Fault) (end : ℕ) (text : List ℕ) → d < front_depth xs → element_in d room (xs, k) at cut end text ≡ Err (fault_at fault.Depth at)
element_beyond [] d room k at cut end text beyond = absurd (omega arith)
element_beyond (x ∷ xs) zero room k at cut end text beyond = element_none room x xs k at cut end text
element_beyond (x ∷ xs) (suc d) room k at cut end text beyond =
    beyond_more x xs d room k at cut end text beyond (element_beyond xs d room k at cut end text) (leb (depth x) (suc d - 1)) refl

front_long : (xs : List Tree) → length xs ≤ front_depth xs
front_long [] = omega arith
front_long (x ∷ xs) = omega (arith, front_long xs)

-- how deep an element may be, as the program finds it
pub depth_inside : (xs : List Tree) (d count : ℕ) → d < 2 ^ 8 → count ≡ capped (length xs) → front_depth xs ≤ d → d - count ≡ d - length xs
depth_inside xs d count small is fits = omega (arith, front_long xs)

inside_same : (c : Shape) (d inside room : ℕ) (k : Kind) (at : ℕ) (cut : Fault) (end : ℕ) (text : List ℕ) → inside ≡ d - length c.0 → k ≡ c.1 → contents_in (d - length c.0) room c.1 at cut end text ≡ contents_in inside room k at cut end text
inside_same c d inside room k at cut end text i e = rw (i, e) refl

pub element_told : (s : Stop Fault) (c : Shape) (d inside room : ℕ) (k : Kind) (at : ℕ) (cut : Fault) (end : ℕ) (text : List ℕ) → front_depth c.0 ≤ d → inside ≡ d - length c.0 → k ≡ c.1
    → IsTold s (made (with_room extent) (contents_in inside room k at cut end text)) → IsTold s (made (with_room extent) (element_in d room c at cut end text))
element_told s c d inside room k at cut end text fits i e =
    told_by s _ _ (λ f h. ap (made (with_room extent)) (element_within c.0 d room c.1 at cut end text fits ∙ ap (made (with_room (within c.0))) (inside_same c d inside room k at cut end text i e ∙ fault_in extent (contents_in inside room k at cut end text) f h)))

pub element_found : (c : Shape) (d inside room : ℕ) (k : Kind) (at : ℕ) (cut : Fault) (end : ℕ) (text : List ℕ) (e : Extent) (left : ℕ) (rest : List ℕ) → front_depth c.0 ≤ d → inside ≡ d - length c.0 → k ≡ c.1
    → made (with_room extent) (contents_in inside room k at cut end text) ≡ Ok ((e, left), rest) → made (with_room extent) (element_in d room c at cut end text) ≡ Ok ((behind (front c.0) e, left), rest)
element_found c d inside room k at cut end text e left rest fits i is m =
    let x = found_in extent (contents_in inside room k at cut end text) e left rest m in
    let whole = element_within c.0 d room c.1 at cut end text fits ∙ ap (made (with_room (within c.0))) (inside_same c d inside room k at cut end text i is ∙ x.1) in
    let sum : extent (within c.0 x.0) ≡ behind (front c.0) e = within_behind c.0 x.0 ∙ ap (behind (front c.0)) x.2 in
    ap (made (with_room extent)) whole ∙ ap (λ (e : Extent). Ok ((e, left), rest)) sum

-- ---- elements without bytes

element_stays_by : (c : Shape) (d room at : ℕ) (cut : Fault) (end : ℕ) (text : List ℕ) (x : Tree) (left : ℕ) (rest : List ℕ) → is_bare c.1 ≡ true → element_in d room c at cut end text ≡ Ok ((x, left), rest)
    → (b : Bool) → leb (front_depth c.0) d ≡ b → (left ≡ room) × (rest ≡ text)
element_stays_by c d room at cut end text x left rest bare e false h =
    absurd (cc (e, element_beyond c.0 d room c.1 at cut end text (omega (arith, leb-false _ _ h))))
element_stays_by c d room at cut end text x left rest bare e true h =
    let inner = contents_in (d - length c.0) room c.1 at cut end text in
    let f = found_in (within c.0) inner x left rest (sym (element_within c.0 d room c.1 at cut end text (leb-true _ _ h)) ∙ e) in
    bare_stays (d - length c.0) room c.1 at cut end text f.0 left rest bare f.1

-- such an element leaves the room and the bytes as they were
pub element_stays : (c : Shape) (d room at : ℕ) (cut : Fault) (end : ℕ) (text : List ℕ) (x : Tree) (left : ℕ) (rest : List ℕ) → is_bare c.1 ≡ true → element_in d room c at cut end text ≡ Ok ((x, left), rest) → (left ≡ room) × (rest ≡ text)
element_stays c d room at cut end text x left rest bare e =
    element_stays_by c d room at cut end text x left rest bare e (leb (front_depth c.0) d) refl

-- so many that are alike
abbrev alike : ℕ → Tree → List Tree
alike zero x = []
alike (suc n) x = x ∷ alike n x

row_alike : (read : ℕ → ℕ → List ℕ → Reads (Tree × ℕ) Fault) (n room end : ℕ) (text : List ℕ) (x : Tree) → read room end text ≡ Ok ((x, room), text) → row_in read n room end text ≡ Ok ((alike n x, room), text)
unfolding row_in
row_alike read zero room end text x e = refl
row_alike read (suc n) room end text x e = rw (e, row_alike read n room end text x e) refl

alike_depth : (n : ℕ) (x : Tree) → 0 < n → list_depth (alike n x) ≡ depth x
alike_depth zero x some = absurd (omega arith)
alike_depth (suc zero) x some = omega arith
alike_depth (suc (suc n)) x some = omega (arith, alike_depth (suc n) x (omega arith))

capped_sum : (a b w : ℕ) → capped a ≡ capped b → capped (w + a) ≡ capped (capped w + b)
capped_sum a b w e = omega (arith, e)

times_more : (n w : ℕ) → suc n * w ≡ w + n * w
times_more n w = omega arith

alike_weight : (n : ℕ) (x : Tree) → capped (weights (trees_of (alike n x))) ≡ capped (n * capped (weight x))
alike_weight zero x = omega arith
alike_weight (suc n) x =
    ap capped (omega arith) ∙ capped_sum (weights (trees_of (alike n x))) (n * capped (weight x)) (weight x) (alike_weight n x) ∙ ap capped (sym (times_more n (capped (weight x))))

each_alike : (n : ℕ) (x : Tree) → 0 < n → each_extent (alike n x) ≡ times n (extent x)
each_alike n x some = same_extent _ _ (alike_weight n x) (ap capped (alike_depth n x some))

pub alike_done : (read : ℕ → ℕ → List ℕ → Reads (Tree × ℕ) Fault) (n room end : ℕ) (text : List ℕ) (e : Extent) (left : ℕ) (rest : List ℕ) → 0 < n → made (with_room extent) (read room end text) ≡ Ok ((e, left), rest)
    → ((x : Tree) → read room end text ≡ Ok ((x, left), rest) → (left ≡ room) × (rest ≡ text)) → made (with_room each_extent) (row_in read n room end text) ≡ Ok ((times n e, left), rest)
alike_done read n room end text e left rest some m stays =
    let x = found_in extent (read room end text) e left rest m in
    let same = stays x.0 x.1 in
    let one : read room end text ≡ Ok ((x.0, room), text) = x.1 ∙ ap (λ (n : ℕ). read_so ((x.0, n), rest)) same.0 ∙ ap (λ (s : List ℕ). read_so ((x.0, room), s)) same.1 in
    let sum : each_extent (alike n x.0) ≡ times n e = each_alike n x.0 some ∙ ap (times n) x.2 in
    ap (made (with_room each_extent)) (row_alike read n room end text x.0 one) ∙ ap (λ (a : Extent). read_so ((a, room), text)) sum
    ∙ ap (λ (n' : ℕ). read_so ((times n e, n'), text)) (sym same.0) ∙ ap (λ (s : List ℕ). read_so ((times n e, left), s)) (sym same.1)

-- ---- values that hold others

-- a descriptor and what it describes
abbrev pub two_read : (ℕ → ℕ → List ℕ → Reads (Tree × ℕ) Fault) → ℕ → ℕ → List ℕ → Reads (Extent × ℕ) Fault
two_read read room end bytes = made (with_room extent) (made (λ p. (described p.0.0 p.0.1, p.1)) (two_in read room end bytes))

pub both_done : (read : ℕ → ℕ → List ℕ → Reads (Tree × ℕ) Fault) (room end : ℕ) (bytes : List ℕ) (e g : Extent) (more left : ℕ) (rest after : List ℕ) → made (with_room extent) (read room end bytes) ≡ Ok ((e, more), rest)
    → made (with_room extent) (read more end rest) ≡ Ok ((g, left), after) → two_read read room end bytes ≡ Ok ((outer (joined e g), left), after)
both_done read room end bytes e g more left rest after m n =
    let x = found_in extent (read room end bytes) e more rest m in
    let y = found_in extent (read more end rest) g left after n in
    let sum : extent (described x.0 y.0) ≡ outer (joined e g) = described_outer x.0 y.0 ∙ ap (λ (a : Extent). outer (joined a (extent y.0))) x.2 ∙ ap (λ (a : Extent). outer (joined e a)) y.2 in
    rw (x.1, y.1) (ap (λ (e : Extent). Ok ((e, left), after)) sum)

-- ---- maps

-- the keys and values behind their count
pub entries_paired : (w : Width) (read : Values) (room : ℕ) (cut : Fault) (end : ℕ) (bytes : List ℕ) (n : ℕ) (entries : List ℕ) → count_in cut w bytes ≡ Ok (n, entries) → n % 2 ≡ 0
    → made (with_room pairs_extent) (entries_in w read room cut end bytes) ≡ made (with_room each_extent) (row_in (λ (room : ℕ). read room cut) n room end entries)
entries_paired w read room cut end bytes n entries e even =
    let whole : 2 * (n / 2) ≡ n = omega arith in
    ap (made (with_room pairs_extent)) (entries_counted w read room cut end bytes n entries e even) ∙ paired (λ (room : ℕ). read room cut) (n / 2) room end entries
    ∙ ap (λ (n : ℕ). made (with_room each_extent) (row_in (λ (room : ℕ). read room cut) n room end entries)) whole

-- ---- the end of a value

pub end_found : (r : Result (Tree × ℕ) Fault) (n : ℕ) → end_of r ≡ Ok n → (t : Tree) × (r ≡ Ok (t, n))
end_found (Ok x) n e = (x.0, ap (λ (n : ℕ). read_so (x.0, n)) (ok_is {F = Fault} x.1 n e))
end_found (Err f) n e = absurd cc

pub end_fault : (r : Result (Tree × ℕ) Fault) (f : Fault) → end_of r ≡ Err f → r ≡ Err f
end_fault (Ok x) f e = absurd cc
end_fault (Err g) f e = let same : g ≡ f = cc in cc
