-- Values that aren't built: what their codes and what is read past tell of them.
use Rattle.std.proofs.Common.{◌≡◌, ◌≢◌, ℕ, zero, suc, ◌-◌, ◌*◌, ◌≤◌, Bool, true, false, cond, eqb, leb, List, [], ◌∷◌}
use Rattle.std.proofs.Common.{length, drop, Option, Some, None, take, Result, Ok, Err, refl, sym, ap, subst, ◌∙◌, arith, slice_get, ◌<◌}
use Rattle.std.proofs.lemmas.Bool.{ne_eqb}
use Rattle.std.proofs.lemmas.List.{append-nil, length-append, take_at}
use Rattle.std.specs.Int.{Width, w8}
use Rattle.wire_base.specs.Bytes.{IsBytes}
use Rattle.wire_base.specs.declared.stop.Stop.{Stop}
use Rattle.wire_base.specs.declared.stop.Stop.TheVariants as stop
use Rattle.wire_base.specs.Reading.{Reads, ◌>>=◌, made}
use Rattle.wire_base.proofs.Laws.{bind_is, ok_is}
use Rattle.types_10.specs.Tree.{Scalar, Tree, scalar, list, mapping, array, described, no_trees}
use Rattle.types_10.specs.Tree.{Trees, trees_of, pairs_of, depth}
use Rattle.types_10.specs.Kinds.{kind_of, size_width}
use Rattle.types_10.specs.Kinds.{bare_scalar, octet_scalar, wide_scalar, sixteen_scalar, text_scalar}
use Rattle.types_10.specs.Loads.{element_load}
use Rattle.types_10.specs.Reading.{Fault, IsTold, fault_at, count_in, bytes_in, single_in, known_in}
use Rattle.types_10.specs.Reading.{sixteen_in, text_in, coded_in, code_in, Shape, Inside, value_by, shape_by, filled_in}
use Rattle.types_10.specs.Reading.{row_in, two_in, items_in, elements_in, spent_in, deep_in, level}
use Rattle.types_10.specs.Reading.{contents_in, shape_in, element_in, value_in, value_at}
use Rattle.types_10.specs.Skipping.{end_of, with_room, extent, outline}
use Rattle.types_10.specs.Spelled.{told, told_row, IsRead, IsCounted, is_scalar, described_in, list_in}
use Rattle.types_10.specs.Spelled.{is_map, is_symbol, each_is_symbol, are_symbols, symbol_kind}
use Rattle.types_10.proofs.Filled.{inside_of}
use Rattle.types_10.proofs.Levels.{contents_more, element_plain, element_none, element_deep}
use Rattle.types_10.proofs.Levels.{element_more}
use Rattle.types_10.proofs.Pasts.{found_in, fault_in, end_found}
use Rattle.types_10.proofs.ValueLaws.{coded_from, value_reader}
use Rattle.types_10.specs.declared.fault.TypeFault.TheVariants as fault
use Rattle.types_10.specs.declared.kind.Kind.{Kind}
use Rattle.types_10.specs.declared.kind.Kind.TheVariants as kind
use Rattle.types_10.specs.declared.kind.Single.{Single}
use Rattle.types_10.specs.declared.kind.Single.TheVariants as single
use Rattle.types_10.specs.declared.kind.Bare.{Bare}
use Rattle.types_10.specs.declared.kind.Bare.TheVariants as bare
use Rattle.types_10.specs.declared.kind.Octet.{Octet}
use Rattle.types_10.specs.declared.kind.Octet.TheVariants as octet
use Rattle.types_10.specs.declared.kind.Wide.{Wide}
use Rattle.types_10.specs.declared.kind.Wide.TheVariants as wide
use Rattle.types_10.specs.declared.kind.Sixteen.{Sixteen}
use Rattle.types_10.specs.declared.kind.Sixteen.TheVariants as sixteen
use Rattle.types_10.specs.declared.kind.Text.{Text}
use Rattle.types_10.specs.declared.kind.Text.TheVariants as text
use Rattle.types_10.specs.declared.kind.Size.{Size}
use Rattle.types_10.specs.declared.reading.Bounds.{Bounds}
use Rattle.types_10.specs.declared.skipping.Extent.{Extent}
use Rattle.types_10.specs.declared.skipping.Outline.{Outline}

-- what was read is told by no fault
pub not_told : {Y : Type 0} (read : Result Y Fault) (y : Y) (s : Stop Fault) → read ≡ Ok y → IsTold s read → ⊥
not_told read y stop.Memory e told = told
not_told read y (stop.Fault f) e told = absurd (cc (e, told))

-- what was made of what was read
made_from : {A B : Type 0} (f : A → B) (read : Reads A Fault) (x : B × List ℕ) → made f read ≡ Ok x → (y : A × List ℕ) × (read ≡ Ok y) × (f y.0 ≡ x.0)
made_from {A} {B} f (Ok y) x h = (y, refl, ap (λ (p : B × List ℕ). p.0) (ok_is {F = Fault} (f y.0, y.1) x h))
made_from f (Err e) x h = absurd cc

-- ---- a value and its code

coded_ends : {A : Type 0} (read : Kind → ℕ → Fault → ℕ → List ℕ → Reads A Fault) (cut : Fault) (end : ℕ) (bytes : List ℕ) (f : Fault) → code_in cut end bytes ≡ Err f → coded_in read cut end bytes ≡ Err f
coded_ends {A} read cut end bytes f e = step (count_in cut w8 bytes) e
  where
    known : (o : Option Kind) (more : List ℕ) → known_in {A = Kind × ℕ} (λ k at cut end bytes. Ok ((k, at), bytes)) o (end - length bytes) cut end more ≡ Err f → known_in read o (end - length bytes) cut end more ≡ Err f
    known None more h = let same : fault_at fault.UnknownCode (end - length bytes) ≡ f = cc in cc
    known (Some k) more h = absurd cc

    step : (r : Reads ℕ Fault) → (r >>= λ b. known_in {A = Kind × ℕ} (λ k at cut end bytes. Ok ((k, at), bytes)) (kind_of b.0) (end - length bytes) cut end b.1) ≡ Err f
        → (r >>= λ b. known_in read (kind_of b.0) (end - length bytes) cut end b.1) ≡ Err f
    step (Err g) h = let same : g ≡ f = cc in cc
    step (Ok b) h = known (kind_of b.0) b.1 h

pub code_stands : (d room : ℕ) (cut : Fault) (end : ℕ) (bytes : List ℕ) (s : Stop Fault) → IsRead (value_in d room cut end bytes) → IsTold s (code_in cut end bytes) → ⊥
code_stands d room cut end bytes stop.Memory there told = told
code_stands d room cut end bytes (stop.Fault f) there told = absurd (cc (there.1, coded_ends (contents_in d room) cut end bytes f told))

-- a value that may hold others, since it was read
held : (d room : ℕ) (k : Kind) (at : ℕ) (cut : Fault) (end : ℕ) (content : List ℕ) (x : (Tree × ℕ) × List ℕ) → contents_in d room k at cut end content ≡ Ok x → deep_in (level (d - 1)) room k at cut end content ≡ Ok x
unfolding level
held zero room (kind.Single k) at cut end content x h = h
held zero room kind.EmptyList at cut end content x h = absurd cc
held zero room (kind.List z) at cut end content x h = absurd cc
held zero room (kind.Map z) at cut end content x h = absurd cc
held zero room (kind.Array z) at cut end content x h = absurd cc
held zero room kind.Described at cut end content x h = absurd cc
held (suc d) room k at cut end content x h = sym (contents_more (suc d) room k at cut end content (omega arith)) ∙ h

-- this code and content were read as this value
abbrev pub IsContent : ℕ → ℕ → Kind → ℕ → Fault → ℕ → List ℕ → (Tree × ℕ) × List ℕ → Type 0
IsContent d room k at cut end content x = deep_in (level (d - 1)) room k at cut end content ≡ Ok x

pub content_stands : (d room : ℕ) (cut : Fault) (end : ℕ) (bytes : List ℕ) (k : Kind) (at : ℕ) (content : List ℕ) → (there : IsRead (value_in d room cut end bytes)) → code_in cut end bytes ≡ Ok ((k, at), content)
    → IsContent d room k at cut end content there.0
content_stands d room cut end bytes k at content there code =
    held d room k at cut end content there.0 (sym (coded_from (contents_in d room) cut end bytes k at content code) ∙ there.1)

pub told_is : (r : Reads (Tree × ℕ) Fault) (x : (Tree × ℕ) × List ℕ) → r ≡ Ok x → told r ≡ x.0.0
told_is r x e = ap told e

-- ---- what a code announces

abbrev pub Announces : Kind → Tree → Type 0
Announces (kind.Single k) t = (s : Scalar) × (t ≡ scalar s)
Announces kind.EmptyList t = t ≡ list no_trees
Announces (kind.List z) t = (ts : List Tree) × (t ≡ list (trees_of ts))
Announces (kind.Map z) t = (ps : List (Tree × Tree)) × (t ≡ mapping (pairs_of ps))
Announces (kind.Array z) t = (ts : List Tree) × (t ≡ array (trees_of ts))
Announces kind.Described t = (p : Tree × Tree) × (t ≡ described p.0 p.1)

abbrev value_of : Tree × ℕ → Tree
value_of t = t.0

pub announced : (i : Inside) (room : ℕ) (k : Kind) (at : ℕ) (cut : Fault) (end : ℕ) (content : List ℕ) (x : (Tree × ℕ) × List ℕ) → deep_in i room k at cut end content ≡ Ok x → Announces k x.0.0
announced i room (kind.Single k) at cut end content x h = let y = made_from (λ (s : Scalar). (scalar s, room)) (single_in k cut end content) x h in (y.0.0, ap value_of (sym y.2))
announced i room kind.EmptyList at cut end content x h = ap (λ (y : (Tree × ℕ) × List ℕ). y.0.0) (sym (ok_is {F = Fault} ((list no_trees, room), content) x h))
announced i room (kind.List z) at cut end content x h =
    let y = made_from (λ (ts : List Tree × ℕ). (list (trees_of ts.0), ts.1)) (filled_in (size_width z) at (items_in (size_width z) (value_by i) room) cut end content) x h in (y.0.0.0, ap value_of (sym y.2))
announced i room (kind.Map z) at cut end content x h = let y = made_from (λ (ps : List (Tree × Tree) × ℕ). (mapping (pairs_of ps.0), ps.1)) _ x h in (y.0.0.0, ap value_of (sym y.2))
announced i room (kind.Array z) at cut end content x h = let y = made_from (λ (ts : List Tree × ℕ). (array (trees_of ts.0), ts.1)) _ x h in (y.0.0.0, ap value_of (sym y.2))
announced i room kind.Described at cut end content x h = let y = made_from (λ (p : (Tree × Tree) × ℕ). (described p.0.0 p.0.1, p.1)) _ x h in (y.0.0.0, ap value_of (sym y.2))

-- the same of a value as it is seen
pub content_of : (d room : ℕ) (cut : Fault) (end : ℕ) (bytes : List ℕ) (k known : Kind) (at : ℕ) (content : List ℕ) (v : Tree) → IsRead (value_in d room cut end bytes) → told (value_in d room cut end bytes) ≡ v → code_in cut end bytes ≡ Ok ((k, at), content) → k ≡ known
    → (x : (Tree × ℕ) × List ℕ) × IsContent d room known at cut end content x × (x.0.0 ≡ v)
content_of d room cut end bytes k known at content v there seen code is =
    (there.0, subst (λ (k : Kind). IsContent d room k at cut end content there.0) is (content_stands d room cut end bytes k at content there code), sym (told_is (value_in d room cut end bytes) there.0 there.1) ∙ seen)

pub announced_of : (d room : ℕ) (cut : Fault) (end : ℕ) (bytes : List ℕ) (k : Kind) (at : ℕ) (content : List ℕ) (v : Tree) → IsRead (value_in d room cut end bytes) → told (value_in d room cut end bytes) ≡ v → code_in cut end bytes ≡ Ok ((k, at), content) → Announces k v
announced_of d room cut end bytes k at content v there seen code =
    let x = content_of d room cut end bytes k k at content v there seen code refl in
    subst (Announces k) x.2 (announced (level (d - 1)) room k at cut end content x.0 x.1)

pub no_scalar : (k : Kind) (t : Tree) → Announces k t → ((s : Single) → k ≢ kind.Single s) → is_scalar t ≡ false
no_scalar (kind.Single k) t a other = absurd (other k refl)
no_scalar kind.EmptyList t a other = ap is_scalar a
no_scalar (kind.List z) t a other = ap is_scalar a.1
no_scalar (kind.Map z) t a other = ap is_scalar a.1
no_scalar (kind.Array z) t a other = ap is_scalar a.1
no_scalar kind.Described t a other = ap is_scalar a.1

pub not_described : (k : Kind) (t : Tree) → Announces k t → k ≢ kind.Described → described_in t ≡ None
not_described (kind.Single k) t a other = ap described_in a.1
not_described kind.EmptyList t a other = ap described_in a
not_described (kind.List z) t a other = ap described_in a.1
not_described (kind.Map z) t a other = ap described_in a.1
not_described (kind.Array z) t a other = ap described_in a.1
not_described kind.Described t a other = absurd (other refl)

pub no_map : (k : Kind) (t : Tree) → Announces k t → ((z : Size) → k ≢ kind.Map z) → is_map t ≡ false
no_map (kind.Single k) t a other = ap is_map a.1
no_map kind.EmptyList t a other = ap is_map a
no_map (kind.List z) t a other = ap is_map a.1
no_map (kind.Map z) t a other = absurd (other z refl)
no_map (kind.Array z) t a other = ap is_map a.1
no_map kind.Described t a other = ap is_map a.1

-- ---- values that hold no other

abbrev pub single_made : Single → Fault → ℕ → List ℕ → Reads Tree Fault
single_made k cut end content = made scalar (single_in k cut end content)

pub single_stands : (i : Inside) (room : ℕ) (k : Single) (at : ℕ) (cut : Fault) (end : ℕ) (content : List ℕ) (x : (Tree × ℕ) × List ℕ) → deep_in i room (kind.Single k) at cut end content ≡ Ok x
    → (y : Tree × List ℕ) × (single_made k cut end content ≡ Ok y) × (y.0 ≡ x.0.0)
single_stands i room k at cut end content x h =
    let y = made_from (λ (s : Scalar). (scalar s, room)) (single_in k cut end content) x h in
    ((scalar y.0.0, y.0.1), ap (made scalar) y.1, ap value_of y.2)

pub single_found : (k : Single) (cut : Fault) (end : ℕ) (content : List ℕ) (t v : Tree) (rest : List ℕ) → (y : Tree × List ℕ) × (single_made k cut end content ≡ Ok y) × (y.0 ≡ t)
    → single_made k cut end content ≡ Ok (v, rest) → v ≡ t
single_found k cut end content t v rest y e =
    ap (λ (z : Tree × List ℕ). z.0) (ok_is {F = Fault} (v, rest) y.0 (sym e ∙ y.1)) ∙ y.2

-- ---- values that are read past

pub made_stands : {A B : Type 0} (f : A → B) (r : Reads (A × ℕ) Fault) (s : Stop Fault) → IsRead r → IsTold s (made (with_room f) r) → ⊥
made_stands f r stop.Memory there told = told
made_stands f r (stop.Fault g) there told = absurd (cc (there.1, fault_in f r g told))

pub stands_past : (r : Reads (Tree × ℕ) Fault) (e : Extent) (left : ℕ) (rest : List ℕ) → made (with_room extent) r ≡ Ok ((e, left), rest) → r ≡ Ok ((told r, left), rest)
stands_past r e left rest h =
    let x = found_in extent r e left rest h in
    x.1 ∙ ap (λ (t : Tree). Ok ((t, left), rest)) (sym (told_is r ((x.0, left), rest) x.1))

-- a descriptor, and what it describes
pub parts_stand : (i : Inside) (room at : ℕ) (cut : Fault) (end : ℕ) (content : List ℕ) (x : (Tree × ℕ) × List ℕ) → deep_in i room kind.Described at cut end content ≡ Ok x
    → IsRead (value_by i room cut end content)
    × ((d : Tree) (left : ℕ) (rest : List ℕ) → value_by i room cut end content ≡ Ok ((d, left), rest) → IsRead (value_by i left cut end rest) × (Some (d, told (value_by i left cut end rest)) ≡ described_in x.0.0))
parts_stand i room at cut end content x h =
    let read = λ (room : ℕ). value_by i room cut in
    let p = made_from (λ (p : (Tree × Tree) × ℕ). (described p.0.0 p.0.1, p.1)) (two_in read room end content) x h in
    let b = bind_is (read room end content) (λ (x : (Tree × ℕ) × List ℕ). made (λ (y : Tree × ℕ). ((x.0.0, y.0), y.1)) (read x.0.1 end x.1)) p.0 p.1 in
    let y = made_from (λ (y : Tree × ℕ). ((b.0.0.0, y.0), y.1)) (read b.0.0.1 end b.0.1) p.0 b.2 in (
      (b.0, b.1),
      λ d left rest e.
          let same : b.0 ≡ ((d, left), rest) = ok_is {F = Fault} b.0 ((d, left), rest) (sym b.1 ∙ e) in
          let there : read left end rest ≡ Ok y.0 = ap (λ (z : (Tree × ℕ) × List ℕ). read z.0.1 end z.1) (sym same) ∙ y.1 in
          let parts : described d (told (read left end rest)) ≡ x.0.0 =
          ap (λ (z : (Tree × ℕ) × List ℕ). described z.0.0 (told (read left end rest))) (sym same) ∙ ap (described b.0.0.0) (told_is (read left end rest) y.0 there)
          ∙ ap (λ (q : (Tree × Tree) × ℕ). described q.0.0 q.0.1) y.2 ∙ ap value_of p.2 in
          ((y.0, there), ap described_in parts),
    )

-- ---- what stands inside a size

passed_if : {A : Type 0} (b : Bool) (f : Fault) (x y : A) → cond b (Ok x) (Err f) ≡ Ok y → x ≡ y
passed_if true f x y e = ok_is {F = Fault} x y e
passed_if false f x y e = absurd cc

pub filled_stands : {A : Type 0} (w : Width) (at : ℕ) (inner : Fault → ℕ → List ℕ → Reads A Fault) (cut : Fault) (end : ℕ) (content : List ℕ) (x : A × List ℕ) → filled_in w at inner cut end content ≡ Ok x
    → (b : List ℕ × List ℕ) × (bytes_in cut w content ≡ Ok b) × ((y : A × List ℕ) × (inner (fault_at fault.Count at) (end - length b.1) b.0 ≡ Ok y) × (y.0 ≡ x.0))
filled_stands {A} w at inner cut end content x h =
    let inside = fault_at fault.Count at in
    let b = bind_is (bytes_in cut w content) (λ (b : List ℕ × List ℕ). inner inside (end - length b.1) b.0 >>= λ (y : A × List ℕ). cond (eqb (length y.1) 0) (Ok (y.0, b.1)) (Err inside)) x h in
    let y = bind_is (inner inside (end - length b.0.1) b.0.0) (λ (y : A × List ℕ). cond (eqb (length y.1) 0) (Ok (y.0, b.0.1)) (Err inside)) x b.2 in
    (b.0, b.1, (y.0, y.1, ap (λ (z : A × List ℕ). z.0) (passed_if (eqb (length y.0.1) 0) inside (y.0.0, b.0.1) x y.2)))

pub counted_stands : (w : Width) (at : ℕ) (cut : Fault) (end : ℕ) (content body rest : List ℕ) (i : Bounds) → IsCounted w at cut content → bytes_in cut w content ≡ Ok (body, rest) → i ≡ inside_of at end rest → IsRead (count_in i.cut w body)
counted_stands w at cut end content body rest i h e is =
    let same : h.0 ≡ (body, rest) = ok_is {F = Fault} h.0 (body, rest) (sym h.1 ∙ e) in
    (h.2.0, ap (λ (i : Bounds). count_in i.cut w body) is ∙ ap (λ (b : List ℕ × List ℕ). count_in (fault_at fault.Count at) w b.0) (sym same) ∙ h.2.1)

pub counted_is : (w : Width) (at : ℕ) (cut : Fault) (end : ℕ) (content body rest : List ℕ) (i : Bounds) (count : ℕ) (items : List ℕ) → bytes_in cut w content ≡ Ok (body, rest) → i ≡ inside_of at end rest → count_in i.cut w body ≡ Ok (count, items)
    → (b : List ℕ × List ℕ) (n : ℕ × List ℕ) → bytes_in cut w content ≡ Ok b → count_in (fault_at fault.Count at) w b.0 ≡ Ok n → (i ≡ inside_of at end b.1) × (count ≡ n.0) × (items ≡ n.1)
counted_is w at cut end content body rest i count items e is c b n f d =
    let same : b ≡ (body, rest) = ok_is {F = Fault} b (body, rest) (sym f ∙ e) in
    let told : count_in i.cut w body ≡ Ok n = ap (λ (i : Bounds). count_in i.cut w body) is ∙ ap (λ (b : List ℕ × List ℕ). count_in (fault_at fault.Count at) w b.0) (sym same) ∙ d in
    let number : (count, items) ≡ n = ok_is {F = Fault} (count, items) n (sym c ∙ told) in
    (is ∙ ap (λ (b : List ℕ × List ℕ). inside_of at end b.1) (sym same), ap (λ (n : ℕ × List ℕ). n.0) number, ap (λ (n : ℕ × List ℕ). n.1) number)

-- ---- lists

-- the first of them, and the rest
pub row_step : (read : ℕ → ℕ → List ℕ → Reads (Tree × ℕ) Fault) (n m room end : ℕ) (bytes : List ℕ) → n ≡ suc m → IsRead (row_in read n room end bytes)
    → IsRead (read room end bytes) × ((t : Tree) (left : ℕ) (rest : List ℕ) → read room end bytes ≡ Ok ((t, left), rest) → IsRead (row_in read m left end rest) × (told_row (row_in read n room end bytes) ≡ t ∷ told_row (row_in read m left end rest)))
unfolding row_in
row_step read zero m room end bytes is there = absurd (omega arith)
row_step read (suc n) m room end bytes is there =
    let less : m ≡ n = omega arith in
    let b = bind_is (read room end bytes) (λ (x : (Tree × ℕ) × List ℕ). made (λ (xs : List Tree × ℕ). (x.0.0 ∷ xs.0, xs.1)) (row_in read n x.0.1 end x.1)) there.0 there.1 in
    let xs = made_from (λ (xs : List Tree × ℕ). (b.0.0.0 ∷ xs.0, xs.1)) (row_in read n b.0.0.1 end b.0.1) there.0 b.2 in (
      (b.0, b.1),
      λ t left rest e.
          let same : b.0 ≡ ((t, left), rest) = ok_is {F = Fault} b.0 ((t, left), rest) (sym b.1 ∙ e) in
          let more : row_in read n left end rest ≡ Ok xs.0 = ap (λ (z : (Tree × ℕ) × List ℕ). row_in read n z.0.1 end z.1) (sym same) ∙ xs.1 in
          let head : b.0.0.0 ≡ t = ap (λ (z : (Tree × ℕ) × List ℕ). z.0.0) same in
          rw less ((xs.0, more), ap told_row there.1 ∙ ap (λ (p : List Tree × ℕ). p.0) (sym xs.2) ∙ ap (λ (t : Tree). t ∷ xs.0.0.0) head ∙ ap (λ (ts : List Tree). t ∷ ts) (sym (ap told_row more))),
    )

pub row_none : (read : ℕ → ℕ → List ℕ → Reads (Tree × ℕ) Fault) (room end : ℕ) (bytes : List ℕ) → IsRead (row_in read 0 room end bytes) × (told_row (row_in read 0 room end bytes) ≡ [])
unfolding row_in
row_none read room end bytes = (((([], room), bytes), refl), refl)

-- the one at a place, which is the first of those behind it
pub row_at : (read : ℕ → ℕ → List ℕ → Reads (Tree × ℕ) Fault) (n k room end : ℕ) (bytes : List ℕ) → 0 < n → k ≡ 0 → IsRead (row_in read n room end bytes)
    → IsRead (read room end bytes) × (Some (told (read room end bytes)) ≡ slice_get (told_row (row_in read n room end bytes)) k)
row_at read n k room end bytes some none there =
    let s = row_step read n (n - 1) room end bytes (omega arith) there in
    let x = s.0 in
    let row = (s.1 x.0.0.0 x.0.0.1 x.0.1 x.1).1 in
    (x, ap (λ (t : Tree). Some t) (told_is (read room end bytes) x.0 x.1) ∙ rw (none, row) refl)

pub row_on : (read : ℕ → ℕ → List ℕ → Reads (Tree × ℕ) Fault) (n m k j room end : ℕ) (bytes : List ℕ) (t : Tree) (left : ℕ) (rest : List ℕ) → n ≡ suc m → k ≡ suc j → IsRead (row_in read n room end bytes) → read room end bytes ≡ Ok ((t, left), rest)
    → IsRead (row_in read m left end rest) × (slice_get (told_row (row_in read n room end bytes)) k ≡ slice_get (told_row (row_in read m left end rest)) j)
row_on read n m k j room end bytes t left rest less before there e =
    let s = (row_step read n m room end bytes less there).1 t left rest e in
    (s.0, rw (before, s.1) refl)

-- there are as many as were counted
row_length : (read : ℕ → ℕ → List ℕ → Reads (Tree × ℕ) Fault) (n room end : ℕ) (bytes : List ℕ) → IsRead (row_in read n room end bytes) → length (told_row (row_in read n room end bytes)) ≡ n
row_length read zero room end bytes there = ap length (row_none read room end bytes).1
row_length read (suc n) room end bytes there =
    let s = row_step read (suc n) n room end bytes refl there in
    let x = s.0 in
    let more = s.1 x.0.0.0 x.0.0.1 x.0.1 x.1 in
    ap length more.1 ∙ ap suc (row_length read n x.0.0.1 end x.0.1 more.0)

none_there : (ts : List Tree) (k : ℕ) → length ts ≤ k → slice_get ts k ≡ None
none_there [] k le = refl
none_there (t ∷ ts) zero le = absurd (omega (arith, le))
none_there (t ∷ ts) (suc k) le = none_there ts k (omega (arith, le))

pub row_past : (read : ℕ → ℕ → List ℕ → Reads (Tree × ℕ) Fault) (n k room end : ℕ) (bytes : List ℕ) → n ≤ k → IsRead (row_in read n room end bytes) → slice_get (told_row (row_in read n room end bytes)) k ≡ None
row_past read n k room end bytes le there = none_there (told_row (row_in read n room end bytes)) k (omega (arith, row_length read n room end bytes there, le))

-- what a list is read of
abbrev pub IsListOf : ℕ → ℕ → Width → ℕ → Fault → ℕ → List ℕ → Tree → Type 0
IsListOf d room w at cut end content t =
    (b : List ℕ × List ℕ) × (bytes_in cut w content ≡ Ok b)
    × ((n : ℕ × List ℕ) × (count_in (fault_at fault.Count at) w b.0 ≡ Ok n)
    × (let row = row_in (λ room. value_in d room (fault_at fault.Count at)) n.0 room (end - length b.1) n.1 in IsRead row × (Some (trees_of (told_row row)) ≡ list_in t)))

pub list_stands : (d room : ℕ) (z : Size) (at : ℕ) (cut : Fault) (end : ℕ) (content : List ℕ) (x : (Tree × ℕ) × List ℕ) → deep_in (level d) room (kind.List z) at cut end content ≡ Ok x
    → IsListOf d room (size_width z) at cut end content x.0.0
list_stands d room z at cut end content x h =
    let w = size_width z in
    let read = value_by (level d) in
    let m = made_from (λ (ts : List Tree × ℕ). (list (trees_of ts.0), ts.1)) (filled_in w at (items_in w read room) cut end content) x h in
    let f = filled_stands w at (items_in w read room) cut end content m.0 m.1 in
    let inside = fault_at fault.Count at in
    let n = bind_is (count_in inside w f.0.0) (λ (n : ℕ × List ℕ). row_in (λ room. read room inside) n.0 room (end - length f.0.1) n.1) f.2.0 f.2.1 in
    let row = row_in (λ room. value_in d room inside) n.0.0 room (end - length f.0.1) n.0.1 in
    let values : trees_of (told_row row) ≡ trees_of m.0.0.0 = ap (λ (r : Reads (List Tree × ℕ) Fault). trees_of (told_row r)) n.2 ∙ ap (λ (ts : List Tree × ℕ). trees_of ts.0) f.2.2 in
    (f.0, f.1, (n.0, n.1, ((f.2.0, n.2), ap (λ (ts : Trees). list_in (list ts)) values ∙ ap (λ (t : Tree × ℕ). list_in t.0) m.2)))

pub list_counted : (d room : ℕ) (w : Width) (at : ℕ) (cut : Fault) (end : ℕ) (content : List ℕ) (t : Tree) → IsListOf d room w at cut end content t → IsCounted w at cut content
list_counted d room w at cut end content t h = (h.0, h.1, (h.2.0, h.2.1))

pub list_row : (d room : ℕ) (w : Width) (at : ℕ) (cut : Fault) (end : ℕ) (content : List ℕ) (t : Tree) (i : Bounds) (n : ℕ) (items : List ℕ) → (l : IsListOf d room w at cut end content t) → (i ≡ inside_of at end l.0.1) × (n ≡ l.2.0.0) × (items ≡ l.2.0.1)
    → IsRead (row_in (λ room. value_in d room i.cut) n room i.end items) × (Some (trees_of (told_row (row_in (λ room. value_in d room i.cut) n room i.end items))) ≡ list_in t)
list_row d room w at cut end content t i n items l e = rw (e.0, e.1, e.2) l.2.2

pub no_list : (k : Kind) (t : Tree) → Announces k t → k ≢ kind.EmptyList → ((z : Size) → k ≢ kind.List z) → list_in t ≡ None
no_list (kind.Single k) t a empty other = ap list_in a.1
no_list kind.EmptyList t a empty other = absurd (empty refl)
no_list (kind.List z) t a empty other = absurd (other z refl)
no_list (kind.Map z) t a empty other = ap list_in a.1
no_list (kind.Array z) t a empty other = ap list_in a.1
no_list kind.Described t a empty other = ap list_in a.1

-- ---- symbols

bare_symbol : (k : Bare) → is_symbol (scalar (bare_scalar k)) ≡ false
bare_symbol bare.Null = refl
bare_symbol bare.True = refl
bare_symbol bare.False = refl
bare_symbol bare.Uint = refl
bare_symbol bare.Ulong = refl

octet_symbol : (k : Octet) (n : ℕ) → is_symbol (scalar (octet_scalar k n)) ≡ false
octet_symbol octet.Ubyte n = refl
octet_symbol octet.Byte n = refl
octet_symbol octet.Uint n = refl
octet_symbol octet.Int n = refl
octet_symbol octet.Ulong n = refl
octet_symbol octet.Long n = refl

wide_symbol : (k : Wide) (n : ℕ) → is_symbol (scalar (wide_scalar k n)) ≡ false
wide_symbol wide.Ushort n = refl
wide_symbol wide.Short n = refl
wide_symbol wide.Uint n = refl
wide_symbol wide.Int n = refl
wide_symbol wide.Float n = refl
wide_symbol wide.Decimal32 n = refl
wide_symbol wide.Ulong n = refl
wide_symbol wide.Long n = refl
wide_symbol wide.Double n = refl
wide_symbol wide.Timestamp n = refl
wide_symbol wide.Decimal64 n = refl

sixteen_symbol : (k : Sixteen) (s : List ℕ) → is_symbol (scalar (sixteen_scalar k s)) ≡ false
sixteen_symbol sixteen.Decimal128 s = refl
sixteen_symbol sixteen.Uuid s = refl

text_symbol : (k : Text) (z : Size) (s : List ℕ) → is_symbol (scalar (text_scalar k s)) ≡ symbol_kind (kind.Single (single.Text k z))
text_symbol text.Binary z s = refl
text_symbol text.String z s = refl
text_symbol text.Symbol z s = refl

abbrev symbol_scalar : Scalar → Bool
symbol_scalar s = is_symbol (scalar s)

single_symbol : (k : Single) (cut : Fault) (end : ℕ) (content : List ℕ) (y : Scalar × List ℕ) → single_in k cut end content ≡ Ok y → symbol_scalar y.0 ≡ symbol_kind (kind.Single k)
single_symbol (single.Bare k) cut end content y h = ap (λ (y : Scalar × List ℕ). symbol_scalar y.0) (sym (ok_is {F = Fault} (bare_scalar k, content) y h)) ∙ bare_symbol k
single_symbol single.Boolean cut end content y h = ap symbol_scalar (sym (made_from _ _ y h).2)
single_symbol (single.Octet k) cut end content y h = let m = made_from (octet_scalar k) (count_in cut w8 content) y h in ap symbol_scalar (sym m.2) ∙ octet_symbol k m.0.0
single_symbol (single.Wide k) cut end content y h = let m = made_from (wide_scalar k) _ y h in ap symbol_scalar (sym m.2) ∙ wide_symbol k m.0.0
single_symbol single.Char cut end content y h = ap symbol_scalar (sym (made_from _ _ y h).2)
single_symbol (single.Sixteen k) cut end content y h = let m = made_from (sixteen_scalar k) (sixteen_in cut content) y h in ap symbol_scalar (sym m.2) ∙ sixteen_symbol k m.0.0
single_symbol (single.Text k z) cut end content y h = let m = made_from (text_scalar k) (text_in k z cut end content) y h in ap symbol_scalar (sym m.2) ∙ text_symbol k z m.0.0

pub symbol_known : (i : Inside) (room : ℕ) (k : Kind) (at : ℕ) (cut : Fault) (end : ℕ) (content : List ℕ) (x : (Tree × ℕ) × List ℕ) → deep_in i room k at cut end content ≡ Ok x → is_symbol x.0.0 ≡ symbol_kind k
symbol_known i room (kind.Single k) at cut end content x h =
    let y = made_from (λ (s : Scalar). (scalar s, room)) (single_in k cut end content) x h in
    ap (λ (t : Tree × ℕ). is_symbol t.0) (sym y.2) ∙ single_symbol k cut end content y.0 y.1
symbol_known i room kind.EmptyList at cut end content x h = ap is_symbol (announced i room kind.EmptyList at cut end content x h)
symbol_known i room (kind.List z) at cut end content x h = ap is_symbol (announced i room (kind.List z) at cut end content x h).1
symbol_known i room (kind.Map z) at cut end content x h = ap is_symbol (announced i room (kind.Map z) at cut end content x h).1
symbol_known i room (kind.Array z) at cut end content x h = ap is_symbol (announced i room (kind.Array z) at cut end content x h).1
symbol_known i room kind.Described at cut end content x h = ap is_symbol (announced i room kind.Described at cut end content x h).1

pub no_array : (k : Kind) (t : Tree) → Announces k t → ((z : Size) → k ≢ kind.Array z) → are_symbols t ≡ is_symbol t
no_array (kind.Single k) t a other = rw a.1 refl
no_array kind.EmptyList t a other = rw a refl
no_array (kind.List z) t a other = rw a.1 refl
no_array (kind.Map z) t a other = rw a.1 refl
no_array (kind.Array z) t a other = absurd (other z refl)
no_array kind.Described t a other = rw a.1 refl

-- elements behind this constructor are symbols
abbrev pub symbol_shape : Shape → Bool
symbol_shape ([], k) = symbol_kind k
symbol_shape (x ∷ xs, k) = false

element_symbol : (d room : ℕ) (c : Shape) (at : ℕ) (cut : Fault) (end : ℕ) (content : List ℕ) (x : (Tree × ℕ) × List ℕ) → element_in d room c at cut end content ≡ Ok x → is_symbol x.0.0 ≡ symbol_shape c
element_symbol d room ([], k) at cut end content x h =
    symbol_known (level (d - 1)) room k at cut end content x (held d room k at cut end content x (sym (element_plain d room k at cut end content) ∙ h))
element_symbol zero room (t ∷ ts, k) at cut end content x h = absurd (cc (h, element_none room t ts k at cut end content))
element_symbol (suc d) room (t ∷ ts, k) at cut end content x h = by_depth (leb (depth t) (suc d - 1)) refl
  where
    by_depth : (b : Bool) → leb (depth t) (suc d - 1) ≡ b → is_symbol x.0.0 ≡ false
    by_depth false e = absurd (cc (h, element_deep (suc d) room t ts k at cut end content (omega arith) e))
    by_depth true e =
        let m = made_from (λ (y : Tree × ℕ). (described t y.0, y.1)) (element_in (suc d - 1) room (ts, k) at cut end content) x (sym (element_more (suc d) room t ts k at cut end content (omega arith) e) ∙ h) in
        ap (λ (t : Tree × ℕ). is_symbol t.0) (sym m.2)

both : (b c : Bool) → cond b (cond c true b) false ≡ b
both false c = refl
both true true = refl
both true false = refl

row_symbols : (read : ℕ → ℕ → List ℕ → Reads (Tree × ℕ) Fault) (b : Bool) (end : ℕ) → ((room : ℕ) (content : List ℕ) (x : (Tree × ℕ) × List ℕ) → read room end content ≡ Ok x → is_symbol x.0.0 ≡ b) → (n room : ℕ) (content : List ℕ) (y : (List Tree × ℕ) × List ℕ)
    → row_in read n room end content ≡ Ok y → each_is_symbol (trees_of y.0.0) ≡ cond (eqb n 0) true b
unfolding row_in
row_symbols read b end each zero room content y h = ap (λ (y : (List Tree × ℕ) × List ℕ). each_is_symbol (trees_of y.0.0)) (sym (ok_is {F = Fault} (([], room), content) y h))
row_symbols read b end each (suc n) room content y h =
    let x = bind_is (read room end content) (λ (x : (Tree × ℕ) × List ℕ). made (λ (xs : List Tree × ℕ). (x.0.0 ∷ xs.0, xs.1)) (row_in read n x.0.1 end x.1)) y h in
    let xs = made_from (λ (xs : List Tree × ℕ). (x.0.0.0 ∷ xs.0, xs.1)) (row_in read n x.0.0.1 end x.0.1) y x.2 in
    let head = each room content x.0 x.1 in
    let tail = row_symbols read b end each n x.0.0.1 x.0.1 xs.0 xs.1 in
    let whole : cond b (cond (eqb n 0) true b) false ≡ each_is_symbol (trees_of y.0.0) = rw (sym tail, sym head) (ap (λ (p : List Tree × ℕ). each_is_symbol (trees_of p.0)) xs.2) in
    let some : eqb (suc n) 0 ≡ false = ne_eqb _ _ (λ none. omega (arith, none)) in
    rw some (sym whole ∙ both b (eqb n 0))

-- what an array is read of
abbrev pub IsArrayOf : ℕ → ℕ → Width → ℕ → Fault → ℕ → List ℕ → List Tree → Type 0
IsArrayOf d room w at cut end content ts =
    (b : List ℕ × List ℕ) × (bytes_in cut w content ≡ Ok b)
    × ((n : ℕ × List ℕ) × (count_in (fault_at fault.Count at) w b.0 ≡ Ok n)
    × ((c : (Shape × ℕ) × List ℕ) × (shape_by (level d) room (fault_at fault.Count at) (end - length b.1) n.1 ≡ Ok c) × (each_is_symbol (trees_of ts) ≡ cond (eqb n.0 0) true (symbol_shape c.0.0))))

pub array_stands : (d room : ℕ) (w : Width) (at : ℕ) (cut : Fault) (end : ℕ) (content : List ℕ) (x : (List Tree × ℕ) × List ℕ) → filled_in w at (elements_in w (level d) room) cut end content ≡ Ok x
    → IsArrayOf d room w at cut end content x.0.0
array_stands d room w at cut end content x h =
    let f = filled_stands w at (elements_in w (level d) room) cut end content x h in
    let inside = fault_at fault.Count at in
    let over = end - length f.0.1 in
    let after = λ (n : ℕ × List ℕ) (c : (Shape × ℕ) × List ℕ).
    spent_in inside c.0.1 (n.0 * element_load c.0.0) >>= λ (left : ℕ). row_in (λ (room : ℕ). (level d).element room c.0.0 ((over - length c.1) - 1) inside) n.0 left over c.1 in
    let n = bind_is (count_in inside w f.0.0) (λ (n : ℕ × List ℕ). shape_by (level d) room inside over n.1 >>= λ (c : (Shape × ℕ) × List ℕ). after n c) f.2.0 f.2.1 in
    let c = bind_is (shape_by (level d) room inside over n.0.1) (after n.0) f.2.0 n.2 in
    let l = bind_is (spent_in inside c.0.0.1 (n.0.0 * element_load c.0.0.0)) (λ (left : ℕ). row_in (λ (room : ℕ). element_in d room c.0.0.0 ((over - length c.0.1) - 1) inside) n.0.0 left over c.0.1) f.2.0 c.2 in
    let each = row_symbols (λ (room : ℕ). element_in d room c.0.0.0 ((over - length c.0.1) - 1) inside) (symbol_shape c.0.0.0) over (λ room content x. element_symbol d room c.0.0.0 ((over - length c.0.1) - 1) inside over content x) n.0.0 l.0 c.0.1 f.2.0 l.2 in
    (f.0, f.1, (n.0, n.1, (c.0, c.1, ap (λ (ts : List Tree × ℕ). each_is_symbol (trees_of ts.0)) (sym f.2.2) ∙ each)))

pub array_counted : (d room : ℕ) (w : Width) (at : ℕ) (cut : Fault) (end : ℕ) (content : List ℕ) (ts : List Tree) → IsArrayOf d room w at cut end content ts → IsCounted w at cut content
array_counted d room w at cut end content ts h = (h.0, h.1, (h.2.0, h.2.1))

-- the outline tells whether elements are symbols
pub outline_symbol : (c : Shape) (o : Outline) → o ≡ outline c → cond (eqb o.front.count 0) (symbol_kind o.kind) false ≡ symbol_shape c
outline_symbol ([], k) o is = rw is refl
outline_symbol (x ∷ xs, k) o is =
    let some : eqb o.front.count 0 ≡ false = ne_eqb _ _ (λ none. omega (arith, ap (λ (o : Outline). o.front.count) is, none)) in
    rw some refl

pub array_content : (i : Inside) (room : ℕ) (z : Size) (at : ℕ) (cut : Fault) (end : ℕ) (content : List ℕ) (x : (Tree × ℕ) × List ℕ) → deep_in i room (kind.Array z) at cut end content ≡ Ok x
    → (y : (List Tree × ℕ) × List ℕ) × (filled_in (size_width z) at (elements_in (size_width z) i room) cut end content ≡ Ok y) × (array (trees_of y.0.0) ≡ x.0.0)
array_content i room z at cut end content x h =
    let m = made_from (λ (ts : List Tree × ℕ). (array (trees_of ts.0), ts.1)) (filled_in (size_width z) at (elements_in (size_width z) i room) cut end content) x h in
    (m.0, m.1, ap value_of m.2)

-- as the program reads one
pub array_shape : (d room : ℕ) (w : Width) (at : ℕ) (cut : Fault) (end : ℕ) (content : List ℕ) (ts : List Tree) (i : Bounds) (n : ℕ) (shape : List ℕ) → (a : IsArrayOf d room w at cut end content ts) → (i ≡ inside_of at end a.0.1) × (n ≡ a.2.0.0) × (shape ≡ a.2.0.1)
    → IsRead (shape_in d room i.cut i.end shape)
array_shape d room w at cut end content ts i n shape a e = rw (e.0, e.2) (a.2.2.0, a.2.2.1)

pub array_told : (d room : ℕ) (w : Width) (at : ℕ) (cut : Fault) (end : ℕ) (content : List ℕ) (ts : List Tree) (i : Bounds) (n : ℕ) (shape : List ℕ) (o : Outline) (left : ℕ) (rest : List ℕ) → (a : IsArrayOf d room w at cut end content ts)
    → (i ≡ inside_of at end a.0.1) × (n ≡ a.2.0.0) × (shape ≡ a.2.0.1) → made (with_room outline) (shape_in d room i.cut i.end shape) ≡ Ok ((o, left), rest) → each_is_symbol (trees_of ts) ≡ cond (eqb n 0) true (cond (eqb o.front.count 0) (symbol_kind o.kind) false)
array_told d room w at cut end content ts i n shape o left rest a e h =
    let f = found_in outline (shape_in d room i.cut i.end shape) o left rest h in
    let whole : shape_in d room i.cut i.end shape ≡ Ok a.2.2.0 = rw (e.0, e.2) a.2.2.1 in
    let same : a.2.2.0 ≡ ((f.0, left), rest) = ok_is {F = Fault} a.2.2.0 ((f.0, left), rest) (sym whole ∙ f.1) in
    let is : symbol_shape a.2.2.0.0.0 ≡ cond (eqb o.front.count 0) (symbol_kind o.kind) false = ap (λ (c : (Shape × ℕ) × List ℕ). symbol_shape c.0.0) same ∙ sym (outline_symbol f.0 o (sym f.2)) in
    a.2.2.2 ∙ ap (λ (m : ℕ). cond (eqb m 0) true (symbol_shape a.2.2.0.0.0)) (sym e.1) ∙ ap (λ (b : Bool). cond (eqb n 0) true b) is

-- ---- a value at an offset

-- what is answered
abbrev pub answered : Tree × ℕ → Result (Tree × ℕ) Fault
answered x = Ok x

pub at_stands : (bytes : List ℕ) (at after : ℕ) → end_of (value_at bytes at) ≡ Ok after → let r = value_in 16 65536 (fault_at fault.Cut (length bytes)) (length bytes) (drop at bytes) in
    IsRead r × (answered (told r, after) ≡ value_at bytes at)
at_stands bytes at after h =
    let end = length bytes in
    let r = value_in 16 65536 (fault_at fault.Cut end) end (drop at bytes) in
    let v = end_found (value_at bytes at) after h in
    let b = bind_is r (λ (x : (Tree × ℕ) × List ℕ). Ok (x.0.0, end - length x.1)) (v.0, after) v.1 in
    let t : told r ≡ v.0 = told_is r b.0 b.1 ∙ ap (λ (x : Tree × ℕ). x.0) (ok_is {F = Fault} (b.0.0.0, end - length b.0.1) (v.0, after) b.2) in
    ((b.0, b.1), ap (λ (t : Tree). answered (t, after)) t ∙ sym v.1)

-- ---- a value with bytes of its own

pub kept_stands : (d room : ℕ) (cut : Fault) (end : ℕ) (bytes : List ℕ) (t : Tree) (left : ℕ) (rest text : List ℕ) → IsBytes bytes → value_in d room cut end bytes ≡ Ok ((t, left), rest) → text ≡ take (length bytes - length rest) bytes
    → IsRead (value_in d room (fault_at fault.Cut (length text)) (length text) text) × (told (value_in d room (fault_at fault.Cut (length text)) (length text) text) ≡ t)
kept_stands d room cut end bytes t left rest text fits e is =
    let f = (value_reader d room cut).finds end bytes ((t, left), rest) fits e in
    let long : length f.front ≡ length bytes - length rest = omega (arith, ap length f.parts, length-append f.front rest) in
    let front : text ≡ f.front = is ∙ ap (take (length bytes - length rest)) f.parts ∙ take_at f.front rest (length bytes - length rest) long in
    let inside = fault_at fault.Cut (length text) in
    let read : value_in d room inside (length text) text ≡ Ok ((t, left), []) = ap (value_in d room inside (length text)) (front ∙ sym (append-nil f.front)) ∙ (value_reader d room inside).again (length text) (t, left) f.front [] f.spelled in
    ((((t, left), []), read), told_is (value_in d room inside (length text) text) ((t, left), []) read)
