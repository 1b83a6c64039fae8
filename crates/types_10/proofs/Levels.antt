-- Contents and elements of some depth, where the depth is no numeral.
use Rattle.std.proofs.Common.{◌≡◌, ℕ, zero, suc, ◌-◌, Bool, true, false, cond, eqb, leb, ltb, ◌<◌}
use Rattle.std.proofs.Common.{List, [], ◌∷◌, Ok, Err, refl, sym, ap, arith, rules, tests}
use Rattle.std.proofs.lemmas.Bool.{leb-true, leb-false, lt-ltb, le-ltb}
use Rattle.wire_base.specs.Reading.{Reads, made}
use Rattle.types_10.specs.Tree.{Tree, described, depth}
use Rattle.types_10.specs.Reading.{Fault, fault_at, flat_in, deep_in, level, contents_in}
use Rattle.types_10.specs.Reading.{element_in}
use Rattle.types_10.specs.declared.fault.TypeFault.TheVariants as fault
use Rattle.types_10.specs.Kinds.{is_bare}
use Rattle.types_10.specs.declared.kind.Kind.{Kind}
use Rattle.types_10.specs.declared.kind.Kind.TheVariants as kind
use Rattle.types_10.specs.declared.kind.Single.TheVariants as single
use Rattle.wire_base.proofs.Laws.{ok_is}

-- contents by whether their depth is 0
pub contents_is : (d room : ℕ) (k : Kind) (at : ℕ) (cut : Fault) (end : ℕ) (bytes : List ℕ)
    → contents_in d room k at cut end bytes ≡ cond (eqb d 0) (flat_in room k at cut end bytes) (deep_in (level (d - 1)) room k at cut end bytes)
unfolding level
contents_is zero room k at cut end bytes = refl
contents_is (suc d) room k at cut end bytes =
    let less : suc d - 1 ≡ d = omega arith in
    let more : eqb (suc d) 0 ≡ false = search (rules, tests) in
    simp (less, more) refl

-- contents of some depth
pub contents_more : (d room : ℕ) (k : Kind) (at : ℕ) (cut : Fault) (end : ℕ) (bytes : List ℕ) → 0 < d
    → contents_in d room k at cut end bytes ≡ deep_in (level (d - 1)) room k at cut end bytes
unfolding level
contents_more zero room k at cut end bytes more = absurd (omega arith)
contents_more (suc d) room k at cut end bytes more =
    let less : suc d - 1 ≡ d = omega arith in
    rw less refl

-- contents without bytes leave the room and the bytes as they were
abbrev read_to : Tree → ℕ → List ℕ → Reads (Tree × ℕ) Fault
read_to t room bytes = Ok ((t, room), bytes)

bare_left : (t : Tree) (room : ℕ) (bytes : List ℕ) (x : Tree) (left : ℕ) (rest : List ℕ) → read_to t room bytes ≡ read_to x left rest → (left ≡ room) × (rest ≡ bytes)
bare_left t room bytes x left rest e =
    let p = sym (ok_is {F = Fault} ((t, room), bytes) ((x, left), rest) e) in
    (ap (λ (y : (Tree × ℕ) × List ℕ). y.0.1) p, ap (λ (y : (Tree × ℕ) × List ℕ). y.1) p)

pub bare_stays : (d room : ℕ) (k : Kind) (at : ℕ) (cut : Fault) (end : ℕ) (bytes : List ℕ) (x : Tree) (left : ℕ) (rest : List ℕ) → is_bare k ≡ true
    → contents_in d room k at cut end bytes ≡ Ok ((x, left), rest) → (left ≡ room) × (rest ≡ bytes)
unfolding level
bare_stays zero room (kind.Single (single.Bare b)) at cut end bytes x left rest bare e = bare_left _ room bytes x left rest e
bare_stays (suc d) room (kind.Single (single.Bare b)) at cut end bytes x left rest bare e = bare_left _ room bytes x left rest e
bare_stays zero room kind.EmptyList at cut end bytes x left rest bare e = absurd cc
bare_stays (suc d) room kind.EmptyList at cut end bytes x left rest bare e = bare_left _ room bytes x left rest e
bare_stays d room (kind.Single single.Boolean) at cut end bytes x left rest bare e = absurd cc
bare_stays d room (kind.Single (single.Octet o)) at cut end bytes x left rest bare e = absurd cc
bare_stays d room (kind.Single (single.Wide w)) at cut end bytes x left rest bare e = absurd cc
bare_stays d room (kind.Single single.Char) at cut end bytes x left rest bare e = absurd cc
bare_stays d room (kind.Single (single.Sixteen s)) at cut end bytes x left rest bare e = absurd cc
bare_stays d room (kind.Single (single.Text t s)) at cut end bytes x left rest bare e = absurd cc
bare_stays d room (kind.List s) at cut end bytes x left rest bare e = absurd cc
bare_stays d room (kind.Map s) at cut end bytes x left rest bare e = absurd cc
bare_stays d room (kind.Array s) at cut end bytes x left rest bare e = absurd cc
bare_stays d room kind.Described at cut end bytes x left rest bare e = absurd cc

-- elements without descriptors, and behind one that is too deep and one that isn't
pub element_plain : (d room : ℕ) (k : Kind) (at : ℕ) (cut : Fault) (end : ℕ) (bytes : List ℕ)
    → element_in d room ([], k) at cut end bytes ≡ contents_in d room k at cut end bytes
unfolding level
element_plain zero room k at cut end bytes = refl
element_plain (suc d) room k at cut end bytes = refl

pub element_none : (room : ℕ) (x : Tree) (xs : List Tree) (k : Kind) (at : ℕ) (cut : Fault) (end : ℕ) (bytes : List ℕ)
    → element_in 0 room (x ∷ xs, k) at cut end bytes ≡ Err (fault_at fault.Depth at)
unfolding level
element_none room x xs k at cut end bytes = either (ltb 0 (depth x))
  where
    either : (b : Bool) → cond {A = Reads (Tree × ℕ) Fault} b (Err (fault_at fault.Depth at)) (Err (fault_at fault.Depth at)) ≡ Err (fault_at fault.Depth at)
    either true = refl
    either false = refl

pub element_deep : (d room : ℕ) (x : Tree) (xs : List Tree) (k : Kind) (at : ℕ) (cut : Fault) (end : ℕ) (bytes : List ℕ) → 0 < d → leb (depth x) (d - 1) ≡ false
    → element_in d room (x ∷ xs, k) at cut end bytes ≡ Err (fault_at fault.Depth at)
unfolding level
element_deep zero room x xs k at cut end bytes more deep = absurd (omega arith)
element_deep (suc d) room x xs k at cut end bytes more deep =
    let passes : ltb d (depth x) ≡ true = lt-ltb _ _ (omega (arith, leb-false _ _ deep)) in
    rw passes refl

pub element_more : (d room : ℕ) (x : Tree) (xs : List Tree) (k : Kind) (at : ℕ) (cut : Fault) (end : ℕ) (bytes : List ℕ) → 0 < d → leb (depth x) (d - 1) ≡ true
    → element_in d room (x ∷ xs, k) at cut end bytes ≡ made (λ y. (described x y.0, y.1)) (element_in (d - 1) room (xs, k) at cut end bytes)
unfolding level
element_more zero room x xs k at cut end bytes more fine = absurd (omega arith)
element_more (suc d) room x xs k at cut end bytes more fine =
    let less : suc d - 1 ≡ d = omega arith in
    let within : ltb d (depth x) ≡ false = le-ltb _ _ (omega (arith, leb-true _ _ fine)) in
    rw (within, less) refl
