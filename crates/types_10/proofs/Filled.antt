-- What fills a size, as the program reads it: the bytes that the size counts, and what is read in them.
use Rattle.std.proofs.Common.{◌≡◌, ℕ, ◌-◌, ◌*◌, ◌/◌, ◌%◌, true, false, eqb, List, length, Ok, refl}
use Rattle.std.proofs.Common.{Err}
use Rattle.std.specs.Int.{Width}
use Rattle.wire_base.specs.declared.stop.Stop.{Stop}
use Rattle.wire_base.specs.declared.stop.Stop.TheVariants as stop
use Rattle.wire_base.specs.Reading.{Reads, Stops}
use Rattle.types_10.specs.Tree.{Tree}
use Rattle.types_10.specs.Loads.{element_load}
use Rattle.types_10.specs.Reading.{Fault, fault_at, count_in, bytes_in, filled_in, row_in, two_in}
use Rattle.types_10.specs.Reading.{items_in, entries_in, elements_in, spent_in, Inside, Shape}
use Rattle.types_10.specs.Reading.{shape_by}
use Rattle.types_10.specs.declared.reading.Bounds.{Bounds}
use Rattle.types_10.specs.declared.fault.TypeFault.TheVariants as fault

-- the bounds inside a size
abbrev pub inside_of : ℕ → ℕ → List ℕ → Bounds
inside_of at end rest = record { cut = fault_at fault.Count at; end = end - length rest }

-- reading ends inside, or leaves bytes there, or none
pub filled_ends : {A : Type 0} (e : Stop Fault) (w : Width) (at : ℕ) (inner : Fault → ℕ → List ℕ → Reads A Fault) (cut : Fault) (end : ℕ) (bytes body rest : List ℕ) (i : Bounds) → bytes_in cut w bytes ≡ Ok (body, rest)
    → i ≡ inside_of at end rest → Stops e (inner i.cut i.end body) → Stops e (filled_in w at inner cut end bytes)
filled_ends stop.Memory w at inner cut end bytes body rest i b is h = tt
filled_ends (stop.Fault e) w at inner cut end bytes body rest i b is h =
    let h : inner (fault_at fault.Count at) (end - length rest) body ≡ Err e = rw is at h in
    rw (b, h) refl

pub filled_over : {A : Type 0} (w : Width) (at : ℕ) (inner : Fault → ℕ → List ℕ → Reads A Fault) (cut : Fault) (end : ℕ) (bytes body rest : List ℕ) (i : Bounds) (x : A) (left : List ℕ) → bytes_in cut w bytes ≡ Ok (body, rest)
    → i ≡ inside_of at end rest → inner i.cut i.end body ≡ Ok (x, left) → eqb (length left) 0 ≡ false → filled_in w at inner cut end bytes ≡ Err i.cut
filled_over w at inner cut end bytes body rest i x left b is h more =
    let h : inner (fault_at fault.Count at) (end - length rest) body ≡ Ok (x, left) = rw is at h in
    rw (is, b, h, more) refl

pub filled_done : {A : Type 0} (w : Width) (at : ℕ) (inner : Fault → ℕ → List ℕ → Reads A Fault) (cut : Fault) (end : ℕ) (bytes body rest : List ℕ) (i : Bounds) (x : A) (left : List ℕ) → bytes_in cut w bytes ≡ Ok (body, rest)
    → i ≡ inside_of at end rest → inner i.cut i.end body ≡ Ok (x, left) → eqb (length left) 0 ≡ true → filled_in w at inner cut end bytes ≡ Ok (x, rest)
filled_done w at inner cut end bytes body rest i x left b is h none =
    let h : inner (fault_at fault.Count at) (end - length rest) body ≡ Ok (x, left) = rw is at h in
    rw (b, h, none) refl

-- behind their count, so many values, pairs and elements
pub items_counted : (w : Width) (read : ℕ → Fault → ℕ → List ℕ → Reads (Tree × ℕ) Fault) (room : ℕ) (cut : Fault) (end : ℕ) (bytes : List ℕ) (n : ℕ) (items : List ℕ) → count_in cut w bytes ≡ Ok (n, items)
    → items_in w read room cut end bytes ≡ row_in (λ room. read room cut) n room end items
items_counted w read room cut end bytes n items e = rw e refl

pub entries_counted : (w : Width) (read : ℕ → Fault → ℕ → List ℕ → Reads (Tree × ℕ) Fault) (room : ℕ) (cut : Fault) (end : ℕ) (bytes : List ℕ) (n : ℕ) (entries : List ℕ) → count_in cut w bytes ≡ Ok (n, entries) → n % 2 ≡ 0
    → entries_in w read room cut end bytes ≡ row_in (two_in (λ room. read room cut)) (n / 2) room end entries
entries_counted w read room cut end bytes n entries e even = rw (e, even) refl

pub elements_counted : (w : Width) (inside : Inside) (room : ℕ) (cut : Fault) (end : ℕ) (bytes : List ℕ) (n : ℕ) (shape : List ℕ) (c : Shape) (more : ℕ) (elements : List ℕ) (left at : ℕ) → count_in cut w bytes ≡ Ok (n, shape)
    → shape_by inside room cut end shape ≡ Ok ((c, more), elements) → spent_in cut more (n * element_load c) ≡ Ok left → at ≡ (end - length elements) - 1
    → elements_in w inside room cut end bytes ≡ row_in (λ room. inside.element room c at cut) n left end elements
elements_counted w inside room cut end bytes n shape c more elements left at e s l last = rw (e, s, l, last) refl
