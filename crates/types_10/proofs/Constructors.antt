-- The constructor of an array, as a loop reads it: the descriptors so far, and the constructor of what they describe.
use Rattle.std.proofs.Common.{◌≡◌, ◌≢◌, ℕ, suc, ◌-◌, ◌<◌, List, [], ◌∷◌, ◌++◌, Ok, Err, refl, sym}
use Rattle.std.proofs.Common.{Result, ap, ◌∙◌, append_assoc, arith}
use Rattle.std.proofs.lemmas.List.{append-nil}
use Rattle.wire_base.specs.declared.stop.Stop.{Stop}
use Rattle.wire_base.specs.declared.stop.Stop.TheVariants as stop
use Rattle.wire_base.specs.Reading.{Reads, made, Stops}
use Rattle.types_10.specs.Tree.{Tree}
use Rattle.types_10.specs.Reading.{Fault, IsTold, code_in, Shape, with_descriptor, constructor_in}
use Rattle.types_10.proofs.ValueLaws.{not_described}
use Rattle.types_10.specs.declared.kind.Kind.{Kind}
use Rattle.types_10.specs.declared.kind.Kind.TheVariants as kind

-- a reader of descriptors within a room
abbrev Values : Type 0
Values = ℕ → Fault → ℕ → List ℕ → Reads (Tree × ℕ) Fault

-- what was read before, and what is still read
abbrev pub behind_descriptors : List Tree → Reads (Shape × ℕ) Fault → Reads (Shape × ℕ) Fault
behind_descriptors ds = made (λ c. ((ds ++ c.0.0, c.0.1), c.1))

regroup : (ds : List Tree) (x : Tree) (read : Reads (Shape × ℕ) Fault) → behind_descriptors ds (made (with_descriptor x) read) ≡ behind_descriptors (ds ++ x ∷ []) read
regroup ds x (Ok s) = ap (λ (ds : List Tree). Ok (((ds, s.0.0.1), s.0.1), s.1)) (simp append_assoc)
regroup ds x (Err e) = refl

pub descriptor_goes_on : (read : Values) (ds : List Tree) (most left room : ℕ) (cut : Fault) (end : ℕ) (bytes : List ℕ) (at : ℕ) (after : List ℕ) (x : Tree) (more : ℕ) (rest : List ℕ) (total : Reads (Shape × ℕ) Fault) → most ≡ suc left
    → code_in cut end bytes ≡ Ok ((kind.Described, at), after) → read room cut end after ≡ Ok ((x, more), rest)
    → behind_descriptors ds (constructor_in read most room cut end bytes) ≡ total → behind_descriptors (ds ++ x ∷ []) (constructor_in read left more cut end rest) ≡ total
unfolding constructor_in
descriptor_goes_on read ds most left room cut end bytes at after x more rest total turn e h so_far =
    let one : behind_descriptors ds (constructor_in read most room cut end bytes) ≡ behind_descriptors (ds ++ x ∷ []) (constructor_in read left more cut end rest) = rw (turn, e, h) (regroup ds x (constructor_in read left more cut end rest)) in
    sym one ∙ so_far

-- what takes no memory stops at no other fault
pub told_stops : {Y : Type 0} (f : Stop Fault) (read : Result Y Fault) → IsTold f read → Stops f read
told_stops stop.Memory read told = tt
told_stops (stop.Fault f) read told = told

-- the loop ends at a fault of a code, and at one of a descriptor
pub ends_at_code : (f : Stop Fault) (read : Values) (ds : List Tree) (most room : ℕ) (cut : Fault) (end : ℕ) (bytes : List ℕ) (total : Reads (Shape × ℕ) Fault) → 0 < most
    → Stops f (code_in cut end bytes) → behind_descriptors ds (constructor_in read most room cut end bytes) ≡ total → Stops f total
unfolding constructor_in
ends_at_code stop.Memory read ds most room cut end bytes total some e so_far = tt
ends_at_code (stop.Fault f) read ds most room cut end bytes total some e so_far =
    let turn : most ≡ suc (most - 1) = omega arith in
    let one : behind_descriptors ds (constructor_in read most room cut end bytes) ≡ Err f = rw (turn, e) refl in
    sym so_far ∙ one

pub ends_at_descriptor : (f : Stop Fault) (read : Values) (ds : List Tree) (most room : ℕ) (cut : Fault) (end : ℕ) (bytes : List ℕ) (at : ℕ) (after : List ℕ) (total : Reads (Shape × ℕ) Fault) → 0 < most
    → code_in cut end bytes ≡ Ok ((kind.Described, at), after) → Stops f (read room cut end after)
    → behind_descriptors ds (constructor_in read most room cut end bytes) ≡ total → Stops f total
unfolding constructor_in
ends_at_descriptor stop.Memory read ds most room cut end bytes at after total some e h so_far = tt
ends_at_descriptor (stop.Fault f) read ds most room cut end bytes at after total some e h so_far =
    let turn : most ≡ suc (most - 1) = omega arith in
    let one : behind_descriptors ds (constructor_in read most room cut end bytes) ≡ Err f = rw (turn, e, h) refl in
    sym so_far ∙ one

-- it is done at the code of what isn't described
pub done_at_code : (read : Values) (ds : List Tree) (most room : ℕ) (cut : Fault) (end : ℕ) (bytes : List ℕ) (k : Kind) (at : ℕ) (after : List ℕ) (total : Reads (Shape × ℕ) Fault) → 0 < most
    → code_in cut end bytes ≡ Ok ((k, at), after) → k ≢ kind.Described → behind_descriptors ds (constructor_in read most room cut end bytes) ≡ total → total ≡ Ok (((ds, k), room), after)
unfolding constructor_in
done_at_code read ds most room cut end bytes k at after total some e plain so_far =
    let turn : most ≡ suc (most - 1) = omega arith in
    let one : behind_descriptors ds (constructor_in read most room cut end bytes) ≡ Ok (((ds, k), room), after) = rw (turn, e, not_described k plain) (ap (λ (ds : List Tree). Ok (((ds, k), room), after)) (append-nil ds)) in
    sym so_far ∙ one

-- there are no more codes than bytes
pub ends_without_code : (read : Values) (ds : List Tree) (most room : ℕ) (cut : Fault) (end : ℕ) (bytes : List ℕ) (total : Reads (Shape × ℕ) Fault) → most ≡ 0
    → behind_descriptors ds (constructor_in read most room cut end bytes) ≡ total → total ≡ Err cut
unfolding constructor_in
ends_without_code read ds most room cut end bytes total none so_far =
    let one : behind_descriptors ds (constructor_in read most room cut end bytes) ≡ Err cut = rw none refl in
    sym so_far ∙ one
