-- Values one after another, as a loop reads them, each within the room that those before it leave.
use Rattle.std.proofs.Common.{◌≡◌, ℕ, suc, ◌+◌, ◌-◌, ◌<◌, ◌≤◌, List, [], ◌∷◌, ◌++◌, Ok, Err}
use Rattle.std.proofs.Common.{refl, sym, ap, ◌∙◌, append_assoc, arith}
use Rattle.std.proofs.lemmas.List.{append-nil}
use Rattle.wire_base.specs.declared.stop.Stop.{Stop}
use Rattle.wire_base.specs.declared.stop.Stop.TheVariants as stop
use Rattle.wire_base.specs.Reading.{Reads, made, Stops}
use Rattle.types_10.specs.Reading.{Fault, row_in}

-- what was read before, and what is still read, with the room and the bytes that it leaves
abbrev pub behind_row : {A : Type 0} → List A → Reads (List A × ℕ) Fault → Reads (List A × ℕ) Fault
behind_row front = made (λ xs. (front ++ xs.0, xs.1))

regroup : {A : Type 0} (front : List A) (x : A) (read : Reads (List A × ℕ) Fault) → behind_row front (made (λ xs. (x ∷ xs.0, xs.1)) read) ≡ behind_row (front ++ x ∷ []) read
regroup {A} front x (Ok xs) = ap (λ (ys : List A). Ok ((ys, xs.0.1), xs.1)) (simp append_assoc)
regroup front x (Err e) = refl

pub row_goes_on : {A : Type 0} (read : ℕ → ℕ → List ℕ → Reads (A × ℕ) Fault) (front : List A) (count i room end : ℕ) (text : List ℕ) (x : A) (left : ℕ) (after : List ℕ) (total : Reads (List A × ℕ) Fault) → i < count
    → read room end text ≡ Ok ((x, left), after) → behind_row front (row_in read (count - i) room end text) ≡ total → behind_row (front ++ x ∷ []) (row_in read (count - (i + 1)) left end after) ≡ total
unfolding row_in
row_goes_on read front count i room end text x left after total lt h so_far =
    let k : count - i ≡ suc (count - (i + 1)) = omega arith in
    let one : behind_row front (row_in read (count - i) room end text) ≡ behind_row (front ++ x ∷ []) (row_in read (count - (i + 1)) left end after) = rw (k, h) (regroup front x (row_in read (count - (i + 1)) left end after)) in
    sym one ∙ so_far

pub row_ends : {A : Type 0} (e : Stop Fault) (read : ℕ → ℕ → List ℕ → Reads (A × ℕ) Fault) (front : List A) (count i room end : ℕ) (text : List ℕ) (total : Reads (List A × ℕ) Fault) → i < count → Stops e (read room end text)
    → behind_row front (row_in read (count - i) room end text) ≡ total → Stops e total
unfolding row_in
row_ends stop.Memory read front count i room end text total lt h so_far = tt
row_ends (stop.Fault e) read front count i room end text total lt h so_far =
    let k : count - i ≡ suc (count - (i + 1)) = omega arith in
    let one : behind_row front (row_in read (count - i) room end text) ≡ Err e = rw (k, h) refl in
    sym so_far ∙ one

pub row_done : {A : Type 0} (read : ℕ → ℕ → List ℕ → Reads (A × ℕ) Fault) (front : List A) (count i room end : ℕ) (text : List ℕ) (total : Reads (List A × ℕ) Fault) → count ≤ i
    → behind_row front (row_in read (count - i) room end text) ≡ total → total ≡ Ok ((front, room), text)
unfolding row_in
row_done {A} read front count i room end text total le so_far =
    let k : count - i ≡ 0 = omega arith in
    let one : behind_row front (row_in read (count - i) room end text) ≡ Ok ((front, room), text) = rw k (ap (λ (ys : List A). Ok ((ys, room), text)) (append-nil front)) in
    sym so_far ∙ one
