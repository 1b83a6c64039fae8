-- Sections of one kind, one after another, as a loop reads them.
use Rattle.std.proofs.Common.{◌≡◌, ◌-◌, ◌<◌, ℕ, zero, suc, Bool, true, false, List, [], ◌∷◌, ◌++◌}
use Rattle.std.proofs.Common.{Option, Some, None, option_map, Result, Ok, Err, refl, sym, ap, ◌∙◌}
use Rattle.std.proofs.Common.{arith}
use Rattle.wire_base.specs.Reading.{◌>>=◌, Stops}
use Rattle.wire_base.specs.declared.stop.Stop.{Stop}
use Rattle.wire_base.specs.declared.stop.Stop.TheVariants as stop
use Rattle.wire_base.proofs.Laws.{ok_is}
use Rattle.wire_base.proofs.FaultLaws.{err_is}
use Rattle.types_10.specs.Tree.{Tree}
use Rattle.types_10.specs.Fields.{a_binary}
use Rattle.sections_10.specs.Rows.{Section}
use Rattle.sections_10.specs.Reading.{front_of, bytes_of, data_behind, sequences_behind, section_in}
use Rattle.sections_10.specs.Reading.{found_as, stands_in, run_in}
use Rattle.sections_10.proofs.Standing.{section_missing}

-- one section more, and what is read behind it
abbrev pub with_more : Tree → Result (List Tree × ℕ) ℕ → Result (List Tree × ℕ) ℕ
with_more t read = read >>= λ x. Ok (t ∷ x.0, x.1)

pub run_next : (s : Section) (left : ℕ) (bytes : List ℕ) (at after : ℕ) (t : Tree) → 0 < left → section_in s bytes at ≡ Ok (Some t, after)
    → run_in s left bytes at ≡ with_more t (run_in s (left - 1) bytes after)
unfolding run_in
run_next s zero bytes at after t some is = absurd (omega (arith, some))
run_next s (suc left) bytes at after t some is =
    let one : suc left - 1 ≡ left = omega arith in
    rw (is, one) refl

pub run_ends : (s : Section) (left : ℕ) (bytes : List ℕ) (at after : ℕ) → 0 < left → section_in s bytes at ≡ Ok (None, after) → run_in s left bytes at ≡ Ok ([], after)
unfolding run_in
run_ends s zero bytes at after some is = absurd (omega (arith, some))
run_ends s (suc left) bytes at after some is = rw is refl

pub run_fails : (e : Stop ℕ) (s : Section) (left : ℕ) (bytes : List ℕ) (at : ℕ) → 0 < left → Stops e (section_in s bytes at) → Stops e (run_in s left bytes at)
unfolding run_in
run_fails stop.Memory s left bytes at some is = tt
run_fails (stop.Fault f) s zero bytes at some is = absurd (omega (arith, some))
run_fails (stop.Fault f) s (suc left) bytes at some is = rw is refl

pub run_over : (s : Section) (left : ℕ) (bytes : List ℕ) (at : ℕ) → left ≡ 0 → run_in s left bytes at ≡ Ok ([], at)
unfolding run_in
run_over s left bytes at none = rw none refl

-- ---- data

more_behind : (body : Option (List ℕ)) (t : Tree) (read : Result (List Tree × ℕ) ℕ) → data_behind body (with_more t read) ≡ data_behind (Some (front_of body ++ bytes_of t)) read
more_behind body t (Ok x) = refl
more_behind body t (Err e) = refl

pub data_goes_on : (s : Section) (body : Option (List ℕ)) (left : ℕ) (bytes : List ℕ) (at after : ℕ) (t : Tree) (total : Result (Option (List ℕ) × ℕ) ℕ) → 0 < left → section_in s bytes at ≡ Ok (Some t, after)
    → data_behind body (run_in s left bytes at) ≡ total → data_behind (Some (front_of body ++ bytes_of t)) (run_in s (left - 1) bytes after) ≡ total
data_goes_on s body left bytes at after t total some is so_far =
    sym (more_behind body t (run_in s (left - 1) bytes after)) ∙ ap (data_behind body) (sym (run_next s left bytes at after t some is)) ∙ so_far

pub data_ends : (s : Section) (body : Option (List ℕ)) (left : ℕ) (bytes : List ℕ) (at after : ℕ) (total : Result (Option (List ℕ) × ℕ) ℕ) → 0 < left → section_in s bytes at ≡ Ok (None, after)
    → data_behind body (run_in s left bytes at) ≡ total → total ≡ Ok (body, after)
data_ends s body left bytes at after total some is so_far = sym so_far ∙ ap (data_behind body) (run_ends s left bytes at after some is)

pub data_over : (s : Section) (body : Option (List ℕ)) (left : ℕ) (bytes : List ℕ) (at : ℕ) (total : Result (Option (List ℕ) × ℕ) ℕ) → left ≡ 0
    → data_behind body (run_in s left bytes at) ≡ total → total ≡ Ok (body, at)
data_over s body left bytes at total none so_far = sym so_far ∙ ap (data_behind body) (run_over s left bytes at none)

pub data_fails : (e : Stop ℕ) (s : Section) (body : Option (List ℕ)) (left : ℕ) (bytes : List ℕ) (at : ℕ) (total : Result (Option (List ℕ) × ℕ) ℕ) → 0 < left → Stops e (section_in s bytes at)
    → data_behind body (run_in s left bytes at) ≡ total → Stops e total
data_fails stop.Memory s body left bytes at total some is so_far = tt
data_fails (stop.Fault f) s body left bytes at total some is so_far =
    sym so_far ∙ ap (data_behind body) (run_fails (stop.Fault f) s left bytes at some is)

-- the same, as a function tells it
pub data_next : (s : Section) (body o : Option (List ℕ)) (d text : List ℕ) (left : ℕ) (bytes : List ℕ) (at after : ℕ) (total : Result (Option (List ℕ) × ℕ) ℕ) → 0 < left → o ≡ Some d
    → text ≡ front_of body ++ d → section_in s bytes at ≡ Ok (option_map a_binary o, after) → data_behind body (run_in s left bytes at) ≡ total → data_behind (Some text) (run_in s (left - 1) bytes after) ≡ total
data_next s body o d text left bytes at after total some is joined read so_far =
    let section : section_in s bytes at ≡ Ok (Some (a_binary d), after) = read ∙ ap (λ (p : Option (List ℕ)). Ok (option_map a_binary p, after)) is in
    rw joined (data_goes_on s body left bytes at after (a_binary d) total some section so_far)

pub data_stops : (s : Section) (body o : Option (List ℕ)) (left : ℕ) (bytes : List ℕ) (at after : ℕ) (total : Result (Option (List ℕ) × ℕ) ℕ) → 0 < left → o ≡ None
    → section_in s bytes at ≡ Ok (option_map a_binary o, after) → data_behind body (run_in s left bytes at) ≡ total → total ≡ Ok (body, at)
data_stops s body o left bytes at after total some is read so_far =
    let section : section_in s bytes at ≡ Ok (None, after) = read ∙ ap (λ (p : Option (List ℕ)). Ok (option_map a_binary p, after)) is in
    data_ends s body left bytes at after total some section so_far ∙ ap (λ (n : ℕ). Ok (body, n)) (section_missing s bytes at after section).0

-- ---- sequences

-- what is seen of a section that stands there, or doesn't
stands_is : (s : Section) (bytes : List ℕ) (at : ℕ) (r : Result (Option Tree × ℕ) ℕ) (after : ℕ) → section_in s bytes at ≡ r → (r >>= found_as) ≡ Ok (true, after) → (t : Tree) × (section_in s bytes at ≡ Ok (Some t, after))
stands_is s bytes at (Ok (Some t, m)) after is e =
    let same : m ≡ after = ap (λ (x : Bool × ℕ). x.1) (ok_is {F = ℕ} (true, m) (true, after) e) in
    (t, is ∙ ap (λ (n : ℕ). Ok (Some t, n)) same)
stands_is s bytes at (Ok (None, m)) after is e =
    let same : false ≡ true = ap (λ (x : Bool × ℕ). x.0) (ok_is {F = ℕ} (false, m) (true, after) e) in
    absurd (cc same)
stands_is s bytes at (Err f) after is e = absurd (cc e)

stands_not : (s : Section) (bytes : List ℕ) (at : ℕ) (r : Result (Option Tree × ℕ) ℕ) (after : ℕ) → section_in s bytes at ≡ r → (r >>= found_as) ≡ Ok (false, after) → section_in s bytes at ≡ Ok (None, after)
stands_not s bytes at (Ok (Some t, m)) after is e =
    let same : true ≡ false = ap (λ (x : Bool × ℕ). x.0) (ok_is {F = ℕ} (true, m) (false, after) e) in
    absurd (cc same)
stands_not s bytes at (Ok (None, m)) after is e =
    let same : m ≡ after = ap (λ (x : Bool × ℕ). x.1) (ok_is {F = ℕ} (false, m) (false, after) e) in
    is ∙ ap (λ (n : ℕ). Ok (None, n)) same
stands_not s bytes at (Err f) after is e = absurd (cc e)

stands_fails : (f : ℕ) (r : Result (Option Tree × ℕ) ℕ) → (r >>= found_as) ≡ Err f → r ≡ Err f
stands_fails f (Ok x) e = absurd (cc e)
stands_fails f (Err g) e = ap (λ (n : ℕ). Err n) (err_is {A = Bool × ℕ} g f e)

more_found : (found : Bool) (t : Tree) (read : Result (List Tree × ℕ) ℕ) → sequences_behind found (with_more t read) ≡ sequences_behind true read
more_found found t (Ok x) = refl
more_found found t (Err e) = refl

pub sequences_go_on : (s : Section) (found : Bool) (left : ℕ) (bytes : List ℕ) (at after : ℕ) (t : Tree) (total : Result (Bool × ℕ) ℕ) → 0 < left → section_in s bytes at ≡ Ok (Some t, after)
    → sequences_behind found (run_in s left bytes at) ≡ total → sequences_behind true (run_in s (left - 1) bytes after) ≡ total
sequences_go_on s found left bytes at after t total some is so_far =
    sym (more_found found t (run_in s (left - 1) bytes after)) ∙ ap (sequences_behind found) (sym (run_next s left bytes at after t some is)) ∙ so_far

pub sequences_end : (s : Section) (found : Bool) (left : ℕ) (bytes : List ℕ) (at after : ℕ) (total : Result (Bool × ℕ) ℕ) → 0 < left → section_in s bytes at ≡ Ok (None, after)
    → sequences_behind found (run_in s left bytes at) ≡ total → total ≡ Ok (found, after)
sequences_end s found left bytes at after total some is so_far = sym so_far ∙ ap (sequences_behind found) (run_ends s left bytes at after some is)

pub sequences_over : (s : Section) (found : Bool) (left : ℕ) (bytes : List ℕ) (at : ℕ) (total : Result (Bool × ℕ) ℕ) → left ≡ 0
    → sequences_behind found (run_in s left bytes at) ≡ total → total ≡ Ok (found, at)
sequences_over s found left bytes at total none so_far = sym so_far ∙ ap (sequences_behind found) (run_over s left bytes at none)

pub sequences_fail : (e : Stop ℕ) (s : Section) (found : Bool) (left : ℕ) (bytes : List ℕ) (at : ℕ) (total : Result (Bool × ℕ) ℕ) → 0 < left → Stops e (section_in s bytes at)
    → sequences_behind found (run_in s left bytes at) ≡ total → Stops e total
sequences_fail stop.Memory s found left bytes at total some is so_far = tt
sequences_fail (stop.Fault f) s found left bytes at total some is so_far =
    sym so_far ∙ ap (sequences_behind found) (run_fails (stop.Fault f) s left bytes at some is)

-- the same, as a function tells it
pub sequences_next : (s : Section) (found : Bool) (left : ℕ) (bytes : List ℕ) (at after : ℕ) (total : Result (Bool × ℕ) ℕ) → 0 < left → stands_in s bytes at ≡ Ok (true, after)
    → sequences_behind found (run_in s left bytes at) ≡ total → sequences_behind true (run_in s (left - 1) bytes after) ≡ total
sequences_next s found left bytes at after total some is so_far =
    let t = stands_is s bytes at (section_in s bytes at) after refl is in
    sequences_go_on s found left bytes at after t.0 total some t.1 so_far

pub sequences_stop : (s : Section) (found : Bool) (left : ℕ) (bytes : List ℕ) (at after : ℕ) (total : Result (Bool × ℕ) ℕ) → 0 < left → stands_in s bytes at ≡ Ok (false, after)
    → sequences_behind found (run_in s left bytes at) ≡ total → total ≡ Ok (found, at)
sequences_stop s found left bytes at after total some is so_far =
    let section = stands_not s bytes at (section_in s bytes at) after refl is in
    sequences_end s found left bytes at after total some section so_far ∙ ap (λ (n : ℕ). Ok (found, n)) (section_missing s bytes at after section).0

pub sequences_fail_seen : (e : Stop ℕ) (s : Section) (found : Bool) (left : ℕ) (bytes : List ℕ) (at : ℕ) (total : Result (Bool × ℕ) ℕ) → 0 < left → Stops e (stands_in s bytes at)
    → sequences_behind found (run_in s left bytes at) ≡ total → Stops e total
sequences_fail_seen stop.Memory s found left bytes at total some is so_far = tt
sequences_fail_seen (stop.Fault f) s found left bytes at total some is so_far =
    sequences_fail (stop.Fault f) s found left bytes at total some (stands_fails f (section_in s bytes at) is) so_far
