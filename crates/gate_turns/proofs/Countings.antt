-- How many of the live pairs can run out of memory yet.
use Rattle.std.proofs.Common.{◌≡◌, ℕ, ◌+◌, ◌<◌, ◌≤◌, Bool, List, length, get_or, remove, refl, sym}
use Rattle.std.proofs.Common.{subst, arith}
use Rattle.std.proofs.Math.ListN.{set}
use Rattle.std.proofs.lemmas.List.{length-set}
use Rattle.std.proofs.lemmas.List.Sums.{sum_by-remove, sum_by-set}
use Rattle.gate_turns.specs.declared.live.Live.{Live}
use Rattle.gate_turns.specs.Counting.{can_run_out, how_many_can}

-- with another state of one of them
pub how_many_set : {A : Type 0} (is_out : A → Bool) (live : List (Live A)) (at : ℕ) (b new : Live A) → at < length live → b ≡ get_or live at b
    → how_many_can is_out (set live at new) + can_run_out is_out b ≡ how_many_can is_out live + can_run_out is_out new
how_many_set {A} is_out live at b new lt here =
    subst (λ (x : Live A). how_many_can is_out (set live at new) + can_run_out is_out x ≡ how_many_can is_out live + can_run_out is_out new) (sym here)
    (sum_by-set (can_run_out is_out) live at new b lt)

-- one that did not run out
pub how_many_told : {A : Type 0} (is_out : A → Bool) (live : List (Live A)) (at : ℕ) (b new : Live A) → at < length live
    → is_out new.relay.value ≡ is_out (get_or live at b).relay.value → how_many_can is_out (set live at new) ≡ how_many_can is_out live
how_many_told {A} is_out live at b new lt same =
    let alike : can_run_out is_out new ≡ can_run_out is_out (get_or live at b) = rw same refl in
    omega (arith, sum_by-set (can_run_out is_out) live at new b lt, alike)

-- without it
pub how_many_left : {A : Type 0} (is_out : A → Bool) (live live' : List (Live A)) (at : ℕ) (new : Live A) → at < length live → live' ≡ remove (set live at new) at
    → how_many_can is_out live' ≤ how_many_can is_out (set live at new)
how_many_left {A} is_out live live' at new lt is =
    rw is (omega (arith, sum_by-remove (can_run_out is_out) (set live at new) at new (omega (arith, lt, length-set live at new))))
