-- How far the count of the pairs that ran out of memory can rise: a pair runs out at most once.
use Rattle.std.specs.Prelude.{ℕ, ◌+◌, ◌≤◌, Bool, if◌then◌else◌, List, sum_by}
use Rattle.gate_turns.specs.declared.live.Live.{Live}
use Rattle.gate_turns.specs.declared.service.Service.{Service}
use Rattle.gate_turns.specs.declared.tally.Tally.{Tally}

-- 1 for a pair that can run out of memory yet, and 0 for one that did
abbrev pub can_run_out : {A : Type 0} → (A → Bool) → Live A → ℕ
can_run_out is_out b = if is_out b.relay.value then 0 else 1

-- how many of these pairs can
abbrev pub how_many_can : {A : Type 0} → (A → Bool) → List (Live A) → ℕ
how_many_can is_out live = sum_by (can_run_out is_out) live

-- the most that the count can be after this pair's part of a turn
abbrev pub most_counted : {A : Type 0} → (A → Bool) → Live A → Tally → ℕ
most_counted is_out b t = t.out_of_memory + can_run_out is_out b

-- where a pair runs out of memory in its part of a turn, it is counted, once in all its turns
abbrev pub CountsOnce : {A : Type 0} → (A → Bool) → Live A → Live A → Tally → Tally → Type 0
CountsOnce is_out b b' t t' = most_counted is_out b' t' ≤ most_counted is_out b t

-- the pairs that ran out of memory, with the live ones that can yet, are at most those accepted
abbrev pub CountWithin : {A : Type 0} → (A → Bool) → Service A → Tally → Type 0
CountWithin is_out s t = t.out_of_memory + how_many_can is_out s.live.items ≤ s.accepted
