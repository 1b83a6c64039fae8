-- The pairs that ran out of memory.
use Rattle.std.specs.Prelude.{◌≡◌, ℕ, ◌≤◌, zero, suc, ◌+◌, ◌==◌, Bool, true, false, if◌then◌else◌}
use Rattle.std.specs.Prelude.{[], ◌∷◌}
use Rattle.gate_relay.specs.Entries.{is_out_of_memory}
use Rattle.gate_runs.specs.Marks.{History, Call, Refuse, TakeUp, RunOut, Finish}
use Rattle.gate_runs.specs.Journal.{journal}
use Rattle.gate_runs.specs.Next.{accepted_count, out_of_memory_count}

abbrev pub one_if : Bool → ℕ
one_if true = 1
one_if false = 0

-- p ran out of memory
abbrev pub has_run_out : ℕ → History → Bool
has_run_out p m = is_out_of_memory (journal p m)

-- how often p ran out of memory
abbrev pub run_outs_of : ℕ → History → ℕ
run_outs_of p [] = 0
run_outs_of p (Call entry ∷ m) = run_outs_of p m
run_outs_of p (Refuse q ∷ m) = if q == p then run_outs_of p m + 1 else run_outs_of p m
run_outs_of p (TakeUp q ∷ m) = run_outs_of p m
run_outs_of p (RunOut q s cut ∷ m) = if q == p then run_outs_of p m + 1 else run_outs_of p m
run_outs_of p (Finish how ∷ m) = run_outs_of p m

-- how many of the pairs 0 to n - 1 ran out of memory
abbrev pub run_out_below : ℕ → History → ℕ
run_out_below zero m = 0
run_out_below (suc p) m = run_out_below p m + one_if (has_run_out p m)

-- each pair runs out of memory at most once, and the count is that of the pairs accepted which did
pub record CountsRunOuts (m : History) : Type 0 where
  pub once : (p : ℕ) → run_outs_of p m ≡ one_if (has_run_out p m)
  pub count : out_of_memory_count m ≡ run_out_below (accepted_count m) m
  pub most : out_of_memory_count m ≤ accepted_count m
