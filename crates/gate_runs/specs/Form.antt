-- When limits are in form.
use Rattle.std.specs.Prelude.{◌≤◌, IfSome}
use Rattle.gate_runs.specs.declared.limits.Limits.{Limits}

-- at least one pair, where the count is given, and 1 to 2^47 turns
pub record IsInForm (limits : Limits) : Type 0 where
  pub pairs : IfSome limits.pairs (λ n. 1 ≤ n)
  pub some : 1 ≤ limits.turns
  pub most : limits.turns ≤ 140737488355328
