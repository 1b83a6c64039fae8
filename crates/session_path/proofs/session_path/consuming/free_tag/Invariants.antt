use Rattle.std.proofs.Common.{◌≡◌, ℕ, ◌+◌, length}
use Rattle.session_path.specs.Path.{free_from}
use Rattle.session_path.proofs.session_path.consuming.free_tag.Given as goal

abbrev pub invariant-loop : goal.invariant-loop
invariant-loop l = record {
  number : l.number ≡ l.counter + 1;
  rest : (k : ℕ) → l.counter + k ≡ length l.deliveries.links → free_from k l.number l.deliveries.links ≡ free_from (length l.deliveries.links) 1 l.deliveries.links;
}
