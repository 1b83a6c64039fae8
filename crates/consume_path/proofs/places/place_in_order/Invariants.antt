use Rattle.std.proofs.Common.{◌≤◌, length}
use Rattle.consume_path.proofs.places.place_in_order.Given as goal

abbrev pub invariant-loop : goal.invariant-loop
invariant-loop l = l.to ≤ length l.items
