use Rattle.std.proofs.Common.{◌≡◌, ◌+◌, drop}
use Rattle.std.specs.List.{position_or_len}
use Rattle.bridge_core.specs.Held.{is_counted_at}
use Rattle.bridge_core.proofs.queue.next_from.Given as goal

abbrev pub invariant-loop-i : goal.invariant-loop-i
invariant-loop-i l = l.place + position_or_len (is_counted_at l.of) (drop l.place l.units.items) ≡ l.i + position_or_len (is_counted_at l.of) (drop l.i l.units.items)
