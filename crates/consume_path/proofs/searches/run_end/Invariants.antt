use Rattle.std.proofs.Common.{◌≡◌, ◌-◌}
use Rattle.consume_path.specs.Offers.{run_to}
use Rattle.consume_path.proofs.searches.run_end.Given as goal

abbrev pub invariant-loop : goal.invariant-loop
invariant-loop l = run_to (l.most - l.counter) l.settle l.items l.last ≡ run_to l.most l.settle l.items l.id
