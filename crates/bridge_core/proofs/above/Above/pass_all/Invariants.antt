use Rattle.bridge_core.specs.Held.{ArePassed}
use Rattle.bridge_core.proofs.above.Above.pass_all.Given as goal

abbrev pub invariant-loop : goal.invariant-loop
invariant-loop l = ArePassed l.units.items l.fn.self.passed l.fn.self.channels → ArePassed l.units.items l.self.passed l.self.channels
