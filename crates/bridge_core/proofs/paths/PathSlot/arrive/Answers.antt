use Rattle.std.proofs.Common.{rules}
use Rattle.bridge_core.proofs.paths.PathSlot.arrive.Goals as goal

pub returns-clause-ok : goal.returns-clause-ok
returns-clause-ok c = λ payload.
    elim c.match-self.branch [
      | goal.in-None+in-Some-1 w ↦ search rules
      | goal.in-None+in-None-1 w ↦ search rules
      | goal.in-Some w ↦ search (rules, w.arrive.ensures.ok payload)
    ]
