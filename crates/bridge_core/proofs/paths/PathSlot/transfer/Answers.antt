use Rattle.std.proofs.Common.{rules}
use Rattle.bridge_core.proofs.paths.PathSlot.transfer.Goals as goal

pub returns-clause-ok : goal.returns-clause-ok
returns-clause-ok c = λ image again.
    elim c.match-self.branch [
      | goal.in-None w ↦ search rules
      | goal.in-Some w ↦ search (rules, w.transfer.ensures.ok image again)
    ]
