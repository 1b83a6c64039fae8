use Rattle.gate_outside.proofs.Appending.{front_and_rest}
use Rattle.gate_outside.proofs.memory_streams.MemorySourceSource.read.Goals as goal

pub returns-clause-left : goal.returns-clause-left
returns-clause-left c =
    rw (
      ← c.self.view_is,
      c.copy_front-count.ensures.came,
      c.split_at.ensures.back,
      c.as_slice.ensures,
      front_and_rest c.self.inside.bytes c.self.inside.at c.copy_front-count.result,
    )
