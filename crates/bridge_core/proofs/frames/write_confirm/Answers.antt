use Rattle.bridge_core.proofs.frames.write_confirm.Goals as goal

pub returns-then-confirm : goal.returns-then-confirm
returns-then-confirm c = rw c.if-confirm.true c.put_ack.ensures

pub returns-else-confirm : goal.returns-else-confirm
returns-else-confirm c = rw c.if-confirm.false c.put_nack.ensures
