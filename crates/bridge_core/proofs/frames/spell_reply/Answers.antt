use Rattle.bridge_core.proofs.frames.spell_reply.Goals as goal

pub returns-in-NoMemory-clause-written : goal.returns-in-NoMemory-clause-written
returns-in-NoMemory-clause-written c = rw c.in-NoMemory.is c.put_close.ensures
