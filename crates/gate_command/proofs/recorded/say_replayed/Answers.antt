use Rattle.gate_command.proofs.recorded.say_replayed.Goals as goal

pub returns-in-Same-clause-said : goal.returns-in-Same-clause-said
returns-in-Same-clause-said g c = rw c.in-Same.is c.say_counted.ensures.said

pub returns-in-Differs-clause-said : goal.returns-in-Differs-clause-said
returns-in-Differs-clause-said g c = rw c.in-Differs.is c.say_counted-in-Differs.ensures.said
