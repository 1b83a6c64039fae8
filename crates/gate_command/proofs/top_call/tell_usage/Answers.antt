use Rattle.gate_command.proofs.top_call.tell_usage.Goals as goal

pub returns-in-Word-clause-whole : goal.returns-in-Word-clause-whole
returns-in-Word-clause-whole g c = rw c.in-Word.is c.tell_number.ensures.whole

pub returns-in-Word-clause-part : goal.returns-in-Word-clause-part
returns-in-Word-clause-part g c = rw c.in-Word.is c.tell_number.ensures.part

pub returns-in-End-clause-whole : goal.returns-in-End-clause-whole
returns-in-End-clause-whole g c = rw c.in-End.is c.write_all.ensures.whole
