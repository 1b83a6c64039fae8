use Rattle.publish_path.proofs.Payloads.{frame_is, begins_in_order, rest_kept, whole}
use Rattle.publish_path.proofs.laws.payloads_lawfully.Goals as goal

pub returns-clause-frame : goal.returns-clause-frame
returns-clause-frame c = frame_is

pub returns-clause-order : goal.returns-clause-order
returns-clause-order c = begins_in_order

pub returns-clause-rest : goal.returns-clause-rest
returns-clause-rest c = λ life n h taken. rest_kept life h n taken

pub returns-clause-whole : goal.returns-clause-whole
returns-clause-whole c = whole
