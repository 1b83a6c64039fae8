use Rattle.publish_path.proofs.Returns.{due_is, frame_kept, most}
use Rattle.publish_path.proofs.laws.returns_lawfully.Goals as goal

pub returns-clause-due : goal.returns-clause-due
returns-clause-due c = due_is

pub returns-clause-frame : goal.returns-clause-frame
returns-clause-frame c = λ life n h taken. frame_kept life h n taken

pub returns-clause-most : goal.returns-clause-most
returns-clause-most c = most
