use Rattle.gate_capture.specs.Captures.{capture}
use Rattle.gate_capture.proofs.CaptureLaws.{capture_is_read, written_is_capture, one_capture}
use Rattle.gate_capture.proofs.CaptureLaws.{history_is, forms_are_spelled}
use Rattle.gate_capture.proofs.laws.capture_laws.Goals as goal

pub returns-clause-back : goal.returns-clause-back
returns-clause-back c = λ words log small entries. capture_is_read (capture words log) words log (written_is_capture words log small entries)

pub returns-clause-one : goal.returns-clause-one
returns-clause-one c = one_capture

pub returns-clause-history : goal.returns-clause-history
returns-clause-history c = history_is

pub returns-clause-replayable : goal.returns-clause-replayable
returns-clause-replayable c = forms_are_spelled
