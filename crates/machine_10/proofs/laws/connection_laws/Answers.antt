use Rattle.machine_10.proofs.CallLaws.{ranges}
use Rattle.machine_10.proofs.StepLaws.{runs_by, goes_on, closing_stays, closed_stays}
use Rattle.machine_10.proofs.StepLaws.{violation_closes}
use Rattle.machine_10.proofs.Within.{within_stays_all}
use Rattle.machine_10.proofs.laws.connection_laws.Goals as goal

pub returns : goal.returns
returns c = record { ranges = ranges; violations = violation_closes; running = runs_by; forward = goes_on; closing = closing_stays; within = within_stays_all; closed = closed_stays }
