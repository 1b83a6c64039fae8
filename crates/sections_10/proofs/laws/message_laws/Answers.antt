use Rattle.sections_10.proofs.FaultLaws.{fault_is}
use Rattle.sections_10.proofs.MessageLaws.{one_message, read_exactly}
use Rattle.sections_10.proofs.Written.{message_back}
use Rattle.sections_10.proofs.laws.message_laws.Goals as goal

pub returns-clause-read : goal.returns-clause-read
returns-clause-read c = read_exactly

pub returns-clause-one : goal.returns-clause-one
returns-clause-one c = one_message

pub returns-clause-fault : goal.returns-clause-fault
returns-clause-fault c = fault_is

pub returns-clause-back : goal.returns-clause-back
returns-clause-back c = message_back
