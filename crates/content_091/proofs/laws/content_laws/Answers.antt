use Rattle.content_091.proofs.Contents.{one_content}
use Rattle.content_091.proofs.FaultLaws.{fault_exactly, read_exactly}
use Rattle.content_091.proofs.HeaderLaws.{one_header}
use Rattle.content_091.proofs.Rebuilding.{same_parts}
use Rattle.content_091.proofs.Written.{header_writable, written_is_spelled, written_is_read}
use Rattle.content_091.proofs.laws.content_laws.Goals as goal

pub returns-clause-spelled : goal.returns-clause-spelled
returns-clause-spelled c = written_is_spelled

pub returns-clause-read : goal.returns-clause-read
returns-clause-read c = read_exactly

pub returns-clause-fault : goal.returns-clause-fault
returns-clause-fault c = fault_exactly

pub returns-clause-back : goal.returns-clause-back
returns-clause-back c = written_is_read

pub returns-clause-writable : goal.returns-clause-writable
returns-clause-writable c = header_writable

pub returns-clause-one : goal.returns-clause-one
returns-clause-one c = one_header

pub returns-clause-parts : goal.returns-clause-parts
returns-clause-parts c = same_parts

pub returns-clause-content : goal.returns-clause-content
returns-clause-content c = one_content
