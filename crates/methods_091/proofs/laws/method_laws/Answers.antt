use Rattle.methods_091.proofs.FaultLaws.{read_exactly}
use Rattle.methods_091.proofs.KindLaws.{kinds_apart}
use Rattle.methods_091.proofs.MethodLaws.{one_method}
use Rattle.methods_091.proofs.Rebuilding.{same_parts}
use Rattle.methods_091.proofs.Writable.{method_writable}
use Rattle.methods_091.proofs.Written.{written_is_spelled, written_is_read}
use Rattle.methods_091.proofs.laws.method_laws.Goals as goal

pub returns-clause-spelled : goal.returns-clause-spelled
returns-clause-spelled c = written_is_spelled

pub returns-clause-back : goal.returns-clause-back
returns-clause-back c = written_is_read

pub returns-clause-one : goal.returns-clause-one
returns-clause-one c = one_method

pub returns-clause-parts : goal.returns-clause-parts
returns-clause-parts c = same_parts

pub returns-clause-apart : goal.returns-clause-apart
returns-clause-apart c = kinds_apart

pub returns-clause-read : goal.returns-clause-read
returns-clause-read c = read_exactly

pub returns-clause-writable : goal.returns-clause-writable
returns-clause-writable c = method_writable
