use Rattle.tables_091.proofs.FaultLaws.{fault_is_first}
use Rattle.tables_091.proofs.ReaderLaws.{one_table, table_is_read}
use Rattle.tables_091.proofs.Writable.{spelled_is_writable}
use Rattle.tables_091.proofs.Written.{written_is_spelled, written_is_read}
use Rattle.tables_091.proofs.laws.table_laws.Goals as goal

pub returns-clause-spelled : goal.returns-clause-spelled
returns-clause-spelled c = written_is_spelled

pub returns-clause-back : goal.returns-clause-back
returns-clause-back c = written_is_read

pub returns-clause-writable : goal.returns-clause-writable
returns-clause-writable c = spelled_is_writable

pub returns-clause-one : goal.returns-clause-one
returns-clause-one c = one_table

pub returns-clause-read : goal.returns-clause-read
returns-clause-read c = table_is_read

pub returns-clause-fault : goal.returns-clause-fault
returns-clause-fault c = fault_is_first
