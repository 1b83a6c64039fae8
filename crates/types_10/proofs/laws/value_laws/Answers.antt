use Rattle.std.proofs.Common.{length, ◌++◌}
use Rattle.std.proofs.Math.Seq.{drop-append_seam}
use Rattle.types_10.specs.Writing.{value_text}
use Rattle.types_10.proofs.Alone.{canonical_alone}
use Rattle.types_10.proofs.Canonical.{written_is_canonical}
use Rattle.types_10.proofs.FaultLaws.{fault_is_first}
use Rattle.types_10.proofs.Shortest.{spelling_is_written}
use Rattle.types_10.proofs.ValueLaws.{one_value, spelled_is_read, value_is_read}
use Rattle.types_10.proofs.Within.{canonical_is_spelled}
use Rattle.types_10.proofs.laws.value_laws.Goals as goal

pub returns-clause-one : goal.returns-clause-one
returns-clause-one c = one_value

pub returns-clause-canonical : goal.returns-clause-canonical
returns-clause-canonical c = written_is_canonical

pub returns-clause-spelled : goal.returns-clause-spelled
returns-clause-spelled c = canonical_is_spelled

pub returns-clause-alone : goal.returns-clause-alone
returns-clause-alone c = canonical_alone

pub returns-clause-back : goal.returns-clause-back
returns-clause-back c t before rest r h =
    spelled_is_read (before ++ (value_text t ++ rest)) (length before) t (value_text t) rest (canonical_is_spelled t (value_text t) (written_is_canonical t r h)) (drop-append_seam before (value_text t ++ rest))

pub returns-clause-read : goal.returns-clause-read
returns-clause-read c = value_is_read

pub returns-clause-fault : goal.returns-clause-fault
returns-clause-fault c = fault_is_first

pub returns-clause-writable : goal.returns-clause-writable
returns-clause-writable c = spelling_is_written
