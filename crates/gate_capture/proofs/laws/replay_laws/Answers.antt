use Rattle.std.proofs.Common.{is_some, length}
use Rattle.gate_capture.specs.Replay.{coming, recorded_accept, recorded_connect, recorded_read}
use Rattle.gate_capture.specs.Replay.{recorded_write, is_shut_next, recorded_idle, recorded_now}
use Rattle.gate_capture.proofs.ReplayLemmas.{answered_keeps, same_log}
use Rattle.gate_capture.proofs.laws.replay_laws.Goals as goal

pub returns-clause-accept : goal.returns-clause-accept
returns-clause-accept c = λ replay. answered_keeps (is_some (recorded_accept replay)) replay.log

pub returns-clause-connect : goal.returns-clause-connect
returns-clause-connect c = λ replay pair. answered_keeps (is_some (recorded_connect pair replay)) replay.log

pub returns-clause-read : goal.returns-clause-read
returns-clause-read c = λ replay pair end room. answered_keeps (is_some (recorded_read pair end room replay)) replay.log

pub returns-clause-write : goal.returns-clause-write
returns-clause-write c = λ replay pair end bytes. answered_keeps (is_some (recorded_write pair end bytes replay)) replay.log

pub returns-clause-shut : goal.returns-clause-shut
returns-clause-shut c = λ replay pair end. answered_keeps (is_shut_next pair end (coming replay)) replay.log

pub returns-clause-idle : goal.returns-clause-idle
returns-clause-idle c = λ replay. answered_keeps (is_some (recorded_idle replay)) replay.log

pub returns-clause-now : goal.returns-clause-now
returns-clause-now c = λ replay. answered_keeps (is_some (recorded_now replay)) replay.log

pub returns-clause-same : goal.returns-clause-same
returns-clause-same c = λ replay none. same_log replay.differs replay.log.left replay.log.used (length replay.log.used) none
