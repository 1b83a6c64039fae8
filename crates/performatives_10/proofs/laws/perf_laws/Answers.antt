use Rattle.performatives_10.proofs.PerfLaws.{read_exactly}
use Rattle.performatives_10.proofs.Written.{perf_back, error_back, state_back, source_back}
use Rattle.performatives_10.proofs.Written.{target_back}
use Rattle.performatives_10.proofs.laws.perf_laws.Goals as goal

pub returns-clause-read : goal.returns-clause-read
returns-clause-read c = read_exactly

pub returns-clause-back : goal.returns-clause-back
returns-clause-back c = perf_back

pub returns-clause-errors : goal.returns-clause-errors
returns-clause-errors c = error_back

pub returns-clause-states : goal.returns-clause-states
returns-clause-states c = state_back

pub returns-clause-sources : goal.returns-clause-sources
returns-clause-sources c = source_back

pub returns-clause-targets : goal.returns-clause-targets
returns-clause-targets c = target_back
