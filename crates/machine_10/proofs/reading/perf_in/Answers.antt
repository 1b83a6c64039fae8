use Rattle.machine_10.proofs.ReadCases.{read_lifted}
use Rattle.machine_10.proofs.reading.perf_in.Goals as goal

pub returns : goal.returns
returns c = read_lifted c.read_perf.result c.args.bytes.now c.read_perf.ensures.exact
