use Rattle.gate_ends.proofs.OpenEndLemmas.{scanned_some, scanned_none}
use Rattle.gate_ends.proofs.open_ends.OpenEnds.find.Goals as goal

pub returns-2-clause-some : goal.returns-2-clause-some
returns-2-clause-some g c = scanned_some c.scan.result c.args.self.now.ends.items c.args.pair c.args.end (rw c.deref-3.ensures.value at c.scan.ensures)

pub returns-2-clause-none : goal.returns-2-clause-none
returns-2-clause-none g c = scanned_none c.scan.result c.args.self.now.ends.items c.args.pair c.args.end (rw c.deref-3.ensures.value at c.scan.ensures)
