use Rattle.std.proofs.Common.{◌∙◌}
use Rattle.gate_ends.proofs.OpenEndLemmas.{scanned_is}
use Rattle.gate_ends.proofs.open_ends.is_open.Goals as goal

pub returns : goal.returns
returns c = c.is_some.ensures ∙ scanned_is c.scan.result c.args.ends.now c.args.pair c.args.end c.scan.ensures
