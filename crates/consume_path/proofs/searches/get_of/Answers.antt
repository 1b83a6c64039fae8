use Rattle.consume_path.proofs.Ahead.{none_waiting}
use Rattle.consume_path.proofs.searches.get_of.Goals as goal

pub returns-then-waiting-eq0 : goal.returns-then-waiting-eq0
returns-then-waiting-eq0 c = none_waiting c.args.waiting c.args.items.now c.requires.count c.if-waiting-eq0.true
