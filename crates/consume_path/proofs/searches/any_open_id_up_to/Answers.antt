use Rattle.consume_path.proofs.Limits.{none_above}
use Rattle.consume_path.proofs.searches.any_open_id_up_to.Goals as goal

pub returns-else-id-top : goal.returns-else-id-top
returns-else-id-top c = none_above c.args.top c.args.id c.args.items.now c.requires c.if-id-top.false
