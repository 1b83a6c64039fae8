use Rattle.std.proofs.Common.{◌∙◌, sym}
use Rattle.consume_path.specs.Offers.{owes_id}
use Rattle.consume_path.proofs.Alone.{found_any}
use Rattle.consume_path.proofs.searches.has_owing_id.Goals as goal

pub returns-then-is_owing_id_at : goal.returns-then-is_owing_id_at
returns-then-is_owing_id_at c =
    c.if-is_owing_id_at.true ∙ sym (found_any (owes_id c.args.settle c.args.id) c.args.items.now c.args.place (sym c.is_owing_id_at.ensures ∙ c.if-is_owing_id_at.true))
