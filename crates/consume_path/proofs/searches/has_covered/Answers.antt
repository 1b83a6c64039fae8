use Rattle.std.proofs.Common.{◌∙◌, sym, false}
use Rattle.consume_path.specs.Items.{is_covered}
use Rattle.consume_path.proofs.Alone.{found_any}
use Rattle.consume_path.proofs.searches.has_covered.Goals as goal

pub returns-then-is_covered_at : goal.returns-then-is_covered_at
returns-then-is_covered_at c =
    c.if-is_covered_at.true ∙ sym (found_any (is_covered c.args.tag false) c.args.items.now c.args.place (sym c.is_covered_at.ensures ∙ c.if-is_covered_at.true))
