use Rattle.std.proofs.Common.{◌∙◌, sym}
use Rattle.consume_path.proofs.Limits.{has_room_of_all}
use Rattle.consume_path.proofs.searches.has_room_on.Goals as goal

pub returns-then-has_room_for : goal.returns-then-has_room_for
returns-then-has_room_for c =
    c.if-has_room_for.true ∙ sym (has_room_of_all c.args.limit c.args.link c.args.unsettled c.args.items.now c.requires (sym c.has_room_for.ensures ∙ c.if-has_room_for.true))
