use Rattle.std.proofs.Common.{◌∙◌, ap}
use Rattle.std.specs.Prelude.{filter}
use Rattle.publish_path.specs.Offers.{is_unanswered}
use Rattle.publish_path.specs.Searches.{found_confirm}
use Rattle.std.proofs.lemmas.List.{take_rest}
use Rattle.publish_path.proofs.Ahead.{confirm_ahead}
use Rattle.publish_path.proofs.searches.confirm_from.Goals as goal

pub returns : goal.returns
returns c = c.first_confirm.ensures ∙ ap (λ items. found_confirm (filter is_unanswered items)) (take_rest c.args.items.now c.args.from) ∙ confirm_ahead c.args.from c.args.items.now c.requires
