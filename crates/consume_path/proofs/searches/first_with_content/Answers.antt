use Rattle.std.proofs.Common.{◌∙◌, ap}
use Rattle.std.specs.Prelude.{find}
use Rattle.consume_path.specs.Offers.{has_content}
use Rattle.std.proofs.lemmas.List.{take_rest}
use Rattle.consume_path.proofs.Ahead.{content_ahead}
use Rattle.consume_path.proofs.searches.first_with_content.Goals as goal

pub returns : goal.returns
returns c = c.find_with_content.ensures ∙ ap (find (has_content c.args.id)) (take_rest c.args.items.now c.args.from) ∙ content_ahead c.args.id c.args.from c.args.items.now c.requires
