use Rattle.std.proofs.Common.{◌∙◌, ap}
use Rattle.std.specs.Prelude.{find}
use Rattle.publish_path.specs.Publishes.{is_begun}
use Rattle.std.proofs.lemmas.List.{take_rest}
use Rattle.publish_path.proofs.Ahead.{begun_ahead}
use Rattle.publish_path.proofs.searches.first_begun.Goals as goal

pub returns : goal.returns
returns c = c.find_begun.ensures ∙ ap (find (λ p. is_begun p.place)) (take_rest c.args.items.now c.args.from) ∙ begun_ahead c.args.from c.args.items.now c.requires
