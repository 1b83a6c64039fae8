use Rattle.std.proofs.Common.{◌∙◌}
use Rattle.types_10.specs.View.{pair_trees}
use Rattle.sections_10.proofs.Places.{key_seen, key_missing}
use Rattle.sections_10.proofs.sections.is_key_at.Goals as goal

pub returns-in-Some : goal.returns-in-Some
returns-in-Some c = c.is_key.ensures ∙ key_seen (λ p. pair_trees p.now) c.args.keys c.get.result _ c.args.pairs.now c.args.place c.in-Some.is c.get.ensures

pub returns-in-None : goal.returns-in-None
returns-in-None c = key_missing (λ p. pair_trees p.now) c.args.keys c.get.result c.args.pairs.now c.args.place c.in-None.is c.get.ensures
