use Rattle.std.proofs.Common.{◌∙◌, map}
use Rattle.consume_path.specs.Links.{taken_from, recount}
use Rattle.consume_path.proofs.Kept.{kept_anew, taken_seen, with_links}
use Rattle.consume_path.proofs.deliveries.Deliveries.take.Goals as goal

pub invariant_of-self : goal.invariant_of-self
invariant_of-self c =
    kept_anew c.self.invariant (map (taken_from c.args.link c.args.image) c.self.inside.links.items) (c.take_on.ensures ∙ taken_seen c.self.invariant c.args.link c.args.image)

pub returns : goal.returns
returns c =
    with_links c.self.view_is (λ s. map (recount s.list) (map (taken_from c.args.link c.args.image) s.links)) (c.take_on.ensures ∙ taken_seen c.self.invariant c.args.link c.args.image)
