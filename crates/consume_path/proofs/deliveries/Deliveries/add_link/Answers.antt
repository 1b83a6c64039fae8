use Rattle.std.proofs.Common.{◌∙◌, ◌++◌, ◌∷◌, [], ap, map}
use Rattle.consume_path.specs.Links.{new_link, recount}
use Rattle.consume_path.proofs.Kept.{kept_anew, link_added, with_links}
use Rattle.consume_path.proofs.deliveries.Deliveries.add_link.Goals as goal

pub invariant_of-self-2 : goal.invariant_of-self-2
invariant_of-self-2 c =
    let links = c.self.inside.links.items in
    let new = new_link c.args.link c.args.kind c.self.inside.prefetch in
    kept_anew c.self.invariant (links ++ new ∷ [])
    (c.in_ok-push.ensures.items
    ∙ ap (λ l. links ++ l ∷ []) (c.recount_one.ensures ∙ ap (λ ds. recount ds c.asked_link-asked.result) c.as_slice.ensures.value ∙ ap (recount c.self.inside.items.items) c.asked_link-asked.ensures)
    ∙ link_added c.self.invariant new)

pub returns-clause-ok : goal.returns-clause-ok
returns-clause-ok c =
    let links = c.self.inside.links.items in
    with_links c.self.view_is (λ s. map (recount s.list) (s.links ++ new_link c.args.link c.args.kind s.prefetch ∷ []))
    (c.in_ok-push.ensures.items
    ∙ ap (λ l. links ++ l ∷ []) (c.recount_one.ensures ∙ ap (λ ds. recount ds c.asked_link-asked.result) c.as_slice.ensures.value ∙ ap (recount c.self.inside.items.items) c.asked_link-asked.ensures)
    ∙ link_added c.self.invariant (new_link c.args.link c.args.kind c.self.inside.prefetch))
