use Rattle.std.proofs.Common.{◌∙◌, arith, map}
use Rattle.consume_path.specs.Links.{change_first, has_number, transfer_came, recount}
use Rattle.consume_path.proofs.Kept.{kept_anew, came_seen, with_links}
use Rattle.consume_path.proofs.deliveries.Deliveries.join.Goals as goal

pub invariant_of-self-2 : goal.invariant_of-self-2
invariant_of-self-2 c =
    let came = change_first (has_number c.args.link) (transfer_came c.args.part c.args.payload.now) in
    kept_anew c.self.invariant (came c.self.inside.links.items) (c.in_ok-transfer_on.ensures.ok ∙ came_seen c.self.invariant (omega arith) c.args.link c.args.part c.args.payload.now)

pub returns-clause-ok : goal.returns-clause-ok
returns-clause-ok c =
    with_links c.self.view_is (λ s. map (recount s.list) (change_first (has_number c.args.link) (transfer_came c.args.part c.args.payload.now) s.links))
    (c.in_ok-transfer_on.ensures.ok ∙ came_seen c.self.invariant (omega arith) c.args.link c.args.part c.args.payload.now)
