use Rattle.std.proofs.Common.{◌≡◌, ◌∙◌, ap, rules}
use Rattle.std.specs.Prelude.{is_some}
use Rattle.consume_path.specs.declared.delivery.Arriving.{Arriving}
use Rattle.consume_path.specs.Deliveries.{each_link}
use Rattle.consume_path.specs.Links.{link_of, taken_from}
use Rattle.consume_path.specs.Kept.{counted_anew}
use Rattle.consume_path.specs.Offers.{arriving_in, added}
use Rattle.consume_path.proofs.Ending.{arrived_is}
use Rattle.consume_path.proofs.deliveries.Deliveries.arrived.Goals as goal

pub returns-clause-ok : goal.returns-clause-ok
returns-clause-ok c =
    let before = c.args.self.now in
    let link = c.args.link in
    let arriving : Arriving = arriving_in link (link_of before.links link) in
    let same : c.arriving_on-arriving.result ≡ arriving = search rules in
    c.take.ensures ∙ ap (λ image. counted_anew (each_link (taken_from link image) c.add.new.self)) c.is_some-image.ensures
    ∙ ap (λ s. counted_anew (each_link (taken_from link (is_some c.args.content)) s)) (c.in_ok-add.ensures.ok ∙ ap (λ a. counted_anew (added a c.args.content c.args.again before)) same)
    ∙ arrived_is link c.args.content c.args.again before
