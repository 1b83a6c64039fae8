use Rattle.std.proofs.Common.{◌≡◌, ◌∙◌, ap, rules}
use Rattle.consume_path.specs.declared.delivery.Arriving.{Arriving}
use Rattle.consume_path.specs.Links.{link_of}
use Rattle.consume_path.specs.Kept.{counted_anew}
use Rattle.consume_path.specs.Offers.{ending_in, ended_on, added}
use Rattle.consume_path.proofs.Ending.{ended, ended_counted}
use Rattle.consume_path.proofs.deliveries.Deliveries.last_transfer.Goals as goal

pub returns-clause-ok : goal.returns-clause-ok
returns-clause-ok c =
    let before = c.args.self.now in
    let link = c.args.link in
    let ending : Arriving = ending_in link c.args.part (link_of before.links link) in
    let same : c.ending_on-arriving.result ≡ ending = search rules in
    λ payload. c.end_delivery.ensures ∙ ap (λ image. ended_on link image c.add.new.self) c.is_some-image.ensures
    ∙ ap (ended_on link _) (c.in_ok-add.ensures.ok ∙ ap (λ a. counted_anew (added a c.args.content c.args.again before)) same)
    ∙ ended_counted link _ (added ending c.args.content c.args.again before)
    ∙ ended link c.args.part payload c.args.content c.args.again before c.requires
