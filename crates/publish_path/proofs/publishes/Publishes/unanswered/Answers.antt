use Rattle.std.proofs.Common.{◌∙◌, ap, sym}
use Rattle.std.specs.Prelude.{count_by}
use Rattle.publish_path.specs.Publishes.{PublishState}
use Rattle.publish_path.specs.Offers.{is_pending}
use Rattle.publish_path.proofs.Steps.{pending_seen}
use Rattle.publish_path.proofs.publishes.Publishes.unanswered.Goals as goal

pub returns : goal.returns
returns c =
    let count = count_by (is_pending c.args.link) in
    c.count_pending.ensures ∙ ap count c.as_slice.ensures.value ∙ sym (pending_seen c.args.link c.self.inside.items.items)
    ∙ ap (λ (s : PublishState). count s.list) c.self.view_is
