use Rattle.std.proofs.Common.{◌∙◌, ap, refl}
use Rattle.publish_path.specs.declared.changes.Change.TheVariants.{LinkLost}
use Rattle.open_items.specs.Places.{place_from}
use Rattle.publish_path.specs.Kept.{is_unsent, is_unsettled}
use Rattle.publish_path.specs.Publishes.{link_lost}
use Rattle.publish_path.proofs.Ids.{ids_map}
use Rattle.publish_path.proofs.Kept.{kept_change, kept_front, kept_settled}
use Rattle.publish_path.proofs.publishes.Publishes.lose.Goals as goal

pub invariant_of-self : goal.invariant_of-self
invariant_of-self c = (
  kept_settled
      (kept_front (kept_change c.self.invariant.0 (LinkLost c.args.link c.args.not_found) c.change_between-self-inside.ensures.items c.change_between-self-inside.ensures.counts)
      (c.unsent_from-self-inside.ensures ∙ ap (place_from is_unsent c.self.inside.front) c.as_slice.ensures.value))
      (c.unsettled_from-self-inside.ensures ∙ ap (place_from is_unsettled c.self.inside.settled) c.as_slice-2.ensures.value),
  λ w. ids_map (link_lost c.args.link c.args.not_found) (λ p. refl) c.self.inside.next_id c.change_between-self-inside.ensures.items (c.self.invariant.1 w),
)
