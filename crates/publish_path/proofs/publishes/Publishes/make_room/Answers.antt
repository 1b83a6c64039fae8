use Rattle.std.proofs.Common.{◌∙◌, ap}
use Rattle.open_items.specs.Places.{place_from}
use Rattle.publish_path.specs.Kept.{is_unsent, is_unsettled}
use Rattle.publish_path.proofs.Ids.{ids_open}
use Rattle.publish_path.proofs.Kept.{kept_open, kept_front, kept_settled}
use Rattle.publish_path.proofs.publishes.Publishes.make_room.Goals as goal

pub invariant_of-self : goal.invariant_of-self
invariant_of-self c = (
  kept_settled (kept_front (kept_open c.self.invariant.0 c.compact.ensures) (c.unsent_from-self-inside.ensures ∙ ap (place_from is_unsent 0) c.as_slice.ensures.value))
      (c.unsettled_from-self-inside.ensures ∙ ap (place_from is_unsettled 0) c.as_slice-2.ensures.value),
  λ w. ids_open c.self.inside.next_id c.compact.ensures (c.self.invariant.1 w),
)
