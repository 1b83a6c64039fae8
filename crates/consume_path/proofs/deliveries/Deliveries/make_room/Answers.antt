use Rattle.std.specs.List.{AllByRecursion}
use Rattle.std.proofs.Common.{◌∙◌, ap, subst}
use Rattle.consume_path.specs.Items.{needs_content}
use Rattle.open_items.specs.Places.{place_from}
use Rattle.consume_path.specs.Kept.{IsLinkFrom, IsUpTo}
use Rattle.consume_path.proofs.Kept.{kept_open, kept_front, kept_bounds}
use Rattle.consume_path.proofs.deliveries.Deliveries.make_room.Goals as goal

pub invariant_of-self : goal.invariant_of-self
invariant_of-self c =
    kept_bounds (kept_front (kept_open c.self.invariant c.compact.ensures) (c.needing_from-self-inside.ensures ∙ ap (place_from needs_content 0) c.as_slice.ensures.value))
    (subst (AllByRecursion (IsUpTo c.top_id-self-inside.result)) c.as_slice-then-len-self.ensures.value c.top_id-self-inside.ensures)
    (subst (AllByRecursion (IsLinkFrom c.low_link-self-inside.result)) c.as_slice-then-len-self-2.ensures.value c.low_link-self-inside.ensures)
