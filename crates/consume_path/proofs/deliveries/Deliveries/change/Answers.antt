use Rattle.open_items.specs.Places.{place_from}
use Rattle.consume_path.specs.Items.{needs_content}
use Rattle.std.proofs.Common.{◌∙◌, ap, refl}
use Rattle.consume_path.proofs.Kept.{kept_change, kept_front, change_view}
use Rattle.consume_path.proofs.deliveries.Deliveries.change.Goals as goal

pub invariant_of-self : goal.invariant_of-self
invariant_of-self c = kept_front (kept_change c.self.invariant c.args.change c.requires c.change_between-self-inside.ensures.items c.change_between-self-inside.ensures.links c.change_between-self-inside.ensures.counts) (c.needing_from-self-inside.ensures ∙ ap (place_from needs_content c.self.inside.front) c.as_slice.ensures.value)

pub returns : goal.returns
returns c =
    change_view c.self.view_is (c.args.change) c.self.inside.links.items c.self.inside.items.items refl refl c.change_between-self-inside.ensures.items c.change_between-self-inside.ensures.links
