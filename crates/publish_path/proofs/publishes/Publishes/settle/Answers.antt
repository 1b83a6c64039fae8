use Rattle.std.proofs.Common.{◌∙◌, ap, refl}
use Rattle.publish_path.specs.declared.changes.Change.TheVariants.{Confirmed}
use Rattle.open_items.specs.Places.{place_from}
use Rattle.publish_path.specs.Kept.{is_unsettled}
use Rattle.publish_path.proofs.Ahead.{confirm_between}
use Rattle.publish_path.specs.Publishes.{confirmed}
use Rattle.publish_path.proofs.Ids.{ids_map}
use Rattle.publish_path.proofs.Kept.{kept_change, kept_settled}
use Rattle.publish_path.proofs.publishes.Publishes.settle.Goals as goal

pub change_between-self-inside-requires-clause-before : goal.change_between-self-inside-requires-clause-before
change_between-self-inside-requires-clause-before c =
    (confirm_between c.args.confirm c.self.inside.confirms c.self.inside.settled c.past_from-end.result c.self.inside.items.items c.as_slice.result.now c.self.invariant.0.open_still c.self.invariant.0.climbs c.as_slice.ensures.value c.past_from-end.ensures).before

pub change_between-self-inside-requires-clause-behind : goal.change_between-self-inside-requires-clause-behind
change_between-self-inside-requires-clause-behind c =
    (confirm_between c.args.confirm c.self.inside.confirms c.self.inside.settled c.past_from-end.result c.self.inside.items.items c.as_slice.result.now c.self.invariant.0.open_still c.self.invariant.0.climbs c.as_slice.ensures.value c.past_from-end.ensures).behind

pub invariant_of-self : goal.invariant_of-self
invariant_of-self c = (
  kept_settled (kept_change c.self.invariant.0 (Confirmed c.args.confirm) c.change_between-self-inside.ensures.items c.change_between-self-inside.ensures.counts)
      (c.unsettled_from-self-inside.ensures ∙ ap (place_from is_unsettled c.self.inside.settled) c.as_slice-2.ensures.value),
  λ w. ids_map (confirmed c.args.confirm) (λ p. refl) c.self.inside.next_id c.change_between-self-inside.ensures.items (c.self.invariant.1 w),
)
