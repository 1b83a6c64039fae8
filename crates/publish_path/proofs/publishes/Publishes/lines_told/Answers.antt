use Rattle.publish_path.specs.declared.changes.Change.TheVariants.{Reported}
use Rattle.std.proofs.Common.{refl}
use Rattle.publish_path.specs.Publishes.{reported}
use Rattle.publish_path.proofs.Ids.{ids_map}
use Rattle.publish_path.proofs.Kept.{kept_change}
use Rattle.publish_path.proofs.publishes.Publishes.lines_told.Goals as goal

pub invariant_of-self : goal.invariant_of-self
invariant_of-self c = (
  kept_change c.self.invariant.0 Reported c.change_between-self-inside.ensures.items c.change_between-self-inside.ensures.counts,
  λ w. ids_map reported (λ p. refl) c.self.inside.next_id c.change_between-self-inside.ensures.items (c.self.invariant.1 w),
)
