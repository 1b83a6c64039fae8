use Rattle.std.proofs.Common.{sym, subst, refl}
use Rattle.std.specs.Prelude.{find, IsSome}
use Rattle.publish_path.specs.declared.changes.Change.TheVariants.{Returned}
use Rattle.publish_path.specs.Publishes.{PublishState, takes_return, returned}
use Rattle.publish_path.proofs.Ahead.{return_alone}
use Rattle.publish_path.proofs.Ids.{ids_map}
use Rattle.publish_path.proofs.Kept.{kept_change}
use Rattle.publish_path.proofs.publishes.Publishes.return_sent.Goals as goal

pub change_between-self-inside-requires-clause-within : goal.change_between-self-inside-requires-clause-within
change_between-self-inside-requires-clause-within c =
    let some = subst (λ (s : PublishState). IsSome (find (takes_return c.args.number) s.list)) (sym c.self.view_is) c.requires in
    (return_alone c.args.number c.returning_from-place.result c.self.inside.items.items c.as_slice.result.now c.self.invariant.0.rising some c.as_slice.ensures.value c.returning_from-place.ensures).within

pub change_between-self-inside-requires-clause-before : goal.change_between-self-inside-requires-clause-before
change_between-self-inside-requires-clause-before c =
    let some = subst (λ (s : PublishState). IsSome (find (takes_return c.args.number) s.list)) (sym c.self.view_is) c.requires in
    (return_alone c.args.number c.returning_from-place.result c.self.inside.items.items c.as_slice.result.now c.self.invariant.0.rising some c.as_slice.ensures.value c.returning_from-place.ensures).before

pub change_between-self-inside-requires-clause-behind : goal.change_between-self-inside-requires-clause-behind
change_between-self-inside-requires-clause-behind c =
    let some = subst (λ (s : PublishState). IsSome (find (takes_return c.args.number) s.list)) (sym c.self.view_is) c.requires in
    (return_alone c.args.number c.returning_from-place.result c.self.inside.items.items c.as_slice.result.now c.self.invariant.0.rising some c.as_slice.ensures.value c.returning_from-place.ensures).behind

pub invariant_of-self : goal.invariant_of-self
invariant_of-self c = (
  kept_change c.self.invariant.0 (Returned c.args.number) c.change_between-self-inside.ensures.items c.change_between-self-inside.ensures.counts,
  λ w. ids_map (returned c.args.number) (λ p. refl) c.self.inside.next_id c.change_between-self-inside.ensures.items (c.self.invariant.1 w),
)
