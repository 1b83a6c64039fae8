use Rattle.std.proofs.Common.{◌∙◌, ap, sym, subst}
use Rattle.std.specs.Prelude.{find, IsSome, ◌&&◌, ◌==◌}
use Rattle.publish_path.specs.declared.changes.Change.TheVariants.{Framed}
use Rattle.publish_path.specs.Publishes.{PublishState, takes}
use Rattle.open_items.specs.Places.{place_from}
use Rattle.publish_path.specs.Kept.{is_unsent}
use Rattle.publish_path.proofs.Ahead.{frame_alone}
use Rattle.publish_path.proofs.Ids.{ids_framed, neither}
use Rattle.publish_path.proofs.Kept.{kept_change, kept_front}
use Rattle.publish_path.proofs.publishes.Publishes.framed.Goals as goal

pub change_between-self-inside-requires-clause-within : goal.change_between-self-inside-requires-clause-within
change_between-self-inside-requires-clause-within c =
    let some = subst (λ (s : PublishState). IsSome (find (takes c.args.frame.publish) s.list)) (sym c.self.view_is) c.requires in
    (frame_alone c.args.frame.publish c.args.frame.first c.self.inside.next_id c.args.count c.self.inside.front c.taking_from-place.result c.self.inside.items.items c.as_slice.result.now c.self.invariant.0.rising c.self.invariant.0.ahead some c.as_slice.ensures.value c.taking_from-place.ensures).within

pub change_between-self-inside-requires-clause-before : goal.change_between-self-inside-requires-clause-before
change_between-self-inside-requires-clause-before c =
    let some = subst (λ (s : PublishState). IsSome (find (takes c.args.frame.publish) s.list)) (sym c.self.view_is) c.requires in
    (frame_alone c.args.frame.publish c.args.frame.first c.self.inside.next_id c.args.count c.self.inside.front c.taking_from-place.result c.self.inside.items.items c.as_slice.result.now c.self.invariant.0.rising c.self.invariant.0.ahead some c.as_slice.ensures.value c.taking_from-place.ensures).before

pub change_between-self-inside-requires-clause-behind : goal.change_between-self-inside-requires-clause-behind
change_between-self-inside-requires-clause-behind c =
    let some = subst (λ (s : PublishState). IsSome (find (takes c.args.frame.publish) s.list)) (sym c.self.view_is) c.requires in
    (frame_alone c.args.frame.publish c.args.frame.first c.self.inside.next_id c.args.count c.self.inside.front c.taking_from-place.result c.self.inside.items.items c.as_slice.result.now c.self.invariant.0.rising c.self.invariant.0.ahead some c.as_slice.ensures.value c.taking_from-place.ensures).behind

pub invariant_of-self : goal.invariant_of-self
invariant_of-self c =
    let change = Framed c.args.frame.publish c.args.frame.first c.self.inside.next_id c.args.count in (
      kept_front (kept_change c.self.invariant.0 change c.change_between-self-inside.ensures.items c.change_between-self-inside.ensures.counts)
          (c.unsent_from-self-inside.ensures ∙ ap (place_from is_unsent c.self.inside.front) c.as_slice-2.ensures.value),
      λ w.
          let both = neither c.self.inside.wrapped (c.args.frame.first && c.id_after-self-inside.result == 0) (sym c.has_wrapped-self-inside.ensures ∙ w) in
          ids_framed c.args.frame.publish c.args.frame.first c.args.count c.self.inside.next_id c.id_after-self-inside.result c.self.invariant.0.rising c.change_between-self-inside.ensures.items c.id_after-self-inside.ensures both.1 (c.self.invariant.1 both.0),
    )
