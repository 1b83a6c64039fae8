use Rattle.std.proofs.Common.{◌≡◌, ◌∙◌, ap, arith, length, refl}
use Rattle.std.specs.Prelude.{nat_lt}
use Rattle.std.specs.List.{list_any}
use Rattle.publish_path.specs.declared.changes.Change.TheVariants.{Told}
use Rattle.publish_path.specs.Publishes.{PublishState, is_told, told}
use Rattle.open_items.specs.Places.{place_from}
use Rattle.publish_path.specs.Kept.{is_unsettled, end_at}
use Rattle.publish_path.proofs.Ahead.{told_behind, any_told_ahead}
use Rattle.publish_path.proofs.Ids.{ids_map, told_end}
use Rattle.publish_path.proofs.Kept.{kept_change, kept_settled}
use Rattle.publish_path.proofs.publishes.Publishes.outcome.Goals as goal

pub change_between-self-inside-requires : goal.change_between-self-inside-requires
change_between-self-inside-requires c =
    let items = c.self.inside.items.items in
    let len : c.len-len.result ≡ length items = omega arith in
    let behind = told_behind c.args.first c.args.last c.args.outcome c.told_from-place.result c.self.inside.settled items c.as_slice.result.now c.self.invariant.0.open_still c.as_slice.ensures.value c.told_from-place.ensures in
    let end = told_end c.args.first c.args.last c.args.outcome c.self.inside.wrapped c.told_from-place.result c.end_at-end.result c.len-len.result c.self.inside.next_id c.self.inside.settled items c.as_slice.result.now (omega arith) c.self.invariant.1
    c.self.invariant.0.open_still.within c.as_slice.ensures.value c.told_from-place.ensures behind.within len (c.end_at-end.ensures ∙ ap (λ alone. end_at alone c.told_from-place.result c.len-len.result) c.is_alone.ensures) in
    record {
      order = end.order;
      within = end.within;
      counted = c.self.invariant.0.counted;
      before = behind.before;
      behind = end.behind;
    }

pub invariant_of-self : goal.invariant_of-self
invariant_of-self c = (
  kept_settled (kept_change c.self.invariant.0 (Told c.args.first c.args.last c.args.outcome) c.change_between-self-inside.ensures.items c.change_between-self-inside.ensures.counts)
      (c.unsettled_from-self-inside.ensures ∙ ap (place_from is_unsettled c.self.inside.settled) c.as_slice-2.ensures.value),
  λ w. ids_map (told c.args.first c.args.last c.args.outcome) (λ p. refl) c.self.inside.next_id c.change_between-self-inside.ensures.items (c.self.invariant.1 w),
)

pub returns-clause-any : goal.returns-clause-any
returns-clause-any c =
    let end : c.len-len.result ≡ length c.self.inside.items.items = omega arith in
    ap (nat_lt c.told_from-place.result) end
    ∙ any_told_ahead c.args.first c.args.last c.told_from-place.result c.self.inside.settled c.self.inside.items.items c.as_slice.result.now c.self.invariant.0.open_still c.as_slice.ensures.value c.told_from-place.ensures
    ∙ ap (λ (s : PublishState). list_any (is_told c.args.first c.args.last) s.list) c.self.view_is
