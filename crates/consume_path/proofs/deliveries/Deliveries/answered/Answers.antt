use Rattle.std.proofs.Common.{◌≡◌, ◌∙◌, ap, arith, length, subst, sym, refl}
use Rattle.std.specs.List.{slice_get}
use Rattle.std.specs.Prelude.{◌&&◌, not, nat_lt}
use Rattle.consume_path.specs.Kept.{is_tagged, is_there}
use Rattle.consume_path.specs.declared.changes.Change.TheVariants.{Answered}
use Rattle.consume_path.specs.declared.places.Visit.{Visit}
use Rattle.consume_path.specs.Items.{changed}
use Rattle.open_items.proofs.Places.{IsBetween}
use Rattle.consume_path.proofs.Kept.{kept_change, change_view, answered_between}
use Rattle.consume_path.proofs.deliveries.Deliveries.answered.Goals as goal

pub change_between-self-inside-requires : goal.change_between-self-inside-requires
change_between-self-inside-requires c =
    let end : c.len.result ≡ length c.self.inside.items.items = omega arith in
    let visit = subst (λ (v : Visit). IsBetween (changed (Answered c.args.tag c.args.multiple c.args.settle)) v.from v.to c.self.inside.items.items) (sym c.visit_at-visit.ensures)
    (answered_between c.self.invariant c.args.tag c.args.multiple c.args.settle c.is_one_tagged-here.result c.place_by_tag-place.result c.len.result end
    (c.is_one_tagged-here.ensures ∙ ap (λ ds. not c.args.multiple && (nat_lt 0 c.args.tag && is_there (is_tagged c.args.tag) (slice_get ds c.place_by_tag-place.result))) c.as_slice-2.ensures.value)) in
    record {
      order = visit.order;
      within = visit.within;
      counted = c.self.invariant.counted;
      counts = c.self.invariant.counts_are;
      before = visit.before;
      behind = visit.behind;
    }

pub invariant_of-self : goal.invariant_of-self
invariant_of-self c =
    kept_change c.self.invariant (Answered c.args.tag c.args.multiple c.args.settle) refl c.change_between-self-inside.ensures.items c.change_between-self-inside.ensures.links c.change_between-self-inside.ensures.counts

pub returns : goal.returns
returns c =
    change_view c.self.view_is (Answered c.args.tag c.args.multiple c.args.settle) c.self.inside.links.items c.self.inside.items.items refl refl c.change_between-self-inside.ensures.items c.change_between-self-inside.ensures.links
