use Rattle.std.proofs.Common.{◌≡◌, ◌∙◌, ◌+◌, ap, arith, length, subst, sym, refl, map}
use Rattle.std.specs.Prelude.{filter}
use Rattle.std.specs.List.{slice_get}
use Rattle.consume_path.specs.Kept.{is_numbered, is_there}
use Rattle.consume_path.specs.declared.changes.Change.TheVariants.{Delivered}
use Rattle.consume_path.specs.declared.places.Visit.{Visit}
use Rattle.consume_path.specs.Items.{changed, is_open}
use Rattle.consume_path.specs.Deliveries.{DeliveryState, with_list}
use Rattle.open_items.proofs.Places.{IsBetween}
use Rattle.consume_path.proofs.Kept.{kept_delivered, change_view, delivered_between}
use Rattle.consume_path.proofs.deliveries.Deliveries.commit_deliver.Goals as goal

pub change_between-self-inside-requires : goal.change_between-self-inside-requires
change_between-self-inside-requires c =
    let end : c.len.result ≡ length c.self.inside.items.items = omega arith in
    let visit = subst (λ (v : Visit). IsBetween (changed (Delivered c.args.next.number (c.self.inside.tags + 1))) v.from v.to c.self.inside.items.items) (sym c.visit_at-visit.ensures)
    (delivered_between c.self.invariant c.args.next.number (c.self.inside.tags + 1) c.is_number_at-here.result c.place_by_number-place.result c.len.result end
    (c.is_number_at-here.ensures ∙ ap (λ ds. is_there (is_numbered c.args.next.number) (slice_get ds c.place_by_number-place.result)) c.as_slice-2.ensures.value)) in
    record {
      order = visit.order;
      within = visit.within;
      counted = c.self.invariant.counted;
      counts = c.self.invariant.counts_are;
      before = visit.before;
      behind = visit.behind;
    }

pub invariant_of-self : goal.invariant_of-self
invariant_of-self c =
    kept_delivered c.self.invariant c.args.next.number c.change_between-self-inside.ensures.items c.change_between-self-inside.ensures.links c.change_between-self-inside.ensures.counts

pub returns-clause-deliveries : goal.returns-clause-deliveries
returns-clause-deliveries c =
    change_view (ap (λ (s : DeliveryState). record s { tags = s.tags + 1 }) c.self.view_is) (Delivered c.args.next.number (c.self.inside.tags + 1)) c.self.inside.links.items c.self.inside.items.items refl refl c.change_between-self-inside.ensures.items c.change_between-self-inside.ensures.links
    ∙ ap (λ n. with_list (filter is_open (map (changed (Delivered c.args.next.number (n + 1))) c.args.self.now.list)) (record c.args.self.now { tags = c.args.self.now.tags + 1 })) (ap (λ (s : DeliveryState). s.tags) c.self.view_is)
