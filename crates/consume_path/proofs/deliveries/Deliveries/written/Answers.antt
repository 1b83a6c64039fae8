use Rattle.open_items.specs.Places.{place_from}
use Rattle.consume_path.specs.Items.{needs_content}
use Rattle.std.proofs.Common.{◌≡◌, ◌∙◌, ap, arith, length, subst, sym, refl}
use Rattle.std.specs.List.{slice_get}
use Rattle.std.specs.Prelude.{◌&&◌, ◌==◌}
use Rattle.consume_path.specs.Kept.{is_writing, is_there}
use Rattle.consume_path.specs.declared.changes.Change.TheVariants.{Written}
use Rattle.consume_path.specs.declared.places.Visit.{Visit}
use Rattle.consume_path.specs.Items.{changed}
use Rattle.open_items.proofs.Places.{IsBetween}
use Rattle.consume_path.proofs.Kept.{kept_change, kept_front, change_view, written_between}
use Rattle.consume_path.proofs.deliveries.Deliveries.written.Goals as goal

pub change_between-self-inside-requires : goal.change_between-self-inside-requires
change_between-self-inside-requires c =
    let end : c.len.result ≡ length c.self.inside.items.items = omega arith in
    let visit = subst (λ (v : Visit). IsBetween (changed (Written c.args.tag)) v.from v.to c.self.inside.items.items) (sym c.visit_at-visit.ensures)
    (written_between c.self.invariant c.args.tag c.is_one_written-here.result c.self.inside.begun c.len.result end
    (c.is_one_written-here.ensures ∙ ap (λ ds. (c.self.inside.counts.writing == 1) && is_there is_writing (slice_get ds c.self.inside.begun)) c.as_slice.ensures.value)) in
    record {
      order = visit.order;
      within = visit.within;
      counted = c.self.invariant.counted;
      counts = c.self.invariant.counts_are;
      before = visit.before;
      behind = visit.behind;
    }

pub invariant_of-self : goal.invariant_of-self
invariant_of-self c =
    kept_front (kept_change c.self.invariant (Written c.args.tag) refl c.change_between-self-inside.ensures.items c.change_between-self-inside.ensures.links c.change_between-self-inside.ensures.counts) (c.needing_from-self-inside.ensures ∙ ap (place_from needs_content c.self.inside.front) c.as_slice-2.ensures.value)

pub returns : goal.returns
returns c =
    change_view c.self.view_is (Written c.args.tag) c.self.inside.links.items c.self.inside.items.items refl refl c.change_between-self-inside.ensures.items c.change_between-self-inside.ensures.links
