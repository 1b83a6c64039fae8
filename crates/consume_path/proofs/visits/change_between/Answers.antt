use Rattle.std.proofs.Common.{◌≡◌, ◌∙◌, ◌≤◌, ◌<◌, ◌++◌, map, drop, length, sym, ap, subst}
use Rattle.std.proofs.Common.{arith, Vec, Global}
use Rattle.consume_path.specs.declared.delivery.Delivery.{Delivery}
use Rattle.consume_path.specs.declared.receiving.ReceivingLink.{ReceivingLink}
use Rattle.consume_path.specs.Links.{recount}
use Rattle.std.proofs.lemmas.List.{take-append-drop}
use Rattle.consume_path.specs.Items.{changed}
use Rattle.consume_path.specs.Kept.{counts_of, tally_of, tallied}
use Rattle.open_items.proofs.Filtered.{same_long, change_next, stays_next, ends_early}
use Rattle.consume_path.proofs.Visited.{tallied_is, counts_is}
use Rattle.consume_path.proofs.Kept.{recount_same}
use Rattle.consume_path.proofs.visits.change_between.Goals as goal
use Rattle.consume_path.proofs.visits.change_between.Goals.{else-not-stays, then-not-stays}

abbrev Items : Type 0
Items = Vec Delivery Global

abbrev Links : Type 0
Links = Vec ReceivingLink Global

pub loop-place-init : goal.loop-place-init
loop-place-init c =
    let items = c.args.items.now.items in
    record {
      items = sym (take-append-drop c.args.from items) ∙ ap (λ ds. ds ++ drop c.args.from items) (sym c.requires.before);
      links = sym (recount_same items c.args.links.now.items c.requires.counted);
      counts = c.requires.counts;
    }

pub loop-place-preserved : goal.loop-place-preserved
loop-place-preserved c =
    let items = c.args.items.now.items in
    let links = c.args.links.now.items in
    let now = c.loop-place.items.items in
    let place = c.loop-place.place in
    let at : place < length items = omega arith in
    let within : place ≤ length items = omega arith in
    let long : length now ≡ length items = same_long (changed c.args.change) items now place within c.loop-place.invariant.items in
    let lt : place < length now = omega arith in
    elim c.if-not-stays.branch [
      | then-not-stays w ↦
          let x = w.index_mut.result.now in
          let y = w.change_counted-counts.new.d in
          record {
            items = ap (λ (v : Items). v.items) w.items-is ∙ change_next (changed c.args.change) items now place x y at c.loop-place.invariant.items w.index_mut.ensures.value w.change_counted-counts.ensures.new;
            links = ap (λ (v : Links). v.items) w.links-is ∙ w.change_counted-counts.ensures.links ∙ ap (map (tallied (tally_of x) (tally_of y))) c.loop-place.invariant.links ∙ tallied_is now place x y lt (omega arith) w.index_mut.ensures.value links
                ∙ sym (ap (λ (v : Items). map (recount v.items) links) w.items-is);
            counts = w.counts-is ∙ w.change_counted-counts.ensures.counts ∙ counts_is now place x y lt (omega arith) w.index_mut.ensures.value c.loop-place.counts c.loop-place.invariant.counts ∙ sym (ap (λ (v : Items). counts_of v.items) w.items-is);
          }
      | else-not-stays w ↦ record {
        items = ap (λ (v : Items). v.items) w.items-is ∙ stays_next (changed c.args.change) items now place c.index.result.now at c.loop-place.invariant.items c.index.ensures (c.stays.ensures w.if-not-stays.false);
        links = ap (λ (v : Links). v.items) w.links-is ∙ c.loop-place.invariant.links ∙ sym (ap (λ (v : Items). map (recount v.items) links) w.items-is);
        counts = w.counts-is ∙ c.loop-place.invariant.counts ∙ sym (ap (λ (v : Items). counts_of v.items) w.items-is);
      }
    ]

pub returns-clause-items : goal.returns-clause-items
returns-clause-items c =
    let items = c.args.items.now.items in
    let place = c.loop-place.place in
    ends_early (changed c.args.change) items c.loop-place.items.items place c.loop-place.invariant.items
    (subst (λ i. map (changed c.args.change) (drop i items) ≡ drop i items) (omega arith) c.requires.behind)
