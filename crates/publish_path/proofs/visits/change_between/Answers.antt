use Rattle.std.proofs.Common.{◌≡◌, ◌∙◌, ◌≤◌, ◌<◌, ◌++◌, map, drop, length, sym, ap, subst}
use Rattle.std.proofs.Common.{arith}
use Rattle.std.proofs.lemmas.List.{take-append-drop}
use Rattle.publish_path.specs.Publishes.{changed}
use Rattle.open_items.proofs.Filtered.{same_long, change_next, ends_early}
use Rattle.publish_path.proofs.Visited.{exchanged_is, can_exchange}
use Rattle.publish_path.proofs.visits.change_between.Goals as goal

pub loop-place-init : goal.loop-place-init
loop-place-init c =
    let items = c.args.items.now.items in
    record {
      items = sym (take-append-drop c.args.from items) ∙ ap (λ ps. ps ++ drop c.args.from items) (sym c.requires.before);
      counted = c.requires.counted;
    }

pub change_counted-counts-requires : goal.change_counted-counts-requires
change_counted-counts-requires c =
    let items = c.args.items.now.items in
    let now = c.loop-place.items.items in
    let place = c.loop-place.place in
    let within : place ≤ length items = omega arith in
    let long : length now ≡ length items = same_long (changed c.args.change) items now place within c.loop-place.invariant.items in
    let lt : place < length now = omega arith in
    can_exchange now c.loop-place.counts place c.index_mut.result.now lt c.index_mut.ensures.value c.loop-place.invariant.counted c.args.change (omega arith)

pub loop-place-preserved : goal.loop-place-preserved
loop-place-preserved c =
    let items = c.args.items.now.items in
    let now = c.loop-place.items.items in
    let place = c.loop-place.place in
    let x = c.index_mut.result.now in
    let y = c.change_counted-counts.new.p in
    let at : place < length items = omega arith in
    let within : place ≤ length items = omega arith in
    let long : length now ≡ length items = same_long (changed c.args.change) items now place within c.loop-place.invariant.items in
    let lt : place < length now = omega arith in
    record {
      items = change_next (changed c.args.change) items now place x y at c.loop-place.invariant.items c.index_mut.ensures.value c.change_counted-counts.ensures.new;
      counted = c.change_counted-counts.ensures.counts ∙ exchanged_is now c.loop-place.counts place x lt c.index_mut.ensures.value c.loop-place.invariant.counted y;
    }

pub returns-clause-items : goal.returns-clause-items
returns-clause-items c =
    let items = c.args.items.now.items in
    let place = c.loop-place.place in
    ends_early (changed c.args.change) items c.loop-place.items.items place c.loop-place.invariant.items
    (subst (λ i. map (changed c.args.change) (drop i items) ≡ drop i items) (omega arith) c.requires.behind)
