use Rattle.std.proofs.Common.{◌∙◌, ap, arith, map, refl}
use Rattle.consume_path.specs.Kept.{tallied, counts_after, no_tally}
use Rattle.consume_path.proofs.Kept.{kept_push, push_view}
use Rattle.consume_path.proofs.deliveries.Deliveries.add.Goals as goal

pub invariant_of-self-2 : goal.invariant_of-self-2
invariant_of-self-2 c =
    let before = c.self-2.inside in
    kept_push c.self-2.invariant (omega arith) before.closed c.args.arriving c.args.content c.args.again c.new_one-delivery.result c.new_one-delivery.ensures
    c.in_ok-push.ensures.items
    (c.tally_links.ensures ∙ ap (λ t. map (tallied t c.of-tally.result) before.links.items) c.none.ensures ∙ ap (λ t. map (tallied no_tally t) before.links.items) c.of-tally.ensures)
    (c.exchange-self-inside.ensures ∙ ap (λ t. counts_after t c.of-tally.result before.counts) c.none-2.ensures ∙ ap (λ t. counts_after no_tally t before.counts) c.of-tally.ensures)
    c.greater-top.ensures.first c.greater-top.ensures.second c.lesser-low.ensures.first c.lesser-low.ensures.second

pub returns-clause-ok : goal.returns-clause-ok
returns-clause-ok c =
    let before = c.self-2.inside in
    push_view c.self-2.invariant (omega arith) (c.self-2.view_is ∙ c.make_room.ensures) refl refl c.args.arriving c.args.content c.args.again c.new_one-delivery.result c.new_one-delivery.ensures
    c.in_ok-push.ensures.items
    (c.tally_links.ensures ∙ ap (λ t. map (tallied t c.of-tally.result) before.links.items) c.none.ensures ∙ ap (λ t. map (tallied no_tally t) before.links.items) c.of-tally.ensures)
