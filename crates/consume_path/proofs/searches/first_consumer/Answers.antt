use Rattle.std.proofs.Common.{◌∙◌, ◌+◌, ◌<◌, ap, arith, drop, length, sym}
use Rattle.consume_path.specs.Offers.{sooner, soonest, rank_of, consumer_offer}
use Rattle.consume_path.proofs.Least.{sooner_more}
use Rattle.consume_path.proofs.Limits.{least_first}
use Rattle.consume_path.proofs.searches.first_consumer.Goals as goal

pub returns-then-is_least : goal.returns-then-is_least
returns-then-is_least c =
    let offer = consumer_offer c.args.free c.args.items.now in
    let rest = c.args.rest.now in
    let i = c.loop-d.d-index in
    let d = c.d-item.result in
    let best = c.sooner_consumer-best.result in
    let lt : i < length rest = omega arith in
    sym (least_first c.args.low c.args.free c.args.items.now best (i + 1) rest (sym c.is_least.ensures ∙ c.if-is_least.true) c.requires.low)
    ∙ ap (λ r. sooner rank_of r (soonest rank_of offer (drop (i + 1) rest))) c.sooner_consumer-best.ensures
    ∙ sooner_more rank_of offer rest i d c.loop-d.best (offer d) lt (ap offer c.d-item.is) ∙ c.loop-d.invariant
