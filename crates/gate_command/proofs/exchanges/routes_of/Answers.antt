use Rattle.std.proofs.Common.{◌∙◌, ap, map, lit<}
use Rattle.std.proofs.lemmas.Iterator.Consumers.{YieldsList-at, YieldsList-end}
use Rattle.std.proofs.lemmas.Iterator.Splits.{YieldsList-from_str_split}
use Rattle.gate_command.specs.Reading.{route_of, routes_of}
use Rattle.gate_command.proofs.exchanges.routes_of.Goals as goal

pub returns : goal.returns
unfolding routes_of
returns c =
    let cut = c.split-part-items.ensures in
    let all = YieldsList-from_str_split 44 c.args.list.now (lit< tt) cut.text cut.has_more cut.pattern in
    let parts = YieldsList-at c.into_iter-part-iterator.ensures.into_iter_gives all in
    let loop = c.loop-part in
    let end = YieldsList-end parts loop.yielded _ loop.yielded_by _ _ c.in-None.is c.next.ensures.steps in
    loop.invariant ∙ ap (map route_of) end.0
