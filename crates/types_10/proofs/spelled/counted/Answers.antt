use Rattle.types_10.specs.Kinds.{size_width}
use Rattle.types_10.specs.Reading.{bytes_in, count_in}
use Rattle.types_10.proofs.Spellings.{not_told, counted_stands, counted_is}
use Rattle.types_10.proofs.spelled.counted.Goals as goal

pub unreachable-unreachable : goal.unreachable-unreachable
unreachable-unreachable c =
    not_told (bytes_in c.args.bounds.cut (size_width c.args.size) c.args.content.now) c.requires.0 c.in_default.field-0 c.requires.1 c.in_default.ensures

pub unreachable-unreachable-in-Err : goal.unreachable-unreachable-in-Err
unreachable-unreachable-in-Err c =
    let w = size_width c.args.size in
    let inside = c.bounds_inside-inside.result in
    let there = counted_stands w c.args.at c.args.bounds.cut c.args.bounds.end c.args.content.now c.in-Ok.body.now c.in-Ok.rest.now inside c.requires c.in-Ok.ensures c.bounds_inside-inside.ensures in
    not_told (count_in inside.cut w c.in-Ok.body.now) there.0 c.in-Err.field-0 there.1 c.in-Err.ensures

pub returns : goal.returns
returns c =
    counted_is (size_width c.args.size) c.args.at c.args.bounds.cut c.args.bounds.end c.args.content.now c.in-Ok.body.now c.in-Ok.rest.now c.bounds_inside-inside.result c.in-Ok-count_in.count c.in-Ok-count_in.items.now c.in-Ok.ensures c.bounds_inside-inside.ensures c.in-Ok-count_in.ensures
