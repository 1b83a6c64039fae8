use Rattle.std.proofs.Common.{◌<◌, ◌^◌, arith}
use Rattle.property_map.specs.Facts.{facts_of}
use Rattle.property_map.proofs.Writables.{image_sent}
use Rattle.property_map.proofs.received.received_of.Goals as goal

pub returns-in-Ok-clause-sent : goal.returns-in-Ok-clause-sent
returns-in-Ok-clause-sent c =
    let small : c.args.room < 2 ^ 32 = omega (arith, c.ranges.room.fits) in
    λ shallow. image_sent c.args.queue.now c.args.room (facts_of c.args.m) c.in-Ok.message small c.tell_numbers.ensures shallow c.in-Ok.ensures
