use Rattle.std.proofs.Common.{arith}
use Rattle.std.proofs.lemmas.Bool.Decides.{nat_tests}
use Rattle.std.proofs.lemmas.Grind.{common_steps}
use Rattle.machine_10.proofs.Offers.{named_go_on, named_found}
use Rattle.machine_10.proofs.reading.any_named.Goals as goal

pub returns-then-is_named_at : goal.returns-then-is_named_at
returns-then-is_named_at c = named_found c.args.name.now c.args.list.now c.loop-place.place (grind (arith, nat_tests, common_steps)) (grind (arith, common_steps)) c.loop-place.invariant

pub loop-place-preserved : goal.loop-place-preserved
loop-place-preserved c = named_go_on c.args.name.now c.args.list.now c.loop-place.place (grind (arith, nat_tests, common_steps)) (grind (arith, common_steps)) c.loop-place.invariant
