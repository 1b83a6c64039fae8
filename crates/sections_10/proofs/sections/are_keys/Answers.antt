use Rattle.std.proofs.Common.{arith}
use Rattle.std.proofs.lemmas.Bool.Decides.{nat_tests}
use Rattle.std.proofs.lemmas.Grind.{common_steps}
use Rattle.sections_10.proofs.Places.{keys_go_on, keys_end}
use Rattle.sections_10.proofs.sections.are_keys.Goals as goal

pub returns-then-not-is_key_at : goal.returns-then-not-is_key_at
returns-then-not-is_key_at c = keys_end c.args.keys c.args.pairs.now c.loop-place.place (grind (arith, nat_tests, common_steps)) (grind (arith, common_steps)) c.loop-place.invariant

pub loop-place-preserved : goal.loop-place-preserved
loop-place-preserved c = keys_go_on c.args.keys c.args.pairs.now c.loop-place.place (grind (arith, nat_tests, common_steps)) (grind (arith, common_steps)) c.loop-place.invariant
