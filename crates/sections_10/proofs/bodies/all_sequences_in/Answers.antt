use Rattle.std.proofs.Common.{◌≡◌, ◌<◌, Bool, true, false, Ok, ap, ◌∙◌, arith}
use Rattle.std.proofs.lemmas.Bool.Decides.{nat_tests}
use Rattle.std.proofs.lemmas.Grind.{common_steps}
use Rattle.std.proofs.lemmas.Result.{err_from_is_err_and}
use Rattle.sections_10.specs.Reading.{stands_in, sequences_in}
use Rattle.sections_10.specs.Rows.{sequence_section}
use Rattle.sections_10.proofs.Runs.{sequences_next, sequences_stop, sequences_over}
use Rattle.sections_10.proofs.Runs.{sequences_fail_seen}
use Rattle.sections_10.proofs.bodies.all_sequences_in.Goals as goal

pub returns-in_err-stands : goal.returns-in_err-stands
returns-in_err-stands c =
    let p = err_from_is_err_and c.from_residual.result c.from_residual.ensures.1 in
    let some : 0 < c.loop-left.left = grind (arith, nat_tests, c.loop-left-test.true) in
    rw (p.1, p.2) (sequences_fail_seen c.in_err-stands.field-0.0 sequence_section c.loop-left.found c.loop-left.left c.args.bytes.now c.loop-left.place (sequences_in c.args.bytes.now c.args.at) some c.in_err-stands.ensures c.loop-left.invariant)

pub loop-left-preserved : goal.loop-left-preserved
loop-left-preserved c =
    let some : 0 < c.loop-left.left = grind (arith, nat_tests, c.loop-left-test.true) in
    let stands : c.in_ok-stands.stands ≡ true = grind (arith, common_steps, c.if-not-stands.false) in
    let is : stands_in sequence_section c.args.bytes.now c.loop-left.place ≡ Ok (true, c.in_ok-stands.after) = c.in_ok-stands.ensures ∙ ap (λ (b : Bool). Ok (b, c.in_ok-stands.after)) stands in
    sequences_next sequence_section c.loop-left.found c.loop-left.left c.args.bytes.now c.loop-left.place c.in_ok-stands.after (sequences_in c.args.bytes.now c.args.at) some is c.loop-left.invariant

pub returns-after-loop-left : goal.returns-after-loop-left
returns-after-loop-left c =
    sequences_over sequence_section c.loop-left.found c.loop-left.left c.args.bytes.now c.loop-left.place (sequences_in c.args.bytes.now c.args.at) (grind (arith, nat_tests, c.loop-left-test.false)) c.loop-left.invariant

pub returns-then-not-stands : goal.returns-then-not-stands
returns-then-not-stands c =
    let some : 0 < c.loop-left.left = grind (arith, nat_tests, c.loop-left-test.true) in
    let stands : c.in_ok-stands.stands ≡ false = grind (arith, common_steps, c.if-not-stands.true) in
    let is : stands_in sequence_section c.args.bytes.now c.loop-left.place ≡ Ok (false, c.in_ok-stands.after) = c.in_ok-stands.ensures ∙ ap (λ (b : Bool). Ok (b, c.in_ok-stands.after)) stands in
    sequences_stop sequence_section c.loop-left.found c.loop-left.left c.args.bytes.now c.loop-left.place c.in_ok-stands.after (sequences_in c.args.bytes.now c.args.at) some is c.loop-left.invariant
