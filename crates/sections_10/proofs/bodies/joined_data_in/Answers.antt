use Rattle.std.proofs.Common.{◌<◌, arith}
use Rattle.std.proofs.lemmas.Bool.Decides.{nat_tests}
use Rattle.std.proofs.lemmas.Result.{err_from_is_err_and}
use Rattle.sections_10.specs.Reading.{data_in}
use Rattle.sections_10.specs.Rows.{data_section}
use Rattle.sections_10.proofs.Runs.{data_next, data_fails, data_over, data_stops}
use Rattle.sections_10.proofs.bodies.joined_data_in.Goals.{else-loop-left-test}
use Rattle.sections_10.proofs.bodies.joined_data_in.Goals.{then-loop-left-test+in_ok-data+in-None}
use Rattle.sections_10.proofs.bodies.joined_data_in.Goals as goal

pub returns-in_err-data : goal.returns-in_err-data
returns-in_err-data c =
    let p = err_from_is_err_and c.from_residual.result c.from_residual.ensures.1 in
    let some : 0 < c.loop-left.left = grind (arith, nat_tests, c.loop-left-test.true) in
    rw (p.1, p.2) (data_fails c.in_err-data.field-0.0 data_section c.loop-left.body c.loop-left.left c.args.bytes.now c.loop-left.place (data_in c.args.bytes.now c.args.at) some c.in_err-data.ensures c.loop-left.invariant)

pub loop-left-preserved : goal.loop-left-preserved
loop-left-preserved c =
    let some : 0 < c.loop-left.left = grind (arith, nat_tests, c.loop-left-test.true) in
    data_next data_section c.loop-left.body c.in_ok-data.data c.in-Some.data c.in_ok-joined-in-Some.field-0 c.loop-left.left c.args.bytes.now c.loop-left.place c.in_ok-data.after (data_in c.args.bytes.now c.args.at) some c.in-Some.is c.in_ok-joined-in-Some.ensures c.in_ok-data.ensures c.loop-left.invariant

pub returns : goal.returns
returns c = elim c.loop-left-test.branch [
  | else-loop-left-test w ↦
      data_over data_section c.loop-left.body c.loop-left.left c.args.bytes.now c.loop-left.place (data_in c.args.bytes.now c.args.at) (grind (arith, nat_tests, w.loop-left-test.false)) c.loop-left.invariant
  | then-loop-left-test+in_ok-data+in-None w ↦
      data_stops data_section c.loop-left.body w.in_ok-data.data c.loop-left.left c.args.bytes.now c.loop-left.place w.in_ok-data.after (data_in c.args.bytes.now c.args.at) (grind (arith, nat_tests, w.loop-left-test.true)) w.in-None.is w.in_ok-data.ensures c.loop-left.invariant
]
