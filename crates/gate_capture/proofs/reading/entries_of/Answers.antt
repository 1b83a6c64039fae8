use Rattle.std.proofs.Common.{◌≡◌, ◌<◌, ◌++◌, ◌∷◌, [], length, arith}
use Rattle.std.proofs.lemmas.Bool.Decides.{nat_tests}
use Rattle.std.proofs.lemmas.Result.{err_from_is_err_and}
use Rattle.wire_base.specs.Reading.{all_items}
use Rattle.wire_base.proofs.Items.{goes_on, ends, is_done}
use Rattle.gate_capture.specs.Reading.{cut, entry_in}
use Rattle.gate_capture.proofs.CaptureLaws.{entry_shrinks}
use Rattle.gate_capture.proofs.reading.entries_of.Goals as goal

pub returns-in_err-entry : goal.returns-in_err-entry
returns-in_err-entry c =
    let fault = cut c.args.size in
    let p = err_from_is_err_and c.from_residual.result c.from_residual.ensures.1 in
    let some : 0 < length c.loop-rest.rest.now = grind (arith, nat_tests, c.is_empty.ensures, c.loop-rest-test.true) in
    rw (p.1, p.2) (ends c.in_err-entry.field-0.0 fault entry_in c.args.size c.loop-rest.entries c.loop-rest.rest.now (all_items fault entry_in c.args.size c.args.bytes.now) some c.in_err-entry.ensures c.loop-rest.invariant.read)

pub loop-rest-smaller : goal.loop-rest-smaller
loop-rest-smaller c = ((entry_shrinks c.args.size).by c.loop-rest.rest.now _ c.loop-rest.invariant.bytes c.in_ok-entry.ensures).0

pub loop-rest-preserved : goal.loop-rest-preserved
loop-rest-preserved c =
    let fault = cut c.args.size in
    let s = entry_shrinks c.args.size in
    let list : c.push.new.self ≡ c.loop-rest.entries ++ c.in_ok-entry.entry ∷ [] = c.in_ok-push.ensures.ok in
    let later = s.by c.loop-rest.rest.now _ c.loop-rest.invariant.bytes c.in_ok-entry.ensures in
    record {
      bytes = later.1;
      read = rw list (goes_on fault entry_in c.args.size c.loop-rest.entries c.loop-rest.rest.now c.in_ok-entry.entry c.in_ok-entry.after.now (all_items fault entry_in c.args.size c.args.bytes.now) s c.loop-rest.invariant.bytes c.in_ok-entry.ensures c.loop-rest.invariant.read);
    }

pub returns : goal.returns
returns c =
    let fault = cut c.args.size in
    let none : length c.loop-rest.rest.now ≡ 0 = grind (arith, nat_tests, c.is_empty.ensures, c.loop-rest-test.false) in
    is_done fault entry_in c.args.size c.loop-rest.entries c.loop-rest.rest.now (all_items fault entry_in c.args.size c.args.bytes.now) none c.loop-rest.invariant.read
