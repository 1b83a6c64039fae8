use Rattle.std.proofs.Common.{◌≡◌, Some, None, get_or, slice_get, sym, ◌∙◌, leb, true, false, arith}
use Rattle.std.proofs.lemmas.Grind.{common_steps}
use Rattle.std.proofs.lemmas.Bool.Decides.{nat_tests}
use Rattle.gate_command.proofs.Numbers.{number_in-none, number_in-low, number_in-refused}
use Rattle.gate_command.proofs.Numbers.{number_in-parsed, first_byte}
use Rattle.gate_command.proofs.options.number_of.Goals as goal

pub returns-in_err-first-clause-number : goal.returns-in_err-first-clause-number
returns-in_err-first-clause-number c =
    let none : slice_get c.args.text.now 0 ≡ None = grind (arith, common_steps) in
    c.from_residual.ensures ∙ sym (number_in-none c.args.most c.args.text.now none)

pub returns-then-first-le48-clause-number : goal.returns-then-first-le48-clause-number
returns-then-first-le48-clause-number c =
    let some : slice_get c.args.text.now 0 ≡ Some c.in_ok-first.first.now = grind (arith, common_steps) in
    let first : get_or c.args.text.now 0 0 ≡ c.in_ok-first.first.now = first_byte _ _ some in
    sym (number_in-low c.args.most c.args.text.now (omega arith))

pub returns-in_err-number-clause-number : goal.returns-in_err-number-clause-number
returns-in_err-number-clause-number c =
    let some : slice_get c.args.text.now 0 ≡ Some c.in_ok-first.first.now = grind (arith, common_steps) in
    let first : get_or c.args.text.now 0 0 ≡ c.in_ok-first.first.now = first_byte _ _ some in
    c.from_residual-in_err-number.ensures ∙ sym (number_in-refused c.args.most c.args.text.now c.parse.result c.parse.ensures.value.0 (sym c.ok.ensures.value ∙ c.in_err-number.was) (omega arith) (omega arith))

pub returns-then-number-most-clause-number : goal.returns-then-number-most-clause-number
returns-then-number-most-clause-number c =
    let some : slice_get c.args.text.now 0 ≡ Some c.in_ok-first.first.now = grind (arith, common_steps) in
    let first : get_or c.args.text.now 0 0 ≡ c.in_ok-first.first.now = first_byte _ _ some in
    let low : leb c.in_ok-number.number c.args.most ≡ true = grind (arith, nat_tests) in
    sym (number_in-parsed c.args.most c.args.text.now c.parse.result c.in_ok-number.number c.parse.ensures.value.0 (sym c.ok.ensures.value ∙ c.in_ok-number.was) (omega arith) ∙ rw low)

pub returns-else-number-most-clause-number : goal.returns-else-number-most-clause-number
returns-else-number-most-clause-number c =
    let some : slice_get c.args.text.now 0 ≡ Some c.in_ok-first.first.now = grind (arith, common_steps) in
    let first : get_or c.args.text.now 0 0 ≡ c.in_ok-first.first.now = first_byte _ _ some in
    let high : leb c.in_ok-number.number c.args.most ≡ false = grind (arith, nat_tests) in
    sym (number_in-parsed c.args.most c.args.text.now c.parse.result c.in_ok-number.number c.parse.ensures.value.0 (sym c.ok.ensures.value ∙ c.in_ok-number.was) (omega arith) ∙ rw high)
