use Rattle.std.proofs.Common.{◌≡◌, ◌-◌, length, take, arith, rules}
use Rattle.types_10.specs.Reading.{value_in}
use Rattle.types_10.specs.Spelled.{told}
use Rattle.types_10.proofs.Spellings.{kept_stands}
use Rattle.types_10.proofs.spelled.kept_of.Goals as goal

pub invariant_of-result : goal.invariant_of-result
invariant_of-result c =
    let bytes = c.args.text.now in
    let rest = c.past.result.1.now in
    let kept : c.in_ok-text.text ≡ take (length bytes - length rest) bytes = search rules in
    (kept_stands c.args.depth c.args.room c.args.bounds.cut c.args.bounds.end bytes (told (value_in c.args.depth c.args.room c.args.bounds.cut c.args.bounds.end bytes)) c.past.result.0 rest c.in_ok-text.text (λ i. omega (arith, c.type_inv.text i)) c.past.ensures kept).0

pub returns : goal.returns
returns c =
    let bytes = c.args.text.now in
    let rest = c.past.result.1.now in
    let kept : c.in_ok-text.text ≡ take (length bytes - length rest) bytes = search rules in
    (kept_stands c.args.depth c.args.room c.args.bounds.cut c.args.bounds.end bytes (told (value_in c.args.depth c.args.room c.args.bounds.cut c.args.bounds.end bytes)) c.past.result.0 rest c.in_ok-text.text (λ i. omega (arith, c.type_inv.text i)) c.past.ensures kept).1
