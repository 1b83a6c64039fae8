use Rattle.property_map.proofs.Numbers.{no_text, not_parsed}
use Rattle.std.proofs.Common.{◌≡◌, sym}
use Rattle.property_map.proofs.rows.decimal_of.Goals as goal

pub returns-in_default : goal.returns-in_default
returns-in_default c = sym (no_text c.args.text.now c.in_default.ensures.cases.0)

pub returns-in-Err : goal.returns-in-Err
returns-in-Err c =
    let same : c.in-Ok.text.now ≡ c.args.text.now = c.in-Ok.ensures.cases.0 in
    let parsed = rw same at c.parse.ensures.value.0 in
    sym (not_parsed c.args.text.now c.parse.result c.in-Err.field-0 parsed c.in-Err.is)
