use Rattle.types_10.specs.Reading.{value_in}
use Rattle.types_10.specs.Skipping.{extent}
use Rattle.types_10.proofs.Spellings.{made_stands, stands_past}
use Rattle.types_10.proofs.spelled.past.Goals as goal

pub unreachable-unreachable : goal.unreachable-unreachable
unreachable-unreachable c =
    made_stands extent (value_in c.args.depth c.args.room c.args.bounds.cut c.args.bounds.end c.args.text.now) c.in-Err.field-0 c.requires c.in-Err.ensures

pub returns : goal.returns
returns c = stands_past (value_in c.args.depth c.args.room c.args.bounds.cut c.args.bounds.end c.args.text.now) _ _ _ c.in-Ok.ensures
