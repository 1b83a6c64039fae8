use Rattle.types_10.proofs.Spellings.{code_stands}
use Rattle.types_10.proofs.spelled.code_there.Goals as goal

pub unreachable-unreachable : goal.unreachable-unreachable
unreachable-unreachable c =
    code_stands c.args.depth c.args.room c.args.bounds.cut c.args.bounds.end c.args.text.now c.in-Err.field-0 c.requires c.in-Err.ensures
