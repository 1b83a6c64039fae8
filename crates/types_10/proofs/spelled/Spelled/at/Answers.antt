use Rattle.std.proofs.Common.{sym}
use Rattle.types_10.specs.Reading.{value_at}
use Rattle.types_10.proofs.Pasts.{end_fault}
use Rattle.types_10.proofs.Spellings.{at_stands}
use Rattle.types_10.proofs.spelled.Spelled.at.Goals as goal

pub invariant_of-value : goal.invariant_of-value
invariant_of-value c = rw (c.bounds_of.ensures, c.left_at.ensures) (at_stands c.args.bytes.now c.args.at c.in-Ok.after (sym c.in-Ok.ensures.exact)).0

pub returns-in-Ok : goal.returns-in-Ok
returns-in-Ok c = rw (c.bounds_of.ensures, c.left_at.ensures) (at_stands c.args.bytes.now c.args.at c.in-Ok.after (sym c.in-Ok.ensures.exact)).1

pub returns-in-Err : goal.returns-in-Err
returns-in-Err c = sym (end_fault (value_at c.args.bytes.now c.args.at) c.in-Err.fault (sym c.in-Err.ensures.exact))
