use Rattle.content_091.proofs.Written.{written_is_spelled}
use Rattle.content_091.proofs.writing.put_header.Goals as goal

pub returns-then-is_err-clause-spelled : goal.returns-then-is_err-clause-spelled
returns-then-is_err-clause-spelled c = written_is_spelled c.args.header.now c.requires c.tell_ranges.ensures

pub returns-else-is_err-clause-spelled : goal.returns-else-is_err-clause-spelled
returns-else-is_err-clause-spelled c = written_is_spelled c.args.header.now c.requires c.tell_ranges.ensures
