use Rattle.content_091.proofs.Written.{head_written}
use Rattle.content_091.proofs.writing.put_head.Goals as goal

pub returns-clause-ok : goal.returns-clause-ok
returns-clause-ok c =
    head_written c.args.class c.args.weight c.args.size c.args.flags c.args.out.now _ _ _ _ c.in_ok-put_u16.ensures.ok
    c.in_ok-put_u16-2.ensures.ok c.in_ok-put_u64.ensures.ok c.in_ok-put_u16-3.ensures.ok
