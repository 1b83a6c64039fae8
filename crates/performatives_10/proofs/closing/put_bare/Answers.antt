use Rattle.performatives_10.specs.Closing.{head_text}
use Rattle.performatives_10.proofs.closing.put_bare.Goals as goal

pub returns : goal.returns
returns c = c.write_at.ensures.bytes (head_text c.args.channel 12) c.args.out.now c.write_head-at.ensures.bytes
