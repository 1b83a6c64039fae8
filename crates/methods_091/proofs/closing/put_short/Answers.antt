use Rattle.std.proofs.Common.{◌++◌, length}
use Rattle.frames_091.specs.Frames.{frame_text}
use Rattle.methods_091.specs.Closing.{head_text}
use Rattle.methods_091.proofs.closing.put_short.Goals as goal

pub returns : goal.returns
unfolding frame_text
returns c =
    let old = c.args.out.now in
    let payload = c.args.payload.now in
    let head = head_text c.args.channel (length payload) in
    c.write_at.ensures.bytes (head ++ payload) old (c.write_at-at.ensures.bytes head old c.write_head-at.ensures)
