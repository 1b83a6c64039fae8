use Rattle.std.proofs.Common.{arith, Ok, ap}
use Rattle.gate_command.proofs.Inputs.{reads_none, read_more, read_whole, rose_later}
use Rattle.gate_command.proofs.input.read_input.Goals as goal

pub loop-input-init : goal.loop-input-init
loop-input-init g c = record { room = c.in_ok-room.ensures; later = omega arith; read = rw c.empty-bytes.ensures (reads_none _) }

pub loop-input-preserved : goal.loop-input-preserved
loop-input-preserved g c = record {
  room = c.loop-input.invariant.room;
  later = omega (arith, c.loop-input.invariant.later, c.in_ok-draw.ensures.later);
  read = read_more _ _ _ _ _ _ _ c.in-Bytes.is c.loop-input.invariant.read c.in_ok-draw.ensures.drawn;
}

pub returns-in-Ended-clause-whole : goal.returns-in-Ended-clause-whole
returns-in-Ended-clause-whole g c =
    read_whole _ _ _ _ _ _ _ c.in-Ended.is c.loop-input.invariant.read c.in_ok-draw.ensures.drawn c.as_slice.ensures c.loop-input-test.true

pub returns-in-Failed-clause-cause : goal.returns-in-Failed-clause-cause
returns-in-Failed-clause-cause g c = λ _. rose_later _ _ _ c.loop-input.invariant.later (c.in_ok-draw.ensures.cause (ap Ok c.in-Failed.is))
