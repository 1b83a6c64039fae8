use Rattle.std.proofs.Common.{refl, arith}
use Rattle.gate_turns.proofs.RoundMarks.{pairs_none}
use Rattle.gate_turns.proofs.round.turn_all.Goals as goal

pub loop-at-init : goal.loop-at-init
loop-at-init g c = record {
  holds = c.requires.holds;
  ports = record { pairs = refl; last = refl; later = omega arith };
  out = omega arith;
  tape = omega arith;
  count = λ within. within;
  log = pairs_none (g.R.Relay.words c.args.setup.now) (g.R.Relay.represents c.args.setup.now) 0 _ _;
}
