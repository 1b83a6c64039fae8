use Rattle.gate_turns.proofs.EachPair.{none_represents}
use Rattle.gate_relay.specs.Entries.{Over}
use Rattle.gate_turns.proofs.EachPair.{HaveSoFar}
use Rattle.gate_turns.proofs.closing.finish_each.Given as goal

abbrev pub invariant-loop-pair : goal.invariant-loop-pair
invariant-loop-pair g l = record {
  ends : HaveSoFar none_represents Over l.pair-index l.fn.live l.live;
  each : (s : g.row.R-Setup.Denot) → HaveSoFar (g.R.Relay.represents s) Over l.pair-index l.fn.live l.live;
}
