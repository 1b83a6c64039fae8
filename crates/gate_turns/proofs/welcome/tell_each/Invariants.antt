use Rattle.gate_relay.specs.Entries.{Moment}
use Rattle.std.proofs.Common.{◌≡◌}
use Rattle.gate_turns.specs.Counting.{how_many_can}
use Rattle.gate_turns.proofs.EachPair.{HaveSoFar, none_represents}
use Rattle.gate_turns.proofs.welcome.tell_each.Given as goal

abbrev pub invariant-loop-pair : goal.invariant-loop-pair
invariant-loop-pair g l = record {
  count : how_many_can g.R.Relay.out_of_memory l.live ≡ how_many_can g.R.Relay.out_of_memory l.fn.live;
  ends : HaveSoFar none_represents (Moment l.moment) l.pair-index l.fn.live l.live;
  each : (s : g.row.R-Setup.Denot) → HaveSoFar (g.R.Relay.represents s) (Moment l.moment) l.pair-index l.fn.live l.live;
}
