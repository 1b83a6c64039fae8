-- The words of this crate, from one place.
pub use Rattle.gate_turn_laws.specs.Asks.{AskedOfLive, AsksLive}
pub use Rattle.gate_turn_laws.specs.Begun.{IsOfPair}
pub use Rattle.gate_turn_laws.specs.Ends.{newest, is_stopped, EndsAs, Runs, ComesAfter, EndsOnce}
pub use Rattle.gate_turn_laws.specs.Ends.{Did, TurnsDid}
pub use Rattle.gate_turn_laws.specs.Laws.{KeepsTurns}
pub use Rattle.gate_turn_laws.specs.Lines.{takes_back, told_lines, AddsLines, ShutLines}
pub use Rattle.gate_turn_laws.specs.Lines.{TellsInOrder}
pub use Rattle.gate_turn_laws.specs.Log.{mark_between, with_marks, run_of, next_call, FollowsLog}
pub use Rattle.gate_turn_laws.specs.Log.{is_plain_end, IsPlain, Rests, IsWholeRun}
pub use Rattle.gate_turn_laws.specs.Memory.{has_run_out, run_outs_of, run_out_below, CountsRunOuts}
pub use Rattle.gate_turn_laws.specs.Moments.{last_moment, NeverFalls}
pub use Rattle.gate_turn_laws.specs.Pairs.{is_among, is_live, IsRising, AreOrdered, LivesOrShut}
pub use Rattle.gate_turn_laws.specs.Quiet.{IsSteady, WakesNone, InTurn, Wakes, IsQuiet, IsSilent}
pub use Rattle.gate_turn_laws.specs.Quiet.{IsAtRest, IdlesAtRest, IdlesInSilence}
pub use Rattle.gate_turn_laws.specs.Turns.{rank, reached_stage, IsThrough, AllThrough, IsInTurn}
pub use Rattle.gate_turn_laws.specs.Turns.{HasPlace, KeepsOrder, marks_in_turn, ComesOnce}
pub use Rattle.gate_turn_laws.specs.Turns.{WritesFew}
pub use Rattle.gate_turn_laws.specs.Visits.{AtPoint, WasRead, WasTakenUp, WasLinked, WasWritten}
pub use Rattle.gate_turn_laws.specs.Visits.{WasShut, IsVisited, AllVisited, VisitsAll}
pub use Rattle.gate_turn_laws.specs.Within.{IsWithin}
