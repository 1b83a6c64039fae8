-- The words of this crate, from one place.
pub use Rattle.gate_turns.specs.Counting.{can_run_out, how_many_can, most_counted, CountsOnce}
pub use Rattle.gate_turns.specs.Counting.{CountWithin}
pub use Rattle.gate_turns.specs.Endings.{TurnIsOver, AtTurn, end_of, ReachesTurn, CloseEffect}
pub use Rattle.gate_turns.specs.Endings.{TurnEffect, RunEffect, is_told, is_recorded, with_fault}
pub use Rattle.gate_turns.specs.Endings.{TellsWhile, KeptWhile, sides_shut, LosesLines}
pub use Rattle.gate_turns.specs.Endings.{HoldsWhile, KeepsWhile, ClosingContext, ClosingState}
pub use Rattle.gate_turns.specs.Endings.{closing_state, with_pair, IsClosing, ClosingEffect}
pub use Rattle.gate_turns.specs.Endings.{ConcludeEffect}
pub use Rattle.gate_turns.specs.Openings.{HasEntry, HaveEntry, numbered_sides, ClockIsRead}
pub use Rattle.gate_turns.specs.Openings.{AtClockRead, ReachesClock, ClockEffect, Admitted}
pub use Rattle.gate_turns.specs.Openings.{KeptAlso, outcome, ReachesRound, WelcomeEffect}
pub use Rattle.gate_turns.specs.Openings.{OpenEffect}
pub use Rattle.gate_turns.specs.Parts.{EndsAre, KeepsOthers, KeepsEnds, KeepsPorts, CountsFaults}
pub use Rattle.gate_turns.specs.Parts.{IsReadRoom, begun, noted, got_moved, put_moved}
pub use Rattle.gate_turns.specs.Parts.{ReadsWithin, put_more, memory_lines, own_lines, outside_of}
pub use Rattle.gate_turns.specs.Parts.{TellsBy, KeptBy, both, is_inside, Unwritten, Written}
pub use Rattle.gate_turns.specs.Parts.{AreFresh, AreOthers, AtStage, PairsAhead, PartContext}
pub use Rattle.gate_turns.specs.Parts.{PartState, state, PartAgrees, InStage, HoldsBy, Halted}
pub use Rattle.gate_turns.specs.Parts.{Reaches, PartEffect, stage_wrote, OfferEffect, LookEffect}
pub use Rattle.gate_turns.specs.Parts.{WriteEffect, InShutting, ReachesShut, ShutEffect}
pub use Rattle.gate_turns.specs.Represents.{Represents, with_cut, sides_read, sides_wrote}
pub use Rattle.gate_turns.specs.Represents.{has_come, found_by}
pub use Rattle.gate_turns.specs.Rounds.{numbers, IsRising, is_among, HasEnds, OwnsEnds, Holds}
pub use Rattle.gate_turns.specs.Rounds.{RunContext, RunState, run_state, IsIn, RunAgrees, InRun}
pub use Rattle.gate_turns.specs.Rounds.{Comes, ComesAt, numbers_from, AtClock, AtAccept, AtPairs}
pub use Rattle.gate_turns.specs.Rounds.{AtRest, HoldsAt, KeepsAt, AtEnd, ReachesPairs}
pub use Rattle.gate_turns.specs.Rounds.{PairsEffect, ReachesRest, RoundEffect, place_after}
pub use Rattle.gate_turns.specs.Rounds.{with_turns}
