-- How a source and a sink in memory answer.
use Rattle.std.specs.Prelude.{ℕ, ◌-◌, ◌==◌, Bool, true, if◌then◌else◌, List, [], ◌∷◌, ◌++◌, length}
use Rattle.std.specs.Prelude.{drop, min}
use Rattle.gate_outside.specs.declared.calls.Calls.{Calls}
use Rattle.gate_outside.specs.declared.streams.Drawn.{Drawn}
use Rattle.gate_outside.specs.declared.streams.Drawn.TheVariants as drawn
use Rattle.gate_outside.specs.declared.streams.Sunk.{Sunk}
use Rattle.gate_outside.specs.declared.streams.Sunk.TheVariants as sunk
use Rattle.gate_outside.specs.CallCounts.{is_to_fail, tried, failed, counted}
use Rattle.gate_outside.specs.Streams.{sunk_bytes}

-- what is left of the input of a source, and its calls
pub record SourceState : Type 0 where
  pub left : List ℕ
  pub calls : Calls

-- as much of what is left as a buffer has room for
abbrev pub drawn_from : List ℕ → ℕ → Drawn
drawn_from [] room = drawn.Ended
drawn_from (x ∷ xs) room = drawn.Bytes (min room (length (x ∷ xs)))

-- a source fails where the number of the call says so
abbrev pub draw_answer : ℕ → SourceState → Drawn
draw_answer room source =
    if is_to_fail source.calls then drawn.Failed else drawn_from source.left room

-- the bytes that did not come are left
abbrev pub left_after : Drawn → List ℕ → List ℕ
left_after (drawn.Bytes n) left = drop n left
left_after drawn.Ended left = left
left_after drawn.Failed left = left

-- a source after an answer
abbrev pub after_draw : Drawn → SourceState → SourceState
after_draw answer source =
    record { left = left_after answer source.left; calls = tried source.calls }

-- what a sink holds, how many bytes more it takes, and its calls
pub record SinkState : Type 0 where
  pub held : List ℕ
  pub room : ℕ
  pub calls : Calls

-- a call fails where its number says so, and where the sink is full
abbrev pub sink_fails : SinkState → Bool
sink_fails sink = if sink.room == 0 then true else is_to_fail sink.calls

-- as much of what is offered as finds room
abbrev pub sink_answer : ℕ → SinkState → Sunk
sink_answer offered sink =
    if sink_fails sink then sunk.Failed else sunk.Took (min offered sink.room)

-- a sink after an answer
abbrev pub after_sink : Sunk → List ℕ → SinkState → SinkState
after_sink answer bytes sink = record {
  held = sink.held ++ sunk_bytes answer bytes;
  room = sink.room - length (sunk_bytes answer bytes);
  calls = if sink_fails sink then failed sink.calls else counted sink.calls;
}
