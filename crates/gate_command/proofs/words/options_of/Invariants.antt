use Rattle.std.proofs.Common.{◌≡◌, ◌+◌, ◌≤◌, drop}
use Rattle.std.specs.Prelude.{map}
use Rattle.std.specs.String.{string_bytes}
use Rattle.gate_command.specs.Command.{nothing_given}
use Rattle.gate_command.specs.Reading.{between, words_in}
use Rattle.gate_command.specs.View.{state_of}
use Rattle.gate_command.proofs.words.options_of.Given as goal

abbrev pub invariant-loop-word : goal.invariant-loop-word
invariant-loop-word l = record {
  same : words_in l.place l.room (state_of l.progress) (map string_bytes (drop l.word-index l.words)) ≡ words_in 2 65536 (between nothing_given) (map string_bytes l.words);
  bound : l.place + l.room ≤ 65538;
}
