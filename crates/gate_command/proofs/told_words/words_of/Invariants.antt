use Rattle.std.proofs.Common.{◌≡◌, ◌∷◌, ◌++◌, map, length}
use denote.Text.{Utf8}
use denote.Shadow.{shadow}
use Rattle.std.specs.Prelude.{codes}
use Rattle.std.specs.String.{string_bytes}
use Rattle.gate_command.proofs.Lines.{lines}
use Rattle.gate_command.proofs.told_words.words_of.Given as goal

abbrev pub invariant-loop-line : goal.invariant-loop-line
invariant-loop-line l = record {
  text : shadow (Utf8 l.rest);
  same : map string_bytes l.words.items ++ lines l.rest ≡ codes "serve" ∷ lines l.text;
}

abbrev pub decreases-loop-line : goal.decreases-loop-line
decreases-loop-line l = length l.rest
