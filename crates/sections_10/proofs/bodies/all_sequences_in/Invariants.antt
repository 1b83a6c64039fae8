use Rattle.std.proofs.Common.{◌≡◌}
use Rattle.sections_10.specs.Rows.{sequence_section}
use Rattle.sections_10.specs.Reading.{sequences_behind, run_in, sequences_in}
use Rattle.sections_10.proofs.bodies.all_sequences_in.Given as goal

-- what was read, and what is still read
abbrev pub invariant-loop-left : goal.invariant-loop-left
invariant-loop-left l = sequences_behind l.found (run_in sequence_section l.left l.bytes l.place) ≡ sequences_in l.bytes l.fn.at

abbrev pub decreases-loop-left : goal.decreases-loop-left
decreases-loop-left l = l.left
