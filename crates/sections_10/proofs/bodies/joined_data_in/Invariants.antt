use Rattle.std.proofs.Common.{◌≡◌}
use Rattle.sections_10.specs.Rows.{data_section}
use Rattle.sections_10.specs.Reading.{data_behind, run_in, data_in}
use Rattle.sections_10.proofs.bodies.joined_data_in.Given as goal

-- what was read, and what is still read
abbrev pub invariant-loop-left : goal.invariant-loop-left
invariant-loop-left l = data_behind l.body (run_in data_section l.left l.bytes l.place) ≡ data_in l.bytes l.fn.at

abbrev pub decreases-loop-left : goal.decreases-loop-left
decreases-loop-left l = l.left
