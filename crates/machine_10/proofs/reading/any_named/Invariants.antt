use Rattle.std.proofs.Common.{◌≡◌, ◌-◌, length, drop}
use Rattle.types_10.specs.Tree.{trees_of}
use Rattle.machine_10.specs.Reading.{any_named}
use Rattle.machine_10.proofs.reading.any_named.Given as goal

-- the rest decides
abbrev pub invariant-loop-place : goal.invariant-loop-place
invariant-loop-place l = any_named l.name (trees_of (drop l.place l.list)) ≡ any_named l.name (trees_of l.list)

abbrev pub decreases-loop-place : goal.decreases-loop-place
decreases-loop-place l = length l.list - l.place
