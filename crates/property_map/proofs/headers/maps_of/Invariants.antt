use Rattle.std.proofs.Common.{◌≡◌, ◌-◌, [], length}
use Rattle.property_map.specs.Headers.{headers_in}
use Rattle.property_map.specs.Names.{Holds}
use Rattle.property_map.proofs.Loops.{maps_behind, headers_from, names_before}
use Rattle.property_map.proofs.headers.maps_of.Given as goal

-- what was made, and what is still made
abbrev pub invariant-loop-k : goal.invariant-loop-k
invariant-loop-k l = record { made : maps_behind l.application l.annotation (headers_from l.table l.k) ≡ headers_in [] l.table; names : Holds l.names (names_before l.table l.k) }

abbrev pub decreases-loop-k : goal.decreases-loop-k
decreases-loop-k l = length l.table - l.k
