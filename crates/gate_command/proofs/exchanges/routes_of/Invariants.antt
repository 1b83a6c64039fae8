use Rattle.std.proofs.Common.{◌≡◌, map}
use Rattle.gate_command.specs.Reading.{route_of}
use Rattle.gate_command.proofs.exchanges.routes_of.Given as goal

abbrev pub invariant-loop-part : goal.invariant-loop-part
invariant-loop-part l = l.routes ≡ map route_of (map (λ part. part.now) l.yielded)
