use Rattle.std.proofs.Common.{◌≡◌, length}
use denote.Text.{Utf8}
use denote.Shadow.{shadow}
use Rattle.gate_command.specs.Reading.{are_routes, routes_of}
use Rattle.gate_command.proofs.exchanges.exchanges_of.Given as goal

abbrev pub invariant-loop-part : goal.invariant-loop-part
invariant-loop-part l = record {
  text : shadow (Utf8 l.rest);
  same : are_routes (routes_of l.rest) ≡ are_routes (routes_of l.list);
}

abbrev pub decreases-loop-part : goal.decreases-loop-part
decreases-loop-part l = length l.rest
