use Rattle.std.proofs.Common.{◌≡◌, take}
use Rattle.gate_model.proofs.setup.Routes.copy.Given as goal

abbrev pub invariant-loop-route : goal.invariant-loop-route
invariant-loop-route l = l.routes ≡ take l.route-index l.self
