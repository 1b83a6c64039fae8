use Rattle.std.proofs.Common.{◌≡◌, ◌++◌, ◌-◌, length}
use Rattle.gate_model.specs.Returns.{body_parts}
use Rattle.bridge_core.proofs.contents.push_body.Given as goal

-- the frames so far, and those of the rest, are those of the body
abbrev pub invariant-loop-rest : goal.invariant-loop-rest
invariant-loop-rest l = record {
  room : l.room ≡ l.limit - 8;
  whole : l.frames ++ body_parts l.limit l.channel l.rest ≡ l.fn.frames ++ body_parts l.limit l.channel l.body;
}

abbrev pub decreases-loop-rest : goal.decreases-loop-rest
decreases-loop-rest l = length l.rest
