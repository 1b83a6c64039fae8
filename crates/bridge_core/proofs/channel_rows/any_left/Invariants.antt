use Rattle.std.proofs.Common.{◌≡◌, drop}
use Rattle.gate_model.specs.Lives.{any_life}
use Rattle.bridge_core.specs.ChannelRows.{is_left_on}
use Rattle.bridge_core.proofs.channel_rows.any_left.Given as goal

abbrev pub invariant-loop-i : goal.invariant-loop-i
invariant-loop-i l = any_life (is_left_on l.container) l.i (drop l.i l.lives) ≡ any_life (is_left_on l.container) 0 l.lives
