use Rattle.std.proofs.Common.{◌≡◌, drop}
use Rattle.gate_model.specs.Lives.{any_life}
use Rattle.bridge_core.specs.ChannelRows.{is_waiting_on}
use Rattle.bridge_core.proofs.channel_rows.any_waits.Given as goal

abbrev pub invariant-loop-i : goal.invariant-loop-i
invariant-loop-i l =
    any_life (is_waiting_on l.closing l.settled l.container l.paths) l.i (drop l.i l.lives) ≡ any_life (is_waiting_on l.closing l.settled l.container l.paths) 0 l.lives
