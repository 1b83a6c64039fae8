-- That the flows of sessions that are asked for can be counted.
use Rattle.std.specs.Prelude.{◌<◌, ◌^◌, ◌-◌, List}
use Rattle.std.specs.List.{All}
use Rattle.gate_model.specs.declared.life.Life.{Life}

-- one more can be
abbrev pub HasRoom : Life → Type 0
HasRoom l = l.session.echoes < 2 ^ 32 - 1

-- on each channel
abbrev pub FlowsFit : List Life → Type 0
FlowsFit ls = All HasRoom ls
