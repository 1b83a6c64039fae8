-- The session that carries a channel: its windows and ids, and how often its state is asked for
-- (AMQP 1.0 2.5.6, 2.7.4).
use Rattle.std.specs.Prelude.{◌+◌, ◌-◌, ◌==◌, nat_le, nat_lt, Bool, true, false, ◌&&◌, ◌||◌}
use Rattle.std.specs.Prelude.{if◌then◌else◌, List}
use Rattle.machine_10.specs.Parts.{Parts}
use Rattle.machine_10.specs.Reading.{field, number_at, number_in}
use Rattle.machine_10.specs.Session.{after_began, after_flow_sent, after_flowed, after_got}
use Rattle.machine_10.specs.Session.{new_session}
use Rattle.machine_10.specs.declared.session.TheConstants.{REFILL_AT}
use Rattle.types_10.specs.Fields.{is_absent}
use Rattle.types_10.specs.Tree.{Tree, boolean, scalar}
use Rattle.gate_model.specs.declared.life.SessionState.{SessionState}

-- the container's begin didn't come
abbrev pub no_session : SessionState
no_session = record { windows = new_session; echoes = 0; refills = false }

-- it came with these fields: the id of its next transfer frame, its window, its greatest handle
-- (2.7.2)
abbrev pub begun_with : List Tree → SessionState
begun_with ts = record no_session {
  windows = after_began (number_at ts 1) (number_at ts 2) (number_at ts 4) new_session;
}

-- little is left of the window that the gateway stated
abbrev pub is_low : SessionState → Bool
is_low s = nat_le s.windows.stated REFILL_AT

-- its state is asked for, or not
abbrev pub asked_if : Bool → SessionState → SessionState
asked_if false s = s
asked_if true s = record s {
  echoes = s.echoes + 1;
  refills = if s.echoes == 0 then is_low s else s.refills;
}

abbrev pub is_true : Tree → Bool
is_true (scalar (boolean b)) = b
is_true t = false

-- a flow names no link
abbrev pub is_of_session : List Tree → Bool
is_of_session ts = is_absent (field ts 4)

-- a flow of the container: the window that it states, and that it asks for the state of the session
-- (2.7.4)
abbrev pub flow_came : List Tree → SessionState → SessionState
flow_came ts s =
    asked_if (is_of_session ts && is_true (field ts 9))
    (record s { windows = after_flowed (number_in (field ts 0)) (number_at ts 1) s.windows })

-- a transfer frame of the container came
abbrev pub transfer_came : SessionState → SessionState
transfer_came s = record s { windows = after_got s.windows }

-- what a performative of the container makes of it, by the code of its descriptor (2.7)
abbrev pub carried_by : Parts → SessionState → SessionState
carried_by p s =
    if p.0 == 17 then begun_with p.1
    else if p.0 == 19 then flow_came p.1 s
    else if p.0 == 20 then transfer_came s
    else s

-- the window that the gateway stated has room for a transfer frame (2.5.6)
abbrev pub has_room : SessionState → Bool
has_room s = nat_le 1 s.windows.stated

-- a flow of the gateway is owed: the container asked, or little is left
abbrev pub is_flow_owed : SessionState → Bool
is_flow_owed s = nat_lt 0 s.echoes || is_low s

-- one was sent: it states the whole window again, and answers what was asked first
abbrev pub flow_sent : SessionState → SessionState
flow_sent s = record s {
  windows = after_flow_sent s.windows;
  echoes = if s.refills then s.echoes else s.echoes - 1;
  refills = false;
}
