-- The windows and ids of a session (AMQP 1.0 2.5.6): before any event, and after each.
use Rattle.std.specs.Prelude.{ℕ, ◌+◌, ◌-◌, ◌%◌, ◌^◌, Option, Some, None}
use Rattle.machine_10.specs.declared.limits.TheConstants.{WINDOW}
use Rattle.machine_10.specs.declared.session.Windows.{Windows}

-- ids go round after 2^32 - 1
abbrev pub next_id : ℕ → ℕ
next_id n = (n + 1) % 2 ^ 32

-- how many ids there are from the first up to the next one, which isn't counted
abbrev pub ids_from : ℕ → ℕ → ℕ
ids_from first next = (next + (2 ^ 32 - first)) % 2 ^ 32

-- what is left of a window that was stated from an id on
abbrev pub left_of : ℕ → ℕ → ℕ → ℕ
left_of id window next = window - ids_from id next

-- an absent id is that of the gateway's begin, which is 0
abbrev pub or_first : Option ℕ → ℕ
or_first None = 0
or_first (Some id) = id

-- the gateway's begin states the whole window; the container said nothing yet
abbrev pub new_session : Windows
new_session =
    record { next_incoming = 0; next_outgoing = 0; window = 0; stated = WINDOW; handle_max = 0 }

-- the container's begin
abbrev pub after_began : ℕ → ℕ → ℕ → Windows → Windows
after_began next window handle_max s = record s {
  next_incoming = next;
  window = left_of 0 window s.next_outgoing;
  handle_max = handle_max;
}

-- a flow of the container
abbrev pub after_flowed : Option ℕ → ℕ → Windows → Windows
after_flowed id window s = record s { window = left_of (or_first id) window s.next_outgoing }

-- a transfer frame went out
abbrev pub after_sent : Windows → Windows
after_sent s = record s { next_outgoing = next_id s.next_outgoing; window = s.window - 1 }

-- a transfer frame came
abbrev pub after_got : Windows → Windows
after_got s = record s { next_incoming = next_id s.next_incoming; stated = s.stated - 1 }

-- a flow of the gateway went out
abbrev pub after_flow_sent : Windows → Windows
after_flow_sent s = record s { stated = WINDOW }
