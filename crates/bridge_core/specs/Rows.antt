-- The rows of what is due to each end: whether the connection lets a row go, and its units, which go
-- by rising numbers of channels.
use Rattle.std.specs.Prelude.{ℕ, Bool, false, true, not, ◌&&◌, ◌||◌, List, [], ◌∷◌, ◌++◌}
use Rattle.gate_relay.specs.Sides.{is_readable}
use Rattle.machine_091.specs.State.{is_closing}
use Rattle.gate_model.specs.Due.{attach_row, close_behind, close_oks, close_oks_on, confirms_on}
use Rattle.gate_model.specs.Due.{consume_oks_on, contents_on, delivers_on, detach_row, dispose_row}
use Rattle.gate_model.specs.Due.{flows_on, gets_on, is_beat_due, is_end_due, last_closes}
use Rattle.gate_model.specs.Due.{link_flow_row, may_answer, may_confirm_all, may_confirm_some}
use Rattle.gate_model.specs.Due.{may_end, may_go, may_idle, may_return, may_tell, oks_on, openings}
use Rattle.gate_model.specs.Due.{refused_on, settle_row, transfer_row, when, writings_on}
use Rattle.gate_model.specs.Lives.{each, is_free, session_in}
use Rattle.gate_model.specs.State.{State, is_channel_settled, is_settled}
use Rattle.gate_model.specs.Upstream.{opening_rows, when_up}
use Rattle.gate_model.specs.declared.life.Life.{Life}
use Rattle.gate_model.specs.declared.outgoing.UpUnit.{UpUnit}
use Rattle.gate_model.specs.declared.outgoing.UpUnit.TheVariants as up
use Rattle.gate_model.specs.declared.reply.Reply.{Reply}
use Rattle.gate_model.specs.declared.reply.Reply.TheVariants as reply
use Rattle.bridge_core.specs.declared.rows.Row.{Row}
use Rattle.bridge_core.specs.declared.rows.Row.TheVariants as row
use Rattle.bridge_core.specs.declared.rows.UpRow.{UpRow}
use Rattle.bridge_core.specs.declared.rows.UpRow.TheVariants as up_row

-- the units of rows, those of one row behind those of another
abbrev pub in_order : {R A : Type 0} → (R → List A) → List R → List A
in_order f [] = []
in_order f (r ∷ rs) = f r ++ in_order f rs

abbrev pub units_if : {A : Type 0} → Bool → List A → List A
units_if true us = us
units_if false us = []

-- ---- to the client

-- whether the connection lets a row go
abbrev pub may_send : State → Row → Bool
may_send w row.Content = may_return w
may_send w row.Writing = may_answer w
may_send w row.Opening = true
may_send w row.ChannelOpenOk = may_answer w
may_send w row.Ok = may_answer w
may_send w row.ConsumeOk = may_answer w
may_send w row.Get = may_answer w
may_send w row.Deliver = may_answer w
may_send w row.Confirm = may_confirm_some w
may_send w row.CloseOk = true
may_send w row.ChannelCloseOk = may_end w
may_send w row.Close = true
may_send w row.ChannelClose = may_tell w
may_send w row.Heartbeat = true

-- the units of a row on a channel: those of the connection are on none
abbrev pub units_on : State → Row → ℕ → Life → List Reply
units_on w row.Content n l = contents_on (may_confirm_all w) w.paths n l
units_on w row.Writing n l = writings_on w.paths n l
units_on w row.ChannelOpenOk n l = when l.open_ok (reply.ChannelOpenOk n)
units_on w row.Ok n l = oks_on w.paths n l
units_on w row.ConsumeOk n l = consume_oks_on w.paths n l
units_on w row.Get n l = gets_on w.paths n l
units_on w row.Deliver n l = delivers_on w.paths n l
units_on w row.Confirm n l = confirms_on (not w.out_of_memory) (may_confirm_all w) w.paths n l
units_on w row.ChannelCloseOk n l = close_oks_on n (l.close_ok && is_channel_settled w n) l
units_on w row.ChannelClose n l = refused_on (is_channel_settled w n) n l.close
units_on w r n l = []

-- all its units
abbrev pub units_in : State → Row → List Reply
units_in w row.Opening = openings (may_go (is_settled w) w.pending)
units_in w row.CloseOk = close_oks (may_go (is_settled w) w.pending)
units_in w row.Close = last_closes (may_go (is_settled w) w.pending)
units_in w row.Heartbeat = when (is_beat_due w) reply.Heartbeat
units_in w r = each (units_on w r) 0 w.lives

-- those that may go
abbrev pub units_of : State → Row → List Reply
units_of w r = units_if (may_send w r) (units_in w r)

-- ---- to the container

-- its end is open, and the gateway's close didn't go
abbrev pub is_up_open : State → Bool
is_up_open w = is_readable w.up.side && not w.up.sent.close

-- its connection is to be closed
abbrev pub is_up_closing : State → Bool
is_up_closing w = w.out_of_memory || is_closing w.conn

-- whether the connection lets a row go
abbrev pub may_send_up : State → UpRow → Bool
may_send_up w up_row.Opening = not (is_up_closing w)
may_send_up w up_row.Begin = not (is_up_closing w)
may_send_up w up_row.Attach = not w.out_of_memory
may_send_up w up_row.LinkFlow = not w.out_of_memory
may_send_up w up_row.SessionFlow = not w.out_of_memory
may_send_up w up_row.Transfer = not w.out_of_memory
may_send_up w up_row.Dispose = true
may_send_up w up_row.Settle = true
may_send_up w up_row.Detach = true
may_send_up w up_row.End = true
may_send_up w up_row.Close = is_up_closing w
may_send_up w up_row.Empty = true

-- the units of a row on a channel: those of the connection are on none
abbrev pub up_units_on : State → UpRow → ℕ → Life → List UpUnit
up_units_on w up_row.Begin n l =
    when_up (l.begin && is_free (session_in w.up.container n)) (up.Begin n)
up_units_on w up_row.Attach n l = attach_row w.up.container w.paths w.attached n l
up_units_on w up_row.LinkFlow n l = link_flow_row w.up.container w.paths n l
up_units_on w up_row.SessionFlow n l = flows_on w.up.container n l
up_units_on w up_row.Transfer n l = transfer_row w.up.container w.paths n l
up_units_on w up_row.Dispose n l = dispose_row w.up.container w.paths n l
up_units_on w up_row.Settle n l = settle_row w.up.container w.paths n l
up_units_on w up_row.Detach n l = detach_row w.up.container w.paths n l
up_units_on w up_row.End n l = when_up (is_end_due (is_up_closing w) w n) (up.End n l.why)
up_units_on w r n l = []

-- all its units
abbrev pub up_units_in : State → UpRow → List UpUnit
up_units_in w up_row.Opening = opening_rows w.up.pending
up_units_in w up_row.Close = close_behind w
up_units_in w up_row.Empty = when_up (may_idle w) up.Empty
up_units_in w r = each (up_units_on w r) 0 w.lives

-- those that may go
abbrev pub up_units_of : State → UpRow → List UpUnit
up_units_of w r = units_if (may_send_up w r) (up_units_in w r)
