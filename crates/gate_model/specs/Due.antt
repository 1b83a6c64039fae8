-- What a state owes: the units to an end, in the order in which they go, and the shutting of an
-- end; and what it waits for.
use Rattle.std.specs.Prelude.{ℕ, ◌-◌, ◌*◌, ◌==◌, nat_le, Bool, true, false, not, ◌&&◌, ◌||◌}
use Rattle.std.specs.Prelude.{List, [], ◌∷◌, ◌++◌, map, Option, None, Some, is_some}
use Rattle.std.specs.Prelude.{if◌then◌else◌}
use Rattle.std.specs.Option.{option_map}
use Rattle.gate_outside.specs.declared.ports.End.{End}
use Rattle.gate_outside.specs.declared.ports.End.TheVariants.{Client, Up}
use Rattle.gate_relay.specs.declared.sides.Side.{Side}
use Rattle.gate_relay.specs.declared.sides.Side.TheVariants as side
use Rattle.gate_relay.specs.Sides.{is_absent, is_readable}
use Rattle.machine_091.specs.State.{awaits, is_closing, is_open, is_opening}
use Rattle.machine_091.specs.State.{is_over}
use Rattle.machine_091.specs.declared.state.Awaited91.{Awaited91}
use Rattle.machine_091.specs.declared.state.Awaited91.TheVariants as awaited
use Rattle.machine_091.specs.declared.state.Phase91.{Phase91}
use Rattle.machine_091.specs.declared.state.Phase91.TheVariants as phase
use Rattle.machine_091.specs.declared.state.Stream91.{Stream91}
use Rattle.machine_091.specs.declared.state.Stream91.TheVariants as stream
use Rattle.machine_091.specs.declared.unit.Refusal.{Refusal}
use Rattle.gate_model.specs.declared.reply.Reply.{Reply}
use Rattle.gate_model.specs.declared.reply.Reply.TheVariants as reply
use Rattle.gate_model.specs.declared.reply.Pending.{Pending}
use Rattle.gate_model.specs.declared.reply.Reason.{Reason}
use Rattle.gate_model.specs.declared.life.Life.{Life}
use Rattle.gate_model.specs.declared.timers.TheConstants.{BEAT_PER_SECOND, CLOSING_LIMIT}
use Rattle.gate_model.specs.declared.timers.TheConstants.{LINGER_LIMIT}
use Rattle.gate_model.specs.declared.timers.TheConstants.{SILENCE_PER_SECOND}
use Rattle.gate_model.specs.declared.outgoing.Outgoing.{Outgoing}
use Rattle.gate_model.specs.declared.outgoing.Outgoing.TheVariants.{ToClient, ToUp}
use Rattle.gate_model.specs.declared.outgoing.UpUnit.{UpUnit}
use Rattle.gate_model.specs.declared.outgoing.UpUnit.TheVariants as up
use Rattle.std.specs.Prelude.{min}
use Rattle.machine_10.specs.declared.limits.TheConstants.{FRAME_MAX}
use Rattle.consume_path.specs.Offers.{content_of}
use Rattle.consume_path.specs.declared.delivery.Content.{Content}
use Rattle.methods_091.specs.Writing.{method_text}
use Rattle.methods_091.specs.declared.method.Method91.{Method91}
use Rattle.methods_091.specs.declared.method.Method91.TheVariants.{BasicDeliver, BasicGetOk}
use Rattle.publish_path.specs.declared.publish.Confirm.{Confirm}
use Rattle.publish_path.specs.declared.publish.NextReturn.{NextReturn}
use Rattle.session_path.specs.Due.{next_attach, next_confirm, next_detach, next_flow}
use Rattle.session_path.specs.Due.{address_at, content_frame, next_content, next_name}
use Rattle.session_path.specs.Due.{next_deliver}
use Rattle.session_path.specs.Due.{next_dispose, next_frame, next_ok, next_return, next_settle}
use Rattle.session_path.specs.Due.{return_frame, tag_of}
use Rattle.session_path.specs.Due as path_due
use Rattle.session_path.specs.Links.{error_of, handle_of}
use Rattle.session_path.specs.declared.path.ContentDue.{ContentDue}
use Rattle.session_path.specs.declared.path.DeliverDue.{DeliverDue}
use Rattle.session_path.specs.declared.path.PathLink.{PathLink}
use Rattle.session_path.specs.declared.path.PathOk.TheVariants as ok
use Rattle.session_path.specs.Path.{PathState}
use Rattle.session_path.specs.declared.path.PathOk.{PathOk}
use Rattle.gate_model.specs.declared.channel.ChannelUnit.{ChannelUnit}
use Rattle.gate_model.specs.declared.channel.ChannelUnit.TheVariants as unit
use Rattle.gate_model.specs.declared.channel.SessionUnit.{SessionUnit}
use Rattle.gate_model.specs.declared.channel.SessionUnit.TheVariants as session_unit
use Rattle.gate_model.specs.Paths.{attach_out, error_for, flow_out, is_laden, part_of, path_at}
use Rattle.gate_model.specs.Paths.{transfer_of}
use Rattle.gate_model.specs.Lives.{any_life, each, is_begun, is_carried, is_ended, is_free, life_at}
use Rattle.gate_model.specs.Lives.{session_in}
use Rattle.gate_model.specs.Session.{is_flow_owed}
use Rattle.machine_10.specs.declared.state.Upstream.{Upstream}
use Rattle.gate_model.specs.Queue.{is_empty}
use Rattle.gate_model.specs.State.{State, is_channel_settled, is_held, is_settled, place, waits}
use Rattle.gate_model.specs.Upstream.{awaited_of, first, has_closed, has_gone_bad}
use Rattle.gate_model.specs.Upstream.{is_awaited_up, is_idle_due, is_up_silent, opening_rows}
use Rattle.gate_model.specs.Upstream.{when_up}

-- ---- units

abbrev pub when : Bool → Reply → List Reply
when true r = r ∷ []
when false r = []

abbrev pub closes : Option Refusal → List Reply
closes None = []
closes (Some r) = reply.Close r ∷ []

-- the units that answer the client, in the order in which they go
abbrev pub rows : Pending → List Reply
rows p =
    when p.protocol reply.Protocol ++ (when p.start reply.Start ++ (when p.tune reply.Tune
    ++ (when p.open_ok reply.OpenOk
    ++ (when p.close_ok reply.CloseOk ++ (closes p.close ++ when p.no_memory reply.NoMemory)))))

-- of them those that open the connection, its close-ok, and its close
abbrev pub openings : Pending → List Reply
openings p =
    when p.protocol reply.Protocol ++ (when p.start reply.Start ++ (when p.tune reply.Tune
    ++ when p.open_ok reply.OpenOk))

abbrev pub close_oks : Pending → List Reply
close_oks p = when p.close_ok reply.CloseOk

abbrev pub last_closes : Pending → List Reply
last_closes p = closes p.close ++ when p.no_memory reply.NoMemory

-- those of which none waits for the upstream end: what ends the connection does
abbrev pub may_go : Bool → Pending → Pending
may_go true p = p
may_go false p = record p { close_ok = false; close = None }

-- a heartbeat is due until the end is shut, but not after close-ok: one is agreed to, and for half
-- of its interval no byte was sent (AMQP 0-9-1 4.2.7)
abbrev pub is_beat_by : Bool → ℕ → ℕ → ℕ → Bool
is_beat_by close_ok interval ms last =
    not close_ok && (not (interval == 0) && nat_le (BEAT_PER_SECOND * interval) (ms - last))

abbrev pub is_beat_due : State → Bool
is_beat_due w = is_beat_by w.sent_last.close_ok w.conn.limits.heartbeat w.moment w.last_sent_at

-- ---- units of channels

abbrev pub open_oks : State → List Reply
open_oks w = each (λ n l. when l.open_ok (reply.ChannelOpenOk n)) 0 w.lives

-- ---- answers on open channels, and confirms

-- the answers of all channels to requests that need nothing of the container go before those to
-- queue.declare and basic.consume, and these before those to basic.get
abbrev pub is_plain_ok : PathOk → Bool
is_plain_ok ok.Flow = true
is_plain_ok ok.Declare = true
is_plain_ok ok.Select = true
is_plain_ok (ok.Consume link) = false
is_plain_ok (ok.Qos count global) = true
is_plain_ok ok.Cancel = true
is_plain_ok ok.Queue = false
is_plain_ok ok.Get = false
is_plain_ok (ok.Empty link) = false
is_plain_ok ok.Recover = true

abbrev pub is_consume_ok : PathOk → Bool
is_consume_ok ok.Flow = false
is_consume_ok ok.Declare = false
is_consume_ok ok.Select = false
is_consume_ok (ok.Consume link) = true
is_consume_ok (ok.Qos count global) = false
is_consume_ok ok.Cancel = false
is_consume_ok ok.Queue = true
is_consume_ok ok.Get = false
is_consume_ok (ok.Empty link) = false
is_consume_ok ok.Recover = false

abbrev pub is_empty_ok : PathOk → Bool
is_empty_ok ok.Flow = false
is_empty_ok ok.Declare = false
is_empty_ok ok.Select = false
is_empty_ok (ok.Consume link) = false
is_empty_ok (ok.Qos count global) = false
is_empty_ok ok.Cancel = false
is_empty_ok ok.Queue = false
is_empty_ok ok.Get = false
is_empty_ok (ok.Empty link) = true
is_empty_ok ok.Recover = false

-- an answer that takes memory: those of the classes basic and queue
abbrev pub is_long_ok : PathOk → Bool
is_long_ok ok.Flow = false
is_long_ok ok.Declare = false
is_long_ok ok.Select = false
is_long_ok (ok.Consume link) = true
is_long_ok (ok.Qos count global) = true
is_long_ok ok.Cancel = true
is_long_ok ok.Queue = true
is_long_ok ok.Get = true
is_long_ok (ok.Empty link) = true
is_long_ok ok.Recover = true

abbrev pub ok_on : ℕ → Option PathOk → List Reply
ok_on n None = []
ok_on n (Some x) = when (is_plain_ok x) (reply.OnChannel n (unit.Ok x))

abbrev pub consume_ok_on : ℕ → Option PathOk → List Reply
consume_ok_on n None = []
consume_ok_on n (Some x) = when (is_consume_ok x) (reply.OnChannel n (unit.Ok x))

abbrev pub oks_on : List (Option PathState) → ℕ → Life → List Reply
oks_on ps n l = if l.over then [] else ok_on n (next_ok (path_at ps n))

abbrev pub consume_oks_on : List (Option PathState) → ℕ → Life → List Reply
consume_oks_on ps n l = if l.over then [] else consume_ok_on n (next_ok (path_at ps n))

abbrev pub path_oks : State → List Reply
path_oks w = each (oks_on w.paths) 0 w.lives

abbrev pub consume_oks : State → List Reply
consume_oks w = each (consume_oks_on w.paths) 0 w.lives

-- answers to basic.get on open channels: a basic.get-empty, or else a get-ok

abbrev pub empty_on : ℕ → Option PathOk → List Reply
empty_on n None = []
empty_on n (Some x) = when (is_empty_ok x) (reply.OnChannel n (unit.Ok x))

abbrev pub get_ok_on : ℕ → Option DeliverDue → List Reply
get_ok_on n None = []
get_ok_on n (Some d) = when d.get (reply.OnChannel n (unit.Deliver d))

abbrev pub get_on : ℕ → PathState → List Reply
get_on n s = empty_on n (next_ok s) ++ get_ok_on n (next_deliver s)

abbrev pub gets_on : List (Option PathState) → ℕ → Life → List Reply
gets_on ps n l = if l.over then [] else get_on n (path_at ps n)

abbrev pub gets : State → List Reply
gets w = each (gets_on w.paths) 0 w.lives

-- delivers on open channels

abbrev pub deliver_on : ℕ → Option DeliverDue → List Reply
deliver_on n None = []
deliver_on n (Some d) = when (not d.get) (reply.OnChannel n (unit.Deliver d))

abbrev pub delivers_on : List (Option PathState) → ℕ → Life → List Reply
delivers_on ps n l = if l.over then [] else deliver_on n (next_deliver (path_at ps n))

abbrev pub delivers : State → List Reply
delivers w = each (delivers_on w.paths) 0 w.lives

-- the frames of a content that is begun, before all else, while its channel is open
abbrev pub writing_on : ℕ → Option ContentDue → List Reply
writing_on n None = []
writing_on n (Some c) = reply.OnChannel n (unit.Content c) ∷ []

abbrev pub writings_on : List (Option PathState) → ℕ → Life → List Reply
writings_on ps n l = if l.over then [] else writing_on n (next_content (path_at ps n))

abbrev pub writings : State → List Reply
writings w = each (writings_on w.paths) 0 w.lives

-- answers on channels go until the connection closes, and what ends channels until a
-- connection.close or its close-ok went
abbrev pub may_answer : State → Bool
may_answer w = not (w.out_of_memory || is_closing w.conn)

abbrev pub may_end : State → Bool
may_end w = not (w.out_of_memory || (w.sent_last.close || w.sent_last.close_ok))

-- what is owed for publishes goes on each channel whose life goes on while the answers do, and where
-- the container was the cause that the connection closes
abbrev pub may_confirm_all : State → Bool
may_confirm_all w = may_answer w || w.by_peer

-- of a life that is over it goes where the container was the cause, whatever closes behind it
abbrev pub may_confirm : Bool → Life → Bool
may_confirm all l = if l.over then l.by_peer else all

abbrev pub confirm_on : Bool → ℕ → Option Confirm → List Reply
confirm_on may n None = []
confirm_on may n (Some c) = when may (reply.OnChannel n (unit.Confirm c))

-- a return before any confirm of its channel; but none that begins once the pair ran out of memory
abbrev pub return_on : Bool → ℕ → Option NextReturn → List Reply
return_on may n None = []
return_on may n (Some r) = when (may && r.first) (reply.OnChannel n (unit.Return r))

abbrev pub confirms_on : Bool → Bool → List (Option PathState) → ℕ → Life → List Reply
confirms_on calm all ps n l =
    return_on (calm && may_confirm all l) n (next_return (path_at ps n))
    ++ confirm_on (may_confirm all l) n (next_confirm (path_at ps n))

abbrev pub confirms : State → List Reply
confirms w = each (confirms_on (not w.out_of_memory) (may_confirm_all w) w.paths) 0 w.lives

-- the frames of a return that is begun go on before all else, and where its channel closes too: a
-- content stands together (AMQP 0-9-1 4.2.6)
abbrev pub may_go_on : Bool → Life → Bool
may_go_on all l = all || (l.over && l.by_peer)

abbrev pub content_on : Bool → ℕ → Option NextReturn → List Reply
content_on may n None = []
content_on may n (Some r) = when (may && not r.first) (reply.OnChannel n (unit.Return r))

abbrev pub contents_on : Bool → List (Option PathState) → ℕ → Life → List Reply
contents_on all ps n l = content_on (may_go_on all l) n (next_return (path_at ps n))

abbrev pub contents : State → List Reply
contents w = each (contents_on (may_confirm_all w) w.paths) 0 w.lives

-- one to a channel.close that crossed the gateway's waits for nothing
abbrev pub close_oks_on : ℕ → Bool → Life → List Reply
close_oks_on n settled l =
    when l.crossed_ok (reply.CrossedOk n) ++ when settled (reply.ChannelCloseOk n)

abbrev pub channel_oks : State → List Reply
channel_oks w =
    each (λ n l. close_oks_on n (l.close_ok && is_channel_settled w n) l) 0 w.lives

abbrev pub refused_on : Bool → ℕ → Option Reason → List Reply
refused_on settled n None = []
refused_on settled n (Some r) = when settled (reply.ChannelClose n r)

abbrev pub channel_closes : State → List Reply
channel_closes w = each (λ n l. refused_on (is_channel_settled w n) n l.close) 0 w.lives

-- so it goes on some channel: on these, or on one that its container closed, until a
-- connection.close or its close-ok went; and frames of returns until the pair runs out of memory
abbrev pub may_confirm_some : State → Bool
may_confirm_some w = may_confirm_all w || may_end w

abbrev pub may_return : State → Bool
may_return w = not w.out_of_memory && may_confirm_some w

-- the gateway's channel.close goes until the client closed the connection
abbrev pub is_closed_phase : Phase91 → Bool
is_closed_phase phase.Header = false
is_closed_phase phase.Start = false
is_closed_phase phase.Tune = false
is_closed_phase phase.Open = false
is_closed_phase phase.Running = false
is_closed_phase phase.Closing = false
is_closed_phase phase.Closed = true

abbrev pub may_tell : State → Bool
may_tell w = may_end w && not (is_closed_phase w.conn.phase)

abbrev pub if_so : Bool → List Reply → List Reply
if_so true us = us
if_so false us = []

-- what goes on open channels
abbrev pub answers : State → List Reply
answers w = open_oks w ++ (path_oks w ++ (consume_oks w ++ (gets w ++ delivers w)))

-- the units that are due to a client, but for a heartbeat: each row by rising numbers of channels,
-- of which the connection is 0
abbrev pub client_units : State → List Reply
client_units w =
    let p = may_go (is_settled w) w.pending in
    if_so (may_return w) (contents w)
    ++ (if_so (may_answer w) (writings w)
    ++ (openings p ++ (if_so (may_answer w) (answers w)
    ++ (if_so (may_confirm_some w) (confirms w)
    ++ (close_oks p ++ (if_so (may_end w) (channel_oks w)
    ++ (last_closes p ++ if_so (may_tell w) (channel_closes w))))))))

abbrev pub client_rows : State → List Reply
client_rows w = client_units w ++ when (is_beat_due w) reply.Heartbeat

-- ---- units to the container

-- a begin is due once channel.open was taken up and the session of that number before it ended
abbrev pub begins : State → List UpUnit
begins w =
    each (λ n l. when_up (l.begin && is_free (session_in w.up.container n)) (up.Begin n)) 0 w.lives

-- a flow of a session is due between the container's begin and the gateway's end, where the
-- container asked for one or little is left of the window that the gateway stated
abbrev pub flows_on : Option Upstream → ℕ → Life → List UpUnit
flows_on c n l =
    when_up (is_carried (session_in c n) && is_flow_owed l.session)
    (up.Flow n l.session.windows.next_incoming l.session.windows.next_outgoing)

abbrev pub session_flows : State → List UpUnit
session_flows w = each (flows_on w.up.container) 0 w.lives

-- units of the links of a session, between the container's begin and the gateway's end
abbrev pub row_on : {A : Type 0} → Option Upstream → ℕ → Option A → (A → SessionUnit) → List UpUnit
row_on c n None f = []
row_on c n (Some x) f = when_up (is_carried (session_in c n)) (up.OnSession n (f x))

abbrev pub attach_row : Option Upstream → List (Option PathState) → ℕ → ℕ → Life → List UpUnit
attach_row c ps name n l =
    row_on c n (next_attach (path_at ps n)) (λ a. session_unit.Attach (attach_out name a))

abbrev pub link_flow_row : Option Upstream → List (Option PathState) → ℕ → Life → List UpUnit
link_flow_row c ps n l =
    row_on c n (next_flow (path_at ps n)) (λ f. session_unit.Flow (flow_out l.session f))

-- frames of transfers, as large as the container takes them (AMQP 1.0 2.7.1)
abbrev pub frame_max_in : Option Upstream → ℕ
frame_max_in None = 0
frame_max_in (Some c) = min FRAME_MAX c.stated.max_frame

abbrev pub transfer_row : Option Upstream → List (Option PathState) → ℕ → Life → List UpUnit
transfer_row c ps n l =
    row_on c n (next_frame l.session.windows.window (path_at ps n))
    (λ f. session_unit.Transfer (transfer_of (frame_max_in c) (path_at ps n) f))

abbrev pub dispose_row : Option Upstream → List (Option PathState) → ℕ → Life → List UpUnit
dispose_row c ps n l = row_on c n (next_dispose (path_at ps n)) (λ x. session_unit.Dispose x)

abbrev pub settle_row : Option Upstream → List (Option PathState) → ℕ → Life → List UpUnit
settle_row c ps n l = row_on c n (next_settle (path_at ps n)) (λ x. session_unit.Settle x)

abbrev pub detach_out : PathLink → SessionUnit
detach_out l = session_unit.Detach l.link (handle_of l.stage) (error_for (error_of l.stage))

abbrev pub detach_row : Option Upstream → List (Option PathState) → ℕ → Life → List UpUnit
detach_row c ps n l =
    row_on c n (next_detach (path_at ps n)) (λ x. detach_out x)

abbrev pub attaches : State → List UpUnit
attaches w = each (attach_row w.up.container w.paths w.attached) 0 w.lives

abbrev pub link_flows : State → List UpUnit
link_flows w = each (link_flow_row w.up.container w.paths) 0 w.lives

abbrev pub transfers : State → List UpUnit
transfers w = each (transfer_row w.up.container w.paths) 0 w.lives

abbrev pub disposals : State → List UpUnit
disposals w = each (dispose_row w.up.container w.paths) 0 w.lives

abbrev pub settlings : State → List UpUnit
settlings w = each (settle_row w.up.container w.paths) 0 w.lives

abbrev pub detaches : State → List UpUnit
detaches w = each (detach_row w.up.container w.paths) 0 w.lives

-- an end is due where the container's came; or where the channel or the connection closes, once its
-- publishes are sent and answered or that is so long ago
abbrev pub is_long_ago : Option ℕ → ℕ → Bool
is_long_ago None ms = false
is_long_ago (Some at) ms = nat_le LINGER_LIMIT (ms - at)

abbrev pub is_lingered : State → ℕ → Bool
is_lingered w n =
    w.out_of_memory || (path_due.is_done (path_at w.paths n)
    || (is_long_ago (life_at w.lives n).closed_at w.moment || is_long_ago w.closed_at w.moment))

abbrev pub is_end_due : Bool → State → ℕ → Bool
is_end_due closing w n =
    is_ended (session_in w.up.container n)
    || (is_begun (session_in w.up.container n)
    && ((closing || not (is_open w.conn n)) && is_lingered w n))

abbrev pub ends : Bool → State → List UpUnit
ends closing w = each (λ n l. when_up (is_end_due closing w n) (up.End n l.why)) 0 w.lives

-- no session is left that began and has no end
abbrev pub none_left : State → Bool
none_left w =
    not (any_life (λ n l. is_ended (session_in w.up.container n)
    || is_begun (session_in w.up.container n)) 0 w.lives)

-- the close goes behind all ends, where the open was sent
abbrev pub close_behind : State → List UpUnit
close_behind w = when_up (none_left w && w.up.sent.«open») (up.Close w.up.condition)

-- while the connection isn't closing and once it is
abbrev pub unless_out : Bool → List UpUnit → List UpUnit
unless_out true us = []
unless_out false us = us

-- of links and sessions: none takes memory that goes once the pair ran out of it
abbrev pub carried_rows : State → List UpUnit
carried_rows w = attaches w ++ (link_flows w ++ (session_flows w ++ transfers w))

abbrev pub session_rows : State → List UpUnit
session_rows w =
    unless_out w.out_of_memory (carried_rows w) ++ (disposals w ++ (settlings w ++ detaches w))

abbrev pub other_rows : Bool → State → List UpUnit
other_rows true w = session_rows w ++ (ends true w ++ close_behind w)
other_rows false w =
    opening_rows w.up.pending ++ (begins w ++ (session_rows w ++ ends false w))

-- and behind them an empty frame; none goes once the pair ran out of memory
abbrev pub may_idle : State → Bool
may_idle w = not w.out_of_memory && is_idle_due w.up w.moment

abbrev pub rows_in : Bool → State → List UpUnit
rows_in closing w = other_rows closing w ++ when_up (may_idle w) up.Empty

-- through an end that is open, and none after the close
abbrev pub up_rows : State → List UpUnit
up_rows w =
    if is_readable w.up.side && not w.up.sent.close
    then rows_in (w.out_of_memory || is_closing w.conn) w else []

-- the units that are due to an end while none to it is in progress
abbrev pub due : State → End → List Outgoing
due w Client = map ToClient (client_rows w)
due w Up = map ToUp (up_rows w)

-- units whose spelling takes memory
abbrev pub takes_memory_on : SessionUnit → Bool
takes_memory_on (session_unit.Attach a) = true
takes_memory_on (session_unit.Flow f) = true
takes_memory_on (session_unit.Transfer t) = true
takes_memory_on (session_unit.Dispose x) = false
takes_memory_on (session_unit.Settle x) = false
takes_memory_on (session_unit.Detach link handle why) = false

abbrev pub takes_memory_up : UpUnit → Bool
takes_memory_up up.SaslHeader = false
takes_memory_up up.SaslInit = true
takes_memory_up up.AmqpHeader = false
takes_memory_up up.Open = true
takes_memory_up (up.Close c) = false
takes_memory_up up.Empty = false
takes_memory_up (up.OnSession n u) = takes_memory_on u
takes_memory_up (up.Flow n i o) = true
takes_memory_up (up.Begin n) = true
takes_memory_up (up.End n why) = false

abbrev pub takes_memory_told : ChannelUnit → Bool
takes_memory_told (unit.Ok x) = is_long_ok x
takes_memory_told (unit.Deliver d) = true
takes_memory_told (unit.Content c) = true
takes_memory_told (unit.Confirm c) = false
takes_memory_told (unit.Return r) = true

abbrev pub takes_memory_back : Reply → Bool
takes_memory_back reply.Protocol = false
takes_memory_back reply.Start = false
takes_memory_back reply.Tune = false
takes_memory_back reply.OpenOk = false
takes_memory_back reply.CloseOk = false
takes_memory_back (reply.Close r) = false
takes_memory_back reply.NoMemory = false
takes_memory_back reply.Heartbeat = false
takes_memory_back (reply.ChannelOpenOk n) = false
takes_memory_back (reply.OnChannel n u) = takes_memory_told u
takes_memory_back (reply.ChannelCloseOk n) = false
takes_memory_back (reply.CrossedOk n) = false
takes_memory_back (reply.ChannelClose n r) = false

abbrev pub takes_memory : Option Outgoing → Bool
takes_memory None = false
takes_memory (Some (ToClient u)) = takes_memory_back u
takes_memory (Some (ToUp u)) = takes_memory_up u

-- what a unit carries: the address of an attach, the part of a payload, a frame of a return or of a
-- content, the method of a deliver, and a consumer tag
abbrev pub carries_of : PathState → SessionUnit → List ℕ
carries_of s (session_unit.Attach a) =
    address_at (record { link = a.link; handle = a.handle; receives = a.receives }) s
carries_of s (session_unit.Flow f) = []
carries_of s (session_unit.Transfer t) = part_of s t
carries_of s (session_unit.Dispose x) = []
carries_of s (session_unit.Settle x) = []
carries_of s (session_unit.Detach link handle why) = []

abbrev pub carries_up : State → UpUnit → List ℕ
carries_up w (up.OnSession n u) = carries_of (path_at w.paths n) u
carries_up w u = []

abbrev pub or_no_bytes : Option (List ℕ) → List ℕ
or_no_bytes None = []
or_no_bytes (Some text) = text

abbrev pub carries_ok : PathState → PathOk → List ℕ
carries_ok s ok.Flow = []
carries_ok s ok.Declare = []
carries_ok s ok.Select = []
carries_ok s (ok.Consume link) = next_name s
carries_ok s (ok.Qos count global) = []
carries_ok s ok.Cancel = next_name s
carries_ok s ok.Queue = next_name s
carries_ok s ok.Get = []
carries_ok s (ok.Empty link) = []
carries_ok s ok.Recover = []

-- the method of a deliver: the tag of its consumer, its delivery tag, whether it was delivered
-- before, and where its message was published (AMQP 0-9-1 1.8.3.9). That of a get-ok has no tag of
-- a consumer, and says that no message is left (1.8.3.11)
abbrev pub deliver_from : List ℕ → DeliverDue → List ℕ → List ℕ → Method91
deliver_from tag d exchange key =
    if d.get then BasicGetOk d.tag d.next.again exchange key 0
    else BasicDeliver tag d.tag d.next.again exchange key

abbrev pub deliver_as : List ℕ → DeliverDue → Option Content → Method91
deliver_as tag d None = deliver_from tag d [] []
deliver_as tag d (Some c) = deliver_from tag d c.exchange c.key

abbrev pub deliver_method : PathState → DeliverDue → Method91
deliver_method s d = deliver_as (tag_of d.next.link s) d (content_of d.next.id s.deliveries.list)

abbrev pub carries_told : PathState → ChannelUnit → List ℕ
carries_told s (unit.Ok x) = carries_ok s x
carries_told s (unit.Deliver d) = method_text (deliver_method s d)
carries_told s (unit.Content c) = or_no_bytes (content_frame s)
carries_told s (unit.Confirm c) = []
carries_told s (unit.Return r) = or_no_bytes (return_frame r.publish s)

abbrev pub carries_back : State → Reply → List ℕ
carries_back w reply.Protocol = []
carries_back w reply.Start = []
carries_back w reply.Tune = []
carries_back w reply.OpenOk = []
carries_back w reply.CloseOk = []
carries_back w (reply.Close r) = []
carries_back w reply.NoMemory = []
carries_back w reply.Heartbeat = []
carries_back w (reply.ChannelOpenOk n) = []
carries_back w (reply.OnChannel n u) = carries_told (path_at w.paths n) u
carries_back w (reply.ChannelCloseOk n) = []
carries_back w (reply.CrossedOk n) = []
carries_back w (reply.ChannelClose n r) = []

abbrev pub carries : State → Outgoing → List ℕ
carries w (ToClient u) = carries_back w u
carries w (ToUp u) = carries_up w u

-- the one that goes
abbrev pub pick : State → End → Option Outgoing
pick w end = first (due w end)

-- a unit to an end is between its first byte and its last
abbrev pub in_progress : State → End → Option Outgoing
in_progress w Client = option_map ToClient w.in_progress
in_progress w Up = option_map ToUp w.up.in_progress

abbrev pub is_busy : State → End → Bool
is_busy w end = is_some (in_progress w end)

-- an end of a session goes next to the container
abbrev pub is_end : UpUnit → Bool
is_end up.SaslHeader = false
is_end up.SaslInit = false
is_end up.AmqpHeader = false
is_end up.Open = false
is_end (up.Close why) = false
is_end up.Empty = false
is_end (up.OnSession n u) = false
is_end (up.Flow n i o) = false
is_end (up.Begin n) = false
is_end (up.End n why) = true

abbrev pub is_end_out : Option Outgoing → Bool
is_end_out None = false
is_end_out (Some (ToClient u)) = false
is_end_out (Some (ToUp u)) = is_end u

abbrev pub is_end_next : State → Bool
is_end_next w = not (is_busy w Up) && is_end_out (pick w Up)

-- ---- ends

abbrev pub is_awaited : Awaited91 → Bool
is_awaited awaited.Header = true
is_awaited (awaited.Frame size) = true
is_awaited awaited.Nothing = false

-- bytes of an end are awaited: of a client that was given up too, until its end is shut
abbrev pub is_awaiting : State → End → Bool
is_awaiting w Client = (is_awaited (awaits w.conn) || w.given_up) && not (is_held w)
is_awaiting w Up = is_readable w.up.side && is_awaited_up (awaited_of w.up.container)

-- a client that is read is given up once no byte of it came for twice the interval that was agreed
-- to, in seconds, counted from its last byte, or from the end of the last time that it was held
-- (AMQP 0-9-1 4.2.7)
abbrev pub is_silent_by : ℕ → ℕ → ℕ → Bool
is_silent_by interval ms fed =
    not (interval == 0) && nat_le (SILENCE_PER_SECOND * interval) (ms - fed)

abbrev pub is_silent : State → End → Bool
is_silent w Client =
    is_awaiting w Client
    && (not (w.given_up || (w.gone || (w.leaving || w.out_of_memory)))
    && is_silent_by w.conn.limits.heartbeat w.moment w.fed_at)
is_silent w Up = is_up_silent w.up w.moment

-- the connection upstream is to be asked for
abbrev pub is_connect_due : State → Bool
is_connect_due w = is_opening w.conn && is_absent w.up.side

-- that the client's end ended or failed can be taken up, behind all else, and while not too many
-- publishes are held
abbrev pub can_leave : State → Bool
can_leave w =
    w.leaving && (not w.out_of_memory && (is_empty w.queue && (not (waits w).some
    && not (is_laden w.paths))))

-- a unit of the client can be taken up
abbrev pub can_take_unit : State → Bool
can_take_unit w = not w.out_of_memory && is_some (place w)

-- something of the client can
abbrev pub can_take_up : State → Bool
can_take_up w = can_take_unit w || can_leave w

abbrev pub is_bad : Stream91 → Bool
is_bad stream.Header = false
is_bad stream.Frames = false
is_bad stream.Foreign = false
is_bad stream.Bad = true
is_bad stream.Answered = false
is_bad stream.Ended = false

-- the client's protocol header didn't come
abbrev pub is_unheard : Stream91 → Bool
is_unheard stream.Header = true
is_unheard stream.Frames = false
is_unheard stream.Foreign = true
is_unheard stream.Bad = false
is_unheard stream.Answered = false
is_unheard stream.Ended = false

-- the closing event is so old that the end is shut in any case
abbrev pub is_overdue : Option ℕ → ℕ → Bool
is_overdue None ms = false
is_overdue (Some at) ms = nat_le CLOSING_LIMIT (ms - at)

-- the upstream end failed, and it ended
abbrev pub has_failed : Side → Bool
has_failed side.Absent = false
has_failed side.Open = false
has_failed side.Ended = false
has_failed side.Failed = true
has_failed side.Gone = false

abbrev pub has_ended : Side → Bool
has_ended side.Absent = false
has_ended side.Open = false
has_ended side.Ended = true
has_ended side.Failed = false
has_ended side.Gone = false

-- the client's end is to be shut: it failed; a limit of time was reached; its end was taken up or
-- its close-ok came; the gateway's header or close-ok was sent whole, or its close and the client's
-- bytes went bad or the pair ran out of memory; or the pair ran out of memory before the client's
-- header. The upstream end is to be shut: it failed or ended; the limit of time was reached; the
-- gateway's close was sent whole, and the container closed, its bytes went bad or the pair ran out
-- of memory; or the connection closes and the gateway's open wasn't sent
abbrev pub is_shut_due : State → End → Bool
is_shut_due w Client =
    w.failed || (is_overdue w.closed_at w.moment || (w.late || (is_over w.conn
    || (w.sent_last.protocol || (w.sent_last.close_ok
    || ((w.sent_last.close && (is_bad w.conn.stream || w.out_of_memory))
    || (w.out_of_memory && is_unheard w.conn.stream)))))))
is_shut_due w Up =
    has_failed w.up.side || (has_ended w.up.side || (is_overdue w.closed_at w.moment
    || ((w.up.sent.whole_close && (has_closed w.up || (has_gone_bad w.up || w.out_of_memory)))
    || (is_closing w.conn && not w.up.sent.«open»))))
