-- What the steps of a pair amount to. All lists of steps are newest first.
use Rattle.std.specs.Prelude.{ℕ, ◌-◌, ◌==◌, nat_le, Bool, true, false, not, ◌&&◌, ◌||◌}
use Rattle.std.specs.Prelude.{if◌then◌else◌}
use Rattle.std.specs.Prelude.{List, [], ◌∷◌, ◌++◌, Option, None, Some}
use Rattle.std.specs.List.{list_any}
use Rattle.std.specs.Option.{option_map}
use Rattle.close_translate.specs.Conditions.{code_by, condition_of}
use Rattle.close_translate.specs.declared.codes.TheConstants.{CONNECTION_FORCED, INTERNAL_ERROR}
use Rattle.close_translate.specs.declared.codes.TheConstants.{NOT_ALLOWED, PRECONDITION_FAILED}
use Rattle.close_translate.specs.declared.codes.TheConstants.{RESOURCE_ERROR}
use Rattle.close_translate.specs.declared.conditions.Scope.{Scope}
use Rattle.close_translate.specs.declared.conditions.Scope.TheVariants as scope
use Rattle.gate_outside.specs.declared.ports.End.{End}
use Rattle.gate_outside.specs.declared.ports.End.TheVariants.{Client, Up}
use Rattle.gate_outside.specs.declared.ports.Linked.{Linked}
use Rattle.gate_outside.specs.declared.ports.Linked.TheVariants as link
use Rattle.gate_relay.specs.declared.sides.Side.{Side}
use Rattle.gate_relay.specs.declared.sides.Side.TheVariants as side
use Rattle.gate_relay.specs.Sides.{is_readable}
use Rattle.gate_relay.specs.declared.loss.Loss.{Loss}
use Rattle.gate_relay.specs.declared.loss.Loss.TheVariants as loss
use Rattle.machine_091.specs.Calls.{after_closed, after_closing, after_ended, after_opened}
use Rattle.machine_091.specs.Calls.{after_told}
use Rattle.machine_091.specs.State.{new_connection, is_closing, is_open, is_opening}
use Rattle.machine_091.specs.Refusals.{refusal_with}
use Rattle.machine_091.specs.declared.state.Connection.{Connection}
use Rattle.machine_091.specs.declared.state.Phase91.{Phase91}
use Rattle.machine_091.specs.declared.state.Phase91.TheVariants as phase
use Rattle.machine_091.specs.declared.state.Stream91.{Stream91}
use Rattle.machine_091.specs.declared.state.Stream91.TheVariants as stream
use Rattle.machine_091.specs.declared.unit.Refusal.{Refusal}
use Rattle.machine_091.specs.declared.unit.Unit91.{Unit91}
use Rattle.machine_091.specs.declared.unit.Want91.{Want91}
use Rattle.machine_091.specs.declared.unit.Want91.TheVariants as want
use Rattle.gate_model.specs.declared.reply.Reply.{Reply}
use Rattle.gate_model.specs.declared.reply.Reply.TheVariants as reply
use Rattle.gate_model.specs.declared.reply.Pending.{Pending}
use Rattle.gate_model.specs.declared.reply.SentLast.{SentLast}
use Rattle.gate_model.specs.declared.outgoing.Outgoing.{Outgoing}
use Rattle.gate_model.specs.declared.outgoing.Outgoing.TheVariants.{ToClient, ToUp}
use Rattle.gate_model.specs.declared.timers.TheConstants.{HANDSHAKE_LIMIT}
use Rattle.gate_model.specs.Upstream.{UpState, begun, channel_max_of, closing_with}
use Rattle.gate_model.specs.Upstream.{condition_in, finished}
use Rattle.gate_model.specs.Upstream.{has_closed, heard_up, linked, lost_by, meaning_by, no_end}
use Rattle.gate_model.specs.Upstream.{shut_by, with_amqp_header, with_init, with_login}
use Rattle.machine_10.specs.Transitions as ten
use Rattle.machine_10.specs.Transitions.{Meaning}
use Rattle.machine_10.specs.declared.unit.Unit10.{Unit10}
use Rattle.machine_10.specs.Parts.{Parts}
use Rattle.machine_10.specs.Reading.{field}
use Rattle.performatives_10.specs.declared.condition.Condition.TheVariants.{NotAllowed}
use Rattle.performatives_10.specs.declared.condition.Condition.TheVariants.{ResourceLimitExceeded}
use Rattle.gate_model.specs.declared.life.Life.{Life}
use Rattle.gate_model.specs.Requests.{address_of, client_step, client_told, message_of}
use Rattle.gate_model.specs.Returns.{back_of}
use Rattle.gate_model.specs.Setup.{SiteText}
use Rattle.gate_model.specs.declared.setup.Route.{Route}
use Rattle.open_items.specs.declared.lost.LostItem.{LostItem}
use Rattle.gate_model.specs.declared.outgoing.UpUnit.{UpUnit}
use Rattle.gate_model.specs.declared.outgoing.UpUnit.TheVariants as up
use Rattle.gate_model.specs.Lives.{any_life, begun_life, failed_life, is_clear, is_done, is_ended}
use Rattle.gate_model.specs.Lives.{life_at, lives_by}
use Rattle.gate_model.specs.Lives.{no_lives, reason_of, refusal_on, session_in, with_life}
use Rattle.gate_model.specs.Lives.{with_state}
use Rattle.std.specs.Prelude.{◌+◌, ◌%◌, ◌^◌, map, is_some}
use Rattle.methods_091.specs.declared.method.Method91.{Method91}
use Rattle.methods_091.specs.declared.method.Method91.TheVariants as method
use Rattle.machine_10.specs.Reading.{number_at}
use Rattle.machine_10.specs.Session.{after_flow_sent, after_sent}
use Rattle.performatives_10.specs.declared.condition.Condition.TheVariants as condition
use Rattle.performatives_10.specs.declared.condition.Condition.TheVariants.{UnattachedHandle}
use Rattle.session_path.specs.Path as session
use Rattle.session_path.specs.declared.path.AttachFault.{AttachFault}
use Rattle.session_path.specs.declared.path.AttachFault.TheVariants.{HandleInUse, NotAsked}
use Rattle.session_path.specs.Path.{PathState}
use Rattle.session_path.specs.Path.{attach_sent, confirm_sent, detach_came, detach_sent}
use Rattle.session_path.specs.Path.{link_flow_sent, ok_sent, owed, published, selected}
use Rattle.session_path.specs.Path.{return_sent, settle_sent, transfer_sent}
use Rattle.session_path.specs.declared.path.PathOk.{PathOk}
use Rattle.session_path.specs.declared.path.PathOk.TheVariants as ok
use Rattle.gate_model.specs.declared.channel.ChannelUnit.{ChannelUnit}
use Rattle.gate_model.specs.declared.channel.ChannelUnit.TheVariants as to_client
use Rattle.gate_model.specs.declared.channel.SessionUnit.{SessionUnit}
use Rattle.gate_model.specs.declared.channel.SessionUnit.TheVariants as unit
use Rattle.gate_model.specs.declared.life.SessionState.{SessionState}
use Rattle.gate_model.specs.Lives.{is_of_channel}
use Rattle.gate_model.specs.Paths.{attach_by, attach_fault_by, closed_path, closed_paths, fault_in}
use Rattle.gate_model.specs.Paths.{is_attached, is_laden, lines_in, link_flowed}
use Rattle.gate_model.specs.Paths.{ended_path, is_not_found, lost_path, ended_paths, told_paths}
use Rattle.gate_model.specs.Paths.{no_paths, outcome_by, path_at, set_path}
use Rattle.gate_model.specs.Paths.{transfer_error, transferred, with_path}
use Rattle.consume_path.specs.declared.delivery.Settle.{Settle}
use Rattle.consume_path.specs.declared.delivery.Settle.TheVariants.{Accepted, Rejected, Released}
use Rattle.session_path.specs.Due.{is_waiting}
use Rattle.session_path.specs.Path.{answer_came, cancelled, closes_at as closes_channel, consumed}
use Rattle.session_path.specs.Path.{content_sent, content_whole, declare_came}
use Rattle.session_path.specs.Path.{deliver_sent, dispose_sent, end_lost, got}
use Rattle.property_map.specs.Spelling.{image_text}
use Rattle.property_map.specs.declared.told.Told.{Told}
use Rattle.gate_model.specs.Session.{carried_by, flow_sent, is_of_session}
use Rattle.gate_model.specs.Queue.{Waits, is_bad_unit, is_full, place_in, unit_at, without_at}
use Rattle.performatives_10.specs.declared.condition.Condition.{Condition}

pub data Step : Type 0 where
  -- the pair with this number was accepted at this moment, and its client may open and publish to
  -- this
  Began : SiteText → ℕ → ℕ → Step
  -- a moment was given
  Moment : ℕ → Step
  -- bytes of an end came
  Fed : End → Step
  -- an end is given up: no byte of it came for too long
  Silent : End → Step
  -- the client's stream had a whole unit, or bytes with which none begins
  Queued : Unit91 → Step
  -- this one, the first that could be, was taken up
  Came : Unit91 → Step
  -- that the client's end ended or failed was taken up
  TakenUp : Step
  -- the container's stream had a whole unit, or bytes with which none begins
  Heard : Unit10 → Step
  -- the connection upstream was asked for
  Joined : Linked → Step
  -- an end ended or failed, or was shut
  Lost : End → Loss → Step
  -- the first byte of a unit was sent, which carries these bytes: the address of an attach, the
  -- part of a payload of a transfer, a frame of a return or of a content, the method of a deliver,
  -- a consumer tag; others carry none
  Gave : Outgoing → List ℕ → Step
  -- the last byte of the unit to an end was
  Whole : End → Step
  -- the lines that the report was owed were reported
  LinesTold : Step
  -- the pair ran out of memory
  OutOfMemory : Step

pub record State : Type 0 where
  pub number : ℕ
  -- the exchanges that the client may publish to, besides the default one
  pub routes : List Route
  -- the client's connection
  pub conn : Connection
  -- the units that are due to the client, and of which no byte was sent; but for heartbeats
  pub pending : Pending
  -- the unit to the client of which the first byte was sent, and not the last
  pub in_progress : Option Reply
  pub sent_last : SentLast
  -- what is due on each channel, to either end
  pub lives : List Life
  -- the links, publishes and answers of each
  pub paths : List (Option PathState)
  -- how many channels were opened, and the number in the name of the next attach
  pub opened : ℕ
  pub attached : ℕ
  -- the container, its loss or its silence was the closing event of the connection
  pub by_peer : Bool
  -- the upstream end
  pub up : UpState
  -- the units of the client that aren't taken up yet, in their order
  pub queue : List Unit91
  -- the moments of the accept, of the last clock reading, and of the last unit that was sent whole,
  -- in milliseconds
  pub accepted_at : ℕ
  pub moment : ℕ
  pub last_sent_at : ℕ
  -- the moment of the client's last byte, or the last one at which it was held
  pub fed_at : ℕ
  -- the moment of the closing event of the connection
  pub closed_at : Option ℕ
  -- that event was the client's connection.close
  pub client_closed : Bool
  -- the handshake limit was reached
  pub late : Bool
  -- the client's end ended or failed, and that isn't taken up yet
  pub leaving : Bool
  -- it failed
  pub failed : Bool
  -- the client was given up
  pub given_up : Bool
  -- its end was shut
  pub gone : Bool
  pub out_of_memory : Bool

-- ---- at the accept

abbrev pub none_pending : Pending
none_pending = record {
  protocol = false;
  start = false;
  tune = false;
  open_ok = false;
  close_ok = false;
  close = None;
  no_memory = false;
}

abbrev pub none_sent : SentLast
none_sent = record { protocol = false; close_ok = false; close = false }

abbrev pub new_state : SiteText → ℕ → ℕ → State
new_state site number ms = record {
  number = number;
  routes = site.routes;
  conn = new_connection site.vhost;
  pending = none_pending;
  in_progress = None;
  sent_last = none_sent;
  lives = no_lives;
  paths = no_paths;
  opened = 0;
  attached = 0;
  by_peer = false;
  up = no_end;
  queue = [];
  accepted_at = ms;
  moment = ms;
  last_sent_at = ms;
  fed_at = ms;
  closed_at = None;
  client_closed = false;
  late = false;
  leaving = false;
  failed = false;
  given_up = false;
  gone = false;
  out_of_memory = false;
}

-- ---- closing events

-- the closing event of the connection
abbrev pub close : Connection → Connection
close c = after_closing scope.Connection 0 c

-- the moment of the first closing event
abbrev pub closes_at : Option ℕ → Bool → ℕ → Option ℕ
closes_at (Some at) closing ms = Some at
closes_at None true ms = Some ms
closes_at None false ms = None

-- what is told where a connection fails upstream: no method is at fault (AMQP 0-9-1 1.4.2.9)
abbrev pub failure : ℕ → Refusal
failure code = refusal_with code 0 0

-- the sessions of all channels are lost
abbrev pub sessions_lost : State → State
sessions_lost w = record w { paths = ended_paths w.paths }

abbrev pub failed : ℕ → Option Condition → State → State
failed code why w = record (sessions_lost w) {
  by_peer = true;
  conn = close w.conn;
  pending = record w.pending { close = Some (failure code) };
  up = record w.up { condition = why };
  closed_at = closes_at w.closed_at true w.moment;
}

-- the upstream end is the cause, unless the connection closes already: then the sessions alone are
-- lost, so that no publish waits for an outcome any more (AMQP 1.0 2.4.3, 2.6.12)
abbrev pub fail : ℕ → Option Condition → State → State
fail code why w = if is_closing w.conn then sessions_lost w else failed code why w

-- ---- what holds the client

-- nothing of the upstream end is waited for: there is none, it is lost or was given up,
-- the container closed, or the pair ran out of memory
abbrev pub is_settled : State → Bool
is_settled w =
    w.out_of_memory || (not (is_readable w.up.side) || (has_closed w.up || w.up.silent))

-- connection.close of the client waits for the container's close
abbrev pub close_waits : State → Bool
close_waits w = w.client_closed && not (is_settled w)

-- the client isn't read while its connection.open or connection.close waits, behind bytes with
-- which no unit begins, while much isn't taken up, and while many publishes are held
abbrev pub is_held : State → Bool
is_held w =
    is_opening w.conn
    || (close_waits w || (list_any is_bad_unit w.queue || (is_full w.queue || is_laden w.paths)))

-- the moment of the client's last byte, once it is held or not
abbrev pub fed_by : Bool → ℕ → ℕ → ℕ
fed_by true ms at = ms
fed_by false ms at = at

-- ---- a unit of the client

-- the connection after a unit, and what that wants
abbrev pub conn_step : List Route → List (Option PathState) → Connection → Unit91 → Connection
conn_step routes ps c u = (client_step routes ps c u).0

abbrev pub want_in : List Route → List (Option PathState) → Connection → Unit91 → Want91
want_in routes ps c u = (client_step routes ps c u).1

-- what becomes due by what a unit wants: the gateway's close is due no more once the client closed
abbrev pub with_want : Want91 → Pending → Pending
with_want want.Nothing p = p
with_want want.Start p = record p { start = true }
with_want (want.Login mechanism response) p = record p { tune = true }
with_want want.Tuned p = p
with_want want.OpenUp p = p
with_want (want.Method n m) p = p
with_want (want.Publish n m c) p = p
with_want (want.ChannelCloseOk n) p = p
with_want want.Close p = record p { close_ok = true; close = None }
with_want want.CloseOk p = p
with_want (want.Refuse r) p = if is_of_channel r then p else record p { close = Some r }

-- the error of the gateway's close to the container, where what a unit wants is the closing event:
-- that of a refusal
abbrev pub condition_by : Want91 → Option Condition
condition_by want.Nothing = None
condition_by want.Start = None
condition_by (want.Login mechanism response) = None
condition_by want.Tuned = None
condition_by want.OpenUp = None
condition_by (want.Method n m) = None
condition_by (want.Publish n m c) = None
condition_by (want.ChannelCloseOk n) = None
condition_by want.Close = None
condition_by want.CloseOk = None
condition_by (want.Refuse r) = if is_of_channel r then None else Some (condition_of r.code)

-- a login is kept for the container
abbrev pub keep_login : Want91 → UpState → UpState
keep_login want.Nothing s = s
keep_login want.Start s = s
keep_login (want.Login mechanism response) s = with_login mechanism response s
keep_login want.Tuned s = s
keep_login want.OpenUp s = s
keep_login (want.Method n m) s = s
keep_login (want.Publish n m c) s = s
keep_login (want.ChannelCloseOk n) s = s
keep_login want.Close s = s
keep_login want.CloseOk s = s
keep_login (want.Refuse r) s = s

abbrev pub is_close_want : Want91 → Bool
is_close_want want.Nothing = false
is_close_want want.Start = false
is_close_want (want.Login mechanism response) = false
is_close_want want.Tuned = false
is_close_want want.OpenUp = false
is_close_want (want.Method n m) = false
is_close_want (want.Publish n m c) = false
is_close_want (want.ChannelCloseOk n) = false
is_close_want want.Close = true
is_close_want want.CloseOk = false
is_close_want (want.Refuse r) = false

-- the first bytes were no protocol header
abbrev pub is_foreign : Stream91 → Bool
is_foreign stream.Header = false
is_foreign stream.Frames = false
is_foreign stream.Foreign = true
is_foreign stream.Bad = false
is_foreign stream.Answered = false
is_foreign stream.Ended = false

-- they just turned out to be none: the gateway's own header is due
abbrev pub turns_foreign : List Route → List (Option PathState) → Connection → Unit91 → Bool
turns_foreign routes ps c u =
    is_foreign (conn_step routes ps c u).stream && not (is_foreign c.stream)

abbrev pub with_header : Bool → Pending → Pending
with_header foreign p = record p { protocol = p.protocol || foreign }

-- ---- channels

-- the requests of a channel
abbrev pub answered_if : Bool → PathOk → PathState → PathState
answered_if no_wait ok s = if no_wait then s else owed ok s

-- what a reject or a nack makes of deliveries (AMQP 0-9-1 1.8.3.14)
abbrev pub settle_by : Bool → Settle
settle_by requeue = if requeue then Released else Rejected

-- a recover is a nack with requeue of all that is outstanding (AMQP 0-9-1 1.8.3.16)
abbrev pub recovered : PathState → PathState
recovered s = answer_came 0 true Released s

abbrev pub path_by : Method91 → PathState → PathState
path_by (method.ChannelFlow active) s = owed ok.Flow s
path_by (method.ExchangeDeclare name kind passive durable deletes internal no_wait arguments) s =
    answered_if no_wait ok.Declare s
path_by (method.ConfirmSelect no_wait) s = answered_if no_wait ok.Select (selected s)
path_by (method.BasicConsume queue tag no_local no_ack exclusive no_wait arguments) s =
    consumed queue tag no_ack no_wait s
path_by (method.QueueDeclare queue passive durable exclusive deletes no_wait arguments) s =
    declare_came queue no_wait s
path_by (method.BasicGet queue no_ack) s = got queue no_ack s
path_by (method.BasicCancel tag no_wait) s = cancelled tag no_wait s
path_by (method.BasicQos size count global) s = owed (ok.Qos count global) s
path_by (method.BasicAck tag multiple) s = answer_came tag multiple Accepted s
path_by (method.BasicReject tag requeue) s = answer_came tag false (settle_by requeue) s
path_by (method.BasicNack tag multiple requeue) s = answer_came tag multiple (settle_by requeue) s
path_by (method.BasicRecover requeue) s = owed ok.Recover (recovered s)
path_by (method.BasicRecoverAsync requeue) s = recovered s
path_by (method.ChannelClose code text class id) s = closed_path s
path_by m s = s

-- a channel that is opened begins anew, as this life of the connection
abbrev pub paths_with : ℕ → ℕ → Method91 → List (Option PathState) → List (Option PathState)
paths_with life n method.ChannelOpen ps = set_path n (session.opened life) ps
paths_with life n m ps = with_path n (path_by m) ps

-- a refusal is the closing event of what it closes
abbrev pub refused_paths : Refusal → List (Option PathState) → List (Option PathState)
refused_paths r ps =
    if is_of_channel r then with_path r.channel closed_path ps else closed_paths ps

-- the paths of channels after what a unit of a client wants that takes frames of so many bytes
abbrev pub paths_by : List Route → ℕ → ℕ → Want91 → List (Option PathState)
    → List (Option PathState)
paths_by routes limit life want.Nothing ps = ps
paths_by routes limit life want.Start ps = ps
paths_by routes limit life (want.Login mechanism response) ps = ps
paths_by routes limit life want.Tuned ps = ps
paths_by routes limit life want.OpenUp ps = ps
paths_by routes limit life (want.Method n m) ps = paths_with (life + 1) n m ps
paths_by routes limit life (want.Publish n m c) ps =
    with_path n
    (published (address_of routes (message_of m c)) (image_text (message_of m c))
    (back_of limit n m (message_of m c))) ps
paths_by routes limit life (want.ChannelCloseOk n) ps = ps
paths_by routes limit life want.Close ps = closed_paths ps
paths_by routes limit life want.CloseOk ps = ps
paths_by routes limit life (want.Refuse r) ps = refused_paths r ps

abbrev pub opens_by_method : Method91 → ℕ
opens_by_method method.ChannelOpen = 1
opens_by_method m = 0

abbrev pub lives_opened : Want91 → ℕ
lives_opened (want.Method n m) = opens_by_method m
lives_opened x = 0

-- what a unit of the client wants is met; the connection closed before it, or not, and this is told
-- of a publish that is refused
abbrev pub met : Bool → Option Told → Want91 → State → State
met closing told x w = record w {
  pending = with_want x w.pending;
  lives = lives_by w.moment told x w.lives;
  paths = paths_by w.routes w.conn.limits.frame_max w.opened x w.paths;
  opened = w.opened + lives_opened x;
  up = closing_with closing (condition_by x) (keep_login x w.up);
  client_closed = w.client_closed || (not closing && is_close_want x);
}

-- the connection after a unit, what is due by that, and the moment of the first closing event
abbrev pub stepped : State → Unit91 → State
stepped w u =
    met (is_closing w.conn) (client_told w.routes w.conn u) (want_in w.routes w.paths w.conn u)
    (record w { conn = conn_step w.routes w.paths w.conn u })

abbrev pub came : State → Unit91 → State
came w u =
    let v = stepped w u in
    record v {
      pending = with_header (turns_foreign w.routes w.paths w.conn u) v.pending;
      fed_at = fed_by (is_held v) w.moment w.fed_at;
      closed_at = closes_at w.closed_at (is_closing v.conn) w.moment;
    }

-- ---- the upstream end

-- the connection upstream is there or not; a client whose container can't be reached is told so
abbrev pub joined : State → Linked → State
joined w link.Ok = record w { up = linked w.moment w.up; paths = told_paths w.paths }
joined w link.Failed =
    fail CONNECTION_FORCED None (record w { up = shut_by w.up; paths = told_paths w.paths })

-- the container opened: the client's connection runs, unless it closes already
abbrev pub runs : State → State
runs w = record w {
  conn = after_opened (channel_max_of w.up) w.conn;
  pending = record w.pending { open_ok = true };
}

abbrev pub opened : State → State
opened w = if is_opening w.conn then runs w else w

-- ---- sessions

-- the container is the cause that a channel closes, unless that is closing already
abbrev pub life_failed : ℕ → Refusal → Option Condition → (PathState → PathState) → State → State
life_failed n r why f w = record w {
  conn = after_closing scope.Channel n w.conn;
  lives = with_life n
      (failed_life true w.moment (reason_of None r) why (life_at w.lives n)) w.lives;
  paths = with_path n f w.paths;
}

abbrev pub fail_life : ℕ → ℕ → Option Condition → (PathState → PathState) → State → State
fail_life n code why f w =
    if is_open w.conn n then life_failed n (refusal_on n code) why f w else w

-- its session is lost, also where the channel is closing already: no publish of it waits for an
-- outcome any more, and no transfer that comes on its links counts (AMQP 1.0 2.5.6, 2.6.12)
abbrev pub session_lost : ℕ → State → State
session_lost n w = record w { paths = with_path n lost_path w.paths }

-- the session and its links after a performative of the container, by the code of its descriptor
-- (AMQP 1.0 2.7), on channel n of a client that takes frames of so many bytes
abbrev pub path_heard : ℕ → ℕ → Parts → List ℕ → PathState → PathState
path_heard limit n p payload s =
    if p.0 == 17 then session.began (number_at p.1 4) s
    else if p.0 == 18 then attach_by p.1 s
    else if p.0 == 19 && not (is_of_session p.1) then link_flowed p.1 s
    else if p.0 == 20 then transferred limit n p.1 payload s
    else if p.0 == 21 then outcome_by p.1 s
    else if p.0 == 22 then
    detach_came (number_at p.1 0) (is_not_found (condition_in (field p.1 2))) s
    else if p.0 == 23 then lost_path s
    else s

abbrev pub carried : ℕ → Parts → List ℕ → State → State
carried n p payload w = record w {
  lives = with_state n (carried_by p (life_at w.lives n).session) w.lives;
  paths = with_path n (path_heard w.conn.limits.frame_max n p payload) w.paths;
}

abbrev pub begun_session : ℕ → State → State
begun_session n w = record w { lives = with_life n (begun_life (life_at w.lives n)) w.lives }

-- what one closes that is wrong (AMQP 1.0 2.5.6, 2.6.2, 2.6.3, 2.6.7, 2.7.5): an attach under a
-- name that isn't asked for with the other role, or with a handle in use, the connection; a flow or
-- a detach of a handle that isn't attached, and a transfer past the window, of a sending link or of
-- none, or with a wrong field, the channel
abbrev pub unattached : Bool → Option Scope
unattached true = None
unattached false = Some scope.Channel

abbrev pub attach_scope : Option AttachFault → Option Scope
attach_scope None = None
attach_scope (Some f) = Some scope.Connection

abbrev pub transfer_scope : Option Condition → Option Scope
transfer_scope None = None
transfer_scope (Some c) = Some scope.Channel

abbrev pub link_scope : Parts → List ℕ → SessionState → PathState → Option Scope
link_scope p payload x s =
    if p.0 == 18 then attach_scope (attach_fault_by p.1 s)
    else if p.0 == 19 && not (is_of_session p.1) then unattached (is_attached (number_at p.1 4) s)
    else if p.0 == 20 then transfer_scope (transfer_error p.1 payload x s)
    else if p.0 == 22 then unattached (is_attached (number_at p.1 0) s)
    else None

-- and with which error
abbrev pub attach_condition : Option AttachFault → Condition
attach_condition None = NotAllowed
attach_condition (Some NotAsked) = NotAllowed
attach_condition (Some HandleInUse) = condition.HandleInUse

abbrev pub closing_error : Parts → PathState → Condition
closing_error p s = attach_condition (attach_fault_by p.1 s)

abbrev pub or_unattached : Option Condition → Condition
or_unattached None = UnattachedHandle
or_unattached (Some c) = c

abbrev pub ending_error : Parts → List ℕ → SessionState → PathState → Condition
ending_error p payload x s =
    if p.0 == 20 then or_unattached (transfer_error p.1 payload x s) else UnattachedHandle

-- one that isn't at fault closes the channel with this code: an end, a detach of a receiving link
-- that the channel needs, and a transfer that passes a limit of its link (AMQP 1.0 2.6.5, 2.7.3,
-- 2.7.9)
abbrev pub closing_code : Parts → List ℕ → PathState → Option ℕ
closing_code p payload s =
    if p.0 == 23 then Some (code_by (condition_in (field p.1 0)) scope.Channel)
    else if (p.0 == 22) && closes_channel (number_at p.1 0) s then
    Some (code_by (condition_in (field p.1 2)) scope.Channel)
    else if (p.0 == 20) && is_some (fault_in p.1 payload s) then Some PRECONDITION_FAILED
    else None

abbrev pub closed_for : ℕ → Option ℕ → State → State
closed_for n None w = w
closed_for n (Some code) w = fail_life n code None closed_path w

abbrev pub met_session : ℕ → Parts → Option ℕ → State → State
met_session n p code w = if p.0 == 17 then begun_session n w else closed_for n code w

-- the windows of the session alone
abbrev pub windowed : ℕ → Parts → State → State
windowed n p w =
    record w { lives = with_state n (carried_by p (life_at w.lives n).session) w.lives }

-- where it is at fault, that alone counts, but for the windows
abbrev pub scoped : Option Scope → ℕ → Parts → List ℕ → State → State
scoped None n p payload w =
    met_session n p (closing_code p payload (path_at w.paths n)) (carried n p payload w)
scoped (Some scope.Connection) n p payload w =
    fail INTERNAL_ERROR (Some (closing_error p (path_at w.paths n))) (windowed n p w)
scoped (Some scope.Channel) n p payload w =
    fail_life n PRECONDITION_FAILED
    (Some (ending_error p payload (life_at w.lives n).session (path_at w.paths n))) closed_path
    (session_lost n (windowed n p w))

abbrev pub with_session : ℕ → Parts → List ℕ → State → State
with_session n p payload w =
    scoped (link_scope p payload (life_at w.lives n).session (path_at w.paths n)) n p payload w

-- what a unit of the container means: a refused login isn't allowed, a close has the code of its
-- condition, and a unit out of order is an error of the container
abbrev pub with_meaning : Meaning → State → State
with_meaning ten.Nothing w = w
with_meaning ten.Init w = record w { up = with_init w.up }
with_meaning ten.AmqpHeader w = record w { up = with_amqp_header w.up }
with_meaning ten.Opened w = opened w
with_meaning (ten.OfSession g p payload) w = with_session g p payload w
with_meaning (ten.Closed e) w = fail (code_by (condition_in e) scope.Connection) None w
with_meaning ten.Refused w = fail NOT_ALLOWED None w
with_meaning (ten.Violation c) w = fail INTERNAL_ERROR (Some c) w

abbrev pub heard : State → Unit10 → State
heard w u = with_meaning (meaning_by w.up.container u) (record w { up = heard_up u w.up })

-- nothing of the container is waited for on a channel: the same, or its session has no begin or the
-- container's end
abbrev pub is_channel_settled : State → ℕ → Bool
is_channel_settled w n = is_settled w || is_done (session_in w.up.container n)

-- channel.open waits for the container's begin, basic.consume for its attach, basic.get for
-- a delivery or a flow, and channel.close of an open channel for its end; the closing event of the
-- connection decides all
abbrev pub life_waits : State → ℕ → Life → Bool
life_waits w n l =
    not (is_closing w.conn)
    && (l.waits || (is_waiting (path_at w.paths n)
    || (l.awaits_end && not (is_channel_settled w n))))

-- the container ended the session of a life whose channel may be opened again, and the gateway's
-- end didn't go yet, nor the dispositions before it (AMQP 1.0 2.5.5, 2.7.6)
abbrev pub leaves_end : State → ℕ → Life → Bool
leaves_end w n l =
    not (is_closing w.conn) && (is_clear l && is_ended (session_in w.up.container n))

-- a channel is opened again once that went
abbrev pub waits : State → Waits
waits w = record {
  opening = is_opening w.conn;
  some = is_opening w.conn || (close_waits w || any_life (life_waits w) 0 w.lives);
  channel = λ n. life_waits w n (life_at w.lives n) || leaves_end w n (life_at w.lives n);
}

-- ---- taking up

-- the place of the unit that is taken up next: none is while many publishes are held
abbrev pub place : State → Option ℕ
place w = if is_laden w.paths then None else place_in (waits w) w.queue

abbrev pub next_unit : State → Option Unit91
next_unit w = unit_at (place w) w.queue

abbrev pub dequeued : State → State
dequeued w = record w { queue = without_at (place w) w.queue }

-- ---- lines of the report

-- those that a moment, a read, a take-up of what the client sent, a connect, the loss of the
-- upstream end or the end of a session made owed are reported before the next of these, and before
-- the pair runs out of memory outside of them: by rising number of the life
abbrev pub owed_lines : State → List LostItem
owed_lines w = lines_in w.paths w.opened

-- ---- reads

abbrev pub fed : State → End → State
fed w Client = record w { fed_at = w.moment; paths = told_paths w.paths }
fed w Up = record w { up = record w.up { fed_at = w.moment }; paths = told_paths w.paths }

-- ---- a moment

-- no connection.open came within the handshake limit
abbrev pub is_limit_reached : Connection → ℕ → ℕ → Bool
is_limit_reached c accepted ms = not c.asked && nat_le HANDSHAKE_LIMIT (ms - accepted)

-- that is the closing event of the connection, unless it closed before
abbrev pub close_if : Bool → Connection → Connection
close_if true c = close c
close_if false c = c

abbrev pub told : State → ℕ → State
told w ms =
    let late = is_limit_reached w.conn w.accepted_at ms in
    record w {
      conn = close_if late w.conn;
      paths = told_paths w.paths;
      moment = ms;
      fed_at = fed_by (is_held w) ms w.fed_at;
      closed_at = closes_at w.closed_at late ms;
      late = w.late || late;
    }

-- ---- the client's end

-- the client's end ended, and that was taken up
abbrev pub has_left : Stream91 → Bool
has_left stream.Header = false
has_left stream.Frames = false
has_left stream.Foreign = false
has_left stream.Bad = false
has_left stream.Answered = false
has_left stream.Ended = true

-- what was reported before isn't again
abbrev pub paths_lost : List (Option PathState) → List (Option PathState)
paths_lost ps = map (option_map end_lost) (told_paths ps)

-- the upstream end is lost: the client is told so
abbrev pub lost_up : Side → State → State
lost_up x w =
    fail CONNECTION_FORCED None
    (record w { up = lost_by x w.up; paths = paths_lost w.paths })

-- the first of both that comes is taken up in its place
abbrev pub lost : State → End → Loss → State
lost w Client loss.Ended = record w { leaving = w.leaving || not (has_left w.conn.stream) }
lost w Client loss.Failed =
    record w { leaving = w.leaving || not (has_left w.conn.stream); failed = true }
lost w Client loss.Shut = record w { gone = true }
lost w Up loss.Ended = lost_up side.Ended w
lost w Up loss.Failed = lost_up side.Failed w
lost w Up loss.Shut = record w { up = shut_by w.up; paths = paths_lost w.paths }

-- an end is taken up as a connection.close that wants no answer
abbrev pub left : State → State
left w = record w {
  conn = after_ended w.conn;
  paths = closed_paths w.paths;
  pending = record w.pending { close = None };
  up = closing_with (is_closing w.conn) None w.up;
  closed_at = closes_at w.closed_at true w.moment;
  leaving = false;
}

-- ---- silence

-- a client that is given up is one whose end ended, whatever waits: that is passed over. A
-- container that is fails, and the client is told so
abbrev pub silenced : State → End → State
silenced w Client = record (left w) { queue = []; given_up = true }
silenced w Up =
    fail CONNECTION_FORCED (Some ResourceLimitExceeded)
    (record w { up = record w.up { silent = true } })

-- ---- out of memory

-- before the client's header nothing is due any more; once the gateway closed, its close; once the
-- client did, its close-ok; else a close of the gateway's for that
abbrev pub last_pending : Phase91 → Pending → Pending
last_pending phase.Header p = none_pending
last_pending phase.Start p = record none_pending { no_memory = true }
last_pending phase.Tune p = record none_pending { no_memory = true }
last_pending phase.Open p = record none_pending { no_memory = true }
last_pending phase.Running p = record none_pending { no_memory = true }
last_pending phase.Closing p = record none_pending { close = p.close }
last_pending phase.Closed p = record none_pending { close_ok = p.close_ok }

abbrev pub ran_out : State → State
ran_out w = record w {
  conn = close w.conn;
  paths = closed_paths w.paths;
  pending = last_pending w.conn.phase w.pending;
  up = closing_with (is_closing w.conn) (Some (condition_of RESOURCE_ERROR)) w.up;
  queue = [];
  closed_at = closes_at w.closed_at true w.moment;
  out_of_memory = true;
}

-- ---- a unit that goes

-- a unit is due no more once its first byte was sent
abbrev pub without : Reply → Pending → Pending
without reply.Protocol p = record p { protocol = false }
without reply.Start p = record p { start = false }
without reply.Tune p = record p { tune = false }
without reply.OpenOk p = record p { open_ok = false }
without reply.CloseOk p = record p { close_ok = false }
without (reply.Close r) p = record p { close = None }
without reply.NoMemory p = record p { no_memory = false }
without reply.Heartbeat p = p
without (reply.ChannelOpenOk n) p = p
without (reply.OnChannel n u) p = p
without (reply.ChannelCloseOk n) p = p
without (reply.CrossedOk n) p = p
without (reply.ChannelClose n r) p = p

-- the same on its channel
abbrev pub without_life : Reply → List Life → List Life
without_life reply.Protocol ls = ls
without_life reply.Start ls = ls
without_life reply.Tune ls = ls
without_life reply.OpenOk ls = ls
without_life reply.CloseOk ls = ls
without_life (reply.Close r) ls = ls
without_life reply.NoMemory ls = ls
without_life reply.Heartbeat ls = ls
without_life (reply.ChannelOpenOk n) ls = with_life n (record (life_at ls n) { open_ok = false }) ls
without_life (reply.OnChannel n u) ls = ls
without_life (reply.ChannelCloseOk n) ls =
    with_life n (record (life_at ls n) { close_ok = false }) ls
without_life (reply.CrossedOk n) ls = with_life n (record (life_at ls n) { crossed_ok = false }) ls
without_life (reply.ChannelClose n r) ls =
    with_life n (record (life_at ls n) { close = None; told = true }) ls

-- and what it makes of the connection: the gateway's channel.close-ok ends a life, and its
-- channel.close awaits an answer
abbrev pub conn_given : Reply → Connection → Connection
conn_given reply.Protocol c = c
conn_given reply.Start c = c
conn_given reply.Tune c = c
conn_given reply.OpenOk c = c
conn_given reply.CloseOk c = c
conn_given (reply.Close r) c = c
conn_given reply.NoMemory c = c
conn_given reply.Heartbeat c = c
conn_given (reply.ChannelOpenOk n) c = c
conn_given (reply.OnChannel n u) c = c
conn_given (reply.ChannelCloseOk n) c = after_closed n c
conn_given (reply.CrossedOk n) c = c
conn_given (reply.ChannelClose n r) c = after_told n c

-- a transfer frame of the gateway, and a flow of a link, in the windows of the session
abbrev pub session_by : SessionUnit → SessionState → SessionState
session_by (unit.Attach a) s = s
session_by (unit.Flow f) s = record s { windows = after_flow_sent s.windows }
session_by (unit.Transfer t) s = record s { windows = after_sent s.windows }
session_by (unit.Dispose x) s = s
session_by (unit.Settle x) s = s
session_by (unit.Detach link handle why) s = s

abbrev pub sessions_by : ℕ → SessionUnit → List Life → List Life
sessions_by n u ls = with_state n (session_by u (life_at ls n).session) ls

-- and of its links
abbrev pub path_given : SessionUnit → PathState → PathState
path_given (unit.Attach a) s = attach_sent a.name s
path_given (unit.Flow f) s = link_flow_sent s
path_given (unit.Transfer t) s = transfer_sent t.frame t.bytes s
path_given (unit.Dispose x) s = dispose_sent s
path_given (unit.Settle x) s = settle_sent s
path_given (unit.Detach link handle why) s = detach_sent s

-- an end would leave the path of a channel that is open; but none goes then (`MayEnd`, Releases)
abbrev pub is_later : Connection → UpUnit → Bool
is_later c (up.End n why) = is_open c n
is_later c u = false

abbrev pub paths_given_up : Bool → UpUnit → List (Option PathState) → List (Option PathState)
paths_given_up later (up.OnSession n u) ps = with_path n (path_given u) ps
paths_given_up later (up.End n why) ps =
    if later then told_paths ps else with_path n ended_path (told_paths ps)
paths_given_up later u ps = ps

abbrev pub is_attach : SessionUnit → Bool
is_attach (unit.Attach a) = true
is_attach u = false

-- the names of links count attaches in 64 bits
abbrev pub attached_by : UpUnit → ℕ → ℕ
attached_by (up.OnSession n u) k = if is_attach u then (k + 1) % 2 ^ 64 else k
attached_by u k = k

-- what a unit to the client makes of a channel's answers
abbrev pub path_told : ChannelUnit → PathState → PathState
path_told (to_client.Ok x) s = ok_sent s
path_told (to_client.Deliver d) s = deliver_sent d s
path_told (to_client.Content c) s = content_sent s
path_told (to_client.Confirm c) s = confirm_sent c s
path_told (to_client.Return r) s = return_sent r.publish s

abbrev pub paths_given : Reply → List (Option PathState) → List (Option PathState)
paths_given (reply.OnChannel n u) ps = with_path n (path_told u) ps
paths_given u ps = ps

-- the same of a unit to the container
abbrev pub without_begin : UpUnit → List Life → List Life
without_begin up.SaslHeader ls = ls
without_begin up.SaslInit ls = ls
without_begin up.AmqpHeader ls = ls
without_begin up.Open ls = ls
without_begin (up.Close why) ls = ls
without_begin up.Empty ls = ls
without_begin (up.OnSession n u) ls = sessions_by n u ls
without_begin (up.Flow n i o) ls = with_state n (flow_sent (life_at ls n).session) ls
without_begin (up.Begin n) ls = with_life n (record (life_at ls n) { begin = false }) ls
without_begin (up.End n why) ls = with_life n (record (life_at ls n) { why = None }) ls

abbrev pub gave : State → Outgoing → State
gave w (ToClient u) = record w {
  conn = conn_given u w.conn;
  pending = without u w.pending;
  in_progress = Some u;
  lives = without_life u w.lives;
  paths = paths_given u w.paths;
}
gave w (ToUp u) = record w {
  lives = without_begin u w.lives;
  paths = paths_given_up (is_later w.conn u) u w.paths;
  attached = attached_by u w.attached;
  up = begun u w.up;
}

abbrev pub with_last : Option Reply → SentLast → SentLast
with_last None s = s
with_last (Some reply.Protocol) s = record s { protocol = true }
with_last (Some reply.Start) s = s
with_last (Some reply.Tune) s = s
with_last (Some reply.OpenOk) s = s
with_last (Some reply.CloseOk) s = record s { close_ok = true }
with_last (Some (reply.Close r)) s = record s { close = true }
with_last (Some reply.NoMemory) s = record s { close = true }
with_last (Some reply.Heartbeat) s = s
with_last (Some (reply.ChannelOpenOk n)) s = s
with_last (Some (reply.OnChannel n u)) s = s
with_last (Some (reply.ChannelCloseOk n)) s = s
with_last (Some (reply.CrossedOk n)) s = s
with_last (Some (reply.ChannelClose n r)) s = s

-- the last frame of a content was sent whole
abbrev pub path_wrote : ChannelUnit → PathState → PathState
path_wrote (to_client.Ok x) s = s
path_wrote (to_client.Deliver d) s = s
path_wrote (to_client.Content c) s = if c.last then content_whole c.tag s else s
path_wrote (to_client.Confirm c) s = s
path_wrote (to_client.Return r) s = s

abbrev pub paths_wrote : Option Reply → List (Option PathState) → List (Option PathState)
paths_wrote (Some (reply.OnChannel n u)) ps = with_path n (path_wrote u) ps
paths_wrote u ps = ps

abbrev pub wrote : State → End → State
wrote w Client = record w {
  in_progress = None;
  paths = paths_wrote w.in_progress w.paths;
  sent_last = with_last w.in_progress w.sent_last;
  last_sent_at = w.moment;
}
wrote w Up = record w { up = finished w.moment w.up }

-- ---- all steps

-- what comes in is passed over after the pair ran out of memory
abbrev pub step : State → Step → State
step w (Began site number ms) = record w {
  number = number;
  routes = site.routes;
  conn = new_connection site.vhost;
  accepted_at = ms;
  moment = ms;
  last_sent_at = ms;
  fed_at = ms;
}
step w (Moment ms) = told w ms
step w (Fed end) = fed w end
step w (Silent end) = silenced w end
step w (Queued u) = if w.out_of_memory then w else record w { queue = w.queue ++ u ∷ [] }
step w (Came u) = if w.out_of_memory then w else came (dequeued w) u
step w TakenUp = if not w.out_of_memory && w.leaving then left w else w
step w (Heard u) = if w.out_of_memory then w else heard w u
step w (Joined answer) = joined w answer
step w (Lost end how) = lost w end how
step w (Gave u text) = gave w u
step w (Whole end) = wrote w end
step w LinesTold = record w { paths = told_paths w.paths }
step w OutOfMemory = ran_out w

abbrev pub before : List Step → State
before [] = new_state (record { vhost = []; routes = [] }) 0 0
before (s ∷ h) = step (before h) s
