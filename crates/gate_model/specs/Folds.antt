-- What the steps say of a client and of its container, by folds that know no state: both
-- connections, the replies to the client, the units that were sent, and moments. The laws speak of
-- these.
use Rattle.std.specs.Prelude.{ℕ, ◌==◌, Bool, true, false, not, ◌&&◌, if◌then◌else◌, List, [], ◌∷◌}
use Rattle.std.specs.Prelude.{◌++◌, ◌+◌, filter, Option, None, Some}
use Rattle.gate_outside.specs.declared.ports.End.TheVariants.{Client, Up}
use Rattle.gate_outside.specs.declared.ports.Linked.TheVariants as link
use Rattle.gate_relay.specs.declared.loss.Loss.TheVariants as loss
use Rattle.gate_relay.specs.declared.sides.Side.{Side}
use Rattle.gate_relay.specs.declared.sides.Side.TheVariants as side
use Rattle.close_translate.specs.Conditions.{code_by}
use Rattle.close_translate.specs.declared.codes.TheConstants.{CONNECTION_FORCED, INTERNAL_ERROR}
use Rattle.close_translate.specs.declared.codes.TheConstants.{NOT_ALLOWED}
use Rattle.close_translate.specs.declared.conditions.Scope.{Scope}
use Rattle.close_translate.specs.declared.conditions.Scope.TheVariants as scope
use Rattle.session_path.specs.Path.{PathState}
use Rattle.gate_model.specs.Paths.{closed_path, closed_paths, lost_path, ended_paths, no_paths}
use Rattle.gate_model.specs.Paths.{path_at, told_paths, with_path}
use Rattle.machine_091.specs.Calls.{after_closing, after_ended, after_opened}
use Rattle.machine_091.specs.State.{new_connection, is_closing, is_open, is_opening}
use Rattle.machine_091.specs.declared.state.Connection.{Connection}
use Rattle.machine_091.specs.declared.unit.Unit91.{Unit91}
use Rattle.machine_091.specs.declared.unit.Want91.{Want91}
use Rattle.machine_091.specs.declared.unit.Want91.TheVariants as want
use Rattle.machine_10.specs.Parts.{Parts}
use Rattle.machine_10.specs.Transitions as ten
use Rattle.machine_10.specs.Transitions.{Meaning}
use Rattle.machine_10.specs.declared.state.Upstream.{Upstream}
use Rattle.machine_10.specs.declared.unit.Unit10.{Unit10}
use Rattle.gate_model.specs.Lives.{is_of_channel}
use Rattle.gate_model.specs.declared.outgoing.Outgoing.TheVariants.{ToClient, ToUp}
use Rattle.gate_model.specs.declared.outgoing.UpUnit.{UpUnit}
use Rattle.gate_model.specs.declared.reply.Reply.{Reply}
use Rattle.gate_model.specs.declared.reply.Reply.TheVariants as reply
use Rattle.gate_model.specs.State.{Began, Came, Fed, Gave, Heard, Joined, LinesTold, Lost, Moment}
use Rattle.gate_model.specs.State.{Queued, Silent, Step, TakenUp, want_in}
use Rattle.gate_model.specs.State.{Whole, OutOfMemory, close, close_if, closes_at, conn_step}
use Rattle.gate_model.specs.State.{closing_code, conn_given, failure, is_limit_reached, link_scope}
use Rattle.gate_model.specs.State.{lives_opened, path_heard, paths_lost, paths_wrote}
use Rattle.gate_model.specs.Setup.{SiteText}
use Rattle.gate_model.specs.declared.setup.Route.{Route}
use Rattle.gate_model.specs.State.{is_later, paths_by, paths_given, paths_given_up, session_by}
use Rattle.gate_model.specs.State.{turns_foreign}
use Rattle.gate_model.specs.Upstream.{channel_max_in, condition_in, container_by, container_for}
use Rattle.gate_model.specs.Upstream.{container_given, ended_in}
use Rattle.gate_model.specs.Upstream.{meaning_by}
use Rattle.gate_model.specs.Due.{when}
use Rattle.gate_model.specs.Session.{carried_by, flow_sent, no_session}
use Rattle.gate_model.specs.declared.life.SessionState.{SessionState}
use Rattle.gate_model.specs.declared.outgoing.UpUnit.TheVariants as up

-- ---- moments

-- the moment of the accept
abbrev pub accepted_in : List Step → ℕ
accepted_in [] = 0
accepted_in (Began site n ms ∷ h) = ms
accepted_in (s ∷ h) = accepted_in h

-- the last moment
abbrev pub moment_in : List Step → ℕ
moment_in [] = 0
moment_in (Began site n ms ∷ h) = ms
moment_in (Moment ms ∷ h) = ms
moment_in (s ∷ h) = moment_in h

-- the moment at which the last unit was sent whole, that of the accept before
abbrev pub sent_at : List Step → ℕ
sent_at [] = 0
sent_at (Began site n ms ∷ h) = ms
sent_at (Whole Client ∷ h) = moment_in h
sent_at (s ∷ h) = sent_at h

-- the moment at which the container's last byte came, that of the connect before
abbrev pub up_fed_at : List Step → ℕ
up_fed_at [] = 0
up_fed_at (Joined link.Ok ∷ h) = moment_in h
up_fed_at (Fed Up ∷ h) = moment_in h
up_fed_at (s ∷ h) = up_fed_at h

-- ---- the client's end and its connection

-- the pair ran out of memory
abbrev pub ran_out_in : List Step → Bool
ran_out_in [] = false
ran_out_in (OutOfMemory ∷ h) = true
ran_out_in (s ∷ h) = ran_out_in h

-- the client's end failed
abbrev pub failed_in : List Step → Bool
failed_in [] = false
failed_in (Lost Client loss.Failed ∷ h) = true
failed_in (s ∷ h) = failed_in h

-- the client's end ended or failed, and that is or isn't taken up: the first of both counts
abbrev pub leaving_in : List Step → Bool
leaving_in [] = false
leaving_in (Lost Client loss.Ended ∷ h) = true
leaving_in (Lost Client loss.Failed ∷ h) = true
leaving_in (s ∷ h) = leaving_in h

-- it was shut
abbrev pub gone_in : List Step → Bool
gone_in [] = false
gone_in (Lost Client loss.Shut ∷ h) = true
gone_in (s ∷ h) = gone_in h

-- the client was given up
abbrev pub given_up_in : List Step → Bool
given_up_in [] = false
given_up_in (Silent Client ∷ h) = true
given_up_in (s ∷ h) = given_up_in h

-- ---- the container

-- how far the upstream end is
abbrev pub side_in : List Step → Side
side_in [] = side.Absent
side_in (Joined link.Ok ∷ h) = side.Open
side_in (Joined link.Failed ∷ h) = side.Gone
side_in (Lost Up loss.Ended ∷ h) = side.Ended
side_in (Lost Up loss.Failed ∷ h) = side.Failed
side_in (Lost Up loss.Shut ∷ h) = side.Gone
side_in (s ∷ h) = side_in h

-- the container was given up
abbrev pub silent_in : List Step → Bool
silent_in [] = false
silent_in (Silent Up ∷ h) = true
silent_in (s ∷ h) = silent_in h

-- the exchanges that the client may publish to; both connections, the paths of the channels and
-- their sessions: of the client, by its units, by the handshake limit, by its end and by what
-- happens upstream; of the container, by the client's login and the container's units; and how many
-- channels were opened. After the pair ran out of memory no unit counts
pub record Peers : Type 0 where
  pub routes : List Route
  pub client : Connection
  pub container : Option Upstream
  pub paths : List (Option PathState)
  pub opened : ℕ
  -- the session that carries each channel
  pub carried : ℕ → SessionState

-- the client's connection closes by the container's doing, unless it closes already: the paths are
-- lost in any case
abbrev pub peers_failed : Peers → Peers
peers_failed p = record p { client = close p.client; paths = ended_paths p.paths }

-- a channel does, if it is open
abbrev pub ended_on : Bool → ℕ → (PathState → PathState) → Peers → Peers
ended_on true n f p = record p {
  client = after_closing scope.Channel n p.client;
  paths = with_path n f p.paths;
}
ended_on false n f p = p

abbrev pub peers_ended : ℕ → (PathState → PathState) → Peers → Peers
peers_ended n f p = ended_on (is_open p.client n) n f p

-- a session is lost, whether its channel is closing or not
abbrev pub peers_parted : ℕ → Peers → Peers
peers_parted n p = record p { paths = with_path n lost_path p.paths }

-- after a unit of a session: what closes the channel, and what is wrong what it says
abbrev pub peers_closed : ℕ → Option ℕ → Peers → Peers
peers_closed n None p = p
peers_closed n (Some code) p = peers_ended n closed_path p

abbrev pub peers_met : ℕ → Parts → Option ℕ → Peers → Peers
peers_met n q code p = if q.0 == 17 then p else peers_closed n code p

abbrev pub peers_scoped : Option Scope → ℕ → Parts → List ℕ → Peers → Peers
peers_scoped None n q payload p =
    peers_met n q (closing_code q payload (path_at p.paths n)) (record p {
      paths = with_path n (path_heard p.client.limits.frame_max n q payload) p.paths;
    })
peers_scoped (Some scope.Connection) n q payload p = peers_failed p
peers_scoped (Some scope.Channel) n q payload p = peers_ended n closed_path (peers_parted n p)

-- the sessions after a performative, by the container's begin, flows and transfers (AMQP 1.0 2.7)
abbrev pub carried_on : ℕ → Parts → (ℕ → SessionState) → ℕ → SessionState
carried_on g q f n = if g == n then carried_by q (f n) else f n

-- what a performative of channel n closes that is wrong
abbrev pub scope_in : Peers → ℕ → Parts → List ℕ → Option Scope
scope_in p n q payload = link_scope q payload (p.carried n) (path_at p.paths n)

abbrev pub peers_session : ℕ → Parts → List ℕ → Peers → Peers
peers_session n q payload p =
    peers_scoped (scope_in p n q payload) n q payload
    (record p { carried = carried_on n q p.carried })

-- the client's connection after that: the container's open makes it run, and its close, a refused
-- login and a unit out of order close it
abbrev pub opened_by : Option Upstream → Connection → Connection
opened_by o c = if is_opening c then after_opened (channel_max_in o) c else c

abbrev pub peers_by : Meaning → Peers → Peers
peers_by ten.Nothing p = p
peers_by ten.Init p = p
peers_by ten.AmqpHeader p = p
peers_by ten.Opened p = record p { client = opened_by p.container p.client }
peers_by (ten.OfSession g q payload) p = peers_session g q payload p
peers_by (ten.Closed e) p = peers_failed p
peers_by ten.Refused p = peers_failed p
peers_by (ten.Violation why) p = peers_failed p

abbrev pub container_kept : Option Upstream → Want91 → Option Upstream
container_kept o want.Nothing = o
container_kept o want.Start = o
container_kept o (want.Login mechanism response) = Some (container_for mechanism response)
container_kept o want.Tuned = o
container_kept o want.OpenUp = o
container_kept o (want.Method n m) = o
container_kept o (want.Publish n m c) = o
container_kept o (want.ChannelCloseOk n) = o
container_kept o want.Close = o
container_kept o want.CloseOk = o
container_kept o (want.Refuse r) = o

abbrev pub peers_came : Peers → Unit91 → Peers
peers_came p u =
    let c = conn_step p.routes p.paths p.client u in
    let x = want_in p.routes p.paths p.client u in
    record p {
      client = c;
      container = container_kept p.container x;
      paths = paths_by p.routes c.limits.frame_max p.opened x p.paths;
      opened = p.opened + lives_opened x;
    }

abbrev pub peers_heard : Peers → Unit10 → Peers
peers_heard p u =
    peers_by (meaning_by p.container u) (record p { container = container_by p.container u })

-- the upstream end is lost
abbrev pub peers_lost : Peers → Peers
peers_lost p =
    peers_failed
    (record p { container = ended_in p.container; paths = paths_lost p.paths })

abbrev pub new_peers : SiteText → Peers
new_peers site = record {
  routes = site.routes;
  client = new_connection site.vhost;
  container = None;
  paths = no_paths;
  opened = 0;
  carried = λ n. no_session;
}

-- the client's end was taken up as its close
abbrev pub peers_left : Peers → Peers
peers_left p =
    record p { client = after_ended p.client; paths = closed_paths p.paths }

-- the sessions after a unit of the gateway: its flows and transfers
abbrev pub carried_sent : UpUnit → (ℕ → SessionState) → ℕ → SessionState
carried_sent (up.Flow m i o) f n = if m == n then flow_sent (f n) else f n
carried_sent (up.OnSession m u) f n = if m == n then session_by u (f n) else f n
carried_sent u f n = f n

-- the unit to the client that is between its first byte and its last
abbrev pub going_in : List Step → Option Reply
going_in [] = None
going_in (Gave (ToClient u) text ∷ h) = Some u
going_in (Whole Client ∷ h) = None
going_in (s ∷ h) = going_in h

-- what the report was owed of the paths was reported
abbrev pub peers_told : Peers → Peers
peers_told p = record p { paths = told_paths p.paths }

abbrev pub peers : List Step → Peers
peers [] = new_peers (record { vhost = []; routes = [] })
peers (Began site n ms ∷ h) = record (new_peers site) { carried = (peers h).carried }
peers (Moment ms ∷ h) = record (peers_told (peers h)) {
  client = close_if (is_limit_reached (peers h).client (accepted_in h) ms) (peers h).client;
}
peers (Fed end ∷ h) = peers_told (peers h)
peers (Silent Client ∷ h) = peers_left (peers h)
peers (Silent Up ∷ h) = peers_failed (peers h)
peers (Queued u ∷ h) = peers h
peers (Came u ∷ h) = if ran_out_in h then peers h else peers_came (peers h) u
peers (TakenUp ∷ h) =
    if not (ran_out_in h) && leaving_in h then peers_left (peers h) else peers h
peers (Heard u ∷ h) = if ran_out_in h then peers h else peers_heard (peers h) u
peers (Joined link.Ok ∷ h) = peers_told (peers h)
peers (Joined link.Failed ∷ h) = peers_failed (peers_told (peers h))
peers (Lost Client how ∷ h) = peers h
peers (Lost Up loss.Ended ∷ h) = peers_lost (peers h)
peers (Lost Up loss.Failed ∷ h) = peers_lost (peers h)
peers (Lost Up loss.Shut ∷ h) = record (peers h) { paths = paths_lost (peers h).paths }
peers (Gave (ToClient u) text ∷ h) = record (peers h) {
  client = conn_given u (peers h).client;
  paths = paths_given u (peers h).paths;
}
peers (Gave (ToUp u) text ∷ h) = record (peers h) {
  container = container_given u (peers h).container;
  paths = paths_given_up (is_later (peers h).client u) u (peers h).paths;
  carried = carried_sent u (peers h).carried;
}
peers (Whole Client ∷ h) =
    record (peers h) { paths = paths_wrote (going_in h) (peers h).paths }
peers (Whole Up ∷ h) = peers h
peers (LinesTold ∷ h) = peers_told (peers h)
peers (OutOfMemory ∷ h) = record (peers h) {
  client = close (peers h).client;
  paths = closed_paths (peers h).paths;
}

-- the paths of the channels
abbrev pub paths_in : List Step → List (Option PathState)
paths_in h = (peers h).paths

abbrev pub routes_in : List Step → List Route
routes_in h = (peers h).routes

abbrev pub connection : List Step → Connection
connection h = (peers h).client

abbrev pub container : List Step → Option Upstream
container h = (peers h).container

-- the moment of the closing event: the first at which the connection was closing
abbrev pub closed_in : List Step → Option ℕ
closed_in [] = None
closed_in (s ∷ h) = closes_at (closed_in h) (is_closing (connection (s ∷ h))) (moment_in (s ∷ h))

-- the session of a channel; it stays until the next begin
abbrev pub carrying : ℕ → List Step → SessionState
carrying n h = (peers h).carried n

-- ---- replies

-- the reply to what a unit wants: to the protocol header connection.start, to start-ok
-- connection.tune, to the client's close its close-ok, and to a refused unit the gateway's close
abbrev pub reply_to : Want91 → List Reply
reply_to want.Nothing = []
reply_to want.Start = reply.Start ∷ []
reply_to (want.Login mechanism response) = reply.Tune ∷ []
reply_to want.Tuned = []
reply_to want.OpenUp = []
reply_to (want.Method n m) = []
reply_to (want.Publish n m c) = []
reply_to (want.ChannelCloseOk n) = []
reply_to want.Close = reply.CloseOk ∷ []
reply_to want.CloseOk = []
reply_to (want.Refuse r) = if is_of_channel r then [] else reply.Close r ∷ []

-- bytes that begin no protocol header get the gateway's own
abbrev pub replies_to : List Route → List (Option PathState) → Connection → Unit91 → List Reply
replies_to routes ps c u =
    when (turns_foreign routes ps c u) reply.Protocol ++ reply_to (want_in routes ps c u)

-- a client whose connection isn't closing yet is told of a failure upstream
abbrev pub failure_to : Connection → ℕ → List Reply
failure_to c code = when (not (is_closing c)) (reply.Close (failure code))

-- what closes the connection
abbrev pub closes_connection : Option Scope → Bool
closes_connection None = false
closes_connection (Some scope.Connection) = true
closes_connection (Some scope.Channel) = false

-- the reply to what a unit of the container means: to its open connection.open-ok, where that is
-- awaited
abbrev pub reply_by : Peers → Meaning → List Reply
reply_by p ten.Nothing = []
reply_by p ten.Init = []
reply_by p ten.AmqpHeader = []
reply_by p ten.Opened = when (is_opening p.client) reply.OpenOk
reply_by p (ten.OfSession g q payload) =
    if closes_connection (scope_in p g q payload) then failure_to p.client INTERNAL_ERROR else []
reply_by p (ten.Closed e) = failure_to p.client (code_by (condition_in e) scope.Connection)
reply_by p ten.Refused = failure_to p.client NOT_ALLOWED
reply_by p (ten.Violation why) = failure_to p.client INTERNAL_ERROR

-- the replies to what the client sent and to what happened upstream, in their order; after the pair
-- ran out of memory units are passed over
abbrev pub replies : List Step → List Reply
replies [] = []
replies (Came u ∷ h) =
    if ran_out_in h then replies h
    else replies h ++ replies_to (routes_in h) (paths_in h) (connection h) u
replies (Heard u ∷ h) =
    if ran_out_in h then replies h
    else replies h ++ reply_by (peers h) (meaning_by (container h) u)
replies (Silent Up ∷ h) = replies h ++ failure_to (connection h) CONNECTION_FORCED
replies (Joined link.Failed ∷ h) = replies h ++ failure_to (connection h) CONNECTION_FORCED
replies (Lost Up loss.Ended ∷ h) = replies h ++ failure_to (connection h) CONNECTION_FORCED
replies (Lost Up loss.Failed ∷ h) = replies h ++ failure_to (connection h) CONNECTION_FORCED
replies (s ∷ h) = replies h

-- the units to the client of which the first byte was sent, in their order
abbrev pub sent : List Step → List Reply
sent [] = []
sent (Gave (ToClient u) text ∷ h) = sent h ++ u ∷ []
sent (s ∷ h) = sent h

-- those since the pair ran out of memory
abbrev pub sent_since : List Step → List Reply
sent_since [] = []
sent_since (OutOfMemory ∷ h) = []
sent_since (Gave (ToClient u) text ∷ h) = sent_since h ++ u ∷ []
sent_since (s ∷ h) = sent_since h

-- the steps before that
abbrev pub until_memory : List Step → List Step
until_memory [] = []
until_memory (OutOfMemory ∷ h) = h
until_memory (s ∷ h) = until_memory h

-- a unit of the connection that answers one of the client's; a heartbeat answers none
abbrev pub is_answer : Reply → Bool
is_answer reply.Heartbeat = false
is_answer (reply.ChannelOpenOk n) = false
is_answer (reply.OnChannel n u) = false
is_answer (reply.ChannelCloseOk n) = false
is_answer (reply.CrossedOk n) = false
is_answer (reply.ChannelClose n r) = false
is_answer u = true

-- units without the heartbeats among them
abbrev pub answers_of : List Reply → List Reply
answers_of us = filter is_answer us

-- ---- units to the container

-- those of which the first byte was sent, in their order
abbrev pub sent_up : List Step → List UpUnit
sent_up [] = []
sent_up (Gave (ToUp u) text ∷ h) = sent_up h ++ u ∷ []
sent_up (s ∷ h) = sent_up h

-- the moment at which the last of them was sent whole, that of the connect before
abbrev pub sent_up_at : List Step → ℕ
sent_up_at [] = 0
sent_up_at (Joined link.Ok ∷ h) = moment_in h
sent_up_at (Whole Up ∷ h) = moment_in h
sent_up_at (s ∷ h) = sent_up_at h

-- the pair's number
abbrev pub number_in : List Step → ℕ
number_in [] = 0
number_in (Began site n ms ∷ h) = n
number_in (s ∷ h) = number_in h
