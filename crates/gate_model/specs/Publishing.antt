-- What each channel carries, by the steps: the events of its life in progress, newest first; the
-- confirms and the transfers that go, by these; and the payloads that these carry.
use Rattle.std.specs.Prelude.{◌≡◌, ℕ, ◌+◌, ◌==◌, ◌≤◌, nat_lt, length, take}
use Rattle.std.specs.Prelude.{Bool, true, false, not, ◌&&◌, if◌then◌else◌, List}
use Rattle.std.specs.Prelude.{[], ◌∷◌, ◌++◌, Option, None, Some, drop}
use Rattle.open_items.specs.Numbers.{first}
use Rattle.close_translate.specs.declared.conditions.Scope.{Scope}
use Rattle.close_translate.specs.declared.conditions.Scope.TheVariants as scope
use Rattle.gate_outside.specs.declared.ports.End.TheVariants.{Client, Up}
use Rattle.gate_outside.specs.declared.ports.Linked.TheVariants as link
use Rattle.gate_relay.specs.declared.loss.Loss.TheVariants as loss
use Rattle.machine_091.specs.State.{is_open}
use Rattle.machine_091.specs.declared.state.Connection.{Connection}
use Rattle.machine_091.specs.declared.unit.Want91.{Want91}
use Rattle.machine_091.specs.declared.unit.Want91.TheVariants as want
use Rattle.machine_10.specs.Parts.{Parts}
use Rattle.machine_10.specs.Reading.{field, number_at, number_in}
use Rattle.machine_10.specs.Transitions as ten
use Rattle.machine_10.specs.Transitions.{Meaning}
use Rattle.methods_091.specs.declared.method.Method91.{Method91}
use Rattle.methods_091.specs.declared.method.Method91.TheVariants as method
use Rattle.property_map.specs.Spelling.{image_text}
use Rattle.publish_path.specs.Journal.{fate_of, next_id_of, rest_by}
use Rattle.publish_path.specs.Laws.{IsFrontOf, IsLawfulConfirm, frame_by, return_by}
use Rattle.publish_path.specs.declared.publish.Confirm.{Confirm}
use Rattle.publish_path.specs.declared.publish.NextReturn.{NextReturn}
use Rattle.session_path.specs.Events as event
use Rattle.session_path.specs.Events.{PathEvent, after_events, publishes_of}
use Rattle.session_path.specs.Links.{handle_at}
use Rattle.session_path.specs.Path.{PathState}
use Rattle.session_path.specs.declared.path.PathOk.TheVariants as ok
use Rattle.gate_model.specs.declared.channel.ChannelUnit.{ChannelUnit}
use Rattle.gate_model.specs.declared.channel.ChannelUnit.TheVariants as to_client
use Rattle.gate_model.specs.declared.channel.SessionUnit.{SessionUnit}
use Rattle.gate_model.specs.declared.channel.SessionUnit.TheVariants as unit
use Rattle.gate_model.specs.declared.channel.TransferOut.{TransferOut}
use Rattle.gate_model.specs.declared.outgoing.Outgoing.TheVariants.{ToClient, ToUp}
use Rattle.gate_model.specs.declared.outgoing.UpUnit.{UpUnit}
use Rattle.gate_model.specs.declared.outgoing.UpUnit.TheVariants as up
use Rattle.gate_model.specs.declared.reply.Reply.{Reply}
use Rattle.gate_model.specs.declared.reply.Reply.TheVariants as reply
use Rattle.gate_model.specs.Folds.{routes_in}
use Rattle.gate_model.specs.Folds.{Peers, carrying, connection, container, going_in, leaving_in}
use Rattle.gate_model.specs.Folds.{paths_in, peers, ran_out_in, scope_in}
use Rattle.gate_model.specs.Once.{is_channel_open, is_method_on}
use Rattle.gate_model.specs.Paths.{content_of, credit_of, fault_in, heard_as, is_again}
use Rattle.gate_model.specs.Paths.{is_not_found, is_outcome, name_in, outcome_in, part_in, path_at}
use Rattle.gate_model.specs.Paths.{received_at}
use Rattle.gate_model.specs.Paths.{text_of}
use Rattle.consume_path.specs.declared.delivery.Settle.TheVariants.{Accepted, Released}
use Rattle.consume_path.specs.declared.receiving.Part.{Part}
use Rattle.consume_path.specs.declared.receiving.TransferFault.{TransferFault}
use Rattle.machine_091.specs.declared.unit.Refusal.{Refusal}
use Rattle.std.specs.Option.{option_map}
use Rattle.types_10.specs.Tree.{Tree}
use Rattle.gate_model.specs.Lives.{is_of_channel}
use Rattle.gate_model.specs.Requests.{address_of, message_of}
use Rattle.gate_model.specs.Returns.{back_of}
use Rattle.gate_model.specs.declared.setup.Route.{Route}
use Rattle.gate_model.specs.Session.{is_of_session, is_true}
use Rattle.gate_model.specs.State.{Began, Came, Fed, Gave, Heard, Joined, LinesTold, Lost, Moment}
use Rattle.gate_model.specs.State.{OutOfMemory, Queued, Silent, Step, TakenUp, Whole, conn_step}
use Rattle.gate_model.specs.State.{closing_code, is_later, settle_by, want_in}
use Rattle.gate_model.specs.Upstream.{condition_in, meaning_by}

-- ---- the client's requests

-- an answer is owed, unless the request wants none (AMQP 0-9-1 1.4.2.1)
abbrev pub owed_unless : Bool → PathEvent → List PathEvent
owed_unless true x = []
owed_unless false x = x ∷ []

-- channel.flow, exchange.declare, queue.declare, confirm.select, basic.consume, get, cancel and
-- qos, and the answers to deliveries; and channel.close
abbrev pub method_events : Method91 → List PathEvent
method_events (method.ChannelFlow active) = event.Owed ok.Flow ∷ []
method_events
    (method.ExchangeDeclare name kind passive durable deletes internal no_wait arguments) =
    owed_unless no_wait (event.Owed ok.Declare)
method_events (method.ConfirmSelect no_wait) =
    owed_unless no_wait (event.Owed ok.Select) ++ event.Selected ∷ []
method_events
    (method.BasicConsume queue tag no_local no_ack exclusive no_wait arguments) =
    event.Consumed queue tag no_ack no_wait ∷ []
method_events (method.QueueDeclare queue passive durable exclusive deletes no_wait arguments) =
    event.Declared queue no_wait ∷ []
method_events (method.BasicGet queue no_ack) = event.GetAsked queue no_ack ∷ []
method_events (method.BasicCancel tag no_wait) = event.CancelCame tag no_wait ∷ []
method_events (method.BasicQos size count global) = event.Owed (ok.Qos count global) ∷ []
method_events (method.BasicAck tag multiple) = event.AnswerCame tag multiple Accepted ∷ []
method_events (method.BasicReject tag requeue) =
    event.AnswerCame tag false (settle_by requeue) ∷ []
method_events (method.BasicNack tag multiple requeue) =
    event.AnswerCame tag multiple (settle_by requeue) ∷ []
method_events (method.BasicRecover requeue) =
    event.Owed ok.Recover ∷ event.AnswerCame 0 true Released ∷ []
method_events (method.BasicRecoverAsync requeue) = event.AnswerCame 0 true Released ∷ []
method_events (method.ChannelClose code text class id) = event.LifeClosed ∷ []
method_events m = []

-- a refusal is the closing event of its channel, or of all
abbrev pub refusal_events : ℕ → Refusal → List PathEvent
refusal_events n r =
    if is_of_channel r then (if r.channel == n then event.LifeClosed ∷ [] else [])
    else event.LifeClosed ∷ []

-- of channel n, by what a unit of a client wants that takes frames of so many bytes; a whole
-- publish is taken up with the text of its image and the frames of its return
abbrev pub want_events : List Route → ℕ → ℕ → Want91 → List PathEvent
want_events routes limit n want.Nothing = []
want_events routes limit n want.Start = []
want_events routes limit n (want.Login mechanism response) = []
want_events routes limit n want.Tuned = []
want_events routes limit n want.OpenUp = []
want_events routes limit n (want.Method k m) = if k == n then method_events m else []
want_events routes limit n (want.Publish k m c) =
    if k == n then
    event.Published (address_of routes (message_of m c)) (image_text (message_of m c))
    (back_of limit k m (message_of m c)) ∷ [] else []
want_events routes limit n (want.ChannelCloseOk k) = []
want_events routes limit n want.Close = event.LifeClosed ∷ []
want_events routes limit n want.CloseOk = []
want_events routes limit n (want.Refuse r) = refusal_events n r

-- ---- the container

-- an attach under a name that is no link's is no event (AMQP 1.0 2.6.1)
abbrev pub attach_events : Option ℕ → List Tree → List PathEvent
attach_events None ts = []
attach_events (Some name) ts = event.AttachCame (heard_as ts name) ∷ []

-- a transfer, and what goes to the client of the message that it ends; one that passes a limit of
-- its link is no part of a delivery
abbrev pub arrival_event : ℕ → ℕ → ℕ → Part → List ℕ → PathState → PathEvent
arrival_event limit n peer part payload s =
    let r = received_at limit peer payload s in
    event.TransferCame peer part payload (option_map (content_of limit n) r) (is_again r)

abbrev pub transfer_event : Option TransferFault → ℕ → ℕ → ℕ → Part → List ℕ → PathState → PathEvent
transfer_event None limit n peer part payload s = arrival_event limit n peer part payload s
transfer_event (Some fault) limit n peer part payload s = event.LinkFailed peer fault

-- a performative of a session, by the code of its descriptor (AMQP 1.0 2.7), on channel n of a
-- client that takes frames of so many bytes: begin, attach, the flow of a link, transfer, a
-- disposition with an outcome, detach, end
abbrev pub heard_events : ℕ → ℕ → Parts → List ℕ → PathState → List PathEvent
heard_events limit n p payload s =
    if p.0 == 17 then event.Began (number_at p.1 4) ∷ []
    else if p.0 == 18 then attach_events (name_in (text_of (field p.1 0))) p.1
    else if p.0 == 19 && not (is_of_session p.1) then
    event.FlowCame (number_at p.1 4) (number_in (field p.1 5)) (credit_of (number_in (field p.1 6)))
    (is_true (field p.1 8)) (is_true (field p.1 9)) ∷ []
    else if p.0 == 20 then
    transfer_event (fault_in p.1 payload s) limit n (number_at p.1 0) (part_in p.1) payload s ∷ []
    else if p.0 == 21 then
    (if is_outcome p.1 then event.DispositionCame (number_at p.1 1) (number_in (field p.1 2))
    (outcome_in (field p.1 4)) (is_true (field p.1 3)) ∷ [] else [])
    else if p.0 == 22 then
    event.DetachCame (number_at p.1 0) (is_not_found (condition_in (field p.1 2))) ∷ []
    else if p.0 == 23 then event.SessionLost ∷ []
    else []

-- no link of a session is left, since its connection is lost or the gateway's end went; what the
-- report was owed before was reported
abbrev pub losing : List PathEvent
losing = event.SessionEnded ∷ event.LinesWent ∷ []

-- the upstream end is lost
abbrev pub losing_up : List PathEvent
losing_up = event.UpLost ∷ event.LinesWent ∷ []

-- where the container closes, is at fault or isn't there, the sessions are lost, also those of a
-- connection that closes already
abbrev pub failing : List PathEvent
failing = event.SessionEnded ∷ []

-- a channel that is open closes
abbrev pub closed_if : Bool → List PathEvent
closed_if true = event.LifeClosed ∷ []
closed_if false = []

-- where a session is at fault it is lost, also that of a channel that is closing already
abbrev pub ending : Connection → ℕ → List PathEvent
ending c k = closed_if (is_open c k) ++ event.SessionLost ∷ []

abbrev pub closing : Option ℕ → Connection → ℕ → List PathEvent
closing None c k = []
closing (Some code) c k = closed_if (is_open c k)

-- a performative of channel k, for channel n: some close their channel; one that is at fault closes
-- what it says, and is no other event (2.6.2, 2.6.3, 2.6.7)
abbrev pub fine_events : Connection → ℕ → Parts → List ℕ → PathState → List PathEvent
fine_events c k p payload s =
    (if p.0 == 17 then [] else closing (closing_code p payload s) c k)
    ++ heard_events c.limits.frame_max k p payload s

abbrev pub session_events : Connection → Option Scope → ℕ → ℕ → Parts → List ℕ → PathState
    → List PathEvent
session_events c None n k p payload s = if k == n then fine_events c k p payload s else []
session_events c (Some scope.Connection) n k p payload s = failing
session_events c (Some scope.Channel) n k p payload s = if k == n then ending c k else []

abbrev pub meaning_events : Peers → ℕ → Meaning → List PathEvent
meaning_events o n ten.Nothing = []
meaning_events o n ten.Init = []
meaning_events o n ten.AmqpHeader = []
meaning_events o n ten.Opened = []
meaning_events o n (ten.OfSession k p payload) =
    session_events o.client (scope_in o k p payload) n k p payload (path_at o.paths k)
meaning_events o n (ten.Closed e) = failing
meaning_events o n ten.Refused = failing
meaning_events o n (ten.Violation why) = failing

-- ---- units that went

abbrev pub told_event : ChannelUnit → PathEvent
told_event (to_client.Ok x) = event.OkSent x
told_event (to_client.Deliver d) = event.DeliverSent d
told_event (to_client.Content c) = event.ContentSent
told_event (to_client.Confirm c) = event.ConfirmWent c
told_event (to_client.Return r) = event.ReturnWent r.publish

abbrev pub reply_events : ℕ → Reply → List PathEvent
reply_events n reply.Protocol = []
reply_events n reply.Start = []
reply_events n reply.Tune = []
reply_events n reply.OpenOk = []
reply_events n reply.CloseOk = []
reply_events n (reply.Close r) = []
reply_events n reply.NoMemory = []
reply_events n reply.Heartbeat = []
reply_events n (reply.ChannelOpenOk k) = []
reply_events n (reply.OnChannel k u) = if k == n then told_event u ∷ [] else []
reply_events n (reply.ChannelCloseOk k) = []
reply_events n (reply.CrossedOk k) = []
reply_events n (reply.ChannelClose k r) = []

abbrev pub given_event : SessionUnit → PathEvent
given_event (unit.Attach a) = event.AttachSent a.name
given_event (unit.Flow f) = event.LinkFlowSent
given_event (unit.Transfer t) = event.TransferSent t.frame t.bytes
given_event (unit.Dispose x) = event.DisposeSent
given_event (unit.Settle x) = event.SettleSent x
given_event (unit.Detach link handle why) = event.DetachSent

-- the gateway's end loses the session, unless a later life of its channel is open; and what the
-- report was owed before was reported
abbrev pub up_events : Bool → ℕ → UpUnit → List PathEvent
up_events later n up.SaslHeader = []
up_events later n up.SaslInit = []
up_events later n up.AmqpHeader = []
up_events later n up.Open = []
up_events later n (up.Close why) = []
up_events later n up.Empty = []
up_events later n (up.OnSession k u) = if k == n then given_event u ∷ [] else []
up_events later n (up.Flow k i o) = []
up_events later n (up.Begin k) = []
up_events later n (up.End k why) = if not later && k == n then losing else event.LinesWent ∷ []

-- the last frame of a content was sent whole
abbrev pub wrote_event : ChannelUnit → List PathEvent
wrote_event (to_client.Ok x) = []
wrote_event (to_client.Deliver d) = []
wrote_event (to_client.Content c) = if c.last then event.ContentWhole c.tag ∷ [] else []
wrote_event (to_client.Confirm c) = []
wrote_event (to_client.Return r) = []

abbrev pub wrote_events : ℕ → Option Reply → List PathEvent
wrote_events n (Some (reply.OnChannel k u)) = if k == n then wrote_event u else []
wrote_events n u = []

-- ---- all steps

-- what a step behind h is on channel n. Nothing that comes counts after the pair ran out of memory
abbrev pub step_events : ℕ → List Step → Step → List PathEvent
step_events n h (Began site number ms) = []
step_events n h (Moment ms) = event.LinesWent ∷ []
step_events n h (Fed end) = event.LinesWent ∷ []
step_events n h (Silent Client) = event.LifeClosed ∷ []
step_events n h (Silent Up) = failing
step_events n h (Queued u) = []
step_events n h (Came u) =
    if ran_out_in h then []
    else want_events (routes_in h)
    (conn_step (routes_in h) (paths_in h) (connection h) u).limits.frame_max n
    (want_in (routes_in h) (paths_in h) (connection h) u)
step_events n h TakenUp =
    closed_if (not (ran_out_in h) && leaving_in h)
step_events n h (Heard u) =
    if ran_out_in h then []
    else meaning_events (peers h) n (meaning_by (container h) u)
step_events n h (Joined link.Ok) = event.LinesWent ∷ []
step_events n h (Joined link.Failed) = losing
step_events n h (Lost Client how) = []
step_events n h (Lost Up loss.Ended) = failing ++ losing_up
step_events n h (Lost Up loss.Failed) = failing ++ losing_up
step_events n h (Lost Up loss.Shut) = losing_up
step_events n h (Gave (ToClient u) text) = reply_events n u
step_events n h (Gave (ToUp u) text) = up_events (is_later (connection h) u) n u
step_events n h (Whole Client) = wrote_events n (going_in h)
step_events n h (Whole Up) = []
step_events n h LinesTold = event.LinesWent ∷ []
step_events n h OutOfMemory = event.LifeClosed ∷ []

-- it is a channel.open of channel n, which begins a life
abbrev pub opens_channel : ℕ → List Step → Step → Bool
opens_channel n h (Came u) =
    not (ran_out_in h)
    && is_method_on is_channel_open n (want_in (routes_in h) (paths_in h) (connection h) u)
opens_channel n h s = false

-- the events of the life in progress
abbrev pub path_events : List Step → ℕ → List PathEvent
path_events [] n = []
path_events (s ∷ h) n =
    if opens_channel n h s then [] else step_events n h s ++ path_events h n

-- its number: lives are counted on the connection, from 1
abbrev pub path_life : List Step → ℕ → Option ℕ
path_life [] n = None
path_life (s ∷ h) n =
    if opens_channel n h s then Some ((peers h).opened + 1) else path_life h n

-- ---- confirms

-- a confirm names a publish of the life in progress that waits for one, and each that it covers
-- has the outcome that it tells: an ack covers accepted ones alone (RabbitMQ's publisher confirms;
-- AMQP 0-9-1 1.8.3.13; AMQP 1.0 2.6.12, 3.4)
pub record MayConfirm (h : List Step) (n : ℕ) (c : Confirm) : Type 0 where
  pub life : ℕ
  pub lives : path_life h n ≡ Some life
  pub lawful : IsLawfulConfirm (publishes_of life (path_events h n)) c

abbrev pub MayTell : List Step → Reply → Type 0
MayTell h (reply.OnChannel n (to_client.Confirm c)) = MayConfirm h n c
MayTell h u = Unit {0}

-- each confirm that went is one of these
abbrev pub Confirms : List Step → Type 0
Confirms [] = Unit {0}
Confirms (Gave (ToClient u) text ∷ h) = MayTell h u × Confirms h
Confirms (s ∷ h) = Confirms h

-- ---- transfers

-- what is left of the payload of the publish with this number
abbrev pub left_of : ℕ → List PathEvent → ℕ → List ℕ
left_of life es number = rest_by (fate_of number (publishes_of life es))

-- a frame of a transfer that goes on channel n, with these bytes of a payload
pub record MayTransfer (h : List Step) (n : ℕ) (t : TransferOut) (text : List ℕ) : Type 0 where
  pub life : ℕ
  pub lives : path_life h n ≡ Some life
  -- a transfer that is begun goes on; else that of the least number that waits on an attached link
  -- with credit begins (AMQP 1.0 2.6.7, 2.6.12)
  pub frame : frame_by (after_events life (path_events h n)).links.sending
      (publishes_of life (path_events h n)) ≡ Some t.frame
  -- with the delivery-id of the next transfer, where it is the first (2.6.12, 2.7.5), and with the
  -- handle of its link (2.6.2)
  pub id : t.id ≡ next_id_of (publishes_of life (path_events h n))
  pub handle : t.handle
      ≡ handle_at t.frame.link (after_events life (path_events h n)).links.links
  -- the window of the session has room for it (2.5.6)
  pub room : 1 ≤ (carrying n h).windows.window
  -- it carries the first bytes that are left, and says whether more are (2.6.14, 2.7.5)
  pub part : text ≡ take t.bytes (left_of life (path_events h n) t.frame.publish)
  pub more : t.more ≡ nat_lt t.bytes (length (left_of life (path_events h n) t.frame.publish))

abbrev pub MayCarry : List Step → UpUnit → List ℕ → Type 0
MayCarry h (up.OnSession n (unit.Transfer t)) text = MayTransfer h n t text
MayCarry h u text = Unit {0}

-- each frame that went is one of these
abbrev pub Transfers : List Step → Type 0
Transfers [] = Unit {0}
Transfers (Gave (ToUp u) text ∷ h) = MayCarry h u text × Transfers h
Transfers (s ∷ h) = Transfers h

-- ---- whole payloads

-- the text of the image of a publish that is taken up on channel n
abbrev pub text_wanted : ℕ → Want91 → Option (List ℕ)
text_wanted n want.Nothing = None
text_wanted n want.Start = None
text_wanted n (want.Login mechanism response) = None
text_wanted n want.Tuned = None
text_wanted n want.OpenUp = None
text_wanted n (want.Method k m) = None
text_wanted n (want.Publish k m c) = if k == n then Some (image_text (message_of m c)) else None
text_wanted n (want.ChannelCloseOk k) = None
text_wanted n want.Close = None
text_wanted n want.CloseOk = None
text_wanted n (want.Refuse r) = None

abbrev pub text_taken : ℕ → List Step → Step → Option (List ℕ)
text_taken n h (Came u) =
    if ran_out_in h then None
    else text_wanted n (want_in (routes_in h) (paths_in h) (connection h) u)
text_taken n h s = None

-- how many publishes of the life in progress were taken up
abbrev pub one_more : Option (List ℕ) → ℕ → ℕ
one_more None count = count
one_more (Some text) count = count + 1

abbrev pub publishes_in : ℕ → List Step → ℕ
publishes_in n [] = 0
publishes_in n (s ∷ h) =
    if opens_channel n h s then 0 else one_more (text_taken n h s) (publishes_in n h)

-- the text of the image of that with this number; empty where there is none
abbrev pub image_by : Option (List ℕ) → Bool → List ℕ → List ℕ
image_by None this old = old
image_by (Some text) this old = if this then text else old

abbrev pub image_in : ℕ → ℕ → List Step → List ℕ
image_in n number [] = []
image_in n number (s ∷ h) =
    if opens_channel n h s then []
    else image_by (text_taken n h s) (number == publishes_in n h + 1) (image_in n number h)

-- the bytes that its frames carried, joined
abbrev pub joined_on : ℕ → ℕ → UpUnit → List ℕ → List ℕ → List ℕ
joined_on n number (up.OnSession k (unit.Transfer t)) text old =
    if k == n && number == t.frame.publish then old ++ text else old
joined_on n number u text old = old

abbrev pub joined_by : ℕ → ℕ → Step → List ℕ → List ℕ
joined_by n number (Gave (ToUp u) text) old = joined_on n number u text old
joined_by n number s old = old

abbrev pub joined_in : ℕ → ℕ → List Step → List ℕ
joined_in n number [] = []
joined_in n number (s ∷ h) =
    if opens_channel n h s then [] else joined_by n number s (joined_in n number h)

-- they are a front of that text: each byte once, in order
abbrev pub ArePieces : List Step → Type 0
ArePieces h = (n number : ℕ) → IsFrontOf (joined_in n number h) (image_in n number h)

-- and all of it, with the frame that says that no more follows (AMQP 1.0 2.6.14)
abbrev pub MayFinish : List Step → UpUnit → List ℕ → Type 0
MayFinish h (up.OnSession n (unit.Transfer t)) text =
    t.more ≡ false
    → joined_in n t.frame.publish h ++ text ≡ image_in n t.frame.publish h
MayFinish h u text = Unit {0}

abbrev pub EndWhole : List Step → Type 0
EndWhole [] = Unit {0}
EndWhole (Gave (ToUp u) text ∷ h) = MayFinish h u text × EndWhole h
EndWhole (s ∷ h) = EndWhole h

-- ---- returns

-- the frames of the return of a publish that is taken up on channel n; none where it isn't
-- mandatory
abbrev pub back_wanted : ℕ → ℕ → Want91 → Option (List (List ℕ))
back_wanted limit n want.Nothing = None
back_wanted limit n want.Start = None
back_wanted limit n (want.Login mechanism response) = None
back_wanted limit n want.Tuned = None
back_wanted limit n want.OpenUp = None
back_wanted limit n (want.Method k m) = None
back_wanted limit n (want.Publish k m c) =
    if k == n then Some (back_of limit k m (message_of m c)) else None
back_wanted limit n (want.ChannelCloseOk k) = None
back_wanted limit n want.Close = None
back_wanted limit n want.CloseOk = None
back_wanted limit n (want.Refuse r) = None

abbrev pub back_taken : ℕ → List Step → Step → Option (List (List ℕ))
back_taken n h (Came u) =
    if ran_out_in h then None
    else back_wanted (conn_step (routes_in h) (paths_in h) (connection h) u).limits.frame_max n
    (want_in (routes_in h) (paths_in h) (connection h) u)
back_taken n h s = None

-- those of the publish with this number; none where there is none
abbrev pub back_by : Option (List (List ℕ)) → Bool → List (List ℕ) → List (List ℕ)
back_by None this old = old
back_by (Some back) this old = if this then back else old

abbrev pub back_in : ℕ → ℕ → List Step → List (List ℕ)
back_in n number [] = []
back_in n number (s ∷ h) =
    if opens_channel n h s then []
    else back_by (back_taken n h s) (number == publishes_in n h + 1) (back_in n number h)

-- how many of them went
abbrev pub returned_on : ℕ → ℕ → ℕ → ChannelUnit → ℕ → ℕ
returned_on n number k (to_client.Ok x) count = count
returned_on n number k (to_client.Deliver d) count = count
returned_on n number k (to_client.Content c) count = count
returned_on n number k (to_client.Confirm c) count = count
returned_on n number k (to_client.Return r) count =
    if k == n && number == r.publish then count + 1 else count

abbrev pub returned_by : ℕ → ℕ → Step → ℕ → ℕ
returned_by n number (Gave (ToClient (reply.OnChannel k u)) text) count =
    returned_on n number k u count
returned_by n number s count = count

abbrev pub returned_in : ℕ → ℕ → List Step → ℕ
returned_in n number [] = 0
returned_in n number (s ∷ h) =
    if opens_channel n h s then 0 else returned_by n number s (returned_in n number h)

-- a frame of a return goes: of the publish whose return is begun, else of the least that the
-- container released, or whose address it doesn't know; it is the next one of those of its publish
-- (AMQP 0-9-1 1.8.3.8; AMQP 1.0 3.4.4)
pub record MayReturn (h : List Step) (n : ℕ) (r : NextReturn) (text : List ℕ) : Type 0 where
  pub life : ℕ
  pub lives : path_life h n ≡ Some life
  pub due : return_by (publishes_of life (path_events h n)) ≡ Some r
  pub frame : first (drop (returned_in n r.publish h) (back_in n r.publish h)) ≡ Some text

abbrev pub MayGoBack : List Step → Reply → List ℕ → Type 0
MayGoBack h (reply.OnChannel n (to_client.Return r)) text = MayReturn h n r text
MayGoBack h u text = Unit {0}

-- each that went is one of these
abbrev pub Returns : List Step → Type 0
Returns [] = Unit {0}
Returns (Gave (ToClient u) text ∷ h) = MayGoBack h u text × Returns h
Returns (s ∷ h) = Returns h
