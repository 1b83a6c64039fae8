-- The bytes of the units to a client and to a container, in the standards' terms.
use Rattle.std.specs.Prelude.{ℕ, true, false, List, [], ◌∷◌, ◌++◌, length, codes, decimal, Option}
use Rattle.std.specs.Prelude.{None, Some}
use Rattle.std.specs.Int.{w32, to_be_bytes}
use Rattle.close_translate.specs.Codes.{name_of}
use Rattle.close_translate.specs.declared.codes.TheConstants.{RESOURCE_ERROR}
use Rattle.frames_091.specs.declared.frame.Kind91.TheVariants.{Method, Heartbeat}
use Rattle.frames_091.specs.Frames.{frame_text}
use Rattle.frames_091.specs.Headers.{header_bytes}
use Rattle.machine_091.specs.declared.limits.TheConstants.{CHANNEL_MAX, FRAME_MAX, HEARTBEAT}
use Rattle.methods_091.specs.Closing.{control_text, close_text, close_ok_text}
use Rattle.methods_091.specs.Writing.{method_text}
use Rattle.methods_091.specs.declared.method.Method91.{Method91}
use Rattle.methods_091.specs.declared.method.Method91.TheVariants.{ChannelClose, ChannelCloseOk}
use Rattle.methods_091.specs.declared.method.Method91.TheVariants.{ChannelFlowOk, ChannelOpenOk}
use Rattle.methods_091.specs.declared.method.Method91.TheVariants.{ConnectionOpenOk, ConnectionTune}
use Rattle.frames_10.specs.Frames as frames_10
use Rattle.frames_10.specs.Headers as headers_10
use Rattle.frames_10.specs.declared.frame.Kind10.{Kind10}
use Rattle.frames_10.specs.declared.frame.Kind10.TheVariants.{Amqp, Sasl}
use Rattle.machine_10.specs.declared.limits.TheConstants as limits_10
use Rattle.consume_path.specs.Offers.{most_bytes}
use Rattle.consume_path.specs.declared.delivery.Settle as consume
use Rattle.consume_path.specs.declared.delivery.Settle.TheVariants as consumes
use Rattle.performatives_10.specs.Closing.{end_text, settle_text}
use Rattle.performatives_10.specs.declared.closing.Settle.{Settle}
use Rattle.performatives_10.specs.declared.closing.Settle.TheVariants as settle
use Rattle.gate_model.specs.Returns.{frame_with}
use Rattle.performatives_10.specs.Writing.{perf_text}
use Rattle.performatives_10.specs.declared.closing.Ending.TheVariants.{Close, End}
use Rattle.performatives_10.specs.declared.performative.Perf.{Perf}
use Rattle.performatives_10.specs.declared.performative.Perf.TheVariants as perf
use Rattle.machine_10.specs.declared.state.Upstream.{Upstream}
use Rattle.gate_model.specs.declared.outgoing.Outgoing.{Outgoing}
use Rattle.gate_model.specs.declared.outgoing.Outgoing.TheVariants.{ToClient, ToUp}
use Rattle.gate_model.specs.declared.outgoing.UpUnit.{UpUnit}
use Rattle.gate_model.specs.declared.outgoing.UpUnit.TheVariants as up
use Rattle.gate_model.specs.declared.reply.Reason.{Reason}
use Rattle.gate_model.specs.declared.reply.Reply.{Reply}
use Rattle.property_map.specs.Told.{told_text}
use Rattle.property_map.specs.declared.told.Told.{Told}
use Rattle.std.specs.Prelude.{if◌then◌else◌}
use Rattle.methods_091.specs.declared.method.Method91.TheVariants.{BasicAck, BasicConsumeOk}
use Rattle.methods_091.specs.declared.method.Method91.TheVariants.{BasicCancelOk, BasicGetEmpty}
use Rattle.methods_091.specs.declared.method.Method91.TheVariants.{BasicGetOk}
use Rattle.methods_091.specs.declared.method.Method91.TheVariants.{BasicNack}
use Rattle.methods_091.specs.declared.method.Method91.TheVariants.{BasicQosOk, BasicRecoverOk}
use Rattle.methods_091.specs.declared.method.Method91.TheVariants.{QueueDeclareOk}
use Rattle.methods_091.specs.declared.method.Method91.TheVariants.{ConfirmSelectOk}
use Rattle.methods_091.specs.declared.method.Method91.TheVariants.{ExchangeDeclareOk}
use Rattle.performatives_10.specs.declared.closing.Ending.TheVariants.{Detach}
use Rattle.performatives_10.specs.declared.performative.Source10.{Source10}
use Rattle.performatives_10.specs.declared.performative.Target10.{Target10}
use Rattle.publish_path.specs.declared.publish.Confirm.{Confirm}
use Rattle.session_path.specs.Links.{link_name}
use Rattle.session_path.specs.declared.path.PathOk.{PathOk}
use Rattle.session_path.specs.declared.path.PathOk.TheVariants as ok
use Rattle.session_path.specs.declared.path.Settling.{Settling}
use Rattle.gate_model.specs.declared.channel.AttachOut.{AttachOut}
use Rattle.gate_model.specs.declared.channel.ChannelUnit.{ChannelUnit}
use Rattle.gate_model.specs.declared.channel.ChannelUnit.TheVariants as channel_unit
use Rattle.gate_model.specs.declared.channel.LinkFlow.{LinkFlow}
use Rattle.gate_model.specs.declared.channel.SessionUnit.{SessionUnit}
use Rattle.gate_model.specs.declared.channel.SessionUnit.TheVariants as session_unit
use Rattle.gate_model.specs.Paths.{transfer_perf}
use Rattle.gate_model.specs.Setup.{SetupText}
use Rattle.open_items.specs.declared.lost.LostItem.{LostItem}
use Rattle.open_items.specs.declared.lost.LostKind.{LostKind}
use Rattle.open_items.specs.declared.lost.LostKind.TheVariants.{DeliveryLeft, DeliveryLost}
use Rattle.open_items.specs.declared.lost.LostKind.TheVariants.{PublishLost, PublishUnknown}
use Rattle.gate_model.specs.State.{State}
use Rattle.gate_model.specs.declared.limits.TheConstants.{HANDLE_MAX}
use Rattle.gate_model.specs.declared.timers.TheConstants.{IDLE_STATED}
use Rattle.gate_model.specs.declared.reply.Reply.TheVariants as reply

-- a short and a long string (AMQP 0-9-1 4.2.5.3)
abbrev pub short_string : List ℕ → List ℕ
short_string text = length text ∷ text

abbrev pub long_string : List ℕ → List ℕ
long_string text = to_be_bytes w32 (length text) ++ text

-- a field of a table: its name, and a value of type long string, table or boolean (AMQP 0-9-1
-- 4.2.5.5)
abbrev pub text_field : List ℕ → List ℕ → List ℕ
text_field name text = short_string name ++ codes "S" ++ long_string text

abbrev pub table_field : List ℕ → List ℕ → List ℕ
table_field name fields = short_string name ++ codes "F" ++ long_string fields

abbrev pub true_field : List ℕ → List ℕ
true_field name = short_string name ++ codes "t" ++ 1 ∷ []

-- a method frame on channel 0 (AMQP 0-9-1 4.2.4)
abbrev pub method_frame : List ℕ → List ℕ
method_frame payload = frame_text (record { kind = Method; channel = 0; payload = payload })

abbrev pub capabilities : List ℕ
capabilities =
    true_field (codes "publisher_confirms") ++ true_field (codes "basic.nack")
    ++ true_field (codes "per_consumer_qos")

abbrev pub properties : List ℕ
properties =
    text_field (codes "product") (codes "amqp-gate") ++ text_field (codes "version") (codes "1")
    ++ table_field (codes "capabilities") capabilities

-- connection.start: class 10, method 10, version 0-9, properties, mechanisms, locales (AMQP 0-9-1
-- 1.4.2.1)
unfoldable pub start_frame : List ℕ
start_frame =
    method_frame (0 ∷ 10 ∷ 0 ∷ 10 ∷ 0 ∷ 9 ∷ []
    ++ long_string properties ++ long_string (codes "PLAIN ANONYMOUS")
    ++ long_string (codes "en_US"))

-- connection.tune: the greatest number of a channel, the greatest size of a frame, and the interval
-- of heartbeats in seconds (AMQP 0-9-1 1.4.2.5)
unfoldable pub tune_frame : List ℕ
tune_frame = control_text (ConnectionTune CHANNEL_MAX FRAME_MAX HEARTBEAT)

-- a heartbeat (AMQP 0-9-1 4.2.7)
abbrev pub heartbeat_frame : List ℕ
heartbeat_frame = frame_text (record { kind = Heartbeat; channel = 0; payload = [] })

-- connection.open-ok, whose reserved field is empty (AMQP 0-9-1 1.4.2.8)
unfoldable pub open_ok_frame : List ℕ
open_ok_frame = control_text ConnectionOpenOk

-- ---- on a channel

abbrev pub channel_text : ℕ → Method91 → List ℕ
channel_text n m = frame_text (record { kind = Method; channel = n; payload = method_text m })

-- channel.open-ok, whose reserved field is an empty long string (AMQP 0-9-1 1.5.2.2)
abbrev pub open_ok_on : ℕ → List ℕ
open_ok_on n = channel_text n ChannelOpenOk

-- answers to requests, and confirms (AMQP 0-9-1 1.5.2.4 and 1.6.2.2; basic.ack 1.8.3.13; RabbitMQ's
-- confirm.select and basic.nack)
abbrev pub ok_method : PathOk → List ℕ → Method91
ok_method ok.Flow tag = ChannelFlowOk true
ok_method ok.Declare tag = ExchangeDeclareOk
ok_method ok.Select tag = ConfirmSelectOk
ok_method (ok.Consume link) tag = BasicConsumeOk tag
ok_method (ok.Qos count global) tag = BasicQosOk
ok_method ok.Cancel tag = BasicCancelOk tag
ok_method ok.Queue queue = QueueDeclareOk queue 0 0
-- which goes as a deliver does
ok_method ok.Get tag = BasicGetOk 0 false [] [] 0
ok_method (ok.Empty link) tag = BasicGetEmpty
ok_method ok.Recover tag = BasicRecoverOk

abbrev pub confirm_method : Confirm → Method91
confirm_method c =
    if c.ack then BasicAck c.number c.multiple else BasicNack c.number c.multiple false

-- the method of a deliver is carried, and a frame of a return or of a content stands as it goes
abbrev pub spell_told : ℕ → ChannelUnit → List ℕ → List ℕ
spell_told n (channel_unit.Ok x) text = channel_text n (ok_method x text)
spell_told n (channel_unit.Deliver d) text = frame_with Method n text
spell_told n (channel_unit.Content c) text = text
spell_told n (channel_unit.Confirm c) text = channel_text n (confirm_method c)
spell_told n (channel_unit.Return r) text = text

abbrev pub close_ok_on : ℕ → List ℕ
close_ok_on n = channel_text n ChannelCloseOk

-- the text of a channel.close: the name of its code, or of a fault and of the part of the message
-- that it is in
abbrev pub told_or : List ℕ → Option Told → List ℕ
told_or name None = name
told_or name (Some t) = told_text t

abbrev pub reason_text : Reason → List ℕ
reason_text r = told_or (name_of r.refusal.code) r.told

abbrev pub close_on : ℕ → Reason → List ℕ
close_on n r =
    channel_text n
    (ChannelClose r.refusal.code (reason_text r) r.refusal.class r.refusal.method)

-- the bytes of a unit to the client that carries this; a close has the name of its code as its
-- text, and the ids of the method that it refuses
abbrev pub spell_reply : Reply → List ℕ → List ℕ
spell_reply reply.Protocol text = header_bytes
spell_reply reply.Start text = start_frame
spell_reply reply.Tune text = tune_frame
spell_reply reply.OpenOk text = open_ok_frame
spell_reply reply.CloseOk text = close_ok_text
spell_reply (reply.Close r) text =
    close_text r.code (name_of r.code) r.class r.method
spell_reply reply.NoMemory text = close_text RESOURCE_ERROR (codes "NO_MEMORY") 0 0
spell_reply reply.Heartbeat text = heartbeat_frame
spell_reply (reply.ChannelOpenOk n) text = open_ok_on n
spell_reply (reply.OnChannel n u) text = spell_told n u text
spell_reply (reply.ChannelCloseOk n) text = close_ok_on n
spell_reply (reply.CrossedOk n) text = close_ok_on n
spell_reply (reply.ChannelClose n r) text = close_on n r

-- ---- lines of the report

abbrev pub what_name : LostKind → List ℕ
what_name PublishLost = codes " publish "
what_name PublishUnknown = codes " publish "
what_name DeliveryLeft = codes " delivery "
what_name DeliveryLost = codes " delivery "

abbrev pub fate_name : LostKind → List ℕ
fate_name PublishLost = codes " lost\n"
fate_name PublishUnknown = codes " unknown\n"
fate_name DeliveryLeft = codes " left\n"
fate_name DeliveryLost = codes " lost\n"

-- what became of a message: the pair, the life of the channel on it, the number in the life, and
-- what is known
abbrev pub line_text : ℕ → LostItem → List ℕ
line_text pair item =
    codes "pair " ++ (decimal pair ++ (codes " life " ++ (decimal item.life
    ++ (what_name item.kind ++ (decimal item.number ++ fate_name item.kind)))))

abbrev pub lines_text : ℕ → List LostItem → List ℕ
lines_text pair [] = []
lines_text pair (item ∷ items) = line_text pair item ++ lines_text pair items

-- ---- units to the container

-- what decides the bytes of these: what all pairs share, the pair's number, and the login that the
-- container is asked for
pub record Context : Type 0 where
  pub setup : SetupText
  pub number : ℕ
  pub container : Option Upstream

-- the name by which a container knows a pair
abbrev pub container_id : List ℕ → ℕ → List ℕ
container_id name number = name ++ (codes "-" ++ decimal number)

-- the open of a pair (AMQP 1.0 2.7.1)
abbrev pub open_of : SetupText → ℕ → Perf
open_of setup number = perf.Open (record {
  container_id = container_id setup.name number;
  hostname = setup.host;
  max_frame_size = limits_10.FRAME_MAX;
  channel_max = CHANNEL_MAX;
  idle_time_out = Some IDLE_STATED;
  outgoing_locales = None;
  incoming_locales = None;
  offered_capabilities = None;
  desired_capabilities = None;
  properties = None;
})

-- the client's login, told to the container (AMQP 1.0 5.3.3.2)
abbrev pub init_of : Upstream → Perf
init_of c = perf.SaslInit (record {
  mechanism = c.mechanism;
  initial_response = Some c.response;
  hostname = None;
})

abbrev pub frame_10 : Kind10 → List ℕ → List ℕ
frame_10 kind body = frames_10.frame_text (record { kind = kind; channel = 0; body = body })

-- the begin of a session, which states the gateway's windows and handles (AMQP 1.0 2.7.2)
abbrev pub begin_perf : Perf
begin_perf = perf.Begin (record {
  remote_channel = None;
  next_outgoing_id = 0;
  incoming_window = limits_10.WINDOW;
  outgoing_window = limits_10.WINDOW;
  handle_max = HANDLE_MAX;
  offered_capabilities = None;
  desired_capabilities = None;
  properties = None;
})

-- a flow of a session, which states the whole window again (AMQP 1.0 2.7.4)
abbrev pub flow_perf : ℕ → ℕ → Perf
flow_perf incoming outgoing = perf.Flow (record {
  next_incoming_id = Some incoming;
  incoming_window = limits_10.WINDOW;
  next_outgoing_id = outgoing;
  outgoing_window = limits_10.WINDOW;
  handle = None;
  delivery_count = None;
  link_credit = None;
  available = None;
  drain = false;
  echo = false;
  properties = None;
})

abbrev pub empty_source : Source10
empty_source = record {
  address = None;
  durable = None;
  expiry_policy = None;
  timeout = None;
  dynamic = None;
  dynamic_node_properties = None;
  distribution_mode = None;
  filter = None;
  default_outcome = None;
  outcomes = None;
  capabilities = None;
}

abbrev pub target_of : List ℕ → Target10
target_of address = record {
  address = Some address;
  durable = None;
  expiry_policy = None;
  timeout = None;
  dynamic = None;
  dynamic_node_properties = None;
  capabilities = None;
}

abbrev pub source_of : List ℕ → Source10
source_of address = record empty_source { address = Some address }

abbrev pub empty_target : Target10
empty_target = record (target_of []) { address = None }

-- the attach of a link, whose target, or where the gateway receives its source, is the address;
-- settlements are told, and a receiver states the greatest size of a message (AMQP 1.0 2.7.3, 3.5)
abbrev pub attach_perf : AttachOut → List ℕ → Perf
attach_perf a address = perf.Attach (record {
  name = link_name a.name;
  handle = a.handle;
  role = a.receives;
  snd_settle_mode = 0;
  rcv_settle_mode = 0;
  source = Some (if a.receives then source_of address else empty_source);
  target = Some (if a.receives then empty_target else target_of address);
  unsettled = None;
  incomplete_unsettled = false;
  initial_delivery_count = if a.receives then None else Some 0;
  max_message_size = if a.receives then Some most_bytes else None;
  offered_capabilities = None;
  desired_capabilities = None;
  properties = None;
})

abbrev pub link_flow_perf : LinkFlow → Perf
link_flow_perf f = perf.Flow (record {
  next_incoming_id = Some f.incoming;
  incoming_window = limits_10.WINDOW;
  next_outgoing_id = f.outgoing;
  outgoing_window = limits_10.WINDOW;
  handle = Some f.handle;
  delivery_count = Some f.count;
  link_credit = Some f.credit;
  available = None;
  drain = f.drain;
  echo = false;
  properties = None;
})

-- a settled disposition of a sender, without a state (AMQP 1.0 2.7.6)
abbrev pub settle_perf : Settling → Perf
settle_perf x = perf.Disposition (record {
  role = false;
  first = x.first;
  last = x.last;
  settled = true;
  state = None;
  batchable = false;
})

-- the outcome that a settled disposition of a receiver tells (AMQP 1.0 3.4)
abbrev pub settle_of : consume.Settle → Settle
settle_of consumes.Accepted = settle.Accepted
settle_of consumes.Rejected = settle.Rejected
settle_of consumes.Released = settle.Released

abbrev pub frame_on : ℕ → List ℕ → List ℕ
frame_on n body = frames_10.frame_text (record { kind = Amqp; channel = n; body = body })

abbrev pub init_text : Option Upstream → List ℕ
init_text None = []
init_text (Some c) = frame_10 Sasl (perf_text (init_of c))

abbrev pub spell_on : ℕ → SessionUnit → List ℕ → List ℕ
spell_on n (session_unit.Attach a) text = frame_on n (perf_text (attach_perf a text))
spell_on n (session_unit.Flow f) text = frame_on n (perf_text (link_flow_perf f))
spell_on n (session_unit.Transfer t) text = frame_on n (perf_text (transfer_perf t t.more) ++ text)
spell_on n (session_unit.Dispose x) text = settle_text n x.first x.last (settle_of x.settle)
spell_on n (session_unit.Settle x) text = frame_on n (perf_text (settle_perf x))
spell_on n (session_unit.Detach link handle why) text = end_text n (Detach handle) why

-- the bytes of a unit to the container that carries this
abbrev pub spell_up : Context → UpUnit → List ℕ → List ℕ
spell_up c up.SaslHeader text = headers_10.header_bytes Sasl
spell_up c up.SaslInit text = init_text c.container
spell_up c up.AmqpHeader text = headers_10.header_bytes Amqp
spell_up c up.Open text = frame_10 Amqp (perf_text (open_of c.setup c.number))
spell_up c (up.Close why) text = end_text 0 Close why
spell_up c up.Empty text = frame_10 Amqp []
spell_up c (up.OnSession n u) text = spell_on n u text
spell_up c (up.Flow n i o) text = frame_on n (perf_text (flow_perf i o))
spell_up c (up.Begin n) text = frame_on n (perf_text begin_perf)
spell_up c (up.End n why) text = end_text n End why

abbrev pub spell : Context → Outgoing → List ℕ → List ℕ
spell c (ToClient r) text = spell_reply r text
spell c (ToUp u) text = spell_up c u text

-- the context of a state
abbrev pub context_of : SetupText → State → Context
context_of setup w = record { setup = setup; number = w.number; container = w.up.container }
