-- What a unit of the client makes of its connection, and what it wants of the gateway: of the
-- requests that the connection passes on, those that the gateway can't meet are refused.
use Rattle.std.specs.Prelude.{ℕ, ◌==◌, Bool, false, not, ◌||◌, if◌then◌else◌, List, []}
use Rattle.std.specs.Prelude.{◌&&◌, length, nat_le, Option, None, Some, is_some, unwrap_or}
use Rattle.std.specs.Str.{is_utf8}
use Rattle.consume_path.specs.Links.{is_tag_used}
use Rattle.consume_path.specs.Offers.{is_known as is_tag_known}
use Rattle.session_path.specs.Path.{PathState, queue_or}
use Rattle.gate_model.specs.Paths.{path_at}
use Rattle.gate_model.specs.declared.setup.Route.{Route}
use Rattle.gate_model.specs.Setup.{route_to}
use Rattle.close_translate.specs.declared.codes.TheConstants.{NOT_ALLOWED, NOT_FOUND}
use Rattle.close_translate.specs.declared.codes.TheConstants.{PRECONDITION_FAILED}
use Rattle.close_translate.specs.declared.conditions.Scope.TheVariants as scope
use Rattle.content_091.specs.declared.assembly.Content.{Content}
use Rattle.machine_091.specs.Calls.{after_closing}
use Rattle.machine_091.specs.Refusals.{refusal_with}
use Rattle.machine_091.specs.Transitions.{unit_step}
use Rattle.machine_091.specs.Transitions as machine
use Rattle.machine_091.specs.declared.state.Connection.{Connection}
use Rattle.machine_091.specs.declared.unit.Refusal.{Refusal}
use Rattle.machine_091.specs.declared.unit.Unit91.{Unit91}
use Rattle.machine_091.specs.declared.unit.Want91.{Want91}
use Rattle.machine_091.specs.declared.unit.Want91.TheVariants as want
use Rattle.methods_091.specs.Rows.{class_of, id_of}
use Rattle.methods_091.specs.View.{kind_of}
use Rattle.methods_091.specs.declared.method.Method91.{Method91}
use Rattle.methods_091.specs.declared.method.Method91.TheVariants as method
use Rattle.property_map.specs.Image.{first_fault}
use Rattle.property_map.specs.Told.{told_of}
use Rattle.property_map.specs.declared.fault.MapFault.{MapFault}
use Rattle.property_map.specs.declared.told.Told.{Told}
use Rattle.property_map.specs.declared.message.Message091.{Message091}

-- ---- a publish

-- the message that a publish and its content are
abbrev pub message_of : Method91 → Content → Message091
message_of (method.BasicPublish exchange key mandatory immediate) c =
    record { exchange = exchange; key = key; props = c.props; body = c.body }
message_of m c = record { exchange = []; key = []; props = c.props; body = c.body }

-- where it goes: on the default exchange to the address that its routing key names (AMQP 0-9-1
-- 3.1.3.1), on another one to the address that this stands for
abbrev pub key_address : List ℕ → Option (List ℕ)
key_address key = if length key == 0 then None else Some key

abbrev pub address_for : List Route → Message091 → Option (List ℕ)
address_for routes m =
    if length m.exchange == 0 then key_address m.key else route_to routes m.exchange

abbrev pub address_of : List Route → Message091 → List ℕ
address_of routes m = unwrap_or (address_for routes m) []

-- ---- refusals

-- of a publish: an exchange or a queue that isn't known, and a message that has no image in AMQP
-- 1.0 (AMQP 0-9-1 1.2)
abbrev pub publish_fault : List Route → Message091 → Option ℕ
publish_fault routes m =
    if not (is_some (address_for routes m)) then Some NOT_FOUND
    else if is_some (first_fault m) then Some PRECONDITION_FAILED
    else None

-- of a method: an exchange that isn't known
abbrev pub is_known : List Route → List ℕ → Bool
is_known routes name = length name == 0 || is_some (route_to routes name)

abbrev pub exchange_fault : List Route → List ℕ → Option ℕ
exchange_fault routes name = if is_known routes name then None else Some NOT_FOUND

-- a consumer tag that is in use on its channel, or is no short string (AMQP 0-9-1 1.8.3.3 and
-- 4.2.5.3), and a name that is no queue's: names of queues are UTF-8, and an empty one stands for
-- the queue that was declared last
abbrev pub is_tag_taken : List ℕ → PathState → Bool
is_tag_taken tag s = not (nat_le (length tag) 255) || is_tag_used tag s.deliveries.links

abbrev pub is_queue_name : List ℕ → Bool
is_queue_name queue = not (length queue == 0) && is_utf8 queue

abbrev pub consume_fault : List ℕ → List ℕ → PathState → Option ℕ
consume_fault queue tag s =
    if is_tag_taken tag s then Some NOT_ALLOWED
    else if is_queue_name (queue_or s.queue queue) then None
    else Some NOT_FOUND

abbrev pub get_fault : List ℕ → PathState → Option ℕ
get_fault queue s = if is_queue_name (queue_or s.queue queue) then None else Some NOT_FOUND

abbrev pub declare_fault : List ℕ → Option ℕ
declare_fault queue =
    if not (nat_le (length queue) 255) then Some NOT_ALLOWED
    else if is_queue_name queue then None
    else Some NOT_FOUND

-- a consumer tag that is no short string; none that is one is unknown (AMQP 0-9-1 1.8.3.5)
abbrev pub cancel_fault : List ℕ → Option ℕ
cancel_fault tag = if nat_le (length tag) 255 then None else Some NOT_ALLOWED

-- a delivery tag that isn't outstanding (AMQP 0-9-1 1.8.3.13)
abbrev pub answer_fault : ℕ → Bool → PathState → Option ℕ
answer_fault tag multiple s =
    if is_tag_known tag multiple s.deliveries.list then None else Some PRECONDITION_FAILED

abbrev pub method_fault : List Route → PathState → Method91 → Option ℕ
method_fault routes s
    (method.ExchangeDeclare name kind passive durable auto_delete internal no_wait arguments) =
    exchange_fault routes name
method_fault routes s (method.BasicConsume queue tag no_local no_ack exclusive no_wait arguments) =
    consume_fault queue tag s
method_fault routes s
    (method.QueueDeclare queue passive durable exclusive deletes no_wait arguments) =
    declare_fault queue
method_fault routes s (method.BasicGet queue no_ack) = get_fault queue s
method_fault routes s (method.BasicCancel tag no_wait) = cancel_fault tag
method_fault routes s (method.BasicAck tag multiple) = answer_fault tag multiple s
method_fault routes s (method.BasicReject tag requeue) = answer_fault tag false s
method_fault routes s (method.BasicNack tag multiple requeue) = answer_fault tag multiple s
method_fault routes s m = None

-- 530 closes the connection, all else the channel; with the ids of the method
abbrev pub refusal_for : ℕ → Method91 → ℕ → Refusal
refusal_for n m code =
    if code == NOT_ALLOWED then refusal_with code (class_of (kind_of m)) (id_of (kind_of m))
    else record {
      code = code;
      scope = scope.Channel;
      channel = n;
      class = class_of (kind_of m);
      method = id_of (kind_of m);
    }

abbrev pub refused_for : ℕ → Method91 → Option ℕ → Option Refusal
refused_for n m None = None
refused_for n m (Some code) = Some (refusal_for n m code)

abbrev pub refusal_of_want : List Route → List (Option PathState) → Want91 → Option Refusal
refusal_of_want routes ps want.Nothing = None
refusal_of_want routes ps want.Start = None
refusal_of_want routes ps (want.Login mechanism response) = None
refusal_of_want routes ps want.Tuned = None
refusal_of_want routes ps want.OpenUp = None
refusal_of_want routes ps (want.Method n m) = refused_for n m (method_fault routes (path_at ps n) m)
refusal_of_want routes ps (want.Publish n m c) =
    refused_for n m (publish_fault routes (message_of m c))
refusal_of_want routes ps (want.ChannelCloseOk n) = None
refusal_of_want routes ps want.Close = None
refusal_of_want routes ps want.CloseOk = None
refusal_of_want routes ps (want.Refuse r) = None

-- what is refused here is as what the connection refused
abbrev pub refused_by : Option Refusal → machine.Step → machine.Step
refused_by None x = x
refused_by (Some r) x = (after_closing r.scope r.channel x.0, want.Refuse r)

-- what the client is told of a message that has no image
abbrev pub told_by : Option MapFault → Option Told
told_by None = None
told_by (Some fault) = told_of fault

abbrev pub told_in : List Route → Want91 → Option Told
told_in routes want.Nothing = None
told_in routes want.Start = None
told_in routes (want.Login mechanism response) = None
told_in routes want.Tuned = None
told_in routes want.OpenUp = None
told_in routes (want.Method n m) = None
told_in routes (want.Publish n m c) =
    if is_some (address_for routes (message_of m c)) then told_by (first_fault (message_of m c))
    else None
told_in routes (want.ChannelCloseOk n) = None
told_in routes want.Close = None
told_in routes want.CloseOk = None
told_in routes (want.Refuse r) = None

abbrev pub client_told : List Route → Connection → Unit91 → Option Told
client_told routes c u = told_in routes (unit_step c u).1

abbrev pub client_step : List Route → List (Option PathState) → Connection → Unit91 → machine.Step
client_step routes ps c u =
    refused_by (refusal_of_want routes ps (unit_step c u).1) (unit_step c u)
