-- The places of the order of refusals that ask of a method once the connection runs: its class on
-- channel 0, its state, and whether this gateway does it (AMQP 0-9-1 1.4 to 1.8).
use Rattle.std.specs.Prelude.{ℕ, Bool, true, ◌==◌, ◌%◌, nat_lt, if◌then◌else◌, List, length, Option}
use Rattle.std.specs.Prelude.{None}
use Rattle.close_translate.specs.declared.codes.TheConstants.{COMMAND_INVALID, NOT_IMPLEMENTED}
use Rattle.close_translate.specs.declared.codes.TheConstants.{RESOURCE_ERROR}
use Rattle.methods_091.specs.Arguments.{Arg}
use Rattle.methods_091.specs.Rows.{Kind, class_of, id_of}
use Rattle.machine_091.specs.Ids.{class_in, is_of_kind}
use Rattle.machine_091.specs.Methods.{flag, flags_at, number_at, text_at}
use Rattle.machine_091.specs.RefusalsFrames.{refused}
use Rattle.machine_091.specs.declared.ids.TheConstants.{CONNECTION, CONNECTION_CLOSE, CHANNEL_OPEN}
use Rattle.machine_091.specs.declared.ids.TheConstants.{CHANNEL_FLOW, CHANNEL_CLOSE}
use Rattle.machine_091.specs.declared.ids.TheConstants.{CHANNEL_CLOSE_OK}
use Rattle.machine_091.specs.declared.ids.TheConstants.{EXCHANGE_DECLARE, QUEUE_DECLARE}
use Rattle.machine_091.specs.declared.ids.TheConstants.{BASIC_CONSUME, BASIC_GET}
use Rattle.machine_091.specs.declared.ids.TheConstants.{BASIC_PUBLISH, BASIC_ACK, BASIC_REJECT}
use Rattle.machine_091.specs.declared.ids.TheConstants.{BASIC_NACK, BASIC_QOS, BASIC_CANCEL}
use Rattle.machine_091.specs.declared.ids.TheConstants.{BASIC_RECOVER, BASIC_RECOVER_ASYNC}
use Rattle.machine_091.specs.declared.ids.TheConstants.{BASIC_RETURN, BASIC_DELIVER}
use Rattle.machine_091.specs.declared.ids.TheConstants.{BASIC_GET_EMPTY, CONFIRM_SELECT}
use Rattle.machine_091.specs.declared.state.Channel91.{Channel91}
use Rattle.machine_091.specs.declared.state.Channel91.TheVariants as channel
use Rattle.machine_091.specs.declared.unit.Ruling.{Ruling}

-- on channel 0 a method of another class than connection; one whose ids are cut off has no class
abbrev pub class_order : ℕ → List ℕ → Option Ruling
class_order n payload =
    if n == 0 then (if nat_lt (length payload) 4 then None
    else if class_in payload == CONNECTION then None
    else refused COMMAND_INVALID)
    else None

-- the methods that a server sends and no client does: the answers, whose ids end in 1,
-- basic.return, basic.deliver and basic.get-empty
abbrev pub is_servers : Kind → Bool
is_servers k =
    if id_of k % 10 == 1 then true
    else if is_of_kind BASIC_RETURN k then true
    else if is_of_kind BASIC_DELIVER k then true
    else is_of_kind BASIC_GET_EMPTY k

-- a channel.close-ok where no channel.close is to be answered
abbrev pub answer_order : Channel91 → Option Ruling
answer_order channel.Free = refused COMMAND_INVALID
answer_order channel.Open = refused COMMAND_INVALID
answer_order channel.Closing = None
answer_order channel.Told = None

-- on channel 0 each method but connection.close is out of its state; on another channel a method of
-- the class connection, one that a server sends, and a channel.close-ok that answers nothing
abbrev pub running_state : Channel91 → ℕ → Kind → Option Ruling
running_state s n k =
    if n == 0 then (if is_of_kind CONNECTION_CLOSE k then None else refused COMMAND_INVALID)
    else if class_of k == CONNECTION then refused COMMAND_INVALID
    else if is_of_kind CHANNEL_CLOSE_OK k then answer_order s
    else if is_servers k then refused COMMAND_INVALID
    else None

-- a channel that the container upstream can't carry
abbrev pub carried_order : ℕ → ℕ → Option Ruling
carried_order max n = if nat_lt max n then refused RESOURCE_ERROR else None

-- the methods that are done on a channel that the container carries: those that close it, a
-- channel.flow that lets flow, exchange.declare, basic.consume, get, cancel, publish, ack, reject
-- and nack, and confirm.select. queue.declare is done where its queue has a name; without one the
-- server would choose it (AMQP 0-9-1 1.7.2.1). basic.qos is done where its prefetch-size is 0,
-- which is no limit in octets (1.8.3.1). basic.recover and basic.recover-async are done where
-- `requeue` is set; without it the messages are for the original recipient again (1.8.3.16,
-- 1.8.3.15).
abbrev pub is_done : Kind → List Arg → Bool
is_done k args =
    if is_of_kind CHANNEL_FLOW k then flag 0 (flags_at 0 args)
    else if is_of_kind QUEUE_DECLARE k then nat_lt 0 (length (text_at 1 args))
    else if is_of_kind BASIC_QOS k then number_at 0 args == 0
    else if is_of_kind BASIC_RECOVER k then flag 0 (flags_at 0 args)
    else if is_of_kind BASIC_RECOVER_ASYNC k then flag 0 (flags_at 0 args)
    else if is_of_kind CHANNEL_CLOSE k then true
    else if is_of_kind CHANNEL_CLOSE_OK k then true
    else if is_of_kind EXCHANGE_DECLARE k then true
    else if is_of_kind BASIC_CONSUME k then true
    else if is_of_kind BASIC_GET k then true
    else if is_of_kind BASIC_CANCEL k then true
    else if is_of_kind BASIC_PUBLISH k then true
    else if is_of_kind BASIC_ACK k then true
    else if is_of_kind BASIC_REJECT k then true
    else if is_of_kind BASIC_NACK k then true
    else is_of_kind CONFIRM_SELECT k

-- a channel that the container can't carry, and all that this gateway doesn't do
abbrev pub running_refusal : ℕ → ℕ → Kind → List Arg → Option Ruling
running_refusal max n k args =
    if n == 0 then None
    else if is_of_kind CHANNEL_OPEN k then carried_order max n
    else if is_done k args then None
    else refused NOT_IMPLEMENTED
