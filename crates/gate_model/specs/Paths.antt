-- The paths of channels: the links, publishes and answers of each, by the numbers of channels.
use Rattle.std.specs.Prelude.{ℕ, zero, suc, eqb, ◌+◌, ◌-◌, ◌==◌, ◌%◌, ◌^◌, nat_lt, min, Bool, true}
use Rattle.std.specs.Prelude.{false, not, ◌&&◌, ◌||◌, bytes_eq, codes}
use Rattle.std.specs.Prelude.{if◌then◌else◌, List, [], ◌∷◌, replicate, slice_get}
use Rattle.std.specs.Prelude.{slice_set}
use Rattle.std.specs.Prelude.{take, length, map, sum_by, nat_le, ◌++◌, Option, Some, None, is_some}
use Rattle.std.specs.Int.{to_be_bytes, w64}
use Rattle.std.specs.Option.{option_map}
use Rattle.machine_10.specs.Reading.{field, number_at, number_in}
use Rattle.types_10.specs.Fields.{is_absent}
use Rattle.performatives_10.specs.Writing.{perf_text}
use Rattle.performatives_10.specs.declared.performative.Perf.{Perf}
use Rattle.performatives_10.specs.declared.performative.Perf.TheVariants as perf
use Rattle.property_map.specs.Rows.{decimal_in}
use Rattle.publish_path.specs.Offers.{rest_of}
use Rattle.publish_path.specs.declared.publish.NextFrame.{NextFrame}
use Rattle.publish_path.specs.declared.publish.Outcome.{Outcome}
use Rattle.publish_path.specs.declared.publish.Outcome.TheVariants.{Accepted, Released, Refused}
use Rattle.session_path.specs.Links.{handle_at}
use Rattle.consume_path.specs.declared.delivery.Content.{Content}
use Rattle.consume_path.specs.declared.receiving.Part.{Part}
use Rattle.consume_path.specs.declared.receiving.TransferFault.{TransferFault}
use Rattle.consume_path.specs.declared.receiving.TransferFault.TheVariants.{InvalidField}
use Rattle.consume_path.specs.declared.receiving.TransferFault.TheVariants.{LimitExceeded}
use Rattle.consume_path.specs.declared.receiving.TransferFault.TheVariants.{SizeExceeded}
use Rattle.performatives_10.specs.declared.condition.Condition.{Condition}
use Rattle.performatives_10.specs.declared.condition.Condition.TheVariants as condition
use Rattle.property_map.specs.Received.{received_in}
use Rattle.property_map.specs.declared.received.Received.{Received}
use Rattle.link_table.specs.Table.{named_by}
use Rattle.session_path.specs.Due.{joined_at, queue_at}
use Rattle.session_path.specs.Links.{named}
use Rattle.session_path.specs.Path.{closed, ended, failed, receiver_in, transfer_came}
use Rattle.session_path.specs.Path.{PathState, attach_came, flow_came, lost, opened}
use Rattle.session_path.specs.declared.path.AttachHeard.{AttachHeard}
use Rattle.session_path.specs.Due.{held, held_size_of, lines}
use Rattle.session_path.specs.Path.{lines_told, outcome_came, transfer_fault}
use Rattle.open_items.specs.declared.lost.LostItem.{LostItem}
use Rattle.gate_model.specs.declared.limits.TheConstants.{HELD_BYTES, HELD_PUBLISHES}
use Rattle.session_path.specs.Links.{attach_fault, fault_unasked}
use Rattle.session_path.specs.declared.path.AttachDue.{AttachDue}
use Rattle.session_path.specs.declared.path.AttachFault.{AttachFault}
use Rattle.session_path.specs.declared.path.FlowDue.{FlowDue}
use Rattle.types_10.specs.Tree.{Tree, binary, string, described, scalar, ulong}
use Rattle.gate_model.specs.declared.channel.AttachOut.{AttachOut}
use Rattle.gate_model.specs.declared.channel.LinkFlow.{LinkFlow}
use Rattle.gate_model.specs.declared.channel.TransferOut.{TransferOut}
use Rattle.gate_model.specs.declared.life.SessionState.{SessionState}
use Rattle.gate_model.specs.Returns.{body_parts, header_part}
use Rattle.gate_model.specs.Session.{has_room, is_true}

-- ---- by the numbers of channels

-- none was opened
unfoldable pub no_paths : List (Option PathState)
no_paths = replicate 256 None

abbrev pub or_none : Option (Option PathState) → Option PathState
or_none None = None
or_none (Some o) = o

abbrev pub slot_at : List (Option PathState) → ℕ → Option PathState
slot_at ps n = or_none (slice_get ps n)

-- one that wasn't opened has nothing
abbrev pub or_no_path : Option PathState → PathState
or_no_path None = opened 0
or_no_path (Some s) = s

abbrev pub path_at : List (Option PathState) → ℕ → PathState
path_at ps n = or_no_path (slot_at ps n)

abbrev pub set_path : ℕ → PathState → List (Option PathState) → List (Option PathState)
set_path n s ps = slice_set ps n (Some s)

abbrev pub with_path : ℕ → (PathState → PathState) → List (Option PathState)
    → List (Option PathState)
with_path n f ps = slice_set ps n (option_map f (slot_at ps n))

-- ---- what all hold

-- the publishes that are held on all channels, and the bytes of their payloads
abbrev pub held_on : Option PathState → ℕ
held_on None = 0
held_on (Some s) = held s

abbrev pub bytes_on : Option PathState → ℕ
bytes_on None = 0
bytes_on (Some s) = held_size_of s

abbrev pub held_in : List (Option PathState) → ℕ
held_in ps = sum_by held_on ps

abbrev pub bytes_in : List (Option PathState) → ℕ
bytes_in ps = sum_by bytes_on ps

-- so many, or so many bytes of them, are held that nothing more is taken up
abbrev pub is_laden : List (Option PathState) → Bool
is_laden ps = nat_le HELD_PUBLISHES (held_in ps) || nat_le HELD_BYTES (bytes_in ps)

-- ---- what the report is owed

-- the lines of the life with this number, where it is in progress on a channel
abbrev pub lines_on : ℕ → Option PathState → List LostItem
lines_on life None = []
lines_on life (Some s) = if s.publishes.life == life then lines s else []

abbrev pub lines_of_life : ℕ → List (Option PathState) → List LostItem
lines_of_life life [] = []
lines_of_life life (o ∷ os) = lines_on life o ++ lines_of_life life os

-- those of lives 1 to n, by rising number
abbrev pub lines_in : List (Option PathState) → ℕ → List LostItem
lines_in ps zero = []
lines_in ps (suc n) = lines_in ps n ++ lines_of_life (suc n) ps

-- they were reported
abbrev pub told_paths : List (Option PathState) → List (Option PathState)
told_paths ps = map (option_map lines_told) ps

-- ---- what the container says of links and transfers

-- the state of a disposition is terminal: accepted, rejected, released or modified (AMQP 1.0 3.4)
abbrev pub is_terminal_code : ℕ → Bool
is_terminal_code code = (code == 36) || ((code == 37) || ((code == 38) || (code == 39)))

abbrev pub state_code : Tree → ℕ
state_code (described (scalar (ulong code)) t) = code
state_code t = 0

-- rejected and modified count alike, and so does a settlement without a state
abbrev pub outcome_in : Tree → Outcome
outcome_in t =
    if state_code t == 36 then Accepted else if state_code t == 38 then Released else Refused

-- a disposition of the receiver that has an outcome: a terminal state, or a settlement without a
-- state
abbrev pub is_outcome : List Tree → Bool
is_outcome ts =
    is_true (field ts 0)
    && (is_terminal_code (state_code (field ts 4)) || (is_true (field ts 3)
    && is_absent (field ts 4)))

abbrev pub outcome_by : List Tree → PathState → PathState
outcome_by ts s =
    if is_outcome ts then
    outcome_came (number_at ts 1) (number_in (field ts 2))
    (outcome_in (field ts 4)) (is_true (field ts 3)) s
    else s

-- an error says that there is no such node (AMQP 1.0 2.8.15)
abbrev pub is_not_found : Option (List ℕ) → Bool
is_not_found None = false
is_not_found (Some name) = bytes_eq name (codes "amqp:not-found")

abbrev pub credit_of : Option ℕ → ℕ
credit_of None = 0
credit_of (Some n) = n

-- a flow on the link of this handle
abbrev pub link_flowed : List Tree → PathState → PathState
link_flowed ts s =
    flow_came (number_at ts 4) (number_in (field ts 5)) (credit_of (number_in (field ts 6)))
    (is_true (field ts 8)) (is_true (field ts 9)) s

-- ---- fields

-- a text, and whether a field is there
abbrev pub text_of : Tree → List ℕ
text_of (scalar (string s)) = s
text_of t = []

abbrev pub is_there : Tree → Bool
is_there t = not (is_absent t)

-- ---- names of links

-- the number in the name of a link; None of other names
abbrev pub name_in : List ℕ → Option ℕ
name_in [] = None
name_in (b ∷ []) = None
name_in (b ∷ c ∷ s) = if eqb b 108 && eqb c 45 then decimal_in s else None

-- an attach of the container, under the name of a link of the gateway or another: its handle, its
-- role, its source or target, and its initial delivery-count (AMQP 1.0 2.7.3)
abbrev pub heard_as : List Tree → ℕ → AttachHeard
heard_as ts name = record {
  name = name;
  peer = number_at ts 1;
  role = is_true (field ts 2);
  there = if is_true (field ts 2) then is_there (field ts 6) else is_there (field ts 5);
  count = number_at ts 9;
}

abbrev pub attached_as : Option ℕ → List Tree → PathState → PathState
attached_as None ts s = s
attached_as (Some name) ts s = attach_came (heard_as ts name) s

abbrev pub attach_by : List Tree → PathState → PathState
attach_by ts s = attached_as (name_in (text_of (field ts 0))) ts s

abbrev pub fault_by : Option ℕ → List Tree → PathState → Option AttachFault
fault_by None ts s = Some (fault_unasked (number_at ts 1) s.links)
fault_by (Some name) ts s = attach_fault name (is_true (field ts 2)) (number_at ts 1) s.links

abbrev pub attach_fault_by : List Tree → PathState → Option AttachFault
attach_fault_by ts s = fault_by (name_in (text_of (field ts 0))) ts s

-- ---- transfers of the container

abbrev pub binary_in : Tree → Option (List ℕ)
binary_in (scalar (binary b)) = Some b
binary_in t = None

-- what a transfer says of its delivery (AMQP 1.0 2.7.5); a delivery-id has 32 bits (2.8.8, 2.8.10)
abbrev pub part_in : List Tree → Part
part_in ts = record {
  id = option_map (λ id. id % 2 ^ 32) (number_in (field ts 1));
  tag_length = option_map length (binary_in (field ts 2));
  settled = is_true (field ts 4);
  more = is_true (field ts 5);
  aborted = is_true (field ts 9);
  resume = is_true (field ts 8);
}

-- a handle of the container is attached until both detaches went (AMQP 1.0 2.6.2)
abbrev pub is_attached : ℕ → PathState → Bool
is_attached peer s = is_some (named_by s.links.handles peer)

-- it names a receiving link
abbrev pub is_receiver : ℕ → PathState → Bool
is_receiver peer s = is_some (receiver_in (named peer s.links))

-- it names no link any more, since the container detached: what comes under it is passed over until
-- the gateway's detach went (AMQP 1.0 2.6.6)
abbrev pub has_left : ℕ → PathState → Bool
has_left peer s = is_attached peer s && not (is_some (named peer s.links))

-- what is wrong with the transfer on a receiving link
abbrev pub fault_in : List Tree → List ℕ → PathState → Option TransferFault
fault_in ts payload s = transfer_fault (number_at ts 0) (part_in ts) (length payload) s

abbrev pub field_error : Option TransferFault → Option Condition
field_error None = None
field_error (Some InvalidField) = Some condition.InvalidField
field_error (Some LimitExceeded) = None
field_error (Some SizeExceeded) = None

-- why it ends its session: it is past the window, of a sending link or of none, or has a wrong
-- field
abbrev pub transfer_error : List Tree → List ℕ → SessionState → PathState → Option Condition
transfer_error ts payload x s =
    if not (has_room x) then Some condition.WindowViolation
    else if not (is_receiver (number_at ts 0) s || has_left (number_at ts 0) s) then
    Some condition.UnattachedHandle
    else field_error (fault_in ts payload s)

-- what goes to the client of a message, where the client takes frames of so many bytes
abbrev pub content_of : ℕ → ℕ → Received → Content
content_of limit n r = record {
  exchange = r.message.exchange;
  key = r.message.key;
  frames = header_part n r.message ∷ body_parts limit n r.message.body;
}

abbrev pub is_again : Option Received → Bool
is_again None = false
is_again (Some r) = r.again

-- the message that ends with a transfer
abbrev pub received_at : ℕ → ℕ → List ℕ → PathState → Option Received
received_at limit peer payload s =
    received_in (queue_at peer s) (limit - 8) (joined_at peer payload s)

abbrev pub arrived_at : ℕ → ℕ → ℕ → Part → List ℕ → PathState → PathState
arrived_at limit n peer part payload s =
    let r = received_at limit peer payload s in
    transfer_came peer part payload (option_map (content_of limit n) r) (is_again r) s

abbrev pub transferred_by : Option TransferFault → ℕ → ℕ → ℕ → Part → List ℕ → PathState → PathState
transferred_by None limit n peer part payload s = arrived_at limit n peer part payload s
transferred_by (Some fault) limit n peer part payload s = failed peer fault s

-- one that passes a limit of its link is no part of a delivery
abbrev pub transferred : ℕ → ℕ → List Tree → List ℕ → PathState → PathState
transferred limit n ts payload s =
    transferred_by (fault_in ts payload s) limit n (number_at ts 0) (part_in ts) payload s

-- ---- units to the container

-- the flow of a link: its delivery-count and its credit; one that gives the credit back states
-- none, and a count past it (AMQP 1.0 2.6.7)
abbrev pub flow_out : SessionState → FlowDue → LinkFlow
flow_out w f = record {
  link = f.link;
  handle = f.handle;
  incoming = w.windows.next_incoming;
  outgoing = w.windows.next_outgoing;
  count = if f.drains then (f.count + f.credit) % 2 ^ 32 else f.count;
  credit = if f.drains then 0 else f.credit;
  drain = f.draining;
}

-- what a frame of a transfer says (AMQP 1.0 2.7.5): the first one the delivery-id, the tag, which
-- is the number of the publish in 8 bytes, the format of messages and that it isn't settled
abbrev pub transfer_perf : TransferOut → Bool → Perf
transfer_perf t more = perf.Transfer (record {
  handle = t.handle;
  delivery_id = if t.frame.first then Some t.id else None;
  delivery_tag = if t.frame.first then Some (to_be_bytes w64 t.frame.publish) else None;
  message_format = if t.frame.first then Some 0 else None;
  settled = if t.frame.first then Some false else None;
  more = more;
  rcv_settle_mode = None;
  state = None;
  resume = false;
  aborted = false;
  batchable = false;
})

-- how much of a payload a frame with more to follow carries
abbrev pub room_in : ℕ → TransferOut → ℕ
room_in max t = max - (8 + length (perf_text (transfer_perf t true)))

abbrev pub cut : ℕ → ℕ → TransferOut → TransferOut
cut max left t = record t { bytes = min (room_in max t) left; more = nat_lt (room_in max t) left }

-- the frame of a publish that goes next, where the container takes frames of so many bytes
abbrev pub transfer_of : ℕ → PathState → NextFrame → TransferOut
transfer_of max s f =
    cut max (length (rest_of f.publish s.publishes.list))
    (record {
      frame = f;
      handle = handle_at f.link s.links.links;
      id = s.publishes.next_id;
      bytes = 0;
      more = false;
    })

-- the part of the payload that it carries
abbrev pub part_of : PathState → TransferOut → List ℕ
part_of s t = take t.bytes (rest_of t.frame.publish s.publishes.list)

abbrev pub attach_out : ℕ → AttachDue → AttachOut
attach_out name a =
    record { link = a.link; handle = a.handle; name = name; receives = a.receives }

-- the session of a channel is lost; the gateway's end of it went, or the connection is lost; the
-- life of one closes
abbrev pub lost_path : PathState → PathState
lost_path s = lost s

abbrev pub ended_path : PathState → PathState
ended_path s = ended s

abbrev pub closed_path : PathState → PathState
closed_path s = closed s

abbrev pub closed_paths : List (Option PathState) → List (Option PathState)
closed_paths ps = map (option_map closed_path) ps

abbrev pub ended_paths : List (Option PathState) → List (Option PathState)
ended_paths ps = map (option_map ended_path) ps

-- the error of a detach
abbrev pub error_for : Option TransferFault → Option Condition
error_for None = None
error_for (Some InvalidField) = Some condition.InvalidField
error_for (Some LimitExceeded) = Some condition.TransferLimitExceeded
error_for (Some SizeExceeded) = Some condition.MessageSizeExceeded
