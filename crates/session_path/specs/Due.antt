-- What a session and what it carries make due, to the container and to the client.
use Rattle.std.specs.Prelude.{ℕ, Bool, true, false, not, ◌==◌, ◌&&◌, ◌||◌, ◌+◌, ◌^◌, ◌++◌, nat_lt}
use Rattle.std.specs.Prelude.{if◌then◌else◌, List, []}
use Rattle.std.specs.Prelude.{find, count_by, length, slice_get, Option, Some, None, is_some}
use Rattle.std.specs.List.{list_any}
use Rattle.consume_path.specs.Deliveries.{DeliveryState}
use Rattle.consume_path.specs.Links.{count_in as count_at, link_of as receiving_link}
use Rattle.consume_path.specs.Links.{tag_in}
use Rattle.consume_path.specs.Offers.{lines_of as delivery_lines, next_deliver_of, next_settle_of}
use Rattle.consume_path.specs.Offers.{is_getting, payload_in, serves_gets}
use Rattle.consume_path.specs.declared.delivery.NextDeliver.{NextDeliver}
use Rattle.consume_path.specs.declared.delivery.NextSettle.{NextSettle}
use Rattle.consume_path.specs.declared.receiving.NextGrant.{NextGrant}
use Rattle.link_table.specs.Table.{free_of}
use Rattle.publish_path.specs.Links.{address_of, link_of}
use Rattle.publish_path.specs.Offers.{held_bytes, held_count, is_pending, next_confirm_of}
use Rattle.publish_path.specs.Offers.{lines_of, next_frame_of, next_return_of, return_frame_of}
use Rattle.publish_path.specs.declared.publish.Confirm.{Confirm}
use Rattle.publish_path.specs.declared.publish.NextFrame.{NextFrame}
use Rattle.publish_path.specs.declared.publish.NextReturn.{NextReturn}
use Rattle.publish_path.specs.declared.send_links.SendingLink.{SendingLink}
use Rattle.open_items.specs.declared.lost.LostItem.{LostItem}
use Rattle.session_path.specs.declared.path.AttachDue.{AttachDue}
use Rattle.session_path.specs.declared.path.FlowDue.{FlowDue}
use Rattle.session_path.specs.declared.path.PathLink.{PathLink}
use Rattle.session_path.specs.declared.path.PathOk.{PathOk}
use Rattle.session_path.specs.declared.path.PathOk.TheVariants as ok
use Rattle.session_path.specs.declared.path.Settling.{Settling}
use Rattle.session_path.specs.declared.path.ContentDue.{ContentDue}
use Rattle.session_path.specs.declared.path.DeliverDue.{DeliverDue}
use Rattle.session_path.specs.declared.path.Writing.{Writing}
use Rattle.session_path.specs.Links.{count_in, credit_in, handle_of, is_left, is_wanted}
use Rattle.session_path.specs.Path.{PathState, detaching_of, flow_of, frames_of}
use Rattle.session_path.specs.Path.{grant_in}
use Rattle.session_path.specs.Path.{first_of, granting, is_grant_next, source_of, taking}

-- ---- to the container

-- an attach: of the first link that is wanted, where a handle is free
abbrev pub attach_of : Option PathLink → Option ℕ → Option AttachDue
attach_of None o = None
attach_of (Some l) None = None
attach_of (Some l) (Some h) = Some (record { link = l.link; handle = h; receives = l.receives })

abbrev pub next_attach : PathState → Option AttachDue
next_attach s = attach_of (find is_wanted s.links.links) (free_of s.links.handles)

-- a flow of a link, with the count and the credit that it states: one that gives the credit back
-- states none, and a count past it. On a link that the container detached they are those that it
-- had then
abbrev pub count_of : List SendingLink → PathLink → ℕ
count_of sending l = if is_left l then l.count else count_in (link_of sending l.link)

abbrev pub credit_of : List SendingLink → PathLink → ℕ
credit_of sending l = if is_left l then l.credit else credit_in (link_of sending l.link)

abbrev pub flow_due : List SendingLink → PathLink → FlowDue
flow_due sending l = record {
  link = l.link;
  handle = handle_of l.stage;
  count = count_of sending l;
  credit = credit_of sending l;
  drains = l.echoes == 0;
  draining = l.draining;
}

abbrev pub due_in : List SendingLink → Option PathLink → Option FlowDue
due_in sending None = None
due_in sending (Some l) = Some (flow_due sending l)

-- that of a receiving link has its delivery-count, and the credit that is granted; on a link for
-- gets that is to be used up or given back at once
abbrev pub grant_due : Option PathLink → Option NextGrant → DeliveryState → Option FlowDue
grant_due None g d = None
grant_due (Some l) None d = None
grant_due (Some l) (Some g) d = Some (record {
  link = l.link;
  handle = handle_of l.stage;
  count = count_at (receiving_link d.links g.link);
  credit = g.credit;
  drains = false;
  draining = serves_gets g.link d.links;
})

abbrev pub next_flow : PathState → Option FlowDue
next_flow s =
    if is_grant_next s then grant_due (granting s) (grant_in s) s.deliveries
    else due_in s.links.sending (flow_of s.publishes.list s.links)

-- a frame of a transfer, while the session has room for one
abbrev pub next_frame : ℕ → PathState → Option NextFrame
next_frame window s = if window == 0 then None else next_frame_of s.links.sending s.publishes.list

abbrev pub next_settle : PathState → Option Settling
next_settle s = first_of s.settles

-- a disposition of role receiver, of deliveries that are to be settled
abbrev pub next_dispose : PathState → Option NextSettle
next_dispose s = next_settle_of s.deliveries.list

-- the detach of the first link that is to part, or else of one that is given up
abbrev pub next_detach : PathState → Option PathLink
next_detach s = detaching_of s

-- ---- to the client

abbrev pub next_confirm : PathState → Option Confirm
next_confirm s = next_confirm_of s.publishes.list

-- a frame of a return: of one that is begun, else of the least publish that is to be returned
abbrev pub next_return : PathState → Option NextReturn
next_return s = next_return_of s.publishes.list

-- its bytes
abbrev pub return_frame : ℕ → PathState → Option (List ℕ)
return_frame number s = return_frame_of number s.publishes.list

abbrev pub next_ok : PathState → Option PathOk
next_ok s = first_of s.oks

-- the name that the next answer gives back that gives one
abbrev pub or_no_name : Option (List ℕ) → List ℕ
or_no_name None = []
or_no_name (Some name) = name

abbrev pub next_name : PathState → List ℕ
next_name s = or_no_name (first_of s.names)

-- a deliver or a get-ok; delivery tags count up to 2^62
abbrev pub most_tags : ℕ
most_tags = 2 ^ 62

-- a get-ok goes where the answer to its get is next
abbrev pub is_get_ok : Option PathOk → Bool
is_get_ok None = false
is_get_ok (Some ok.Flow) = false
is_get_ok (Some ok.Declare) = false
is_get_ok (Some ok.Select) = false
is_get_ok (Some (ok.Consume link)) = false
is_get_ok (Some (ok.Qos count global)) = false
is_get_ok (Some ok.Cancel) = false
is_get_ok (Some ok.Queue) = false
is_get_ok (Some ok.Get) = true
is_get_ok (Some (ok.Empty link)) = false
is_get_ok (Some ok.Recover) = false

abbrev pub deliver_if : Bool → Bool → ℕ → NextDeliver → Option DeliverDue
deliver_if get may tags next =
    if get && not may then None else Some (record { next = next; tag = tags + 1; get = get })

abbrev pub deliver_in : Option NextDeliver → PathState → Option DeliverDue
deliver_in None s = None
deliver_in (Some next) s =
    deliver_if (serves_gets next.link s.deliveries.links) (is_get_ok (first_of s.oks))
    s.deliveries.tags next

abbrev pub next_deliver : PathState → Option DeliverDue
next_deliver s =
    if nat_lt s.deliveries.tags most_tags
    then deliver_in (next_deliver_of s.deliveries.global s.deliveries.list) s else None

-- a frame of the content that is begun, and its bytes
abbrev pub content_due : ℕ → Writing → Option ContentDue
content_due count w =
    if nat_lt w.gone count then Some (record { tag = w.tag; last = w.gone + 1 == count }) else None

abbrev pub content_on : Option Writing → PathState → Option ContentDue
content_on None s = None
content_on (Some w) s = content_due (length (frames_of w.id s)) w

abbrev pub next_content : PathState → Option ContentDue
next_content s = content_on s.writing s

abbrev pub frame_on : Option Writing → PathState → Option (List ℕ)
frame_on None s = None
frame_on (Some w) s = slice_get (frames_of w.id s) w.gone

abbrev pub content_frame : PathState → Option (List ℕ)
content_frame s = frame_on s.writing s

-- the tag of the consumer of a receiving link
abbrev pub tag_of : ℕ → PathState → List ℕ
tag_of link s = tag_in (receiving_link s.deliveries.links link)

-- the queue and the payload of the delivery that ends with a transfer under this handle of the
-- container
abbrev pub queue_on : Option PathLink → PathState → List ℕ
queue_on None s = []
queue_on (Some l) s = source_of l.link s

abbrev pub queue_at : ℕ → PathState → List ℕ
queue_at peer s = queue_on (taking peer s) s

abbrev pub partial_on : Option PathLink → DeliveryState → List ℕ
partial_on None d = []
partial_on (Some l) d = payload_in (receiving_link d.links l.link)

abbrev pub joined_at : ℕ → List ℕ → PathState → List ℕ
joined_at peer payload s = partial_on (taking peer s) s.deliveries ++ payload

-- the address that an attach states: of a target, or of a source
abbrev pub address_at : AttachDue → PathState → List ℕ
address_at a s =
    if a.receives then source_of a.link s else address_of s.links.sending a.link

-- and to the report
abbrev pub lines : PathState → List LostItem
lines s =
    lines_of s.publishes.life s.publishes.list
    ++ delivery_lines s.deliveries.life s.deliveries.list

-- ---- what is waited for

-- a request waits for the container; no basic.get does any more after the closing event
abbrev pub is_get_awaited : DeliveryState → Bool
is_get_awaited d = not d.closed && list_any is_getting d.links

abbrev pub is_waiting : PathState → Bool
is_waiting s = is_some s.awaited || is_get_awaited s.deliveries

-- no publish waits, is begun, or lacks an outcome
abbrev pub is_done : PathState → Bool
is_done s = count_by (is_pending None) s.publishes.list == 0

-- how many publishes are held, and the bytes of their payloads
abbrev pub held : PathState → ℕ
held s = held_count s.publishes.list

abbrev pub held_size_of : PathState → ℕ
held_size_of s = held_bytes s.publishes.list
