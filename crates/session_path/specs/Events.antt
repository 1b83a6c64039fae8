-- The events of a session's path, and its state after them, newest first.
use Rattle.std.specs.Prelude.{ℕ, Bool, false, ◌&&◌, if◌then◌else◌, List, [], ◌∷◌, ◌++◌}
use Rattle.std.specs.Prelude.{Option, Some, None}
use Rattle.publish_path.specs.Links.{link_to}
use Rattle.publish_path.specs.Offers.{frame_sent}
use Rattle.publish_path.specs.Publishes.{PublishEvent, TakenUp, OutcomeCame, LinkGone, ConfirmSent}
use Rattle.publish_path.specs.Publishes.{LinesTold, ReturnSent}
use Rattle.publish_path.specs.declared.publish.Confirm.{Confirm}
use Rattle.publish_path.specs.declared.publish.NextFrame.{NextFrame}
use Rattle.publish_path.specs.declared.publish.Outcome.{Outcome}
use Rattle.consume_path.specs.Deliveries.{DeliveryEvent, DeliveryState}
use Rattle.consume_path.specs.Deliveries as on
use Rattle.consume_path.specs.Links.{consumer_link}
use Rattle.consume_path.specs.Offers.{is_drained, next_settle_of}
use Rattle.consume_path.specs.declared.delivery.Content.{Content}
use Rattle.consume_path.specs.declared.delivery.NextSettle.{NextSettle}
use Rattle.consume_path.specs.declared.delivery.Settle.{Settle}
use Rattle.consume_path.specs.declared.receiving.NextGrant.{NextGrant}
use Rattle.consume_path.specs.declared.receiving.Part.{Part}
use Rattle.consume_path.specs.declared.receiving.RecvKind.TheVariants.{Consumer, Get, Probe}
use Rattle.consume_path.specs.declared.receiving.TransferFault.{TransferFault}
use Rattle.session_path.specs.Links.{asked_by, free_number, linked_to, named}
use Rattle.session_path.specs.Path.{PathState, answer_came, attach_came, attach_sent, began, closed}
use Rattle.session_path.specs.Path.{confirm_sent, consumed, content_sent, content_whole}
use Rattle.session_path.specs.Path.{deliver_sent, dispose_sent, end_lost, ended, failed, sender_in}
use Rattle.session_path.specs.Path.{detach_came, detach_sent, flow_came, last_or, lines_told}
use Rattle.session_path.specs.Path.{link_flow_sent, lost, number_of, ok_sent, opened, outcome_came}
use Rattle.session_path.specs.Path.{return_sent, transfer_came, tag_for, receiver_in, taking}
use Rattle.session_path.specs.Path.{arrival_on, cancelled, declare_came, first_of, grant_in}
use Rattle.session_path.specs.Path.{is_grant_next, is_last}
use Rattle.session_path.specs.Path.{detaching_of, flow_in, get_link, got, queue_or, transferred}
use Rattle.session_path.specs.Path.{owed, published, selected, settle_sent, transfer_sent}
use Rattle.session_path.specs.declared.path.AttachHeard.{AttachHeard}
use Rattle.session_path.specs.declared.path.DeliverDue.{DeliverDue}
use Rattle.session_path.specs.declared.path.PathLink.{PathLink}
use Rattle.session_path.specs.declared.path.PathOk.{PathOk}
use Rattle.session_path.specs.declared.path.PathOk.TheVariants as ok
use Rattle.session_path.specs.declared.path.Settling.{Settling}

pub data PathEvent : Type 0 where
  -- the container's begin came
  Began : (handle_max : ℕ) → PathEvent
  -- a whole content was taken up, with the frames of its return
  Published : (address payload : List ℕ) (back : List (List ℕ)) → PathEvent
  -- confirm.select was taken up
  Selected : PathEvent
  -- an answer is due to the client
  Owed : (ok : PathOk) → PathEvent
  -- basic.consume of a queue was taken up; basic.cancel of a consumer; basic.ack, nack, reject or
  -- recover
  Consumed : (address tag : List ℕ) (no_ack no_wait : Bool) → PathEvent
  CancelCame : (tag : List ℕ) (no_wait : Bool) → PathEvent
  -- queue.declare was
  Declared : (queue : List ℕ) (no_wait : Bool) → PathEvent
  -- basic.get was
  GetAsked : (queue : List ℕ) (no_ack : Bool) → PathEvent
  AnswerCame : (tag : ℕ) (multiple : Bool) (settle : Settle) → PathEvent
  -- an attach of the container
  AttachCame : (attach : AttachHeard) → PathEvent
  -- its flow on a link
  FlowCame : (peer : ℕ) (count : Option ℕ) (credit : ℕ) (drain echo : Bool) → PathEvent
  -- its detach, whose error says that there is no such node, or not
  DetachCame : (peer : ℕ) (not_found : Bool) → PathEvent
  -- its transfer, and what goes to the client of the delivery that it ends, where that has an image
  TransferCame : (peer : ℕ) (part : Part) (payload : List ℕ) (image : Option Content) (again : Bool)
      → PathEvent
  -- a transfer that passed a limit of its link
  LinkFailed : (peer : ℕ) (fault : TransferFault) → PathEvent
  -- its disposition, with an outcome (AMQP 1.0 2.7.6)
  DispositionCame : (first : ℕ) (last : Option ℕ) (outcome : Outcome) (settled : Bool)
      → PathEvent
  -- an attach of the gateway went
  AttachSent : (name : ℕ) → PathEvent
  -- its flow on a link went
  LinkFlowSent : PathEvent
  -- a frame of a transfer went, with so many bytes
  TransferSent : (frame : NextFrame) (count : ℕ) → PathEvent
  -- a disposition of role sender went
  SettleSent : (settling : Settling) → PathEvent
  -- one of role receiver did
  DisposeSent : PathEvent
  -- a detach of the gateway went
  DetachSent : PathEvent
  -- an ack or a nack went to the client
  ConfirmWent : (confirm : Confirm) → PathEvent
  -- a frame of the return of this publish did
  ReturnWent : (number : ℕ) → PathEvent
  -- a deliver went to the client, a frame of its content, and the last byte of the last one
  DeliverSent : (due : DeliverDue) → PathEvent
  ContentSent : PathEvent
  ContentWhole : (tag : ℕ) → PathEvent
  -- an answer went to the client
  OkSent : (ok : PathOk) → PathEvent
  -- the lines that the report was owed were reported
  LinesWent : PathEvent
  -- the closing event of the life
  LifeClosed : PathEvent
  -- the container ended the session, or is at fault on it
  SessionLost : PathEvent
  -- the gateway's end of the session went, or the connection is lost
  SessionEnded : PathEvent
  -- the upstream end is lost or was shut
  UpLost : PathEvent

abbrev pub after_event : PathEvent → PathState → PathState
after_event (Began handle_max) s = began handle_max s
after_event (Published address payload back) s = published address payload back s
after_event Selected s = selected s
after_event (Owed ok) s = owed ok s
after_event (Consumed address tag no_ack no_wait) s = consumed address tag no_ack no_wait s
after_event (CancelCame tag no_wait) s = cancelled tag no_wait s
after_event (Declared queue no_wait) s = declare_came queue no_wait s
after_event (GetAsked queue no_ack) s = got queue no_ack s
after_event (AnswerCame tag multiple settle) s = answer_came tag multiple settle s
after_event (AttachCame attach) s = attach_came attach s
after_event (FlowCame peer count credit drain echo) s = flow_came peer count credit drain echo s
after_event (DetachCame peer not_found) s = detach_came peer not_found s
after_event (TransferCame peer part payload image again) s =
    transfer_came peer part payload image again s
after_event (LinkFailed peer fault) s = failed peer fault s
after_event (DispositionCame first last outcome settled) s =
    outcome_came first last outcome settled s
after_event (AttachSent name) s = attach_sent name s
after_event LinkFlowSent s = link_flow_sent s
after_event (TransferSent frame count) s = transfer_sent frame count s
after_event (SettleSent settling) s = settle_sent s
after_event DisposeSent s = dispose_sent s
after_event DetachSent s = detach_sent s
after_event (ConfirmWent confirm) s = confirm_sent confirm s
after_event (ReturnWent number) s = return_sent number s
after_event (DeliverSent due) s = deliver_sent due s
after_event ContentSent s = content_sent s
after_event (ContentWhole tag) s = content_whole tag s
after_event (OkSent ok) s = ok_sent s
after_event LinesWent s = lines_told s
after_event LifeClosed s = closed s
after_event SessionLost s = lost s
after_event SessionEnded s = ended s
after_event UpLost s = end_lost s

-- in the life with this number
abbrev pub after_events : ℕ → List PathEvent → PathState
after_events life [] = opened life
after_events life (x ∷ h) = after_event x (after_events life h)

-- ---- what the publishes see

abbrev pub losses : Bool → Option PathLink → List PublishEvent
losses not_found None = []
losses not_found (Some l) = LinkGone (Some l.link) not_found ∷ []

abbrev pub publish_events : PathState → PathEvent → List PublishEvent
publish_events s (Began handle_max) = []
publish_events s (Published address payload back) =
    TakenUp (number_of (link_to
    (linked_to address s.links).sending address)) s.confirms payload back ∷ []
publish_events s Selected = []
publish_events s (Owed ok) = []
publish_events s (Consumed address tag no_ack no_wait) = []
publish_events s (CancelCame tag no_wait) = []
publish_events s (Declared queue no_wait) = []
publish_events s (GetAsked queue no_ack) = []
publish_events s (AnswerCame tag multiple settle) = []
publish_events s (AttachCame attach) = []
publish_events s (FlowCame peer count credit drain echo) = []
publish_events s (DetachCame peer not_found) = losses not_found (sender_in (named peer s.links))
publish_events s (TransferCame peer part payload image again) = []
publish_events s (LinkFailed peer fault) = []
publish_events s (DispositionCame first last outcome settled) =
    OutcomeCame first (last_or first last) outcome ∷ []
publish_events s (AttachSent name) = []
publish_events s LinkFlowSent = []
publish_events s (TransferSent frame count) = frame_sent frame count s.publishes.list ∷ []
publish_events s (SettleSent settling) = []
publish_events s DisposeSent = []
publish_events s DetachSent = []
publish_events s (ConfirmWent confirm) = ConfirmSent confirm ∷ []
publish_events s (ReturnWent number) = ReturnSent number ∷ []
publish_events s (DeliverSent due) = []
publish_events s ContentSent = []
publish_events s (ContentWhole tag) = []
publish_events s (OkSent ok) = []
publish_events s LinesWent = LinesTold ∷ []
publish_events s LifeClosed = []
publish_events s SessionLost = LinkGone None false ∷ []
publish_events s SessionEnded = LinkGone None false ∷ []
publish_events s UpLost = LinkGone None false ∷ []

abbrev pub publishes_of : ℕ → List PathEvent → List PublishEvent
publishes_of life [] = []
publishes_of life (x ∷ h) = publish_events (after_events life h) x ++ publishes_of life h

-- ---- what the deliveries see

-- a basic.qos for each consumer, and for all together
abbrev pub prefetches : PathOk → List DeliveryEvent
prefetches ok.Flow = []
prefetches ok.Declare = []
prefetches ok.Select = []
prefetches (ok.Consume link) = []
prefetches (ok.Qos count global) = if global then [] else on.PrefetchSet count ∷ []
prefetches ok.Cancel = []
prefetches ok.Queue = []
prefetches ok.Get = []
prefetches (ok.Empty link) = []
prefetches ok.Recover = []

abbrev pub globals : Option PathOk → List DeliveryEvent
globals None = []
globals (Some ok.Flow) = []
globals (Some ok.Declare) = []
globals (Some ok.Select) = []
globals (Some (ok.Consume link)) = []
globals (Some (ok.Qos count global)) = if global then on.GlobalSet count ∷ [] else []
globals (Some ok.Cancel) = []
globals (Some ok.Queue) = []
globals (Some ok.Get) = []
globals (Some (ok.Empty link)) = []
globals (Some ok.Recover) = []

-- a basic.cancel
abbrev pub cancels : Option ℕ → List DeliveryEvent
cancels None = []
cancels (Some link) = on.Cancelled link ∷ []

-- a basic.get
abbrev pub gets : Option PathLink → Bool → PathState → List DeliveryEvent
gets None no_ack s =
    on.GetCame (free_number s.links.links) no_ack
    ∷ on.LinkAdded (free_number s.links.links) Get ∷ []
gets (Some l) no_ack s = on.GetCame l.link no_ack ∷ []

-- an attach of a receiving link with a source
abbrev pub begins : Option PathLink → AttachHeard → List DeliveryEvent
begins None a = []
begins (Some l) a = if l.receives && a.there then on.LinkAttached l.link a.count ∷ [] else []

-- a flow on a receiving link
abbrev pub counts : Option ℕ → ℕ → List DeliveryEvent
counts None link = []
counts (Some count) link = on.LinkFlowed link count ∷ []

abbrev pub echoes : Bool → ℕ → List DeliveryEvent
echoes echo link = if echo then on.LinkEchoed link ∷ [] else []

-- a get that is found empty
abbrev pub empties : ℕ → DeliveryState → List DeliveryEvent
empties link d = if is_drained link d.links then on.Emptied link ∷ [] else []

abbrev pub flows : Option PathLink → Option ℕ → Bool → DeliveryState → List DeliveryEvent
flows None count echo d = []
flows (Some l) count echo d =
    empties l.link (flow_in l.link count echo d) ++ (echoes echo l.link ++ counts count l.link)

-- a transfer, and the whole delivery where it is the last one
abbrev pub arrivals : Bool → ℕ → Option Content → Bool → DeliveryState → List DeliveryEvent
arrivals last link image again d = if last then arrival_on link image again d ∷ [] else []

abbrev pub transfers : Option PathLink → Part → List ℕ → Option Content → Bool → DeliveryState
    → List DeliveryEvent
transfers None part payload image again d = []
transfers (Some l) part payload image again d =
    empties l.link (transferred l.link part payload image again d)
    ++ (arrivals (is_last part) l.link image again
    (on.after_event (on.TransferCame l.link part payload) d)
    ++ on.TransferCame l.link part payload ∷ [])

-- a flow, a disposition and a detach of the gateway
abbrev pub grants : Option NextGrant → List DeliveryEvent
grants None = []
grants (Some g) = on.GrantSent g ∷ []

abbrev pub disposes : Option NextSettle → List DeliveryEvent
disposes None = []
disposes (Some x) = on.SettleSent x ∷ []

abbrev pub drops : Option PathLink → List DeliveryEvent
drops None = []
drops (Some l) = if l.receives then on.LinkDropped l.link ∷ [] else []

abbrev pub delivery_events : PathState → PathEvent → List DeliveryEvent
delivery_events s (Began handle_max) = []
delivery_events s (Published address payload back) = []
delivery_events s Selected = []
delivery_events s (Owed ok) = prefetches ok
delivery_events s (Consumed address tag no_ack no_wait) =
    on.LinkAdded (free_number s.links.links)
    (Consumer (tag_for tag s.deliveries.links) no_ack) ∷ []
delivery_events s (CancelCame tag no_wait) =
    cancels (consumer_link tag s.deliveries.links)
delivery_events s (Declared queue no_wait) =
    on.LinkAdded (free_number s.links.links) Probe ∷ []
delivery_events s (GetAsked queue no_ack) = gets (get_link (queue_or s.queue queue) s) no_ack s
delivery_events s (AnswerCame tag multiple settle) = on.Answered tag multiple settle ∷ []
delivery_events s (AttachCame attach) = begins (asked_by attach s.links) attach
delivery_events s (FlowCame peer count credit drain echo) =
    flows (receiver_in (named peer s.links)) count echo s.deliveries
delivery_events s (DetachCame peer not_found) = []
delivery_events s (TransferCame peer part payload image again) =
    transfers (taking peer s) part payload image again s.deliveries
delivery_events s (LinkFailed peer fault) = []
delivery_events s (DispositionCame first last outcome settled) = []
delivery_events s (AttachSent name) = []
delivery_events s LinkFlowSent = if is_grant_next s then grants (grant_in s) else []
delivery_events s (TransferSent frame count) = []
delivery_events s (SettleSent settling) = []
delivery_events s DisposeSent = disposes (next_settle_of s.deliveries.list)
delivery_events s DetachSent = drops (detaching_of s)
delivery_events s (ConfirmWent confirm) = []
delivery_events s (ReturnWent number) = []
delivery_events s (DeliverSent due) = on.Delivered due.next.number ∷ []
delivery_events s ContentSent = []
delivery_events s (ContentWhole tag) = on.Written tag ∷ []
delivery_events s (OkSent ok) = globals (first_of s.oks)
delivery_events s LinesWent = on.LinesTold ∷ []
delivery_events s LifeClosed = on.Closed ∷ []
delivery_events s SessionLost = on.Closed ∷ []
delivery_events s SessionEnded = on.Closed ∷ []
delivery_events s UpLost = on.EndLost ∷ on.Closed ∷ []

abbrev pub deliveries_of : ℕ → List PathEvent → List DeliveryEvent
deliveries_of life [] = []
deliveries_of life (x ∷ h) = delivery_events (after_events life h) x ++ deliveries_of life h
