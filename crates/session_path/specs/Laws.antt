-- What holds after any events of a session's path, by the events alone.
use Rattle.std.specs.Prelude.{◌≡◌, ℕ, Bool, false, not, ◌&&◌, List, [], ◌∷◌, ◌++◌, Option, Some}
use Rattle.std.specs.Prelude.{None, if◌then◌else◌, ◌<◌, ◌^◌, length}
use Rattle.std.specs.List.{list_any}
use Rattle.publish_path.specs.Publishes.{is_told, open_after}
use Rattle.session_path.specs.Links.{asked_by, named}
use Rattle.session_path.specs.Path.{PathState, empty_oks, flow_in, last_or, names_by, oks_by}
use Rattle.session_path.specs.Path.{receiver_in, settle_if, taking, transfer_fault, transfer_oks}
use Rattle.session_path.specs.Events.{PathEvent, Began, Published, Selected, Owed, Consumed}
use Rattle.session_path.specs.Events.{AnswerCame, CancelCame, Declared, GetAsked, AttachCame}
use Rattle.session_path.specs.Events.{FlowCame, DetachCame, TransferCame}
use Rattle.session_path.specs.Events.{LinkFailed, DispositionCame, AttachSent, LinkFlowSent}
use Rattle.session_path.specs.Events.{TransferSent, SettleSent, DisposeSent, DetachSent}
use Rattle.session_path.specs.Events.{ConfirmWent, ReturnWent, DeliverSent, ContentSent}
use Rattle.session_path.specs.Events.{ContentWhole, OkSent, LinesWent, LifeClosed, SessionLost}
use Rattle.session_path.specs.Events.{SessionEnded, UpLost, after_events, publishes_of}
use Rattle.consume_path.specs.Deliveries.{DeliveryState}
use Rattle.consume_path.specs.Links.{id_or}
use Rattle.consume_path.specs.declared.delivery.Content.{Content}
use Rattle.consume_path.specs.declared.receiving.Part.{Part}
use Rattle.session_path.specs.declared.path.AttachHeard.{AttachHeard}
use Rattle.session_path.specs.declared.path.Awaited.{Awaited}
use Rattle.session_path.specs.declared.path.PathLink.{PathLink}
use Rattle.session_path.specs.declared.path.PathOk.{PathOk}
use Rattle.session_path.specs.declared.path.PathOk.TheVariants as ok
use Rattle.session_path.specs.declared.path.Settling.{Settling}

abbrev pub IsFrontOf : {A : Type 0} → List A → List A → Type 0
IsFrontOf {A} front all = (rest : List A) × (front ++ rest ≡ all)

-- ---- answers to the client

-- an attach of a receiving link with a source answers the basic.consume that waits for it
abbrev pub begun_oks : Option PathLink → AttachHeard → Option Awaited → List PathOk
begun_oks None a awaited = []
begun_oks (Some l) a awaited = if l.receives && a.there then oks_by l.link awaited else []

-- a flow that finds a get empty answers it
abbrev pub flow_oks : Option PathLink → Option ℕ → Bool → DeliveryState → List PathOk
flow_oks None count echo d = []
flow_oks (Some l) count echo d = empty_oks l.link (flow_in l.link count echo d)

-- and so does the delivery that it gets, one that is aborted, and one without an image
abbrev pub arrival_oks : Option PathLink → Part → List ℕ → Option Content → Bool → DeliveryState
    → List PathOk
arrival_oks None part payload image again d = []
arrival_oks (Some l) part payload image again d = transfer_oks l.link part payload image again d

-- the answers that became due, and those that went, in order
abbrev pub owes : PathState → PathEvent → List PathOk
owes s (Began handle_max) = []
owes s (Published address payload back) = []
owes s Selected = []
owes s (Owed ok) = ok ∷ []
owes s (Consumed address tag no_ack no_wait) = []
owes s (CancelCame tag no_wait) = if no_wait then [] else ok.Cancel ∷ []
owes s (Declared queue no_wait) = []
owes s (GetAsked queue no_ack) = []
owes s (AnswerCame tag multiple settle) = []
owes s (AttachCame attach) = begun_oks (asked_by attach s.links) attach s.awaited
owes s (FlowCame peer count credit drain echo) =
    flow_oks (receiver_in (named peer s.links)) count echo s.deliveries
owes s (DetachCame peer not_found) = []
owes s (TransferCame peer part payload image again) =
    arrival_oks (taking peer s) part payload image again s.deliveries
owes s (LinkFailed peer fault) = []
owes s (DispositionCame first last outcome settled) = []
owes s (AttachSent name) = []
owes s LinkFlowSent = []
owes s (TransferSent frame count) = []
owes s (SettleSent settling) = []
owes s DisposeSent = []
owes s DetachSent = []
owes s (ConfirmWent confirm) = []
owes s (ReturnWent number) = []
owes s (DeliverSent due) = []
owes s ContentSent = []
owes s (ContentWhole tag) = []
owes s (OkSent ok) = []
owes s LinesWent = []
owes s LifeClosed = []
owes s SessionLost = []
owes s SessionEnded = []
owes s UpLost = []

abbrev pub answers : PathEvent → List PathOk
answers (Began handle_max) = []
answers (Published address payload back) = []
answers Selected = []
answers (Owed ok) = []
answers (Consumed address tag no_ack no_wait) = []
answers (CancelCame tag no_wait) = []
answers (Declared queue no_wait) = []
answers (GetAsked queue no_ack) = []
answers (AnswerCame tag multiple settle) = []
answers (AttachCame attach) = []
answers (FlowCame peer count credit drain echo) = []
answers (DetachCame peer not_found) = []
answers (TransferCame peer part payload image again) = []
answers (LinkFailed peer fault) = []
answers (DispositionCame first last outcome settled) = []
answers (AttachSent name) = []
answers LinkFlowSent = []
answers (TransferSent frame count) = []
answers (SettleSent settling) = []
answers DisposeSent = []
answers DetachSent = []
answers (ConfirmWent confirm) = []
answers (ReturnWent number) = []
answers (DeliverSent due) = if due.get then ok.Get ∷ [] else []
answers ContentSent = []
answers (ContentWhole tag) = []
answers (OkSent ok) = ok ∷ []
answers LinesWent = []
answers LifeClosed = []
answers SessionLost = []
answers SessionEnded = []
answers UpLost = []

abbrev pub oks_owed : ℕ → List PathEvent → List PathOk
oks_owed life [] = []
oks_owed life (x ∷ h) = oks_owed life h ++ owes (after_events life h) x

abbrev pub oks_sent : List PathEvent → List PathOk
oks_sent [] = []
oks_sent (x ∷ h) = oks_sent h ++ answers x

-- each answer that went was the next of those that were due
abbrev pub AreAnswers : ℕ → List PathEvent → Type 0
AreAnswers life [] = Unit {0}
AreAnswers life (x ∷ h) =
    IsFrontOf (oks_sent h ++ answers x) (oks_owed life h) × AreAnswers life h

-- the queue that was declared last, and the names that answers give back, in order: of consumers
-- that begin or are cancelled, and of queues that are there
abbrev pub queue_in : List PathEvent → List ℕ
queue_in [] = []
queue_in (Declared queue no_wait ∷ h) = queue
queue_in (x ∷ h) = queue_in h

abbrev pub begun_names : Option PathLink → AttachHeard → Option Awaited → List ℕ → DeliveryState
    → List (List ℕ)
begun_names None a awaited queue d = []
begun_names (Some l) a awaited queue d =
    if l.receives && a.there then names_by l.link awaited queue d else []

abbrev pub named_by : PathState → List ℕ → PathEvent → List (List ℕ)
named_by s queue (CancelCame tag no_wait) = if no_wait then [] else tag ∷ []
named_by s queue (AttachCame a) =
    begun_names (asked_by a s.links) a s.awaited queue s.deliveries
named_by s queue x = []

abbrev pub names_owed : ℕ → List PathEvent → List (List ℕ)
names_owed life [] = []
names_owed life (x ∷ h) =
    names_owed life h ++ named_by (after_events life h) (queue_in h) x

abbrev pub IsBackOf : {A : Type 0} → List A → List A → Type 0
IsBackOf {A} back all = (front : List A) × (front ++ back ≡ all)

-- ---- dispositions of role sender

abbrev pub settles : PathEvent → List Settling
settles (Began handle_max) = []
settles (Published address payload back) = []
settles Selected = []
settles (Owed ok) = []
settles (Consumed address tag no_ack no_wait) = []
settles (CancelCame tag no_wait) = []
settles (Declared queue no_wait) = []
settles (GetAsked queue no_ack) = []
settles (AnswerCame tag multiple settle) = []
settles (AttachCame attach) = []
settles (FlowCame peer count credit drain echo) = []
settles (DetachCame peer not_found) = []
settles (TransferCame peer part payload image again) = []
settles (LinkFailed peer fault) = []
settles (DispositionCame first last outcome settled) = []
settles (AttachSent name) = []
settles LinkFlowSent = []
settles (TransferSent frame count) = []
settles (SettleSent settling) = settling ∷ []
settles DisposeSent = []
settles DetachSent = []
settles (ConfirmWent confirm) = []
settles (ReturnWent number) = []
settles (DeliverSent due) = []
settles ContentSent = []
settles (ContentWhole tag) = []
settles (OkSent ok) = []
settles LinesWent = []
settles LifeClosed = []
settles SessionLost = []
settles SessionEnded = []
settles UpLost = []

-- those that went, in order
abbrev pub settles_sent : List PathEvent → List Settling
settles_sent [] = []
settles_sent (x ∷ h) = settles_sent h ++ settles x

-- a disposition that isn't settled is owed one where it is the first outcome of some transfer
abbrev pub is_outcome_of : ℕ → ℕ → Option ℕ → List PathEvent → Bool
is_outcome_of life first last h =
    list_any (is_told first (last_or first last)) (open_after life (publishes_of life h))

-- those that the container's dispositions are owed, in their order; a session that the gateway
-- ended is owed no more than what went
abbrev pub owed_by : ℕ → List PathEvent → List Settling → PathEvent → List Settling
owed_by life h list (Began handle_max) = list
owed_by life h list (Published address payload back) = list
owed_by life h list Selected = list
owed_by life h list (Owed ok) = list
owed_by life h list (Consumed address tag no_ack no_wait) = list
owed_by life h list (CancelCame tag no_wait) = list
owed_by life h list (Declared queue no_wait) = list
owed_by life h list (GetAsked queue no_ack) = list
owed_by life h list (AnswerCame tag multiple settle) = list
owed_by life h list (AttachCame attach) = list
owed_by life h list (FlowCame peer count credit drain echo) = list
owed_by life h list (DetachCame peer not_found) = list
owed_by life h list (TransferCame peer part payload image again) = list
owed_by life h list (LinkFailed peer fault) = list
owed_by life h list (DispositionCame first last outcome settled) =
    settle_if (not settled && is_outcome_of life first last h)
    (record { first = first; last = last }) list
owed_by life h list (AttachSent name) = list
owed_by life h list LinkFlowSent = list
owed_by life h list (TransferSent frame count) = list
owed_by life h list (SettleSent settling) = list
owed_by life h list DisposeSent = list
owed_by life h list DetachSent = list
owed_by life h list (ConfirmWent confirm) = list
owed_by life h list (ReturnWent number) = list
owed_by life h list (DeliverSent due) = list
owed_by life h list ContentSent = list
owed_by life h list (ContentWhole tag) = list
owed_by life h list (OkSent ok) = list
owed_by life h list LinesWent = list
owed_by life h list LifeClosed = list
owed_by life h list SessionLost = list
owed_by life h list SessionEnded = settles_sent h
owed_by life h list UpLost = settles_sent h

abbrev pub settles_owed : ℕ → List PathEvent → List Settling
settles_owed life [] = []
settles_owed life (x ∷ h) = owed_by life h (settles_owed life h) x

-- each that went was the next of those that were owed
abbrev pub AreSettles : ℕ → List PathEvent → Type 0
AreSettles life [] = Unit {0}
AreSettles life (x ∷ h) =
    IsFrontOf (settles_sent h ++ settles x) (settles_owed life h) × AreSettles life h

-- ---- what the deliveries see

-- a link is asked for before the life's closing event alone; a transfer that is told of is at no
-- fault, and its delivery-id has 32 bits (AMQP 1.0 2.8.8)
abbrev pub IsHeard : PathState → PathEvent → Type 0
IsHeard s (Consumed queue tag no_ack no_wait) = s.deliveries.closed ≡ false
IsHeard s (Declared queue no_wait) = s.deliveries.closed ≡ false
IsHeard s (GetAsked queue no_ack) = s.deliveries.closed ≡ false
IsHeard s (TransferCame peer part payload image again) =
    (id_or 0 part.id < 2 ^ 32) × (transfer_fault peer part (length payload) s ≡ None)
IsHeard s x = Unit {0}

abbrev pub AreHeard : ℕ → List PathEvent → Type 0
AreHeard life [] = Unit {0}
AreHeard life (x ∷ h) = IsHeard (after_events life h) x × AreHeard life h
