-- The flows on a link, and what they answer, by the events. Those that the deliveries of
-- a receiving link ask for aren't counted.
use Rattle.std.specs.Prelude.{ℕ, Bool, false, not, ◌+◌, ◌-◌, ◌==◌, ◌&&◌, if◌then◌else◌, List, []}
use Rattle.std.specs.Prelude.{◌∷◌, find, Option, Some, None}
use Rattle.session_path.specs.declared.path.PathLink.{PathLink}
use Rattle.session_path.specs.Links.{LinksState, has_number, is_given, is_left, named}
use Rattle.session_path.specs.Links.{one_if}
use Rattle.session_path.specs.Path.{PathState, detaching_of, flow_of, is_grant_next, sender_in}
use Rattle.session_path.specs.Events.{PathEvent, Began, Published, Selected, Owed, Consumed}
use Rattle.session_path.specs.Events.{AnswerCame, CancelCame, Declared, GetAsked, AttachCame}
use Rattle.session_path.specs.Events.{FlowCame, DetachCame, TransferCame}
use Rattle.session_path.specs.Events.{LinkFailed, DispositionCame, AttachSent, LinkFlowSent}
use Rattle.session_path.specs.Events.{TransferSent, SettleSent, DisposeSent, DetachSent}
use Rattle.session_path.specs.Events.{ConfirmWent, ReturnWent, DeliverSent, ContentSent}
use Rattle.session_path.specs.Events.{ContentWhole, OkSent, LinesWent, LifeClosed, SessionLost}
use Rattle.session_path.specs.Events.{SessionEnded, UpLost, after_events}

-- it is the link with this number
abbrev pub is_link : ℕ → Option PathLink → Bool
is_link n None = false
is_link n (Some l) = l.link == n

-- the flows that went on link n
abbrev pub flows_by : ℕ → PathState → PathEvent → ℕ
flows_by n s (Began handle_max) = 0
flows_by n s (Published address payload back) = 0
flows_by n s Selected = 0
flows_by n s (Owed ok) = 0
flows_by n s (Consumed address tag no_ack no_wait) = 0
flows_by n s (CancelCame tag no_wait) = 0
flows_by n s (Declared queue no_wait) = 0
flows_by n s (GetAsked queue no_ack) = 0
flows_by n s (AnswerCame tag multiple settle) = 0
flows_by n s (AttachCame attach) = 0
flows_by n s (FlowCame peer count credit drain echo) = 0
flows_by n s (DetachCame peer not_found) = 0
flows_by n s (TransferCame peer part payload image again) = 0
flows_by n s (LinkFailed peer fault) = 0
flows_by n s (DispositionCame first last outcome settled) = 0
flows_by n s (AttachSent name) = 0
flows_by n s LinkFlowSent =
    if not (is_grant_next s) && is_link n (flow_of s.publishes.list s.links) then 1 else 0
flows_by n s (TransferSent frame count) = 0
flows_by n s (SettleSent settling) = 0
flows_by n s DisposeSent = 0
flows_by n s DetachSent = 0
flows_by n s (ConfirmWent confirm) = 0
flows_by n s (ReturnWent number) = 0
flows_by n s (DeliverSent due) = 0
flows_by n s ContentSent = 0
flows_by n s (ContentWhole tag) = 0
flows_by n s (OkSent ok) = 0
flows_by n s LinesWent = 0
flows_by n s LifeClosed = 0
flows_by n s SessionLost = 0
flows_by n s SessionEnded = 0
flows_by n s UpLost = 0

abbrev pub flows_on : ℕ → ℕ → List PathEvent → ℕ
flows_on life n [] = 0
flows_on life n (x ∷ h) = flows_on life n h + flows_by n (after_events life h) x

-- the link that a handle of the container names, where the gateway detached it
abbrev pub given_in : Option PathLink → Option PathLink
given_in None = None
given_in (Some l) = if is_given l then Some l else None

abbrev pub given_named : ℕ → LinksState → Option PathLink
given_named peer s = given_in (named peer s)

-- the link whose detach is due, where the container detached it
abbrev pub left_in : Option PathLink → Option PathLink
left_in None = None
left_in (Some l) = if is_left l then Some l else None

-- the echoes that link n is owed, where it is this one
abbrev pub echoes_on : ℕ → Option PathLink → ℕ
echoes_on n None = 0
echoes_on n (Some l) = if l.link == n then l.echoes else 0

-- what the container's flows on a sending link n are owed, where so many went and so many were
-- owed: one flow for each echo, and one for each drain (AMQP 1.0 2.7.4). A link that the container
-- detached is owed its drains alone, until the gateway detaches it (2.6.6, 2.6.7); one that is no
-- more, since the gateway ended its session too, is owed no more than went
abbrev pub causes_by : ℕ → PathState → ℕ → ℕ → PathEvent → ℕ
causes_by n s flows causes (Began handle_max) = causes
causes_by n s flows causes (Published address payload back) = causes
causes_by n s flows causes Selected = causes
causes_by n s flows causes (Owed ok) = causes
causes_by n s flows causes (Consumed address tag no_ack no_wait) = causes
causes_by n s flows causes (CancelCame tag no_wait) = causes
causes_by n s flows causes (Declared queue no_wait) = causes
causes_by n s flows causes (GetAsked queue no_ack) = causes
causes_by n s flows causes (AnswerCame tag multiple settle) = causes
causes_by n s flows causes (AttachCame attach) = causes
causes_by n s flows causes (FlowCame peer count credit drain echo) =
    causes
    + (if is_link n (sender_in (named peer s.links)) then one_if echo + one_if drain else 0)
causes_by n s flows causes (DetachCame peer not_found) =
    if is_link n (given_named peer s.links) then flows
    else causes - echoes_on n (named peer s.links)
causes_by n s flows causes (TransferCame peer part payload image again) = causes
causes_by n s flows causes (LinkFailed peer fault) = causes
causes_by n s flows causes (DispositionCame first last outcome settled) = causes
causes_by n s flows causes (AttachSent name) = causes
causes_by n s flows causes LinkFlowSent = causes
causes_by n s flows causes (TransferSent frame count) = causes
causes_by n s flows causes (SettleSent settling) = causes
causes_by n s flows causes DisposeSent = causes
causes_by n s flows causes DetachSent =
    if is_link n (left_in (detaching_of s)) then flows else causes
causes_by n s flows causes (ConfirmWent confirm) = causes
causes_by n s flows causes (ReturnWent number) = causes
causes_by n s flows causes (DeliverSent due) = causes
causes_by n s flows causes ContentSent = causes
causes_by n s flows causes (ContentWhole tag) = causes
causes_by n s flows causes (OkSent ok) = causes
causes_by n s flows causes LinesWent = causes
causes_by n s flows causes LifeClosed = causes
causes_by n s flows causes SessionLost = causes
causes_by n s flows causes SessionEnded = flows
causes_by n s flows causes UpLost = flows

abbrev pub causes_on : ℕ → ℕ → List PathEvent → ℕ
causes_on life n [] = 0
causes_on life n (x ∷ h) =
    causes_by n (after_events life h) (flows_on life n h) (causes_on life n h) x

-- what link n is owed in a state
abbrev pub owed_in : Option PathLink → ℕ
owed_in None = 0
owed_in (Some l) = l.echoes + l.drains

abbrev pub owed_on : ℕ → List PathLink → ℕ
owed_on n links = owed_in (find (has_number n) links)
