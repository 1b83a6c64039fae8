-- The attaches of links, by their names.
use Rattle.std.specs.Prelude.{ℕ, not, ◌+◌, ◌==◌, ◌&&◌, if◌then◌else◌, List, [], ◌∷◌, is_some}
use Rattle.session_path.specs.Links.{attach_fault}
use Rattle.session_path.specs.Path.{PathState}
use Rattle.session_path.specs.Events.{PathEvent, Began, Published, Selected, Owed, Consumed}
use Rattle.session_path.specs.Events.{AnswerCame, CancelCame, Declared, GetAsked, AttachCame}
use Rattle.session_path.specs.Events.{FlowCame, DetachCame, TransferCame}
use Rattle.session_path.specs.Events.{LinkFailed, DispositionCame, AttachSent, LinkFlowSent}
use Rattle.session_path.specs.Events.{TransferSent, SettleSent, DisposeSent, DetachSent}
use Rattle.session_path.specs.Events.{ConfirmWent, ReturnWent, DeliverSent, ContentSent}
use Rattle.session_path.specs.Events.{ContentWhole, OkSent, LinesWent, LifeClosed, SessionLost}
use Rattle.session_path.specs.Events.{SessionEnded, UpLost, after_events}

-- an attach of the gateway under the name with this number
abbrev pub asks_as : ℕ → PathEvent → ℕ
asks_as name (Began handle_max) = 0
asks_as name (Published address payload back) = 0
asks_as name Selected = 0
asks_as name (Owed ok) = 0
asks_as name (Consumed address tag no_ack no_wait) = 0
asks_as name (CancelCame tag no_wait) = 0
asks_as name (Declared queue no_wait) = 0
asks_as name (GetAsked queue no_ack) = 0
asks_as name (AnswerCame tag multiple settle) = 0
asks_as name (AttachCame attach) = 0
asks_as name (FlowCame peer count credit drain echo) = 0
asks_as name (DetachCame peer not_found) = 0
asks_as name (TransferCame peer part payload image again) = 0
asks_as name (LinkFailed peer fault) = 0
asks_as name (DispositionCame first last outcome settled) = 0
asks_as name (AttachSent own) = if own == name then 1 else 0
asks_as name LinkFlowSent = 0
asks_as name (TransferSent frame count) = 0
asks_as name (SettleSent settling) = 0
asks_as name DisposeSent = 0
asks_as name DetachSent = 0
asks_as name (ConfirmWent confirm) = 0
asks_as name (ReturnWent number) = 0
asks_as name (DeliverSent due) = 0
asks_as name ContentSent = 0
asks_as name (ContentWhole tag) = 0
asks_as name (OkSent ok) = 0
asks_as name LinesWent = 0
asks_as name LifeClosed = 0
asks_as name SessionLost = 0
asks_as name SessionEnded = 0
asks_as name UpLost = 0

abbrev pub times_asked : ℕ → List PathEvent → ℕ
times_asked name [] = 0
times_asked name (x ∷ h) = times_asked name h + asks_as name x

-- one of the container under this name, which isn't at fault
abbrev pub attaches_as : ℕ → PathState → PathEvent → ℕ
attaches_as name s (Began handle_max) = 0
attaches_as name s (Published address payload back) = 0
attaches_as name s Selected = 0
attaches_as name s (Owed ok) = 0
attaches_as name s (Consumed address tag no_ack no_wait) = 0
attaches_as name s (CancelCame tag no_wait) = 0
attaches_as name s (Declared queue no_wait) = 0
attaches_as name s (GetAsked queue no_ack) = 0
attaches_as name s (AnswerCame tag multiple settle) = 0
attaches_as name s (AttachCame a) =
    if a.name == name && not (is_some (attach_fault a.name a.role a.peer s.links)) then 1 else 0
attaches_as name s (FlowCame peer count credit drain echo) = 0
attaches_as name s (DetachCame peer not_found) = 0
attaches_as name s (TransferCame peer part payload image again) = 0
attaches_as name s (LinkFailed peer fault) = 0
attaches_as name s (DispositionCame first last outcome settled) = 0
attaches_as name s (AttachSent own) = 0
attaches_as name s LinkFlowSent = 0
attaches_as name s (TransferSent frame count) = 0
attaches_as name s (SettleSent settling) = 0
attaches_as name s DisposeSent = 0
attaches_as name s DetachSent = 0
attaches_as name s (ConfirmWent confirm) = 0
attaches_as name s (ReturnWent number) = 0
attaches_as name s (DeliverSent due) = 0
attaches_as name s ContentSent = 0
attaches_as name s (ContentWhole tag) = 0
attaches_as name s (OkSent ok) = 0
attaches_as name s LinesWent = 0
attaches_as name s LifeClosed = 0
attaches_as name s SessionLost = 0
attaches_as name s SessionEnded = 0
attaches_as name s UpLost = 0

abbrev pub times_attached : ℕ → ℕ → List PathEvent → ℕ
times_attached life name [] = 0
times_attached life name (x ∷ h) =
    times_attached life name h + attaches_as name (after_events life h) x
