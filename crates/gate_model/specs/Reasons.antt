-- What a channel.close of the gateway says: the code, the text and the ids of what closed its channel
-- (AMQP 0-9-1 1.5.2.5).
use Rattle.std.specs.Prelude.{◌≡◌, ℕ, ◌==◌, Bool, false, ◌&&◌, if◌then◌else◌, List, [], ◌∷◌}
use Rattle.std.specs.Prelude.{Option, None, Some, is_some, ◌+◌, ◌<◌, ◌≤◌}
use Rattle.std.specs.Option.{option_map, option_or}
use Rattle.close_translate.specs.declared.codes.TheConstants.{PRECONDITION_FAILED}
use Rattle.close_translate.specs.declared.conditions.Scope.{Scope}
use Rattle.close_translate.specs.declared.conditions.Scope.TheVariants as scope
use Rattle.machine_091.specs.State.{is_open}
use Rattle.machine_091.specs.declared.unit.Want91.{Want91}
use Rattle.machine_091.specs.declared.unit.Want91.TheVariants as want
use Rattle.machine_10.specs.Parts.{Parts}
use Rattle.machine_10.specs.Transitions as ten
use Rattle.machine_10.specs.Transitions.{Meaning}
use Rattle.property_map.specs.declared.told.Told.{Told}
use Rattle.session_path.specs.Path.{PathState}
use Rattle.gate_model.specs.declared.outgoing.Outgoing.TheVariants.{ToClient}
use Rattle.gate_model.specs.declared.reply.Reason.{Reason}
use Rattle.gate_model.specs.declared.reply.Reply.{Reply}
use Rattle.gate_model.specs.declared.reply.Reply.TheVariants as reply
use Rattle.gate_model.specs.Folds.{Peers, connection, container, paths_in, peers, ran_out_in}
use Rattle.gate_model.specs.Folds.{routes_in, scope_in}
use Rattle.gate_model.specs.Lives.{is_of_channel, reason_of, refusal_on}
use Rattle.gate_model.specs.Once.{one_if, went_in}
use Rattle.gate_model.specs.Paths.{path_at}
use Rattle.gate_model.specs.Requests.{client_told}
use Rattle.gate_model.specs.State.{Came, Gave, Heard, Step, closing_code, want_in}
use Rattle.gate_model.specs.Upstream.{meaning_by}

-- a refusal of channel n, with what is told of a message that has no image
abbrev pub reason_wanted : ℕ → Option Told → Want91 → Option Reason
reason_wanted n told want.Nothing = None
reason_wanted n told want.Start = None
reason_wanted n told (want.Login mechanism response) = None
reason_wanted n told want.Tuned = None
reason_wanted n told want.OpenUp = None
reason_wanted n told (want.Method k m) = None
reason_wanted n told (want.Publish k m c) = None
reason_wanted n told (want.ChannelCloseOk k) = None
reason_wanted n told want.Close = None
reason_wanted n told want.CloseOk = None
reason_wanted n told (want.Refuse r) =
    if is_of_channel r && r.channel == n then Some (reason_of told r) else None

-- what closes channel n for its container has the code of the container's error, or 406, and no ids
abbrev pub reason_with : ℕ → ℕ → Reason
reason_with n code = reason_of None (refusal_on n code)

-- a performative of the channel's session: one that is at fault, or else that ends the session, or a
-- link that the channel needs, or passes a limit of its link (AMQP 1.0 2.6.5, 2.7.3, 2.7.9)
abbrev pub reason_scoped : Option Scope → ℕ → Parts → List ℕ → PathState → Option Reason
reason_scoped None n q payload s =
    if q.0 == 17 then None else option_map (reason_with n) (closing_code q payload s)
reason_scoped (Some scope.Connection) n q payload s = None
reason_scoped (Some scope.Channel) n q payload s = Some (reason_with n PRECONDITION_FAILED)

abbrev pub reason_meant : Peers → ℕ → Meaning → Option Reason
reason_meant o n ten.Nothing = None
reason_meant o n ten.Init = None
reason_meant o n ten.AmqpHeader = None
reason_meant o n ten.Opened = None
reason_meant o n (ten.OfSession k q payload) =
    if k == n && is_open o.client n
    then reason_scoped (scope_in o n q payload) n q payload (path_at o.paths n) else None
reason_meant o n (ten.Closed e) = None
reason_meant o n ten.Refused = None
reason_meant o n (ten.Violation why) = None

-- why a step closes channel n
abbrev pub reason_at : ℕ → List Step → Step → Option Reason
reason_at n h (Came u) =
    if ran_out_in h then None
    else reason_wanted n (client_told (routes_in h) (connection h) u)
    (want_in (routes_in h) (paths_in h) (connection h) u)
reason_at n h (Heard u) =
    if ran_out_in h then None
    else reason_meant (peers h) n (meaning_by (container h) u)
reason_at n h s = None

-- the last reason
abbrev pub reason_in : ℕ → List Step → Option Reason
reason_in n [] = None
reason_in n (s ∷ h) = option_or (reason_at n h s) (reason_in n h)

-- each channel.close that went has that of its channel
abbrev pub MaySay : List Step → Reply → Type 0
MaySay h (reply.ChannelClose n r) = reason_in n h ≡ Some r
MaySay h u = Unit {0}

abbrev pub SaysWhy : List Step → Type 0
SaysWhy [] = Unit {0}
SaysWhy (Gave (ToClient u) text ∷ h) = MaySay h u × SaysWhy h
SaysWhy (s ∷ h) = SaysWhy h

-- ---- each once

abbrev pub is_close_on : ℕ → Reply → Bool
is_close_on n reply.Protocol = false
is_close_on n reply.Start = false
is_close_on n reply.Tune = false
is_close_on n reply.OpenOk = false
is_close_on n reply.CloseOk = false
is_close_on n (reply.Close r) = false
is_close_on n reply.NoMemory = false
is_close_on n reply.Heartbeat = false
is_close_on n (reply.ChannelOpenOk k) = false
is_close_on n (reply.OnChannel k u) = false
is_close_on n (reply.ChannelCloseOk k) = false
is_close_on n (reply.CrossedOk k) = false
is_close_on n (reply.ChannelClose k r) = k == n

-- how many steps had a reason to close channel n
abbrev pub reasons_in : ℕ → List Step → ℕ
reasons_in n [] = 0
reasons_in n (s ∷ h) = reasons_in n h + one_if (is_some (reason_at n h s))

-- no more channel.closes went
abbrev pub ClosesOnce : List Step → Type 0
ClosesOnce h = (n : ℕ) → n < 256 → went_in (is_close_on n) h ≤ reasons_in n h
