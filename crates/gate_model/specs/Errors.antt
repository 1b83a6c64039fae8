-- Which error an end of the gateway states: that of what closed its channel last since the end
-- before it (AMQP 1.0 2.7.8, 2.8.14).
use Rattle.std.specs.Prelude.{◌≡◌, ℕ, ◌==◌, Bool, false, ◌&&◌, if◌then◌else◌, List, [], ◌∷◌}
use Rattle.std.specs.Prelude.{Option, None, Some}
use Rattle.std.specs.Option.{option_map}
use Rattle.close_translate.specs.Conditions.{condition_of}
use Rattle.close_translate.specs.declared.conditions.Scope.{Scope}
use Rattle.close_translate.specs.declared.conditions.Scope.TheVariants as scope
use Rattle.machine_091.specs.State.{is_open}
use Rattle.machine_091.specs.declared.unit.Want91.{Want91}
use Rattle.machine_091.specs.declared.unit.Want91.TheVariants as want
use Rattle.machine_10.specs.Parts.{Parts}
use Rattle.machine_10.specs.Transitions as ten
use Rattle.machine_10.specs.Transitions.{Meaning}
use Rattle.performatives_10.specs.declared.condition.Condition.{Condition}
use Rattle.session_path.specs.Path.{PathState}
use Rattle.gate_model.specs.declared.life.SessionState.{SessionState}
use Rattle.gate_model.specs.declared.outgoing.Outgoing.TheVariants.{ToUp}
use Rattle.gate_model.specs.declared.outgoing.UpUnit.{UpUnit}
use Rattle.gate_model.specs.declared.outgoing.UpUnit.TheVariants as up
use Rattle.gate_model.specs.Folds.{Peers, connection, container, paths_in, peers, ran_out_in}
use Rattle.gate_model.specs.Folds.{routes_in, scope_in}
use Rattle.gate_model.specs.Lives.{is_of_channel}
use Rattle.gate_model.specs.Paths.{path_at}
use Rattle.gate_model.specs.Repeats.{is_end_on}
use Rattle.gate_model.specs.State.{Came, Gave, Heard, Step, closing_code, ending_error, want_in}
use Rattle.gate_model.specs.Upstream.{meaning_by}

-- a refusal of channel n has the condition of its code
abbrev pub error_wanted : ℕ → Want91 → Option (Option Condition)
error_wanted n want.Nothing = None
error_wanted n want.Start = None
error_wanted n (want.Login mechanism response) = None
error_wanted n want.Tuned = None
error_wanted n want.OpenUp = None
error_wanted n (want.Method k m) = None
error_wanted n (want.Publish k m c) = None
error_wanted n (want.ChannelCloseOk k) = None
error_wanted n want.Close = None
error_wanted n want.CloseOk = None
error_wanted n (want.Refuse r) =
    if is_of_channel r && r.channel == n then Some (Some (condition_of r.code)) else None

-- a performative of the channel's session that is at fault has the condition of its fault (2.8.15 to
-- 2.8.17); an end, a detach of a link that the channel needs, and a transfer that passes a limit of
-- its link have none
abbrev pub error_scoped : Option Scope → Parts → List ℕ → SessionState → PathState
    → Option (Option Condition)
error_scoped None q payload x s =
    if q.0 == 17 then None else option_map (λ (code : ℕ). None) (closing_code q payload s)
error_scoped (Some scope.Connection) q payload x s = None
error_scoped (Some scope.Channel) q payload x s = Some (Some (ending_error q payload x s))

abbrev pub error_meant : Peers → ℕ → Meaning → Option (Option Condition)
error_meant o n ten.Nothing = None
error_meant o n ten.Init = None
error_meant o n ten.AmqpHeader = None
error_meant o n ten.Opened = None
error_meant o n (ten.OfSession k q payload) =
    if k == n && is_open o.client n
    then error_scoped (scope_in o n q payload) q payload (o.carried n) (path_at o.paths n) else None
error_meant o n (ten.Closed e) = None
error_meant o n ten.Refused = None
error_meant o n (ten.Violation why) = None

-- a step closes channel n, with an error or none
abbrev pub error_at : ℕ → List Step → Step → Option (Option Condition)
error_at n h (Came u) =
    if ran_out_in h then None
    else error_wanted n (want_in (routes_in h) (paths_in h) (connection h) u)
error_at n h (Heard u) =
    if ran_out_in h then None else error_meant (peers h) n (meaning_by (container h) u)
error_at n h s = None

-- the gateway's end of the session of channel n goes
abbrev pub ends_session : ℕ → Step → Bool
ends_session n (Gave (ToUp u) text) = is_end_on n u
ends_session n s = false

abbrev pub error_or : Option (Option Condition) → Option Condition → Option Condition
error_or None old = old
error_or (Some why) old = why

-- the error of what closed the channel last; that is told by one end
abbrev pub error_in : ℕ → List Step → Option Condition
error_in n [] = None
error_in n (s ∷ h) =
    if ends_session n s then None else error_or (error_at n h s) (error_in n h)

-- each end that went has that
abbrev pub MayState : List Step → UpUnit → Type 0
MayState h (up.End n why) = why ≡ error_in n h
MayState h u = Unit {0}

abbrev pub StatesErrors : List Step → Type 0
StatesErrors [] = Unit {0}
StatesErrors (Gave (ToUp u) text ∷ h) = MayState h u × StatesErrors h
StatesErrors (s ∷ h) = StatesErrors h
