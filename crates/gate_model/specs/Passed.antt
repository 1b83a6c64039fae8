-- Which error a detach of the gateway states, and that it states one: told by the events of the
-- life in progress (AMQP 1.0 2.6.5, 2.7.7, 2.8.14, 2.8.18).
use Rattle.std.specs.Prelude.{◌≡◌, ℕ, Bool, false, if◌then◌else◌, List, [], ◌∷◌, Option, None, Some}
use Rattle.std.specs.Prelude.{find, is_some}
use Rattle.consume_path.specs.declared.receiving.TransferFault.{TransferFault}
use Rattle.session_path.specs.Events as event
use Rattle.session_path.specs.Events.{PathEvent, after_events}
use Rattle.session_path.specs.Links.{has_number, named}
use Rattle.session_path.specs.Path.{PathState, taking_in}
use Rattle.session_path.specs.declared.path.PathLink.{PathLink}
use Rattle.gate_model.specs.declared.channel.SessionUnit.TheVariants as unit
use Rattle.gate_model.specs.declared.outgoing.Outgoing.TheVariants.{ToUp}
use Rattle.gate_model.specs.declared.outgoing.UpUnit.{UpUnit}
use Rattle.gate_model.specs.declared.outgoing.UpUnit.TheVariants as up
use Rattle.gate_model.specs.Paths.{error_for}
use Rattle.gate_model.specs.Publishing.{path_events, path_life}
use Rattle.gate_model.specs.State.{Gave, Step}

-- it is the link with this number
abbrev pub is_that_link : ℕ → Option PathLink → Bool
is_that_link k None = false
is_that_link k (Some l) = has_number k l

-- a transfer of the container passes a limit of the receiving link with number k, which both ends
-- attached; or the container detaches that link
abbrev pub passed_by : ℕ → PathState → PathEvent → Option TransferFault → Option TransferFault
passed_by k s (event.LinkFailed peer fault) old =
    if is_that_link k (taking_in (named peer s.links)) then Some fault else old
passed_by k s (event.DetachCame peer not_found) old =
    if is_that_link k (named peer s.links) then None else old
passed_by k s x old = old

-- the limit that was passed, while there is such a link that the container didn't detach
abbrev pub passed_in : ℕ → ℕ → List PathEvent → Option TransferFault
passed_in life k [] = None
passed_in life k (x ∷ es) =
    if is_some (find (has_number k) (after_events life es).links.links)
    then passed_by k (after_events life es) x (passed_in life k es) else None

-- each detach that went stated the error for that, or none
abbrev pub MayPart : List Step → UpUnit → Type 0
MayPart h (up.OnSession n (unit.Detach link handle why)) =
    (life : ℕ) → path_life h n ≡ Some life
    → why ≡ error_for (passed_in life link (path_events h n))
MayPart h u = Unit {0}

abbrev pub StatesPassed : List Step → Type 0
StatesPassed [] = Unit {0}
StatesPassed (Gave (ToUp u) text ∷ h) = MayPart h u × StatesPassed h
StatesPassed (s ∷ h) = StatesPassed h
