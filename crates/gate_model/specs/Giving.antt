-- What the gateway's detach of a link loses that the container didn't detach: no publish. Told by
-- the events of the life in progress, over the fates of its publishes, which know no state.
use Rattle.std.specs.Prelude.{◌≡◌, ℕ, true, false, List, [], ◌∷◌, Some, find}
use Rattle.publish_path.specs.Journal.{IsTaken, fate_of, is_to_go, is_undecided}
use Rattle.publish_path.specs.Publishes.{PublishEvent}
use Rattle.session_path.specs.Events.{after_events, publishes_of}
use Rattle.session_path.specs.Links.{has_number, is_stage_open}
use Rattle.session_path.specs.declared.path.PathLink.{PathLink}
use Rattle.gate_model.specs.Publishing.{path_events, path_life}
use Rattle.gate_model.specs.State.{Gave, Step}
use Rattle.gate_model.specs.declared.channel.SessionUnit.TheVariants as unit
use Rattle.gate_model.specs.declared.outgoing.Outgoing.TheVariants.{ToUp}
use Rattle.gate_model.specs.declared.outgoing.UpUnit.{UpUnit}
use Rattle.gate_model.specs.declared.outgoing.UpUnit.TheVariants as up

-- each publish of the life that was taken up for this link went whole, or its link was lost; and it
-- has its outcome (AMQP 1.0 2.6.12, 2.6.14, 3.4)
abbrev pub AreDone : List PublishEvent → ℕ → Type 0
AreDone es link =
    (k : ℕ) → IsTaken es k → (fate_of k es).link ≡ link
    → (is_to_go (fate_of k es) ≡ false) × (is_undecided (fate_of k es) ≡ false)

-- where both ends attached the sending link and the container didn't detach it, which is then
-- detached for its handle (AMQP 1.0 2.6.2, 2.6.3, 2.6.6)
abbrev pub AreDoneOn : List Step → ℕ → ℕ → Type 0
AreDoneOn h n link =
    (life : ℕ) (l : PathLink) → path_life h n ≡ Some life
    → find (has_number link) (after_events life (path_events h n)).links.links ≡ Some l
    → l.receives ≡ false → is_stage_open l.stage ≡ true
    → AreDone (publishes_of life (path_events h n)) link

abbrev pub MayGive : List Step → UpUnit → Type 0
MayGive h (up.OnSession n (unit.Detach link handle why)) = AreDoneOn h n link
MayGive h u = Unit {0}

-- each detach that went was one of these
abbrev pub GivesUpIdle : List Step → Type 0
GivesUpIdle [] = Unit {0}
GivesUpIdle (Gave (ToUp u) text ∷ h) = MayGive h u × GivesUpIdle h
GivesUpIdle (s ∷ h) = GivesUpIdle h
