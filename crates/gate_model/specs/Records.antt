-- What is recorded of the deliveries of a channel's life where a disposition, a detach or a flow of
-- a link goes: what went. So the fates of deliveries are settled by what was sent.
use Rattle.std.specs.Prelude.{◌≡◌, ℕ, Bool, true, false, List, [], ◌∷◌, Some, find}
use Rattle.std.specs.Prelude.{if◌then◌else◌}
use Rattle.consume_path.specs.Deliveries as on
use Rattle.consume_path.specs.Deliveries.{DeliveryEvent}
use Rattle.consume_path.specs.declared.receiving.NextGrant.{NextGrant}
use Rattle.session_path.specs.Events.{after_events, deliveries_of}
use Rattle.session_path.specs.Links.{has_number}
use Rattle.session_path.specs.declared.path.PathLink.{PathLink}
use Rattle.gate_model.specs.Publishing.{path_events, path_life}
use Rattle.gate_model.specs.State.{Gave, Step}
use Rattle.gate_model.specs.declared.channel.LinkFlow.{LinkFlow}
use Rattle.gate_model.specs.declared.channel.SessionUnit.TheVariants as unit
use Rattle.gate_model.specs.declared.outgoing.Outgoing.TheVariants.{ToUp}
use Rattle.gate_model.specs.declared.outgoing.UpUnit.{UpUnit}
use Rattle.gate_model.specs.declared.outgoing.UpUnit.TheVariants as up

-- of a flow: the credit that it states, on its link (AMQP 1.0 2.6.7)
pub record IsGrant (f : LinkFlow) (before after : List DeliveryEvent) : Type 0 where
  pub grant : NextGrant
  pub link : grant.link ≡ f.link
  pub credit : grant.credit ≡ f.credit
  pub is : after ≡ on.GrantSent grant ∷ before

-- that of a sending link is none of the deliveries'
abbrev pub IsFlow : Bool → LinkFlow → List DeliveryEvent → List DeliveryEvent → Type 0
IsFlow true f before after = IsGrant f before after
IsFlow false f before after = after ≡ before

-- a detach of a receiving link takes its deliveries from the link (2.6.6)
abbrev pub parted_from : PathLink → List DeliveryEvent → List DeliveryEvent
parted_from l ds = if l.receives then on.LinkDropped l.link ∷ ds else ds

-- of a unit that goes behind h, after which the steps are these: of a disposition its states and
-- its delivery-ids (2.7.6)
abbrev pub IsRecorded : List Step → UpUnit → List Step → Type 0
IsRecorded h (up.OnSession n (unit.Dispose x)) after =
    (life : ℕ) → path_life h n ≡ Some life
    → deliveries_of life (path_events after n)
    ≡ on.SettleSent x ∷ deliveries_of life (path_events h n)
IsRecorded h (up.OnSession n (unit.Detach link handle why)) after =
    (life : ℕ) (l : PathLink) → path_life h n ≡ Some life
    → find (has_number link) (after_events life (path_events h n)).links.links ≡ Some l
    → deliveries_of life (path_events after n)
    ≡ parted_from l (deliveries_of life (path_events h n))
IsRecorded h (up.OnSession n (unit.Flow f)) after =
    (life : ℕ) (l : PathLink) → path_life h n ≡ Some life
    → find (has_number f.link) (after_events life (path_events h n)).links.links ≡ Some l
    → IsFlow l.receives f (deliveries_of life (path_events h n))
    (deliveries_of life (path_events after n))
IsRecorded h u after = Unit {0}

-- so it is of each that went
abbrev pub Records : List Step → Type 0
Records [] = Unit {0}
Records (Gave (ToUp u) text ∷ h) = IsRecorded h u (Gave (ToUp u) text ∷ h) × Records h
Records (s ∷ h) = Records h
