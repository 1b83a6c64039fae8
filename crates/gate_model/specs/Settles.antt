-- The dispositions of role receiver that go to the container, and the flows of receiving links: told
-- by the events of the life in progress, over the fates of its deliveries, which know no state.
use Rattle.std.specs.Prelude.{◌≡◌, ℕ, true, List, [], ◌∷◌, find, Some}
use Rattle.consume_path.specs.Deliveries.{DeliveryEvent}
use Rattle.consume_path.specs.Deliveries.{after_events as deliveries_after}
use Rattle.consume_path.specs.Laws.{IsCounted, IsLawfulCredit, IsLawfulSettle}
use Rattle.consume_path.specs.Links.{link_of}
use Rattle.consume_path.specs.declared.delivery.NextSettle.{NextSettle}
use Rattle.consume_path.specs.declared.receiving.ReceivingLink.{ReceivingLink}
use Rattle.session_path.specs.Events.{after_events, deliveries_of}
use Rattle.session_path.specs.Links.{has_number}
use Rattle.session_path.specs.declared.path.PathLink.{PathLink}
use Rattle.gate_model.specs.Publishing.{path_events, path_life}
use Rattle.gate_model.specs.State.{Gave, Step}
use Rattle.gate_model.specs.declared.channel.LinkFlow.{LinkFlow}
use Rattle.gate_model.specs.declared.channel.SessionUnit.TheVariants as unit
use Rattle.gate_model.specs.declared.outgoing.Outgoing.TheVariants.{ToUp}
use Rattle.gate_model.specs.declared.outgoing.UpUnit.{UpUnit}
use Rattle.gate_model.specs.declared.outgoing.UpUnit.TheVariants as up

-- ---- dispositions

-- a disposition on channel n: each delivery-id that it covers is that of a delivery of the life in
-- progress that is owed its state, and it covers no other that lacks one (AMQP 1.0 2.6.12, 2.7.6).
-- By its fate a delivery is owed `accepted` where the client acknowledged it, or where it needs no
-- acknowledgement and its content was written whole; and it is owed one state, once, where it
-- didn't come settled
pub record MayDispose (h : List Step) (n : ℕ) (x : NextSettle) : Type 0 where
  pub life : ℕ
  pub lives : path_life h n ≡ Some life
  pub lawful : IsLawfulSettle (deliveries_of life (path_events h n)) x

abbrev pub MaySettle : List Step → UpUnit → Type 0
MaySettle h (up.OnSession n (unit.Dispose x)) = MayDispose h n x
MaySettle h u = Unit {0}

-- each that went is one of these
abbrev pub Settles : List Step → Type 0
Settles [] = Unit {0}
Settles (Gave (ToUp u) text ∷ h) = MaySettle h u × Settles h
Settles (s ∷ h) = Settles h

-- ---- flows

-- a credit on the receiving link with this number: with what counts there it is within a consumer's
-- quota; none once that was cancelled, and where a declaration attached the link; 1 at most on one
-- for gets (AMQP 1.0 2.6.7). The deliveries count that nothing settles on a link with a prefetch, on
-- another those that are held; and the one that is begun
pub record IsGranted (life : ℕ) (es : List DeliveryEvent) (number credit : ℕ) : Type 0 where
  pub link : ReceivingLink
  pub is : link_of (deliveries_after life es).links number ≡ Some link
  pub lawful : IsLawfulCredit link.kind credit link
  pub counted : IsCounted es link

-- a flow on channel n is of a link of its session; that of a receiving one states such a credit
pub record MayFlow (h : List Step) (n : ℕ) (f : LinkFlow) : Type 0 where
  pub life : ℕ
  pub lives : path_life h n ≡ Some life
  pub link : PathLink
  pub is : find (has_number f.link) (after_events life (path_events h n)).links.links ≡ Some link
  pub granted : link.receives ≡ true
      → IsGranted life (deliveries_of life (path_events h n)) f.link f.credit

abbrev pub MayGrant : List Step → UpUnit → Type 0
MayGrant h (up.OnSession n (unit.Flow f)) = MayFlow h n f
MayGrant h u = Unit {0}

abbrev pub Grants : List Step → Type 0
Grants [] = Unit {0}
Grants (Gave (ToUp u) text ∷ h) = MayGrant h u × Grants h
Grants (s ∷ h) = Grants h
