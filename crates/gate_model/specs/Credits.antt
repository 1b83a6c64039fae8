-- The credit that the flows of receiving links state, by the kind of the link; the quota of
-- a consumer's link, and how much of it is in use at all times. Told by the events of the life in
-- progress.
use Rattle.std.specs.Prelude.{◌≡◌, ℕ, ◌+◌, ◌==◌, ◌≤◌, Bool, true, false, not, ◌&&◌, ◌||◌}
use Rattle.std.specs.Prelude.{if◌then◌else◌, List, [], ◌∷◌, Option, None, Some, find, is_some}
use Rattle.consume_path.specs.Deliveries as on
use Rattle.consume_path.specs.Deliveries.{DeliveryEvent}
use Rattle.consume_path.specs.Deliveries.{after_events as deliveries_after}
use Rattle.consume_path.specs.Journal.{is_closed}
use Rattle.consume_path.specs.Laws.{counted_on, joined_of, pieces_of}
use Rattle.consume_path.specs.Links.{free_quota, link_of, one_if}
use Rattle.consume_path.specs.declared.receiving.ReceivingLink.{ReceivingLink}
use Rattle.consume_path.specs.declared.receiving.RecvKind.{RecvKind}
use Rattle.consume_path.specs.declared.receiving.RecvKind.TheVariants.{Consumer, Get, Probe}
use Rattle.session_path.specs.Events as event
use Rattle.session_path.specs.Events.{PathEvent, after_events, deliveries_of}
use Rattle.session_path.specs.Links.{free_number, has_number}
use Rattle.session_path.specs.declared.path.PathLink.{PathLink}
use Rattle.session_path.specs.declared.path.PathOk.TheVariants as ok
use Rattle.gate_model.specs.declared.channel.LinkFlow.{LinkFlow}
use Rattle.gate_model.specs.declared.channel.SessionUnit.TheVariants as unit
use Rattle.gate_model.specs.declared.outgoing.Outgoing.TheVariants.{ToUp}
use Rattle.gate_model.specs.declared.outgoing.UpUnit.{UpUnit}
use Rattle.gate_model.specs.declared.outgoing.UpUnit.TheVariants as up
use Rattle.gate_model.specs.Publishing.{path_events, path_life}
use Rattle.gate_model.specs.State.{Gave, Step}

-- ---- a receiving link

-- what the link with number k is for, while it is there
abbrev pub kind_in : ℕ → List DeliveryEvent → Option RecvKind
kind_in k [] = None
kind_in k (on.LinkAdded link kind ∷ ds) = if link == k then Some kind else kind_in k ds
kind_in k (on.LinkDropped link ∷ ds) = if link == k then None else kind_in k ds
kind_in k (x ∷ ds) = kind_in k ds

-- ---- gets

-- a basic.get of its queue waits on link k for its delivery: since it was taken up no transfer came
-- on the link, and its get-empty isn't due (AMQP 0-9-1 1.8.3.10; AMQP 1.0 2.6.7)
abbrev pub awaits : ℕ → List DeliveryEvent → Bool
awaits k [] = false
awaits k (on.GetCame link no_ack ∷ ds) = (link == k) || awaits k ds
awaits k (on.LinkAdded link kind ∷ ds) = not (link == k) && awaits k ds
awaits k (on.TransferCame link part payload ∷ ds) = not (link == k) && awaits k ds
awaits k (on.Emptied link ∷ ds) = not (link == k) && awaits k ds
awaits k (x ∷ ds) = awaits k ds

-- ---- consumers

-- the prefetch-count of the last basic.qos for each consumer; 0 where none was (RabbitMQ's meaning
-- of `global`; AMQP 0-9-1 1.8.3.1)
abbrev pub prefetch_in : List PathEvent → ℕ
prefetch_in [] = 0
prefetch_in (event.Owed (ok.Qos count global) ∷ es) = if global then prefetch_in es else count
prefetch_in (x ∷ es) = prefetch_in es

-- a prefetch of 0 is no limit, and one without acknowledgements has none: 64 then
abbrev pub quota_by : Bool → ℕ → ℕ
quota_by no_ack prefetch = if no_ack || (prefetch == 0) then free_quota else prefetch

-- the quota of the consumer with link k is by the last basic.qos before its basic.consume
abbrev pub quota_in : ℕ → ℕ → List PathEvent → ℕ
quota_in life k [] = 0
quota_in life k (event.Consumed queue tag no_ack no_wait ∷ es) =
    if free_number (after_events life es).links.links == k then quota_by no_ack (prefetch_in es)
    else quota_in life k es
quota_in life k (x ∷ es) = quota_in life k es

-- the same by the events of the deliveries alone
abbrev pub prefetch_of : List DeliveryEvent → ℕ
prefetch_of [] = 0
prefetch_of (on.PrefetchSet count ∷ ds) = count
prefetch_of (x ∷ ds) = prefetch_of ds

abbrev pub added_quota : RecvKind → Bool → ℕ → ℕ → ℕ
added_quota (Consumer tag no_ack) here prefetch old =
    if here then quota_by no_ack prefetch else old
added_quota Get here prefetch old = old
added_quota Probe here prefetch old = old

abbrev pub quota_of : ℕ → List DeliveryEvent → ℕ
quota_of k [] = 0
quota_of k (on.LinkAdded link kind ∷ ds) =
    added_quota kind (link == k) (prefetch_of ds) (quota_of k ds)
quota_of k (x ∷ ds) = quota_of k ds

-- how much of it is in use: on a limited link the deliveries that nothing settles, on another those
-- that are held; and the one that is begun
abbrev pub in_use : ℕ → List DeliveryEvent → ℕ
in_use k ds = counted_on k ds + one_if (is_some (joined_of (pieces_of k ds)))

-- ---- at all times

-- it is a consumer's
abbrev pub is_consumer : RecvKind → Bool
is_consumer (Consumer tag no_ack) = true
is_consumer Get = false
is_consumer Probe = false

-- the container attached the link of a consumer that wasn't cancelled
abbrev pub is_granted : ReceivingLink → Bool
is_granted l = is_consumer l.kind && (l.attached && not l.cancelled)

-- until its life closes, what is left there of the credit that was stated last, with what is in
-- use, is within the quota (AMQP 0-9-1 1.8.3.1; AMQP 1.0 2.6.7)
abbrev pub KeepsQuotas : List Step → Type 0
KeepsQuotas h =
    (n life k : ℕ) (link : ReceivingLink) → path_life h n ≡ Some life
    → is_closed (deliveries_of life (path_events h n)) ≡ false
    → link_of (deliveries_after life (deliveries_of life (path_events h n))).links k ≡ Some link
    → is_granted link ≡ true
    → link.state.credit + in_use k (deliveries_of life (path_events h n))
    ≤ quota_in life k (path_events h n)

-- ---- flows

-- on a link for gets a flow states credit with drain, 1 at most, and none but while its get waits
-- (AMQP 1.0 2.6.7)
pub record IsGetCredit (ds : List DeliveryEvent) (f : LinkFlow) : Type 0 where
  pub drain : f.drain ≡ true
  pub most : f.credit ≤ 1
  pub waits : awaits f.link ds ≡ false → f.credit ≡ 0

-- a consumer's is, with what is in use, within its quota; and a declaration's link gets none
abbrev pub IsCredit : ℕ → List PathEvent → LinkFlow → Option RecvKind → Type 0
IsCredit life es f (Some (Consumer tag no_ack)) =
    f.credit + in_use f.link (deliveries_of life es) ≤ quota_in life f.link es
IsCredit life es f (Some Get) = IsGetCredit (deliveries_of life es) f
IsCredit life es f (Some Probe) = f.credit ≡ 0
IsCredit life es f None = ⊥

abbrev pub is_receiving : Option PathLink → Bool
is_receiving None = false
is_receiving (Some l) = l.receives

-- so it is of each flow of a receiving link
abbrev pub MayState : List Step → UpUnit → Type 0
MayState h (up.OnSession n (unit.Flow f)) =
    (life : ℕ) → path_life h n ≡ Some life
    → is_receiving (find (has_number f.link) (after_events life (path_events h n)).links.links)
    ≡ true
    → IsCredit life (path_events h n) f (kind_in f.link (deliveries_of life (path_events h n)))
MayState h u = Unit {0}

abbrev pub StatesCredit : List Step → Type 0
StatesCredit [] = Unit {0}
StatesCredit (Gave (ToUp u) text ∷ h) = MayState h u × StatesCredit h
StatesCredit (s ∷ h) = StatesCredit h
