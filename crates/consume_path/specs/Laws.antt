-- What holds after any events of a life, by the fates of its deliveries alone.
use Rattle.std.specs.Prelude.{◌≡◌, ℕ, zero, suc, Bool, true, false, ◌+◌, ◌^◌, ◌≤◌, ◌<◌, ◌==◌, ◌&&◌}
use Rattle.std.specs.Prelude.{◌||◌, not, if◌then◌else◌, nat_le, nat_lt, List, [], ◌∷◌, ◌++◌, Option}
use Rattle.std.specs.Prelude.{Some, None, is_some, length, IfSome}
use Rattle.std.specs.Option.{option_map, option_or}
use Rattle.open_items.specs.declared.lost.LostItem.{LostItem}
use Rattle.open_items.specs.Numbers.{passing, least, how_many}
use Rattle.consume_path.specs.declared.delivery.NextDeliver.{NextDeliver}
use Rattle.consume_path.specs.declared.delivery.NextSettle.{NextSettle}
use Rattle.consume_path.specs.declared.receiving.NextGrant.{NextGrant}
use Rattle.consume_path.specs.declared.receiving.Part.{Part}
use Rattle.consume_path.specs.declared.receiving.Partial.{Partial}
use Rattle.consume_path.specs.declared.receiving.ReceivingLink.{ReceivingLink}
use Rattle.consume_path.specs.declared.receiving.RecvKind.{RecvKind}
use Rattle.consume_path.specs.declared.receiving.RecvKind.TheVariants.{Consumer as Consumes, Get}
use Rattle.consume_path.specs.declared.receiving.RecvKind.TheVariants.{Probe}
use Rattle.consume_path.specs.declared.searches.Ranked.{Ranked}
use Rattle.consume_path.specs.Items.{is_no_ack, limit_of, is_on, in_range}
use Rattle.consume_path.specs.Links.{link_of, in_link, id_or, is_whole, one_if}
use Rattle.consume_path.specs.Deliveries.{DeliveryState, DeliveryEvent, LinkAdded, GetCame}
use Rattle.consume_path.specs.Deliveries.{TransferCame, Arrived, Closed, EndLost, GrantSent}
use Rattle.consume_path.specs.Deliveries.{LinesTold, after_events}
use Rattle.consume_path.specs.Offers.{soonest, rank_of, has_room, getting, consuming, consumes}
use Rattle.consume_path.specs.Offers.{on_link, with_line, arriving_in, fault_in, is_for_gets}
use Rattle.consume_path.specs.Offers.{next_grant_of}
use Rattle.consume_path.specs.Journal.{Fate, fate_of, numbers_of, is_closed, IsTaken, passes, waits}
use Rattle.consume_path.specs.Journal.{is_written, is_owed, is_uncovered, is_at_risk, is_counted}
use Rattle.consume_path.specs.Journal.{is_outstanding}

-- delivery-ids

-- it is held, unsettled, or its content is being written
abbrev pub holds_id : Fate → Bool
holds_id f = waits f || is_written f || is_uncovered f

-- a delivery-id has 32 bits, and is that of no open delivery (AMQP 1.0 2.7.5)
abbrev pub IsFresh : List DeliveryEvent → DeliveryEvent → Type 0
IsFresh h (Arrived a content again) =
    (a.id < 2 ^ 32) × ((n : ℕ) → IsTaken h n → holds_id (fate_of n h) ≡ true
    → (fate_of n h).id ≡ a.id → ⊥)
IsFresh h x = Unit {0}

abbrev pub AreFresh : List DeliveryEvent → Type 0
AreFresh [] = Unit {0}
AreFresh (x ∷ h) = IsFresh h x × AreFresh h

-- an open delivery has this id
abbrev pub has_id : ℕ → Fate → Bool
has_id id f = f.id == id && (waits f || is_written f || is_uncovered f)

abbrev pub is_id_open : ℕ → List DeliveryEvent → Bool
is_id_open id h = is_some (least (λ n. has_id id (fate_of n h)) (numbers_of h))

-- dispositions

-- n is owed one
abbrev pub IsOwed : List DeliveryEvent → ℕ → Type 0
IsOwed h n = IsTaken h n × (is_owed (fate_of n h) ≡ true)

pub record IsLawfulSettle (h : List DeliveryEvent) (s : NextSettle) : Type 0 where
  -- each delivery-id that it covers is that of a delivery that is owed this state
  pub owed : (id : ℕ) → id < 2 ^ 32 → in_range s.first s.last id ≡ true
      → (n : ℕ) × IsOwed h n × ((fate_of n h).id ≡ id) × ((fate_of n h).due ≡ Some s.settle)
  -- of the deliveries without a disposition it covers no other
  pub only : (n : ℕ) → IsTaken h n → is_uncovered (fate_of n h) ≡ true
      → in_range s.first s.last (fate_of n h).id ≡ true → (fate_of n h).due ≡ Some s.settle

-- the first delivery-id that it covers is that of the least number that is owed one
abbrev pub first_owed : List DeliveryEvent → Option ℕ
first_owed h =
    option_map (λ n. (fate_of n h).id) (least (λ n. is_owed (fate_of n h)) (numbers_of h))

-- each delivery of the link that didn't come settled had its disposition, or the end is lost
abbrev pub lacks_settle : ℕ → Fate → Bool
lacks_settle link f = is_on link f.link && is_uncovered f

abbrev pub are_covered : ℕ → List DeliveryEvent → Bool
are_covered link h = not (is_some (least (λ n. lacks_settle link (fate_of n h)) (numbers_of h)))

-- the tags that an answer of the client may name

abbrev pub has_tag : ℕ → Fate → Bool
has_tag tag f = is_outstanding f && passes (λ t. t == tag) f.tag

abbrev pub is_tag_known : ℕ → Bool → List DeliveryEvent → Bool
is_tag_known tag multiple h =
    (multiple && (tag == 0)) || is_some (least (λ n. has_tag tag (fate_of n h)) (numbers_of h))

-- delivers

-- a consumer has it, and hasn't settled it
abbrev pub is_unsettled : Fate → Bool
is_unsettled f = consumes f.taker && is_outstanding f

abbrev pub is_unsettled_on : ℕ → Fate → Bool
is_unsettled_on link f = is_on link f.link && is_unsettled f

abbrev pub unsettled_on : ℕ → List DeliveryEvent → ℕ
unsettled_on link h = how_many (λ n. is_unsettled_on link (fate_of n h)) (numbers_of h)

abbrev pub unsettled : List DeliveryEvent → ℕ
unsettled h = how_many (λ n. is_unsettled (fate_of n h)) (numbers_of h)

abbrev pub has_room_of_all : ℕ → List DeliveryEvent → Bool
has_room_of_all global h = global == 0 || nat_lt (unsettled h) global

abbrev pub next_of : ℕ → ℕ → Fate → NextDeliver
next_of link n f = record { number = n; link = link; id = f.id; again = f.again }

-- a get-ok of n, or a deliver of n where both limits have room
abbrev pub get_at : List DeliveryEvent → ℕ → Option Ranked
get_at h n =
    on_link (fate_of n h).link (λ link. getting (fate_of n h).taker (next_of link n (fate_of n h)))

abbrev pub consumer_at : Bool → List DeliveryEvent → ℕ → Option Ranked
consumer_at free h n =
    on_link (fate_of n h).link (λ link. consuming free (unsettled_on link h) (fate_of n h).taker
    (next_of link n (fate_of n h)))

-- those that are held, by rising number
abbrev pub held : List DeliveryEvent → List ℕ
held h = passing (λ n. waits (fate_of n h)) (numbers_of h)

-- the first get has its own; else the consumer on the link with the least number
abbrev pub deliver_by : ℕ → List DeliveryEvent → Option NextDeliver
deliver_by global h =
    option_map (λ r. r.next)
    (option_or (soonest rank_of (get_at h) (held h))
    (soonest rank_of (consumer_at (has_room_of_all global h) h) (held h)))

pub record IsLawfulDeliver (global : ℕ) (h : List DeliveryEvent) (next : NextDeliver) : Type 0 where
  -- it is that of a delivery with an image, of which none went, and which nothing settled
  pub taken : IsTaken h next.number
  pub waiting : waits (fate_of next.number h) ≡ true
  pub image : is_some (fate_of next.number h).content ≡ true
  pub link : (fate_of next.number h).link ≡ Some next.link
  pub id : (fate_of next.number h).id ≡ next.id
  pub again : (fate_of next.number h).again ≡ next.again
  -- of a consumer that acknowledges, with it the unsettled ones are within both limits
  pub limit : consumes (fate_of next.number h).taker ≡ true
      → is_no_ack (fate_of next.number h).taker ≡ false
      → has_room (limit_of (fate_of next.number h).taker) (unsettled_on next.link h) ≡ true
  pub of_all : consumes (fate_of next.number h).taker ≡ true
      → is_no_ack (fate_of next.number h).taker ≡ false → has_room_of_all global h ≡ true
  -- an earlier one that goes the same way isn't held any more
  pub order : (m : ℕ) → IsTaken h m → m < next.number
      → (fate_of m h).link ≡ (fate_of next.number h).link
      → (fate_of m h).taker ≡ (fate_of next.number h).taker → waits (fate_of m h) ≡ false

-- the content of a delivery is needed
abbrev pub needs_content : Fate → Bool
needs_content f = waits f || is_written f

-- counts

-- the deliveries that count on a link
abbrev pub is_counted_on : ℕ → Fate → Bool
is_counted_on link f = is_on link f.link && is_counted f

abbrev pub counted_on : ℕ → List DeliveryEvent → ℕ
counted_on link h = how_many (λ n. is_counted_on link (fate_of n h)) (numbers_of h)

-- what counts of a link, a delivery that is begun counted
abbrev pub IsCounted : List DeliveryEvent → ReceivingLink → Type 0
IsCounted h l = l.state.counted ≡ counted_on l.link h + one_if (is_some l.partial)

-- lines

-- delivery n came, and the report is owed a line of it
abbrev pub is_taken : ℕ → List DeliveryEvent → Bool
is_taken n h = nat_le 1 n && nat_le n (numbers_of h)

abbrev pub owes_line : ℕ → List DeliveryEvent → Bool
owes_line n h = is_taken n h && is_some (fate_of n h).line

-- the line that it is owed of delivery n of life j
abbrev pub item_by : ℕ → Fate → Option LostItem
item_by j f = option_map (λ kind. record { life = j; number = f.id; kind = kind }) f.line

-- and those of deliveries 1 to n, by rising number
abbrev pub lines_to : ℕ → List DeliveryEvent → ℕ → List LostItem
lines_to j h zero = []
lines_to j h (suc n) = lines_to j h n ++ with_line (item_by j (fate_of (suc n) h)) []

-- all that it is owed
abbrev pub lines_by : ℕ → List DeliveryEvent → List LostItem
lines_by j h = lines_to j h (numbers_of h)

-- delivery n came settled, and its life closes before it is complete, or is closed; or it didn't
-- come settled, and the end is lost before its disposition
abbrev pub loses : ℕ → List DeliveryEvent → DeliveryEvent → Bool
loses n h (Arrived a content again) = n == numbers_of h + 1 && (a.settled && is_closed h)
loses n h Closed = is_taken n h && is_at_risk (fate_of n h)
loses n h EndLost = is_taken n h && is_uncovered (fate_of n h)
loses n h x = false

abbrev pub is_lost : ℕ → List DeliveryEvent → Bool
is_lost n [] = false
is_lost n (x ∷ h) = is_lost n h || loses n h x

-- how often its line was reported
abbrev pub told_of : ℕ → List DeliveryEvent → DeliveryEvent → ℕ
told_of n h LinesTold = one_if (owes_line n h)
told_of n h x = 0

abbrev pub times_told : ℕ → List DeliveryEvent → ℕ
times_told n [] = 0
times_told n (x ∷ h) = times_told n h + told_of n h x

-- flows and transfers

-- where the events are those of calls whose conditions hold
abbrev pub IsCall : DeliveryState → DeliveryEvent → Type 0
IsCall s (LinkAdded link kind) = link_of s.links link ≡ None
IsCall s (GetCame link no_ack) = in_link (λ l. is_for_gets l.kind) (link_of s.links link) ≡ true
IsCall s (TransferCame link part payload) =
    (id_or 0 part.id < 2 ^ 32)
    × (fault_in part (length payload) (link_of s.links link) s.links s.list ≡ None)
IsCall s (Arrived a content again) =
    (in_link (λ l. is_whole l.partial) (link_of s.links a.link) ≡ true)
    × (a ≡ arriving_in a.link (link_of s.links a.link))
IsCall s (GrantSent grant) = next_grant_of s.closed s.links ≡ Some grant
IsCall s x = Unit {0}

abbrev pub AreCalls : ℕ → List DeliveryEvent → Type 0
AreCalls life [] = Unit {0}
AreCalls life (x ∷ h) = IsCall (after_events life h) x × AreCalls life h

-- the credit that a flow of a link states (AMQP 1.0 2.6.7)
abbrev pub IsLawfulCredit : RecvKind → ℕ → ReceivingLink → Type 0
-- with what counts it is within the consumer's quota; none once that was cancelled
IsLawfulCredit (Consumes tag no_ack) credit l =
    (credit + l.state.counted ≤ l.state.quota) × (l.cancelled ≡ true → credit ≡ 0)
IsLawfulCredit Get credit l = credit ≤ 1
IsLawfulCredit Probe credit l = credit ≡ 0

abbrev pub IsLawfulGrant : DeliveryState → NextGrant → Type 0
IsLawfulGrant s g = IfSome (link_of s.links g.link) (λ l. IsLawfulCredit l.kind g.credit l)

-- a transfer, with its part of the payload
pub record Piece : Type 0 where
  pub part : Part
  pub payload : List ℕ

-- the transfers of the delivery of a link that isn't taken yet, newest first
abbrev pub pieces_of : ℕ → List DeliveryEvent → List Piece
pieces_of k [] = []
pieces_of k (LinkAdded link kind ∷ h) = if link == k then [] else pieces_of k h
pieces_of k (TransferCame link part payload ∷ h) = if link == k then (if part.aborted then [] else
    record { part = part; payload = payload } ∷ pieces_of k h) else pieces_of k h
pieces_of k (Arrived a content again ∷ h) = if a.link == k then [] else pieces_of k h
pieces_of k (x ∷ h) = pieces_of k h

-- the delivery-id is that of the first
abbrev pub id_of : Piece → List Piece → Option ℕ
id_of p [] = p.part.id
id_of p (q ∷ qs) = id_of q qs

-- it came settled where one did (AMQP 1.0 2.7.5)
abbrev pub any_settled : List Piece → Bool
any_settled [] = false
any_settled (p ∷ ps) = any_settled ps || p.part.settled

-- the payloads, joined in the order of the transfers (AMQP 1.0 2.6.14)
abbrev pub payloads : List Piece → List ℕ
payloads [] = []
payloads (p ∷ ps) = payloads ps ++ p.payload

abbrev pub joined_of : List Piece → Option Partial
joined_of [] = None
joined_of (p ∷ ps) = Some (record {
  id = id_or 0 (id_of p ps);
  settled = any_settled (p ∷ ps);
  bytes = payloads (p ∷ ps);
  whole = not p.part.more;
})
