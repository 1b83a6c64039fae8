-- The address for which each publish is, and the one that the link names on which it is transferred:
-- folds over the steps, which know no state.
use Rattle.std.specs.Prelude.{◌≡◌, ℕ, ◌+◌, ◌==◌, Bool, if◌then◌else◌, List, [], ◌∷◌, Option, None}
use Rattle.std.specs.Prelude.{Some}
use Rattle.machine_091.specs.declared.unit.Want91.{Want91}
use Rattle.machine_091.specs.declared.unit.Want91.TheVariants as want
use Rattle.gate_model.specs.declared.channel.SessionUnit.{SessionUnit}
use Rattle.gate_model.specs.declared.channel.SessionUnit.TheVariants as unit
use Rattle.gate_model.specs.declared.channel.TransferOut.{TransferOut}
use Rattle.gate_model.specs.declared.outgoing.Outgoing.TheVariants.{ToUp}
use Rattle.gate_model.specs.declared.outgoing.UpUnit.{UpUnit}
use Rattle.gate_model.specs.declared.outgoing.UpUnit.TheVariants as up
use Rattle.gate_model.specs.declared.setup.Route.{Route}
use Rattle.gate_model.specs.Folds.{connection, paths_in, ran_out_in, routes_in}
use Rattle.gate_model.specs.Publishing.{opens_channel, publishes_in}
use Rattle.gate_model.specs.Requests.{address_of, message_of}
use Rattle.gate_model.specs.State.{Came, Gave, Step, want_in}

-- ---- the target of a handle

-- an attach as a sender carries the address of its target, and one as a receiver that of its source
-- (AMQP 1.0 2.6.3, 2.7.3, 3.5.4)
abbrev pub target_of : Bool → List ℕ → Option (List ℕ)
target_of receives text = if receives then None else Some text

-- a handle of the gateway stands for a link from its attach to its detach (AMQP 1.0 2.6.2, 2.7.7)
abbrev pub target_by : ℕ → SessionUnit → List ℕ → Option (List ℕ) → Option (List ℕ)
target_by k (unit.Attach a) text old = if a.handle == k then target_of a.receives text else old
target_by k (unit.Flow f) text old = old
target_by k (unit.Transfer t) text old = old
target_by k (unit.Dispose x) text old = old
target_by k (unit.Settle x) text old = old
target_by k (unit.Detach link handle why) text old = if handle == k then None else old

-- on the session of channel n
abbrev pub target_on : ℕ → ℕ → UpUnit → List ℕ → Option (List ℕ) → Option (List ℕ)
target_on n k (up.OnSession m u) text old = if m == n then target_by k u text old else old
target_on n k u text old = old

abbrev pub target_step : ℕ → ℕ → Step → Option (List ℕ) → Option (List ℕ)
target_step n k (Gave (ToUp u) text) old = target_on n k u text old
target_step n k s old = old

-- in the life in progress
abbrev pub target_in : ℕ → ℕ → List Step → Option (List ℕ)
target_in n k [] = None
target_in n k (s ∷ h) =
    if opens_channel n h s then None else target_step n k s (target_in n k h)

-- ---- the address of a publish

-- that of a publish that is taken up on channel n: the queue that its key names, of the default
-- exchange, or the address that its exchange stands for (AMQP 0-9-1 3.1.3.1)
abbrev pub address_wanted : List Route → ℕ → Want91 → Option (List ℕ)
address_wanted routes n want.Nothing = None
address_wanted routes n want.Start = None
address_wanted routes n (want.Login mechanism response) = None
address_wanted routes n want.Tuned = None
address_wanted routes n want.OpenUp = None
address_wanted routes n (want.Method k m) = None
address_wanted routes n (want.Publish k m c) =
    if k == n then Some (address_of routes (message_of m c)) else None
address_wanted routes n (want.ChannelCloseOk k) = None
address_wanted routes n want.Close = None
address_wanted routes n want.CloseOk = None
address_wanted routes n (want.Refuse r) = None

abbrev pub address_taken : ℕ → List Step → Step → Option (List ℕ)
address_taken n h (Came u) =
    if ran_out_in h then None
    else address_wanted (routes_in h) n (want_in (routes_in h) (paths_in h) (connection h) u)
address_taken n h s = None

-- of the publish with this number in the life in progress
abbrev pub address_by : Option (List ℕ) → Bool → Option (List ℕ) → Option (List ℕ)
address_by None this old = old
address_by (Some address) this old = if this then Some address else old

abbrev pub address_in : ℕ → ℕ → List Step → Option (List ℕ)
address_in n number [] = None
address_in n number (s ∷ h) =
    if opens_channel n h s then None
    else address_by (address_taken n h s) (number == publishes_in n h + 1) (address_in n number h)

-- ---- transfers

-- a frame of a transfer goes under a handle of the gateway whose attach named the address that its
-- publish is for (AMQP 1.0 2.6.2, 2.6.12, 2.7.5)
pub record Reaches (h : List Step) (n : ℕ) (t : TransferOut) : Type 0 where
  pub address : List ℕ
  pub attached : target_in n t.handle h ≡ Some address
  pub wanted : address_in n t.frame.publish h ≡ Some address

abbrev pub MayReach : List Step → UpUnit → Type 0
MayReach h (up.OnSession n (unit.Transfer t)) = Reaches h n t
MayReach h u = Unit {0}

-- so does each that went
abbrev pub ReachesAddress : List Step → Type 0
ReachesAddress [] = Unit {0}
ReachesAddress (Gave (ToUp u) text ∷ h) = MayReach h u × ReachesAddress h
ReachesAddress (s ∷ h) = ReachesAddress h
