-- The entries of a pair are lawful: each stands where what came before it allows it.
use Rattle.std.specs.Prelude.{◌≡◌, ℕ, ◌≤◌, ◌⊎◌, Bool, true, false, List, [], ◌∷◌, length, Some}
use Rattle.std.specs.Prelude.{is_some}
use Rattle.gate_outside.specs.declared.ports.End.{End}
use Rattle.gate_outside.specs.declared.ports.End.TheVariants.{Client, Up}
use Rattle.gate_relay.specs.declared.loss.Loss.TheVariants as loss
use Rattle.gate_relay.specs.Entries.{Entry, Began, Refused, Moment, Came, Dry, Settled, Joined}
use Rattle.gate_relay.specs.Entries.{Took, Stuck, Lost, OutOfMemory, Over, is_out_of_memory}
use Rattle.gate_relay.specs.Entries.{is_over, moment_of}
use Rattle.gate_relay.specs.Relayed.{is_new}
use Rattle.gate_relay.specs.Sides.{is_absent, is_open_side, is_readable, is_writable, side_of}
use Rattle.gate_relay.specs.Sides.{sides}
use Rattle.machine_091.specs.State.{awaits, is_opening}
use Rattle.gate_model.specs.declared.channel.AttachOut.{AttachOut}
use Rattle.gate_model.specs.declared.channel.LinkFlow.{LinkFlow}
use Rattle.gate_model.specs.declared.channel.SessionUnit.TheVariants as unit
use Rattle.gate_model.specs.declared.channel.TransferOut.{TransferOut}
use Rattle.gate_model.specs.declared.outgoing.Outgoing.{Outgoing}
use Rattle.gate_model.specs.declared.outgoing.Outgoing.TheVariants.{ToClient, ToUp}
use Rattle.gate_model.specs.declared.channel.ChannelUnit.TheVariants as to_client
use Rattle.gate_model.specs.declared.reply.Reply.TheVariants as reply
use Rattle.publish_path.specs.declared.publish.NextReturn.{NextReturn}
use Rattle.session_path.specs.declared.path.ContentDue.{ContentDue}
use Rattle.session_path.specs.declared.path.DeliverDue.{DeliverDue}
use Rattle.session_path.specs.declared.path.PathOk.{PathOk}
use Rattle.gate_model.specs.declared.reply.Reply.{Reply}
use Rattle.gate_model.specs.declared.outgoing.UpUnit.{UpUnit}
use Rattle.gate_model.specs.declared.outgoing.UpUnit.TheVariants as up
use Rattle.gate_model.specs.Due.{can_leave, carries, is_awaited, is_long_ok, is_busy, pick}
use Rattle.gate_model.specs.Folds.{connection, container, given_up_in}
use Rattle.gate_model.specs.Setup.{SetupText}
use Rattle.gate_model.specs.Spelling.{spell}
use Rattle.gate_model.specs.State.{is_held, place}
use Rattle.gate_model.specs.Upstream.{awaited_of, is_awaited_up}
use Rattle.gate_pair.specs.Answers.{context_in}
use Rattle.gate_pair.specs.Meaning.{state_of, steps_of, stream_of, told}
use Rattle.gate_pair.specs.Times.{ShutDueAt}

-- ---- reads

-- a unit of an end is awaited: of the client, which isn't held while its connection.open or
-- connection.close waits, behind bytes with which no unit begins, or while many units of it wait;
-- or of the container. A client that was given up is read until its end is shut
abbrev pub IsAwaited : SetupText → End → List Entry → Type 0
IsAwaited s Client h =
    ((is_awaited (awaits (connection (steps_of s h))) ≡ true) ⊎ (given_up_in (steps_of s h) ≡ true))
    × (is_held (state_of s h) ≡ false)
IsAwaited s Up h = is_awaited_up (awaited_of (container (steps_of s h))) ≡ true

-- an end is read: it is open for that, a unit of it is awaited, and the pair didn't run out of
-- memory
pub record IsHeard (s : SetupText) (end : End) (h : List Entry) : Type 0 where
  pub readable : is_readable (side_of end (sides h)) ≡ true
  pub calm : is_out_of_memory h ≡ false
  pub awaited : IsAwaited s end h

-- ---- what is taken up of the client

-- some unit of it waits for none before it and for no request any more, or its end ended or failed
-- and that can be taken up; and the pair didn't run out of memory
pub record IsTakenUp (s : SetupText) (h : List Entry) : Type 0 where
  pub calm : is_out_of_memory h ≡ false
  pub some : (is_some (place (state_of s h)) ≡ true) ⊎ (can_leave (state_of s h) ≡ true)

-- ---- the connection upstream

-- it is asked for once, where a connection.open of the client waits for it and the pair didn't run
-- out of memory
pub record IsAskedFor (s : SetupText) (h : List Entry) : Type 0 where
  pub absent : is_absent (side_of Up (sides h)) ≡ true
  pub calm : is_out_of_memory h ≡ false
  pub opening : is_opening (connection (steps_of s h)) ≡ true

-- ---- writes

-- what is offered to an end: all that is left of the unit in progress, or else the unit that goes
-- next, whole
abbrev pub IsOfferOf : SetupText → End → Bool → List Entry → List ℕ → Type 0
IsOfferOf s end true h bytes = bytes ≡ (stream_of end (told s h)).rest
IsOfferOf s end false h bytes =
    (u : Outgoing) × (pick (state_of s h) end ≡ Some u)
    × (bytes ≡ spell (context_in s (steps_of s h)) u (carries (state_of s h) u))

pub record IsOffered (s : SetupText) (end : End) (h : List Entry) (bytes : List ℕ) : Type 0 where
  pub writable : is_writable (side_of end (sides h)) ≡ true
  pub offer : IsOfferOf s end (is_busy (state_of s h) end) h bytes

-- ---- shuts

-- an end is shut where it is open and that is due, after the end of the service, or the client's
-- since there was no memory for the pair
pub data Shuts (s : SetupText) (end : End) (h : List Entry) : Type 0 where
  WhereDue : is_open_side (side_of end (sides h)) ≡ true → ShutDueAt s end h → Shuts s end h
  AtTheEnd : is_over h ≡ true → Shuts s end h
  AtRefusal : (g : List Entry) → end ≡ Client → h ≡ Refused ∷ g → Shuts s end h

-- ---- out of memory

-- a unit whose spelling takes memory: one that tells the container a name, which are the login and
-- the gateway's open, a begin and a flow (AMQP 1.0 5.3.3.2, 2.7.1, 2.7.2 and 2.7.4). So does an
-- attach on a session, a flow of a link, and a frame of a transfer (2.7.3, 2.7.4 and 2.7.5)
pub data TakesMemory (u : UpUnit) : Type 0 where
  Login : u ≡ up.SaslInit → TakesMemory u
  Opening : u ≡ up.Open → TakesMemory u
  Beginning : (n : ℕ) → u ≡ up.Begin n → TakesMemory u
  Flowing : (n incoming outgoing : ℕ) → u ≡ up.Flow n incoming outgoing → TakesMemory u
  Attaching : (n : ℕ) (a : AttachOut) → u ≡ up.OnSession n (unit.Attach a) → TakesMemory u
  Crediting : (n : ℕ) (f : LinkFlow) → u ≡ up.OnSession n (unit.Flow f) → TakesMemory u
  Transferring : (n : ℕ) (t : TransferOut) → u ≡ up.OnSession n (unit.Transfer t) → TakesMemory u

-- the same of the units to the client: an answer of the classes basic and queue, a deliver, and a
-- frame of a content (AMQP 0-9-1 1.8.3.9 and 4.2.6)
pub data TakesMemoryBack (u : Reply) : Type 0 where
  Answering : (n : ℕ) (x : PathOk) → is_long_ok x ≡ true → u ≡ reply.OnChannel n (to_client.Ok x)
      → TakesMemoryBack u
  Delivering : (n : ℕ) (d : DeliverDue) → u ≡ reply.OnChannel n (to_client.Deliver d)
      → TakesMemoryBack u
  Writing : (n : ℕ) (c : ContentDue) → u ≡ reply.OnChannel n (to_client.Content c)
      → TakesMemoryBack u
  Returning : (n : ℕ) (r : NextReturn) → u ≡ reply.OnChannel n (to_client.Return r)
      → TakesMemoryBack u

-- after its accept the pair runs out of memory in a read or in a take-up, of which the newest steps
-- then don't count, or where such a unit goes next; and nowhere else
pub data RunsOutIn (s : SetupText) : ℕ → List Entry → Type 0 where
  InRead : (cut : ℕ) (end : End) (bytes : List ℕ) (g : List Entry)
      → RunsOutIn s cut (Came end bytes ∷ g)
  InTakeUp : (cut : ℕ) (g : List Entry) → RunsOutIn s cut (Settled ∷ g)
  InSpelling : (u : UpUnit) (h : List Entry) → is_writable (side_of Up (sides h)) ≡ true
      → is_busy (state_of s h) Up ≡ false → pick (state_of s h) Up ≡ Some (ToUp u) → TakesMemory u
      → RunsOutIn s 0 h
  InSpellingBack : (u : Reply) (h : List Entry) → is_writable (side_of Client (sides h)) ≡ true
      → is_busy (state_of s h) Client ≡ false → pick (state_of s h) Client ≡ Some (ToClient u)
      → TakesMemoryBack u → RunsOutIn s 0 h

-- ---- all entries

-- what an entry stands on
abbrev pub Keeps : SetupText → List Entry → Entry → Type 0
Keeps s h (Began p ms) = h ≡ []
Keeps s h Refused = is_new h ≡ true
Keeps s h (Moment ms) = moment_of h ≤ ms
Keeps s h (Came end bytes) = IsHeard s end h × (1 ≤ length bytes)
Keeps s h (Dry end) = IsHeard s end h
Keeps s h Settled = IsTakenUp s h
Keeps s h (Joined answer) = IsAskedFor s h
Keeps s h (Took end bytes n) = IsOffered s end h bytes × (1 ≤ n) × (n ≤ length bytes)
Keeps s h (Stuck end bytes) = IsOffered s end h bytes
Keeps s h (Lost end loss.Ended) = IsHeard s end h
Keeps s h (Lost end loss.Failed) = IsHeard s end h ⊎ ((bytes : List ℕ) × IsOffered s end h bytes)
Keeps s h (Lost end loss.Shut) = Shuts s end h
Keeps s h (OutOfMemory cut) = (is_out_of_memory h ≡ false) × RunsOutIn s cut h
Keeps s h Over = is_over h ≡ false

abbrev pub AreLawful : SetupText → List Entry → Type 0
AreLawful s [] = Unit {0}
AreLawful s (e ∷ h) = Keeps s h e × AreLawful s h
