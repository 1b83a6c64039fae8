-- What each end sent and what it took, in bytes: the units that came are those with which its bytes
-- begin, and what it took are the bytes of the units that were sent.
use Rattle.std.specs.Prelude.{◌≡◌, ℕ, true, false, List, [], ◌∷◌, ◌++◌, map, take, drop}
use Rattle.std.specs.Prelude.{None}
use Rattle.gate_outside.specs.declared.ports.End.{End}
use Rattle.gate_outside.specs.declared.ports.End.TheVariants.{Client, Up}
use Rattle.gate_relay.specs.Entries.{Entry, Came, Took, is_out_of_memory}
use Rattle.gate_relay.specs.Guards.{offers}
use Rattle.gate_relay.specs.Sides.{is_writable, side_of, sides}
use Rattle.machine_091.specs.State.{awaits}
use Rattle.machine_091.specs.declared.unit.Unit91.TheVariants as unit
use Rattle.machine_10.specs.declared.unit.Unit10.TheVariants as unit_10
use Rattle.wire_base.specs.declared.scan.Scan.{Scan}
use Rattle.wire_base.specs.declared.scan.Scan.TheVariants.{Whole, More, Bad}
use Rattle.gate_model.specs.declared.outgoing.Outgoing.{Outgoing}
use Rattle.gate_model.specs.declared.outgoing.Outgoing.TheVariants.{ToClient, ToUp}
use Rattle.gate_model.specs.declared.outgoing.UpUnit.{UpUnit}
use Rattle.gate_model.specs.declared.reply.Reply.{Reply}
use Rattle.gate_model.specs.Answers.{AreAnswered}
use Rattle.gate_model.specs.Due.{due}
use Rattle.gate_model.specs.Folds.{connection, container, number_in}
use Rattle.gate_model.specs.Setup.{SetupText}
use Rattle.gate_model.specs.Spelling.{Context, spell}
use Rattle.gate_model.specs.State as state
use Rattle.gate_model.specs.State.{Step}
use Rattle.gate_model.specs.Upstream.{awaited_of}
use Rattle.gate_pair.specs.Cutting.{unit_scan, up_scan}
use Rattle.gate_pair.specs.Meaning.{pair_words, state_of, steps_of, stream_of, told}

abbrev pub bytes_of : End → End → List ℕ → List ℕ
bytes_of Client Client bytes = bytes
bytes_of Client Up bytes = []
bytes_of Up Client bytes = []
bytes_of Up Up bytes = bytes

-- the bytes that were read of an end, in their order
abbrev pub heard_bytes : End → List Entry → List ℕ
heard_bytes end [] = []
heard_bytes end (Came e bytes ∷ h) = heard_bytes end h ++ bytes_of end e bytes
heard_bytes end (e ∷ h) = heard_bytes end h

-- the bytes that it took, in their order
abbrev pub taken_bytes : End → List Entry → List ℕ
taken_bytes end [] = []
taken_bytes end (Took e bytes n ∷ h) = taken_bytes end h ++ bytes_of end e (take n bytes)
taken_bytes end (e ∷ h) = taken_bytes end h

-- ---- what came

-- a unit is what a scan of some bytes finds, and these are left behind it; bad bytes end the
-- stream, so what is behind them doesn't count
abbrev pub Finds : {U C : Type 0} → (C → U) → Scan U C → U → List ℕ → List ℕ → Type 0
Finds bad (Whole v n) u bytes left = (v ≡ u) × (left ≡ drop n bytes)
Finds bad (Bad code) u bytes left = u ≡ bad code
Finds bad More u bytes left = ⊥

-- a client's bytes begin with the units of these steps: the protocol header, and then frames within
-- the limit that is agreed to by the steps before each (AMQP 0-9-1 4.2.2 and 4.2.3); these are left
-- behind them
abbrev pub CutsInto : List Step → List ℕ → List ℕ → Type 0
CutsInto [] bytes left = left ≡ bytes
CutsInto (state.Queued u ∷ g) bytes left =
    (rest : List ℕ) × CutsInto g bytes rest
    × Finds unit.Bad (unit_scan (awaits (connection g)) rest) u rest left
CutsInto (s ∷ g) bytes left = CutsInto g bytes left

-- the same of a container's: protocol headers and frames, as its connection is (AMQP 1.0 2.2 and
-- 2.3)
abbrev pub CutsUpInto : List Step → List ℕ → List ℕ → Type 0
CutsUpInto [] bytes left = left ≡ bytes
CutsUpInto (state.Heard u ∷ g) bytes left =
    (rest : List ℕ) × CutsUpInto g bytes rest
    × Finds unit_10.Bad (up_scan (awaited_of (container g)) rest) u rest left
CutsUpInto (s ∷ g) bytes left = CutsUpInto g bytes left

-- once the client was read last, these bytes were no whole unit of it, as one was awaited then
abbrev pub NoneWhole : SetupText → List Entry → List ℕ → Type 0
NoneWhole s [] left = left ≡ []
NoneWhole s (Came Client bytes ∷ h) left =
    unit_scan (awaits (connection (steps_of s (Came Client bytes ∷ h)))) left ≡ More
NoneWhole s (e ∷ h) left = NoneWhole s h left

-- the client's units are those with which its bytes begin, however these were cut by reads
pub record AreCut (s : SetupText) (h : List Entry) : Type 0 where
  pub left : List ℕ
  pub cuts : CutsInto (steps_of s h) (heard_bytes Client h) left
  -- and no further unit was whole, unless the pair ran out of memory
  pub none : is_out_of_memory h ≡ false → NoneWhole s h left

-- and so are the container's
pub record AreHeard (s : SetupText) (h : List Entry) : Type 0 where
  pub left : List ℕ
  pub cuts : CutsUpInto (steps_of s h) (heard_bytes Up h) left
  -- and no further unit is whole, unless the pair ran out of memory
  pub none : is_out_of_memory h ≡ false
      → up_scan (awaited_of (container (steps_of s h))) left ≡ More

-- ---- what went

-- the units to the container of which the first byte was sent, in their order, each with what it
-- carries
abbrev pub sent_up_with : List Step → List (UpUnit × List ℕ)
sent_up_with [] = []
sent_up_with (state.Gave (ToUp u) text ∷ g) = sent_up_with g ++ (u, text) ∷ []
sent_up_with (s ∷ g) = sent_up_with g

-- those to the client likewise
abbrev pub sent_with : List Step → List (Reply × List ℕ)
sent_with [] = []
sent_with (state.Gave (ToClient u) text ∷ g) = sent_with g ++ (u, text) ∷ []
sent_with (s ∷ g) = sent_with g

-- the same of an end
abbrev pub to_client : Reply × List ℕ → Outgoing × List ℕ
to_client x = (ToClient x.0, x.1)

abbrev pub to_up : UpUnit × List ℕ → Outgoing × List ℕ
to_up x = (ToUp x.0, x.1)

abbrev pub sent_to : End → List Step → List (Outgoing × List ℕ)
sent_to Client g = map to_client (sent_with g)
sent_to Up g = map to_up (sent_up_with g)

-- the bytes of units
abbrev pub spelled : Context → List (Outgoing × List ℕ) → List ℕ
spelled c [] = []
spelled c (x ∷ xs) = spell c x.0 x.1 ++ spelled c xs

-- what decides the bytes of a pair's units
abbrev pub context_in : SetupText → List Step → Context
context_in s g = record { setup = s; number = number_in g; container = container g }

-- what an end took are the bytes of the units that were sent to it, but for what is left of the one
-- in progress
abbrev pub AreSent : SetupText → List Entry → End → Type 0
AreSent s h end =
    taken_bytes end h ++ (stream_of end (told s h)).rest
    ≡ spelled (context_in s (steps_of s h)) (sent_to end (steps_of s h))

-- while an end takes bytes and none are offered, the units to it went whole, and none is due, nor a
-- heartbeat or an empty frame
abbrev pub OwesNone : SetupText → List Entry → End → Type 0
OwesNone s h end =
    is_writable (side_of end (sides h)) ≡ true → offers (pair_words s) end h ≡ None
    → ((stream_of end (told s h)).rest ≡ []) × (due (state_of s h) end ≡ [])

-- ---- both

pub record IsAnswered (s : SetupText) (h : List Entry) : Type 0 where
  pub units_are : AreCut s h
  pub heard_are : AreHeard s h
  pub sent_are : (end : End) → AreSent s h end
  -- the units to the client that were sent and that are due answer its own, and what the container
  -- told
  pub answers : AreAnswered (steps_of s h)
  pub owed : (end : End) → OwesNone s h end
