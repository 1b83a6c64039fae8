-- What a bridge shows: its state, and for each end whether a unit is offered, and its bytes or
-- those of the unit in progress.
use Rattle.std.specs.Prelude.{◌≡◌, ℕ, Bool, true, false, List, Option, Some, None, is_some}
use Rattle.std.specs.Prelude.{◌<◌, IfSome, length}
use Rattle.gate_outside.specs.declared.ports.End.{End}
use Rattle.gate_outside.specs.declared.ports.End.TheVariants.{Client, Up}
use Rattle.gate_model.specs.declared.outgoing.Outgoing.{Outgoing}
use Rattle.gate_model.specs.declared.outgoing.Outgoing.TheVariants.{ToClient, ToUp}
use Rattle.gate_model.specs.declared.outgoing.UpUnit.{UpUnit}
use Rattle.gate_model.specs.declared.outgoing.UpUnit.TheVariants as up
use Rattle.gate_model.specs.declared.reply.Reply.{Reply}
use Rattle.gate_model.specs.Due.{carries, carries_back, pick}
use Rattle.gate_model.specs.Setup.{SetupText}
use Rattle.gate_model.specs.Spelling.{Context, context_of, spell, spell_reply}
use Rattle.gate_model.specs.State.{Came, State, Step, next_unit, step}
use Rattle.machine_091.specs.declared.unit.Unit91.{Unit91}

pub record SlotState : Type 0 where
  pub chosen : Option Reply
  pub bytes : List ℕ

pub record UpSlotState : Type 0 where
  pub chosen : Option UpUnit
  pub bytes : List ℕ

-- a unit of a session's links, which may carry something of the client's
abbrev pub is_on_session : UpUnit → Bool
is_on_session up.SaslHeader = false
is_on_session up.SaslInit = false
is_on_session up.AmqpHeader = false
is_on_session up.Open = false
is_on_session (up.Close why) = false
is_on_session up.Empty = false
is_on_session (up.OnSession n u) = true
is_on_session (up.Flow n i o) = false
is_on_session (up.Begin n) = false
is_on_session (up.End n why) = false

-- the bytes stand in a text of their own, or in the room
abbrev pub slot_bytes : Option (List ℕ) → List ℕ → List ℕ
slot_bytes None bytes = bytes
slot_bytes (Some text) bytes = text

-- what is chosen is what goes next, and the bytes are its spelling
abbrev pub IsOffer : State → SlotState → Type 0
IsOffer w s =
    IfSome s.chosen (λ u. (pick w Client ≡ Some (ToClient u))
    × (s.bytes ≡ spell_reply u (carries_back w u)))

abbrev pub IsUpOffer : State → UpSlotState → Type 0
IsUpOffer w s = IfSome s.chosen (λ u. pick w Up ≡ Some (ToUp u))

pub record OfferState : Type 0 where
  -- the last look found a unit, and no step came since
  pub ready : Bool
  pub bytes : List ℕ

pub record BridgeState : Type 0 where
  pub state : State
  pub client : OfferState
  pub up : OfferState

abbrev pub offer_of : End → BridgeState → OfferState
offer_of Client b = b.client
offer_of Up b = b.up

-- a step takes offers back; the bytes of units in progress stay
abbrev pub stale : OfferState → OfferState
stale o = record { ready = false; bytes = o.bytes }

abbrev pub moved : Step → BridgeState → BridgeState
moved s b = record { state = step b.state s; client = stale b.client; up = stale b.up }

-- the first unit that can be taken up is, if there is one
abbrev pub with_next : Option Unit91 → State → State
with_next None w = w
with_next (Some u) w = step w (Came u)

abbrev pub advanced : BridgeState → BridgeState
advanced b = record {
  state = with_next (next_unit b.state) b.state;
  client = stale b.client;
  up = stale b.up;
}

abbrev pub bytes_of : Context → State → Option Outgoing → List ℕ → List ℕ
bytes_of c w None old = old
bytes_of c w (Some u) old = spell c u (carries w u)

-- those of a unit to the client need no context
abbrev pub client_bytes : State → Option Outgoing → List ℕ → List ℕ
client_bytes w None old = old
client_bytes w (Some (ToClient u)) old = spell_reply u (carries_back w u)
client_bytes w (Some (ToUp u)) old = old

-- a look at what goes next to an end
abbrev pub looked : Context → State → Option Outgoing → OfferState → OfferState
looked c w u o = record { ready = is_some u; bytes = bytes_of c w u o.bytes }

abbrev pub peeked : SetupText → End → BridgeState → BridgeState
peeked s Client b = record b {
  client = record {
    ready = is_some (pick b.state Client);
    bytes = client_bytes b.state (pick b.state Client) b.client.bytes;
  };
}
peeked s Up b = record b { up = looked (context_of s b.state) b.state (pick b.state Up) b.up }

-- a unit to the client that a look found has bytes
abbrev pub FindsBytes : End → Bool → BridgeState → Type 0
FindsBytes Client found b = found ≡ true → 0 < length b.client.bytes
FindsBytes Up found b = Unit {0}

-- units in progress and their bytes stay
pub record Keeps (old new : BridgeState) : Type 0 where
  pub client : new.client.bytes ≡ old.client.bytes
  pub up : new.up.bytes ≡ old.up.bytes
  pub going : new.state.in_progress ≡ old.state.in_progress
  pub going_up : new.state.up.in_progress ≡ old.state.up.in_progress
