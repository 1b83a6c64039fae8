-- A pair's state is what its entries say.
use Rattle.std.specs.Prelude.{◌≡◌, ℕ, ◌<◌, ◌≤◌, Bool, true, false, if◌then◌else◌, List}
use Rattle.std.specs.Prelude.{[], ◌∷◌, ◌++◌, length, drop, Option, Some, None, IfSome, is_some}
use Rattle.gate_outside.specs.declared.ports.End.{End}
use Rattle.gate_outside.specs.declared.ports.End.TheVariants.{Client, Up}
use Rattle.gate_relay.specs.Entries.{Entry}
use Rattle.gate_model.specs.Due.{is_busy, is_end_next}
use Rattle.gate_model.specs.Setup.{SetupText}
use Rattle.gate_model.specs.State.{State, Step, OutOfMemory, before, owed_lines, step}
use Rattle.gate_model.specs.Upstream.{UpState}
use Rattle.bridge_core.specs.Offers.{BridgeState, offer_of}
use Rattle.open_items.specs.declared.lost.LostItem.{LostItem}
use Rattle.gate_pair.specs.Cutting.{Cut, after, cut_all, settle}
use Rattle.gate_pair.specs.Meaning.{Stream, Told, begins, ends, fresh_lines, ran_out, steps, told}

-- the bytes of an end that are no unit yet, and how many bytes of the unit in progress were
-- sent
pub record Half : Type 0 where
  pub unread : List ℕ
  pub at : ℕ

pub record PairState : Type 0 where
  pub bridge : BridgeState
  pub client : Half
  pub up : Half
  -- what happened last may make lines of the report due
  pub telling : Bool

abbrev pub half_of : End → PairState → Half
half_of Client p = p.client
half_of Up p = p.up

-- what is said of a pair
pub record Said : Type 0 where
  pub state : State
  pub client : Stream
  pub up : Stream
  -- the lines of the report that what happened last made due
  pub lines : List LostItem

abbrev pub rest_at : Bool → ℕ → List ℕ → List ℕ
rest_at busy at bytes = if busy then drop at bytes else []

-- by its own state, and by its entries
abbrev pub stream_at : End → BridgeState → Half → Stream
stream_at end b x = record {
  unread = x.unread;
  rest = rest_at (is_busy b.state end) x.at (offer_of end b).bytes;
}

abbrev pub said : PairState → Said
said p = record {
  state = p.bridge.state;
  client = stream_at Client p.bridge p.client;
  up = stream_at Up p.bridge p.up;
  lines = if p.telling then owed_lines p.bridge.state else [];
}

abbrev pub said_of : Told → Said
said_of t = record {
  state = before (steps t);
  client = t.client;
  up = t.up;
  lines = fresh_lines t;
}

-- what is said but for those lines
abbrev pub unlined : Said → Said
unlined x = record x { lines = [] }

-- a pair's state and its streams are those that are told
abbrev pub Says : PairState → Told → Type 0
Says p t = unlined (said p) ≡ unlined (said_of t)

abbrev pub Represents : SetupText → PairState → List Entry → Type 0
Represents s p h = said p ≡ said_of (told s h)

-- ---- what holds of a pair

-- a unit in progress of which so many bytes were sent has bytes left
abbrev pub HasLeft : End → ℕ → BridgeState → Type 0
HasLeft end at b = is_busy b.state end ≡ true → at < length (offer_of end b).bytes

-- what is offered has bytes
abbrev pub HasBytes : End → BridgeState → Type 0
HasBytes end b = (offer_of end b).ready ≡ true → 0 < length (offer_of end b).bytes

-- the login is known once the container is to be told of it
abbrev pub KnowsLogin : UpState → Type 0
KnowsLogin s = s.pending.init ≡ true → is_some s.container ≡ true

-- all of this, where so many bytes of the unit in progress to each end were sent
pub record IsSound (b : BridgeState) (client up : ℕ) : Type 0 where
  pub login : KnowsLogin b.state.up
  pub client_left : HasLeft Client client b
  pub up_left : HasLeft Up up b
  pub client_bytes : HasBytes Client b
  pub up_bytes : HasBytes Up b

-- the same by the count of an end and that of the other
abbrev pub IsSoundAt : End → ℕ → ℕ → BridgeState → Type 0
IsSoundAt Client at other b = IsSound b at other
IsSoundAt Up at other b = IsSound b other at

-- it stays so, whatever these counts are
abbrev pub StaysSound : BridgeState → BridgeState → Type 0
StaysSound old new = (client up : ℕ) → IsSound old client up → IsSound new client up

-- ---- what is ready

-- the bytes that a look found for an end
abbrev pub ready_at : End → ℕ → BridgeState → Option (List ℕ)
ready_at end at b =
    if is_busy b.state end then Some (drop at (offer_of end b).bytes)
    else if (offer_of end b).ready then Some (offer_of end b).bytes
    else None

abbrev pub is_ready : PairState → End → Option (List ℕ)
is_ready p end = ready_at end (half_of end p).at p.bridge

abbrev pub said_stream : End → Said → Stream
said_stream Client s = s.client
said_stream Up s = s.up

-- ---- a read

pub record IsRead (old : State) (c : Cut) (new : State) (rest : List ℕ) : Type 0 where
  pub now : new ≡ after c.fresh old
  pub left : rest ≡ c.unread

-- these bytes of an end were cut, up to a place
abbrev pub Reads : End → List ℕ → ℕ → State → State → Type 0
Reads end bytes at old new = IsRead old (cut_all end old bytes) new (drop at bytes)

-- of these steps the older ones count, and then the pair ran out of memory
pub record IsCut (old new : State) (all : List Step) : Type 0 where
  pub newer : List Step
  pub older : List Step
  pub parts : all ≡ newer ++ older
  pub now : new ≡ step (after older old) OutOfMemory

abbrev pub ReadsInPart : End → List ℕ → State → State → Type 0
ReadsInPart end bytes old new = IsCut old new (cut_all end old bytes).fresh

-- the same of the container's bytes: memory runs out at a unit, which doesn't count
abbrev pub ReadsUpInPart : List ℕ → State → State → Type 0
ReadsUpInPart bytes old new = (cut : ReadsInPart Up bytes old new) × (1 ≤ length cut.newer)

-- what can be taken up is, whatever the steps before; and the pair ran out of memory within that,
-- or within a unit and that
abbrev pub Settles : State → State → Type 0
Settles old new = (w : State) (g : List Step) → old ≡ after g w → new ≡ after (settle w g) w

abbrev pub SettlesInPart : State → State → Type 0
SettlesInPart old new = (w : State) (g : List Step) → old ≡ after g w → IsCut w new (settle w g)

abbrev pub QueuesInPart : Step → State → State → Type 0
QueuesInPart s old new =
    (w : State) (g : List Step) → old ≡ after g w → IsCut w new (settle w (s ∷ g))

-- a pair without the bytes that are no unit yet
abbrev pub forgotten : PairState → PairState
forgotten p = record p {
  client = record p.client { unread = [] };
  up = record p.up { unread = [] };
}

-- the pair ran out of memory within the newest entry, of which so many steps don't count
abbrev pub FailedAt : ℕ → (Told → Told) → PairState → PairState → Type 0
FailedAt cut newest old new = (t : Told) → Says old t → Says new (ran_out cut (newest t))

abbrev pub FailedIn : (Told → Told) → PairState → PairState → Type 0
FailedIn newest old new = (cut : ℕ) × FailedAt cut newest old new

-- ---- a write

-- a write makes lines due where an end of a session begins to go
abbrev pub tells_at : End → State → Bool
tells_at Client w = false
tells_at Up w = is_end_next w

-- the bytes that a write to an end takes from: what is left of the unit in progress, or those of
-- the unit that is offered
abbrev pub ready_bytes : End → ℕ → BridgeState → List ℕ
ready_bytes end at b =
    if is_busy b.state end then drop at (offer_of end b).bytes else (offer_of end b).bytes

-- so many bytes of what is offered were taken; the bytes of all units stay
pub record Advances (end : End) (n at now : ℕ) (old new : BridgeState) : Type 0 where
  pub state : new.state
      ≡ after (ends end n (ready_bytes end at old) ++ begins end old.state) old.state
  pub left : rest_at (is_busy new.state end) now (offer_of end new).bytes
      ≡ drop n (ready_bytes end at old)
  pub client : new.client.bytes ≡ old.client.bytes
  pub up : new.up.bytes ≡ old.up.bytes
  pub sound : (other : ℕ) → IsSoundAt end at other old → IsSoundAt end now other new

-- what is offered, and that so many bytes can be taken of it
pub record IsOffered (end : End) (n at : ℕ) (b : BridgeState) : Type 0 where
  pub ready : is_some (ready_at end at b) ≡ true
  pub within : IfSome (ready_at end at b) (λ bytes. n ≤ length bytes)
  pub left : HasLeft end at b
