-- Any calls on a connection, and what holds after them (AMQP 1.0 2.4, 2.5, 2.7.1, 5.3.2). Lists of
-- calls are newest first.
use Rattle.std.specs.Prelude.{◌≡◌, ◌==◌, ◌&&◌, ℕ, ◌≤◌, Bool, true, false, not, ◌⊎◌, List, [], ◌∷◌}
use Rattle.machine_10.specs.Parts.{Parts}
use Rattle.machine_10.specs.Calls.{after_begin_sent, after_end_sent, after_ended}
use Rattle.machine_10.specs.State.{new_upstream, is_closing, session_at, carries}
use Rattle.machine_10.specs.Transitions.{Step, Meaning, Nothing, Opened, unit_step}
use Rattle.machine_10.specs.Transitions as meaning
use Rattle.machine_10.specs.declared.limits.TheConstants.{FRAME_MIN_SIZE}
use Rattle.machine_10.specs.declared.state.Phase10.{Phase10}
use Rattle.machine_10.specs.declared.state.Phase10.TheVariants as phase
use Rattle.machine_10.specs.declared.state.Session.{Session}
use Rattle.machine_10.specs.declared.state.Session.TheVariants as session
use Rattle.machine_10.specs.declared.state.Upstream.{Upstream}
use Rattle.machine_10.specs.declared.unit.Unit10.{Unit10}

-- a call on a connection
pub data Call10 : Type 0 where
  -- the container's next unit
  Take : Unit10 → Call10
  -- the gateway's begin and its end of a session
  BeginSent : ℕ → Call10
  EndSent : ℕ → Call10
  -- the end of the container's stream
  Ended : Call10

abbrev pub after_call : Call10 → Upstream → Upstream
after_call (Take u) c = (unit_step c u).0
after_call (BeginSent g) c = after_begin_sent g c
after_call (EndSent g) c = after_end_sent g c
after_call Ended c = after_ended c

-- a connection with this login after these calls
abbrev pub after_calls : List ℕ → List ℕ → List Call10 → Upstream
after_calls mechanism response [] = new_upstream mechanism response
after_calls mechanism response (x ∷ h) = after_call x (after_calls mechanism response h)

abbrev pub is_used : Session → Bool
is_used session.Free = false
is_used session.Asked = true
is_used session.Left = true
is_used (session.Open n) = true
is_used (session.Leaving n) = true
is_used (session.Ended n) = true

-- the container takes frames of 512 bytes at least; sessions are on channels that it takes; and no
-- two are on one channel of it
pub record AreInRange (c : Upstream) : Type 0 where
  pub max_frame : FRAME_MIN_SIZE ≤ c.stated.max_frame
  pub max : (g : ℕ) → is_used (session_at c g) ≡ true → g ≤ c.stated.channel_max
  pub alone : (g h n : ℕ) → carries n (session_at c g) ≡ true → carries n (session_at c h)
      ≡ true → g ≡ h

-- a step that closes the connection leaves what the container stated, and the sessions
pub record Closes (c after : Upstream) : Type 0 where
  pub phase : is_closing after.phase ≡ true
  pub stated : after.stated ≡ c.stated
  pub sessions : after.sessions ≡ c.sessions

-- a meaning is a violation
abbrev pub violates : Meaning → Bool
violates meaning.Nothing = false
violates meaning.Init = false
violates meaning.AmqpHeader = false
violates meaning.Opened = false
violates (meaning.OfSession g p payload) = false
violates (meaning.Closed e) = false
violates meaning.Refused = false
violates (meaning.Violation why) = true

-- a connection runs already, or by the open that was awaited
abbrev pub RunsBy : Upstream → Step → Type 0
RunsBy c x = (c.phase ≡ phase.Running) ⊎ ((c.phase ≡ phase.Open) × (x.1 ≡ Opened))

-- a step of a connection that is closing refuses nothing: the connection stays so, with what the
-- container stated
pub record StaysClosing (c : Upstream) (x : Step) : Type 0 where
  pub phase : is_closing x.0.phase ≡ true
  pub stated : x.0.stated ≡ c.stated
  pub refuses : violates x.1 ≡ false

-- a step of a connection that is closed leaves it so, with what the container stated and the
-- sessions, and means nothing
pub record StaysClosed (c : Upstream) (x : Step) : Type 0 where
  pub phase : x.0.phase ≡ phase.Closed
  pub stated : x.0.stated ≡ c.stated
  pub sessions : x.0.sessions ≡ c.sessions
  pub meaning : x.1 ≡ Nothing

-- how far a phase is
abbrev pub place_of : Phase10 → ℕ
place_of phase.SaslHeader = 0
place_of phase.Mechanisms = 1
place_of phase.Outcome = 2
place_of phase.AmqpHeader = 3
place_of phase.Open = 4
place_of phase.Running = 5
place_of phase.Closing = 6
place_of phase.Closed = 7

-- a step keeps the login, and goes back to no earlier phase
pub record GoesOn (c after : Upstream) : Type 0 where
  pub mechanism : after.mechanism ≡ c.mechanism
  pub response : after.response ≡ c.response
  pub phase : place_of c.phase ≤ place_of after.phase

-- a performative of a session that neither begins nor ends it (2.7)
abbrev pub is_inside : Parts → Bool
is_inside p = not (p.0 == 17) && not (p.0 == 23)

abbrev pub is_within : Meaning → Bool
is_within meaning.Nothing = false
is_within meaning.Init = false
is_within meaning.AmqpHeader = false
is_within meaning.Opened = false
is_within (meaning.OfSession g p payload) = is_inside p
is_within (meaning.Closed e) = false
is_within meaning.Refused = false
is_within (meaning.Violation why) = false
