-- What else is owed to a container to which nothing goes: begins, flows of sessions, ends, and the
-- close (AMQP 1.0 2.4.3, 2.5.1, 2.5.2, 2.5.6).
use Rattle.std.specs.Prelude.{◌≡◌, ◌⊎◌, ℕ, ◌+◌, ◌<◌, ◌≤◌, Bool, true, false, ◌||◌, if◌then◌else◌, List, [], ◌∷◌}
use Rattle.std.specs.Prelude.{None, Some}
use Rattle.std.specs.List.{list_any}
use Rattle.gate_outside.specs.declared.ports.End.TheVariants.{Up}
use Rattle.gate_relay.specs.Sides.{is_readable}
use Rattle.machine_091.specs.State.{is_closing, is_open}
use Rattle.gate_model.specs.declared.outgoing.Outgoing.TheVariants.{ToUp}
use Rattle.gate_model.specs.Asked.{is_up_close, is_up_open}
use Rattle.gate_model.specs.Due.{pick}
use Rattle.gate_model.specs.Folds.{carrying, closed_in, connection, container, moment_in, ran_out_in}
use Rattle.gate_model.specs.Folds.{sent_up, side_in}
use Rattle.gate_model.specs.Linger.{AreOver}
use Rattle.gate_model.specs.Lives.{is_begun, is_carried, is_ended, is_free, session_in}
use Rattle.gate_model.specs.Publishing.{opens_channel, path_life}
use Rattle.gate_model.specs.Repeats.{is_begin_on}
use Rattle.gate_model.specs.Session.{is_flow_owed}
use Rattle.gate_model.specs.Shuts.{closed_on}
use Rattle.gate_model.specs.State.{Gave, Step, before}
use Rattle.gate_model.specs.declared.timers.TheConstants.{LINGER_LIMIT}

-- the gateway's begin of the session of channel n goes
abbrev pub begins_session : ℕ → Step → Bool
begins_session n (Gave (ToUp u) text) = is_begin_on n u
begins_session n s = false

-- it went since the channel.open
abbrev pub has_asked : ℕ → List Step → Bool
has_asked n [] = false
has_asked n (s ∷ h) = if opens_channel n h s then false else begins_session n s || has_asked n h

-- why a session that began is to be ended: all that its channel published was sent and has an outcome,
-- the closing event of the channel or of the connection is so old, or the pair ran out of memory
pub data MustLeave (h : List Step) (n : ℕ) : Type 0 where
  Done : AreOver h n → MustLeave h n
  Late : (at : ℕ) → closed_on n h ≡ Some at → at + LINGER_LIMIT ≤ moment_in h → MustLeave h n
  Overdue : (at : ℕ) → closed_in h ≡ Some at → at + LINGER_LIMIT ≤ moment_in h → MustLeave h n
  RanOut : ran_out_in h ≡ true → MustLeave h n

-- on channel n
pub record NoneDue (h : List Step) (n life : ℕ) : Type 0 where
  -- while the channel is open its begin went, or the session of that number before it isn't over
  pub begins : is_open (connection h) n ≡ true → is_free (session_in (container h) n) ≡ true
      → has_asked n h ≡ true
  -- between the container's begin and the gateway's end no flow of the session is owed
  pub flows : ran_out_in h ≡ false → is_carried (session_in (container h) n) ≡ true
      → is_flow_owed (carrying n h) ≡ false
  -- the container's end was answered; and where the connection closes, or the channel, a session
  -- that began may not be ended yet
  pub answered : is_ended (session_in (container h) n) ≡ false
  pub ended : is_begun (session_in (container h) n) ≡ true
      → (is_closing (connection h) ≡ true) ⊎ (is_open (connection h) n ≡ false)
      → MustLeave h n → ⊥

-- where nothing goes to a container whose end is open, before the gateway's close, none of that is
-- owed; nor the close, once the connection closes: the gateway's open didn't go, or a session isn't
-- ended
pub record OwesNothing (h : List Step) : Type 0 where
  pub channels : (n life : ℕ) → path_life h n ≡ Some life → NoneDue h n life
  pub close : is_closing (connection h) ≡ true → list_any is_up_open (sent_up h) ≡ true
      → ((n : ℕ) → n < 256
      → (is_ended (session_in (container h) n) || is_begun (session_in (container h) n)) ≡ false)
      → ⊥

abbrev pub EndsContainers : List Step → Type 0
EndsContainers h =
    pick (before h) Up ≡ None → is_readable (side_in h) ≡ true
    → list_any is_up_close (sent_up h) ≡ false → OwesNothing h
