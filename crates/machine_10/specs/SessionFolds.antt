-- The windows and ids of a session as the standard defines them (AMQP 1.0 2.5.6): over all that was
-- sent and came, newest first.
use Rattle.std.specs.Prelude.{◌≡◌, ℕ, ◌+◌, ◌-◌, ◌%◌, ◌^◌, ◌≤◌, ◌<◌, List, [], ◌∷◌, Option}
use Rattle.machine_10.specs.Session.{left_of, or_first, new_session, after_began, after_flowed}
use Rattle.machine_10.specs.Session.{after_sent, after_got, after_flow_sent}
use Rattle.machine_10.specs.declared.limits.TheConstants.{WINDOW}
use Rattle.machine_10.specs.declared.session.Windows.{Windows}

-- an event of a session
pub data Event10 : Type 0 where
  -- the container's begin, with its next-outgoing-id, incoming-window and handle-max
  Began : ℕ → ℕ → ℕ → Event10
  -- a flow of the container, with its next-incoming-id and incoming-window
  Flowed : Option ℕ → ℕ → Event10
  -- a transfer frame of the gateway, and one of the container
  Sent : Event10
  Got : Event10
  -- a flow of the gateway
  FlowSent : Event10

abbrev pub after_event : Event10 → Windows → Windows
after_event (Began next window handle_max) s = after_began next window handle_max s
after_event (Flowed id window) s = after_flowed id window s
after_event Sent s = after_sent s
after_event Got s = after_got s
after_event FlowSent s = after_flow_sent s

-- a session after these events
abbrev pub after_events : List Event10 → Windows
after_events [] = new_session
after_events (x ∷ h) = after_event x (after_events h)

-- the transfer frames that the gateway sent
abbrev pub sent : List Event10 → ℕ
sent [] = 0
sent (Began next window handle_max ∷ h) = sent h
sent (Flowed id window ∷ h) = sent h
sent (Sent ∷ h) = sent h + 1
sent (Got ∷ h) = sent h
sent (FlowSent ∷ h) = sent h

-- the id of the first transfer frame that the container announced, and the frames that came since,
-- added up
abbrev pub incoming : List Event10 → ℕ
incoming [] = 0
incoming (Began next window handle_max ∷ h) = next
incoming (Flowed id window ∷ h) = incoming h
incoming (Sent ∷ h) = incoming h
incoming (Got ∷ h) = incoming h + 1
incoming (FlowSent ∷ h) = incoming h

-- the id and the window that the container stated last
abbrev pub stated_last : List Event10 → ℕ × ℕ
stated_last [] = (0, 0)
stated_last (Began next window handle_max ∷ h) = (0, window)
stated_last (Flowed id window ∷ h) = (or_first id, window)
stated_last (Sent ∷ h) = stated_last h
stated_last (Got ∷ h) = stated_last h
stated_last (FlowSent ∷ h) = stated_last h

-- the transfer frames that came since the gateway stated its window
abbrev pub got_since : List Event10 → ℕ
got_since [] = 0
got_since (Began next window handle_max ∷ h) = got_since h
got_since (Flowed id window ∷ h) = got_since h
got_since (Sent ∷ h) = got_since h
got_since (Got ∷ h) = got_since h + 1
got_since (FlowSent ∷ h) = 0

-- fields have 32 bits, and no transfer frame goes out where the window is used up
abbrev pub IsEvent : Event10 → Windows → Type 0
IsEvent (Began next window handle_max) s = (next < 2 ^ 32) × (window < 2 ^ 32)
IsEvent (Flowed id window) s = (or_first id < 2 ^ 32) × (window < 2 ^ 32)
IsEvent Sent s = 1 ≤ s.window
IsEvent Got s = Unit {0}
IsEvent FlowSent s = Unit {0}

abbrev pub AreEvents : List Event10 → Type 0
AreEvents [] = Unit {0}
AreEvents (x ∷ h) = IsEvent x (after_events h) × AreEvents h

-- the state of the code is what the standard says
pub record IsFold (h : List Event10) (s : Windows) : Type 0 where
  pub next_outgoing : s.next_outgoing ≡ sent h % 2 ^ 32
  pub next_incoming : s.next_incoming ≡ incoming h % 2 ^ 32
  pub window : s.window ≡ left_of (stated_last h).0 (stated_last h).1 (sent h % 2 ^ 32)
  pub stated : s.stated ≡ WINDOW - got_since h
