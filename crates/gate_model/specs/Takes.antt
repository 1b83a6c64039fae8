-- What a client's unit waits for before it is taken up: a request on its channel for the container,
-- and one of channel 0 for all that came before it (AMQP 0-9-1 2.2.2, 4.2.6, 4.7).
use Rattle.std.specs.Prelude.{◌≡◌, ℕ, ◌==◌, Bool, true, false, ◌&&◌, if◌then◌else◌, List, [], ◌∷◌}
use Rattle.std.specs.Prelude.{Option, None, Some}
use Rattle.machine_091.specs.State.{is_closing, is_open, is_opening}
use Rattle.machine_091.specs.declared.unit.Unit91.{Unit91}
use Rattle.machine_091.specs.declared.unit.Want91.{Want91}
use Rattle.machine_091.specs.declared.unit.Want91.TheVariants as want
use Rattle.session_path.specs.Due.{is_waiting}
use Rattle.session_path.specs.Events.{after_events}
use Rattle.gate_model.specs.Begins.{has_begun, said_or}
use Rattle.gate_model.specs.Folds.{connection, paths_in, ran_out_in, routes_in}
use Rattle.gate_model.specs.Once.{is_channel_close}
use Rattle.gate_model.specs.Publishing.{opens_channel, path_events, path_life}
use Rattle.gate_model.specs.Queue.{channel_of, waits_for_all}
use Rattle.gate_model.specs.State.{Came, Step, before, want_in}
use Rattle.gate_model.specs.Waiting.{SettledOn}

-- ---- a channel.close

-- one of channel n, which was open or not; the client's channel.close-ok ends a channel too
abbrev pub left_wanted : ℕ → Bool → Want91 → Option Bool
left_wanted n on want.Nothing = None
left_wanted n on want.Start = None
left_wanted n on (want.Login mechanism response) = None
left_wanted n on want.Tuned = None
left_wanted n on want.OpenUp = None
left_wanted n on (want.Method k m) = if k == n && is_channel_close m then Some on else None
left_wanted n on (want.Publish k m c) = None
left_wanted n on (want.ChannelCloseOk k) = if k == n then Some false else None
left_wanted n on want.Close = None
left_wanted n on want.CloseOk = None
left_wanted n on (want.Refuse r) = None

abbrev pub left_at : ℕ → List Step → Step → Option Bool
left_at n h (Came u) =
    if ran_out_in h then None
    else left_wanted n (is_open (connection h) n)
    (want_in (routes_in h) (paths_in h) (connection h) u)
left_at n h s = None

-- the client closed channel n, which was open, and it wasn't opened again
abbrev pub has_left : ℕ → List Step → Bool
has_left n [] = false
has_left n (s ∷ h) =
    if opens_channel n h s then false else said_or (left_at n h s) (has_left n h)

-- ---- units

-- no request of channel n waits for the container, while the connection isn't closing
pub record NoneWaits (h : List Step) (n : ℕ) : Type 0 where
  -- its channel.open for the begin
  pub opens : is_open (connection h) n ≡ true → has_begun n h ≡ true
  -- a queue.declare or a basic.consume for its attach, and a basic.get for its message
  pub asks : (life : ℕ) → path_life h n ≡ Some life
      → is_waiting (after_events life (path_events h n)) ≡ false
  -- its channel.close for the end
  pub closes : has_left n h ≡ true → SettledOn h n

-- the connection.open neither; and of channel 0 nothing is taken up before what came before it, nor
-- while any request waits
pub record MayTake (h : List Step) (u : Unit91) : Type 0 where
  pub opened : is_opening (connection h) ≡ false
  pub own : (life : ℕ) → is_closing (connection h) ≡ false → path_life h (channel_of u) ≡ Some life
      → NoneWaits h (channel_of u)
  pub all : waits_for_all u ≡ true → (n life : ℕ) → is_closing (connection h) ≡ false
      → path_life h n ≡ Some life → NoneWaits h n
  pub first : waits_for_all u ≡ true → (rest : List Unit91) × ((before h).queue ≡ u ∷ rest)

-- each unit that was taken up was one of these
abbrev pub TakesInTurn : List Step → Type 0
TakesInTurn [] = Unit {0}
TakesInTurn (Came u ∷ h) = MayTake h u × TakesInTurn h
TakesInTurn (s ∷ h) = TakesInTurn h
