-- What is known of each channel's session, and which requests wait there, while nothing of the
-- upstream end is waited for or something is, and while the connection closes or not.
use Rattle.std.specs.Prelude.{◌≡◌, ◌≤◌, ℕ, Bool, not, ◌&&◌, ◌||◌, List, Option}
use Rattle.machine_10.specs.declared.state.Session.TheVariants as session
use Rattle.machine_10.specs.declared.state.Upstream.{Upstream}
use Rattle.session_path.specs.Due as path_due
use Rattle.session_path.specs.Path.{PathState}
use Rattle.gate_model.specs.declared.life.Life.{Life}
use Rattle.gate_model.specs.Lives.{is_begun, is_done, is_ended, session_in}
use Rattle.gate_model.specs.Paths.{path_at}

-- no session is on a channel from a number on
abbrev pub AreFreeFrom : ℕ → Option Upstream → Type 0
AreFreeFrom top c = (n : ℕ) → top ≤ n → session_in c n ≡ session.Free

abbrev pub is_settled_on : Bool → Option Upstream → ℕ → Bool
is_settled_on settled c n = settled || is_done (session_in c n)

-- a session that began and that the gateway didn't end
abbrev pub is_left_on : Option Upstream → ℕ → Life → Bool
is_left_on c n l = is_ended (session_in c n) || is_begun (session_in c n)

-- requests that wait
abbrev pub is_waiting_on : Bool → Bool → Option Upstream → List (Option PathState) → ℕ → Life → Bool
is_waiting_on closing settled c ps n l =
    not closing
    && (l.waits || (path_due.is_waiting (path_at ps n)
    || (l.awaits_end && not (is_settled_on settled c n))))
