-- When a channel was closed: told by the units of its client and of the container (AMQP 0-9-1
-- 1.5.2.5, 1.5.2.6; AMQP 1.0 2.5.2).
use Rattle.std.specs.Prelude.{ℕ, ◌==◌, Bool, false, not, ◌&&◌, ◌||◌, if◌then◌else◌, List, [], ◌∷◌}
use Rattle.std.specs.Prelude.{Option, None, Some}
use Rattle.machine_091.specs.State.{is_open}
use Rattle.machine_091.specs.declared.unit.Want91.{Want91}
use Rattle.machine_091.specs.declared.unit.Want91.TheVariants as want
use Rattle.gate_model.specs.Folds.{connection, moment_in, paths_in, ran_out_in, routes_in}
use Rattle.gate_model.specs.Publishing.{opens_channel}
use Rattle.gate_model.specs.State.{Came, Step, want_in}

-- the client answers the gateway's channel.close, which goes behind the container's end
abbrev pub is_freed : ℕ → Want91 → Bool
is_freed n (want.ChannelCloseOk k) = k == n
is_freed n x = false

abbrev pub frees_channel : ℕ → List Step → Step → Bool
frees_channel n h (Came u) =
    not (ran_out_in h)
    && is_freed n (want_in (routes_in h) (paths_in h) (connection h) u)
frees_channel n h s = false

-- the moment at which channel n, which was open, was closed; none once it is opened anew, or its
-- client answered the gateway's channel.close
abbrev pub closed_on : ℕ → List Step → Option ℕ
closed_on n [] = None
closed_on n (s ∷ h) =
    if opens_channel n h s || frees_channel n h s then None
    else if is_open (connection h) n && not (is_open (connection (s ∷ h)) n)
    then Some (moment_in (s ∷ h)) else closed_on n h
