-- The link on which what the container sends under a handle of its own is: by the attaches that
-- went and came, a fold that knows no state (AMQP 1.0 2.6.1, 2.6.2, 2.6.3).
use Rattle.std.specs.Prelude.{◌≡◌, ℕ, ◌==◌, ◌≤◌, ◌^◌, if◌then◌else◌, List, [], ◌∷◌}
use Rattle.std.specs.Prelude.{Option, None, Some}
use Rattle.session_path.specs.Events.{after_events}
use Rattle.session_path.specs.Links.{named}
use Rattle.session_path.specs.declared.path.PathLink.{PathLink}
use Rattle.gate_model.specs.LinkCredits.{Answered, Asked, LinkStep, link_steps}
use Rattle.gate_model.specs.Publishing.{path_events, path_life}
use Rattle.gate_model.specs.Repeats.{attaches_in}
use Rattle.gate_model.specs.State.{Step}

-- the link of the gateway's last attach under the name with this number
abbrev pub asked_as : ℕ → List LinkStep → Option ℕ
asked_as name [] = None
asked_as name (Asked link handle m receives ∷ xs) = if m == name then Some link else asked_as name xs
asked_as name (x ∷ xs) = asked_as name xs

-- the link that the container's last attach with this handle of it answered
abbrev pub heard_on : ℕ → List LinkStep → Option ℕ
heard_on peer [] = None
heard_on peer (Answered name p ∷ xs) = if p == peer then asked_as name xs else heard_on peer xs
heard_on peer (x ∷ xs) = heard_on peer xs

-- so the link that a handle of the container names is that one, while no two attaches have one
-- name: up to 2^64 of them. Its flows, transfers and detaches count there alone
abbrev pub HearsLinks : List Step → Type 0
HearsLinks h =
    (n life peer : ℕ) (l : PathLink) → attaches_in h ≤ 2 ^ 64 → path_life h n ≡ Some life
    → named peer (after_events life (path_events h n)).links ≡ Some l
    → heard_on peer (link_steps n h) ≡ Some l.link
