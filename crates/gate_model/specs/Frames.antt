-- The size of what is sent to a client and to a container.
use Rattle.std.specs.Prelude.{ℕ, ◌≤◌, min, if◌then◌else◌, List, [], ◌∷◌, length, Option, None}
use Rattle.std.specs.Prelude.{Some}
use Rattle.machine_10.specs.Transitions as ten
use Rattle.machine_10.specs.Transitions.{Meaning}
use Rattle.machine_10.specs.declared.limits.TheConstants as limits_10
use Rattle.machine_10.specs.declared.state.Upstream.{Upstream}
use Rattle.machine_091.specs.Writable.{AreBytes}
use Rattle.machine_091.specs.declared.unit.Want91.{Want91}
use Rattle.gate_model.specs.declared.outgoing.Outgoing.TheVariants.{ToClient, ToUp}
use Rattle.machine_091.specs.declared.limits.TheConstants.{FRAME_MIN_SIZE}
use Rattle.machine_091.specs.declared.state.Connection.{Connection}
use Rattle.machine_091.specs.declared.unit.Want91.TheVariants as want
use Rattle.gate_model.specs.Folds.{routes_in}
use Rattle.gate_model.specs.Folds.{connection, container, number_in, paths_in, ran_out_in}
use Rattle.gate_model.specs.Setup.{AreRoutes, SetupText}
use Rattle.gate_model.specs.Spelling.{Context, spell_reply, spell_up}
use Rattle.gate_model.specs.State as state
use Rattle.gate_model.specs.State.{Began, Came, Gave, Heard, conn_step, want_in}
use Rattle.gate_model.specs.Upstream.{container_by, meaning_by}

-- the greatest frame that a client takes, after a unit of it: a tune-ok that isn't refused agrees
-- to one
abbrev pub limit_after : ℕ → Connection → Want91 → ℕ
limit_after limit c want.Tuned = c.limits.frame_max
limit_after limit c other = limit

-- the greatest frame that a client takes: 4,096 bytes until it agrees to one (AMQP 0-9-1 4.2.3)
abbrev pub limit_in : List state.Step → ℕ
limit_in [] = FRAME_MIN_SIZE
limit_in (Came u ∷ h) =
    if ran_out_in h then limit_in h
    else limit_after (limit_in h) (conn_step (routes_in h) (paths_in h) (connection h) u)
    (want_in (routes_in h) (paths_in h) (connection h) u)
limit_in (s ∷ h) = limit_in h

-- no unit that was sent passes the limit of its moment
abbrev pub FitsClients : List state.Step → Type 0
FitsClients [] = Unit {0}
FitsClients (Gave (ToClient u) text ∷ h) =
    (length (spell_reply u text) ≤ limit_in h) × FitsClients h
FitsClients (s ∷ h) = FitsClients h

-- ---- to a container

-- the greatest frame that one takes: 512 bytes until it stated one, and the lesser of 65,536 and
-- what it stated (AMQP 1.0 2.3.1, 2.4.1, 2.7.1, 5.3.1)
abbrev pub limit_of : Option Upstream → ℕ
limit_of None = limits_10.FRAME_MIN_SIZE
limit_of (Some c) = min limits_10.FRAME_MAX c.stated.max_frame

-- after a unit of it: an open that is awaited states one
abbrev pub limit_heard : ℕ → Option Upstream → Meaning → ℕ
limit_heard limit o ten.Opened = limit_of o
limit_heard limit o m = limit

-- after the pair ran out of memory no unit counts
abbrev pub limit_up_in : List state.Step → ℕ
limit_up_in [] = limits_10.FRAME_MIN_SIZE
limit_up_in (Heard u ∷ h) =
    if ran_out_in h then limit_up_in h
    else limit_heard (limit_up_in h) (container_by (container h) u) (meaning_by (container h) u)
limit_up_in (s ∷ h) = limit_up_in h

-- what decides the bytes of a unit to it
abbrev pub context_in : SetupText → List state.Step → Context
context_in setup h = record { setup = setup; number = number_in h; container = container h }

-- no unit that was sent passes the limit of its moment
abbrev pub FitsContainers : SetupText → List state.Step → Type 0
FitsContainers setup [] = Unit {0}
FitsContainers setup (Gave (ToUp u) text ∷ h) =
    (length (spell_up (context_in setup h) u text) ≤ limit_up_in h) × FitsContainers setup h
FitsContainers setup (s ∷ h) = FitsContainers setup h

-- what is true of each pair: the exchanges that its client may publish to are those of a set-up,
-- and what the client sends is bytes
abbrev pub AreGiven : List state.Step → Type 0
AreGiven [] = Unit {0}
AreGiven (Began site n ms ∷ h) = AreRoutes site.routes × AreGiven h
AreGiven (Came u ∷ h) = AreBytes u × AreGiven h
AreGiven (s ∷ h) = AreGiven h
