-- What each call but that for a unit makes of a connection: the gateway's begin or end of a session
-- went out (AMQP 1.0 2.5), or the container's stream ended.
use Rattle.std.specs.Prelude.{ℕ, Bool, ◌&&◌, nat_le, if◌then◌else◌}
use Rattle.machine_10.specs.State.{is_running, session_at, with_session}
use Rattle.machine_10.specs.declared.state.Phase10.TheVariants as phase
use Rattle.machine_10.specs.declared.state.Session.{Session}
use Rattle.machine_10.specs.declared.state.Session.TheVariants as session
use Rattle.machine_10.specs.declared.state.Stream10.TheVariants as stream
use Rattle.machine_10.specs.declared.state.Upstream.{Upstream}

-- a session may begin on a channel that the container takes, once the connection runs
abbrev pub may_begin : Upstream → ℕ → Bool
may_begin c g = is_running c.phase && nat_le g c.stated.channel_max

abbrev pub asked : Session → ℕ → Upstream → Upstream
asked session.Free g c = with_session c g session.Asked
asked session.Asked g c = c
asked session.Left g c = c
asked (session.Open n) g c = c
asked (session.Leaving n) g c = c
asked (session.Ended n) g c = c

abbrev pub after_begin_sent : ℕ → Upstream → Upstream
after_begin_sent g c = if may_begin c g then asked (session_at c g) g c else c

-- the session is there until the container's end came too
abbrev pub left : Session → ℕ → Upstream → Upstream
left session.Free g c = c
left session.Asked g c = with_session c g session.Left
left session.Left g c = c
left (session.Open n) g c = with_session c g (session.Leaving n)
left (session.Leaving n) g c = c
left (session.Ended n) g c = with_session c g session.Free

abbrev pub after_end_sent : ℕ → Upstream → Upstream
after_end_sent g c = left (session_at c g) g c

abbrev pub after_ended : Upstream → Upstream
after_ended c = record c { phase = phase.Closed; stream = stream.Ended }
