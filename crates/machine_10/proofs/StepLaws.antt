-- What holds of each step of a connection.
use Rattle.std.proofs.Common.{◌≡◌, ◌≤◌, true, false, refl, sym, ap, subst, inl, inr, arith}
use Rattle.frames_10.specs.declared.frame.Kind10.{Kind10}
use Rattle.frames_10.specs.declared.frame.Kind10.TheVariants as kind
use Rattle.performatives_10.specs.declared.condition.Condition.{Condition}
use Rattle.machine_10.specs.Laws.{Closes, GoesOn, RunsBy, StaysClosing, StaysClosed, place_of}
use Rattle.machine_10.specs.Laws.{violates}
use Rattle.machine_10.specs.Refusals.{is_login_phase}
use Rattle.machine_10.specs.State.{is_running, is_closing}
use Rattle.machine_10.specs.Transitions.{Step, Meaning, awaits_header, phase_after, stream_after}
use Rattle.machine_10.specs.Transitions.{unit_step, step_in}
use Rattle.machine_10.specs.Transitions as meaning
use Rattle.machine_10.specs.declared.state.Phase10.{Phase10}
use Rattle.machine_10.specs.declared.state.Phase10.TheVariants as phase
use Rattle.machine_10.specs.declared.state.Upstream.{Upstream}
use Rattle.machine_10.specs.declared.unit.Unit10.{Unit10}
use Rattle.machine_10.proofs.StepCases.{step_rows}

-- no connection closes in its login
login_early : (q : Phase10) → is_login_phase q ≡ true → is_closing q ≡ false
login_early phase.SaslHeader e = refl
login_early phase.Mechanisms e = refl
login_early phase.Outcome e = refl
login_early phase.AmqpHeader e = refl
login_early phase.Open e = refl
login_early phase.Running e = refl
login_early phase.Closing e = absurd cc
login_early phase.Closed e = absurd cc

-- no header makes a connection run
greeted_early : (k : Kind10) → is_running (phase_after k) ≡ false
greeted_early kind.Sasl = refl
greeted_early kind.Amqp = refl

-- a connection runs by the container's open alone
pub runs_by : (c : Upstream) (u : Unit10) → (unit_step c u).0.phase ≡ phase.Running → RunsBy c (unit_step c u)
runs_by c u = step_rows (λ (x : Step). x.0.phase ≡ phase.Running → RunsBy c x) c u (record {
  nothing = λ k. inl k;
  violated = λ why s e k. absurd cc;
  greeted = λ q e r a k. let no : is_running (phase_after q) ≡ false = greeted_early q in let yes : is_running (phase_after q) ≡ true = ap is_running k in absurd cc;
  offered = λ e k. absurd cc;
  refused = λ e k. absurd cc;
  came_out = λ e k. absurd cc;
  opened = λ stated e f k. inr (e, refl);
  answered = λ g n p payload e f s k. inl k;
  crossed = λ g n e f s k. inl k;
  within = λ g p payload e k. inl k;
  ended = λ g m p payload e s k. inl k;
  freed = λ g m p payload e s k. inl k;
  closed = λ e k. absurd cc;
  shut = λ why e k. absurd cc;
  passed = λ s e k. inl k;
})

-- a connection that is closed stays so
pub closed_stays : (c : Upstream) (u : Unit10) → c.phase ≡ phase.Closed → StaysClosed c (unit_step c u)
closed_stays c u at = subst (λ (q : Phase10). StaysClosed c (step_in q c u)) (sym at) (record {
  phase = at;
  stated = refl;
  sessions = refl;
  meaning = refl;
})

violation_rows : (c : Upstream) (u : Unit10) → violates (unit_step c u).1 ≡ true → Closes c (unit_step c u).0
violation_rows c u = step_rows (λ (x : Step). violates x.1 ≡ true → Closes c x.0) c u (record {
  nothing = λ k. absurd cc;
  violated = λ why s e k. record { phase = refl; stated = refl; sessions = refl };
  greeted = λ q e r a k. absurd cc;
  offered = λ e k. absurd cc;
  refused = λ e k. absurd cc;
  came_out = λ e k. absurd cc;
  opened = λ stated e f k. absurd cc;
  answered = λ g n p payload e f s k. absurd cc;
  crossed = λ g n e f s k. absurd cc;
  within = λ g p payload e k. absurd cc;
  ended = λ g m p payload e s k. absurd cc;
  freed = λ g m p payload e s k. absurd cc;
  closed = λ e k. absurd cc;
  shut = λ why e k. record { phase = refl; stated = refl; sessions = refl };
  passed = λ s e k. absurd cc;
})

-- a violation closes the connection
pub violation_closes : (c : Upstream) (u : Unit10) (why : Condition) → (unit_step c u).1 ≡ meaning.Violation why → Closes c (unit_step c u).0
violation_closes c u why e = violation_rows c u (ap violates e)

-- a connection that is closing stays so, and refuses nothing
pub closing_stays : (c : Upstream) (u : Unit10) → is_closing c.phase ≡ true → StaysClosing c (unit_step c u)
closing_stays c u = step_rows (λ (x : Step). is_closing c.phase ≡ true → StaysClosing c x) c u (record {
  nothing = λ k. record { phase = k; stated = refl; refuses = refl };
  violated = λ why s e k. absurd cc;
  greeted = λ q e r a k. absurd cc;
  offered = λ e k. let no : is_closing c.phase ≡ false = ap is_closing e in absurd cc;
  refused = λ e k. let no : is_closing c.phase ≡ false = login_early c.phase e in absurd cc;
  came_out = λ e k. let no : is_closing c.phase ≡ false = login_early c.phase e in absurd cc;
  opened = λ stated e f k. let no : is_closing c.phase ≡ false = ap is_closing e in absurd cc;
  answered = λ g n p payload e f s k. record { phase = k; stated = refl; refuses = refl };
  crossed = λ g n e f s k. record { phase = k; stated = refl; refuses = refl };
  within = λ g p payload e k. record { phase = k; stated = refl; refuses = refl };
  ended = λ g m p payload e s k. record { phase = k; stated = refl; refuses = refl };
  freed = λ g m p payload e s k. record { phase = k; stated = refl; refuses = refl };
  closed = λ e k. record { phase = refl; stated = refl; refuses = refl };
  shut = λ why e k. absurd cc;
  passed = λ s e k. record { phase = e; stated = refl; refuses = refl };
})

-- ---- phases go forward

to_closed : (p : Phase10) → place_of p ≤ 7
to_closed phase.SaslHeader = omega arith
to_closed phase.Mechanisms = omega arith
to_closed phase.Outcome = omega arith
to_closed phase.AmqpHeader = omega arith
to_closed phase.Open = omega arith
to_closed phase.Running = omega arith
to_closed phase.Closing = omega arith
to_closed phase.Closed = omega arith

to_closing : (p : Phase10) → is_closing p ≡ false → place_of p ≤ 6
to_closing phase.SaslHeader e = omega arith
to_closing phase.Mechanisms e = omega arith
to_closing phase.Outcome e = omega arith
to_closing phase.AmqpHeader e = omega arith
to_closing phase.Open e = omega arith
to_closing phase.Running e = omega arith
to_closing phase.Closing e = absurd cc
to_closing phase.Closed e = absurd cc

from_login : (p : Phase10) → is_login_phase p ≡ true → place_of p ≤ 3
from_login phase.SaslHeader e = omega arith
from_login phase.Mechanisms e = omega arith
from_login phase.Outcome e = omega arith
from_login phase.AmqpHeader e = omega arith
from_login phase.Open e = absurd cc
from_login phase.Running e = absurd cc
from_login phase.Closing e = absurd cc
from_login phase.Closed e = absurd cc

from_header : (k : Kind10) (p : Phase10) → awaits_header k p ≡ true → place_of p ≤ place_of (phase_after k)
from_header kind.Sasl phase.SaslHeader e = omega arith
from_header kind.Sasl phase.Mechanisms e = absurd cc
from_header kind.Sasl phase.Outcome e = absurd cc
from_header kind.Sasl phase.AmqpHeader e = absurd cc
from_header kind.Sasl phase.Open e = absurd cc
from_header kind.Sasl phase.Running e = absurd cc
from_header kind.Sasl phase.Closing e = absurd cc
from_header kind.Sasl phase.Closed e = absurd cc
from_header kind.Amqp phase.SaslHeader e = absurd cc
from_header kind.Amqp phase.Mechanisms e = absurd cc
from_header kind.Amqp phase.Outcome e = absurd cc
from_header kind.Amqp phase.AmqpHeader e = omega arith
from_header kind.Amqp phase.Open e = absurd cc
from_header kind.Amqp phase.Running e = absurd cc
from_header kind.Amqp phase.Closing e = absurd cc
from_header kind.Amqp phase.Closed e = absurd cc

same_place : (p : Phase10) → place_of p ≤ place_of p
same_place p = omega arith

pub goes_on : (c : Upstream) (u : Unit10) → GoesOn c (unit_step c u).0
goes_on c u = step_rows (λ (x : Step). GoesOn c x.0) c u (record {
  nothing = record { mechanism = refl; response = refl; phase = same_place c.phase };
  violated = λ why s e. record { mechanism = refl; response = refl; phase = to_closing c.phase e };
  greeted = λ k e r a. record { mechanism = refl; response = refl; phase = from_header k c.phase a };
  offered = λ e. record { mechanism = refl; response = refl; phase = subst (λ (p : Phase10). place_of p ≤ 2) (sym e) (omega arith) };
  refused = λ e. record { mechanism = refl; response = refl; phase = to_closed c.phase };
  came_out = λ e. record { mechanism = refl; response = refl; phase = from_login c.phase e };
  opened = λ stated e f. record { mechanism = refl; response = refl; phase = subst (λ (p : Phase10). place_of p ≤ 5) (sym e) (omega arith) };
  answered = λ g n p payload e f s. record { mechanism = refl; response = refl; phase = same_place c.phase };
  crossed = λ g n e f s. record { mechanism = refl; response = refl; phase = same_place c.phase };
  within = λ g p payload e. record { mechanism = refl; response = refl; phase = same_place c.phase };
  ended = λ g m p payload e s. record { mechanism = refl; response = refl; phase = same_place c.phase };
  freed = λ g m p payload e s. record { mechanism = refl; response = refl; phase = same_place c.phase };
  closed = λ e. record { mechanism = refl; response = refl; phase = to_closed c.phase };
  shut = λ why e. record { mechanism = refl; response = refl; phase = to_closed c.phase };
  passed = λ s e. record { mechanism = refl; response = refl; phase = same_place c.phase };
})
