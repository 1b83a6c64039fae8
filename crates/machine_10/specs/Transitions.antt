-- The transitions of a connection (AMQP 1.0 2.4, 2.5, 5.3.2): for each phase and each unit the
-- state after it, and what it means.
use Rattle.std.specs.Prelude.{ℕ, Bool, true, false, ◌==◌, if◌then◌else◌, List, Option, None, Some}
use Rattle.frames_10.specs.declared.frame.Kind10.{Kind10}
use Rattle.frames_10.specs.declared.frame.Kind10.TheVariants as kind
use Rattle.types_10.specs.Tree.{Tree}
use Rattle.types_10.specs.Fields.{maybe}
use Rattle.performatives_10.specs.View.{error_tree}
use Rattle.performatives_10.specs.declared.condition.Condition.{Condition}
use Rattle.performatives_10.specs.declared.condition.Condition.TheVariants as condition
use Rattle.machine_10.specs.Parts.{Parts, parts_of}
use Rattle.machine_10.specs.Reading.{Body, Empty, Faulty, Whole, body_in, field, offers, act_of}
use Rattle.machine_10.specs.Reading.{closes}
use Rattle.machine_10.specs.Refusals.{body_ruling}
use Rattle.machine_10.specs.State.{session_at, session_of, with_session}
use Rattle.machine_10.specs.declared.state.Phase10.{Phase10}
use Rattle.machine_10.specs.declared.state.Phase10.TheVariants as phase
use Rattle.machine_10.specs.declared.state.Session.{Session}
use Rattle.machine_10.specs.declared.state.Session.TheVariants as session
use Rattle.machine_10.specs.declared.state.Stream10.{Stream10}
use Rattle.machine_10.specs.declared.state.Stream10.TheVariants as stream
use Rattle.machine_10.specs.declared.state.Upstream.{Upstream}
use Rattle.machine_10.specs.declared.unit.Act10.{Act10}
use Rattle.machine_10.specs.declared.unit.Act10.TheVariants as act
use Rattle.machine_10.specs.declared.unit.Ruling10.{Ruling10}
use Rattle.machine_10.specs.declared.unit.Ruling10.TheVariants as ruling
use Rattle.machine_10.specs.declared.unit.Unit10.{Unit10}
use Rattle.machine_10.specs.declared.unit.Unit10.TheVariants as unit
use Rattle.machine_10.specs.declared.unit.Want10.{Want10}
use Rattle.machine_10.specs.declared.unit.Want10.TheVariants as want

-- ---- what a unit means

-- a performative as its kind and its fields, an error as the field that it is
pub data Meaning : Type 0 where
  Nothing : Meaning
  Init : Meaning
  AmqpHeader : Meaning
  Opened : Meaning
  OfSession : ℕ → Parts → List ℕ → Meaning
  Closed : Tree → Meaning
  Refused : Meaning
  Violation : Condition → Meaning

unfoldable pub meaning_of : Want10 → Meaning
meaning_of want.Nothing = Nothing
meaning_of want.Init = Init
meaning_of want.AmqpHeader = AmqpHeader
meaning_of want.Opened = Opened
meaning_of (want.Session g p payload) = OfSession g (parts_of p) payload
meaning_of (want.Closed e) = Closed (maybe error_tree e)
meaning_of want.Refused = Refused
meaning_of (want.Violation c) = Violation c

-- a state, and what a unit means
abbrev pub Step : Type 0
Step = Upstream × Meaning

-- ---- the container's bytes

-- bytes with which no unit begins, and a header that isn't awaited, end the stream
abbrev pub spoiled : Stream10 → Stream10
spoiled (stream.Header k) = stream.Bad
spoiled stream.Frames = stream.Bad
spoiled stream.Bad = stream.Bad
spoiled stream.Closed = stream.Spent
spoiled stream.Spent = stream.Spent
spoiled stream.Ended = stream.Ended

abbrev pub stream_after : Unit10 → Stream10 → Stream10
stream_after (unit.Header k) s = spoiled s
stream_after (unit.Frame f) s = s
stream_after (unit.Bad c) s = spoiled s

-- the unit closes the connection with a condition
abbrev pub violated : Upstream → Condition → Stream10 → Step
violated c why s = (record c { phase = phase.Closing; stream = s }, Violation why)

-- ---- protocol headers

abbrev pub awaits_sasl : Phase10 → Bool
awaits_sasl phase.SaslHeader = true
awaits_sasl phase.Mechanisms = false
awaits_sasl phase.Outcome = false
awaits_sasl phase.AmqpHeader = false
awaits_sasl phase.Open = false
awaits_sasl phase.Running = false
awaits_sasl phase.Closing = false
awaits_sasl phase.Closed = false

abbrev pub awaits_amqp : Phase10 → Bool
awaits_amqp phase.SaslHeader = false
awaits_amqp phase.Mechanisms = false
awaits_amqp phase.Outcome = false
awaits_amqp phase.AmqpHeader = true
awaits_amqp phase.Open = false
awaits_amqp phase.Running = false
awaits_amqp phase.Closing = false
awaits_amqp phase.Closed = false

abbrev pub awaits_header : Kind10 → Phase10 → Bool
awaits_header kind.Sasl p = awaits_sasl p
awaits_header kind.Amqp p = awaits_amqp p

-- what is awaited after a header
abbrev pub phase_after : Kind10 → Phase10
phase_after kind.Sasl = phase.Mechanisms
phase_after kind.Amqp = phase.Open

-- the header that is awaited, or another
abbrev pub header_step : Upstream → Kind10 → Step
header_step c k =
    if awaits_header k c.phase then
    (record c { phase = phase_after k; stream = stream.Frames }, Nothing)
    else violated c condition.FramingError (spoiled c.stream)

-- ---- the login

-- the wanted mechanism is offered, or the login is refused
abbrev pub offer_effect : Upstream → Tree → Step
offer_effect c mechanisms =
    if offers c.mechanism mechanisms then (record c { phase = phase.Outcome }, Init)
    else (record c { phase = phase.Closed }, Refused)

-- 0 is success
abbrev pub outcome_effect : Upstream → ℕ → Step
outcome_effect c n =
    if n == 0 then
    (record c { phase = phase.AmqpHeader; stream = stream.Header kind.Amqp }, AmqpHeader)
    else (record c { phase = phase.Closed }, Refused)

abbrev pub login_effect : Upstream → Act10 → Step
login_effect c (act.Open stated) = (c, Nothing)
login_effect c (act.Begin remote) = (c, Nothing)
login_effect c act.Within = (c, Nothing)
login_effect c (act.Settle low high) = (c, Nothing)
login_effect c act.End = (c, Nothing)
login_effect c act.Close = (c, Nothing)
login_effect c act.Offer = (c, Nothing)
login_effect c (act.Outcome n) = outcome_effect c n
login_effect c act.Challenge = (c, Nothing)
login_effect c act.ClientLogin = (c, Nothing)

-- an outcome counts before any offer too
abbrev pub mechanisms_effect : Upstream → Tree → Act10 → Step
mechanisms_effect c t (act.Open stated) = (c, Nothing)
mechanisms_effect c t (act.Begin remote) = (c, Nothing)
mechanisms_effect c t act.Within = (c, Nothing)
mechanisms_effect c t (act.Settle low high) = (c, Nothing)
mechanisms_effect c t act.End = (c, Nothing)
mechanisms_effect c t act.Close = (c, Nothing)
mechanisms_effect c t act.Offer = offer_effect c t
mechanisms_effect c t (act.Outcome n) = outcome_effect c n
mechanisms_effect c t act.Challenge = (c, Nothing)
mechanisms_effect c t act.ClientLogin = (c, Nothing)

-- ---- the open

abbrev pub open_effect : Upstream → Act10 → Step
open_effect c (act.Open stated) = (record c { phase = phase.Running; stated = stated }, Opened)
open_effect c (act.Begin remote) = (c, Nothing)
open_effect c act.Within = (c, Nothing)
open_effect c (act.Settle low high) = (c, Nothing)
open_effect c act.End = (c, Nothing)
open_effect c act.Close = (c, Nothing)
open_effect c act.Offer = (c, Nothing)
open_effect c (act.Outcome n) = (c, Nothing)
open_effect c act.Challenge = (c, Nothing)
open_effect c act.ClientLogin = (c, Nothing)

-- ---- sessions

-- a begin on the container's channel n for the gateway's channel g; the gateway may have ended that
-- session already
abbrev pub begun_effect : Session → Upstream → ℕ → ℕ → Parts → List ℕ → Step
begun_effect session.Free c n g p payload = (c, Nothing)
begun_effect session.Asked c n g p payload =
    (with_session c g (session.Open n), OfSession g p payload)
begun_effect session.Left c n g p payload = (with_session c g (session.Leaving n), Nothing)
begun_effect (session.Open m) c n g p payload = (c, Nothing)
begun_effect (session.Leaving m) c n g p payload = (c, Nothing)
begun_effect (session.Ended m) c n g p payload = (c, Nothing)

abbrev pub begin_effect : Upstream → ℕ → Option ℕ → Parts → List ℕ → Step
begin_effect c n None p payload = (c, Nothing)
begin_effect c n (Some g) p payload = begun_effect (session_at c g) c n g p payload

-- what belongs to a session
abbrev pub within_effect : Upstream → Option ℕ → Parts → List ℕ → Step
within_effect c None p payload = (c, Nothing)
within_effect c (Some g) p payload = (c, OfSession g p payload)

-- an end: the session is there until both ends went
abbrev pub ended_effect : Session → Upstream → ℕ → Parts → List ℕ → Step
ended_effect session.Free c g p payload = (c, Nothing)
ended_effect session.Asked c g p payload = (c, Nothing)
ended_effect session.Left c g p payload = (c, Nothing)
ended_effect (session.Open m) c g p payload =
    (with_session c g (session.Ended m), OfSession g p payload)
ended_effect (session.Leaving m) c g p payload =
    (with_session c g session.Free, OfSession g p payload)
ended_effect (session.Ended m) c g p payload = (c, Nothing)

abbrev pub end_effect : Upstream → Option ℕ → Parts → List ℕ → Step
end_effect c None p payload = (c, Nothing)
end_effect c (Some g) p payload = ended_effect (session_at c g) c g p payload

-- frames are awaited behind the container's close too, and passed over
abbrev pub close_effect : Upstream → Tree → Step
close_effect c e = (record c { phase = phase.Closed; stream = stream.Closed }, Closed e)

abbrev pub running_effect : Upstream → ℕ → Act10 → Parts → List ℕ → Step
running_effect c n (act.Open stated) p payload = (c, Nothing)
running_effect c n (act.Begin remote) p payload = begin_effect c n remote p payload
running_effect c n act.Within p payload = within_effect c (session_of c n) p payload
running_effect c n (act.Settle low high) p payload = within_effect c (session_of c n) p payload
running_effect c n act.End p payload = end_effect c (session_of c n) p payload
running_effect c n act.Close p payload = close_effect c (field p.1 0)
running_effect c n act.Offer p payload = (c, Nothing)
running_effect c n (act.Outcome m) p payload = (c, Nothing)
running_effect c n act.Challenge p payload = (c, Nothing)
running_effect c n act.ClientLogin p payload = (c, Nothing)

-- ---- a frame

-- a performative that counts, in each phase
abbrev pub perf_effect : Phase10 → Upstream → ℕ → Parts → List ℕ → Step
perf_effect phase.SaslHeader c n p payload = (c, Nothing)
perf_effect phase.Mechanisms c n p payload = mechanisms_effect c (field p.1 0) (act_of p)
perf_effect phase.Outcome c n p payload = login_effect c (act_of p)
perf_effect phase.AmqpHeader c n p payload = (c, Nothing)
perf_effect phase.Open c n p payload = open_effect c (act_of p)
perf_effect phase.Running c n p payload = running_effect c n (act_of p) p payload
perf_effect phase.Closing c n p payload = (c, Nothing)
perf_effect phase.Closed c n p payload = (c, Nothing)

abbrev pub body_effect : Phase10 → Upstream → ℕ → Body → Step
body_effect q c n Empty = (c, Nothing)
body_effect q c n (Faulty e) = (c, Nothing)
body_effect q c n (Whole p payload) = perf_effect q c n p payload

-- a frame that is refused; a close counts all the same
abbrev pub refused_step : Upstream → Condition → Bool → Step
refused_step c why false = violated c why c.stream
refused_step c why true = (record c { phase = phase.Closed; stream = stream.Closed }, Violation why)

-- what the order of refusals says of a frame, or else what it does
abbrev pub ruled_step : Upstream → Kind10 → ℕ → Body → Option Ruling10 → Step
ruled_step c k n b None = body_effect c.phase c n b
ruled_step c k n b (Some ruling.PassedOver) = (c, Nothing)
ruled_step c k n b (Some (ruling.Violated why)) = refused_step c why (closes k b)

abbrev pub body_step : Upstream → Kind10 → ℕ → Body → Step
body_step c k n b = ruled_step c k n b (body_ruling c.phase c k n b)

-- ---- before a violation

abbrev pub ordered_step : Upstream → Unit10 → Step
ordered_step c (unit.Header k) = header_step c k
ordered_step c (unit.Bad why) = violated c why (spoiled c.stream)
ordered_step c (unit.Frame f) = body_step c f.kind f.channel (body_in f.kind f.body)

-- ---- after it

-- any unit is passed over
abbrev pub closed_step : Upstream → Unit10 → Step
closed_step c u = (record c { stream = stream_after u c.stream }, Nothing)

-- what counts on a connection that runs still does; what would be refused is passed over
abbrev pub late_step : Upstream → ℕ → Body → Option Ruling10 → Step
late_step c n b None = body_effect phase.Running c n b
late_step c n b (Some r) = (c, Nothing)

abbrev pub late_body_step : Upstream → Kind10 → ℕ → Body → Step
late_body_step c k n b = late_step c n b (body_ruling phase.Running c k n b)

abbrev pub closing_step : Upstream → Unit10 → Step
closing_step c (unit.Header k) = closed_step c (unit.Header k)
closing_step c (unit.Bad why) = closed_step c (unit.Bad why)
closing_step c (unit.Frame f) = late_body_step c f.kind f.channel (body_in f.kind f.body)

-- ---- the table

abbrev pub step_in : Phase10 → Upstream → Unit10 → Step
step_in phase.SaslHeader = ordered_step
step_in phase.Mechanisms = ordered_step
step_in phase.Outcome = ordered_step
step_in phase.AmqpHeader = ordered_step
step_in phase.Open = ordered_step
step_in phase.Running = ordered_step
step_in phase.Closing = closing_step
step_in phase.Closed = closed_step

-- the state after a unit, and what it means
abbrev pub unit_step : Upstream → Unit10 → Step
unit_step c u = step_in c.phase c u
