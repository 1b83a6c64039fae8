-- The order of refusals (AMQP 1.0 2.3, 2.4.1, 2.4.2, 2.5.1, 2.7.1, 2.7.6, 2.8.16, 5.3.2): one list
-- of places, of which the first that applies counts. What links and windows refuse isn't asked
-- here.
use Rattle.std.specs.Prelude.{ℕ, Bool, true, false, if◌then◌else◌, List, [], ◌∷◌, Option, None}
use Rattle.std.specs.Prelude.{Some}
use Rattle.frames_10.specs.declared.frame.Kind10.{Kind10}
use Rattle.frames_10.specs.declared.frame.Kind10.TheVariants as kind
use Rattle.performatives_10.specs.declared.condition.Condition.{Condition}
use Rattle.performatives_10.specs.declared.condition.Condition.TheVariants as condition
use Rattle.performatives_10.specs.declared.fault.PerfFault.{PerfFault}
use Rattle.performatives_10.specs.declared.fault.PerfFault.TheVariants as fault
use Rattle.machine_10.specs.Reading.{Body, Empty, Faulty, Whole, act_of, is_out_of_range}
use Rattle.machine_10.specs.State.{session_at, session_of}
use Rattle.machine_10.specs.declared.state.Phase10.{Phase10}
use Rattle.machine_10.specs.declared.state.Phase10.TheVariants as phase
use Rattle.machine_10.specs.declared.state.Session.{Session}
use Rattle.machine_10.specs.declared.state.Session.TheVariants as session
use Rattle.machine_10.specs.declared.state.Upstream.{Upstream}
use Rattle.machine_10.specs.declared.unit.Act10.{Act10}
use Rattle.machine_10.specs.declared.unit.Act10.TheVariants as act
use Rattle.machine_10.specs.declared.unit.Ruling10.{Ruling10}
use Rattle.machine_10.specs.declared.unit.Ruling10.TheVariants as ruling

-- a place that applies closes the connection with a condition
abbrev pub refused : Condition → Option Ruling10
refused c = Some (ruling.Violated c)

-- of some places, the first that applies
abbrev pub first : List (Option Ruling10) → Option Ruling10
first [] = None
first (Some r ∷ places) = Some r
first (None ∷ places) = first places

-- ---- the kind of a frame

-- the phases that need frames of the SASL layer, and those that need frames of AMQP
abbrev pub is_login_phase : Phase10 → Bool
is_login_phase phase.SaslHeader = false
is_login_phase phase.Mechanisms = true
is_login_phase phase.Outcome = true
is_login_phase phase.AmqpHeader = false
is_login_phase phase.Open = false
is_login_phase phase.Running = false
is_login_phase phase.Closing = false
is_login_phase phase.Closed = false

abbrev pub is_amqp_phase : Phase10 → Bool
is_amqp_phase phase.SaslHeader = false
is_amqp_phase phase.Mechanisms = false
is_amqp_phase phase.Outcome = false
is_amqp_phase phase.AmqpHeader = false
is_amqp_phase phase.Open = true
is_amqp_phase phase.Running = true
is_amqp_phase phase.Closing = false
is_amqp_phase phase.Closed = false

abbrev pub is_needed : Phase10 → Kind10 → Bool
is_needed p kind.Sasl = is_login_phase p
is_needed p kind.Amqp = is_amqp_phase p

abbrev pub kind_order : Phase10 → Kind10 → Option Ruling10
kind_order p k = if is_needed p k then None else refused condition.FramingError

-- the layer that a performative is of
abbrev pub layer_of : Act10 → Kind10
layer_of (act.Open stated) = kind.Amqp
layer_of (act.Begin remote) = kind.Amqp
layer_of act.Within = kind.Amqp
layer_of (act.Settle low high) = kind.Amqp
layer_of act.End = kind.Amqp
layer_of act.Close = kind.Amqp
layer_of act.Offer = kind.Sasl
layer_of (act.Outcome n) = kind.Sasl
layer_of act.Challenge = kind.Sasl
layer_of act.ClientLogin = kind.Sasl

-- ---- reading

abbrev pub fault_condition : PerfFault → Condition
fault_condition (fault.Value e) = condition.DecodeError
fault_condition fault.UnknownDescriptor = condition.DecodeError
fault_condition (fault.Missing k) = condition.InvalidField
fault_condition (fault.WrongType k) = condition.InvalidField

-- ---- order

-- a challenge, which no mechanism of the gateway answers
abbrev pub login_order : Act10 → Option Ruling10
login_order act.Challenge = refused condition.NotAllowed
login_order (act.Open stated) = None
login_order (act.Begin remote) = None
login_order act.Within = None
login_order (act.Settle low high) = None
login_order act.End = None
login_order act.Close = None
login_order act.Offer = None
login_order (act.Outcome n) = None
login_order act.ClientLogin = None

-- a performative before the open
abbrev pub open_order : Act10 → Option Ruling10
open_order (act.Open stated) = None
open_order (act.Begin remote) = refused condition.NotAllowed
open_order act.Within = refused condition.NotAllowed
open_order (act.Settle low high) = refused condition.NotAllowed
open_order act.End = refused condition.NotAllowed
open_order act.Close = refused condition.NotAllowed
open_order act.Offer = refused condition.NotAllowed
open_order (act.Outcome n) = refused condition.NotAllowed
open_order act.Challenge = refused condition.NotAllowed
open_order act.ClientLogin = refused condition.NotAllowed

-- a begin answers one of the gateway's that has no answer yet
abbrev pub answer_order : Session → Option Ruling10
answer_order session.Free = refused condition.NotAllowed
answer_order session.Asked = None
answer_order session.Left = None
answer_order (session.Open n) = refused condition.NotAllowed
answer_order (session.Leaving n) = refused condition.NotAllowed
answer_order (session.Ended n) = refused condition.NotAllowed

-- it comes on a channel without session, and names the gateway's
abbrev pub begin_order : Upstream → Option ℕ → Option ℕ → Option Ruling10
begin_order c (Some g) remote = refused condition.NotAllowed
begin_order c None None = refused condition.NotAllowed
begin_order c None (Some g) = answer_order (session_at c g)

-- what belongs to a session comes on a channel with one
abbrev pub within_order : Option ℕ → Option Ruling10
within_order None = refused condition.NotAllowed
within_order (Some g) = None

-- a second open; a begin that isn't awaited; what belongs to no session
abbrev pub running_order : Upstream → ℕ → Act10 → Option Ruling10
running_order c n (act.Open stated) = refused condition.NotAllowed
running_order c n (act.Begin remote) = begin_order c (session_of c n) remote
running_order c n act.Within = within_order (session_of c n)
running_order c n (act.Settle low high) = within_order (session_of c n)
running_order c n act.End = within_order (session_of c n)
running_order c n act.Close = None
running_order c n act.Offer = None
running_order c n (act.Outcome m) = None
running_order c n act.Challenge = None
running_order c n act.ClientLogin = None

abbrev pub order_in : Phase10 → Upstream → ℕ → Act10 → Option Ruling10
order_in phase.SaslHeader c n a = None
order_in phase.Mechanisms c n a = login_order a
order_in phase.Outcome c n a = login_order a
order_in phase.AmqpHeader c n a = None
order_in phase.Open c n a = open_order a
order_in phase.Running c n a = running_order c n a
order_in phase.Closing c n a = None
order_in phase.Closed c n a = None

-- ---- what an ended session passes over

-- after an end of either side, all that belongs to the session
abbrev pub within_passed : Session → Option Ruling10
within_passed session.Free = None
within_passed session.Asked = None
within_passed session.Left = None
within_passed (session.Open n) = None
within_passed (session.Leaving n) = Some ruling.PassedOver
within_passed (session.Ended n) = Some ruling.PassedOver

-- after the container's end, another
abbrev pub end_passed : Session → Option Ruling10
end_passed session.Free = None
end_passed session.Asked = None
end_passed session.Left = None
end_passed (session.Open n) = None
end_passed (session.Leaving n) = None
end_passed (session.Ended n) = Some ruling.PassedOver

abbrev pub passed_in : Upstream → Option ℕ → Act10 → Option Ruling10
passed_in c None a = None
passed_in c (Some g) (act.Open stated) = None
passed_in c (Some g) (act.Begin remote) = None
passed_in c (Some g) act.Within = within_passed (session_at c g)
passed_in c (Some g) (act.Settle low high) = within_passed (session_at c g)
passed_in c (Some g) act.End = end_passed (session_at c g)
passed_in c (Some g) act.Close = None
passed_in c (Some g) act.Offer = None
passed_in c (Some g) (act.Outcome n) = None
passed_in c (Some g) act.Challenge = None
passed_in c (Some g) act.ClientLogin = None

-- ---- the places of a frame

-- a number out of its range
abbrev pub range_place : Act10 → Option Ruling10
range_place a = if is_out_of_range a then refused condition.InvalidField else None

-- the places of a performative, by the rules of a phase: its layer, its numbers, its order, and
-- what belongs to a session that has ended
abbrev pub perf_places : Phase10 → Upstream → ℕ → Act10 → List (Option Ruling10)
perf_places q c n a =
    kind_order q (layer_of a)
    ∷ range_place a
    ∷ order_in q c n a
    ∷ passed_in c (session_of c n) a
    ∷ []

-- what can't be read has one place
abbrev pub body_places : Phase10 → Upstream → ℕ → Body → List (Option Ruling10)
body_places q c n Empty = []
body_places q c n (Faulty e) = refused (fault_condition e) ∷ []
body_places q c n (Whole p payload) = perf_places q c n (act_of p)

-- the order: the kind of the frame comes before its body
abbrev pub places : Phase10 → Upstream → Kind10 → ℕ → Body → List (Option Ruling10)
places q c k n b = kind_order q k ∷ body_places q c n b

-- what the order says of a frame; None where it counts
abbrev pub body_ruling : Phase10 → Upstream → Kind10 → ℕ → Body → Option Ruling10
body_ruling q c k n b = first (places q c k n b)
