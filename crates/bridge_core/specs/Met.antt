-- What becomes of what a unit of the client wants: what the connection passes on, but for the
-- requests that the gateway refuses; a publish becomes an address, the payload of its transfer, and
-- the frames of its return.
use Rattle.std.specs.Prelude.{◌≡◌, ℕ, Bool, true, false, not, ◌&&◌, if◌then◌else◌, List, []}
use Rattle.std.specs.Prelude.{None, Option, Some, is_some}
use Rattle.property_map.specs.Image.{first_fault}
use Rattle.property_map.specs.declared.told.Told.{Told}
use Rattle.machine_091.specs.State.{is_closing}
use Rattle.machine_091.specs.declared.state.Connection.{Connection}
use Rattle.machine_091.specs.declared.unit.Want91.{Want91}
use Rattle.machine_091.specs.declared.unit.Want91.TheVariants as want
use Rattle.methods_091.specs.declared.method.Method91.{Method91}
use Rattle.methods_091.specs.declared.method.Method91.TheVariants as method
use Rattle.property_map.specs.Spelling.{image_text}
use Rattle.property_map.specs.declared.message.Message091.{Message091}
use Rattle.gate_model.specs.declared.setup.Route.{Route}
use Rattle.gate_model.specs.Requests.{address_for, address_of, message_of, publish_fault}
use Rattle.gate_model.specs.Requests.{refusal_of_want, told_by, told_in}
use Rattle.gate_model.specs.Requests.{refused_by}
use Rattle.gate_model.specs.Returns.{back_of, return_parts}
use Rattle.gate_model.specs.Paths.{with_path}
use Rattle.gate_model.specs.State.{State, closes_at, fed_by, is_foreign, is_held, with_header}
use Rattle.gate_model.specs.State as state
use Rattle.gate_model.specs.Upstream.{closing_with}
use Rattle.session_path.specs.Path as session
use Rattle.session_path.specs.Path.{PathState}
use Rattle.bridge_core.specs.Logins.{IsLoginWant}
use Rattle.bridge_core.specs.declared.requests.Met.{Met}
use Rattle.bridge_core.specs.declared.requests.Met.TheVariants as met
use Rattle.bridge_core.specs.declared.requests.Published.{Published}
use Rattle.bridge_core.specs.declared.requests.Published.TheVariants as published

-- ---- a publish

-- on channel n, of a client that takes frames of so many bytes
abbrev pub back_if : Bool → ℕ → ℕ → Message091 → List (List ℕ)
back_if mandatory limit n m = if mandatory then return_parts limit n m else []

-- what is told of one that is refused
abbrev pub told_of_publish : List Route → Message091 → Option Told
told_of_publish routes m =
    if is_some (address_for routes m) then told_by (first_fault m) else None

abbrev pub IsPublish : List Route → ℕ → ℕ → Bool → Message091 → Published → Type 0
IsPublish routes limit n mandatory m (published.Refused code told) =
    (publish_fault routes m ≡ Some code) × (told ≡ told_of_publish routes m)
IsPublish routes limit n mandatory m (published.Sent address payload back) =
    (publish_fault routes m ≡ None) × (address ≡ address_of routes m)
    × (payload ≡ image_text m) × (back ≡ back_if mandatory limit n m)

-- ---- what a unit wants

abbrev pub is_publish : Want91 → Bool
is_publish want.Nothing = false
is_publish want.Start = false
is_publish (want.Login mechanism response) = false
is_publish want.Tuned = false
is_publish want.OpenUp = false
is_publish (want.Method n m) = false
is_publish (want.Publish n m c) = true
is_publish (want.ChannelCloseOk n) = false
is_publish want.Close = false
is_publish want.CloseOk = false
is_publish (want.Refuse r) = false

-- this publish, on its channel
abbrev pub IsOf : List Route → ℕ → Want91 → ℕ → List ℕ → List ℕ → List (List ℕ) → Type 0
IsOf routes limit (want.Publish n m c) k address payload back =
    (k ≡ n) × (address ≡ address_of routes (message_of m c))
    × (payload ≡ image_text (message_of m c)) × (back ≡ back_of limit n m (message_of m c))
IsOf routes limit x k address payload back = is_publish x ≡ true

abbrev pub IsMet : List Route → List (Option PathState) → Want91 → Connection → Connection → Met
    → Type 0
IsMet routes ps x old new (met.Want y told) =
    ((new, y) ≡ refused_by (refusal_of_want routes ps x) (old, x)) × (is_publish y ≡ false)
    × (told ≡ told_in routes x)
IsMet routes ps x old new (met.Publish k address payload back) =
    (new ≡ old) × (refusal_of_want routes ps x ≡ None)
    × IsOf routes old.limits.frame_max x k address payload back

-- ---- which may run out of memory

-- its names are kept
abbrev pub is_naming : Method91 → Bool
is_naming (method.QueueDeclare queue passive durable exclusive deletes no_wait arguments) = true
is_naming (method.BasicConsume queue tag no_local no_ack exclusive no_wait args) = true
is_naming (method.BasicGet queue no_ack) = true
is_naming (method.BasicCancel tag no_wait) = true
is_naming m = false

abbrev pub is_answered : Method91 → Bool
is_answered (method.ChannelFlow active) = true
is_answered (method.ExchangeDeclare e kind passive durable auto_delete internal no_wait args) =
    true
is_answered (method.ConfirmSelect no_wait) = true
is_answered (method.BasicConsume queue tag no_local no_ack exclusive no_wait args) = true
is_answered (method.QueueDeclare queue passive durable exclusive deletes no_wait args) = true
is_answered (method.BasicGet queue no_ack) = true
is_answered (method.BasicCancel tag no_wait) = true
is_answered (method.BasicQos size count global) = true
is_answered (method.BasicRecover requeue) = true
is_answered m = false

abbrev pub takes_memory_for : Want91 → Bool
takes_memory_for want.Nothing = false
takes_memory_for want.Start = false
takes_memory_for (want.Login mechanism response) = false
takes_memory_for want.Tuned = false
takes_memory_for want.OpenUp = false
takes_memory_for (want.Method n m) = is_answered m
takes_memory_for (want.Publish n m c) = true
takes_memory_for (want.ChannelCloseOk n) = false
takes_memory_for want.Close = false
takes_memory_for want.CloseOk = false
takes_memory_for (want.Refuse r) = false

abbrev pub takes_memory_met : Met → Bool
takes_memory_met (met.Want x told) = takes_memory_for x
takes_memory_met (met.Publish n address payload back) = true

-- ---- the state after it

-- a publish is met, and is no want any more
abbrev pub is_unmet : Met → Bool
is_unmet (met.Want x told) = is_publish x
is_unmet (met.Publish n address payload back) = false

-- it is no login but one that a client may tell
abbrev pub IsLoginMet : Met → Type 0
IsLoginMet (met.Want x told) = IsLoginWant x
IsLoginMet (met.Publish n address payload back) = Unit {0}

abbrev pub applied : Bool → Met → State → State
applied closing (met.Want x told) w = state.met closing told x w
applied closing (met.Publish n address payload back) w = record w {
  paths = with_path n (session.published address payload back) w.paths;
  up = closing_with closing None w.up;
}

-- what is due, and the moments that count, once a unit was met; before it the first bytes had
-- turned out to be no protocol header, or not
abbrev pub counted : Bool → State → State
counted foreign w = record w {
  pending = with_header (is_foreign w.conn.stream && not foreign) w.pending;
  fed_at = fed_by (is_held w) w.moment w.fed_at;
  closed_at = closes_at w.closed_at (is_closing w.conn) w.moment;
}
