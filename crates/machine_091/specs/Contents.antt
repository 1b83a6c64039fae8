-- The contents in progress (AMQP 0-9-1 4.2.6): at most one a channel, from the method that begins
-- it until it is whole; and what a content header and a body frame make of one.
use Rattle.std.specs.Prelude.{◌≡◌, ℕ, ◌-◌, ◌==◌, nat_lt, Bool, false, if◌then◌else◌, List, []}
use Rattle.std.specs.Prelude.{length, replicate, Option, None, Some, Result, Ok, Err, ⊤}
use Rattle.wire_base.specs.declared.scan.At.{At}
use Rattle.frames_091.specs.declared.frame.Kind91.{Kind91}
use Rattle.frames_091.specs.declared.frame.Kind91.TheVariants as frame
use Rattle.methods_091.specs.declared.method.Method91.{Method91}
use Rattle.methods_091.specs.declared.method.Method91.TheVariants as method
use Rattle.content_091.specs.Assembling.{with_bytes}
use Rattle.content_091.specs.Properties.{Parts}
use Rattle.content_091.specs.Reading.{header_in}
use Rattle.content_091.specs.declared.assembly.Assembly.{Assembly}
use Rattle.content_091.specs.declared.assembly.Content.{Content}
use Rattle.content_091.specs.declared.assembly.ContentFault.{ContentFault}
use Rattle.content_091.specs.declared.assembly.ContentFault.TheVariants as fault
use Rattle.content_091.specs.declared.assembly.Partial.{Partial}
use Rattle.content_091.specs.declared.assembly.Stage.{Stage}
use Rattle.content_091.specs.declared.assembly.Stage.TheVariants as stage
use Rattle.content_091.specs.declared.assembly.Step.{Step}
use Rattle.content_091.specs.declared.assembly.Step.TheVariants as step
use Rattle.content_091.specs.declared.assembly.TheConstants.{BODY_MAX}
use Rattle.content_091.specs.declared.header.Header91.{Header91}
use Rattle.content_091.specs.declared.reading.HeaderFault.{HeaderFault}
use Rattle.machine_091.specs.Headers.{header_of}
use Rattle.machine_091.specs.declared.contents.Fed.{Fed}
use Rattle.machine_091.specs.declared.contents.Fed.TheVariants as fed
use Rattle.machine_091.specs.declared.contents.Incoming.{Incoming}

-- none is in progress
unfoldable pub no_contents : List (Option Incoming)
no_contents = replicate 256 None

-- a method began one, and no frame of it came
abbrev pub begun : Method91 → Incoming
begun m = record { method = m; assembly = record { stage = stage.Begun } }

-- a basic.publish for a consumer that takes the content at once
abbrev pub is_immediate : Method91 → Bool
is_immediate (method.BasicPublish exchange routing_key mandatory immediate) = immediate
is_immediate m = false

-- ---- a frame of a content

-- the frames of a content behind its method
abbrev pub IsOfContent : Kind91 → Type 0
IsOfContent frame.Method = ⊥
IsOfContent frame.Header = ⊤
IsOfContent frame.Body = ⊤
IsOfContent frame.Heartbeat = ⊥

-- what a frame makes of a content, and whether the content is whole with it; or why it is refused
abbrev pub Taking : Type 0
Taking = Result (Assembly × Step) ContentFault

-- the content is whole
abbrev pub whole : Content → Assembly × Step
whole c = (record { stage = stage.Whole }, step.Whole c)

-- so many bytes of its body are to come
abbrev pub awaiting : Content → ℕ → Assembly × Step
awaiting c left = (record { stage = stage.Taking (record { content = c; left = left }) }, step.More)

-- ---- a content header

abbrev pub without_body : Header91 → Content
without_body h = record { props = h.props; body = [] }

-- a header of a size of 0 is a whole content
abbrev pub started : Header91 → Assembly × Step
started h = if h.size == 0 then whole (without_body h) else awaiting (without_body h) h.size

-- a header that can be read, and whose size doesn't pass the greatest
abbrev pub sized : Header91 → Taking
sized h = if nat_lt BODY_MAX h.size then Err fault.TooLarge else Ok (started h)

abbrev pub read : Result Parts (At HeaderFault) → Taking
read (Ok p) = sized (header_of p)
read (Err e) = Err (fault.Header e)

-- it is awaited once
abbrev pub with_header : List ℕ → Stage → Taking
with_header payload stage.Begun = read (header_in payload)
with_header payload (stage.Taking p) = Err fault.Unexpected
with_header payload stage.Whole = Err fault.Unexpected

-- ---- a body frame

-- no more bytes than are to come; with as many the content is whole
abbrev pub grown : List ℕ → Partial → Taking
grown payload p =
    if nat_lt p.left (length payload) then Err fault.Overrun
    else if length payload == p.left then Ok (whole (with_bytes p.content payload))
    else Ok (awaiting (with_bytes p.content payload) (p.left - length payload))

-- it is awaited behind the header
abbrev pub with_body : List ℕ → Stage → Taking
with_body payload stage.Begun = Err fault.Unexpected
with_body payload (stage.Taking p) = grown payload p
with_body payload stage.Whole = Err fault.Unexpected

-- ---- a frame, where a content is in progress on its channel or none is

abbrev pub taken : Kind91 → List ℕ → Option Incoming → Taking
taken frame.Method payload o = Err fault.Unexpected
taken frame.Header payload None = Err fault.Unexpected
taken frame.Header payload (Some i) = with_header payload i.assembly.stage
taken frame.Body payload None = Err fault.Unexpected
taken frame.Body payload (Some i) = with_body payload i.assembly.stage
taken frame.Heartbeat payload o = Err fault.Unexpected

-- ---- what a frame that was taken leaves of it

-- more is to come; or the content is whole, and its method is handed out with it
abbrev pub IsFed : Option Incoming → Option Incoming → Taking → Fed → Type 0
IsFed before after t fed.More =
    (i : Incoming) × (a : Assembly)
    × (before ≡ Some i) × (after ≡ Some (record i { assembly = a })) × (t ≡ Ok (a, step.More))
IsFed before after t (fed.Whole m d) =
    (i : Incoming) × (a : Assembly)
    × (before ≡ Some i) × (after ≡ None) × (m ≡ i.method) × (t ≡ Ok (a, step.Whole d))
