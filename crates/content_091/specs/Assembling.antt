-- How a content is put together (AMQP 0-9-1 4.2.6): a content header, and the payloads of body
-- frames that together have as many bytes as the header says. The body is these payloads, one after
-- another.
use Rattle.std.specs.Prelude.{◌≡◌, ◌≢◌, ℕ, ◌+◌, ◌-◌, ◌<◌, ◌≤◌, Bool, true, false, List, [], ◌++◌}
use Rattle.std.specs.Prelude.{length}
use Rattle.std.specs.List.{concat}
use Rattle.content_091.specs.Grammar.{IsHeader}
use Rattle.content_091.specs.Faults.{IsFault}
use Rattle.content_091.specs.declared.header.Header91.{Header91}
use Rattle.content_091.specs.declared.assembly.TheConstants.{BODY_MAX}
use Rattle.content_091.specs.declared.assembly.Content.{Content}
use Rattle.content_091.specs.declared.assembly.Partial.{Partial}
use Rattle.content_091.specs.declared.assembly.Stage.{Stage}
use Rattle.content_091.specs.declared.assembly.Stage.TheVariants as stage
use Rattle.content_091.specs.declared.assembly.Assembly.{Assembly}
use Rattle.content_091.specs.declared.assembly.Step.{Step}
use Rattle.content_091.specs.declared.assembly.Step.TheVariants as step
use Rattle.content_091.specs.declared.assembly.ContentFault.{ContentFault}
use Rattle.content_091.specs.declared.assembly.ContentFault.TheVariants as fault

-- the header of a content with these properties, whose body has so many bytes
abbrev pub header_with : Content → ℕ → Header91
header_with c size = record { size = size; props = c.props }

-- the content of a header and payloads
abbrev pub IsContent : Content → List ℕ → List (List ℕ) → Type 0
IsContent c header payloads =
    IsHeader (header_with c (length (concat payloads))) header × (c.body ≡ concat payloads)
    × (length (concat payloads) ≤ BODY_MAX)

-- no header was given
abbrev pub HasBegun : Assembly → Type 0
HasBegun a = a.stage ≡ stage.Begun

-- the content was handed out
abbrev pub IsWhole : Assembly → Type 0
IsWhole a = a.stage ≡ stage.Whole

-- frames are taken until the content was handed out
abbrev pub takes_frames : Stage → Bool
takes_frames stage.Begun = true
takes_frames (stage.Taking p) = true
takes_frames stage.Whole = false

abbrev pub is_open : Assembly → Bool
is_open a = takes_frames a.stage

abbrev pub IsOpen : Assembly → Type 0
IsOpen a = is_open a ≡ true

-- a content that isn't whole: so many bytes of its body are still to come
abbrev pub IsMissing : Assembly → Content → ℕ → Type 0
IsMissing a c left = a.stage ≡ stage.Taking (record { content = c; left = left })

-- the header and the payloads that were given, where the body is longer than these
abbrev pub HasTaken : Assembly → List ℕ → List (List ℕ) → Type 0
HasTaken a header payloads =
    (c : Content) × (left : ℕ) × IsMissing a c left × (0 < left)
    × IsHeader (header_with c (length (concat payloads) + left)) header × (c.body ≡ concat payloads)
    × (length (concat payloads) + left ≤ BODY_MAX)

-- what a header begins: of a size of 0 the whole content
abbrev pub Starts : Header91 → Assembly → Step → Type 0
Starts h a step.More = (0 < h.size) × IsMissing a (record { props = h.props; body = [] }) h.size
Starts h a (step.Whole c) = (h.size ≡ 0) × IsWhole a × (c ≡ record { props = h.props; body = [] })

-- a content with so many more bytes
abbrev pub with_bytes : Content → List ℕ → Content
with_bytes c payload = record { props = c.props; body = c.body ++ payload }

-- what a payload adds to a content that isn't whole
abbrev pub Adds : Partial → List ℕ → Assembly → Step → Type 0
Adds p payload after step.More =
    (length payload < p.left)
    × IsMissing after (with_bytes p.content payload) (p.left - length payload)
Adds p payload after (step.Whole whole) =
    (length payload ≡ p.left) × IsWhole after × (whole ≡ with_bytes p.content payload)

abbrev pub Grows : Assembly → List ℕ → Assembly → Step → Type 0
Grows a payload after s = (p : Partial) × (a.stage ≡ stage.Taking p) × Adds p payload after s

-- a payload has more bytes than are to come
abbrev pub IsTooMuch : Partial → List ℕ → ContentFault → Type 0
IsTooMuch p payload f = (f ≡ fault.Overrun) × (p.left < length payload)

-- what a step says of the header and the payloads that were given with it
abbrev pub Joins : Assembly → List ℕ → List (List ℕ) → Step → Type 0
Joins a header payloads step.More = HasTaken a header payloads
Joins a header payloads (step.Whole c) = IsWhole a × IsContent c header payloads

-- Why a header is refused. Unexpected: one was taken before. Header: it can't be read. TooLarge:
-- its body is too long.
abbrev pub IsHeaderRefusal : Assembly → List ℕ → ContentFault → Type 0
IsHeaderRefusal a payload fault.Unexpected = a.stage ≢ stage.Begun
IsHeaderRefusal a payload (fault.Header e) = HasBegun a × IsFault payload e
IsHeaderRefusal a payload fault.TooLarge =
    HasBegun a × (h : Header91) × IsHeader h payload × (BODY_MAX < h.size)
IsHeaderRefusal a payload fault.Overrun = ⊥

-- Why a payload is refused. Unexpected: no header was given. Overrun: it has more bytes than are to
-- come.
abbrev pub IsBodyRefusal : Assembly → List ℕ → ContentFault → Type 0
IsBodyRefusal a payload fault.Unexpected = HasBegun a
IsBodyRefusal a payload (fault.Header e) = ⊥
IsBodyRefusal a payload fault.TooLarge = ⊥
IsBodyRefusal a payload fault.Overrun =
    (p : Partial) × (a.stage ≡ stage.Taking p) × (p.left < length payload)
