-- Any calls on a connection, and what holds after them (AMQP 0-9-1 2.2.4, 1.4.2.6, 1.5 and 4.2.6).
-- Lists of calls are newest first.
use Rattle.std.specs.Prelude.{◌≡◌, ℕ, ◌≤◌, ◌==◌, Bool, true, false, ◌⊎◌, if◌then◌else◌, List, []}
use Rattle.std.specs.Prelude.{◌∷◌, ◌++◌, map, count_by, is_some}
use Rattle.wire_base.specs.Bytes.{IsBytes}
use Rattle.close_translate.specs.declared.codes.TheConstants.{CONTENT_TOO_LARGE}
use Rattle.close_translate.specs.declared.conditions.Scope.{Scope}
use Rattle.close_translate.specs.declared.conditions.Scope.TheVariants as scope
use Rattle.frames_091.specs.declared.frame.Frame91.{Frame91}
use Rattle.frames_091.specs.declared.frame.Kind91.{Kind91}
use Rattle.frames_091.specs.declared.frame.Kind91.TheVariants as frame
use Rattle.methods_091.specs.Grammar.{IsMethod}
use Rattle.methods_091.specs.View.{kind_of}
use Rattle.methods_091.specs.declared.method.Method91.{Method91}
use Rattle.content_091.specs.Assembling.{IsContent}
use Rattle.content_091.specs.declared.assembly.Content.{Content}
use Rattle.machine_091.specs.Calls.{after_opened, after_closing, after_told, after_closed}
use Rattle.machine_091.specs.Calls.{after_ended}
use Rattle.machine_091.specs.Contents.{no_contents, is_immediate}
use Rattle.machine_091.specs.Ids.{is_of_kind}
use Rattle.machine_091.specs.State.{new_connection, channel_at, content_at, is_open, is_running}
use Rattle.machine_091.specs.Transitions.{Step, unit_step}
use Rattle.machine_091.specs.declared.ids.TheConstants.{BASIC_PUBLISH}
use Rattle.machine_091.specs.declared.state.Channel91.{Channel91}
use Rattle.machine_091.specs.declared.state.Channel91.TheVariants as channel
use Rattle.machine_091.specs.declared.state.Connection.{Connection}
use Rattle.machine_091.specs.declared.state.Phase91.TheVariants as phase
use Rattle.machine_091.specs.declared.unit.Refusal.{Refusal}
use Rattle.machine_091.specs.declared.unit.Unit91.{Unit91}
use Rattle.machine_091.specs.declared.unit.Unit91.TheVariants as unit
use Rattle.machine_091.specs.declared.unit.Want91.TheVariants as want

-- a call on a connection
pub data Call91 : Type 0 where
  -- the client's next unit
  Take : Unit91 → Call91
  -- the container upstream opened, and takes channels up to this number
  Opened : ℕ → Call91
  -- a closing event that no unit told
  Closing : Scope → ℕ → Call91
  -- the gateway's channel.close
  Told : ℕ → Call91
  -- its channel.close-ok
  Closed : ℕ → Call91
  -- the end of the client's stream
  Ended : Call91

abbrev pub after_call : Call91 → Connection → Connection
after_call (Take u) c = (unit_step c u).0
after_call (Opened max) c = after_opened max c
after_call (Closing s n) c = after_closing s n c
after_call (Told n) c = after_told n c
after_call (Closed n) c = after_closed n c
after_call Ended c = after_ended c

-- a connection to this virtual host after these calls
abbrev pub after_calls : List ℕ → List Call91 → Connection
after_calls vhost [] = new_connection vhost
after_calls vhost (x ∷ h) = after_call x (after_calls vhost h)

-- a channel is open, or it is closing
abbrev pub is_used : Channel91 → Bool
is_used channel.Free = false
is_used channel.Open = true
is_used channel.Closing = true
is_used channel.Told = true

-- the channels that are used have numbers from 1 to the greatest; so they are no more than that
pub record AreInRange (c : Connection) : Type 0 where
  pub min : (n : ℕ) → is_used (channel_at c n) ≡ true → 1 ≤ n
  pub max : (n : ℕ) → is_used (channel_at c n) ≡ true → n ≤ c.limits.channel_max
  pub count : count_by is_used c.channels ≤ c.limits.channel_max

-- ---- refusals

-- a refusal of the connection closes it, and leaves its limits and its channels
pub record ClosesConnection (c : Connection) (r : Refusal) (after : Connection) : Type 0 where
  pub channel : r.channel ≡ 0
  pub phase : after.phase ≡ phase.Closing
  pub limits : after.limits ≡ c.limits
  pub channels : after.channels ≡ c.channels
  pub contents : after.contents ≡ no_contents

-- a refusal of a channel, which was open: a content is too large. Nothing but the channel closes.
pub record ClosesChannel (c : Connection) (r : Refusal) (after : Connection) : Type 0 where
  pub code : r.code ≡ CONTENT_TOO_LARGE
  pub was_open : is_open c r.channel ≡ true
  pub closing : after ≡ after_closing scope.Channel r.channel c

-- what a refusal of this scope closes
abbrev pub Closes : Scope → Connection → Refusal → Connection → Type 0
Closes scope.Connection = ClosesConnection
Closes scope.Channel = ClosesChannel

-- a step of a connection that is closed leaves it closed, with its limits, channels and contents;
-- it answers nothing, except the client's close-ok
pub record StaysClosed (c : Connection) (x : Step) : Type 0 where
  pub phase : x.0.phase ≡ phase.Closed
  pub limits : x.0.limits ≡ c.limits
  pub channels : x.0.channels ≡ c.channels
  pub contents : x.0.contents ≡ c.contents
  pub want : (x.1 ≡ want.Nothing) ⊎ (x.1 ≡ want.CloseOk)

-- ---- contents

-- contents are in progress once the connection runs alone
abbrev pub HasNone : Connection → Type 0
HasNone c = is_running c.phase ≡ false → c.contents ≡ no_contents

-- and on channels that are open
abbrev pub AreOnOpen : Connection → Type 0
AreOnOpen c = (n : ℕ) → is_some (content_at c n) ≡ true → is_open c n ≡ true

-- the frame that a call gives on a channel
abbrev pub unit_frames : ℕ → Unit91 → List Frame91
unit_frames n unit.Protocol = []
unit_frames n (unit.Bad code) = []
unit_frames n (unit.Frame f) = if f.channel == n then f ∷ [] else []

abbrev pub call_frames : ℕ → Call91 → List Frame91
call_frames n (Take u) = unit_frames n u
call_frames n (Opened max) = []
call_frames n (Closing s k) = []
call_frames n (Told k) = []
call_frames n (Closed k) = []
call_frames n Ended = []

-- the frames that came on a channel, in their order
abbrev pub frames_on : ℕ → List Call91 → List Frame91
frames_on n [] = []
frames_on n (x ∷ h) = frames_on n h ++ call_frames n x

abbrev pub frame_of : Kind91 → ℕ → List ℕ → Frame91
frame_of k n payload = record { kind = k; channel = n; payload = payload }

-- the frames of a content: its method, its header and its body
abbrev pub content_frames : ℕ → List ℕ → List ℕ → List (List ℕ) → List Frame91
content_frames n publish header payloads =
    frame_of frame.Method n publish
    ∷ frame_of frame.Header n header
    ∷ map (frame_of frame.Body n) payloads

-- the frames of a channel end with those of a content that this basic.publish began
pub record IsPublished (frames : List Frame91) (n : ℕ) (m : Method91) (d : Content) : Type 0 where
  pub before : List Frame91
  pub publish : List ℕ
  pub header : List ℕ
  pub payloads : List (List ℕ)
  pub parts : frames ≡ before ++ content_frames n publish header payloads
  pub kind : is_of_kind BASIC_PUBLISH (kind_of m) ≡ true
  pub immediate : is_immediate m ≡ false
  pub method : IsBytes publish → IsMethod m publish
  pub content : IsBytes header → IsContent d header payloads
