-- Whether the container's session carries a channel: told by its begins and ends since the
-- channel.open (AMQP 1.0 2.5.1, 2.5.2). A channel.open-ok goes only then (AMQP 0-9-1 1.5.2.2).
use Rattle.std.specs.Prelude.{◌≡◌, ℕ, ◌==◌, Bool, true, false, if◌then◌else◌, List, [], ◌∷◌}
use Rattle.std.specs.Prelude.{Option, None, Some}
use Rattle.machine_10.specs.Parts.{Parts}
use Rattle.machine_10.specs.Transitions as ten
use Rattle.machine_10.specs.Transitions.{Meaning}
use Rattle.gate_model.specs.declared.outgoing.Outgoing.TheVariants.{ToClient}
use Rattle.gate_model.specs.declared.reply.Reply.{Reply}
use Rattle.gate_model.specs.declared.reply.Reply.TheVariants as reply
use Rattle.gate_model.specs.Folds.{container, ran_out_in}
use Rattle.gate_model.specs.Publishing.{opens_channel}
use Rattle.gate_model.specs.State.{Gave, Heard, Step}
use Rattle.gate_model.specs.Upstream.{meaning_by}

-- a begin, and an end (AMQP 1.0 2.7.2, 2.7.8)
abbrev pub begun_by : Parts → Option Bool
begun_by q = if q.0 == 17 then Some true else if q.0 == 23 then Some false else None

abbrev pub begun_meant : ℕ → Meaning → Option Bool
begun_meant n ten.Nothing = None
begun_meant n ten.Init = None
begun_meant n ten.AmqpHeader = None
begun_meant n ten.Opened = None
begun_meant n (ten.OfSession k q payload) = if k == n then begun_by q else None
begun_meant n (ten.Closed e) = None
begun_meant n ten.Refused = None
begun_meant n (ten.Violation why) = None

-- what a step says of the session of channel n
abbrev pub begun_at : ℕ → List Step → Step → Option Bool
begun_at n h (Heard u) =
    if ran_out_in h then None else begun_meant n (meaning_by (container h) u)
begun_at n h s = None

-- what was said last counts
abbrev pub said_or : Option Bool → Bool → Bool
said_or None old = old
said_or (Some b) old = b

-- its begin came since the channel.open, and no end behind it
abbrev pub has_begun : ℕ → List Step → Bool
has_begun n [] = false
has_begun n (s ∷ h) =
    if opens_channel n h s then false else said_or (begun_at n h s) (has_begun n h)

-- each channel.open-ok went then
abbrev pub MayOpen : List Step → Reply → Type 0
MayOpen h (reply.ChannelOpenOk n) = has_begun n h ≡ true
MayOpen h u = Unit {0}

abbrev pub OpensBehindBegins : List Step → Type 0
OpensBehindBegins [] = Unit {0}
OpensBehindBegins (Gave (ToClient u) text ∷ h) = MayOpen h u × OpensBehindBegins h
OpensBehindBegins (s ∷ h) = OpensBehindBegins h
