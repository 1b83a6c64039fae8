-- What goes on a channel that closes: no answer and no delivery; and what is owed for publishes only
-- where its container caused that (AMQP 0-9-1 1.5.2.5; RabbitMQ's publisher confirms).
use Rattle.std.specs.Prelude.{◌≡◌, ◌⊎◌, ℕ, Bool, true, false, if◌then◌else◌, ◌&&◌, List, [], ◌∷◌}
use Rattle.gate_outside.specs.declared.ports.End.TheVariants.{Client, Up}
use Rattle.gate_outside.specs.declared.ports.Linked.TheVariants as link
use Rattle.machine_091.specs.State.{is_closing, is_open}
use Rattle.gate_model.specs.declared.channel.ChannelUnit.{ChannelUnit}
use Rattle.gate_model.specs.declared.channel.ChannelUnit.TheVariants as unit
use Rattle.gate_model.specs.declared.outgoing.Outgoing.TheVariants.{ToClient}
use Rattle.gate_model.specs.declared.reply.Reply.{Reply}
use Rattle.gate_model.specs.declared.reply.Reply.TheVariants as reply
use Rattle.gate_model.specs.Folds.{connection}
use Rattle.gate_model.specs.State.{Began, Came, Fed, Gave, Heard, Joined, LinesTold, Lost, Moment}
use Rattle.gate_model.specs.State.{OutOfMemory, Queued, Silent, Step, TakenUp, Whole}

-- a unit of the container, its silence, a connect that failed, or the loss of its end
abbrev pub is_containers : Step → Bool
is_containers (Began site number ms) = false
is_containers (Moment ms) = false
is_containers (Fed end) = false
is_containers (Silent Client) = false
is_containers (Silent Up) = true
is_containers (Queued u) = false
is_containers (Came u) = false
is_containers TakenUp = false
is_containers (Heard u) = true
is_containers (Joined link.Ok) = false
is_containers (Joined link.Failed) = true
is_containers (Lost Client how) = false
is_containers (Lost Up how) = true
is_containers (Gave u text) = false
is_containers (Whole end) = false
is_containers LinesTold = false
is_containers OutOfMemory = false

-- such a step was the closing event of channel n: the first after which the channel isn't open
abbrev pub by_container : List Step → ℕ → Bool
by_container [] n = false
by_container (s ∷ h) n =
    if is_open (connection (s ∷ h)) n then false
    else if is_open (connection h) n then is_containers s
    else by_container h n

-- such a step was the closing event of the connection
abbrev pub ended_by_container : List Step → Bool
ended_by_container [] = false
ended_by_container (s ∷ h) =
    if is_closing (connection h) then ended_by_container h
    else is_closing (connection (s ∷ h)) && is_containers s

-- channel n is open, or its container closed it
abbrev pub IsCalledFor : List Step → ℕ → Type 0
IsCalledFor h n = (is_open (connection h) n ≡ true) ⊎ (by_container h n ≡ true)

-- an answer, a deliver, and a frame of its content; a confirm; and a return that begins, which goes
-- on whatever closes
abbrev pub MayGoOn : List Step → ℕ → ChannelUnit → Type 0
MayGoOn h n (unit.Ok x) = is_open (connection h) n ≡ true
MayGoOn h n (unit.Deliver d) = is_open (connection h) n ≡ true
MayGoOn h n (unit.Content c) = is_open (connection h) n ≡ true
MayGoOn h n (unit.Confirm c) = IsCalledFor h n
MayGoOn h n (unit.Return r) = r.first ≡ true → IsCalledFor h n

abbrev pub MayStillGo : List Step → Reply → Type 0
MayStillGo h (reply.ChannelOpenOk n) = is_open (connection h) n ≡ true
MayStillGo h (reply.OnChannel n u) = MayGoOn h n u
MayStillGo h u = Unit {0}

-- each that went was one of these
abbrev pub StopsWhenClosed : List Step → Type 0
StopsWhenClosed [] = Unit {0}
StopsWhenClosed (Gave (ToClient u) text ∷ h) = MayStillGo h u × StopsWhenClosed h
StopsWhenClosed (s ∷ h) = StopsWhenClosed h
