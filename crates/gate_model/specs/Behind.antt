-- A basic.deliver goes behind the answers that are due on its channel: told by the events of the life
-- in progress.
use Rattle.std.specs.Prelude.{◌≡◌, ℕ, false, List, [], ◌∷◌, Some}
use Rattle.session_path.specs.Events.{after_events}
use Rattle.session_path.specs.Path.{first_of}
use Rattle.session_path.specs.declared.path.PathOk.{PathOk}
use Rattle.session_path.specs.declared.path.PathOk.TheVariants as ok
use Rattle.gate_model.specs.declared.channel.ChannelUnit.TheVariants as unit
use Rattle.gate_model.specs.declared.outgoing.Outgoing.TheVariants.{ToClient}
use Rattle.gate_model.specs.declared.reply.Reply.{Reply}
use Rattle.gate_model.specs.declared.reply.Reply.TheVariants as reply
use Rattle.gate_model.specs.Publishing.{path_events, path_life}
use Rattle.gate_model.specs.State.{Gave, Step}

-- no answer is due, or the next is a basic.get-ok, which waits for its own delivery (AMQP 0-9-1
-- 1.8.3.3, 1.8.3.10)
abbrev pub AreAnswered : List Step → ℕ → Type 0
AreAnswered h n =
    (life : ℕ) (x : PathOk) → path_life h n ≡ Some life
    → first_of (after_events life (path_events h n)).oks ≡ Some x → x ≡ ok.Get

abbrev pub MayDeliver : List Step → Reply → Type 0
MayDeliver h (reply.OnChannel n (unit.Deliver d)) = d.get ≡ false → AreAnswered h n
MayDeliver h u = Unit {0}

-- so it was for each that went
abbrev pub DeliversBehind : List Step → Type 0
DeliversBehind [] = Unit {0}
DeliversBehind (Gave (ToClient u) text ∷ h) = MayDeliver h u × DeliversBehind h
DeliversBehind (s ∷ h) = DeliversBehind h
