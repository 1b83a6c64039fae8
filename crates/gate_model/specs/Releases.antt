-- What is settled before a link or a session goes: told by the events of the life in progress, over
-- the fates of its deliveries, which know no state.
use Rattle.std.specs.Prelude.{◌≡◌, ℕ, true, false, List, [], ◌∷◌, Some, find}
use Rattle.consume_path.specs.Journal.{IsTaken, fate_of, is_uncovered}
use Rattle.consume_path.specs.Laws.{are_covered}
use Rattle.machine_091.specs.State.{is_open}
use Rattle.session_path.specs.Events.{after_events, deliveries_of}
use Rattle.session_path.specs.Links.{has_number}
use Rattle.session_path.specs.declared.path.PathLink.{PathLink}
use Rattle.gate_model.specs.Folds.{connection}
use Rattle.gate_model.specs.Publishing.{path_events, path_life}
use Rattle.gate_model.specs.State.{Gave, Step}
use Rattle.gate_model.specs.declared.channel.SessionUnit.TheVariants as unit
use Rattle.gate_model.specs.declared.outgoing.Outgoing.TheVariants.{ToUp}
use Rattle.gate_model.specs.declared.outgoing.UpUnit.{UpUnit}
use Rattle.gate_model.specs.declared.outgoing.UpUnit.TheVariants as up

-- each whole delivery of the life in progress on channel n that didn't come settled had its
-- disposition: what the client settled as it said, and the rest goes back (AMQP 1.0 2.7.6, 3.4;
-- AMQP 0-9-1 1.8.3.13)
abbrev pub AreReturned : List Step → ℕ → Type 0
AreReturned h n =
    (life k : ℕ) → path_life h n ≡ Some life
    → IsTaken (deliveries_of life (path_events h n)) k
    → is_uncovered (fate_of k (deliveries_of life (path_events h n))) ≡ false

-- each one of a receiving link had that: its consumer is cancelled, its queue was found, it is
-- given up, the container detached it, or one of its transfers was at fault (AMQP 1.0 2.6.5, 2.6.6,
-- 2.7.6)
abbrev pub AreReturnedOn : List Step → ℕ → ℕ → Type 0
AreReturnedOn h n link =
    (life : ℕ) (l : PathLink) → path_life h n ≡ Some life
    → find (has_number link) (after_events life (path_events h n)).links.links ≡ Some l
    → l.receives ≡ true
    → are_covered link (deliveries_of life (path_events h n)) ≡ true

-- before the gateway's end of a session, whose channel isn't open, nor open again: so the life in
-- progress is the one that the session carried (AMQP 1.0 2.5.4, 2.5.5)
pub record MayEnd (h : List Step) (n : ℕ) : Type 0 where
  pub shut : is_open (connection h) n ≡ false
  pub returned : AreReturned h n

-- before that, and before the gateway's detach of a link
abbrev pub MayPart : List Step → UpUnit → Type 0
MayPart h (up.End n why) = MayEnd h n
MayPart h (up.OnSession n (unit.Detach link handle why)) = AreReturnedOn h n link
MayPart h u = Unit {0}

-- each that went was one of these
abbrev pub Releases : List Step → Type 0
Releases [] = Unit {0}
Releases (Gave (ToUp u) text ∷ h) = MayPart h u × Releases h
Releases (s ∷ h) = Releases h
