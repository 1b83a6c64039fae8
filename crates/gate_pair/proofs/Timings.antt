-- Heartbeats, empty frames and shuts are due exactly when the entries say so.
use Rattle.std.proofs.Common.{◌≡◌, ◌↔◌, ◌∙◌, ℕ, ◌+◌, ◌*◌, ◌/◌, ◌≤◌, Bool, true, false, ◌&&◌, List}
use Rattle.std.proofs.Common.{[], ◌∷◌, Some, refl, sym, ap, subst}
use Rattle.gate_outside.specs.declared.ports.End.{End}
use Rattle.gate_outside.specs.declared.ports.End.TheVariants.{Client, Up}
use Rattle.gate_relay.specs.declared.loss.Loss.TheVariants as loss
use Rattle.gate_relay.specs.Entries as entry
use Rattle.gate_relay.specs.Entries.{Entry, is_out_of_memory, moment_of}
use Rattle.gate_relay.specs.Relayed as relayed
use Rattle.gate_relay.specs.Relayed.{IsRelayed}
use Rattle.gate_relay.specs.Sides.{is_open_side, is_readable, side_of, sides}
use Rattle.gate_model.specs.declared.outgoing.Outgoing.TheVariants.{ToClient, ToUp}
use Rattle.gate_model.specs.declared.outgoing.UpUnit.TheVariants as up
use Rattle.gate_model.specs.declared.reply.Reply.TheVariants as reply
use Rattle.gate_model.specs.declared.timers.TheConstants.{BEAT_PER_SECOND, CLOSING_LIMIT}
use Rattle.gate_model.specs.declared.timers.TheConstants.{HANDSHAKE_LIMIT}
use Rattle.gate_model.specs.Asked as asked
use Rattle.gate_model.specs.Asked.{GoesWhenDue, ShutsUpAtOnce}
use Rattle.gate_model.specs.Due.{is_busy, pick}
use Rattle.gate_model.specs.Folds.{accepted_in, connection, container, moment_in, ran_out_in}
use Rattle.gate_model.specs.Folds.{sent_at, sent_up_at}
use Rattle.gate_model.specs.Picks.{ArePicks}
use Rattle.gate_model.specs.Setup.{SetupText}
use Rattle.gate_model.specs.State.{Step}
use Rattle.gate_model.specs.Times as model
use Rattle.gate_model.specs.Times.{BeatsAtOnce, LateCloses, ShutsAtOnce}
use Rattle.gate_model.specs.Upstream.{idle_in}
use Rattle.gate_pair.specs.Meaning.{pair_words, state_of, steps_of}
use Rattle.gate_pair.specs.Times.{KeepsTimes, MayBeatAt, MayTellAt, SendsBeats, SendsEmpties}
use Rattle.gate_pair.specs.Times.{ShutAt, Failed, Left, Answered, Greeted, Closed, ClosedBad}
use Rattle.gate_pair.specs.Times.{ClosedLast, Unheard, NotOpened, Overdue, ShutUpAt, UpFailed}
use Rattle.gate_pair.specs.Times.{UpEnded, UpClosed, UpClosedBad, UpClosedLast, UpUnopened}
use Rattle.gate_pair.specs.Times.{UpOverdue, ShutDueAt, ShutSince, IsDue, AtTheEnd, AtRefusal}
use Rattle.gate_pair.specs.Times.{ShutsForCause, accepted_of, last_taken_at, last_taken_up_at}
use Rattle.gate_pair.proofs.Agree.{agrees}
use Rattle.gate_pair.proofs.Picks.{memory_in, picks}
use Rattle.gate_pair.proofs.Taken.{moment_is}
use Rattle.gate_pair.proofs.Tells.{MayTellIn, tells_at_once}

-- the laws of steps
pub record AreTimed : Type 0 where
  pub beats : (g : List Step) → ArePicks g → BeatsAtOnce g
  pub goes : (g : List Step) → ArePicks g → GoesWhenDue g
  pub shuts : (g : List Step) → ArePicks g → ShutsAtOnce g
  pub shuts_up : (g : List Step) → ArePicks g → ShutsUpAtOnce g
  pub late : (g : List Step) → ArePicks g → LateCloses g

-- ---- heartbeats

beat_in : (s : SetupText) (h : List Entry) → IsRelayed (pair_words s) h → model.MayBeat (steps_of s h) → MayBeatAt s h
beat_in s h r m = record {
  agreed = m.agreed;
  quiet = subst (λ (n : ℕ). n + BEAT_PER_SECOND * (connection (steps_of s h)).limits.heartbeat ≤ moment_of h) ((agrees s h r).at_is m.free)
      (subst (λ (n : ℕ). sent_at (steps_of s h) + BEAT_PER_SECOND * (connection (steps_of s h)).limits.heartbeat ≤ n) (moment_is s h) m.quiet);
  unclosed = m.unclosed;
  alone = m.alone;
  free = m.free;
}

beat_of : (s : SetupText) (h : List Entry) → IsRelayed (pair_words s) h → MayBeatAt s h → model.MayBeat (steps_of s h)
beat_of s h r m = record {
  agreed = m.agreed;
  quiet = subst (λ (n : ℕ). n + BEAT_PER_SECOND * (connection (steps_of s h)).limits.heartbeat ≤ moment_in (steps_of s h)) (sym ((agrees s h r).at_is m.free))
      (subst (λ (n : ℕ). last_taken_at h + BEAT_PER_SECOND * (connection (steps_of s h)).limits.heartbeat ≤ n) (sym (moment_is s h)) m.quiet);
  unclosed = m.unclosed;
  alone = m.alone;
  free = m.free;
}

abbrev Beats : SetupText → List Entry → Type 0
Beats s h = is_busy (state_of s h) Client ≡ false → (pick (state_of s h) Client ≡ Some (ToClient reply.Heartbeat)) ↔ MayBeatAt s h

beats : AreTimed → (s : SetupText) (h : List Entry) → IsRelayed (pair_words s) h → Beats s h
beats t s h r free = let b = t.beats (steps_of s h) (picks s h r) free in (λ e. beat_in s h r (b.0 e), λ m. b.1 (beat_of s h r m))

sent_beats : AreTimed → (s : SetupText) (h : List Entry) → IsRelayed (pair_words s) h → SendsBeats s h
sent_beats t s [] r = tt
sent_beats t s (entry.Took Client bytes n ∷ h) r = (λ free e. (beats t s h r.2 free).0 e, sent_beats t s h r.2)
sent_beats t s (entry.Took Up bytes n ∷ h) r = sent_beats t s h r.2
sent_beats t s (entry.Began p ms ∷ h) r = sent_beats t s h r.2
sent_beats t s (entry.Refused ∷ h) r = sent_beats t s h r.2
sent_beats t s (entry.Moment ms ∷ h) r = sent_beats t s h r.2
sent_beats t s (entry.Came end bytes ∷ h) r = sent_beats t s h r.2
sent_beats t s (entry.Dry end ∷ h) r = sent_beats t s h r.2
sent_beats t s (entry.Settled ∷ h) r = sent_beats t s h r.2
sent_beats t s (entry.Joined answer ∷ h) r = sent_beats t s h r.2
sent_beats t s (entry.Stuck end bytes ∷ h) r = sent_beats t s h r.2
sent_beats t s (entry.Lost end how ∷ h) r = sent_beats t s h r.2
sent_beats t s (entry.OutOfMemory cut ∷ h) r = sent_beats t s h r.2
sent_beats t s (entry.Over ∷ h) r = sent_beats t s h r.2

-- ---- empty frames

tell_in : (s : SetupText) (h : List Entry) → IsRelayed (pair_words s) h → is_busy (state_of s h) Up ≡ false → MayTellIn (steps_of s h) → MayTellAt s h
tell_in s h r free m = record {
  stated = m.stated;
  opened = m.opened;
  quiet = subst (λ (n : ℕ). n + (idle_in (container (steps_of s h)) + 1) / 2 ≤ moment_of h) ((agrees s h r).up_at_is free)
      (subst (λ (n : ℕ). sent_up_at (steps_of s h) + (idle_in (container (steps_of s h)) + 1) / 2 ≤ n) (moment_is s h) m.quiet);
  readable = ap is_readable (sym (agrees s h r).side_is) ∙ m.readable;
  unclosed = m.unclosed;
  calm = m.calm;
  alone = m.alone;
  free = free;
}

tell_of : (s : SetupText) (h : List Entry) → IsRelayed (pair_words s) h → MayTellAt s h → MayTellIn (steps_of s h)
tell_of s h r m = record {
  stated = m.stated;
  opened = m.opened;
  quiet = subst (λ (n : ℕ). n + (idle_in (container (steps_of s h)) + 1) / 2 ≤ moment_in (steps_of s h)) (sym ((agrees s h r).up_at_is m.free))
      (subst (λ (n : ℕ). last_taken_up_at h + (idle_in (container (steps_of s h)) + 1) / 2 ≤ n) (sym (moment_is s h)) m.quiet);
  readable = ap is_readable (agrees s h r).side_is ∙ m.readable;
  unclosed = m.unclosed;
  calm = m.calm;
  alone = m.alone;
}

abbrev Tells : SetupText → List Entry → Type 0
Tells s h = is_busy (state_of s h) Up ≡ false → (pick (state_of s h) Up ≡ Some (ToUp up.Empty)) ↔ MayTellAt s h

tells : AreTimed → (s : SetupText) (h : List Entry) → IsRelayed (pair_words s) h → Tells s h
tells t s h r free = let b = tells_at_once t.goes (steps_of s h) (picks s h r) free in (λ e. tell_in s h r free (b.0 e), λ m. b.1 (tell_of s h r m))

sent_empties : AreTimed → (s : SetupText) (h : List Entry) → IsRelayed (pair_words s) h → SendsEmpties s h
sent_empties t s [] r = tt
sent_empties t s (entry.Took Up bytes n ∷ h) r = (λ free e. (tells t s h r.2 free).0 e, sent_empties t s h r.2)
sent_empties t s (entry.Took Client bytes n ∷ h) r = sent_empties t s h r.2
sent_empties t s (entry.Began p ms ∷ h) r = sent_empties t s h r.2
sent_empties t s (entry.Refused ∷ h) r = sent_empties t s h r.2
sent_empties t s (entry.Moment ms ∷ h) r = sent_empties t s h r.2
sent_empties t s (entry.Came end bytes ∷ h) r = sent_empties t s h r.2
sent_empties t s (entry.Dry end ∷ h) r = sent_empties t s h r.2
sent_empties t s (entry.Settled ∷ h) r = sent_empties t s h r.2
sent_empties t s (entry.Joined answer ∷ h) r = sent_empties t s h r.2
sent_empties t s (entry.Stuck end bytes ∷ h) r = sent_empties t s h r.2
sent_empties t s (entry.Lost end how ∷ h) r = sent_empties t s h r.2
sent_empties t s (entry.OutOfMemory cut ∷ h) r = sent_empties t s h r.2
sent_empties t s (entry.Over ∷ h) r = sent_empties t s h r.2

-- ---- shuts of the client's end

-- steps know whether the pair ran out of memory
abbrev SameMemory : SetupText → List Entry → Type 0
SameMemory s h = ran_out_in (steps_of s h) ≡ is_out_of_memory h

same_memory : (s : SetupText) (h : List Entry) → IsRelayed (pair_words s) h → SameMemory s h
same_memory s h r = memory_in s h (picks s h r)

overdue : (s : SetupText) (h : List Entry) (at : ℕ) → at + CLOSING_LIMIT ≤ moment_in (steps_of s h) → at + CLOSING_LIMIT ≤ moment_of h
overdue s h at e = subst (λ (n : ℕ). at + CLOSING_LIMIT ≤ n) (moment_is s h) e

is_overdue : (s : SetupText) (h : List Entry) (at : ℕ) → at + CLOSING_LIMIT ≤ moment_of h → at + CLOSING_LIMIT ≤ moment_in (steps_of s h)
is_overdue s h at e = subst (λ (n : ℕ). at + CLOSING_LIMIT ≤ n) (sym (moment_is s h)) e

shut_in : (s : SetupText) (h : List Entry) → IsRelayed (pair_words s) h → model.ShutFor (steps_of s h) → ShutAt s h
shut_in s h r (model.Failed e) = Failed (sym (agrees s h r).failed_is ∙ e)
shut_in s h r (model.Left e) = Left e
shut_in s h r (model.Answered e) = Answered e
shut_in s h r (model.Greeted e) = Greeted e
shut_in s h r (model.Closed e) = Closed e
shut_in s h r (model.ClosedBad e f) = ClosedBad e f
shut_in s h r (model.ClosedLast e f) = ClosedLast e (sym (same_memory s h r) ∙ f)
shut_in s h r (model.Unheard e f) = Unheard (sym (same_memory s h r) ∙ e) f
shut_in s h r (model.NotOpened l) =
    NotOpened l.unasked
    (subst (λ (n : ℕ). n + HANDSHAKE_LIMIT ≤ moment_of h) (agrees s h r).accepted_is
    (subst (λ (n : ℕ). accepted_in (steps_of s h) + HANDSHAKE_LIMIT ≤ n) (moment_is s h) l.late))
shut_in s h r (model.Overdue at e f) = Overdue at e (overdue s h at f)

is_late : (s : SetupText) (h : List Entry) → IsRelayed (pair_words s) h → (connection (steps_of s h)).asked ≡ false → accepted_of h + HANDSHAKE_LIMIT ≤ moment_of h
    → model.IsLate (steps_of s h)
is_late s h r e f = record {
  unasked = e;
  late = subst (λ (n : ℕ). n + HANDSHAKE_LIMIT ≤ moment_in (steps_of s h)) (sym (agrees s h r).accepted_is)
      (subst (λ (n : ℕ). accepted_of h + HANDSHAKE_LIMIT ≤ n) (sym (moment_is s h)) f);
}

shut_of : (s : SetupText) (h : List Entry) → IsRelayed (pair_words s) h → ShutAt s h → model.ShutFor (steps_of s h)
shut_of s h r (Failed e) = model.Failed ((agrees s h r).failed_is ∙ e)
shut_of s h r (Left e) = model.Left e
shut_of s h r (Answered e) = model.Answered e
shut_of s h r (Greeted e) = model.Greeted e
shut_of s h r (Closed e) = model.Closed e
shut_of s h r (ClosedBad e f) = model.ClosedBad e f
shut_of s h r (ClosedLast e f) = model.ClosedLast e (same_memory s h r ∙ f)
shut_of s h r (Unheard e f) = model.Unheard (same_memory s h r ∙ e) f
shut_of s h r (NotOpened e f) = model.NotOpened (is_late s h r e f)
shut_of s h r (Overdue at e f) = model.Overdue at e (is_overdue s h at f)

shuts : AreTimed → (s : SetupText) (h : List Entry) → IsRelayed (pair_words s) h → ((pair_words s).shut_due Client h ≡ true) ↔ ShutAt s h
unfolding pair_words
shuts t s h r = let x = t.shuts (steps_of s h) (picks s h r) in (λ e. shut_in s h r (x.0 e), λ c. x.1 (shut_of s h r c))

-- ---- shuts of the upstream end

shut_up_in : (s : SetupText) (h : List Entry) → IsRelayed (pair_words s) h → asked.ShutUpFor (steps_of s h) → ShutUpAt s h
shut_up_in s h r (asked.Failed e) = UpFailed (sym (agrees s h r).side_is ∙ e)
shut_up_in s h r (asked.Ended e) = UpEnded (sym (agrees s h r).side_is ∙ e)
shut_up_in s h r (asked.Overdue at e f) = UpOverdue at e (overdue s h at f)
shut_up_in s h r (asked.Closed e f) = UpClosed e f
shut_up_in s h r (asked.ClosedBad e f) = UpClosedBad e f
shut_up_in s h r (asked.ClosedLast e f) = UpClosedLast e (sym (same_memory s h r) ∙ f)
shut_up_in s h r (asked.Unopened e f) = UpUnopened e f

shut_up_of : (s : SetupText) (h : List Entry) → IsRelayed (pair_words s) h → ShutUpAt s h → asked.ShutUpFor (steps_of s h)
shut_up_of s h r (UpFailed e) = asked.Failed ((agrees s h r).side_is ∙ e)
shut_up_of s h r (UpEnded e) = asked.Ended ((agrees s h r).side_is ∙ e)
shut_up_of s h r (UpOverdue at e f) = asked.Overdue at e (is_overdue s h at f)
shut_up_of s h r (UpClosed e f) = asked.Closed e f
shut_up_of s h r (UpClosedBad e f) = asked.ClosedBad e f
shut_up_of s h r (UpClosedLast e f) = asked.ClosedLast e (same_memory s h r ∙ f)
shut_up_of s h r (UpUnopened e f) = asked.Unopened e f

shuts_up : AreTimed → (s : SetupText) (h : List Entry) → IsRelayed (pair_words s) h → ((pair_words s).shut_due Up h ≡ true) ↔ ShutUpAt s h
unfolding pair_words
shuts_up t s h r = let x = t.shuts_up (steps_of s h) (picks s h r) in (λ e. shut_up_in s h r (x.0 e), λ c. x.1 (shut_up_of s h r c))

-- ---- ends that were shut

pub due_at : AreTimed → (s : SetupText) (end : End) (h : List Entry) → IsRelayed (pair_words s) h → (pair_words s).shut_due end h ≡ true → ShutDueAt s end h
due_at t s Client h r e = (shuts t s h r).0 e
due_at t s Up h r e = (shuts_up t s h r).0 e

and_right : (a b : Bool) → (a && b) ≡ true → b ≡ true
and_right true b e = e
and_right false b e = absurd cc

shut_since : AreTimed → (s : SetupText) (end : End) (h : List Entry) → IsRelayed (pair_words s) h → relayed.ShutFor (pair_words s) end h → ShutSince s end h
shut_since t s _ _ r (relayed.WhereDue end h e) = IsDue (due_at t s end h r (and_right (is_open_side (side_of end (sides h))) _ e))
shut_since t s _ _ r (relayed.AtTheEnd end h e) = AtTheEnd e
shut_since t s _ _ r (relayed.AtRefusal h) = AtRefusal h refl refl

was_shut : AreTimed → (s : SetupText) (h : List Entry) → IsRelayed (pair_words s) h → ShutsForCause s h
was_shut t s [] r = tt
was_shut t s (entry.Lost end loss.Shut ∷ h) r = (shut_since t s end h r.2 r.0, was_shut t s h r.2)
was_shut t s (entry.Lost end loss.Ended ∷ h) r = was_shut t s h r.2
was_shut t s (entry.Lost end loss.Failed ∷ h) r = was_shut t s h r.2
was_shut t s (entry.Took end bytes n ∷ h) r = was_shut t s h r.2
was_shut t s (entry.Began p ms ∷ h) r = was_shut t s h r.2
was_shut t s (entry.Refused ∷ h) r = was_shut t s h r.2
was_shut t s (entry.Moment ms ∷ h) r = was_shut t s h r.2
was_shut t s (entry.Came end bytes ∷ h) r = was_shut t s h r.2
was_shut t s (entry.Dry end ∷ h) r = was_shut t s h r.2
was_shut t s (entry.Settled ∷ h) r = was_shut t s h r.2
was_shut t s (entry.Joined answer ∷ h) r = was_shut t s h r.2
was_shut t s (entry.Stuck end bytes ∷ h) r = was_shut t s h r.2
was_shut t s (entry.OutOfMemory cut ∷ h) r = was_shut t s h r.2
was_shut t s (entry.Over ∷ h) r = was_shut t s h r.2

pub keeps_times : AreTimed → (s : SetupText) (h : List Entry) → IsRelayed (pair_words s) h → KeepsTimes s h
keeps_times t s h r = record {
  beats = beats t s h r;
  tells = tells t s h r;
  shuts = shuts t s h r;
  shuts_up = shuts_up t s h r;
  late = λ e f. t.late (steps_of s h) (picks s h r) (is_late s h r e f);
  sent_beats = sent_beats t s h r;
  sent_empties = sent_empties t s h r;
  was_shut = was_shut t s h r;
}
