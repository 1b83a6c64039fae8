-- Idle is called where nothing can be done until something comes from outside.
use Rattle.std.specs.Prelude.{◌≡◌, ◌⊎◌, ℕ, Bool, true, false, not, ◌||◌, List, [], ◌∷◌, Some}
use Rattle.gate_outside.specs.declared.ports.End.{End}
use Rattle.gate_outside.specs.declared.ports.End.TheVariants.{Client, Up}
use Rattle.gate_outside.specs.declared.ports.Accepted.TheVariants as accepted
use Rattle.gate_outside.specs.declared.ports.Linked.TheVariants as linked
use Rattle.gate_outside.specs.declared.log.LogEntry.TheVariants.{Accept, Idle, Now}
use Rattle.gate_relay.specs.Entries.{Entry, Moment, Dry, Settled, Joined, Stuck, is_out_of_memory}
use Rattle.gate_relay.specs.Guards.{reads, takes_up, connects, offers, shuts}
use Rattle.gate_relay.specs.Relayed.{IsRelayed}
use Rattle.gate_relay.specs.RelayWords.{RelayWords}
use Rattle.gate_runs.specs.declared.limits.Limits.{Limits}
use Rattle.gate_runs.specs.Marks.{History, Call}
use Rattle.gate_runs.specs.Journal.{journal}
use Rattle.gate_runs.specs.Next.{may_accept, has_moved}
use Rattle.gate_turn_laws.specs.Pairs.{is_live}

-- ---- what is wanted of the words

-- a read that gave nothing and a write that took nothing change no word; after a take-up nothing
-- more can be taken up, where the pair didn't run out of memory
pub record IsSteady (w : RelayWords) : Type 0 where
  pub dry_awaits : (end dry : End) (h : List Entry) → w.awaits end (Dry dry ∷ h) ≡ w.awaits end h
  pub awaits : (end stuck : End) (bytes : List ℕ) (h : List Entry)
      → w.awaits end (Stuck stuck bytes ∷ h) ≡ w.awaits end h
  pub takes : (stuck : End) (bytes : List ℕ) (h : List Entry)
      → w.takes_up (Stuck stuck bytes ∷ h) ≡ w.takes_up h
  pub connects : (stuck : End) (bytes : List ℕ) (h : List Entry)
      → w.connects (Stuck stuck bytes ∷ h) ≡ w.connects h
  pub offer : (end stuck : End) (bytes : List ℕ) (h : List Entry)
      → w.offer end (Stuck stuck bytes ∷ h) ≡ w.offer end h
  pub settled : (h : List Entry) → is_out_of_memory h ≡ false → w.takes_up (Settled ∷ h) ≡ false

-- by a take-up the upstream end doesn't come to be awaited, in entries that a loop may make; and by
-- a connect that opens an end at most that one, and nothing more can be taken up
pub record WakesNone (w : RelayWords) : Type 0 where
  pub settled : (h : List Entry) → IsRelayed w h → w.awaits Up (Settled ∷ h) ≡ true
      → w.awaits Up h ≡ true
  pub client : (h : List Entry) → w.awaits Client (Joined linked.Ok ∷ h) ≡ true
      → w.awaits Client h ≡ true
  pub takes : (h : List Entry) → w.takes_up (Joined linked.Ok ∷ h) ≡ true → w.takes_up h ≡ true

-- ---- a quiet pair

-- e is an entry of this turn
abbrev pub InTurn : Entry → List Entry → Type 0
InTurn e [] = ⊥
InTurn e (Moment ms ∷ h) = ⊥
InTurn e (x ∷ h) = (x ≡ e) ⊎ InTurn e h

-- in this turn a test that failed came to hold, by a take-up or by the connect: both come behind
-- the reads, and are no motion
abbrev pub Wakes : (List Entry → Bool) → List Entry → Type 0
Wakes t [] = ⊥
Wakes t (Moment ms ∷ h) = ⊥
Wakes t (Settled ∷ h) = ((t h ≡ false) × (t (Settled ∷ h) ≡ true)) ⊎ Wakes t h
Wakes t (Joined answer ∷ h) = ((t h ≡ false) × (t (Joined answer ∷ h) ≡ true)) ⊎ Wakes t h
Wakes t (x ∷ h) = Wakes t h

-- in this turn each end that is to be read was read dry, unless it came to be awaited behind its
-- read; nothing can be taken up, unless that came with the connect; no connection is to be asked
-- for; all that is offered was stuck; and no end is to be shut
pub record IsQuiet (w : RelayWords) (h : List Entry) : Type 0 where
  pub dry : (end : End) → reads w end h ≡ true → InTurn (Dry end) h ⊎ Wakes (reads w end) h
  pub taken : takes_up w h ≡ true → Wakes (takes_up w) h
  pub linked : connects w h ≡ false
  pub stuck : (end : End) (bytes : List ℕ) → offers w end h ≡ Some bytes
      → InTurn (Stuck end bytes) h
  pub stays : (end : End) → shuts w end h ≡ false

-- the same of words that don't wake: an end that was opened in this turn, upstream, is an
-- exception, and so is the client's where something of it was taken up in this turn; where the
-- connect failed in it, the client's end and what of it waited
pub record IsSilent (w : RelayWords) (h : List Entry) : Type 0 where
  pub client : reads w Client h ≡ true
      → InTurn (Dry Client) h ⊎ (InTurn Settled h ⊎ InTurn (Joined linked.Failed) h)
  pub up : reads w Up h ≡ true → InTurn (Dry Up) h ⊎ InTurn (Joined linked.Ok) h
  pub taken : takes_up w h ≡ true → InTurn (Joined linked.Failed) h

-- ---- idle

-- in this turn accept answered that no client waits
abbrev pub is_none_waiting : History → Bool
is_none_waiting [] = false
is_none_waiting (Call (Now ms) ∷ m) = false
is_none_waiting (Call (Accept accepted.NotYet) ∷ m) = true
is_none_waiting (x ∷ m) = is_none_waiting m

-- each pair that lives is quiet, no further pair can come, and nothing moved in this turn
pub record IsAtRest (w : RelayWords) (c : Limits) (m : History) : Type 0 where
  pub pairs : (p : ℕ) → is_live p m ≡ true → IsQuiet w (journal p m)
  pub clients : (is_none_waiting m || not (may_accept c m)) ≡ true
  pub still : has_moved m ≡ false

-- at each idle all is at rest
abbrev pub IdlesAtRest : RelayWords → Limits → History → Type 0
IdlesAtRest w c [] = Unit {0}
IdlesAtRest w c (Call (Idle answer) ∷ m) = IsAtRest w c m × IdlesAtRest w c m
IdlesAtRest w c (x ∷ m) = IdlesAtRest w c m

-- at each idle each pair that lives is silent
abbrev pub IdlesInSilence : RelayWords → History → Type 0
IdlesInSilence w [] = Unit {0}
IdlesInSilence w (Call (Idle answer) ∷ m) =
    ((p : ℕ) → is_live p m ≡ true → IsSilent w (journal p m)) × IdlesInSilence w m
IdlesInSilence w (x ∷ m) = IdlesInSilence w m
