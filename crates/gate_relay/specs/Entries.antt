-- The entries of one pair, in bytes: what the loop did with it and what came of that. All lists are
-- newest first.
use Rattle.std.specs.Prelude.{ℕ, Bool, true, false, List, [], ◌∷◌}
use Rattle.gate_outside.specs.declared.ports.End.{End}
use Rattle.gate_outside.specs.declared.ports.Linked.{Linked}
use Rattle.gate_relay.specs.declared.loss.Loss.{Loss}

pub data Entry : Type 0 where
  -- the pair with this number was accepted at this moment
  Began : ℕ → ℕ → Entry
  -- there was no memory for the pair at its accept
  Refused : Entry
  -- a moment was given
  Moment : ℕ → Entry
  -- a read gave these bytes
  Came : End → List ℕ → Entry
  -- a read gave nothing yet
  Dry : End → Entry
  -- what came was taken up, as far as it could be
  Settled : Entry
  -- the connection upstream was asked for
  Joined : Linked → Entry
  -- of these bytes so many were taken
  Took : End → List ℕ → ℕ → Entry
  -- of these bytes none were taken yet
  Stuck : End → List ℕ → Entry
  -- an end ended or failed, or was shut
  Lost : End → Loss → Entry
  -- the pair ran out of memory; of what the entry before brought, the newest so many steps don't
  -- count
  OutOfMemory : ℕ → Entry
  -- the service ended
  Over : Entry

-- the pair ran out of memory, at its accept or later
abbrev pub is_out_of_memory : List Entry → Bool
is_out_of_memory [] = false
is_out_of_memory (Refused ∷ h) = true
is_out_of_memory (OutOfMemory cut ∷ h) = true
is_out_of_memory (x ∷ h) = is_out_of_memory h

-- the service ended
abbrev pub is_over : List Entry → Bool
is_over [] = false
is_over (Over ∷ h) = true
is_over (x ∷ h) = is_over h

-- the last moment, that of the accept before the first
abbrev pub moment_of : List Entry → ℕ
moment_of [] = 0
moment_of (Began p ms ∷ h) = ms
moment_of (Moment ms ∷ h) = ms
moment_of (x ∷ h) = moment_of h

abbrev pub is_empty : {A : Type 0} → List A → Bool
is_empty [] = true
is_empty (x ∷ xs) = false
