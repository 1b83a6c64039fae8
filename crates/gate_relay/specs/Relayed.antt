-- The entries that a loop may make of a pair: each is one that those before it ask for.
use Rattle.std.specs.Prelude.{◌≡◌, ℕ, ◌≤◌, ◌⊎◌, Bool, true, false, List, [], ◌∷◌, length, Some}
use Rattle.std.specs.Prelude.{is_some}
use Rattle.gate_outside.specs.declared.ports.End.{End}
use Rattle.gate_outside.specs.declared.ports.End.TheVariants.{Client}
use Rattle.gate_relay.specs.declared.loss.Loss.TheVariants as loss
use Rattle.gate_relay.specs.Entries.{Entry, Began, Refused, Moment, Came, Dry, Settled, Joined}
use Rattle.gate_relay.specs.Entries.{Took, Stuck, Lost, OutOfMemory, Over, is_out_of_memory}
use Rattle.gate_relay.specs.Entries.{is_over, moment_of}
use Rattle.gate_relay.specs.Guards.{reads, takes_up, connects, offers, shuts}
use Rattle.gate_relay.specs.RelayWords.{RelayWords}

-- a read has room for 65,536 bytes
unfoldable pub read_room : ℕ
read_room = 65536

-- the pair was just accepted
abbrev pub is_new : List Entry → Bool
is_new (Began p ms ∷ []) = true
is_new h = false

-- where a pair runs out of memory: in a read, where what came is taken up, or where a write of what
-- takes memory comes next
pub data RunsOut (w : RelayWords) : ℕ → List Entry → Type 0 where
  AtRead : (cut : ℕ) (end : End) (bytes : List ℕ) (h : List Entry)
      → RunsOut w cut (Came end bytes ∷ h)
  AtTakeUp : (cut : ℕ) (h : List Entry) → RunsOut w cut (Settled ∷ h)
  AtWrite : (end : End) (h : List Entry) → is_some (offers w end h)
      ≡ true → w.takes_memory end h ≡ true → RunsOut w 0 h

-- why an end is shut: its word says so, the service ended, or there was no memory at the accept
pub data ShutFor (w : RelayWords) : End → List Entry → Type 0 where
  WhereDue : (end : End) (h : List Entry) → shuts w end h ≡ true → ShutFor w end h
  AtTheEnd : (end : End) (h : List Entry) → is_over h ≡ true → ShutFor w end h
  AtRefusal : (h : List Entry) → ShutFor w Client (Refused ∷ h)

-- what an entry wants of those before it
abbrev pub MayCome : RelayWords → List Entry → Entry → Type 0
MayCome w h (Began p ms) = h ≡ []
MayCome w h Refused = is_new h ≡ true
MayCome w h (Moment ms) = moment_of h ≤ ms
MayCome w h (Came end bytes) =
    (reads w end h ≡ true) × (1 ≤ length bytes) × (length bytes ≤ read_room)
MayCome w h (Dry end) = reads w end h ≡ true
MayCome w h Settled = takes_up w h ≡ true
MayCome w h (Joined answer) = connects w h ≡ true
MayCome w h (Took end bytes n) = (offers w end h ≡ Some bytes) × (1 ≤ n) × (n ≤ length bytes)
MayCome w h (Stuck end bytes) = offers w end h ≡ Some bytes
MayCome w h (Lost end loss.Ended) = reads w end h ≡ true
MayCome w h (Lost end loss.Failed) = (reads w end h ≡ true) ⊎ (is_some (offers w end h) ≡ true)
MayCome w h (Lost end loss.Shut) = ShutFor w end h
MayCome w h (OutOfMemory cut) = (is_out_of_memory h ≡ false) × RunsOut w cut h
MayCome w h Over = is_over h ≡ false

-- after the end of the service ends are shut and nothing else is done
abbrev pub MayComeAfter : Bool → Entry → Type 0
MayComeAfter false e = Unit {0}
MayComeAfter true (Lost end loss.Shut) = Unit {0}
MayComeAfter true e = ⊥

abbrev pub IsRelayed : RelayWords → List Entry → Type 0
IsRelayed w [] = Unit {0}
IsRelayed w (e ∷ h) = MayCome w h e × MayComeAfter (is_over h) e × IsRelayed w h
