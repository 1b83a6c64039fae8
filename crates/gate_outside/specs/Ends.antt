-- The open ends of pairs, what an answer does to them, and what a read or a write may answer.
use Rattle.std.specs.Prelude.{◌≡◌, ℕ, ◌+◌, ◌≤◌, ◌==◌, Bool, true, false, not, ◌&&◌, ◌||◌, List, []}
use Rattle.std.specs.Prelude.{◌∷◌, ◌++◌, length, take, drop, filter}
use Rattle.gate_outside.specs.declared.ports.End.{End}
use Rattle.gate_outside.specs.declared.ports.End.TheVariants.{Client, Up}
use Rattle.gate_outside.specs.declared.ports.Accepted.{Accepted}
use Rattle.gate_outside.specs.declared.ports.Accepted.TheVariants as accepted
use Rattle.gate_outside.specs.declared.ports.Linked.{Linked}
use Rattle.gate_outside.specs.declared.ports.Linked.TheVariants as linked
use Rattle.gate_outside.specs.declared.ports.Got.{Got}
use Rattle.gate_outside.specs.declared.ports.Got.TheVariants as got
use Rattle.gate_outside.specs.declared.ports.Put.{Put}
use Rattle.gate_outside.specs.declared.ports.Put.TheVariants as put

abbrev pub same_end : End → End → Bool
same_end Client Client = true
same_end Client Up = false
same_end Up Client = false
same_end Up Up = true

-- an end of a pair
abbrev pub is_end : ℕ → End → ℕ × End → Bool
is_end pair end x = (x.0 == pair) && same_end x.1 end

abbrev pub is_open : ℕ → End → List (ℕ × End) → Bool
is_open pair end [] = false
is_open pair end (x ∷ xs) = is_end pair end x || is_open pair end xs

-- the open ends without one
abbrev pub closed : ℕ → End → List (ℕ × End) → List (ℕ × End)
closed pair end ends = filter (λ x. not (is_end pair end x)) ends

-- pairs are numbered 0, 1, 2 in order
abbrev pub IsNumbered : Accepted → ℕ → Type 0
IsNumbered (accepted.Pair p) pairs = p ≡ pairs
IsNumbered accepted.NotYet pairs = Unit {0}
IsNumbered accepted.Failed pairs = Unit {0}

abbrev pub pairs_after : Accepted → ℕ → ℕ
pairs_after (accepted.Pair p) pairs = pairs + 1
pairs_after accepted.NotYet pairs = pairs
pairs_after accepted.Failed pairs = pairs

abbrev pub ends_accepted : Accepted → List (ℕ × End) → List (ℕ × End)
ends_accepted (accepted.Pair p) ends = ends ++ (p, Client) ∷ []
ends_accepted accepted.NotYet ends = ends
ends_accepted accepted.Failed ends = ends

abbrev pub ends_linked : Linked → ℕ → List (ℕ × End) → List (ℕ × End)
ends_linked linked.Ok pair ends = ends ++ (pair, Up) ∷ []
ends_linked linked.Failed pair ends = ends

-- the first n bytes of the buffer came, and the rest of it stays; another answer leaves it as it
-- was
abbrev pub ReadsInto : Got → List ℕ → List ℕ → Type 0
ReadsInto (got.Bytes n) old new = (1 ≤ n) × (n ≤ length old) × (drop n new ≡ drop n old)
ReadsInto got.NotYet old new = new ≡ old
ReadsInto got.Ended old new = new ≡ old
ReadsInto got.Failed old new = new ≡ old

-- the bytes that came
abbrev pub got_bytes : Got → List ℕ → List ℕ
got_bytes (got.Bytes n) buffer = take n buffer
got_bytes got.NotYet buffer = []
got_bytes got.Ended buffer = []
got_bytes got.Failed buffer = []

-- a write takes at least one byte and no more than it was offered
abbrev pub TakesSome : Put → ℕ → Type 0
TakesSome (put.Took n) offered = (1 ≤ n) × (n ≤ offered)
TakesSome put.NotYet offered = Unit {0}
TakesSome put.Failed offered = Unit {0}
