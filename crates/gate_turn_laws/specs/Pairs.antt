-- The pairs of a run: those that live, in their order, and those whose ends were shut.
use Rattle.std.specs.Prelude.{◌≡◌, ℕ, ◌<◌, ◌≤◌, ◌==◌, Bool, true, false, ◌||◌, List, [], ◌∷◌}
use Rattle.gate_relay.specs.declared.sides.Side.TheVariants as side
use Rattle.gate_relay.specs.Sides.{sides, is_open_side, has_end}
use Rattle.gate_runs.specs.Marks.{History}
use Rattle.gate_runs.specs.Journal.{journal}
use Rattle.gate_runs.specs.Next.{live_pairs, accepted_count}

-- p is one of these pairs
abbrev pub is_among : ℕ → List ℕ → Bool
is_among p [] = false
is_among p (q ∷ qs) = (q == p) || is_among p qs

-- p was accepted, and an end of it is open
abbrev pub is_live : ℕ → History → Bool
is_live p m = is_among p (live_pairs m)

-- each number is below all those after it
abbrev pub IsRising : List ℕ → Type 0
IsRising [] = Unit {0}
IsRising (p ∷ ps) = ((q : ℕ) → is_among q ps ≡ true → p < q) × IsRising ps

-- the live pairs stand in the order of their accepts, and are accepted pairs
pub record AreOrdered (m : History) : Type 0 where
  pub rising : IsRising (live_pairs m)
  pub below : (p : ℕ) → is_live p m ≡ true → p < accepted_count m

-- a pair lives, with an open end; or it wasn't accepted yet; or its client's end was shut, and
-- upstream no end is open
pub data LivesOrShut (p : ℕ) (m : History) : Type 0 where
  Lives : is_live p m ≡ true → has_end (sides (journal p m)) ≡ true → LivesOrShut p m
  NotCome : accepted_count m ≤ p → journal p m ≡ [] → LivesOrShut p m
  IsShut : is_live p m ≡ false → (sides (journal p m)).client ≡ side.Gone
      → is_open_side (sides (journal p m)).up ≡ false → LivesOrShut p m
