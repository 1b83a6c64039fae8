-- The paths of channels by their numbers, where one is changed, or all are.
use Rattle.std.proofs.Common.{◌≡◌, ℕ, zero, suc, ◌==◌, ◌<◌, false, List, [], ◌∷◌, length, map}
use Rattle.std.proofs.Common.{replicate, Option, None, Some, option_map, refl, ap, arith}
use Rattle.std.proofs.lemmas.Bool.Decides.{nat_tests}
use Rattle.std.specs.Prelude.{slice_get, slice_set}
use Rattle.session_path.specs.Path.{PathState}
use Rattle.gate_model.specs.Paths.{no_paths, or_none, set_path, slot_at, with_path}

pub set_long : (ps : List (Option PathState)) (n : ℕ) (o : Option PathState) → length (slice_set ps n o) ≡ length ps
set_long [] n o = refl
set_long (x ∷ ps) zero o = refl
set_long (x ∷ ps) (suc n) o = ap suc (set_long ps n o)

pub set_elsewhere : (ps : List (Option PathState)) (k n : ℕ) (o : Option PathState) → (k == n) ≡ false → slot_at (slice_set ps k o) n ≡ slot_at ps n
set_elsewhere [] k n o d = refl
set_elsewhere (x ∷ ps) zero zero o d = absurd cc
set_elsewhere (x ∷ ps) zero (suc n) o d = refl
set_elsewhere (x ∷ ps) (suc k) zero o d = refl
set_elsewhere (x ∷ ps) (suc k) (suc n) o d = set_elsewhere ps k n o (let less : (k == n) ≡ false = grind (arith, nat_tests, d) in less)

pub set_here : (ps : List (Option PathState)) (n : ℕ) (s : PathState) → n < length ps → slot_at (set_path n s ps) n ≡ Some s
set_here [] n s e = absurd (omega (arith, e))
set_here (x ∷ ps) zero s e = refl
set_here (x ∷ ps) (suc n) s e = set_here ps n s (omega (arith, e))

pub with_here : (ps : List (Option PathState)) (n : ℕ) (f : PathState → PathState) → slot_at (with_path n f ps) n ≡ option_map f (slot_at ps n)
with_here [] n f = refl
with_here (x ∷ ps) zero f = refl
with_here (x ∷ ps) (suc n) f = with_here ps n f

pub map_slot : (ps : List (Option PathState)) (n : ℕ) (f : PathState → PathState) → slot_at (map (option_map f) ps) n ≡ option_map f (slot_at ps n)
map_slot [] n f = refl
map_slot (x ∷ ps) zero f = refl
map_slot (x ∷ ps) (suc n) f = map_slot ps n f

pub map_long : (ps : List (Option PathState)) (f : PathState → PathState) → length (map (option_map f) ps) ≡ length ps
map_long [] f = refl
map_long (x ∷ ps) f = ap suc (map_long ps f)

no_slot : (k n : ℕ) → or_none (slice_get (replicate k None) n) ≡ None
no_slot zero n = refl
no_slot (suc k) zero = refl
no_slot (suc k) (suc n) = no_slot k n

pub none_there : (n : ℕ) → slot_at no_paths n ≡ None
unfolding no_paths
none_there n = no_slot 256 n

pub none_long : length no_paths ≡ 256
unfolding no_paths
none_long = refl

-- one that is there has a place
pub below : (ps : List (Option PathState)) (n : ℕ) (s : PathState) → slot_at ps n ≡ Some s → n < length ps
below [] n s e = absurd cc
below (x ∷ ps) zero s e = omega arith
below (x ∷ ps) (suc n) s e = let less : n < length ps = below ps n s e in omega (arith, less)
