-- The places of the first units of the channels once the one at a place went.
use Rattle.std.proofs.Common.{◌≡◌, ◌∙◌, ℕ, zero, suc, ◌+◌, ◌^◌, ◌<◌, ◌≤◌, Bool, true, false, List, [], ◌∷◌, Some}
use Rattle.std.proofs.Common.{refl, sym, ap, subst, arith, count_by, drop, length, length-drop, map, not, if◌then◌else◌}
use Rattle.std.proofs.lemmas.Bool.{eq-eqb, eqb-false, eqb-true}
use Rattle.std.proofs.lemmas.List.{length-map}
use Rattle.std.proofs.lemmas.List.Sums.{prefix_len-le-length}
use Rattle.std.specs.List.{position_or_len}
use Rattle.std.specs.Prelude.{◌==◌, slice_get, slice_index_or, slice_set}
use Rattle.machine_091.specs.declared.unit.Unit91.{Unit91}
use Rattle.gate_model.specs.Queue.{removed}
use Rattle.bridge_core.specs.Held.{AreFirst, firsts_after, gone_after, is_counted_at, moved_up, place_of}
use Rattle.bridge_core.proofs.FirstPlaces.{first_next, first_of_none, no_later}
use Rattle.bridge_core.proofs.KeptFirsts.{behind_other, behind_own, front_other, length_less}
use Rattle.bridge_core.proofs.KeptRemovals.{AreOthers, own_set, own_stays}

abbrev pos : ℕ → List Unit91 → ℕ
pos n us = position_or_len (is_counted_at n) us

bound_after : (us : List Unit91) (u : Unit91) (gone i : ℕ) → slice_get us i ≡ Some u → gone + length us < 2 ^ 64
    → gone_after i gone + length (removed i us) < 2 ^ 64
bound_after us u gone i e bound = by (i == 0)
  where
    by : (b : Bool) → (if b then gone + 1 else gone) + length (removed i us) < 2 ^ 64
    by true = omega (arith, bound, length_less i us u e)
    by false = omega (arith, bound, length_less i us u e)

long_after : (gone i : ℕ) (firsts : List ℕ) → length firsts ≡ 257 → length (firsts_after i gone firsts) ≡ 257
long_after gone i firsts long = by (i == 0)
  where
    by : (b : Bool) → length (if b then firsts else map (moved_up (gone + i)) firsts) ≡ 257
    by true = long
    by false = length-map firsts (moved_up (gone + i)) ∙ long

others_after : (us : List Unit91) (u : Unit91) (gone i : ℕ) (firsts : List ℕ) (k : ℕ) → slice_get us i ≡ Some u → k ≡ place_of u → length firsts ≡ 257
    → AreFirst us gone firsts → AreOthers (removed i us) (gone_after i gone) (firsts_after i gone firsts) k
others_after us u gone i firsts k e at long known n lt other some = by (i == 0) refl
  where
    by : (b : Bool) → (i == 0) ≡ b
        → slice_index_or (if b then firsts else map (moved_up (gone + i)) firsts) n 0 ≡ (if b then gone + 1 else gone) + pos n (removed i us)
    by true is =
        let front : i ≡ 0 = eqb-true i 0 is in
        front_other us u gone firsts k n (ap (slice_get us) (sym front) ∙ e) at known lt other (subst (λ (j : ℕ). pos n (removed j us) < length (removed j us)) front some)
        ∙ ap (λ (j : ℕ). (gone + 1) + pos n (removed j us)) (sym front)
    by false is = behind_other us u gone firsts k n i e at long known lt other some

-- where the first of its channel stood
own_first : (us : List Unit91) (u : Unit91) (gone i : ℕ) (firsts : List ℕ) (k : ℕ) → slice_get us i ≡ Some u → k ≡ place_of u → k < 257
    → AreFirst us gone firsts → (slice_index_or firsts k 0 ≡ gone + pos k us) × (pos k us ≤ i)
own_first us u gone i firsts k e at lt known = (known.1 k lt (omega (arith, le, length_less i us u e, inside i us u e)), le)
  where
    le : pos k us ≤ i
    le = no_later (is_counted_at k) i us u e (eq-eqb (place_of u) k (sym at))

    inside : (i : ℕ) (us : List Unit91) (u : Unit91) → slice_get us i ≡ Some u → i < length us
    inside i [] u e = absurd cc
    inside zero (v ∷ us) u e = omega arith
    inside (suc i) (v ∷ us) u e = omega (arith, inside i us u e)

own_after : (us : List Unit91) (u : Unit91) (gone i : ℕ) (firsts : List ℕ) (k : ℕ) → slice_get us i ≡ Some u → k ≡ place_of u → length firsts ≡ 257 → k < 257
    → AreFirst us gone firsts → (slice_index_or firsts k 0 ≡ gone + i → ⊥)
    → slice_index_or (firsts_after i gone firsts) k 0 ≡ gone_after i gone + pos k (removed i us)
own_after us u gone i firsts k e at long lt known other = by (i == 0) refl
  where
    by : (b : Bool) → (i == 0) ≡ b
        → slice_index_or (if b then firsts else map (moved_up (gone + i)) firsts) k 0 ≡ (if b then gone + 1 else gone) + pos k (removed i us)
    by true is =
        let first = own_first us u gone i firsts k e at lt known in
        absurd (other (omega (arith, first.0, first.1, eqb-true i 0 is)))
    by false is = behind_own us u gone firsts k i e at long known lt other

same_first : (vs us : List Unit91) (g h : ℕ) (fs gs : List ℕ) → vs ≡ us → g ≡ h → fs ≡ gs → AreFirst us h gs → AreFirst vs g fs
same_first vs us g h fs gs units gone firsts known =
    subst (λ (xs : List Unit91). AreFirst xs g fs) (sym units)
    (subst (λ (j : ℕ). AreFirst us j fs) (sym gone) (subst (AreFirst us h) (sym firsts) known))

-- it was the first of its channel, and more of that are there: the next is looked for
pub went_first : (us vs : List Unit91) (u : Unit91) (gone g i : ℕ) (firsts fs : List ℕ) (k next : ℕ) → slice_get us i ≡ Some u → k ≡ place_of u → length firsts ≡ 257
    → k < 257 → vs ≡ removed i us → g ≡ gone_after i gone → fs ≡ firsts_after i gone firsts → AreFirst us gone firsts
    → slice_index_or firsts k 0 ≡ gone + i → next ≡ i + position_or_len (is_counted_at k) (drop i vs) → AreFirst vs g (slice_set fs k (g + next))
went_first us vs u gone g i firsts fs k next e at long lt units gone_is firsts_is known was is =
    same_first vs (removed i us) g (gone_after i gone) (slice_set fs k (g + next)) (slice_set (firsts_after i gone firsts) k (gone_after i gone + next)) units gone_is
    (ap (λ (xs : List ℕ). slice_set xs k (g + next)) firsts_is ∙ ap (λ (j : ℕ). slice_set (firsts_after i gone firsts) k (j + next)) gone_is)
    (own_set (removed i us) (gone_after i gone) (firsts_after i gone firsts) k (gone_after i gone + next) (long_after gone i firsts long)
    (bound_after us u gone i e known.0) (others_after us u gone i firsts k e at long known)
    (ap (λ (j : ℕ). gone_after i gone + j) (is ∙ ap (λ (xs : List Unit91). i + pos k (drop i xs)) units ∙ sym (first_next (is_counted_at k) i us stood))))
  where
    stood : pos k us ≡ i
    stood = omega (arith, (own_first us u gone i firsts k e at lt known).0, was)

-- it wasn't, or was the last
pub went_other : (us vs : List Unit91) (u : Unit91) (gone g i : ℕ) (firsts fs : List ℕ) (k : ℕ) → slice_get us i ≡ Some u → k ≡ place_of u → length firsts ≡ 257
    → k < 257 → vs ≡ removed i us → g ≡ gone_after i gone → fs ≡ firsts_after i gone firsts → AreFirst us gone firsts
    → (slice_index_or firsts k 0 ≡ gone + i → count_by (is_counted_at k) vs ≡ 0) → AreFirst vs g fs
went_other us vs u gone g i firsts fs k e at long lt units gone_is firsts_is known last =
    same_first vs (removed i us) g (gone_after i gone) fs (firsts_after i gone firsts) units gone_is firsts_is
    (own_stays (removed i us) (gone_after i gone) (firsts_after i gone firsts) k
    (bound_after us u gone i e known.0) (others_after us u gone i firsts k e at long known)
    (λ some. by (slice_index_or firsts k 0 == gone + i) refl some))
  where
    by : (b : Bool) → (slice_index_or firsts k 0 == gone + i) ≡ b → pos k (removed i us) < length (removed i us)
        → slice_index_or (firsts_after i gone firsts) k 0 ≡ gone_after i gone + pos k (removed i us)
    by true was some =
        let none : count_by (is_counted_at k) (removed i us) ≡ 0 =
        ap (count_by (is_counted_at k)) (sym units) ∙ last (eqb-true (slice_index_or firsts k 0) (gone + i) was) in
        absurd (omega (arith, some, first_of_none (is_counted_at k) (removed i us) none))
    by false was some = own_after us u gone i firsts k e at long lt known (eqb-false (slice_index_or firsts k 0) (gone + i) was)

-- the place of the next can be told
pub next_fits : (us vs : List Unit91) (u : Unit91) (gone g i : ℕ) (firsts : List ℕ) (k next : ℕ) → slice_get us i ≡ Some u → vs ≡ removed i us
    → g ≡ gone_after i gone → AreFirst us gone firsts → i ≤ length vs → next ≡ i + position_or_len (is_counted_at k) (drop i vs) → g + next < 2 ^ 64
next_fits us vs u gone g i firsts k next e units gone_is known within is =
    omega (
      arith,
      is,
      gone_is,
      ap length units,
      bound_after us u gone i e known.0,
      within,
      prefix_len-le-length (λ x. not (is_counted_at k x)) (drop i vs),
      length-drop i vs,
    )
