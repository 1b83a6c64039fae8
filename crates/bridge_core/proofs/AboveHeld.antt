-- Whether the units of channels above those of a client can't be taken up, with one unit more or less.
use Rattle.std.proofs.Common.{◌≡◌, ◌∙◌, ℕ, zero, suc, ◌+◌, ◌<◌, ◌⊎◌, inl, inr, Bool, true, false, List, [], ◌∷◌, ◌++◌, Some}
use Rattle.std.proofs.Common.{refl, sym, ap, arith, length, take}
use Rattle.std.proofs.lemmas.Bool.{eqb-true}
use Rattle.std.specs.List.{list_any}
use Rattle.std.specs.Prelude.{◌||◌, slice_get}
use Rattle.machine_091.specs.declared.unit.Unit91.{Unit91}
use Rattle.gate_model.specs.Queue.{Waits, can_take, channel_of, removed, waits_for_all}
use Rattle.bridge_core.specs.Held.{AreAboveHeld, FrontWaits, IsBehindOwn, NoneOn, is_on, place_of}
use Rattle.bridge_core.proofs.Least.{inside}
use Rattle.bridge_core.proofs.Search.{all_behind, held_behind}

-- ---- none of them can be taken up behind the front

pub in_front : (us : List Unit91) (m j : ℕ) (u : Unit91) → slice_get us j ≡ Some u → j < m → slice_get (take m us) j ≡ Some u
in_front [] m j u e lt = absurd cc
in_front (v ∷ us) zero j u e lt = absurd (omega (arith, lt))
in_front (v ∷ us) (suc m) zero u e lt = e
in_front (v ∷ us) (suc m) (suc j) u e lt = in_front us m j u e (omega (arith, lt))

of_front : (us : List Unit91) (m j : ℕ) (u : Unit91) → slice_get (take m us) j ≡ Some u → slice_get us j ≡ Some u
of_front us zero j u e = absurd cc
of_front [] (suc m) j u e = absurd cc
of_front (v ∷ us) (suc m) zero u e = e
of_front (v ∷ us) (suc m) (suc j) u e = of_front us m j u e

pub none_on_above : (q : Waits) (us : List Unit91) (m : ℕ) → FrontWaits q us → AreAboveHeld (take m us) → NoneOn q us 256 m
none_on_above q us m front held j u e lt at = by (held j u (in_front us m j u e lt) at)
  where
    by : (waits_for_all u ≡ true) ⊎ IsBehindOwn (take m us) j u → can_take q (take j us) u ≡ false
    by (inl all) = all_behind q us j u e front all
    by (inr own) = held_behind q us own.0 j own.1 u (of_front us m own.0 own.1 own.3) e own.4 own.2

-- ---- one more

-- a unit of a channel
abbrev HasOn : List Unit91 → ℕ → Type 0
HasOn us n = (i : ℕ) × (v : Unit91) × (slice_get us i ≡ Some v) × (channel_of v ≡ n)

any_on : (us : List Unit91) (n : ℕ) → list_any (is_on n) us ≡ true → HasOn us n
any_on [] n e = absurd cc
any_on (v ∷ us) n e = by (is_on n v) refl e (any_on us n)
  where
    by : (b : Bool) → is_on n v ≡ b → (b || list_any (is_on n) us) ≡ true → (list_any (is_on n) us ≡ true → HasOn us n) → HasOn (v ∷ us) n
    by true here e more = (zero, v, refl, eqb-true (channel_of v) n here)
    by false other e more = let has = more e in (suc has.0, has.1, has.2, has.3)

more_stands : (us : List Unit91) (u v : Unit91) (i : ℕ) → slice_get us i ≡ Some v → slice_get (us ++ u ∷ []) i ≡ Some v
more_stands [] u v i e = absurd cc
more_stands (w ∷ us) u v zero e = e
more_stands (w ∷ us) u v (suc i) e = more_stands us u v i e

-- it stood before, or is the last
pushed_at : (us : List Unit91) (u v : Unit91) (j : ℕ) → slice_get (us ++ u ∷ []) j ≡ Some v → (slice_get us j ≡ Some v) ⊎ ((v ≡ u) × (j ≡ length us))
pushed_at [] u v zero e = inr (cc, refl)
pushed_at [] u v (suc j) e = absurd cc
pushed_at (w ∷ us) u v zero e = inl e
pushed_at (w ∷ us) u v (suc j) e = by (pushed_at us u v j e)
  where
    by : (slice_get us j ≡ Some v) ⊎ ((v ≡ u) × (j ≡ length us)) → (slice_get us j ≡ Some v) ⊎ ((v ≡ u) × (suc j ≡ length (w ∷ us)))
    by (inl there) = inl there
    by (inr last) = inr (last.0, omega (arith, last.1))

pub above_pushed : (us : List Unit91) (u : Unit91) → AreAboveHeld us → (place_of u ≡ 256 → (waits_for_all u ≡ true) ⊎ (list_any (is_on (channel_of u)) us ≡ true))
    → AreAboveHeld (us ++ u ∷ [])
above_pushed us u held last j v e at = by (pushed_at us u v j e)
  where
    behind : IsBehindOwn us j v → IsBehindOwn (us ++ u ∷ []) j v
    behind own = (own.0, own.1, own.2, more_stands us u own.1 own.0 own.3, own.4)

    old : (waits_for_all v ≡ true) ⊎ IsBehindOwn us j v → (waits_for_all v ≡ true) ⊎ IsBehindOwn (us ++ u ∷ []) j v
    old (inl all) = inl all
    old (inr own) = inr (behind own)

    new : v ≡ u → j ≡ length us → (waits_for_all u ≡ true) ⊎ (list_any (is_on (channel_of u)) us ≡ true) → (waits_for_all v ≡ true) ⊎ IsBehindOwn (us ++ u ∷ []) j v
    new is here (inl all) = inl (ap waits_for_all is ∙ all)
    new is here (inr own) =
        let has : HasOn us (channel_of u) = any_on us (channel_of u) own in
        inr (has.0, has.1, omega (arith, here, inside has.0 us has.1 has.2), more_stands us u has.1 has.0 has.2, has.3 ∙ ap channel_of (sym is))

    by : (slice_get us j ≡ Some v) ⊎ ((v ≡ u) × (j ≡ length us)) → (waits_for_all v ≡ true) ⊎ IsBehindOwn (us ++ u ∷ []) j v
    by (inl there) = old (held j v there at)
    by (inr is) = new is.0 is.1 (last (ap place_of (sym is.0) ∙ at))

-- ---- one less

-- where one stood that stays, and where it stands then
abbrev Moved : ℕ → ℕ → ℕ → Type 0
Moved r k j = ((k < r) × (k ≡ j)) ⊎ ((r < k) × (k ≡ j + 1))

stood : (r : ℕ) (us : List Unit91) (j : ℕ) (v : Unit91) → slice_get (removed r us) j ≡ Some v → (k : ℕ) × (slice_get us k ≡ Some v) × Moved r k j
stood r [] j v e = absurd cc
stood zero (u ∷ us) j v e = (suc j, e, inr (omega arith, omega arith))
stood (suc r) (u ∷ us) zero v e = (zero, e, inl (omega arith, refl))
stood (suc r) (u ∷ us) (suc j) v e = by (stood r us j v e)
  where
    moved : (k : ℕ) → Moved r k j → Moved (suc r) (suc k) (suc j)
    moved k (inl at) = inl (omega (arith, at.0), omega (arith, at.1))
    moved k (inr at) = inr (omega (arith, at.0), omega (arith, at.1))

    by : (k : ℕ) × (slice_get us k ≡ Some v) × Moved r k j → (k : ℕ) × (slice_get (u ∷ us) k ≡ Some v) × Moved (suc r) k (suc j)
    by was = (suc was.0, was.1, moved was.0 was.2)

stands : (r : ℕ) (us : List Unit91) (k : ℕ) (v : Unit91) → slice_get us k ≡ Some v → (k ≡ r → ⊥) → (j : ℕ) × (slice_get (removed r us) j ≡ Some v) × Moved r k j
stands r [] k v e other = absurd cc
stands zero (u ∷ us) zero v e other = absurd (other refl)
stands zero (u ∷ us) (suc k) v e other = (k, e, inr (omega arith, omega arith))
stands (suc r) (u ∷ us) zero v e other = (zero, e, inl (omega arith, refl))
stands (suc r) (u ∷ us) (suc k) v e other = by (stands r us k v e (λ same. other (omega (arith, same))))
  where
    moved : (j : ℕ) → Moved r k j → Moved (suc r) (suc k) (suc j)
    moved j (inl at) = inl (omega (arith, at.0), omega (arith, at.1))
    moved j (inr at) = inr (omega (arith, at.0), omega (arith, at.1))

    by : (j : ℕ) × (slice_get (removed r us) j ≡ Some v) × Moved r k j → (j : ℕ) × (slice_get (u ∷ removed r us) j ≡ Some v) × Moved (suc r) (suc k) j
    by is = (suc is.0, is.1, moved is.0 is.2)

before : (r i j k l : ℕ) → Moved r i k → Moved r j l → i < j → k < l
before r i j k l (inl a) (inl b) lt = omega (arith, a.1, b.1, lt)
before r i j k l (inl a) (inr b) lt = omega (arith, a.0, a.1, b.0, b.1)
before r i j k l (inr a) (inl b) lt = absurd (omega (arith, a.0, b.0, lt))
before r i j k l (inr a) (inr b) lt = omega (arith, a.1, b.1, lt)

-- one of a channel of a client went
pub above_removed : (us : List Unit91) (u : Unit91) (r : ℕ) → slice_get us r ≡ Some u → place_of u < 256 → AreAboveHeld us → AreAboveHeld (removed r us)
above_removed us u r there low held l v e at = by (stood r us l v e)
  where
    apart : (i : ℕ) (w : Unit91) → slice_get us i ≡ Some w → channel_of w ≡ channel_of v → i ≡ r → ⊥
    apart i w is same here =
        let one : Some w ≡ Some u = sym is ∙ ap (slice_get us) here ∙ there in
        let unit : w ≡ u = cc in
        omega (arith, low, at, same, ap channel_of unit)

    own : (j : ℕ) → Moved r j l → IsBehindOwn us j v → IsBehindOwn (removed r us) l v
    own j moved b = now (stands r us b.0 b.1 b.3 (apart b.0 b.1 b.3 b.4))
      where
        now : (k : ℕ) × (slice_get (removed r us) k ≡ Some b.1) × Moved r b.0 k → IsBehindOwn (removed r us) l v
        now is = (is.0, b.1, before r b.0 j is.0 l is.2 moved b.2, is.1, b.4)

    kept : (j : ℕ) → Moved r j l → (waits_for_all v ≡ true) ⊎ IsBehindOwn us j v → (waits_for_all v ≡ true) ⊎ IsBehindOwn (removed r us) l v
    kept j moved (inl all) = inl all
    kept j moved (inr b) = inr (own j moved b)

    by : (j : ℕ) × (slice_get us j ≡ Some v) × Moved r j l → (waits_for_all v ≡ true) ⊎ IsBehindOwn (removed r us) l v
    by was = kept was.0 was.2 (held was.0 v was.1 at)

pub none_above_held : (us : List Unit91) → us ≡ [] → AreAboveHeld us
none_above_held [] is j u e at = absurd cc
none_above_held (v ∷ us) is j u e at = absurd cc
