-- The numbers of the publishes rise, and so do their confirm numbers.
use Rattle.std.proofs.Common.{◌≡◌, ◌∙◌, ℕ, zero, suc, ◌+◌, ◌≤◌, ◌<◌, List, [], ◌∷◌, ◌++◌, Bool, true}
use Rattle.std.proofs.Common.{false, refl, sym, ap, subst, arith, Option, Some, None, cond, map}
use Rattle.std.proofs.Common.{get_or, length, drop, take}
use Rattle.std.specs.Prelude.{filter}
use Rattle.std.specs.List.{AllByRecursion}
use Rattle.open_items.proofs.Numbered.{Rising, rising_above}
use Rattle.publish_path.specs.declared.publish.Publish.{Publish}
use Rattle.publish_path.specs.Publishes.{next_number}
use Rattle.publish_path.specs.Offers.{number_or}
use Rattle.publish_path.specs.Kept.{number_of, Above, Climbs}

-- numbers

pub all_at : (P : Publish → Type 0) (ps : List Publish) (i : ℕ) (d : Publish) → AllByRecursion P ps → i < length ps → P (get_or ps i d)
all_at P [] i d a lt = absurd (omega arith)
all_at P (p ∷ ps) zero d a lt = a.0
all_at P (p ∷ ps) (suc i) d a lt = all_at P ps i d a.1 (omega arith)

later_same : (f : Publish → Publish) (n : ℕ) → ((p : Publish) → (p.number ≡ n → ⊥) → f p ≡ p) → (low : ℕ) (ps : List Publish) → n ≤ low → Rising number_of low ps → map f ps ≡ ps
later_same f n other low [] le r = refl
later_same f n other low (p ∷ ps) le r =
    let up : low < p.number = r.0 in
    ap (λ q. q ∷ map f ps) (other p (λ e. absurd (omega arith))) ∙ ap (λ qs. p ∷ qs) (later_same f n other p.number ps (omega arith) r.1)

-- a change of the publish with one number leaves those before its place, and those behind, as they
-- are
pub before_same : (f : Publish → Publish) (n : ℕ) → ((p : Publish) → (p.number ≡ n → ⊥) → f p ≡ p) → (low : ℕ) (ps : List Publish) (i : ℕ) (d : Publish) → Rising number_of low ps → i < length ps → (get_or ps i d).number ≡ n → map f (take i ps) ≡ take i ps
before_same f n other low [] i d r lt at = absurd (omega arith)
before_same f n other low (p ∷ ps) zero d r lt at = refl
before_same f n other low (p ∷ ps) (suc i) d r lt at =
    let within : i < length ps = omega arith in
    let above : p.number < (get_or ps i d).number = all_at (λ q. p.number < number_of q) ps i d (rising_above number_of p.number ps r.1) within in
    ap (λ q. q ∷ map f (take i ps)) (other p (λ e. absurd (omega arith))) ∙ ap (λ qs. p ∷ qs) (before_same f n other p.number ps i d r.1 within at)

pub behind_same : (f : Publish → Publish) (n : ℕ) → ((p : Publish) → (p.number ≡ n → ⊥) → f p ≡ p) → (low : ℕ) (ps : List Publish) (i : ℕ) (d : Publish) → Rising number_of low ps → i < length ps → (get_or ps i d).number ≡ n → map f (drop (i + 1) ps) ≡ drop (i + 1) ps
behind_same f n other low [] i d r lt at = absurd (omega arith)
behind_same f n other low (p ∷ ps) zero d r lt at = later_same f n other p.number ps (omega arith) r.1
behind_same f n other low (p ∷ ps) (suc i) d r lt at =
    let next : suc i + 1 ≡ suc (i + 1) = omega arith in
    subst (λ k. map f (drop k (p ∷ ps)) ≡ drop k (p ∷ ps)) (sym next) (behind_same f n other p.number ps i d r.1 (omega arith) at)

-- confirm numbers

pub climbs_lower : (low lower high : ℕ) (ps : List Publish) → lower ≤ low → Climbs low high ps → Climbs lower high ps
climbs_lower low lower high [] le c = omega arith
climbs_lower low lower high (p ∷ ps) le c = by p.confirm c.0 c.1 (λ d. climbs_lower low lower high ps le d)
  where
    by : (k : Option ℕ) → Above low k → Climbs (number_or low k) high ps → (Climbs low high ps → Climbs lower high ps) → Above lower k × Climbs (number_or lower k) high ps
    by None a c rec = (tt, rec c)
    by (Some k) a c rec = (omega arith, c)

pub climbs_map : (f : Publish → Publish) → ((p : Publish) → (f p).confirm ≡ p.confirm) → (low high : ℕ) (ps : List Publish) → Climbs low high ps → Climbs low high (map f ps)
climbs_map f same low high [] c = c
climbs_map f same low high (p ∷ ps) c =
    subst (λ k. Above low k × Climbs (number_or low k) high (map f ps)) (sym (same p)) (c.0, climbs_map f same (number_or low p.confirm) high ps c.1)

pub climbs_filter : (o : Publish → Bool) (low high : ℕ) (ps : List Publish) → Climbs low high ps → Climbs low high (filter o ps)
climbs_filter o low high [] c = c
climbs_filter o low high (p ∷ ps) c = by (o p) (climbs_filter o (number_or low p.confirm) high ps c.1)
  where
    skip : (k : Option ℕ) → Above low k → Climbs (number_or low k) high (filter o ps) → Climbs low high (filter o ps)
    skip None a c = c
    skip (Some k) a c = climbs_lower k low high _ (omega arith) c

    by : (b : Bool) → Climbs (number_or low p.confirm) high (filter o ps) → Climbs low high (cond b (p ∷ filter o ps) (filter o ps))
    by true ih = (c.0, ih)
    by false ih = skip p.confirm c.0 ih

pub climbs_push : (confirm : Bool) (low high : ℕ) (ps : List Publish) (y : Publish) → y.confirm ≡ next_number confirm high → Climbs low high ps → Climbs low (cond confirm (high + 1) high) (ps ++ y ∷ [])
climbs_push true low high [] y e c = rw e (omega arith, omega arith)
climbs_push false low high [] y e c = rw e (tt, c)
climbs_push confirm low high (p ∷ ps) y e c = (c.0, climbs_push confirm (number_or low p.confirm) high ps y e c.1)

-- none behind this place has a confirm number of at most so much
pub climbs_drop : (low high : ℕ) (ps : List Publish) (i : ℕ) → Climbs low high ps → (m : ℕ) × (low ≤ m) × Climbs m high (drop i ps)
climbs_drop low high ps zero c = (low, omega arith, c)
climbs_drop low high [] (suc i) c = (low, omega arith, c)
climbs_drop low high (p ∷ ps) (suc i) c = by p.confirm c.0 (climbs_drop (number_or low p.confirm) high ps i c.1)
  where
    by : (k : Option ℕ) → Above low k → (m : ℕ) × (number_or low k ≤ m) × Climbs m high (drop i ps) → (m : ℕ) × (low ≤ m) × Climbs m high (drop i ps)
    by None a d = d
    by (Some k) a d = let le : k ≤ d.0 = d.1 in (d.0, omega arith, d.2)
