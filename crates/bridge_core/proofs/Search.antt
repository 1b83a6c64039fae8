-- Where the first unit that can be taken up stands, of a queue whose first can't be: by the places of the first units of the channels.
use Rattle.std.proofs.Common.{◌≡◌, ◌∙◌, ℕ, zero, suc, ◌+◌, ◌<◌, ◌≤◌, ◌⊎◌, inl, inr, Bool, true, false, not, ◌&&◌, ◌||◌}
use Rattle.std.proofs.Common.{cond, if◌then◌else◌, List, [], ◌∷◌, Option, Some, None, refl, sym, ap, subst}
use Rattle.std.proofs.Common.{add-one, arith, drop, take, length}
use Rattle.std.proofs.lemmas.Bool.{cases_eq, eq-eqb, eqb-false, eqb-true, ne_eqb, or_right}
use Rattle.std.specs.Prelude.{◌==◌, IfSome, min, slice_get, slice_index_or}
use Rattle.std.specs.List.{list_any, position_or_len}
use Rattle.machine_091.specs.declared.unit.Unit91.{Unit91}
use Rattle.machine_091.specs.declared.unit.Unit91.TheVariants as unit
use Rattle.gate_model.specs.Queue.{Waits, can_take, channel_of, holds, is_beat, is_empty, place_from, place_in, waits_for_all}
use Rattle.bridge_core.specs.Held.{FrontWaits, IsFreeAbove, NoneBefore, NoneOn, is_counted_at, is_on, place_of}
use Rattle.bridge_core.proofs.Payloads.{stands_at}
use Rattle.bridge_core.proofs.Places.{none_behind, place_here}
use Rattle.bridge_core.proofs.FirstPlaces.{apart, no_later}

-- ---- units that can't be taken up

filled : (j : ℕ) (us : List Unit91) (u : Unit91) → slice_get us (suc j) ≡ Some u → is_empty (take (suc j) us) ≡ false
filled j [] u e = absurd cc
filled j (v ∷ us) u e = refl

pub waits_behind : (q : Waits) (us : List Unit91) (j : ℕ) (u : Unit91) → slice_get us j ≡ Some u → FrontWaits q us → q.channel (channel_of u) ≡ true
    → can_take q (take j us) u ≡ false
waits_behind q us zero u e front waits = front u e
waits_behind q us (suc j) u e front waits = by (waits_for_all u) (is_empty (take (suc j) us)) q.some q.opening (q.channel (channel_of u)) (list_any (holds (channel_of u)) (take (suc j) us)) (filled j us u e) waits
  where
    by : (all empty some opening waits held : Bool) → empty ≡ false → waits ≡ true
        → (if all then empty && not some else not opening && not waits && not held) ≡ false
    by all true some opening waits held e w = absurd cc
    by all false some opening false held e w = absurd cc
    by true false some opening true held e w = refl
    by false false some true true held e w = refl
    by false false some false true held e w = refl

pub all_behind : (q : Waits) (us : List Unit91) (j : ℕ) (u : Unit91) → slice_get us j ≡ Some u → FrontWaits q us → waits_for_all u ≡ true
    → can_take q (take j us) u ≡ false
all_behind q us zero u e front all = front u e
all_behind q us (suc j) u e front all = by (waits_for_all u) (is_empty (take (suc j) us)) q.some q.opening (q.channel (channel_of u)) (list_any (holds (channel_of u)) (take (suc j) us)) (filled j us u e) all
  where
    by : (all empty some opening waits held : Bool) → empty ≡ false → all ≡ true
        → (if all then empty && not some else not opening && not waits && not held) ≡ false
    by all true some opening waits held e w = absurd cc
    by false false some opening waits held e w = absurd cc
    by true false some opening waits held e w = refl

held_by_own : (n j i : ℕ) (us : List Unit91) (u : Unit91) → slice_get us i ≡ Some u → channel_of u ≡ n → i < j → list_any (holds n) (take j us) ≡ true
held_by_own n j i [] u e of lt = absurd cc
held_by_own n zero i (v ∷ us) u e of lt = absurd (omega (arith, lt))
held_by_own n (suc j) zero (v ∷ us) u e of lt =
    let here : v ≡ u = cc in
    let same : (channel_of v == n) ≡ true = eq-eqb (channel_of v) n (ap channel_of here ∙ of) in
    ap (λ (b : Bool). (channel_of v == 0 || b) || list_any (holds n) (take j us)) same
    ∙ ap (λ (b : Bool). b || list_any (holds n) (take j us)) (or_right (channel_of v == 0) true refl)
held_by_own n (suc j) (suc i) (v ∷ us) u e of lt = or_right (holds n v) (list_any (holds n) (take j us)) (held_by_own n j i us u e of (omega (arith, lt)))

pub held_behind : (q : Waits) (us : List Unit91) (i j : ℕ) (u v : Unit91) → slice_get us i ≡ Some u → slice_get us j ≡ Some v → channel_of u ≡ channel_of v → i < j
    → can_take q (take j us) v ≡ false
held_behind q us i zero u v e f same lt = absurd (omega (arith, lt))
held_behind q us i (suc j) u v e f same lt = by (waits_for_all v) (is_empty (take (suc j) us)) q.some q.opening (q.channel (channel_of v)) (list_any (holds (channel_of v)) (take (suc j) us)) (filled j us v f) (held_by_own (channel_of v) (suc j) i us u e same lt)
  where
    by : (all empty some opening waits held : Bool) → empty ≡ false → held ≡ true
        → (if all then empty && not some else not opening && not waits && not held) ≡ false
    by all true some opening waits held e h = absurd cc
    by all false some opening waits false e h = absurd cc
    by true false some opening waits true e h = refl
    by false false some true waits true e h = refl
    by false false some false true true e h = refl
    by false false some false false true e h = refl

-- ---- one channel further

counted : (n : ℕ) (u : Unit91) → place_of u ≡ n → is_counted_at n u ≡ true
counted n u e = eq-eqb (place_of u) n e

-- none of the channel waits before its first
pub none_of : (n j : ℕ) (us : List Unit91) (u : Unit91) → slice_get us j ≡ Some u → place_of u ≡ n → position_or_len (is_counted_at n) us ≤ j
none_of n j us u e at = no_later (is_counted_at n) j us u e (counted n u at)

pub one_further : (q : Waits) (us : List Unit91) (i m k : ℕ) → k ≤ m → NoneBefore q us i m → NoneOn q us i k → NoneBefore q us (i + 1) k
one_further q us i m k le before on j u e lt below = by (cases_eq (place_of u) i)
  where
    by : (place_of u ≡ i) ⊎ (place_of u ≡ i → ⊥) → can_take q (take j us) u ≡ false
    by (inl at) = on j u e lt at
    by (inr other) = before j u e (omega (arith, lt, le)) (omega (arith, below, other))

-- a channel of which none waits, or whose requests wait; one whose first unit waits for all; and any before its first
pub none_on_waiting : (q : Waits) (us : List Unit91) (n m : ℕ) → n < 256 → FrontWaits q us → q.channel n ≡ true → NoneOn q us n m
none_on_waiting q us n m lt front waits j u e before at =
    let of : channel_of u ≡ n = omega (arith, at, lt) in
    waits_behind q us j u e front (ap q.channel of ∙ waits)

pub none_on_beat : (q : Waits) (us : List Unit91) (n m i : ℕ) (v : Unit91) → n < 256 → FrontWaits q us → i ≡ position_or_len (is_counted_at n) us → slice_get us i ≡ Some v
    → place_of v ≡ n → waits_for_all v ≡ true → NoneOn q us n m
none_on_beat q us n m i v lt front is here of all j u e before at = by (cases_eq j i)
  where
    by : (j ≡ i) ⊎ (j ≡ i → ⊥) → can_take q (take j us) u ≡ false
    by (inl same) =
        let one : Some u ≡ Some v = sym e ∙ ap (slice_get us) same ∙ here in
        let one_unit : u ≡ v = cc in
        all_behind q us j u e front (ap waits_for_all one_unit ∙ all)
    by (inr other) = held_behind q us i j v u here e (omega (arith, of, at, lt)) (omega (arith, none_of n j us u e at, is, other))

pub none_on_first : (q : Waits) (us : List Unit91) (n m : ℕ) → m ≤ position_or_len (is_counted_at n) us → NoneOn q us n m
none_on_first q us n m le j u e before at = absurd (omega (arith, le, before, none_of n j us u e at))

-- ---- one that can be

not_held : (c n m : ℕ) (us : List Unit91) → n ≡ min c 256 → m ≤ position_or_len (is_counted_at 0) us → m ≤ position_or_len (is_counted_at n) us
    → list_any (holds c) (take m us) ≡ false
not_held c n zero us at all own = refl
not_held c n (suc m) [] at all own = refl
not_held c n (suc m) (v ∷ us) at all own = by (place_of v == 0) (place_of v == n) refl refl (not_held c n m us at) all own
  where
    by : (a b : Bool) → (place_of v == 0) ≡ a → (place_of v == n) ≡ b
        → (m ≤ position_or_len (is_counted_at 0) us → m ≤ position_or_len (is_counted_at n) us → list_any (holds c) (take m us) ≡ false)
        → suc m ≤ cond (not a) (1 + position_or_len (is_counted_at 0) us) 0 → suc m ≤ cond (not b) (1 + position_or_len (is_counted_at n) us) 0
        → list_any (holds c) (take (suc m) (v ∷ us)) ≡ false
    by true b e f more all own = absurd (omega (arith, all))
    by false true e f more all own = absurd (omega (arith, own))
    by false false e f more all own =
        let not_all : (channel_of v == 0) ≡ false = ne_eqb (channel_of v) 0 (λ same. eqb-false (place_of v) 0 e (omega (arith, same))) in
        let not_own : (channel_of v == c) ≡ false = ne_eqb (channel_of v) c (λ same. eqb-false (place_of v) n f (omega (arith, same, at))) in
        ap (λ (b : Bool). (b || channel_of v == c) || list_any (holds c) (take m us)) not_all
        ∙ ap (λ (b : Bool). b || list_any (holds c) (take m us)) not_own
        ∙ more (omega (arith, all)) (omega (arith, own))

-- nor by one of its own channel
not_on : (c m : ℕ) (us : List Unit91) → m ≤ position_or_len (is_counted_at 0) us → list_any (is_on c) (take m us) ≡ false → list_any (holds c) (take m us) ≡ false
not_on c zero us all own = refl
not_on c (suc m) [] all own = refl
not_on c (suc m) (v ∷ us) all own = by (place_of v == 0) (is_on c v) refl refl (not_on c m us) all own
  where
    by : (a b : Bool) → (place_of v == 0) ≡ a → is_on c v ≡ b
        → (m ≤ position_or_len (is_counted_at 0) us → list_any (is_on c) (take m us) ≡ false → list_any (holds c) (take m us) ≡ false)
        → suc m ≤ cond (not a) (1 + position_or_len (is_counted_at 0) us) 0 → (b || list_any (is_on c) (take m us)) ≡ false
        → list_any (holds c) (take (suc m) (v ∷ us)) ≡ false
    by true b e f more all own = absurd (omega (arith, all))
    by false true e f more all own = absurd cc
    by false false e f more all own =
        let not_all : (channel_of v == 0) ≡ false = ne_eqb (channel_of v) 0 (λ same. eqb-false (place_of v) 0 e (omega (arith, same))) in
        ap (λ (b : Bool). (b || channel_of v == c) || list_any (holds c) (take m us)) not_all
        ∙ ap (λ (b : Bool). b || list_any (holds c) (take m us)) f
        ∙ more (omega (arith, all)) own

can_there : (q : Waits) (us : List Unit91) (m : ℕ) (u : Unit91) → q.opening ≡ false → q.channel (channel_of u) ≡ false → waits_for_all u ≡ false
    → list_any (holds (channel_of u)) (take m us) ≡ false → can_take q (take m us) u ≡ true
can_there q us m u opening channel all free =
    by (waits_for_all u) (is_empty (take m us)) q.some q.opening (q.channel (channel_of u)) (list_any (holds (channel_of u)) (take m us)) all opening channel free
  where
    by : (all empty some opening waits held : Bool) → all ≡ false → opening ≡ false → waits ≡ false → held ≡ false
        → (if all then empty && not some else not opening && not waits && not held) ≡ true
    by true empty some opening waits held a o w h = absurd cc
    by false empty some true waits held a o w h = absurd cc
    by false empty some false true held a o w h = absurd cc
    by false empty some false false true a o w h = absurd cc
    by false empty some false false false a o w h = refl

pub free_there : (q : Waits) (us : List Unit91) (m : ℕ) (u : Unit91) → q.opening ≡ false → q.channel (channel_of u) ≡ false → waits_for_all u ≡ false
    → m ≤ position_or_len (is_counted_at 0) us → m ≤ position_or_len (is_counted_at (place_of u)) us → can_take q (take m us) u ≡ true
free_there q us m u opening channel all first own = can_there q us m u opening channel all (not_held (channel_of u) (place_of u) m us refl first own)

pub free_above : (q : Waits) (us : List Unit91) (m : ℕ) (u : Unit91) → q.opening ≡ false → q.channel (channel_of u) ≡ false → IsFreeAbove us m u
    → m ≤ position_or_len (is_counted_at 0) us → can_take q (take m us) u ≡ true
free_above q us m u opening channel free first = can_there q us m u opening channel free.0 (not_on (channel_of u) m us first free.1)

-- ---- the place

pub skipped : (q : Waits) (us : List Unit91) (m : ℕ) → m ≤ length us → NoneBefore q us 257 m → place_from q us 0 us ≡ place_from q us m (drop m us)
skipped q us zero le none = refl
skipped q us (suc m) le none =
    let here : slice_get us m ≡ Some (slice_index_or us m unit.Protocol) = stands_at m us unit.Protocol (omega (arith, le)) in
    let u : Unit91 = slice_index_or us m unit.Protocol in
    let fails : can_take q (take m us) u ≡ false = none m u here (omega arith) (omega arith) in
    skipped q us m (omega (arith, le)) (λ j v e lt at. none j v e (omega (arith, lt)) at)
    ∙ place_here q us m false (subst (λ (o : Option Unit91). IfSome o (λ v. false ≡ can_take q (take m us) v)) (sym here) (sym fails)) (omega (arith, le))
    ∙ ap (λ (k : ℕ). place_from q us k (drop k us)) (add-one m)

-- the unit at the place can be taken up
pub found : (q : Waits) (us : List Unit91) (m : ℕ) → m < length us → NoneBefore q us 257 m → IfSome (slice_get us m) (λ u. can_take q (take m us) u ≡ true)
    → place_in q us ≡ Some m
found q us m lt none can =
    let here : slice_get us m ≡ Some (slice_index_or us m unit.Protocol) = stands_at m us unit.Protocol lt in
    let passes : IfSome (slice_get us m) (λ u. true ≡ can_take q (take m us) u) =
    subst (λ (o : Option Unit91). IfSome o (λ v. true ≡ can_take q (take m us) v)) (sym here)
    (sym (subst (λ (o : Option Unit91). IfSome o (λ u. can_take q (take m us) u ≡ true)) here can)) in
    skipped q us m (omega (arith, lt)) none ∙ place_here q us m true passes lt

first_of_all : (us : List Unit91) (m : ℕ) (u : Unit91) → slice_get us m ≡ Some u → m ≡ position_or_len (is_counted_at 0) us → channel_of u ≡ 0
first_of_all us m u e is = by (is_counted_at 0 u) refl
  where
    by : (b : Bool) → is_counted_at 0 u ≡ b → channel_of u ≡ 0
    by true passes = omega (arith, eqb-true (place_of u) 0 passes)
    by false fails = absurd (apart (is_counted_at 0) m us u e fails (sym is))

zero_waits : (u : Unit91) → channel_of u ≡ 0 → waits_for_all u ≡ true
zero_waits unit.Protocol e = refl
zero_waits (unit.Bad code) e = refl
zero_waits (unit.Frame f) e = ap (λ (b : Bool). b || is_beat f.kind) (eq-eqb f.channel 0 e)

-- there is none before a unit of channel 0, or none at all
pub none_found : (q : Waits) (us : List Unit91) (m : ℕ) → FrontWaits q us → m ≡ position_or_len (is_counted_at 0) us → m ≤ length us → NoneBefore q us 257 m
    → place_in q us ≡ None
none_found q us m front is le none = skipped q us m le none ∙ by (cases_eq m (length us))
  where
    past : (k : ℕ) (vs : List Unit91) → length vs ≤ k → drop k vs ≡ []
    past zero [] le = refl
    past (suc k) [] le = refl
    past zero (v ∷ vs) le = absurd (omega (arith, le))
    past (suc k) (v ∷ vs) le = past k vs (omega (arith, le))

    by : (m ≡ length us) ⊎ (m ≡ length us → ⊥) → place_from q us m (drop m us) ≡ None
    by (inl all) = ap (place_from q us m) (past m us (omega (arith, all)))
    by (inr other) =
        let lt : m < length us = omega (arith, le, other) in
        let u : Unit91 = slice_index_or us m unit.Protocol in
        let here : slice_get us m ≡ Some u = stands_at m us unit.Protocol lt in
        let of : channel_of u ≡ 0 = first_of_all us m u here is in
        let fails : can_take q (take m us) u ≡ false = all_behind q us m u here front (zero_waits u of) in
        place_here q us m false (subst (λ (o : Option Unit91). IfSome o (λ v. false ≡ can_take q (take m us) v)) (sym here) (sym fails)) lt
        ∙ none_behind q us m lt (subst (λ (o : Option Unit91). IfSome o (λ v. channel_of v ≡ 0)) (sym here) of)
