-- The place of the unit that is taken up next, one unit further.
use Rattle.std.proofs.Common.{◌≡◌, ◌≢◌, ◌∙◌, ℕ, zero, suc, ◌+◌, ◌<◌, ◌≤◌, Bool, true, false, not}
use Rattle.std.proofs.Common.{◌&&◌, ◌||◌}
use Rattle.std.proofs.Common.{if◌then◌else◌, List, [], ◌∷◌, Option, Some, None, refl, sym, ap}
use Rattle.std.proofs.Common.{subst}
use Rattle.std.proofs.Common.{arith, drop, take, length, get_or-set_other, get_or-set_same}
use Rattle.std.specs.Prelude.{◌==◌, IfSome, replicate, slice_get, slice_index_or, slice_set}
use Rattle.std.specs.List.{list_any}
use Rattle.std.proofs.lemmas.Bool.{eqb-false, eqb-true, ne_eqb, or_left, or_right}
use Rattle.std.proofs.lemmas.List.Folds.{list_any_more}
use Rattle.machine_091.specs.declared.unit.Unit91.{Unit91}
use Rattle.machine_091.specs.declared.unit.Unit91.TheVariants as unit
use Rattle.gate_model.specs.Queue.{Waits, can_take, channel_of, holds, is_empty, place_from}
use Rattle.gate_model.specs.Queue.{place_in, waits_for_all}
use Rattle.gate_model.specs.Paths.{is_laden}
use Rattle.gate_model.specs.State.{State, place, waits}
use Rattle.machine_091.specs.State.{is_opening}
use Rattle.bridge_core.specs.Held.{AreHeld}
use Rattle.bridge_core.proofs.Payloads.{stands_at}

or_none : (b : Bool) → (b || false) ≡ b
or_none true = refl
or_none false = refl

pub place_more : (q : Waits) (all : List Unit91) (k i : ℕ) (us : List Unit91) (u : Unit91) → slice_get us i ≡ Some u
    → place_from q all k (drop i us) ≡ (if can_take q (take k all) u then Some k else place_from q all (k + 1) (drop (i + 1) us))
place_more q all k i [] u e = absurd cc
place_more q all k zero (v ∷ us) u e = let here : v ≡ u = cc in ap (λ (x : Unit91). if can_take q (take k all) x then Some k else place_from q all (k + 1) us) here
place_more q all k (suc i) (v ∷ us) u e =
    let next : suc (i + 1) ≡ suc i + 1 = omega arith in
    place_more q all k i us u e ∙ ap (λ (j : ℕ). if can_take q (take k all) u then Some k else place_from q all (k + 1) (drop j (v ∷ us))) next

-- by whether the unit there can be taken up
pub place_here : (q : Waits) (us : List Unit91) (i : ℕ) (b : Bool) → IfSome (slice_get us i) (λ u. b ≡ can_take q (take i us) u) → i < length us
    → place_from q us i (drop i us) ≡ (if b then Some i else place_from q us (i + 1) (drop (i + 1) us))
place_here q us i b can lt = by (slice_get us i) refl can
  where
    by : (o : Option Unit91) → slice_get us i ≡ o → IfSome o (λ u. b ≡ can_take q (take i us) u)
        → place_from q us i (drop i us) ≡ (if b then Some i else place_from q us (i + 1) (drop (i + 1) us))
    by None e can = let wrong : Some (slice_index_or us i unit.Protocol) ≡ None = sym (stands_at i us unit.Protocol lt) ∙ e in absurd cc
    by (Some u) e can = place_more q us i i us u e ∙ ap (λ (x : Bool). if x then Some i else place_from q us (i + 1) (drop (i + 1) us)) (sym can)

-- ---- where none can be

none_from : (q : Waits) (all : List Unit91) (k : ℕ) (us : List Unit91) → ((j : ℕ) → k ≤ j → (u : Unit91) → can_take q (take j all) u ≡ false)
    → place_from q all k us ≡ None
none_from q all k [] never = refl
none_from q all k (u ∷ us) never =
    ap (λ (b : Bool). if b then Some k else place_from q all (k + 1) us) (never k (omega arith) u)
    ∙ none_from q all (k + 1) us (λ j le v. never j (omega arith) v)

-- while a connection.open waits
none_opening : (q : Waits) (us : List Unit91) → q.opening ≡ true → q.some ≡ true → place_from q us 0 us ≡ None
none_opening q us opening some = none_from q us 0 us (λ j le u. by (waits_for_all u) (is_empty (take j us)) q.opening q.some (q.channel (channel_of u)) (list_any (holds (channel_of u)) (take j us)) opening some)
  where
    by : (all empty opening some waits held : Bool) → opening ≡ true → some ≡ true
        → (if all then empty && not some else not opening && not waits && not held) ≡ false
    by all empty false some waits held o s = absurd cc
    by all empty true false waits held o s = absurd cc
    by true true true true waits held o s = refl
    by true false true true waits held o s = refl
    by false empty true true waits held o s = refl

pub none_while_opening : (w : State) → is_opening w.conn ≡ true → place w ≡ None
none_while_opening w opening = by (is_laden w.paths)
  where
    by : (b : Bool) → (if b then None else place_in (waits w) w.queue) ≡ None
    by true = refl
    by false = none_opening (waits w) w.queue opening (or_left (is_opening w.conn) _ opening)

-- where all is taken up
pub none_left : (q : Waits) (us : List Unit91) → is_empty us ≡ true → place_in q us ≡ None
none_left q [] e = refl
none_left q (u ∷ us) e = absurd cc

pub none_when_empty : (w : State) → is_empty w.queue ≡ true → place w ≡ None
none_when_empty w none = by (is_laden w.paths)
  where
    by : (b : Bool) → (if b then None else place_in (waits w) w.queue) ≡ None
    by true = refl
    by false = none_left (waits w) w.queue none

-- while many publishes are held
pub none_while_laden : (w : State) → is_laden w.paths ≡ true → place w ≡ None
none_while_laden w laden = ap (λ (b : Bool). if b then None else place_in (waits w) w.queue) laden

-- behind a unit of channel 0 that waits
held_by_all : (n j i : ℕ) (us : List Unit91) (u : Unit91) → slice_get us i ≡ Some u → channel_of u ≡ 0 → i < j → list_any (holds n) (take j us) ≡ true
held_by_all n j i [] u e z lt = absurd cc
held_by_all n zero i (v ∷ us) u e z lt = absurd (omega (arith, lt))
held_by_all n (suc j) zero (v ∷ us) u e z lt =
    let here : v ≡ u = cc in
    ap (λ (k : ℕ). (k == 0 || k == n) || list_any (holds n) (take j us)) (ap channel_of here ∙ z)
held_by_all n (suc j) (suc i) (v ∷ us) u e z lt = or_right (holds n v) (list_any (holds n) (take j us)) (held_by_all n j i us u e z (omega (arith, lt)))

taken_some : (i j : ℕ) (us : List Unit91) → i < length us → i < j → is_empty (take j us) ≡ false
taken_some i j [] within lt = absurd (omega (arith, within))
taken_some i zero (u ∷ us) within lt = absurd (omega (arith, lt))
taken_some i (suc j) (u ∷ us) within lt = refl

pub none_behind : (q : Waits) (us : List Unit91) (i : ℕ) → i < length us → IfSome (slice_get us i) (λ u. channel_of u ≡ 0)
    → place_from q us (i + 1) (drop (i + 1) us) ≡ None
none_behind q us i within all = none_from q us (i + 1) (drop (i + 1) us) never
  where
    here : slice_get us i ≡ Some (slice_index_or us i unit.Protocol)
    here = stands_at i us unit.Protocol within

    of_all : channel_of (slice_index_or us i unit.Protocol) ≡ 0
    of_all = subst (λ (o : Option Unit91). IfSome o (λ u. channel_of u ≡ 0)) here all

    by : (all empty opening some waits held : Bool) → empty ≡ false → held ≡ true
        → (if all then empty && not some else not opening && not waits && not held) ≡ false
    by all true opening some waits held e h = absurd cc
    by all false opening some waits false e h = absurd cc
    by true false opening some waits true e h = refl
    by false false true some waits true e h = refl
    by false false false some true true e h = refl
    by false false false some false true e h = refl

    never : (j : ℕ) → i + 1 ≤ j → (v : Unit91) → can_take q (take j us) v ≡ false
    never j le v =
        by (waits_for_all v) (is_empty (take j us)) q.opening q.some (q.channel (channel_of v)) (list_any (holds (channel_of v)) (take j us))
        (taken_some i j us within (omega arith)) (held_by_all (channel_of v) j i us (slice_index_or us i unit.Protocol) here of_all (omega arith))

-- ---- the channels that are held, with one unit more

set_reads : (held : List Bool) (c n : ℕ) → n < length held → slice_index_or (slice_set held c true) n false ≡ (slice_index_or held n false || c == n)
set_reads held c n lt = by (c == n) refl
  where
    by : (b : Bool) → (c == n) ≡ b → slice_index_or (slice_set held c true) n false ≡ (slice_index_or held n false || b)
    by true e =
        let same : c ≡ n = eqb-true c n e in
        ap (λ (k : ℕ). slice_index_or (slice_set held k true) n false) same ∙ get_or-set_same held n true false lt
        ∙ sym (or_right (slice_index_or held n false) true refl)
    by false e =
        let apart : n ≢ c = λ same. eqb-false c n e (sym same) in
        get_or-set_other held c n true false apart ∙ sym (or_none (slice_index_or held n false))

pub set_past : (held : List Bool) (c : ℕ) → length held ≤ c → slice_set held c true ≡ held
set_past [] c le = refl
set_past (b ∷ held) zero le = absurd (omega (arith, le))
set_past (b ∷ held) (suc c) le = ap (λ (bs : List Bool). b ∷ bs) (set_past held c (omega (arith, le)))

pub hold_more : (us : List Unit91) (i channel : ℕ) (held : List Bool) → i < length us → length held ≡ 256
    → IfSome (slice_get us i) (λ u. channel ≡ channel_of u) → (channel ≡ 0 → ⊥) → AreHeld (take i us) held
    → AreHeld (take (i + 1) us) (slice_set held channel true)
hold_more us i channel held within long is some h n lt =
    let of : channel ≡ channel_of (slice_index_or us i unit.Protocol) =
    subst (λ (o : Option Unit91). IfSome o (λ u. channel ≡ channel_of u)) (stands_at i us unit.Protocol within) is in
    set_reads held channel n (omega arith) ∙ ap (λ (b : Bool). b || channel == n) (h n lt)
    ∙ ap (λ (b : Bool). list_any (holds n) (take i us) || (b || channel == n)) (sym (ne_eqb channel 0 some))
    ∙ ap (λ (k : ℕ). list_any (holds n) (take i us) || (k == 0 || k == n)) of
    ∙ sym (list_any_more (holds n) us i unit.Protocol within)

pub none_held : AreHeld [] (replicate 256 false)
none_held n lt = replicate_reads 256 n
  where
    replicate_reads : (k n : ℕ) → slice_index_or (replicate k false) n false ≡ false
    replicate_reads zero n = refl
    replicate_reads (suc k) zero = refl
    replicate_reads (suc k) (suc n) = replicate_reads k n
