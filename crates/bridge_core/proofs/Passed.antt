-- The units at the front that were passed, with one unit more or less.
use Rattle.std.proofs.Common.{◌≡◌, ◌∙◌, ℕ, zero, suc, ◌+◌, ◌-◌, ◌<◌, ◌≤◌, ◌⊎◌, Bool, true, false, ◌||◌, cond, List, [], ◌∷◌, ◌++◌, Some}
use Rattle.std.proofs.Common.{refl, sym, ap, subst, arith, length, length-append, nat_lt, take}
use Rattle.std.proofs.lemmas.List.{take-append-le, take_more}
use Rattle.std.proofs.lemmas.Bool.{eqb-true, ltb-true, ne_eqb}
use Rattle.std.proofs.lemmas.List.Folds.{list_any_more}
use Rattle.std.specs.BTreeSet.{BTreeSet, contains}
use Rattle.std.specs.List.{list_any}
use Rattle.std.specs.Ordering.{is_eq, nat_cmp}
use Rattle.std.specs.Prelude.{◌==◌, slice_get, slice_index_or}
use Rattle.std.specs.declared.cmp.Ordering.TheVariants.{Equal, Greater, Less}
use Rattle.machine_091.specs.declared.unit.Unit91.{Unit91}
use Rattle.gate_model.specs.Queue.{channel_of, removed, waits_for_all}
use Rattle.bridge_core.specs.Held.{AreAboveHeld, ArePassed, is_on, place_of}
use Rattle.bridge_core.proofs.AboveHeld.{above_pushed, above_removed, in_front, none_above_held}
use Rattle.bridge_core.proofs.KeptFirsts.{length_less}
use Rattle.bridge_core.proofs.Least.{inside}
use Rattle.bridge_core.proofs.Payloads.{any_stays}

-- ---- none

pub none_passed : (us : List Unit91) (channels : BTreeSet ℕ) → channels.keys ≡ [] → ArePassed us 0 channels
none_passed us channels none = (omega arith, none_above_held [] refl, λ n le. ap (list_any (λ k. is_eq (nat_cmp n k))) none)

-- ---- one more

pub passed_more : (us : List Unit91) (p : ℕ) (u : Unit91) (old new : BTreeSet ℕ) → p < length us → u ≡ slice_index_or us p u
    → (place_of u ≡ 256 → (waits_for_all u ≡ true) ⊎ (list_any (is_on (channel_of u)) (take p us) ≡ true))
    → ((n : ℕ) → 256 ≤ n → contains nat_cmp new n ≡ (contains nat_cmp old n || is_on n u)) → ArePassed us p old → ArePassed us (p + 1) new
passed_more us p u old new lt is held set known = (
  omega (arith, lt),
  subst AreAboveHeld (sym (take_more us p u lt ∙ ap (λ (v : Unit91). take p us ++ v ∷ []) (sym is))) (above_pushed (take p us) u known.1 held),
  λ n le. set n le ∙ ap (λ (b : Bool). b || is_on n u) (known.2 n le)
      ∙ ap (λ (v : Unit91). list_any (is_on n) (take p us) || is_on n v) is ∙ sym (list_any_more (is_on n) us p u lt),
)

-- one of a channel of a client changes no channel of the others
pub none_more : (channels : BTreeSet ℕ) (u : Unit91) (n : ℕ) → channel_of u < 256 → 256 ≤ n → contains nat_cmp channels n ≡ (contains nat_cmp channels n || is_on n u)
none_more channels u n low le =
    or_none (contains nat_cmp channels n) ∙ ap (λ (b : Bool). contains nat_cmp channels n || b) (sym (ne_eqb (channel_of u) n (λ same. omega (arith, low, le, same))))
  where
    or_none : (b : Bool) → b ≡ (b || false)
    or_none true = refl
    or_none false = refl

-- the channel of another is put among them
pub one_put : (c n : ℕ) (b : Bool) → cond (is_eq (nat_cmp c n)) true b ≡ (b || c == n)
one_put c n b = by (nat_lt c n) (c == n) refl refl b
  where
    by : (lt eq : Bool) → nat_lt c n ≡ lt → (c == n) ≡ eq → (b : Bool) → cond (is_eq (cond lt Less (cond eq Equal Greater))) true b ≡ (b || eq)
    by true true l e b = absurd (omega (arith, ltb-true c n l, eqb-true c n e))
    by true false l e true = refl
    by true false l e false = refl
    by false true l e true = refl
    by false true l e false = refl
    by false false l e true = refl
    by false false l e false = refl

-- ---- one less

-- before those that were passed, of a channel of a client
before_end : (us : List Unit91) (i p : ℕ) → i ≤ p → take p (removed i us) ≡ removed i (take (suc p) us)
before_end [] zero zero le = refl
before_end [] zero (suc p) le = refl
before_end [] (suc i) zero le = refl
before_end [] (suc i) (suc p) le = refl
before_end (v ∷ us) zero p le = refl
before_end (v ∷ us) (suc i) zero le = absurd (omega (arith, le))
before_end (v ∷ us) (suc i) (suc p) le = ap (λ (vs : List Unit91). v ∷ vs) (before_end us i p (omega (arith, le)))

one_less : (us : List Unit91) (u : Unit91) (i p : ℕ) (channels : BTreeSet ℕ) → slice_get us i ≡ Some u → channel_of u < 256 → i ≤ p
    → ArePassed us (suc p) channels → ArePassed (removed i us) p channels
one_less us u i p channels e low le known = (
  omega (arith, known.0, length_less i us u e),
  subst AreAboveHeld (sym (before_end us i p le)) (above_removed (take (suc p) us) u i there (omega (arith, low)) known.1),
  λ n ge. known.2 n ge ∙ sym (any_stays (is_on n) i (take (suc p) us) u there (ne_eqb (channel_of u) n (λ same. omega (arith, low, ge, same))))
      ∙ ap (list_any (is_on n)) (sym (before_end us i p le)),
)
  where
    there : slice_get (take (suc p) us) i ≡ Some u
    there = in_front us (suc p) i u e (omega (arith, le))

pub passed_less : (us : List Unit91) (u : Unit91) (i p : ℕ) (channels : BTreeSet ℕ) → slice_get us i ≡ Some u → channel_of u < 256 → i < p
    → ArePassed us p channels → ArePassed (removed i us) (p - 1) channels
passed_less us u i zero channels e low lt known = absurd (omega (arith, lt))
passed_less us u i (suc p) channels e low lt known =
    let same : p ≡ suc p - 1 = omega arith in
    subst (λ (k : ℕ). ArePassed (removed i us) k channels) same (one_less us u i p channels e low (omega (arith, lt)) known)

-- behind them
behind_end : (us : List Unit91) (i p : ℕ) → p ≤ i → take p (removed i us) ≡ take p us
behind_end us i zero le = refl
behind_end [] i (suc p) le = refl
behind_end (v ∷ us) zero (suc p) le = absurd (omega (arith, le))
behind_end (v ∷ us) (suc i) (suc p) le = ap (λ (vs : List Unit91). v ∷ vs) (behind_end us i p (omega (arith, le)))

pub passed_stay : (us : List Unit91) (u : Unit91) (i p : ℕ) (channels : BTreeSet ℕ) → slice_get us i ≡ Some u → p ≤ i → ArePassed us p channels
    → ArePassed (removed i us) p channels
passed_stay us u i p channels e le known = (
  omega (arith, le, inside i us u e, length_less i us u e),
  subst AreAboveHeld (sym (behind_end us i p le)) known.1,
  λ n ge. known.2 n ge ∙ ap (list_any (is_on n)) (sym (behind_end us i p le)),
)

-- ---- one behind the others

pub passed_behind : (us : List Unit91) (u : Unit91) (p : ℕ) (channels : BTreeSet ℕ) → ArePassed us p channels → ArePassed (us ++ u ∷ []) p channels
passed_behind us u p channels known = (
  omega (arith, known.0, length-append us (u ∷ [])),
  subst AreAboveHeld (sym (take-append-le p us (u ∷ []) known.0)) known.1,
  λ n ge. known.2 n ge ∙ ap (list_any (is_on n)) (sym (take-append-le p us (u ∷ []) known.0)),
)
