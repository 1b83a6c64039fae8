-- The least place of the first units of the channels that wait for nothing, one channel further.
use Rattle.std.proofs.Common.{◌≡◌, ◌∙◌, ℕ, zero, suc, ◌+◌, ◌<◌, ◌≤◌, Bool, true, false, List, [], ◌∷◌, None, Option, Some, nat_lt, not}
use Rattle.std.proofs.Common.{refl, sym, ap, subst, arith, take, length}
use Rattle.std.proofs.lemmas.Bool.{eqb-true, ltb-false, ltb-true}
use Rattle.std.proofs.lemmas.List.Sums.{prefix_len-le-length}
use Rattle.std.specs.Prelude.{IfSome, min, slice_get, slice_index_or}
use Rattle.std.specs.List.{position_or_len}
use Rattle.machine_091.specs.declared.unit.Unit91.{Unit91}
use Rattle.machine_091.specs.declared.unit.Unit91.TheVariants as unit
use Rattle.gate_model.specs.Queue.{Waits, can_take, channel_of, place_in, waits_for_all}
use Rattle.bridge_core.specs.Held.{FrontWaits, IsFree, IsFreeAbove, NoneBefore, NoneOn, is_counted_at, place_of}
use Rattle.bridge_core.proofs.Payloads.{stands_at}
use Rattle.bridge_core.proofs.FirstPlaces.{apart}
use Rattle.bridge_core.proofs.Search.{found, free_above, free_there, none_found, none_on_first, one_further}

abbrev pos : ℕ → List Unit91 → ℕ
pos n us = position_or_len (is_counted_at n) us

-- what stands at the place of a channel's first is of that channel
pub of_own : (us : List Unit91) (n i : ℕ) (u : Unit91) → i ≡ position_or_len (is_counted_at n) us → slice_get us i ≡ Some u → place_of u ≡ n
of_own us n i u is e = by (is_counted_at n u) refl
  where
    by : (b : Bool) → is_counted_at n u ≡ b → place_of u ≡ n
    by true passes = eqb-true (place_of u) n passes
    by false fails = absurd (apart (is_counted_at n) i us u e fails (sym is))

pub inside : (i : ℕ) (us : List Unit91) (u : Unit91) → slice_get us i ≡ Some u → i < length us
inside i [] u e = absurd cc
inside zero (v ∷ us) u e = omega arith
inside (suc i) (v ∷ us) u e = omega (arith, inside i us u e)

pub front_waits : (q : Waits) (us : List Unit91) (b : Bool) → IfSome (slice_get us 0) (λ u. b ≡ can_take q [] u) → b ≡ false → FrontWaits q us
front_waits q us b can is u here = sym (subst (λ (o : Option Unit91). IfSome o (λ v. b ≡ can_take q [] v)) here can) ∙ is

-- of the channels below a number, where none of channel 0 stands before
abbrev pub IsLeast : Waits → List Unit91 → ℕ → ℕ → Type 0
IsLeast q us i m =
    (m ≤ position_or_len (is_counted_at 0) us) × NoneBefore q us i m
    × (m < position_or_len (is_counted_at 0) us → IfSome (slice_get us m) (λ u. can_take q (take m us) u ≡ true))

-- none of a channel can be taken up
pub least_stays : (q : Waits) (us : List Unit91) (i m : ℕ) → IsLeast q us i m → NoneOn q us i (length us) → IsLeast q us (i + 1) m
least_stays q us i m least none = (
  least.0,
  one_further q us i m m (omega arith) least.1 (λ j u e lt at. none j u e (inside j us u e) at),
  least.2,
)

-- its first can be
pub least_moves : (q : Waits) (us : List Unit91) (i m place least : ℕ) → q.opening ≡ false → place < length us → IfSome (slice_get us place) (IsFree q us i place)
    → least ≡ min m place → IsLeast q us i m → IsLeast q us (i + 1) least
least_moves q us i m place least opening lt free is known = by (nat_lt place m) refl
  where
    u : Unit91
    u = slice_index_or us place unit.Protocol

    here : slice_get us place ≡ Some u
    here = stands_at place us unit.Protocol lt

    own : IsFree q us i place u
    own = subst (λ (o : Option Unit91). IfSome o (IsFree q us i place)) here free

    by : (b : Bool) → nat_lt place m ≡ b → IsLeast q us (i + 1) least
    by true e =
        let before : place < m = ltb-true place m e in
        let all : place ≤ pos 0 us = omega (arith, before, known.0) in
        let can : can_take q (take place us) u ≡ true =
        free_there q us place u opening own.3 own.2 all (omega (arith, own.0, ap (λ (n : ℕ). pos n us) own.1)) in
        subst (IsLeast q us (i + 1)) (omega (arith, is, before)) (
          all,
          one_further q us i m place (omega (arith, before)) known.1 (none_on_first q us i place (omega (arith, own.0))),
          λ some. subst (λ (o : Option Unit91). IfSome o (λ v. can_take q (take place us) v ≡ true)) (sym here) can,
        )
    by false e =
        let behind : m ≤ place = omega (arith, ltb-false place m e) in
        subst (IsLeast q us (i + 1)) (omega (arith, is, behind)) (
          known.0,
          one_further q us i m m (omega arith) known.1 (none_on_first q us i m (omega (arith, behind, own.0))),
          known.2,
        )

-- ---- on one channel

-- its first waits neither for all before it nor for a request
pub own_free : (q : Waits) (us : List Unit91) (n i : ℕ) (u : Unit91) → n < 256 → i ≡ position_or_len (is_counted_at n) us → slice_get us i ≡ Some u
    → waits_for_all u ≡ false → q.channel n ≡ false → IfSome (slice_get us i) (IsFree q us n i)
own_free q us n i u lt is here all waits =
    let own : place_of u ≡ n = of_own us n i u is here in
    let of : channel_of u ≡ n = omega (arith, own, lt) in
    subst (λ (o : Option Unit91). IfSome o (IsFree q us n i)) (sym here) (is, own, all, ap q.channel of ∙ waits)

-- none is there
past : (i : ℕ) (us : List Unit91) → slice_get us i ≡ None → length us ≤ i
past i [] e = omega arith
past zero (v ∷ us) e = absurd cc
past (suc i) (v ∷ us) e = omega (arith, past i us e)

pub none_on_none : (q : Waits) (us : List Unit91) (n i : ℕ) → i ≡ position_or_len (is_counted_at n) us → slice_get us i ≡ None → NoneOn q us n (length us)
none_on_none q us n i is e = none_on_first q us n (length us) (omega (arith, past i us e, is))

-- ---- the first of all

-- of all channels, where none above those of a client can be taken up before
pub none_of_all : (q : Waits) (us : List Unit91) (i m k : ℕ) → 256 ≤ i → k ≤ m → NoneBefore q us i m → NoneOn q us 256 k → NoneBefore q us 257 k
none_of_all q us i m k le within none above = one_further q us 256 m k within (λ j u e before below. none j u e before (omega (arith, below, le))) above

pub none_fewer : (q : Waits) (us : List Unit91) (n m k : ℕ) → m ≤ k → NoneOn q us n k → NoneOn q us n m
none_fewer q us n m k le none j u e lt at = none j u e (omega (arith, lt, le)) at

-- it is the first of a channel, and none of channel 0 stands before
pub least_found : (q : Waits) (us : List Unit91) (i m : ℕ) → 256 ≤ i → IsLeast q us i m → NoneOn q us 256 m
    → m < position_or_len (is_counted_at 0) us → place_in q us ≡ Some m
least_found q us i m le least above lt =
    found q us m (omega (arith, lt, prefix_len-le-length (λ x. not (is_counted_at 0 x)) us)) (none_of_all q us i m m le (omega arith) least.1 above) (least.2 lt)

pub least_none : (q : Waits) (us : List Unit91) (i m : ℕ) → 256 ≤ i → IsLeast q us i m → NoneOn q us 256 m
    → position_or_len (is_counted_at 0) us ≤ m → FrontWaits q us → place_in q us ≡ None
least_none q us i m le least above ge front =
    none_found q us m front (omega (arith, ge, least.0)) (omega (arith, least.0, prefix_len-le-length (λ x. not (is_counted_at 0 x)) us))
    (none_of_all q us i m m le (omega arith) least.1 above)

-- one of a channel above those of a client
pub above_found : (q : Waits) (us : List Unit91) (i : ℕ) (u : Unit91) → q.opening ≡ false → i ≤ position_or_len (is_counted_at 0) us
    → NoneBefore q us 257 i → slice_get us i ≡ Some u → IsFreeAbove us i u → q.channel (channel_of u) ≡ false → place_in q us ≡ Some i
above_found q us i u opening all none here free channel =
    found q us i (inside i us u here) none
    (subst (λ (o : Option Unit91). IfSome o (λ v. can_take q (take i us) v ≡ true)) (sym here) (free_above q us i u opening channel free all))
