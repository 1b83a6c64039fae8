-- The places of the first units of the channels that are kept, with one unit more or less.
use Rattle.std.proofs.Common.{◌≡◌, ◌∙◌, ℕ, zero, suc, ◌+◌, ◌-◌, ◌^◌, ◌<◌, ◌≤◌, Bool, true, false, cond, not, List, [], ◌∷◌, ◌++◌}
use Rattle.std.proofs.Common.{Some, refl, sym, ap, arith, count_by, length, length-append, map, nat_lt, if◌then◌else◌}
use Rattle.std.proofs.lemmas.Bool.{eq-eqb, eqb-false, eqb-true, ltb-false, ltb-true, ne_eqb}
use Rattle.std.proofs.lemmas.List.Folds.{position_or_len_push}
use Rattle.std.proofs.lemmas.List.Sums.{prefix_len-le-length}
use Rattle.std.specs.List.{position_or_len}
use Rattle.std.specs.Prelude.{◌==◌, slice_get, slice_index_or, slice_set}
use Rattle.machine_091.specs.declared.unit.Unit91.{Unit91}
use Rattle.gate_model.specs.Queue.{removed}
use Rattle.bridge_core.specs.Held.{AreFirst, is_counted_at, moved_up, place_of}
use Rattle.bridge_core.proofs.Counts.{count_set}
use Rattle.bridge_core.proofs.FirstPlaces.{apart, first_moves, first_of_none, first_of_some, first_stays, no_later}

abbrev pos : ℕ → List Unit91 → ℕ
pos n us = position_or_len (is_counted_at n) us

-- ---- one more

push_other : (us : List Unit91) (u : Unit91) (n : ℕ) → is_counted_at n u ≡ false → pos n (us ++ u ∷ []) < length us + 1
    → (pos n (us ++ u ∷ []) ≡ pos n us) × (pos n us < length us)
push_other us u n other lt = by (pos n us == length us) refl (is_counted_at n u) other (position_or_len_push (is_counted_at n) us u)
  where
    by : (b : Bool) → (pos n us == length us) ≡ b → (c : Bool) → c ≡ false
        → pos n (us ++ u ∷ []) ≡ cond b (length us + cond c 0 1) (pos n us)
        → (pos n (us ++ u ∷ []) ≡ pos n us) × (pos n us < length us)
    by true e true f is = absurd cc
    by true e false f is = absurd (omega (arith, is, lt))
    by false e c f is =
        let never : pos n us ≡ length us → ⊥ = eqb-false (pos n us) (length us) e in
        (is, omega (arith, never, prefix_len-le-length (λ x. not (is_counted_at n x)) us))

push_first : (us : List Unit91) (u : Unit91) (n : ℕ) → is_counted_at n u ≡ true → pos n us ≡ length us → pos n (us ++ u ∷ []) ≡ length us
push_first us u n own none = by (pos n us == length us) refl (is_counted_at n u) own (position_or_len_push (is_counted_at n) us u)
  where
    by : (b : Bool) → (pos n us == length us) ≡ b → (c : Bool) → c ≡ true
        → pos n (us ++ u ∷ []) ≡ cond b (length us + cond c 0 1) (pos n us) → pos n (us ++ u ∷ []) ≡ length us
    by true e true f is = omega (arith, is)
    by true e false f is = absurd cc
    by false e c f is = absurd (eqb-false (pos n us) (length us) e none)

push_behind : (us : List Unit91) (u : Unit91) (n : ℕ) → pos n us < length us → pos n (us ++ u ∷ []) ≡ pos n us
push_behind us u n some = by (pos n us == length us) refl (position_or_len_push (is_counted_at n) us u)
  where
    by : (b : Bool) → (pos n us == length us) ≡ b
        → pos n (us ++ u ∷ []) ≡ cond b (length us + cond (is_counted_at n u) 0 1) (pos n us) → pos n (us ++ u ∷ []) ≡ pos n us
    by true e is = absurd (omega (arith, some, eqb-true (pos n us) (length us) e))
    by false e is = is

not_at : (u : Unit91) (k n : ℕ) → k ≡ place_of u → (k ≡ n → ⊥) → is_counted_at n u ≡ false
not_at u k n at other = ne_eqb (place_of u) n (λ same. other (at ∙ same))

-- the first of its channel
pub pushed_first : (us : List Unit91) (u : Unit91) (gone : ℕ) (firsts : List ℕ) (k : ℕ) → length firsts ≡ 257 → k ≡ place_of u
    → gone + length us + 1 < 2 ^ 64 → count_by (is_counted_at k) us ≡ 0 → AreFirst us gone firsts
    → AreFirst (us ++ u ∷ []) gone (slice_set firsts k (gone + length us))
pushed_first us u gone firsts k long at bound none known =
    (omega (arith, bound, length-append us (u ∷ [])), λ n lt some. count_set firsts k n (gone + length us) long lt ∙ by n lt (k == n) refl (omega (arith, some, length-append us (u ∷ []))))
  where
    by : (n : ℕ) → n < 257 → (b : Bool) → (k == n) ≡ b → pos n (us ++ u ∷ []) < length us + 1
        → (if b then gone + length us else slice_index_or firsts n 0) ≡ gone + pos n (us ++ u ∷ [])
    by n lt true e some =
        let same : k ≡ n = eqb-true k n e in
        let own : is_counted_at n u ≡ true = eq-eqb (place_of u) n (sym at ∙ same) in
        let all : pos n us ≡ length us = first_of_none (is_counted_at n) us (ap (λ (j : ℕ). count_by (is_counted_at j) us) (sym same) ∙ none) in
        ap (λ (j : ℕ). gone + j) (sym (push_first us u n own all))
    by n lt false e some =
        let kept : (pos n (us ++ u ∷ []) ≡ pos n us) × (pos n us < length us) = push_other us u n (not_at u k n at (eqb-false k n e)) some in
        known.1 n lt kept.1 ∙ ap (λ (j : ℕ). gone + j) (sym kept.0)

-- one behind another of its channel
pub pushed_behind : (us : List Unit91) (u : Unit91) (gone : ℕ) (firsts : List ℕ) (k : ℕ) → k ≡ place_of u → gone + length us + 1 < 2 ^ 64
    → 1 ≤ count_by (is_counted_at k) us → AreFirst us gone firsts → AreFirst (us ++ u ∷ []) gone firsts
pushed_behind us u gone firsts k at bound more known =
    (omega (arith, bound, length-append us (u ∷ [])), λ n lt some. by n lt (k == n) refl (omega (arith, some, length-append us (u ∷ []))))
  where
    by : (n : ℕ) → n < 257 → (b : Bool) → (k == n) ≡ b → pos n (us ++ u ∷ []) < length us + 1
        → slice_index_or firsts n 0 ≡ gone + pos n (us ++ u ∷ [])
    by n lt true e some =
        let same : k ≡ n = eqb-true k n e in
        let there : pos n us < length us = first_of_some (is_counted_at n) us (omega (arith, more, ap (λ (j : ℕ). count_by (is_counted_at j) us) same)) in
        known.1 n lt there ∙ ap (λ (j : ℕ). gone + j) (sym (push_behind us u n there))
    by n lt false e some =
        let kept : (pos n (us ++ u ∷ []) ≡ pos n us) × (pos n us < length us) = push_other us u n (not_at u k n at (eqb-false k n e)) some in
        known.1 n lt kept.1 ∙ ap (λ (j : ℕ). gone + j) (sym kept.0)

-- ---- one less

pub length_less : (i : ℕ) (us : List Unit91) (u : Unit91) → slice_get us i ≡ Some u → length (removed i us) + 1 ≡ length us
length_less i [] u e = absurd cc
length_less zero (v ∷ us) u e = omega arith
length_less (suc i) (v ∷ us) u e = omega (arith, length_less i us u e)

-- of another channel, where the front went
pub front_other : (us : List Unit91) (u : Unit91) (gone : ℕ) (firsts : List ℕ) (k n : ℕ) → slice_get us 0 ≡ Some u → k ≡ place_of u → AreFirst us gone firsts
    → n < 257 → (k ≡ n → ⊥) → pos n (removed 0 us) < length (removed 0 us) → slice_index_or firsts n 0 ≡ (gone + 1) + pos n (removed 0 us)
front_other us u gone firsts k n e at known lt other some =
    let behind : pos n us ≡ 0 → ⊥ = apart (is_counted_at n) 0 us u e (not_at u k n at other) in
    let less : pos n (removed 0 us) + 1 ≡ pos n us = first_moves (is_counted_at n) 0 us (omega (arith, behind)) in
    known.1 n lt (omega (arith, less, some, length_less 0 us u e)) ∙ omega (arith, less)

map_reads : (f : ℕ → ℕ) (xs : List ℕ) (n : ℕ) → n < length xs → slice_index_or (map f xs) n 0 ≡ f (slice_index_or xs n 0)
map_reads f [] n lt = absurd (omega (arith, lt))
map_reads f (x ∷ xs) zero lt = refl
map_reads f (x ∷ xs) (suc n) lt = map_reads f xs n (omega (arith, lt))

up : (at p q : ℕ) → at < p → q + 1 ≡ p → moved_up at p ≡ q
up at p q lt less = by (nat_lt at p) refl
  where
    by : (b : Bool) → nat_lt at p ≡ b → (if b then p - 1 else p) ≡ q
    by true e = omega (arith, less)
    by false e = absurd (omega (arith, lt, ltb-false at p e))

stays : (at p : ℕ) → p ≤ at → moved_up at p ≡ p
stays at p le = by (nat_lt at p) refl
  where
    by : (b : Bool) → nat_lt at p ≡ b → (if b then p - 1 else p) ≡ p
    by true e = absurd (omega (arith, le, ltb-true at p e))
    by false e = refl

-- of another channel, where one behind the front went
pub behind_other : (us : List Unit91) (u : Unit91) (gone : ℕ) (firsts : List ℕ) (k n i : ℕ) → slice_get us i ≡ Some u → k ≡ place_of u → length firsts ≡ 257
    → AreFirst us gone firsts → n < 257 → (k ≡ n → ⊥) → pos n (removed i us) < length (removed i us)
    → slice_index_or (map (moved_up (gone + i)) firsts) n 0 ≡ gone + pos n (removed i us)
behind_other us u gone firsts k n i e at long known lt other some =
    map_reads (moved_up (gone + i)) firsts n (omega (arith, long, lt)) ∙ by (nat_lt i (pos n us)) refl
  where
    by : (b : Bool) → nat_lt i (pos n us) ≡ b → moved_up (gone + i) (slice_index_or firsts n 0) ≡ gone + pos n (removed i us)
    by true is =
        let before : i < pos n us = ltb-true i (pos n us) is in
        let less : pos n (removed i us) + 1 ≡ pos n us = first_moves (is_counted_at n) i us before in
        let place : slice_index_or firsts n 0 ≡ gone + pos n us = known.1 n lt (omega (arith, less, some, length_less i us u e)) in
        up (gone + i) (slice_index_or firsts n 0) (gone + pos n (removed i us)) (omega (arith, place, before)) (omega (arith, place, less))
    by false is =
        let not_there : pos n us ≡ i → ⊥ = apart (is_counted_at n) i us u e (not_at u k n at other) in
        let before : pos n us < i = omega (arith, not_there, ltb-false i (pos n us) is) in
        let same : pos n (removed i us) ≡ pos n us = first_stays (is_counted_at n) i us before in
        let place : slice_index_or firsts n 0 ≡ gone + pos n us = known.1 n lt (omega (arith, same, some, length_less i us u e)) in
        stays (gone + i) (slice_index_or firsts n 0) (omega (arith, place, before)) ∙ place ∙ ap (λ (j : ℕ). gone + j) (sym same)

-- of its own channel, where it wasn't the first
pub behind_own : (us : List Unit91) (u : Unit91) (gone : ℕ) (firsts : List ℕ) (k i : ℕ) → slice_get us i ≡ Some u → k ≡ place_of u → length firsts ≡ 257
    → AreFirst us gone firsts → k < 257 → (slice_index_or firsts k 0 ≡ gone + i → ⊥)
    → slice_index_or (map (moved_up (gone + i)) firsts) k 0 ≡ gone + pos k (removed i us)
behind_own us u gone firsts k i e at long known lt other =
    let own : is_counted_at k u ≡ true = eq-eqb (place_of u) k (sym at) in
    let le : pos k us ≤ i = no_later (is_counted_at k) i us u e own in
    let within : pos k us < length us = omega (arith, le, length_less i us u e, inside i us u e) in
    let place : slice_index_or firsts k 0 ≡ gone + pos k us = known.1 k lt within in
    let before : pos k us < i = apart_by (pos k us) i gone (slice_index_or firsts k 0) place le other in
    map_reads (moved_up (gone + i)) firsts k (omega (arith, long, lt))
    ∙ stays (gone + i) (slice_index_or firsts k 0) (omega (arith, place, before)) ∙ place
    ∙ ap (λ (j : ℕ). gone + j) (sym (first_stays (is_counted_at k) i us before))
  where
    inside : (i : ℕ) (us : List Unit91) (u : Unit91) → slice_get us i ≡ Some u → i < length us
    inside i [] u e = absurd cc
    inside zero (v ∷ us) u e = omega arith
    inside (suc i) (v ∷ us) u e = omega (arith, inside i us u e)

    apart_by : (p i gone first : ℕ) → first ≡ gone + p → p ≤ i → (first ≡ gone + i → ⊥) → p < i
    apart_by p i gone first place le other = by (nat_lt p i) refl
      where
        by : (b : Bool) → nat_lt p i ≡ b → p < i
        by true e = ltb-true p i e
        by false e = absurd (other (omega (arith, place, le, ltb-false p i e)))
