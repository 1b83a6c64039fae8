-- The places that are kept of the first units once one went: of its own channel, and of the others.
use Rattle.std.proofs.Common.{◌≡◌, ◌∙◌, ℕ, ◌+◌, ◌^◌, ◌<◌, Bool, true, false, List, refl, sym, ap, subst, length, if◌then◌else◌}
use Rattle.std.proofs.lemmas.Bool.{eqb-false, eqb-true}
use Rattle.std.specs.List.{position_or_len}
use Rattle.std.specs.Prelude.{◌==◌, slice_index_or, slice_set}
use Rattle.machine_091.specs.declared.unit.Unit91.{Unit91}
use Rattle.bridge_core.specs.Held.{AreFirst, is_counted_at}
use Rattle.bridge_core.proofs.Counts.{count_set}

abbrev pos : ℕ → List Unit91 → ℕ
pos n us = position_or_len (is_counted_at n) us

-- of all channels but one
abbrev pub AreOthers : List Unit91 → ℕ → List ℕ → ℕ → Type 0
AreOthers us gone firsts k =
    (n : ℕ) → n < 257 → (k ≡ n → ⊥) → position_or_len (is_counted_at n) us < length us
    → slice_index_or firsts n 0 ≡ gone + position_or_len (is_counted_at n) us

-- that of the one is looked for again
pub own_set : (us : List Unit91) (gone : ℕ) (firsts : List ℕ) (k place : ℕ) → length firsts ≡ 257 → gone + length us < 2 ^ 64 → AreOthers us gone firsts k
    → place ≡ gone + position_or_len (is_counted_at k) us → AreFirst us gone (slice_set firsts k place)
own_set us gone firsts k place long bound others own = (bound, λ n lt some. count_set firsts k n place long lt ∙ by n lt (k == n) refl some)
  where
    by : (n : ℕ) → n < 257 → (b : Bool) → (k == n) ≡ b → pos n us < length us → (if b then place else slice_index_or firsts n 0) ≡ gone + pos n us
    by n lt true e some = own ∙ ap (λ (j : ℕ). gone + pos j us) (eqb-true k n e)
    by n lt false e some = others n lt (eqb-false k n e) some

-- that of the one stays
pub own_stays : (us : List Unit91) (gone : ℕ) (firsts : List ℕ) (k : ℕ) → gone + length us < 2 ^ 64 → AreOthers us gone firsts k
    → (position_or_len (is_counted_at k) us < length us → slice_index_or firsts k 0 ≡ gone + position_or_len (is_counted_at k) us) → AreFirst us gone firsts
own_stays us gone firsts k bound others own = (bound, λ n lt some. by n lt (k == n) refl some)
  where
    by : (n : ℕ) → n < 257 → (b : Bool) → (k == n) ≡ b → pos n us < length us → slice_index_or firsts n 0 ≡ gone + pos n us
    by n lt true e some =
        let same : k ≡ n = eqb-true k n e in
        subst (λ (j : ℕ). slice_index_or firsts j 0 ≡ gone + pos j us) same (own (subst (λ (j : ℕ). pos j us < length us) (sym same) some))
    by n lt false e some = others n lt (eqb-false k n e) some
