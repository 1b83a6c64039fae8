-- The bytes that units count, whether bad bytes are among them, and one of them more or less.
use Rattle.std.proofs.Common.{◌≡◌, ◌∙◌, ℕ, zero, suc, ◌+◌, ◌<◌, List, [], ◌∷◌, ◌++◌, Some, length, refl}
use Rattle.std.proofs.Common.{Bool, true, false, sym, ap, arith}
use Rattle.std.specs.Prelude.{◌||◌, if◌then◌else◌, slice_get, slice_index_or}
use Rattle.std.specs.List.{list_any, remove}
use Rattle.std.proofs.lemmas.List.Folds.{list_any-append}
use Rattle.machine_091.specs.declared.unit.Unit91.{Unit91}
use Rattle.gate_model.specs.Queue.{is_bad_unit, payload_of, payloads, removed}

pub payloads_more : (us : List Unit91) (u : Unit91) → payloads (us ++ u ∷ []) ≡ payloads us + payload_of u
payloads_more [] u = omega arith
payloads_more (v ∷ us) u = omega (arith, payloads_more us u)

pub payloads_less : (i : ℕ) (us : List Unit91) (u : Unit91) → slice_get us i ≡ Some u → payload_of u + payloads (removed i us) ≡ payloads us
payloads_less i [] u e = absurd cc
payloads_less zero (v ∷ us) u e = let here : v ≡ u = cc in ap (λ (x : Unit91). payload_of x + payloads us) (sym here)
payloads_less (suc i) (v ∷ us) u e = omega (arith, payloads_less i us u e)

-- bad bytes are among them, with one more, and without one that isn't bad
pub bad_more : (us : List Unit91) (u : Unit91) → list_any is_bad_unit (us ++ u ∷ []) ≡ (list_any is_bad_unit us || is_bad_unit u)
bad_more us u = list_any-append is_bad_unit us (u ∷ []) ∙ ap (λ b. list_any is_bad_unit us || b) (alone (is_bad_unit u))
  where
    alone : (b : Bool) → (b || false) ≡ b
    alone true = refl
    alone false = refl

pub any_stays : (p : Unit91 → Bool) (i : ℕ) (us : List Unit91) (u : Unit91) → slice_get us i ≡ Some u → p u ≡ false
    → list_any p (removed i us) ≡ list_any p us
any_stays p i [] u e fails = absurd cc
any_stays p zero (v ∷ us) u e fails =
    let here : v ≡ u = cc in ap (λ b. b || list_any p us) (sym (ap p here ∙ fails))
any_stays p (suc i) (v ∷ us) u e fails = ap (λ b. p v || b) (any_stays p i us u e fails)

pub bad_less : (i : ℕ) (us : List Unit91) (u : Unit91) (bad : Bool) → slice_get us i ≡ Some u → bad ≡ list_any is_bad_unit us
    → (if is_bad_unit u then list_any is_bad_unit (removed i us) else bad) ≡ list_any is_bad_unit (removed i us)
bad_less i us u bad here e = by (is_bad_unit u) refl
  where
    by : (b : Bool) → is_bad_unit u ≡ b → (if b then list_any is_bad_unit (removed i us) else bad) ≡ list_any is_bad_unit (removed i us)
    by true is = refl
    by false is = e ∙ sym (any_stays is_bad_unit i us u here is)

-- the unit at a place, and the others
pub taken_out : (i : ℕ) (us : List Unit91) → removed i us ≡ remove us i
taken_out zero [] = refl
taken_out (suc i) [] = refl
taken_out zero (u ∷ us) = refl
taken_out (suc i) (u ∷ us) = ap (λ (x : List Unit91). u ∷ x) (taken_out i us)

pub stands_at : (i : ℕ) (us : List Unit91) (d : Unit91) → i < length us → slice_get us i ≡ Some (slice_index_or us i d)
stands_at i [] d lt = absurd (omega (arith, lt))
stands_at zero (u ∷ us) d lt = refl
stands_at (suc i) (u ∷ us) d lt = stands_at i us d (omega (arith, lt))
