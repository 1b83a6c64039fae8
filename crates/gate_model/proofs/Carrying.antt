-- The session of a channel is what the steps say of it.
use Rattle.std.proofs.Common.{◌≡◌, ◌⊎◌, ℕ, zero, suc, ◌<◌, ◌≤◌, true, List, [], ◌∷◌, length, arith, inl, inr, refl, sym, ap, ◌∙◌, subst}
use Rattle.gate_model.specs.declared.life.Life.{Life}
use Rattle.gate_model.specs.Folds.{carrying}
use Rattle.gate_model.specs.Lives.{life_at, no_life}
use Rattle.gate_model.specs.Picks.{ArePicks}
use Rattle.gate_model.specs.Session.{is_flow_owed, no_session}
use Rattle.gate_model.specs.State.{Step, before}
use Rattle.gate_model.proofs.Basics.{below_or_not}
use Rattle.gate_model.proofs.Carried.{at}
use Rattle.gate_model.proofs.Known.{known}
use Rattle.gate_model.proofs.Lives.{lives_all}

pub carries_in : (h : List Step) → ArePicks h → (n : ℕ) → n < 256 → at n (before h).lives ≡ carrying n h
carries_in h p = (known h p).carries

-- a session of which a flow is owed is one of the 256
beyond : (n : ℕ) (ls : List Life) → length ls ≤ n → life_at ls n ≡ no_life
beyond n [] le = refl
beyond zero (l ∷ ls) le = absurd (some le)
  where
    some : length (l ∷ ls) ≤ 0 → ⊥
    some x = omega (arith, x)
beyond (suc n) (l ∷ ls) le = beyond n ls (omega (arith, le))

pub carries : (h : List Step) → ArePicks h → (n : ℕ) → is_flow_owed (life_at (before h).lives n).session ≡ true → (life_at (before h).lives n).session ≡ carrying n h
carries h p n owed = by (below_or_not n 256)
  where
    none : 256 ≤ n → is_flow_owed no_session ≡ true
    none le = ap (λ (l : Life). is_flow_owed l.session) (sym (beyond n (before h).lives (subst (λ (m : ℕ). m ≤ n) (sym (lives_all h p)) le))) ∙ owed

    by : (n < 256) ⊎ (256 ≤ n) → at n (before h).lives ≡ carrying n h
    by (inl lt) = carries_in h p n lt
    by (inr le) = absurd (let no : is_flow_owed no_session ≡ true = none le in cc)
