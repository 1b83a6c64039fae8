-- The flows that are asked for on each channel can be counted, where one was changed.
use Rattle.std.proofs.Common.{◌≡◌, ℕ, zero, suc, ◌<◌, ◌≤◌, ◌^◌, ◌-◌, List, [], ◌∷◌, length}
use Rattle.std.proofs.Common.{replicate, refl, sym, ap, subst, arith}
use Rattle.std.proofs.lemmas.List.Elements.{All-head, All-replicate, All-set, All-tail}
use Rattle.gate_model.specs.declared.life.Life.{Life}
use Rattle.gate_model.specs.Lives.{life_at, no_life, with_life}
use Rattle.bridge_core.specs.Flows.{FlowsFit, HasRoom}

none_fit : FlowsFit (replicate 256 no_life)
none_fit = All-replicate HasRoom 256 no_life (omega arith)

pub new_fit : (l : Life) → l ≡ no_life → FlowsFit (replicate 256 l)
new_fit l e = subst (λ (x : Life). FlowsFit (replicate 256 x)) (sym e) none_fit

pub set_fits : (n : ℕ) (l : Life) (ls : List Life) → l.session.echoes < 2 ^ 32 - 1 → FlowsFit ls → FlowsFit (with_life n l ls)
set_fits n l ls echoes all = All-set HasRoom ls n l echoes all

pub set_beyond : (n : ℕ) (l : Life) (ls : List Life) → length ls ≤ n → with_life n l ls ≡ ls
set_beyond n l [] e = refl
set_beyond zero l (x ∷ ls) e = absurd (omega (arith, e))
set_beyond (suc n) l (x ∷ ls) e = ap (λ (xs : List Life). x ∷ xs) (set_beyond n l ls (omega (arith, e)))

-- what is due on a channel has room, and put back it changes nothing
pub echoes_fit : (n : ℕ) (ls : List Life) → FlowsFit ls → (life_at ls n).session.echoes < 2 ^ 32 - 1
echoes_fit n [] fits = omega arith
echoes_fit zero (l ∷ ls) fits = All-head HasRoom l ls fits
echoes_fit (suc n) (l ∷ ls) fits = echoes_fit n ls (All-tail HasRoom l ls fits)

pub same_life : (n : ℕ) (ls : List Life) → with_life n (life_at ls n) ls ≡ ls
same_life n [] = refl
same_life zero (l ∷ ls) = refl
same_life (suc n) (l ∷ ls) = ap (λ (xs : List Life). l ∷ xs) (same_life n ls)
