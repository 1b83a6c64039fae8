-- What holds of the first of each row holds of the first of all rows.
use Rattle.std.proofs.Common.{◌≡◌, ℕ, zero, suc, ◌+◌, Bool, true, false, List, [], ◌∷◌, ◌++◌, arith}
use Rattle.std.proofs.Common.{subst}
use Rattle.std.specs.Prelude.{IfSome}
use Rattle.gate_model.specs.declared.life.Life.{Life}
use Rattle.gate_model.specs.Lives.{each, life_at}
use Rattle.gate_model.specs.Upstream.{first, when_up}
use Rattle.gate_model.specs.Due.{when}
use Rattle.gate_model.specs.declared.outgoing.UpUnit.{UpUnit}
use Rattle.gate_model.specs.declared.reply.Reply.{Reply}

abbrev pub FirstIs : {A : Type 0} → (A → Type 0) → List A → Type 0
FirstIs P us = IfSome (first us) P

pub both_are : {A : Type 0} (P : A → Type 0) (us vs : List A) → FirstIs P us → FirstIs P vs → FirstIs P (us ++ vs)
both_are P [] vs p q = q
both_are P (u ∷ us) vs p q = p

each_from : {A : Type 0} (P : A → Type 0) (f : ℕ → Life → List A) (n : ℕ) (ls : List Life) → ((k : ℕ) → FirstIs P (f (n + k) (life_at ls k))) → FirstIs P (each f n ls)
each_from P f n [] is = tt
each_from P f n (l ∷ ls) is =
    let here : n + zero ≡ n = omega arith in
    both_are P (f n l) (each f (n + 1) ls) (subst (λ (m : ℕ). FirstIs P (f m l)) here (is zero)) (each_from P f (n + 1) ls later)
  where
    later : (k : ℕ) → FirstIs P (f ((n + 1) + k) (life_at ls k))
    later k = let next : n + suc k ≡ (n + 1) + k = omega arith in subst (λ (m : ℕ). FirstIs P (f m (life_at ls k))) next (is (suc k))

-- by the numbers of channels
pub each_is : {A : Type 0} (P : A → Type 0) (f : ℕ → Life → List A) (ls : List Life) → ((n : ℕ) → FirstIs P (f n (life_at ls n))) → FirstIs P (each f 0 ls)
each_is P f ls is = each_from P f 0 ls (λ k. let same : k ≡ 0 + k = omega arith in subst (λ (m : ℕ). FirstIs P (f m (life_at ls k))) same (is k))

pub when_up_is : (P : UpUnit → Type 0) (b : Bool) (u : UpUnit) → P u → FirstIs P (when_up b u)
when_up_is P true u p = p
when_up_is P false u p = tt

pub when_is : (P : Reply → Type 0) (b : Bool) (u : Reply) → P u → FirstIs P (when b u)
when_is P true u p = p
when_is P false u p = tt
