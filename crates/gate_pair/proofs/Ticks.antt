-- A moment, and what it makes of silence.
use Rattle.std.proofs.Common.{◌≡◌, ◌∙◌, ℕ, Bool, true, false, if◌then◌else◌, List, [], ◌∷◌, ◌++◌}
use Rattle.std.proofs.Common.{refl}
use Rattle.gate_outside.specs.declared.ports.End.{End}
use Rattle.gate_outside.specs.declared.ports.End.TheVariants.{Client, Up}
use Rattle.gate_model.specs.Due.{is_silent}
use Rattle.gate_model.specs.State.{Step, Moment, Silent, before}
use Rattle.gate_pair.specs.Meaning.{Told, given_up, made, steps, ticked, watched}

-- what holds before an end is given up, and stays so where it is, holds behind that
watch_all : (P : List Step → Type 0) → ((end : End) (g : List Step) → is_silent (before g) end ≡ true → P g → P (Silent end ∷ g)) → (end : End) (g : List Step) → P g
    → P (given_up end (before g) ++ g)
watch_all P more end g x = by (is_silent (before g) end) refl
  where
    by : (b : Bool) → is_silent (before g) end ≡ b → P ((if b then Silent end ∷ [] else []) ++ g)
    by true e = more end g e x
    by false e = x

pub tick_all : (P : List Step → Type 0) → ((end : End) (g : List Step) → is_silent (before g) end ≡ true → P g → P (Silent end ∷ g)) → (ms : ℕ) (t : Told)
    → P (Moment ms ∷ steps t) → P (steps (ticked ms t))
tick_all P more ms t x =
    let u : Told = made (Moment ms ∷ []) t in
    watch_all P more Up (steps (watched Client u)) (watch_all P more Client (steps u) x)

-- and so of a word that it leaves
pub tick_keeps : {A : Type 0} (f : List Step → A) → ((end : End) (g : List Step) → f (Silent end ∷ g) ≡ f g) → (ms : ℕ) (t : Told)
    → f (steps (ticked ms t)) ≡ f (Moment ms ∷ steps t)
tick_keeps f same ms t = tick_all (λ (g : List Step). f g ≡ f (Moment ms ∷ steps t)) (λ end g e x. same end g ∙ x) ms t refl
