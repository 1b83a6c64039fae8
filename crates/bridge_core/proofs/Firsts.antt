-- The first unit of those that are due is what goes.
use Rattle.std.proofs.Common.{◌≡◌, ◌∙◌, ℕ, List, [], ◌∷◌, ◌++◌, Option, None, Some, map, refl, sym}
use Rattle.std.proofs.Common.{ap}
use Rattle.std.specs.Option.{option_map}
use Rattle.gate_model.specs.declared.outgoing.Outgoing.{Outgoing}
use Rattle.gate_model.specs.declared.outgoing.Outgoing.TheVariants.{ToClient}
use Rattle.gate_model.specs.declared.reply.Reply.{Reply}
use Rattle.gate_model.specs.Due.{carries_back}
use Rattle.gate_model.specs.Spelling.{spell_reply}
use Rattle.gate_model.specs.State.{State}
use Rattle.gate_model.specs.Upstream.{first}
use Rattle.bridge_core.specs.Offers.{client_bytes}

first_map : {A B : Type 0} (f : A → B) (xs : List A) → first (map f xs) ≡ option_map f (first xs)
first_map f [] = refl
first_map f (x ∷ xs) = refl

pub first_bytes : (w : State) (us : List Reply) (u : Reply) (old : List ℕ) → Some u ≡ first us → client_bytes w (first (map ToClient us)) old ≡ spell_reply u (carries_back w u)
first_bytes w us u old e =
    ap (λ (o : Option Outgoing). client_bytes w o old) (first_map ToClient us ∙ ap (option_map ToClient) (sym e))

-- of two rows that of the first, or where it has none that of the second
pub first_some : {A : Type 0} (xs ys : List A) (u : A) → Some u ≡ first xs → first (xs ++ ys) ≡ Some u
first_some [] ys u e = absurd cc
first_some (x ∷ xs) ys u e = sym e

pub first_none : {A : Type 0} (xs ys : List A) → None ≡ first xs → first (xs ++ ys) ≡ first ys
first_none [] ys e = refl
first_none (x ∷ xs) ys e = absurd cc
