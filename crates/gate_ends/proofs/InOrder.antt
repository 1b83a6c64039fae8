-- Bytes that go out in their order, one write after another.
use Rattle.std.proofs.Common.{◌≡◌, ℕ, List, [], ◌++◌, Option, None, Some, Bool, true, false, refl}
use Rattle.std.proofs.Common.{sym, ap, subst, ◌∙◌}
use Rattle.std.proofs.lemmas.List.{append-nil, append_assoc}
use Rattle.gate_outside.specs.declared.ports.Put.{Put}
use Rattle.gate_outside.specs.declared.ports.Put.TheVariants as put
use Rattle.gate_ends.specs.Streams.{put_bytes, SameInAll}

-- what is written then
pub then_in_order : (a b c : Option (List ℕ)) (waited between more waits : List ℕ) → SameInAll a waited b between → SameInAll b (between ++ more) c waits
    → SameInAll a (waited ++ more) c waits
then_in_order None b c waited between more waits first then = tt
then_in_order (Some sent) None c waited between more waits first then = absurd first
then_in_order (Some sent) (Some t) None waited between more waits first then = absurd then
then_in_order (Some sent) (Some t) (Some m) waited between more waits first then =
    then ∙ sym (append_assoc t between more) ∙ ap (λ (xs : List ℕ). xs ++ more) first ∙ append_assoc sent waited more

-- the same where a write between took nothing
pub past_in_order : (a b c d : Option (List ℕ)) (waited between more waits bytes : List ℕ) (p : Put) → p ≡ put.NotYet → SameInAll a waited b between
    → SameInAll b (between ++ put_bytes p bytes) c between → SameInAll c (between ++ more) d waits → SameInAll a (waited ++ more) d waits
past_in_order a b c d waited between more waits bytes p none first past then =
    let still = subst (λ (q : Put). SameInAll b (between ++ put_bytes q bytes) c between) none past in
    let kept = subst (λ (xs : List ℕ). SameInAll a xs c between) (append-nil waited) (then_in_order a b c waited between [] between first still) in
    then_in_order a c d waited between more waits kept then

-- a write that didn't fail left nothing failed
pub not_failed : (b : Bool) (p : Put) → (b ≡ true → p ≡ put.Failed) → (p ≡ put.Failed → ⊥) → b ≡ false
not_failed true p fails well = absurd (well (fails refl))
not_failed false p fails well = refl
