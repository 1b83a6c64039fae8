-- The loop of a take-up, over states alone.
use Rattle.std.proofs.Common.{◌≡◌, ◌∙◌, ℕ, zero, suc, ◌-◌, ◌+◌, ◌<◌, ◌≤◌, true, false, List, []}
use Rattle.std.proofs.Common.{◌∷◌, ◌++◌, Option, Some, None, refl, sym, ap, subst, arith, length}
use Rattle.std.proofs.Common.{append_assoc}
use Rattle.std.specs.Prelude.{is_some}
use Rattle.machine_091.specs.declared.unit.Unit91.{Unit91}
use Rattle.gate_model.specs.State.{State, Step, Came, OutOfMemory, next_unit, step}
use Rattle.bridge_core.specs.Offers.{with_next}
use Rattle.gate_pair.specs.Cutting.{after, on_next, settled}
use Rattle.gate_pair.specs.PairStates.{IsCut, Settles, SettlesInPart}

pub less_one : (n i : ℕ) → i < n → n - i ≡ suc (n - (i + 1))
less_one n i lt = omega arith

-- steps were added in front
pub record Grows (k all : List Step) : Type 0 where
  pub newer : List Step
  pub parts : all ≡ newer ++ k

pub grows_more : (a b c : List Step) → Grows a b → Grows b c → Grows a c
grows_more a b c p q = record { newer = q.newer ++ p.newer; parts = q.parts ∙ ap (λ (x : List Step). q.newer ++ x) p.parts ∙ sym (append_assoc q.newer p.newer a) }

-- so far a take-up has the steps k since w
pub record Running (w : State) (g : List Step) (now : State) (left n : ℕ) : Type 0 where
  pub k : List Step
  pub here : now ≡ after k w
  pub same : settled w left k ≡ settled w n g

pub record Runs (old now : State) (left n : ℕ) : Type 0 where
  pub runs : (w : State) (g : List Step) → old ≡ after g w → Running w g now left n

pub run_start : (old : State) (n : ℕ) → Runs old old n n
run_start old n = record { runs = λ w g e. record { k = g; here = e; same = refl } }

-- one more
step_settled : (w : State) (k : List Step) (left : ℕ) (o : Option Unit91) → next_unit (after k w) ≡ o
    → settled w (suc left) k ≡ on_next o k (λ u. settled w left (Came u ∷ k))
step_settled w k left o e = ap (λ (x : Option Unit91). on_next x k (λ u. settled w left (Came u ∷ k))) e

run_more : (old now next : State) (u : Unit91) (left n : ℕ) → Runs old now (suc left) n → next_unit now ≡ Some u → next ≡ step now (Came u) → Runs old next left n
run_more old now next u left n r some e = record {
  runs = λ w g is.
      let x : Running w g now (suc left) n = r.runs w g is in
      record {
        k = Came u ∷ x.k;
        here = e ∙ ap (λ (v : State). step v (Came u)) x.here;
        same = sym (step_settled w x.k left (Some u) (sym (ap next_unit x.here) ∙ some)) ∙ x.same;
      };
}

-- none can be taken up any more
run_done : (old now : State) (left n : ℕ) → Runs old now (suc left) n → next_unit now ≡ None → (w : State) (g : List Step) → old ≡ after g w → now ≡ after (settled w n g) w
run_done old now left n r none w g is =
    let x : Running w g now (suc left) n = r.runs w g is in
    x.here ∙ ap (λ (k : List Step). after k w) (sym (step_settled w x.k left None (sym (ap next_unit x.here) ∙ none)) ∙ x.same)

run_end : (old now : State) (n : ℕ) → Runs old now 0 n → (w : State) (g : List Step) → old ≡ after g w → now ≡ after (settled w n g) w
run_end old now n r w g is = let x : Running w g now 0 n = r.runs w g is in x.here ∙ ap (λ (k : List Step). after k w) x.same

-- a take-up adds steps in front
pub settled_grows : (w : State) (f : ℕ) (k : List Step) → Grows k (settled w f k)
settled_grows w zero k = record { newer = []; parts = refl }
settled_grows w (suc f) k = by (next_unit (after k w)) (λ u. settled_grows w f (Came u ∷ k))
  where
    by : (o : Option Unit91) → ((u : Unit91) → Grows (Came u ∷ k) (settled w f (Came u ∷ k))) → Grows k (on_next o k (λ u. settled w f (Came u ∷ k)))
    by None rec = record { newer = []; parts = refl }
    by (Some u) rec =
        let g : Grows (Came u ∷ k) (settled w f (Came u ∷ k)) = rec u in
        record { newer = g.newer ++ Came u ∷ []; parts = g.parts ∙ sym (append_assoc g.newer (Came u ∷ []) k) }

run_cut : (old now new : State) (left n : ℕ) → Runs old now left n → new ≡ step now OutOfMemory → (w : State) (g : List Step) → old ≡ after g w → IsCut w new (settled w n g)
run_cut old now new left n r e w g is =
    let x : Running w g now left n = r.runs w g is in
    let grown : Grows x.k (settled w left x.k) = settled_grows w left x.k in
    record { newer = grown.newer; older = x.k; parts = sym x.same ∙ grown.parts; now = e ∙ ap (λ (v : State). step v OutOfMemory) x.here }

-- ---- by places, as the loop counts

pub at_more : (old now next : State) (n i : ℕ) → i < n → Runs old now (n - i) n → is_some (next_unit now) ≡ true → next ≡ with_next (next_unit now) now → Runs old next (n - (i + 1)) n
at_more old now next n i lt r some e = by (next_unit now) refl some e
  where
    by : (o : Option Unit91) → next_unit now ≡ o → is_some o ≡ true → next ≡ with_next o now → Runs old next (n - (i + 1)) n
    by None f some e = absurd cc
    by (Some u) f some e = run_more old now next u (n - (i + 1)) n (subst (λ (x : ℕ). Runs old now x n) (less_one n i lt) r) f e

pub at_done : (old now next : State) (n i : ℕ) → i < n → n ≡ length old.queue → Runs old now (n - i) n → is_some (next_unit now) ≡ false → next ≡ with_next (next_unit now) now → Settles old next
at_done old now next n i lt e r none f w g is = by (next_unit now) refl none f
  where
    by : (o : Option Unit91) → next_unit now ≡ o → is_some o ≡ false → next ≡ with_next o now → next ≡ after (settled w (length (after g w).queue) g) w
    by (Some u) x none f = absurd cc
    by None x none f =
        f ∙ subst (λ (m : ℕ). now ≡ after (settled w m g) w) (e ∙ ap (λ (v : State). length v.queue) is)
        (run_done old now (n - (i + 1)) n (subst (λ (y : ℕ). Runs old now y n) (less_one n i lt) r) x w g is)

pub at_end : (old now : State) (n i : ℕ) → n ≤ i → n ≡ length old.queue → Runs old now (n - i) n → Settles old now
at_end old now n i ge e r w g is =
    let none_left : n - i ≡ 0 = omega (arith, ge) in
    subst (λ (m : ℕ). now ≡ after (settled w m g) w) (e ∙ ap (λ (v : State). length v.queue) is)
    (run_end old now n (subst (λ (x : ℕ). Runs old now x n) none_left r) w g is)

pub at_cut : (old now new : State) (n i : ℕ) → n ≡ length old.queue → Runs old now (n - i) n → new ≡ step now OutOfMemory → SettlesInPart old new
at_cut old now new n i e r s w g is =
    subst (λ (m : ℕ). IsCut w new (settled w m g)) (e ∙ ap (λ (v : State). length v.queue) is) (run_cut old now new (n - i) n r s w g is)
