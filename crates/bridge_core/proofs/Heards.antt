-- What may run out of memory of the container leaves the upstream end as it is.
use Rattle.std.proofs.Common.{◌≡◌, ◌∙◌, ℕ, ◌==◌, ◌&&◌, ◌||◌, not, Bool, true, false, Option, None}
use Rattle.std.proofs.Common.{Some, refl, sym, ap, subst}
use Rattle.std.specs.Prelude.{OnErr, Result, Ok, Err}
use Rattle.std.proofs.lemmas.Bool.{eqb-true}
use Rattle.machine_10.specs.Laws.{is_inside, is_within}
use Rattle.machine_10.specs.Parts.{Parts}
use Rattle.machine_10.specs.Transitions.{Meaning, unit_step}
use Rattle.machine_10.specs.Transitions as means
use Rattle.machine_10.specs.declared.state.Upstream.{Upstream}
use Rattle.machine_10.specs.declared.unit.Unit10.{Unit10}
use Rattle.gate_model.specs.State.{State}
use Rattle.gate_model.specs.Upstream.{UpState, container_by, heard_up, is_open_phase, meaning_by}
use Rattle.gate_model.specs.Upstream.{opens, opens_by}
use Rattle.bridge_core.specs.LinkFaults.{takes_memory_by, takes_memory_of}

-- they neither begin nor end a session
inside : (p : Parts) → takes_memory_of p ≡ true → is_inside p ≡ true
inside p e = by (p.0 == 18) (p.0 == 19) (p.0 == 20) (p.0 == 21) refl refl refl refl e
  where
    is : (k : ℕ) → (not (k == 17) && not (k == 23)) ≡ true → (p.0 == k) ≡ true → is_inside p ≡ true
    is k i f = subst (λ (n : ℕ). (not (n == 17) && not (n == 23)) ≡ true) (sym (eqb-true p.0 k f)) i

    by : (a b c d : Bool) → (p.0 == 18) ≡ a → (p.0 == 19) ≡ b → (p.0 == 20) ≡ c → (p.0 == 21) ≡ d → (a || (b || (c || d))) ≡ true
        → is_inside p ≡ true
    by true b c d f g h i e = is 18 refl f
    by false true c d f g h i e = is 19 refl g
    by false false true d f g h i e = is 20 refl h
    by false false false true f g h i e = is 21 refl i
    by false false false false f g h i e = absurd cc

within : (m : Meaning) → takes_memory_by m ≡ true → is_within m ≡ true
within means.Nothing e = absurd cc
within means.Init e = absurd cc
within means.AmqpHeader e = absurd cc
within means.Opened e = absurd cc
within (means.OfSession g p payload) e = inside p e
within (means.Closed t) e = absurd cc
within means.Refused e = absurd cc
within (means.Violation c) e = absurd cc

-- what machine_10 says of these
abbrev pub Stays : Type 0
Stays = (c : Upstream) (u : Unit10) → is_within (unit_step c u).1 ≡ true → (unit_step c u).0 ≡ c

-- ---- the upstream end

opens_never : (c d : Upstream) → d ≡ c → opens c d ≡ false
opens_never c d e = ap (opens c) e ∙ by (is_open_phase c.phase)
  where
    by : (b : Bool) → (b && not b) ≡ false
    by true = refl
    by false = refl

or_none : (b c : Bool) → c ≡ false → (b || c) ≡ b
or_none true c e = refl
or_none false c e = e

pub heard_same : Stays → (u : Unit10) (s : UpState) → takes_memory_by (meaning_by s.container u) ≡ true → heard_up u s ≡ s
heard_same stays u s e = by s.container refl e
  where
    by : (o : Option Upstream) → s.container ≡ o → takes_memory_by (meaning_by o u) ≡ true
        → heard_up u s ≡ s
    by None f e = absurd cc
    by (Some c) f e =
        let same : (unit_step c u).0 ≡ c = stays c u (within (unit_step c u).1 e) in
        let kept : container_by s.container u ≡ s.container = ap (λ (o : Option Upstream). container_by o u) f ∙ ap (λ (d : Upstream). Some d) same ∙ sym f in
        let opened : opens_by s.container u ≡ false = ap (λ (o : Option Upstream). opens_by o u) f ∙ opens_never c (unit_step c u).0 same in
        let due : (s.pending.«open» || opens_by s.container u) ≡ s.pending.«open» = or_none s.pending.«open» (opens_by s.container u) opened in
        ap (λ (b : Bool). record s { container = container_by s.container u; pending = record s.pending { «open» = b } }) due
        ∙ ap (λ (o : Option Upstream). record s { container = o }) kept

abbrev pub with_up : State → UpState → State
with_up w s = record w { up = s }

pub up_stays : (w : State) (s : UpState) → s ≡ w.up → with_up w s ≡ w
up_stays w s e = ap (with_up w) e

-- what holds of an error by two facts
pub on_err : {A E P Q R : Type 0} (r : Result A E) → OnErr r P → OnErr r Q → (P → Q → R) → OnErr r R
on_err (Ok a) p q f = tt
on_err (Err e) p q f = f p q
