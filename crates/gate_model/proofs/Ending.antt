-- No more ends of a session go than begins.
use Rattle.std.proofs.Common.{◌≡◌, ◌≢◌, ◌⊎◌, inl, inr, ℕ, zero, suc, ◌+◌, ◌==◌, ◌≤◌, not, ◌&&◌, ◌||◌, Bool, true, false, if◌then◌else◌}
use Rattle.std.proofs.Common.{List, [], ◌∷◌, Option, None, Some, refl, sym, ap, ◌∙◌, arith, subst}
use Rattle.std.specs.Prelude.{slice_get, slice_set}
use Rattle.gate_outside.specs.declared.ports.End.TheVariants.{Client, Up}
use Rattle.gate_outside.specs.declared.ports.Linked.TheVariants as link
use Rattle.gate_relay.specs.declared.loss.Loss.TheVariants as loss
use Rattle.machine_091.specs.State.{is_open}
use Rattle.machine_091.specs.declared.unit.Want91.{Want91}
use Rattle.machine_091.specs.declared.unit.Want91.TheVariants as want
use Rattle.machine_10.specs.Calls.{asked, left, may_begin}
use Rattle.machine_10.specs.State.{or_free, session_at, with_session}
use Rattle.machine_10.specs.Transitions as ten
use Rattle.machine_10.specs.Transitions.{Meaning, unit_step}
use Rattle.machine_10.specs.declared.state.Session.{Session}
use Rattle.machine_10.specs.declared.state.Session.TheVariants as session
use Rattle.machine_10.specs.declared.state.Upstream.{Upstream}
use Rattle.machine_10.specs.declared.unit.Unit10.{Unit10}
use Rattle.machine_10.proofs.SessionSteps.{set_either}
use Rattle.machine_10.proofs.StepCases.{step_rows}
use Rattle.gate_model.specs.declared.outgoing.Outgoing.TheVariants.{ToClient, ToUp}
use Rattle.gate_model.specs.declared.outgoing.UpUnit.{UpUnit}
use Rattle.gate_model.specs.declared.outgoing.UpUnit.TheVariants as up
use Rattle.gate_model.specs.Due.{is_lingered}
use Rattle.gate_model.specs.Folds.{Peers, container, container_kept, leaving_in, peers, peers_by, ran_out_in, scope_in}
use Rattle.gate_model.specs.Lives.{is_begun, is_ended, session_in}
use Rattle.gate_model.specs.Once.{one_if}
use Rattle.gate_model.specs.Picks.{ArePicks}
use Rattle.gate_model.specs.Repeats.{EndsOnce, is_begin_on, is_end_on, went_up}
use Rattle.gate_model.specs.State.{Began, Came, Fed, Gave, Heard, Joined, Lost, Silent, Step, TakenUp, Whole, before}
use Rattle.gate_model.specs.Upstream.{container_by, container_given, ended_in, meaning_by}
use Rattle.gate_model.proofs.Arrived.{MayGo, may_go, none_session}
use Rattle.gate_model.proofs.Givings.{gives_up}
use Rattle.gate_model.proofs.Known.{container_is, known}
use Rattle.gate_model.proofs.Places.{isnt, itself, same_or_not}
use Rattle.gate_model.proofs.Sessions.{only_scoped}

-- the gateway's begin of a session went, and not its end
abbrev is_active : Session → Bool
is_active s = is_begun s || is_ended s

abbrev active_in : ℕ → Option Upstream → Bool
active_in n o = is_active (session_in o n)

-- ---- one session is set

set_here : (xs : List Session) (n : ℕ) (s : Session) → is_active (or_free (slice_get xs n)) ≡ true → or_free (slice_get (slice_set xs n s) n) ≡ s
set_here [] n s e = absurd cc
set_here (x ∷ xs) zero s e = refl
set_here (x ∷ xs) (suc n) s e = set_here xs n s e

set_apart : (xs : List Session) (g n : ℕ) (s : Session) → g ≢ n → or_free (slice_get (slice_set xs g s) n) ≡ or_free (slice_get xs n)
set_apart xs g n s d = by (set_either xs g n s)
  where
    by : ((g ≡ n) × (or_free (slice_get (slice_set xs g s) n) ≡ s)) ⊎ (or_free (slice_get (slice_set xs g s) n) ≡ or_free (slice_get xs n))
        → or_free (slice_get (slice_set xs g s) n) ≡ or_free (slice_get xs n)
    by (inl e) = absurd (d e.0)
    by (inr e) = e

-- ---- the container makes none active

abbrev Falls : ℕ → Upstream → ten.Step → Type 0
Falls n c x = is_active (session_at x.0 n) ≡ true → is_active (session_at c n) ≡ true

sets : (n : ℕ) (c : Upstream) (g : ℕ) (s : Session) → (is_active s ≡ true → is_active (session_at c g) ≡ true)
    → is_active (session_at (with_session c g s) n) ≡ true → is_active (session_at c n) ≡ true
sets n c g s was e = by (set_either c.sessions g n s)
  where
    by : ((g ≡ n) × (or_free (slice_get (slice_set c.sessions g s) n) ≡ s)) ⊎ (or_free (slice_get (slice_set c.sessions g s) n) ≡ or_free (slice_get c.sessions n))
        → is_active (session_at c n) ≡ true
    by (inl f) = subst (λ (k : ℕ). is_active (session_at c k) ≡ true) f.0 (was (ap is_active (sym f.1) ∙ e))
    by (inr f) = ap is_active (sym f) ∙ e

unit_falls : (n : ℕ) (c : Upstream) (u : Unit10) → Falls n c (unit_step c u)
unit_falls n c u = step_rows (Falls n c) c u (record {
  nothing = λ e. e;
  violated = λ why s f e. e;
  greeted = λ k f r a e. e;
  offered = λ f e. e;
  refused = λ f e. e;
  came_out = λ f e. e;
  opened = λ stated f less e. e;
  answered = λ g m p payload f none is. sets n c g (session.Open m) (λ x. ap is_active is);
  crossed = λ g m f none is. sets n c g (session.Leaving m) (λ x. absurd cc);
  within = λ g p payload f e. e;
  ended = λ g m p payload f is. sets n c g (session.Ended m) (λ x. ap is_active is);
  freed = λ g m p payload f is. sets n c g session.Free (λ x. absurd cc);
  closed = λ t e. e;
  shut = λ why f e. e;
  passed = λ s f e. e;
})

heard_falls : (n : ℕ) (o : Option Upstream) (u : Unit10) → active_in n (container_by o u) ≡ true → active_in n o ≡ true
heard_falls n None u e = e
heard_falls n (Some c) u e = unit_falls n c u e

-- what it means leaves the sessions
meaning_same : (m : Meaning) (p : Peers) → (peers_by m p).container ≡ p.container
meaning_same (ten.OfSession g q payload) p = ap (λ (x : Peers). x.container) (only_scoped (scope_in p g q payload) g q payload _)
meaning_same m p = refl

-- ---- steps that give the container nothing

kept_falls : (n : ℕ) (o : Option Upstream) (x : Want91) → active_in n (container_kept o x) ≡ true → active_in n o ≡ true
kept_falls n o (want.Login mechanism response) e = let wrong : false ≡ true = sym (ap is_active (none_session n)) ∙ e in absurd cc
kept_falls n o x e = e

ended_falls : (n : ℕ) (o : Option Upstream) → active_in n (ended_in o) ≡ true → active_in n o ≡ true
ended_falls n None e = e
ended_falls n (Some c) e = e

if_falls : (n : ℕ) (b : Bool) (p q r : Peers) → (active_in n q.container ≡ true → active_in n p.container ≡ true) → (active_in n r.container ≡ true → active_in n p.container ≡ true)
    → active_in n (if b then q else r).container ≡ true → active_in n p.container ≡ true
if_falls n true p q r f g e = f e
if_falls n false p q r f g e = g e

step_falls : (n : ℕ) (s : Step) (h : List Step) → ArePicks (s ∷ h) → gives_up s ≡ false → active_in n (container (s ∷ h)) ≡ true → active_in n (container h) ≡ true
step_falls n (Began site number ms) h p f e = absurd cc
step_falls n (Fed Client) h p f e = e
step_falls n (Silent Client) h p f e = e
step_falls n (Came u) h p f e = if_falls n (ran_out_in h) (peers h) (peers h) _ (λ x. x) (λ x. kept_falls n (container h) _ x) e
step_falls n TakenUp h p f e = if_falls n (not (ran_out_in h) && leaving_in h) (peers h) _ (peers h) (λ x. x) (λ x. x) e
step_falls n (Heard u) h p f e =
    if_falls n (ran_out_in h) (peers h) (peers h) _ (λ x. x)
    (λ x. heard_falls n (container h) u (ap (active_in n) (sym (meaning_same (meaning_by (container h) u) (record (peers h) { container = container_by (container h) u }))) ∙ x)) e
step_falls n (Joined link.Ok) h p f e = e
step_falls n (Lost Client how) h p f e = e
step_falls n (Lost Up loss.Ended) h p f e = ended_falls n (container h) e
step_falls n (Lost Up loss.Failed) h p f e = ended_falls n (container h) e
step_falls n (Gave (ToClient u) text) h p f e = e
step_falls n (Gave (ToUp u) text) h p f e = absurd cc
step_falls n (Whole Client) h p f e = e
step_falls n s h p f e = e

-- ---- all steps

abbrev Pairs : ℕ → List Step → Type 0
Pairs n h = went_up (is_end_on n) h + one_if (active_in n (container h)) ≤ went_up (is_begin_on n) h

less_if : (a b : Bool) → (a ≡ true → b ≡ true) → one_if a ≤ one_if b
less_if true true f = omega arith
less_if true false f = let wrong : false ≡ true = f refl in absurd cc
less_if false b f = omega arith

other_pairs : (n : ℕ) (s : Step) (h : List Step) → ArePicks (s ∷ h) → gives_up s ≡ false → went_up (is_end_on n) (s ∷ h) ≡ went_up (is_end_on n) h
    → went_up (is_begin_on n) (s ∷ h) ≡ went_up (is_begin_on n) h → Pairs n h → Pairs n (s ∷ h)
other_pairs n s h p f e b old =
    let less : one_if (active_in n (container (s ∷ h))) ≤ one_if (active_in n (container h)) = less_if _ _ (step_falls n s h p f) in
    omega (arith, e, b, old, less)

-- a unit that begins and ends none
quiet_pairs : (n : ℕ) (h : List Step) (u : UpUnit) (text : List ℕ) → is_end_on n u ≡ false → is_begin_on n u ≡ false
    → active_in n (container_given u (container h)) ≡ active_in n (container h) → Pairs n h → Pairs n (Gave (ToUp u) text ∷ h)
quiet_pairs n h u text e b same old =
    let x : one_if (is_end_on n u) ≡ 0 = ap one_if e in
    let y : one_if (is_begin_on n u) ≡ 0 = ap one_if b in
    let z : one_if (active_in n (container_given u (container h))) ≡ one_if (active_in n (container h)) = ap one_if same in
    omega (arith, x, y, z, old)

given_same : (n : ℕ) (u : UpUnit) (o : Option Upstream) → ((c : Upstream) → session_in (container_given u (Some c)) n ≡ session_at c n)
    → active_in n (container_given u o) ≡ active_in n o
given_same n u None f = refl
given_same n u (Some c) f = ap is_active (f c)

begin_apart : (n k : ℕ) (c : Upstream) → k ≢ n → session_in (container_given (up.Begin k) (Some c)) n ≡ session_at c n
begin_apart n k c d = by (may_begin c k) (session_at c k)
  where
    by : (b : Bool) (s : Session) → session_at (if b then asked s k c else c) n ≡ session_at c n
    by true session.Free = set_apart c.sessions k n session.Asked d
    by true session.Asked = refl
    by true session.Left = refl
    by true (session.Open m) = refl
    by true (session.Leaving m) = refl
    by true (session.Ended m) = refl
    by false s = refl

end_apart : (n k : ℕ) (c : Upstream) → k ≢ n → session_in (container_given (up.End k None) (Some c)) n ≡ session_at c n
end_apart n k c d = by (session_at c k)
  where
    by : (s : Session) → session_at (left s k c) n ≡ session_at c n
    by session.Free = refl
    by session.Asked = set_apart c.sessions k n session.Left d
    by session.Left = refl
    by (session.Open m) = set_apart c.sessions k n (session.Leaving m) d
    by (session.Leaving m) = refl
    by (session.Ended m) = set_apart c.sessions k n session.Free d

end_here : (n : ℕ) (o : Option Upstream) → active_in n o ≡ true → active_in n (container_given (up.End n None) o) ≡ false
end_here n None e = absurd cc
end_here n (Some c) e = by (session_at c n) refl
  where
    by : (s : Session) → session_at c n ≡ s → is_active (session_at (left s n c) n) ≡ false
    by session.Free f = let wrong : false ≡ true = sym (ap is_active f) ∙ e in absurd cc
    by session.Asked f = ap is_active (set_here c.sessions n session.Left e)
    by session.Left f = let wrong : false ≡ true = sym (ap is_active f) ∙ e in absurd cc
    by (session.Open m) f = ap is_active (set_here c.sessions n (session.Leaving m) e)
    by (session.Leaving m) f = let wrong : false ≡ true = sym (ap is_active f) ∙ e in absurd cc
    by (session.Ended m) f = ap is_active (set_here c.sessions n session.Free e)

at_most_one : (b : Bool) → one_if b ≤ 1
at_most_one true = omega arith
at_most_one false = omega arith

begin_pairs : (n k : ℕ) (h : List Step) (text : List ℕ) → Pairs n h → Pairs n (Gave (ToUp (up.Begin k)) text ∷ h)
begin_pairs n k h text old = by (same_or_not k n)
  where
    by : (k ≡ n) ⊎ (k ≢ n) → Pairs n (Gave (ToUp (up.Begin k)) text ∷ h)
    by (inl e) =
        let one : one_if (k == n) ≡ 1 = ap (λ (i : ℕ). one_if (i == n)) e ∙ ap one_if (itself n) in
        let most : one_if (active_in n (container_given (up.Begin k) (container h))) ≤ 1 = at_most_one _ in
        omega (arith, one, most, old)
    by (inr d) = quiet_pairs n h (up.Begin k) text refl (isnt k n d) (given_same n (up.Begin k) (container h) (λ c. begin_apart n k c d)) old

-- an end goes to a session that is active
due_active : (b x y : Bool) (s : Session) → (is_ended s || (is_begun s && ((b || not x) && y))) ≡ true → is_active s ≡ true
due_active b x y s e = by (is_ended s) (is_begun s) e
  where
    by : (a c : Bool) → (a || (c && ((b || not x) && y))) ≡ true → (c || a) ≡ true
    by true true f = refl
    by true false f = refl
    by false true f = refl
    by false false f = absurd cc

end_pairs : (n k : ℕ) (h : List Step) (text : List ℕ) → active_in k (container h) ≡ true → Pairs n h
    → went_up (is_end_on n) h + one_if (k == n) + one_if (active_in n (container_given (up.End k None) (container h))) ≤ went_up (is_begin_on n) h + 0
end_pairs n k h text active old = by (same_or_not k n)
  where
    by : (k ≡ n) ⊎ (k ≢ n)
        → went_up (is_end_on n) h + one_if (k == n) + one_if (active_in n (container_given (up.End k None) (container h))) ≤ went_up (is_begin_on n) h + 0
    by (inl e) =
        let one : one_if (k == n) ≡ 1 = ap (λ (i : ℕ). one_if (i == n)) e ∙ ap one_if (itself n) in
        let was : one_if (active_in n (container h)) ≡ 1 = ap one_if (subst (λ (i : ℕ). active_in i (container h) ≡ true) e active) in
        let is : one_if (active_in n (container_given (up.End k None) (container h))) ≡ 0 =
        ap one_if (subst (λ (i : ℕ). active_in n (container_given (up.End i None) (container h)) ≡ false) (sym e)
        (end_here n (container h) (subst (λ (i : ℕ). active_in i (container h) ≡ true) e active))) in
        omega (arith, one, was, is, old)
    by (inr d) =
        let none : one_if (k == n) ≡ 0 = ap one_if (isnt k n d) in
        let is : one_if (active_in n (container_given (up.End k None) (container h))) ≡ one_if (active_in n (container h)) =
        ap one_if (given_same n (up.End k None) (container h) (λ c. end_apart n k c d)) in
        omega (arith, none, is, old)

given_pairs : (n : ℕ) (h : List Step) (u : UpUnit) (text : List ℕ) → ArePicks h → MayGo (before h) u → Pairs n h → Pairs n (Gave (ToUp u) text ∷ h)
given_pairs n h (up.Begin k) text p e old = begin_pairs n k h text old
given_pairs n h (up.End k why) text p e old =
    end_pairs n k h text
    (ap (active_in k) (sym (container_is (known h p))) ∙ due_active _ (is_open (before h).conn k) (is_lingered (before h) k) (session_in (before h).up.container k) e) old
given_pairs n h u text p e old = quiet_pairs n h u text refl refl (given_same n u (container h) (λ c. refl)) old

pairs : (n : ℕ) (h : List Step) → ArePicks h → Pairs n h
pairs n [] p = omega arith
pairs n (Gave (ToUp u) text ∷ h) p = given_pairs n h u text p.1 (may_go (before h) u p.0.1) (pairs n h p.1)
pairs n (Gave (ToClient u) text ∷ h) p = other_pairs n (Gave (ToClient u) text) h p refl refl refl (pairs n h p.1)
pairs n (s ∷ h) p = other_pairs n s h p refl refl refl (pairs n h p.1)

pub ends_once : (h : List Step) → ArePicks h → EndsOnce h
ends_once h p n = let x : Pairs n h = pairs n h p in omega (arith, x)
