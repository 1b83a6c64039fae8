-- What holds of a connection after any calls: what the container stated, and which sessions there are.
use Rattle.std.proofs.Common.{◌≡◌, ℕ, zero, suc, ◌≤◌, ◌+◌, Bool, true, false, cond, eqb, nat_lt}
use Rattle.std.proofs.Common.{not, ◌&&◌, ◌⊎◌, inl, inr, List, [], ◌∷◌, length, replicate, Option}
use Rattle.std.proofs.Common.{Some, None, refl, sym, ◌∙◌, ap, subst, arith}
use Rattle.std.proofs.lemmas.Bool.Decides.{nat_tests}
use Rattle.std.specs.Prelude.{slice_get, slice_set, nat_le}
use Rattle.std.specs.List.{position_or_len}
use Rattle.machine_10.specs.Calls.{may_begin, asked, after_begin_sent, left, after_end_sent}
use Rattle.machine_10.specs.Laws.{Call10, Take, BeginSent, EndSent, Ended, after_call, after_calls}
use Rattle.machine_10.specs.Laws.{is_used, AreInRange}
use Rattle.machine_10.specs.Refusals.{is_login_phase}
use Rattle.machine_10.specs.State.{no_sessions, new_upstream, is_running, is_closing, session_at}
use Rattle.machine_10.specs.State.{session_of, or_free, with_session, carries}
use Rattle.machine_10.specs.Transitions.{Step, unit_step}
use Rattle.machine_10.specs.declared.limits.TheConstants.{FRAME_MIN_SIZE}
use Rattle.machine_10.specs.declared.state.Phase10.{Phase10}
use Rattle.machine_10.specs.declared.state.Phase10.TheVariants as phase
use Rattle.machine_10.specs.declared.state.Session.{Session}
use Rattle.machine_10.specs.declared.state.Session.TheVariants as session
use Rattle.machine_10.specs.declared.state.Upstream.{Upstream}
use Rattle.machine_10.specs.declared.unit.Unit10.{Unit10}
use Rattle.machine_10.proofs.StepCases.{HasBegun, step_rows}

-- ---- another session on a channel

-- what stands at a place after one was set
get_set : (xs : List Session) (n m : ℕ) (s : Session)
    → ((m ≡ n) × (slice_get (slice_set xs n s) m ≡ Some s)) ⊎ (slice_get (slice_set xs n s) m ≡ slice_get xs m)
get_set [] n m s = inr refl
get_set (x ∷ xs) zero zero s = inl (refl, refl)
get_set (x ∷ xs) zero (suc m) s = inr refl
get_set (x ∷ xs) (suc n) zero s = inr refl
get_set (x ∷ xs) (suc n) (suc m) s = by (get_set xs n m s)
  where
    by : ((m ≡ n) × (slice_get (slice_set xs n s) m ≡ Some s)) ⊎ (slice_get (slice_set xs n s) m ≡ slice_get xs m)
        → ((suc m ≡ suc n) × (slice_get (slice_set xs n s) m ≡ Some s)) ⊎ (slice_get (slice_set xs n s) m ≡ slice_get xs m)
    by (inl e) = inl (ap suc e.0, e.1)
    by (inr e) = inr e

-- such a session is the one that was set, or was there before
session_after : (t : Session → Bool) (c : Upstream) (g m : ℕ) (s : Session) → t (session_at (with_session c g s) m) ≡ true
    → ((m ≡ g) × (t s ≡ true)) ⊎ (t (session_at c m) ≡ true)
session_after t c g m s e = by (get_set c.sessions g m s)
  where
    by : ((m ≡ g) × (slice_get (slice_set c.sessions g s) m ≡ Some s)) ⊎ (slice_get (slice_set c.sessions g s) m ≡ slice_get c.sessions m)
        → ((m ≡ g) × (t s ≡ true)) ⊎ (t (session_at c m) ≡ true)
    by (inl f) = inl (f.0, ap (λ (o : Option Session). t (or_free o)) (sym f.1) ∙ e)
    by (inr f) = inr (ap (λ (o : Option Session). t (or_free o)) (sym f) ∙ e)

-- ---- a channel without session

not_before : (n : ℕ) (xs : List Session) → length xs ≤ position_or_len (carries n) xs → (m : ℕ) → carries n (or_free (slice_get xs m)) ≡ false
not_before n [] le m = refl
not_before n (x ∷ xs) le m = by m (carries n x) refl le (λ h k. not_before n xs h k)
  where
    by : (m : ℕ) (b : Bool) → carries n x ≡ b → suc (length xs) ≤ cond (not b) (1 + position_or_len (carries n) xs) 0
        → (length xs ≤ position_or_len (carries n) xs → (k : ℕ) → carries n (or_free (slice_get xs k)) ≡ false)
        → carries n (or_free (slice_get (x ∷ xs) m)) ≡ false
    by m true e le rest = absurd (omega (arith, le))
    by zero false e le rest = e
    by (suc m) false e le rest = rest (omega (arith, le)) m

none_carries : (c : Upstream) (n : ℕ) → session_of c n ≡ None → (m : ℕ) → carries n (session_at c m) ≡ false
none_carries c n e = by (nat_lt (position_or_len (carries n) c.sessions) (length c.sessions)) refl e
  where
    by : (b : Bool) → nat_lt (position_or_len (carries n) c.sessions) (length c.sessions) ≡ b
        → cond {A = Option ℕ} b (Some (position_or_len (carries n) c.sessions)) None ≡ None → (m : ℕ) → carries n (session_at c m) ≡ false
    by true f none = absurd cc
    by false f none = not_before n c.sessions (grind (arith, nat_tests, f))

-- ---- the invariant

-- frames of 512 bytes at least; sessions on channels that the container takes, and none before the connection runs; no two on one
record Sound (c : Upstream) : Type 0 where
  frame : FRAME_MIN_SIZE ≤ c.stated.max_frame
  max : (g : ℕ) → is_used (session_at c g) ≡ true → g ≤ c.stated.channel_max
  fresh : is_running c.phase ≡ false → is_closing c.phase ≡ false → (g : ℕ) → is_used (session_at c g) ≡ false
  alone : (g h n : ℕ) → carries n (session_at c g) ≡ true → carries n (session_at c h) ≡ true → g ≡ h

-- another session on a channel that the container takes, whose number none has but the one before
sound_set : (c : Upstream) (g : ℕ) (s : Session) → Sound c → g ≤ c.stated.channel_max
    → (is_running c.phase ≡ false → is_closing c.phase ≡ false → is_used s ≡ false)
    → ((n h : ℕ) → carries n s ≡ true → carries n (session_at c h) ≡ true → h ≡ g) → Sound (with_session c g s)
sound_set c g s k max early keeps = record {
  frame = k.frame;
  max = λ m used. max_by m (session_after is_used c g m s used);
  fresh = λ r e m. unused r e m (is_used (session_at (with_session c g s) m)) refl;
  alone = λ a b n x y. alone_by a b n (session_after (carries n) c g a s x) (session_after (carries n) c g b s y);
}
  where
    max_by : (m : ℕ) → ((m ≡ g) × (is_used s ≡ true)) ⊎ (is_used (session_at c m) ≡ true) → m ≤ c.stated.channel_max
    max_by m (inl e) = subst (λ (x : ℕ). x ≤ c.stated.channel_max) (sym e.0) max
    max_by m (inr e) = k.max m e

    clash : (r : is_running c.phase ≡ false) (e : is_closing c.phase ≡ false) (m : ℕ)
        → ((m ≡ g) × (is_used s ≡ true)) ⊎ (is_used (session_at c m) ≡ true) → true ≡ false
    clash r e m (inl f) = sym f.1 ∙ early r e
    clash r e m (inr f) = sym f ∙ k.fresh r e m

    unused : (r : is_running c.phase ≡ false) (e : is_closing c.phase ≡ false) (m : ℕ) (b : Bool)
        → is_used (session_at (with_session c g s) m) ≡ b → b ≡ false
    unused r e m false f = refl
    unused r e m true f = clash r e m (session_after is_used c g m s f)

    alone_by : (a b n : ℕ) → ((a ≡ g) × (carries n s ≡ true)) ⊎ (carries n (session_at c a) ≡ true)
        → ((b ≡ g) × (carries n s ≡ true)) ⊎ (carries n (session_at c b) ≡ true) → a ≡ b
    alone_by a b n (inl x) (inl y) = x.0 ∙ sym y.0
    alone_by a b n (inl x) (inr y) = x.0 ∙ sym (keeps n b x.1 y)
    alone_by a b n (inr x) (inl y) = keeps n a y.1 x ∙ sym y.0
    alone_by a b n (inr x) (inr y) = k.alone a b n x y

-- once the connection runs
running_set : (c : Upstream) (g : ℕ) (s : Session) → Sound c → HasBegun c → g ≤ c.stated.channel_max
    → ((n h : ℕ) → carries n s ≡ true → carries n (session_at c h) ≡ true → h ≡ g) → Sound (with_session c g s)
running_set c g s k runs max keeps =
    sound_set c g s k max (λ r e. let late : is_closing c.phase ≡ true = runs r in absurd cc) keeps

-- a session gets another state, and keeps the container's channel or loses it
used_set : (c : Upstream) (g : ℕ) (s : Session) → Sound c → is_used (session_at c g) ≡ true
    → ((n : ℕ) → carries n s ≡ true → carries n (session_at c g) ≡ true) → Sound (with_session c g s)
used_set c g s k used keeps =
    sound_set c g s k (k.max g used)
    (λ r e. let none : is_used (session_at c g) ≡ false = k.fresh r e g in absurd cc)
    (λ n h x y. k.alone h g n y (keeps n x))

same_number : (n m : ℕ) → eqb n m ≡ true → n ≡ m
same_number n m e = grind (arith, nat_tests, e)

-- a begin on a channel without session
begun_set : (c : Upstream) (g n : ℕ) (s : Session) → Sound c → HasBegun c → session_of c n ≡ None
    → is_used (session_at c g) ≡ true → ((m : ℕ) → carries m s ≡ true → n ≡ m) → Sound (with_session c g s)
begun_set c g n s k runs free used only = running_set c g s k runs (k.max g used) keeps
  where
    keeps : (m h : ℕ) → carries m s ≡ true → carries m (session_at c h) ≡ true → h ≡ g
    keeps m h x y =
        let none : carries n (session_at c h) ≡ false = none_carries c n free h in
        let there : carries n (session_at c h) ≡ true = subst (λ (z : ℕ). carries z (session_at c h) ≡ true) (sym (only m x)) y in
        absurd cc

sound_step : (c : Upstream) (u : Unit10) → Sound c → Sound (unit_step c u).0
sound_step c u k = step_rows (λ (x : Step). Sound x.0) c u (record {
  nothing = k;
  violated = λ why s e. record { frame = k.frame; max = k.max; fresh = λ r f. absurd cc; alone = k.alone };
  greeted = λ q e f a. record { frame = k.frame; max = k.max; fresh = λ a b. k.fresh f e; alone = k.alone };
  offered = λ e. record { frame = k.frame; max = k.max; fresh = λ a b. k.fresh (ap is_running e) (ap is_closing e); alone = k.alone };
  refused = λ e. record { frame = k.frame; max = k.max; fresh = λ r f. absurd cc; alone = k.alone };
  came_out = λ e. record { frame = k.frame; max = k.max; fresh = λ a b. k.fresh (early c.phase e).0 (early c.phase e).1; alone = k.alone };
  opened = λ stated e f.
      let none : (g : ℕ) → is_used (session_at c g) ≡ false = k.fresh (ap is_running e) (ap is_closing e) in
      record {
        frame = grind (arith, nat_tests, f);
        max = λ g used. let no : is_used (session_at c g) ≡ false = none g in absurd cc;
        fresh = λ r g. absurd cc;
        alone = k.alone;
      };
  answered = λ g n p payload e f s. begun_set c g n (session.Open n) k e f (ap is_used s) (same_number n);
  crossed = λ g n e f s. begun_set c g n (session.Leaving n) k e f (ap is_used s) (same_number n);
  within = λ g p payload e. k;
  ended = λ g m p payload e s. used_set c g (session.Ended m) k (ap is_used s) (λ n x. ap (carries n) s ∙ x);
  freed = λ g m p payload e s. used_set c g session.Free k (ap is_used s) (λ n x. absurd cc);
  closed = λ e. record { frame = k.frame; max = k.max; fresh = λ r f. absurd cc; alone = k.alone };
  shut = λ why e. record { frame = k.frame; max = k.max; fresh = λ r f. absurd cc; alone = k.alone };
  passed = λ s e. record { frame = k.frame; max = k.max; fresh = k.fresh; alone = k.alone };
})
  where
    early : (q : Phase10) → is_login_phase q ≡ true → (is_running q ≡ false) × (is_closing q ≡ false)
    early phase.SaslHeader e = (refl, refl)
    early phase.Mechanisms e = (refl, refl)
    early phase.Outcome e = (refl, refl)
    early phase.AmqpHeader e = (refl, refl)
    early phase.Open e = (refl, refl)
    early phase.Running e = absurd cc
    early phase.Closing e = absurd cc
    early phase.Closed e = absurd cc

-- ---- the other calls

may_begin_by : (a b : Bool) → (a && b) ≡ true → (a ≡ true) × (b ≡ true)
may_begin_by true b e = (refl, e)
may_begin_by false b e = absurd cc

sound_begin : (g : ℕ) (c : Upstream) → Sound c → Sound (after_begin_sent g c)
sound_begin g c k = by (may_begin c g) refl
  where
    asks : may_begin c g ≡ true → (s : Session) → session_at c g ≡ s → Sound (asked s g c)
    asks e session.Free f =
        let both : (is_running c.phase ≡ true) × (nat_le g c.stated.channel_max ≡ true) = may_begin_by _ _ e in
        let at : nat_le g c.stated.channel_max ≡ true = both.1 in
        running_set c g session.Asked k (λ r. let runs : is_running c.phase ≡ true = both.0 in absurd cc) (grind (arith, nat_tests, at)) (λ n h x y. absurd cc)
    asks e session.Asked f = k
    asks e session.Left f = k
    asks e (session.Open n) f = k
    asks e (session.Leaving n) f = k
    asks e (session.Ended n) f = k

    by : (b : Bool) → may_begin c g ≡ b → Sound (cond b (asked (session_at c g) g c) c)
    by true e = asks e (session_at c g) refl
    by false e = k

sound_end : (g : ℕ) (c : Upstream) → Sound c → Sound (after_end_sent g c)
sound_end g c k = by (session_at c g) refl
  where
    by : (s : Session) → session_at c g ≡ s → Sound (left s g c)
    by session.Free e = k
    by session.Asked e = used_set c g session.Left k (ap is_used e) (λ n x. absurd cc)
    by session.Left e = k
    by (session.Open m) e = used_set c g (session.Leaving m) k (ap is_used e) (λ n x. ap (carries n) e ∙ x)
    by (session.Leaving m) e = k
    by (session.Ended m) e = used_set c g session.Free k (ap is_used e) (λ n x. absurd cc)

sound_call : (x : Call10) (c : Upstream) → Sound c → Sound (after_call x c)
sound_call (Take u) c k = sound_step c u k
sound_call (BeginSent g) c k = sound_begin g c k
sound_call (EndSent g) c k = sound_end g c k
sound_call Ended c k = record { frame = k.frame; max = k.max; fresh = λ r f. absurd cc; alone = k.alone }

pub none_used : (count g : ℕ) → or_free (slice_get (replicate count session.Free) g) ≡ session.Free
none_used zero g = refl
none_used (suc count) zero = refl
none_used (suc count) (suc g) = none_used count g

sound_new : (mechanism response : List ℕ) → Sound (new_upstream mechanism response)
unfolding no_sessions
sound_new mechanism response = record {
  frame = omega arith;
  max = λ g used. let no : is_used (session_at (new_upstream mechanism response) g) ≡ false = ap is_used (none_used 256 g) in absurd cc;
  fresh = λ r e g. ap is_used (none_used 256 g);
  alone = λ g h n x y. let no : carries n (session_at (new_upstream mechanism response) g) ≡ false = ap (carries n) (none_used 256 g) in absurd cc;
}

sound_calls : (mechanism response : List ℕ) (h : List Call10) → Sound (after_calls mechanism response h)
sound_calls mechanism response [] = sound_new mechanism response
sound_calls mechanism response (x ∷ h) = sound_call x (after_calls mechanism response h) (sound_calls mechanism response h)

pub ranges : (mechanism response : List ℕ) (h : List Call10) → AreInRange (after_calls mechanism response h)
ranges mechanism response h =
    let k : Sound (after_calls mechanism response h) = sound_calls mechanism response h in
    record { max_frame = k.frame; max = k.max; alone = k.alone }
