-- A channel without session gets one by the gateway's begin alone.
use Rattle.std.proofs.Common.{◌≡◌, ◌⊎◌, inl, inr, ℕ, ◌≤◌, ◌<◌, Bool, true, false, cond, refl, ◌∙◌}
use Rattle.std.proofs.Common.{ap, arith, List, Result, Ok, Err}
use Rattle.std.proofs.lemmas.Bool.{cases_lt}
use Rattle.std.specs.Prelude.{OnErr, OnOk}
use Rattle.machine_10.specs.Calls.{after_begin_sent, after_end_sent, asked, left, may_begin}
use Rattle.machine_10.specs.Laws.{is_used}
use Rattle.machine_10.specs.State.{AreFreeFrom, new_upstream, no_sessions, session_at, with_session}
use Rattle.machine_10.specs.Transitions.{Step, unit_step}
use Rattle.machine_10.specs.declared.state.Session.{Session}
use Rattle.machine_10.specs.declared.state.Session.TheVariants as session
use Rattle.machine_10.specs.declared.state.Upstream.{Upstream}
use Rattle.machine_10.specs.declared.unit.Unit10.{Unit10}
use Rattle.machine_10.proofs.CallLaws.{none_used}
use Rattle.machine_10.proofs.SessionSteps.{set_either}
use Rattle.machine_10.proofs.StepCases.{step_rows}

-- another session on a channel that has one
set_free : (c : Upstream) (g m : ℕ) (s : Session) → is_used (session_at c g) ≡ true → session_at c m ≡ session.Free
    → session_at (with_session c g s) m ≡ session.Free
set_free c g m s used free = by (set_either c.sessions g m s)
  where
    by : ((g ≡ m) × (session_at (with_session c g s) m ≡ s)) ⊎ (session_at (with_session c g s) m ≡ session_at c m)
        → session_at (with_session c g s) m ≡ session.Free
    by (inl e) =
        let none : is_used (session_at c g) ≡ false = ap (λ (k : ℕ). is_used (session_at c k)) e.0 ∙ ap is_used free in
        absurd cc
    by (inr e) = e ∙ free

unit_free : (c : Upstream) (u : Unit10) (m : ℕ) → session_at c m ≡ session.Free → session_at (unit_step c u).0 m ≡ session.Free
unit_free c u m free = step_rows (λ (x : Step). session_at x.0 m ≡ session.Free) c u (record {
  nothing = free;
  violated = λ why s e. free;
  greeted = λ q e f a. free;
  offered = λ e. free;
  refused = λ e. free;
  came_out = λ e. free;
  opened = λ stated e f. free;
  answered = λ g n p payload e f s. set_free c g m (session.Open n) (ap is_used s) free;
  crossed = λ g n e f s. set_free c g m (session.Leaving n) (ap is_used s) free;
  within = λ g p payload e. free;
  ended = λ g n p payload e s. set_free c g m (session.Ended n) (ap is_used s) free;
  freed = λ g n p payload e s. set_free c g m session.Free (ap is_used s) free;
  closed = λ e. free;
  shut = λ why e. free;
  passed = λ s e. free;
})

pub taken_free : {A E : Type 0} (r : Result A E) (t : ℕ) (c d : Upstream) (u : Unit10) → OnOk r (d ≡ (unit_step c u).0) → OnErr r (d ≡ c)
    → AreFreeFrom t c → AreFreeFrom t d
taken_free (Ok x) t c d u ok err free = λ g le. ap (λ (w : Upstream). session_at w g) ok ∙ unit_free c u g (free g le)
taken_free (Err x) t c d u ok err free = λ g le. ap (λ (w : Upstream). session_at w g) err ∙ free g le

left_free : (g m : ℕ) (c : Upstream) → session_at c m ≡ session.Free → session_at (after_end_sent g c) m ≡ session.Free
left_free g m c free = by (session_at c g) refl
  where
    by : (s : Session) → session_at c g ≡ s → session_at (left s g c) m ≡ session.Free
    by session.Free e = free
    by session.Asked e = set_free c g m session.Left (ap is_used e) free
    by session.Left e = free
    by (session.Open n) e = set_free c g m (session.Leaving n) (ap is_used e) free
    by (session.Leaving n) e = free
    by (session.Ended n) e = set_free c g m session.Free (ap is_used e) free

pub end_free : (g t : ℕ) (c d : Upstream) → d ≡ after_end_sent g c → AreFreeFrom t c → AreFreeFrom t d
end_free g t c d e free = λ m le. ap (λ (w : Upstream). session_at w m) e ∙ left_free g m c (free m le)

-- a begin on a channel below that number
asked_free : (g m : ℕ) (c : Upstream) → g < m → session_at c m ≡ session.Free → session_at (after_begin_sent g c) m ≡ session.Free
asked_free g m c less free = by (may_begin c g)
  where
    set : (s : Session) → session_at (with_session c g s) m ≡ session.Free
    set s = by (set_either c.sessions g m s)
      where
        by : ((g ≡ m) × (session_at (with_session c g s) m ≡ s)) ⊎ (session_at (with_session c g s) m ≡ session_at c m)
            → session_at (with_session c g s) m ≡ session.Free
        by (inl e) = absurd (omega (arith, less, e.0))
        by (inr e) = e ∙ free

    ask : (s : Session) → session_at (asked s g c) m ≡ session.Free
    ask session.Free = set session.Asked
    ask session.Asked = free
    ask session.Left = free
    ask (session.Open n) = free
    ask (session.Leaving n) = free
    ask (session.Ended n) = free

    by : (b : Bool) → session_at (cond b (asked (session_at c g) g c) c) m ≡ session.Free
    by true = ask (session_at c g)
    by false = free

-- or on one that isn't there
pub begin_free : (g t u : ℕ) (c d : Upstream) → d ≡ after_begin_sent g c → (256 ≤ g → d ≡ c) → t ≤ u → (g < 256 → g < u)
    → AreFreeFrom t c → AreFreeFrom u d
begin_free g t u c d e beyond le above free m over = by (cases_lt g 256)
  where
    was : session_at c m ≡ session.Free
    was = free m (omega (arith, le, over))

    by : (g < 256) ⊎ (256 ≤ g) → session_at d m ≡ session.Free
    by (inl less) = ap (λ (w : Upstream). session_at w m) e ∙ asked_free g m c (omega (arith, above less, over)) was
    by (inr past) = ap (λ (w : Upstream). session_at w m) (beyond past) ∙ was

pub new_free : (mechanism response : List ℕ) (c : Upstream) → c ≡ new_upstream mechanism response → AreFreeFrom 0 c
unfolding no_sessions
new_free mechanism response c e g le = ap (λ (w : Upstream). session_at w g) e ∙ none_used 256 g
