-- The points of a turn, and that after the end of the service only shuts come.
use Rattle.std.proofs.Common.{◌≡◌, ℕ, Bool, true, false, List, [], ◌∷◌, refl, sym, ap, ◌∙◌, inl}
use Rattle.std.proofs.Common.{inr}
use Rattle.gate_outside.specs.declared.ports.End.{End}
use Rattle.gate_outside.specs.declared.ports.Accepted.TheVariants as accepted
use Rattle.gate_outside.specs.declared.ports.Next.TheVariants.{Go, Stop}
use Rattle.gate_outside.specs.declared.log.LogEntry.{LogEntry}
use Rattle.gate_outside.specs.declared.log.LogEntry.TheVariants.{Accept, Connect, Read, Write, Shut}
use Rattle.gate_outside.specs.declared.log.LogEntry.TheVariants.{Idle, Now}
use Rattle.gate_relay.specs.RelayWords.{RelayWords}
use Rattle.gate_runs.specs.declared.limits.Limits.{Limits}
use Rattle.gate_runs.specs.Marks.{History, Call}
use Rattle.gate_runs.specs.Journal.{journal}
use Rattle.gate_runs.specs.Stages.{Stage, Shutting, later}
use Rattle.gate_runs.specs.Next.{AskAccept, AskConnect, AskRead, AskWrite, AskShut, AskIdle, AskNow}
use Rattle.gate_runs.specs.Next.{Upcoming, Do, Settle, EndBy, Done, asked, Point, BetweenTurns}
use Rattle.gate_runs.specs.Next.{ClockRead, BeforePairs, Refusing, InPair, Ending, Ended, after}
use Rattle.gate_runs.specs.Next.{after_shut, point, ahead, first_open, closing, live_pairs, next}
use Rattle.gate_runs.specs.Serving.{is_ended, RunsOutAt, AtRead, AtTakeUp, AtWrite, RefusesAt}
use Rattle.gate_turn_laws.proofs.Lists.{is_or_isnt, unlike}

-- the point after a shut
pub after_shut_by : (P : Point → Type 0) (p : ℕ) (end : End) (x : Point) → P BeforePairs → P (InPair p (later (Shutting end))) → (x ≡ Ended → P Ended)
    → P (after_shut p end x)
after_shut_by P p end BetweenTurns r b o = b
after_shut_by P p end ClockRead r b o = b
after_shut_by P p end BeforePairs r b o = b
after_shut_by P p end (Refusing q) r b o = r
after_shut_by P p end (InPair q s) r b o = b
after_shut_by P p end (Ending how) r b o = b
after_shut_by P p end Ended r b o = o refl

pub ended_is : (x : Point) → is_ended x ≡ true → x ≡ Ended
ended_is BetweenTurns e = absurd cc
ended_is ClockRead e = absurd cc
ended_is BeforePairs e = absurd cc
ended_is (Refusing p) e = absurd cc
ended_is (InPair p s) e = absurd cc
ended_is (Ending how) e = absurd cc
ended_is Ended e = refl

-- no call ends the service
pub after_runs : (entry : LogEntry) (x : Point) → is_ended x ≡ false → is_ended (after entry x) ≡ false
after_runs (Accept (accepted.Pair p)) x e = refl
after_runs (Accept accepted.NotYet) x e = refl
after_runs (Accept accepted.Failed) x e = refl
after_runs (Connect p answer) x e = refl
after_runs (Read p end room answer bytes) x e = refl
after_runs (Write p end bytes answer) x e = refl
after_runs (Shut p end) x e = after_shut_by (λ (y : Point). is_ended y ≡ false) p end x refl refl (λ o. sym (ap is_ended o) ∙ e)
after_runs (Idle Go) x e = refl
after_runs (Idle Stop) x e = refl
after_runs (Now ms) x e = refl

-- what comes after the end of the service
abbrev pub is_last : Upcoming → Bool
is_last (Do AskAccept) = false
is_last (Do (AskConnect p)) = false
is_last (Do (AskRead p end room)) = false
is_last (Do (AskWrite p end bytes)) = false
is_last (Do (AskShut p end)) = true
is_last (Do AskIdle) = false
is_last (Do AskNow) = false
is_last (Settle p) = false
is_last (EndBy how) = false
is_last Done = true

closing_last : (m : History) (ps : List ℕ) → is_last (closing m ps) ≡ true
closing_last m [] = refl
closing_last m (p ∷ ps) = refl

-- what is asked of a service that runs
pub runs_still : (w : RelayWords) (c : Limits) (m : History) (up : Upcoming) → next w c m ≡ up → is_last up ≡ false → is_ended (point m) ≡ false
runs_still w c m up e t = elim (is_or_isnt (is_ended (point m))) [
  | inl over ↦
      let here : closing m (live_pairs m) ≡ up = sym (ap (λ (y : Point). ahead w c m y) (ended_is (point m) over)) ∙ e in
      absurd (unlike is_last up (closing m (live_pairs m)) (sym here) t (closing_last m (live_pairs m)))
  | inr runs ↦ runs
]

is_shut : (p : ℕ) (end : End) (entry : LogEntry) → AskShut p end ≡ asked entry → entry ≡ Shut p end
is_shut p end (Accept answer) e = absurd cc
is_shut p end (Connect q answer) e = absurd cc
is_shut p end (Read q other room answer bytes) e = absurd cc
is_shut p end (Write q other bytes answer) e = absurd cc
is_shut p end (Shut q other) e = cc
is_shut p end (Idle answer) e = absurd cc
is_shut p end (Now ms) e = absurd cc

shut_asked : (m : History) (ps : List ℕ) (entry : LogEntry) → closing m ps ≡ Do (asked entry) → (p : ℕ) × (end : End) × (entry ≡ Shut p end)
shut_asked m [] entry e = absurd cc
shut_asked m (p ∷ ps) entry e =
    let same : AskShut p (first_open (journal p m)) ≡ asked entry = cc in (p, first_open (journal p m), is_shut p (first_open (journal p m)) entry same)

-- after the end of the service only shuts are asked
pub closing_call : (w : RelayWords) (c : Limits) (m : History) (entry : LogEntry) → point m ≡ Ended → next w c m ≡ Do (asked entry)
    → (p : ℕ) × (end : End) × (entry ≡ Shut p end)
closing_call w c m entry x e = shut_asked m (live_pairs m) entry (sym (ap (λ (y : Point). ahead w c m y) x) ∙ e)

-- a pair runs out of memory while the service runs
pub run_out_runs : (w : RelayWords) (c : Limits) (p : ℕ) (s : Stage) (cut : ℕ) (m : History) → RunsOutAt w c p s cut m → is_ended (point m) ≡ false
run_out_runs w c p s k m (AtRead cut end room n bytes old) = refl
run_out_runs w c p s k m (AtTakeUp cut old) = refl
run_out_runs w c p s k m (AtWrite end bytes old e t) = runs_still w c old (Do (AskWrite p end bytes)) e refl

pub refuse_runs : (p : ℕ) (m : History) → RefusesAt p m → is_ended (point m) ≡ false
refuse_runs p (Call (Accept (accepted.Pair q)) ∷ m) r = refl
refuse_runs p m r = absurd r
