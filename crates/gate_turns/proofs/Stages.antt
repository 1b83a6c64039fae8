-- How a pair goes from stage to stage: each call that is next keeps the history one in which each call is.
use Rattle.std.proofs.Common.{◌≡◌, ℕ, nat_lt, Bool, true, false, if◌then◌else◌, List, [], ◌∷◌}
use Rattle.std.proofs.Common.{Option, None, Some, refl, sym, ap, ◌∙◌, subst, inl, inr, arith}
use Rattle.std.proofs.lemmas.Bool.Decides.{eqb_tells}
use Rattle.gate_outside.specs.declared.ports.End.{End}
use Rattle.gate_outside.specs.declared.ports.End.TheVariants.{Client, Up}
use Rattle.gate_outside.specs.declared.log.LogEntry.{LogEntry}
use Rattle.gate_runs.specs.declared.limits.Limits.{Limits}
use Rattle.gate_runs.specs.declared.lap.Lap.{Lap}
use Rattle.gate_runs.specs.declared.lap.Lap.TheVariants.{ToUp, ToClient, ToClientLate, ToUpAgain}
use Rattle.gate_relay.specs.Entries.{Entry, is_out_of_memory}
use Rattle.gate_relay.specs.RelayWords.{RelayWords}
use Rattle.gate_runs.specs.Stages.{Stage, Reading, Taking, Linking, Writing, Shutting, Past, later}
use Rattle.gate_runs.specs.Stages.{writing_at, lap_end}
use Rattle.gate_runs.specs.Marks.{History, Call, TakeUp, RunOut}
use Rattle.gate_runs.specs.Journal.{journal}
use Rattle.gate_runs.specs.Next.{asked, Upcoming, Do, Settle, Point, BetweenTurns, ClockRead}
use Rattle.gate_runs.specs.Next.{BeforePairs, Refusing, InPair, Ending, Ended, point, stage_of}
use Rattle.gate_runs.specs.Next.{after, after_shut, ask, or_more, visit, round, beyond, without}
use Rattle.gate_runs.specs.Next.{unless_gone, ahead, live_pairs}
use Rattle.gate_runs.specs.Serving.{Answered, RunsOutAt}
use Rattle.gate_turns.specs.Parts.{Unwritten, Written, is_inside, AreFresh, AreOthers, AtStage}
use Rattle.gate_turns.specs.Parts.{PairsAhead}
use Rattle.gate_turns.proofs.OneMark.{if_same, if_other}

-- a stage at which nothing is asked is passed over
pass : (w : RelayWords) (p : ℕ) (s : Stage) (h : List Entry) (more : Upcoming) → ask w p s h ≡ None → visit w p s h more ≡ visit w p (later s) h more
pass w p (Reading Up) h more e = ap (λ (o : Option Upcoming). or_more o (visit w p (Reading Client) h more)) e
pass w p (Reading Client) h more e = ap (λ (o : Option Upcoming). or_more o (visit w p Taking h more)) e
pass w p Taking h more e = ap (λ (o : Option Upcoming). or_more o (visit w p Linking h more)) e
pass w p Linking h more e = ap (λ (o : Option Upcoming). or_more o (visit w p (Writing ToUp 0) h more)) e
pass w p (Writing ToUp k) h more e = ap (λ (o : Option Upcoming). or_more o (visit w p (Writing ToClient 0) h more)) e
pass w p (Writing ToClient k) h more e = ap (λ (o : Option Upcoming). or_more o (visit w p (Shutting Up) h more)) e
pass w p (Writing ToClientLate k) h more e = ap (λ (o : Option Upcoming). or_more o (visit w p (Writing ToUpAgain 0) h more)) e
pass w p (Writing ToUpAgain k) h more e = ap (λ (o : Option Upcoming). or_more o (visit w p (Shutting Up) h more)) e
pass w p (Shutting Up) h more e = ap (λ (o : Option Upcoming). or_more o (visit w p (Shutting Client) h more)) e
pass w p (Shutting Client) h more e = ap (λ (o : Option Upcoming). or_more o more) e
pass w p Past h more e = refl

-- a stage at which something is asked
pub asks : (w : RelayWords) (p : ℕ) (s : Stage) (h : List Entry) (more up : Upcoming) → ask w p s h ≡ Some up → visit w p s h more ≡ up
asks w p (Reading Up) h more up e = ap (λ (o : Option Upcoming). or_more o (visit w p (Reading Client) h more)) e
asks w p (Reading Client) h more up e = ap (λ (o : Option Upcoming). or_more o (visit w p Taking h more)) e
asks w p Taking h more up e = ap (λ (o : Option Upcoming). or_more o (visit w p Linking h more)) e
asks w p Linking h more up e = ap (λ (o : Option Upcoming). or_more o (visit w p (Writing ToUp 0) h more)) e
asks w p (Writing ToUp k) h more up e = ap (λ (o : Option Upcoming). or_more o (visit w p (Writing ToClient 0) h more)) e
asks w p (Writing ToClient k) h more up e = ap (λ (o : Option Upcoming). or_more o (visit w p (Shutting Up) h more)) e
asks w p (Writing ToClientLate k) h more up e = ap (λ (o : Option Upcoming). or_more o (visit w p (Writing ToUpAgain 0) h more)) e
asks w p (Writing ToUpAgain k) h more up e = ap (λ (o : Option Upcoming). or_more o (visit w p (Shutting Up) h more)) e
asks w p (Shutting Up) h more up e = ap (λ (o : Option Upcoming). or_more o (visit w p (Shutting Client) h more)) e
asks w p (Shutting Client) h more up e = ap (λ (o : Option Upcoming). or_more o more) e
asks w p Past h more up e = absurd cc

written_later : (s t : Stage) → Written s t → Written (later s) t
written_later (Reading Up) t e = e
written_later (Reading Client) t e = e
written_later Taking t e = e
written_later Linking t e = e
written_later (Writing ToUp k) t e = e.1
written_later (Writing ToClient k) t e = tt
written_later (Writing ToClientLate k) t e = e.1
written_later (Writing ToUpAgain k) t e = tt
written_later (Shutting Up) t e = tt
written_later (Shutting Client) t e = tt
written_later Past t e = tt

-- a stage that a mark left
pub written_here : (s : Stage) → Written s s
written_here (Reading Up) = (refl, refl)
written_here (Reading Client) = (refl, refl)
written_here Taking = (refl, refl)
written_here Linking = (refl, refl)
written_here (Writing ToUp k) = (refl, refl)
written_here (Writing ToClient k) = refl
written_here (Writing ToClientLate k) = (refl, refl)
written_here (Writing ToUpAgain k) = refl
written_here (Shutting end) = tt
written_here Past = tt

-- the stage of a write, where it is known
pub is_written : (lap : Lap) (k : ℕ) (t : Stage) → Written (Writing lap k) t → writing_at (lap_end lap) t ≡ Writing lap k
is_written ToUp k t e = e.0
is_written ToClient k t e = e
is_written ToClientLate k t e = e.0
is_written ToUpAgain k t e = e

stage_here : (p : ℕ) (s : Stage) → Written s (stage_of p (InPair p s))
stage_here p s = subst (λ (t : Stage). Written s t) (sym (if_same p s (Reading Up))) (written_here s)

-- the stage of p is none of another pair
others_fresh : (p : ℕ) (s : Stage) (ps : List ℕ) → AreOthers p ps → AreFresh ps (InPair p s)
others_fresh p s [] o = tt
others_fresh p s (q ∷ ps) o = (if_other p q s (Reading Up) (λ e. o.0 (sym e)), others_fresh p s ps o.1)

-- where nothing is asked, the next stage comes
pub at_pass : (w : RelayWords) (c : Limits) (p : ℕ) (s : Stage) (ps : List ℕ) (m : History) → ask w p s (journal p m) ≡ None → AtStage w c p s ps m → AtStage w c p (later s) ps m
at_pass w c p s ps m none a = record {
  coming = a.coming ∙ pass w p s (journal p m) (round w c m ps) none;
  behind = a.behind;
  written = written_later s _ a.written;
  fresh = a.fresh;
  others = a.others;
  inside = a.inside;
  follows = a.follows;
}

-- a call that is asked
pub at_call : (w : RelayWords) (c : Limits) (p : ℕ) (s to : Stage) (ps : List ℕ) (m : History) (entry : LogEntry)
    → ask w p s (journal p m) ≡ Some (Do (asked entry)) → Answered m entry → after entry (point m) ≡ InPair p to
    → beyond p (live_pairs (Call entry ∷ m)) ≡ beyond p (live_pairs m) → AtStage w c p s ps m → AtStage w c p to ps (Call entry ∷ m)
at_call w c p s to ps m entry e answered here behind a = record {
  coming = ap (λ (x : Point). ahead w c (Call entry ∷ m) x) here
      ∙ ap (λ (qs : List ℕ). visit w p to (journal p (Call entry ∷ m)) (round w c (Call entry ∷ m) qs)) (behind ∙ a.behind);
  behind = behind ∙ a.behind;
  written = subst (λ (x : Point). Written to (stage_of p x)) (sym here) (stage_here p to);
  fresh = subst (λ (x : Point). AreFresh ps x) (sym here) (others_fresh p to ps a.others);
  others = a.others;
  inside = ap is_inside here;
  follows = (a.coming ∙ asks w p s (journal p m) (round w c m ps) (Do (asked entry)) e, answered, a.follows);
}

-- what came is taken up
pub at_take_up : (w : RelayWords) (c : Limits) (p : ℕ) (ps : List ℕ) (m : History) → ask w p Taking (journal p m) ≡ Some (Settle p)
    → AtStage w c p Taking ps m → AtStage w c p Linking ps (TakeUp p ∷ m)
at_take_up w c p ps m e a = record {
  coming = ap (λ (qs : List ℕ). visit w p Linking (journal p (TakeUp p ∷ m)) (round w c (TakeUp p ∷ m) qs)) a.behind;
  behind = a.behind;
  written = stage_here p Linking;
  fresh = others_fresh p Linking ps a.others;
  others = a.others;
  inside = refl;
  follows = (a.coming ∙ asks w p Taking (journal p m) (round w c m ps) (Settle p) e, a.follows);
}

-- the pair ran out of memory
pub at_run_out : (w : RelayWords) (c : Limits) (p : ℕ) (s to : Stage) (cut : ℕ) (ps : List ℕ) (m : History) → is_out_of_memory (journal p m) ≡ false
    → RunsOutAt w c p to cut m → AtStage w c p s ps m → AtStage w c p to ps (RunOut p to cut ∷ m)
at_run_out w c p s to cut ps m calm where_it a = record {
  coming = ap (λ (qs : List ℕ). visit w p to (journal p (RunOut p to cut ∷ m)) (round w c (RunOut p to cut ∷ m) qs)) a.behind;
  behind = a.behind;
  written = stage_here p to;
  fresh = others_fresh p to ps a.others;
  others = a.others;
  inside = refl;
  follows = (calm, where_it, a.follows);
}

-- the pair's part of the turn begins
pub at_face : (w : RelayWords) (c : Limits) (p : ℕ) (ps : List ℕ) (m : History) → beyond p (live_pairs m) ≡ ps → AreOthers p ps
    → PairsAhead w c (p ∷ ps) m → AtStage w c p (Reading Up) ps m
at_face w c p ps m behind others f = record {
  coming = f.coming;
  behind = behind;
  written = subst (λ (s : Stage). Unwritten s) (sym f.fresh.0) (refl, refl);
  fresh = f.fresh.1;
  others = others;
  inside = f.inside;
  follows = f.follows;
}

-- it is over
pub face_past : (w : RelayWords) (c : Limits) (p : ℕ) (ps : List ℕ) (m : History) → AtStage w c p Past ps m → PairsAhead w c ps m
face_past w c p ps m a = record { coming = a.coming; fresh = a.fresh; inside = a.inside; follows = a.follows }

-- a shut inside a turn
pub shut_inside : (p : ℕ) (end : End) (x : Point) → is_inside x ≡ true → after_shut p end x ≡ InPair p (later (Shutting end))
shut_inside p end BetweenTurns e = absurd cc
shut_inside p end ClockRead e = refl
shut_inside p end BeforePairs e = refl
shut_inside p end (Refusing q) e = absurd cc
shut_inside p end (InPair q s) e = refl
shut_inside p end (Ending how) e = absurd cc
shut_inside p end Ended e = absurd cc

-- behind p nothing is p
beyond-without : (p : ℕ) (ps : List ℕ) → beyond p (without p ps) ≡ beyond p ps
beyond-without p [] = refl
beyond-without p (q ∷ ps) = elim (eqb_tells q p) [
  | inl t ↦ rw t.0 (let below : nat_lt p q ≡ false = subst (λ (x : ℕ). nat_lt p x ≡ false) (sym t.1) (irreflexive p) in rw below (beyond-without p ps))
  | inr f ↦ rw f.0 (ap (λ (xs : List ℕ). if nat_lt p q then q ∷ xs else xs) (beyond-without p ps))
]
  where
    irreflexive : (p : ℕ) → nat_lt p p ≡ false
    irreflexive p = grind arith

pub beyond-gone : (b : Bool) (p : ℕ) (ps : List ℕ) → beyond p (unless_gone b p ps) ≡ beyond p ps
beyond-gone true p ps = refl
beyond-gone false p ps = beyond-without p ps
