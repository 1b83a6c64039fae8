-- Each live pair's part of a turn is gone through to its end.
use Rattle.std.proofs.Common.{◌≡◌, ℕ, ◌+◌, ◌≤◌, ◌==◌, nat_lt, Bool, true, false, if◌then◌else◌}
use Rattle.std.proofs.Common.{List, [], ◌∷◌, Option, None, Some, ◌⊎◌, refl, sym, ap, ◌∙◌, subst}
use Rattle.std.proofs.Common.{inl, inr, arith}
use Rattle.std.specs.Option.{option_map}
use Rattle.std.proofs.lemmas.Bool.{ltb-false}
use Rattle.std.proofs.lemmas.Bool.Decides.{eqb_tells}
use Rattle.gate_outside.specs.declared.ports.End.{End}
use Rattle.gate_outside.specs.declared.ports.End.TheVariants.{Client, Up}
use Rattle.gate_outside.specs.declared.ports.Accepted.TheVariants as accepted
use Rattle.gate_outside.specs.declared.ports.Got.{Got}
use Rattle.gate_outside.specs.declared.ports.Got.TheVariants as got
use Rattle.gate_outside.specs.declared.ports.Linked.{Linked}
use Rattle.gate_outside.specs.declared.ports.Put.{Put}
use Rattle.gate_outside.specs.declared.ports.Put.TheVariants as put
use Rattle.gate_outside.specs.declared.log.LogEntry.TheVariants.{Accept, Connect, Read, Write, Shut}
use Rattle.gate_outside.specs.declared.log.LogEntry.TheVariants.{Idle, Now}
use Rattle.gate_relay.specs.declared.loss.Loss.TheVariants as loss
use Rattle.gate_relay.specs.Entries.{Entry, Began, Refused, Moment, Came, Dry, Settled, Joined}
use Rattle.gate_relay.specs.Entries.{Took, Stuck, Lost, OutOfMemory, Over}
use Rattle.gate_relay.specs.Guards.{reads, takes_up, connects, offers, shuts}
use Rattle.gate_relay.specs.RelayWords.{RelayWords}
use Rattle.gate_relay.specs.Sides.{sides, has_end}
use Rattle.gate_runs.specs.declared.lap.Lap.{Lap}
use Rattle.gate_runs.specs.declared.lap.Lap.TheVariants.{ToUp, ToClient, ToClientLate, ToUpAgain}
use Rattle.gate_runs.specs.declared.limits.Limits.{Limits}
use Rattle.gate_runs.specs.declared.served.Served.TheVariants.{Stopped, PairsDone, TurnLimit, Fault}
use Rattle.gate_runs.specs.declared.served.Served.TheVariants.{Memory}
use Rattle.gate_runs.specs.Marks.{History, Call, Refuse, TakeUp, RunOut, Finish}
use Rattle.gate_runs.specs.Journal.{journal, moment, read_entry, write_entry}
use Rattle.gate_runs.specs.Stages.{Stage, Reading, Taking, Linking, Writing, Shutting, Past, later}
use Rattle.gate_runs.specs.Stages.{lap_end, stages_from, writing_at, at_running_out}
use Rattle.gate_runs.specs.Next.{AskConnect, AskRead, AskWrite, AskShut, AskIdle, AskNow, Upcoming}
use Rattle.gate_runs.specs.Next.{Do, Settle, EndBy, ask, most_writes, Point, ClockRead, Refusing}
use Rattle.gate_runs.specs.Next.{after_put, stage_of, point, next, live_pairs}
use Rattle.gate_runs.specs.Serving.{RunsOutAt, AtRead, AtTakeUp, AtWrite, is_ended, Follows}
use Rattle.gate_turn_laws.specs.Pairs.{is_live}
use Rattle.gate_turn_laws.specs.Turns.{reached_stage, AllThrough, IsTried, is_same_end}
use Rattle.gate_turn_laws.specs.Visits.{AtPoint, IsAnswer, IsTakeUp, IsLink, IsHeldUp, IsShut}
use Rattle.gate_turn_laws.specs.Visits.{taken_in_turn, WasRead, WasTakenUp, WasLinked, WasWritten}
use Rattle.gate_turn_laws.specs.Visits.{WasShut, IsVisited, AllVisited, VisitsAll}
use Rattle.gate_turn_laws.proofs.Lists.{is_or_isnt, some_or_none, if_same, if_other}
use Rattle.gate_turn_laws.proofs.Lists.{among_push-other}
use Rattle.gate_turn_laws.proofs.Order.{among_gone}
use Rattle.gate_turn_laws.proofs.Points.{runs_still, run_out_runs, refuse_runs}
use Rattle.gate_turn_laws.proofs.Cover.{Asks, not_due}
use Rattle.gate_turn_laws.proofs.Living.{IsRefusal, LivesAt, lives}
use Rattle.gate_turn_laws.proofs.Relayed.{shut_ended}
use Rattle.gate_turn_laws.proofs.Stages.{WritesAt, chain_of, past_by, Found, found_by}
use Rattle.gate_turn_laws.proofs.Turns.{Whole, Asked, in_part, at_refusal, at_end, of_none}
use Rattle.gate_turn_laws.proofs.Turns.{asked_at, asked_part, accept_whole, refused_gone, whole}
use Rattle.gate_turn_laws.proofs.Turns.{is_rest, all_through}

-- ---- points of a turn

-- an entry of a turn is behind its beginning
abbrev pub IsWithin : Entry → Type 0
IsWithin (Began p ms) = ⊥
IsWithin (Moment ms) = ⊥
IsWithin e = Unit {0}

point_on : (P : List Entry → Type 0) (e : Entry) (h : List Entry) → IsWithin e → AtPoint P h → AtPoint P (e ∷ h)
point_on P (Began p ms) h i k = absurd i
point_on P Refused h i k = inr k
point_on P (Moment ms) h i k = absurd i
point_on P (Came end bytes) h i k = inr k
point_on P (Dry end) h i k = inr k
point_on P Settled h i k = inr k
point_on P (Joined answer) h i k = inr k
point_on P (Took end bytes n) h i k = inr k
point_on P (Stuck end bytes) h i k = inr k
point_on P (Lost end how) h i k = inr k
point_on P (OutOfMemory cut) h i k = inr k
point_on P Over h i k = inr k

point_now : (P : List Entry → Type 0) (e : Entry) (h : List Entry) → P (e ∷ h) → AtPoint P (e ∷ h)
point_now P (Began p ms) h k = k
point_now P Refused h k = inl k
point_now P (Moment ms) h k = k
point_now P (Came end bytes) h k = inl k
point_now P (Dry end) h k = inl k
point_now P Settled h k = inl k
point_now P (Joined answer) h k = inl k
point_now P (Took end bytes n) h k = inl k
point_now P (Stuck end bytes) h k = inl k
point_now P (Lost end how) h k = inl k
point_now P (OutOfMemory cut) h k = inl k
point_now P Over h k = inl k

point_here : (P : List Entry → Type 0) (h : List Entry) → has_end (sides h) ≡ true → P h → AtPoint P h
point_here P [] some k = absurd cc
point_here P (e ∷ h) some k = point_now P e h k

taken_on : (end : End) (e : Entry) (h : List Entry) (k : ℕ) → IsWithin e → k ≤ taken_in_turn end h → k ≤ taken_in_turn end (e ∷ h)
taken_on end (Began p ms) h k i low = absurd i
taken_on end Refused h k i low = low
taken_on end (Moment ms) h k i low = absurd i
taken_on end (Came e bytes) h k i low = low
taken_on end (Dry e) h k i low = low
taken_on end Settled h k i low = low
taken_on end (Joined answer) h k i low = low
taken_on end (Took e bytes n) h k i low = more (is_same_end e end) (taken_in_turn end h) low
  where
    more : (b : Bool) (n : ℕ) → k ≤ n → k ≤ (if b then n + 1 else n)
    more true n low = omega (arith, low)
    more false n low = low
taken_on end (Stuck e bytes) h k i low = low
taken_on end (Lost e how) h k i low = low
taken_on end (OutOfMemory cut) h k i low = low
taken_on end Over h k i low = low

-- ---- what was gone through, by the stage that is reached

-- the steps before the writes
pub record IsPrepared (w : RelayWords) (h : List Entry) : Type 0 where
  pub read : (end : End) → WasRead w end h
  pub taken : WasTakenUp w h
  pub linked : WasLinked w h

abbrev pub VisitedStage : RelayWords → List Entry → Stage → Type 0
VisitedStage w h (Reading Up) = Unit {0}
VisitedStage w h (Reading Client) = WasRead w Up h
VisitedStage w h Taking = (end : End) → WasRead w end h
VisitedStage w h Linking = ((end : End) → WasRead w end h) × WasTakenUp w h
VisitedStage w h (Writing ToUp k) = IsPrepared w h × (k ≤ taken_in_turn Up h)
VisitedStage w h (Writing ToClient k) = IsPrepared w h × (k ≤ taken_in_turn Client h) × WasWritten w Up h
VisitedStage w h (Writing ToClientLate k) = IsPrepared w h × (k ≤ taken_in_turn Client h) × WasWritten w Up h
VisitedStage w h (Writing ToUpAgain k) = IsPrepared w h × (k ≤ taken_in_turn Up h) × ((end : End) → WasWritten w end h)
VisitedStage w h (Shutting Up) = IsPrepared w h × ((end : End) → WasWritten w end h)
VisitedStage w h (Shutting Client) = IsPrepared w h × ((end : End) → WasWritten w end h) × WasShut w Up h
VisitedStage w h Past = IsVisited w h

prepared_on : (w : RelayWords) (e : Entry) (h : List Entry) → IsWithin e → IsPrepared w h → IsPrepared w (e ∷ h)
prepared_on w e h i k = record {
  read = λ end. point_on (λ g. (reads w end g ≡ false) ⊎ IsAnswer end g) e h i (k.read end);
  taken = point_on (λ g. (takes_up w g ≡ false) ⊎ IsTakeUp g) e h i k.taken;
  linked = point_on (λ g. (connects w g ≡ false) ⊎ IsLink g) e h i k.linked;
}

read_on : (w : RelayWords) (end : End) (e : Entry) (h : List Entry) → IsWithin e → WasRead w end h → WasRead w end (e ∷ h)
read_on w end e h i k = point_on (λ g. (reads w end g ≡ false) ⊎ IsAnswer end g) e h i k

written_on : (w : RelayWords) (end : End) (e : Entry) (h : List Entry) → IsWithin e → WasWritten w end h → WasWritten w end (e ∷ h)
written_on w end e h i k = point_on (λ g. (offers w end g ≡ None) ⊎ IsHeldUp end g ⊎ (most_writes ≤ taken_in_turn end g)) e h i k

shut_on : (w : RelayWords) (end : End) (e : Entry) (h : List Entry) → IsWithin e → WasShut w end h → WasShut w end (e ∷ h)
shut_on w end e h i k = point_on (λ g. (shuts w end g ≡ false) ⊎ IsShut end g) e h i k

-- what was gone through stays so behind a further entry of the turn
visited_on : (w : RelayWords) (e : Entry) (h : List Entry) (s : Stage) → IsWithin e → VisitedStage w h s → VisitedStage w (e ∷ h) s
visited_on w e h (Reading Up) i k = tt
visited_on w e h (Reading Client) i k = read_on w Up e h i k
visited_on w e h Taking i k = λ end. read_on w end e h i (k end)
visited_on w e h Linking i k = ((λ end. read_on w end e h i (k.0 end)), point_on (λ g. (takes_up w g ≡ false) ⊎ IsTakeUp g) e h i k.1)
visited_on w e h (Writing ToUp n) i k = (prepared_on w e h i k.0, taken_on Up e h n i k.1)
visited_on w e h (Writing ToClient n) i k = (prepared_on w e h i k.0, taken_on Client e h n i k.1, written_on w Up e h i k.2)
visited_on w e h (Writing ToClientLate n) i k = (prepared_on w e h i k.0, taken_on Client e h n i k.1, written_on w Up e h i k.2)
visited_on w e h (Writing ToUpAgain n) i k = (prepared_on w e h i k.0, taken_on Up e h n i k.1, (λ end. written_on w end e h i (k.2 end)))
visited_on w e h (Shutting Up) i k = (prepared_on w e h i k.0, (λ end. written_on w end e h i (k.1 end)))
visited_on w e h (Shutting Client) i k = (prepared_on w e h i k.0, (λ end. written_on w end e h i (k.1 end)), shut_on w Up e h i k.2)
visited_on w e h Past i k = record {
  read = λ end. read_on w end e h i (k.read end);
  taken = point_on (λ g. (takes_up w g ≡ false) ⊎ IsTakeUp g) e h i k.taken;
  linked = point_on (λ g. (connects w g ≡ false) ⊎ IsLink g) e h i k.linked;
  written = λ end. written_on w end e h i (k.written end);
  shut = λ end. shut_on w end e h i (k.shut end);
}

both_ends : (P : End → Type 0) → P Client → P Up → (end : End) → P end
both_ends P client up Client = client
both_ends P client up Up = up

-- ---- a stage that asks nothing

unread : (w : RelayWords) (end : End) (h : List Entry) → has_end (sides h) ≡ true → reads w end h ≡ false → WasRead w end h
unread w end h some none = point_here (λ g. (reads w end g ≡ false) ⊎ IsAnswer end g) h some (inl none)

unshut : (w : RelayWords) (end : End) (h : List Entry) → has_end (sides h) ≡ true → shuts w end h ≡ false → WasShut w end h
unshut w end h some none = point_here (λ g. (shuts w end g ≡ false) ⊎ IsShut end g) h some (inl none)

-- nothing is offered, or 4,096 writes were made
written_out : (w : RelayWords) (p : ℕ) (lap : Lap) (k : ℕ) (h : List Entry) → has_end (sides h) ≡ true → k ≤ taken_in_turn (lap_end lap) h → ask w p (Writing lap k) h ≡ None
    → WasWritten w (lap_end lap) h
written_out w p lap k h some low none =
    point_here (λ g. (offers w (lap_end lap) g ≡ None) ⊎ IsHeldUp (lap_end lap) g ⊎ (most_writes ≤ taken_in_turn (lap_end lap) g)) h some
    (elim (is_or_isnt (nat_lt k most_writes)) [
      | inl few ↦ elim (some_or_none (offers w (lap_end lap) h)) [
        | inl o ↦
            let there : option_map (λ (bytes : List ℕ). Do (AskWrite p (lap_end lap) bytes)) (offers w (lap_end lap) h) ≡ None =
            sym (ap (λ (b : Bool). if b then option_map (λ (bytes : List ℕ). Do (AskWrite p (lap_end lap) bytes)) (offers w (lap_end lap) h) else None) few) ∙ none in
            let clash : Some (Do (AskWrite p (lap_end lap) o.0)) ≡ None =
            sym (ap (λ (x : Option (List ℕ)). option_map (λ (bytes : List ℕ). Do (AskWrite p (lap_end lap) bytes)) x) o.1) ∙ there in absurd cc
        | inr nothing ↦ inl nothing
      ]
      | inr many ↦ let high : 4096 ≤ k = ltb-false k 4096 many in inr (inr (over k (taken_in_turn (lap_end lap) h) high low))
    ])
  where
    over : (k n : ℕ) → 4096 ≤ k → k ≤ n → 4096 ≤ n
    over k n high low = omega (arith, high, low)

visit_passed : (w : RelayWords) (p : ℕ) (h : List Entry) → has_end (sides h) ≡ true → (s : Stage) → VisitedStage w h s → ask w p s h ≡ None → VisitedStage w h (later s)
visit_passed w p h some (Reading Up) k e = unread w Up h some (not_due (reads w Up h) _ e)
visit_passed w p h some (Reading Client) k e = both_ends (λ end. WasRead w end h) (unread w Client h some (not_due (reads w Client h) _ e)) k
visit_passed w p h some Taking k e = (k, point_here (λ g. (takes_up w g ≡ false) ⊎ IsTakeUp g) h some (inl (not_due (takes_up w h) _ e)))
visit_passed w p h some Linking k e =
    (record { read = k.0; taken = k.1; linked = point_here (λ g. (connects w g ≡ false) ⊎ IsLink g) h some (inl (not_due (connects w h) _ e)) }, omega arith)
visit_passed w p h some (Writing ToUp n) k e = (k.0, omega arith, written_out w p ToUp n h some k.1 e)
visit_passed w p h some (Writing ToClient n) k e = (k.0, both_ends (λ end. WasWritten w end h) (written_out w p ToClient n h some k.1 e) k.2)
visit_passed w p h some (Writing ToClientLate n) k e = (k.0, omega arith, both_ends (λ end. WasWritten w end h) (written_out w p ToClientLate n h some k.1 e) k.2)
visit_passed w p h some (Writing ToUpAgain n) k e = (k.0, k.2)
visit_passed w p h some (Shutting Up) k e = (k.0, k.1, unshut w Up h some (not_due (shuts w Up h) _ e))
visit_passed w p h some (Shutting Client) k e = record {
  read = k.0.read;
  taken = k.0.taken;
  linked = k.0.linked;
  written = k.1;
  shut = both_ends (λ end. WasShut w end h) (unshut w Client h some (not_due (shuts w Client h) _ e)) k.2;
}
visit_passed w p h some Past k e = k

-- ---- a stage that was asked

answered_read : (w : RelayWords) (end : End) (answer : Got) (bytes : List ℕ) (h : List Entry) → WasRead w end (read_entry end answer bytes ∷ h)
answered_read w end (got.Bytes n) bytes h = inl (inr refl)
answered_read w end got.NotYet bytes h = inl (inr refl)
answered_read w end got.Ended bytes h = inl (inr refl)
answered_read w end got.Failed bytes h = inl (inr refl)

pub within_read : (end : End) (answer : Got) (bytes : List ℕ) → IsWithin (read_entry end answer bytes)
within_read end (got.Bytes n) bytes = tt
within_read end got.NotYet bytes = tt
within_read end got.Ended bytes = tt
within_read end got.Failed bytes = tt

pub within_write : (end : End) (bytes : List ℕ) (answer : Put) → IsWithin (write_entry end bytes answer)
within_write end bytes (put.Took n) = tt
within_write end bytes put.NotYet = tt
within_write end bytes put.Failed = tt

visited_read : (w : RelayWords) (end : End) (answer : Got) (bytes : List ℕ) (h : List Entry) → VisitedStage w h (Reading end)
    → VisitedStage w (read_entry end answer bytes ∷ h) (later (Reading end))
visited_read w Up answer bytes h k = answered_read w Up answer bytes h
visited_read w Client answer bytes h k =
    both_ends (λ end. WasRead w end (read_entry Client answer bytes ∷ h)) (answered_read w Client answer bytes h)
    (read_on w Up (read_entry Client answer bytes) h (within_read Client answer bytes) k)

visited_taken : (w : RelayWords) (h : List Entry) → VisitedStage w h Taking → VisitedStage w (Settled ∷ h) Linking
visited_taken w h k = ((λ end. inr (k end)), inl (inr tt))

visited_linked : (w : RelayWords) (answer : Linked) (h : List Entry) → VisitedStage w h Linking → VisitedStage w (Joined answer ∷ h) (Writing ToUp 0)
visited_linked w answer h k = (record { read = λ end. inr (k.0 end); taken = inr k.1; linked = inl (inr tt) }, omega arith)

-- behind a write of which something was taken the lap goes on
more : (a b : ℕ) → a ≤ b → a + 1 ≤ b + 1
more a b low = omega (arith, low)

visited_took : (w : RelayWords) (lap : Lap) (n count : ℕ) (bytes : List ℕ) (h : List Entry) → VisitedStage w h (Writing lap n)
    → VisitedStage w (Took (lap_end lap) bytes count ∷ h) (Writing lap (n + 1))
visited_took w ToUp n count bytes h k = (prepared_on w (Took Up bytes count) h tt k.0, more n (taken_in_turn Up h) k.1)
visited_took w ToClient n count bytes h k = (prepared_on w (Took Client bytes count) h tt k.0, more n (taken_in_turn Client h) k.1, inr k.2)
visited_took w ToClientLate n count bytes h k = (prepared_on w (Took Client bytes count) h tt k.0, more n (taken_in_turn Client h) k.1, inr k.2)
visited_took w ToUpAgain n count bytes h k = (prepared_on w (Took Up bytes count) h tt k.0, more n (taken_in_turn Up h) k.1, (λ end. inr (k.2 end)))

-- behind a write of which nothing was taken, or which failed, the lap is over
visited_held : (w : RelayWords) (lap : Lap) (n : ℕ) (e : Entry) (h : List Entry) → IsWithin e → WasWritten w (lap_end lap) (e ∷ h) → VisitedStage w h (Writing lap n)
    → VisitedStage w (e ∷ h) (later (Writing lap n))
visited_held w ToUp n e h i k v = (prepared_on w e h i v.0, omega arith, k)
visited_held w ToClient n e h i k v = (prepared_on w e h i v.0, both_ends (λ end. WasWritten w end (e ∷ h)) k (written_on w Up e h i v.2))
visited_held w ToClientLate n e h i k v = (prepared_on w e h i v.0, omega arith, both_ends (λ end. WasWritten w end (e ∷ h)) k (written_on w Up e h i v.2))
visited_held w ToUpAgain n e h i k v = (prepared_on w e h i v.0, both_ends (λ end. WasWritten w end (e ∷ h)) (written_on w Client e h i (v.2 Client)) k)

visited_write : (w : RelayWords) (lap : Lap) (n : ℕ) (bytes : List ℕ) (answer : Put) (h : List Entry) → VisitedStage w h (Writing lap n)
    → VisitedStage w (write_entry (lap_end lap) bytes answer ∷ h) (after_put answer (Writing lap n))
visited_write w lap n bytes (put.Took count) h k = visited_took w lap n count bytes h k
visited_write w lap n bytes put.NotYet h k = visited_held w lap n (Stuck (lap_end lap) bytes) h tt (inl (inr (inl refl))) k
visited_write w lap n bytes put.Failed h k = visited_held w lap n (Lost (lap_end lap) loss.Failed) h tt (inl (inr (inl refl))) k

visited_shut : (w : RelayWords) (end : End) (h : List Entry) → VisitedStage w h (Shutting end) → VisitedStage w (Lost end loss.Shut ∷ h) (later (Shutting end))
visited_shut w Up h k = (prepared_on w (Lost Up loss.Shut) h tt k.0, (λ end. inr (k.1 end)), inl (inr refl))
visited_shut w Client h k = record {
  read = λ end. inr (k.0.read end);
  taken = inr k.0.taken;
  linked = inr k.0.linked;
  written = λ end. inr (k.1 end);
  shut = both_ends (λ end. WasShut w end (Lost Client loss.Shut ∷ h)) (inl (inr refl)) (inr k.2);
}

visited_out : (w : RelayWords) (lap : Lap) (n cut : ℕ) (h : List Entry) → VisitedStage w h (Writing lap n) → VisitedStage w (OutOfMemory cut ∷ h) (at_running_out (Writing lap n))
visited_out w ToUp n cut h k = visited_on w (OutOfMemory cut) h (Writing ToUp n) tt k
visited_out w ToClient n cut h k = visited_on w (OutOfMemory cut) h (Writing ToClient n) tt k
visited_out w ToClientLate n cut h k = visited_on w (OutOfMemory cut) h (Writing ToClientLate n) tt k
visited_out w ToUpAgain n cut h k = visited_on w (OutOfMemory cut) h (Writing ToUpAgain n) tt k

-- ---- each mark

abbrev Visited : RelayWords → ℕ → History → Type 0
Visited w p m = VisitedStage w (journal p m) (reached_stage p m)

live_end : (w : RelayWords) (c : Limits) (p : ℕ) (m : History) → Follows w c m → is_live p m ≡ true → has_end (sides (journal p m)) ≡ true
live_end w c p m f live = sym ((lives w c m f).each p) ∙ live

-- where something is asked of a pair, what comes before that stage was gone through
going : (w : RelayWords) (c : Limits) (m : History) (up : Upcoming) (p : ℕ) → Follows w c m → (a : Asked w c m up) → a.pair ≡ p → is_live p m ≡ true → Visited w p m
    → Found w p (journal p m) (VisitedStage w (journal p m)) (reached_stage p m) up
going w c m up p f a e live v =
    found_by w p (journal p m) (VisitedStage w (journal p m)) (visit_passed w p (journal p m) (live_end w c p m f live)) (reached_stage p m) (reached_stage p m)
    (stages_from (reached_stage p m)) up (chain_of (reached_stage p m)) v
    (subst (λ (i : ℕ). Asks w i (stages_from (reached_stage i m)) (journal i m) up) e a.asks)

-- a mark of q, at the stage s of p
visited_one : (w : RelayWords) (q p : ℕ) (e : Entry) (s old : Stage) (h : List Entry) → VisitedStage w h old → (q ≡ p → VisitedStage w (e ∷ h) s)
    → VisitedStage w (if q == p then e ∷ h else h) (if q == p then s else old)
visited_one w q p e s old h k own = elim (eqb_tells q p) [ inl t ↦ rw t.0 (own t.1) | inr f ↦ rw f.0 k ]

visited_same : (w : RelayWords) (q p : ℕ) (e : Entry) (s : Stage) (h : List Entry) → IsWithin e → VisitedStage w h s → VisitedStage w (if q == p then e ∷ h else h) s
visited_same w q p e s h i k = elim (eqb_tells q p) [ inl t ↦ rw t.0 (visited_on w e h s i k) | inr f ↦ rw f.0 k ]

call_connect : (w : RelayWords) (c : Limits) (q p : ℕ) (answer : Linked) (m : History) → Follows w c (Call (Connect q answer) ∷ m) → is_live p m ≡ true → Visited w p m
    → Visited w p (Call (Connect q answer) ∷ m)
call_connect w c q p answer m f live v = visited_one w q p (Joined answer) (later Linking) (reached_stage p m) (journal p m) v
    (λ e.
    let a : Asked w c m (Do (AskConnect q)) = asked_part w c m (Do (AskConnect q)) f.2 (whole w c m f.2) f.0 refl refl in
    let own : (a.pair ≡ q) × (a.at ≡ Linking) = a.own in
    let k : Found w p (journal p m) (VisitedStage w (journal p m)) (reached_stage p m) (Do (AskConnect q)) = going w c m (Do (AskConnect q)) p f.2 a (own.0 ∙ e) live v in
    let at : (p ≡ q) × (k.at ≡ Linking) = k.asks in
    visited_linked w answer (journal p m) (subst (VisitedStage w (journal p m)) at.1 k.here))

call_read : (w : RelayWords) (c : Limits) (q p room : ℕ) (end : End) (answer : Got) (bytes : List ℕ) (m : History) → Follows w c (Call (Read q end room answer bytes) ∷ m)
    → is_live p m ≡ true → Visited w p m → Visited w p (Call (Read q end room answer bytes) ∷ m)
call_read w c q p room end answer bytes m f live v = visited_one w q p (read_entry end answer bytes) (later (Reading end)) (reached_stage p m) (journal p m) v
    (λ e.
    let a : Asked w c m (Do (AskRead q end room)) = asked_part w c m (Do (AskRead q end room)) f.2 (whole w c m f.2) f.0 refl refl in
    let own : (a.pair ≡ q) × (a.at ≡ Reading end) = a.own in
    let k : Found w p (journal p m) (VisitedStage w (journal p m)) (reached_stage p m) (Do (AskRead q end room)) = going w c m (Do (AskRead q end room)) p f.2 a (own.0 ∙ e) live v in
    let at : (p ≡ q) × (k.at ≡ Reading end) = k.asks in
    visited_read w end answer bytes (journal p m) (subst (VisitedStage w (journal p m)) at.1 k.here))

mark_take_up : (w : RelayWords) (c : Limits) (q p : ℕ) (m : History) → Follows w c (TakeUp q ∷ m) → is_live p m ≡ true → Visited w p m → Visited w p (TakeUp q ∷ m)
mark_take_up w c q p m f live v = visited_one w q p Settled (later Taking) (reached_stage p m) (journal p m) v
    (λ e.
    let a : Asked w c m (Settle q) = asked_part w c m (Settle q) f.1 (whole w c m f.1) f.0 refl refl in
    let own : (a.pair ≡ q) × (a.at ≡ Taking) = a.own in
    let k : Found w p (journal p m) (VisitedStage w (journal p m)) (reached_stage p m) (Settle q) = going w c m (Settle q) p f.1 a (own.0 ∙ e) live v in
    let at : (p ≡ q) × (k.at ≡ Taking) = k.asks in
    visited_taken w (journal p m) (subst (VisitedStage w (journal p m)) at.1 k.here))

-- a write of p, at the stage of a lap
record WriteOf (w : RelayWords) (p : ℕ) (end : End) (m : History) : Type 0 where
  lap : Lap
  count : ℕ
  ends : lap_end lap ≡ end
  stage : writing_at end (reached_stage p m) ≡ Writing lap count
  here : VisitedStage w (journal p m) (Writing lap count)

write_of : (w : RelayWords) (c : Limits) (q p : ℕ) (end : End) (bytes : List ℕ) (m : History) → Follows w c m → next w c m ≡ Do (AskWrite q end bytes) → q ≡ p → is_live p m ≡ true
    → Visited w p m → WriteOf w p end m
write_of w c q p end bytes m f n e live v =
    let a : Asked w c m (Do (AskWrite q end bytes)) = asked_part w c m (Do (AskWrite q end bytes)) f (whole w c m f) n refl refl in
    let own : (a.pair ≡ q) × (lap : Lap) × (k : ℕ) × (a.at ≡ Writing lap k) × (lap_end lap ≡ end) × (offers w end (journal a.pair m) ≡ Some bytes) × (nat_lt k most_writes ≡ true) = a.own in
    let k : Found w p (journal p m) (VisitedStage w (journal p m)) (reached_stage p m) (Do (AskWrite q end bytes)) = going w c m (Do (AskWrite q end bytes)) p f a (own.0 ∙ e) live v in
    let at : (p ≡ q) × (lap : Lap) × (k' : ℕ) × (k.at ≡ Writing lap k') × (lap_end lap ≡ end) × (offers w end (journal p m) ≡ Some bytes) × (nat_lt k' most_writes ≡ true) = k.asks in
    record {
      lap = at.1;
      count = at.2;
      ends = at.4;
      stage = ap (λ (x : End). writing_at x (reached_stage p m)) (sym at.4) ∙ subst (WritesAt (reached_stage p m)) at.3 k.writes;
      here = subst (VisitedStage w (journal p m)) at.3 k.here;
    }

call_write : (w : RelayWords) (c : Limits) (q p : ℕ) (end : End) (bytes : List ℕ) (answer : Put) (m : History) → Follows w c (Call (Write q end bytes answer) ∷ m)
    → is_live p m ≡ true → Visited w p m → Visited w p (Call (Write q end bytes answer) ∷ m)
call_write w c q p end bytes answer m f live v = visited_one w q p (write_entry end bytes answer) (after_put answer (writing_at end (reached_stage p m))) (reached_stage p m) (journal p m) v
    (λ e.
    let k : WriteOf w p end m = write_of w c q p end bytes m f.2 f.0 e live v in
    subst (λ (s : Stage). VisitedStage w (write_entry end bytes answer ∷ journal p m) (after_put answer s)) (sym k.stage)
    (subst (λ (x : End). VisitedStage w (write_entry x bytes answer ∷ journal p m) (after_put answer (Writing k.lap k.count))) k.ends
    (visited_write w k.lap k.count bytes answer (journal p m) k.here)))

call_shut : (w : RelayWords) (c : Limits) (q p : ℕ) (end : End) (m : History) → Follows w c (Call (Shut q end) ∷ m) → is_ended (point m) ≡ false
    → is_live p (Call (Shut q end) ∷ m) ≡ true → is_live p m ≡ true → Visited w p m → Visited w p (Call (Shut q end) ∷ m)
call_shut w c q p end m f runs alive live v = visited_one w q p (Lost end loss.Shut) (later (Shutting end)) (reached_stage p m) (journal p m) v
    (λ e. elim (asked_at w c m (Do (AskShut q end)) f.2 (whole w c m f.2) f.0) [
      | in_part a ↦
          let own : (a.pair ≡ q) × (a.at ≡ Shutting end) = a.own in
          let k : Found w p (journal p m) (VisitedStage w (journal p m)) (reached_stage p m) (Do (AskShut q end)) = going w c m (Do (AskShut q end)) p f.2 a (own.0 ∙ e) live v in
          let at : (p ≡ q) × (k.at ≡ Shutting end) = k.asks in
          visited_shut w end (journal p m) (subst (VisitedStage w (journal p m)) at.1 k.here)
      | at_refusal r x call ↦ absurd (refused_dead w c q p r end m f x call e alive)
      | at_end x ↦ let clash : false ≡ true = sym runs ∙ ap is_ended x in absurd cc
      | of_none none ↦ absurd cc
    ])
  where
    refused_dead : (w : RelayWords) (c : Limits) (q p r : ℕ) (end : End) (m : History) → Follows w c (Call (Shut q end) ∷ m) → point m ≡ Refusing r
        → Do (AskShut r Client) ≡ Do (AskShut q end) → q ≡ p → is_live p (Call (Shut q end) ∷ m) ≡ true → ⊥
    refused_dead w c q p r end m f x call e alive =
        let same : AskShut r Client ≡ AskShut q end = cc in
        let pair : r ≡ q = cc in
        let side : Client ≡ end = cc in
        let refused : IsRefusal q (journal q m) = subst (λ (y : Point). LivesAt m y) (x ∙ ap Refusing pair) (lives w c m f.2).here in
        let dead : is_live q (Call (Shut q end) ∷ m) ≡ false = subst (λ (o : End). Follows w c (Call (Shut q o) ∷ m) → is_live q (Call (Shut q o) ∷ m) ≡ false) side
        (λ g. refused_gone w c q m g refused) f in
        let clash : false ≡ true = sym dead ∙ subst (λ (i : ℕ). is_live i (Call (Shut q end) ∷ m) ≡ true) (sym e) alive in cc

-- a pair that ran out of memory goes on at the stage it had reached, or with the writes late
mark_run_out : (w : RelayWords) (c : Limits) (q p : ℕ) (s : Stage) (cut : ℕ) (m : History) → Follows w c m → RunsOutAt w c q s cut m → q ≡ p → is_live p m ≡ true → Visited w p m
    → VisitedStage w (OutOfMemory cut ∷ journal p m) s
mark_run_out w c q p s k m f (AtRead cut end room n bytes old) e live v =
    let here : reached_stage p (Call (Read q end room (got.Bytes n) bytes) ∷ old) ≡ later (Reading end) =
    subst (λ (i : ℕ). reached_stage i (Call (Read q end room (got.Bytes n) bytes) ∷ old) ≡ later (Reading end)) e (if_same q (later (Reading end)) (reached_stage q old)) in
    visited_on w (OutOfMemory cut) (journal p (Call (Read q end room (got.Bytes n) bytes) ∷ old)) (later (Reading end)) tt
    (subst (VisitedStage w (journal p (Call (Read q end room (got.Bytes n) bytes) ∷ old))) here v)
mark_run_out w c q p s k m f (AtTakeUp cut old) e live v =
    let here : reached_stage p (TakeUp q ∷ old) ≡ later Taking = subst (λ (i : ℕ). reached_stage i (TakeUp q ∷ old) ≡ later Taking) e (if_same q (later Taking) (reached_stage q old)) in
    visited_on w (OutOfMemory cut) (journal p (TakeUp q ∷ old)) (later Taking) tt (subst (VisitedStage w (journal p (TakeUp q ∷ old))) here v)
mark_run_out w c q p s k m f (AtWrite end bytes old n t) e live v =
    let a : Asked w c old (Do (AskWrite q end bytes)) = asked_part w c old (Do (AskWrite q end bytes)) f (whole w c old f) n refl refl in
    let own : (a.pair ≡ q) × (lap : Lap) × (i : ℕ) × (a.at ≡ Writing lap i) × (lap_end lap ≡ end) × (offers w end (journal a.pair old) ≡ Some bytes) × (nat_lt i most_writes ≡ true) = a.own in
    let same : stage_of q (point old) ≡ reached_stage p old = subst (λ (i : ℕ). stage_of i (point old) ≡ reached_stage i old) own.0 a.same ∙ ap (λ (i : ℕ). reached_stage i old) e in
    let k : WriteOf w p end old = write_of w c q p end bytes old f n e live v in
    subst (λ (x : Stage). VisitedStage w (OutOfMemory 0 ∷ journal p old) (at_running_out (writing_at end x))) (sym same)
    (subst (λ (x : Stage). VisitedStage w (OutOfMemory 0 ∷ journal p old) (at_running_out x)) (sym k.stage) (visited_out w k.lap k.count 0 (journal p old) k.here))

call_accept : (w : RelayWords) (c : Limits) (q p : ℕ) (m : History) → Follows w c (Call (Accept (accepted.Pair q)) ∷ m) → is_live p (Call (Accept (accepted.Pair q)) ∷ m) ≡ true
    → (is_live p m ≡ true → Visited w p m) → Visited w p (Call (Accept (accepted.Pair q)) ∷ m)
call_accept w c q p m f live v = elim (eqb_tells q p) [
  | inl t ↦
      let fresh : Whole w m ClockRead = accept_whole w c m f.2 (whole w c m f.2) f.0 in
      subst (λ (s : Stage). VisitedStage w (journal p (Call (Accept (accepted.Pair q)) ∷ m)) s) (sym (fresh p)) tt
  | inr o ↦
      subst (λ (h : List Entry). VisitedStage w h (reached_stage p m)) (sym (if_other q p (Began p (moment m) ∷ []) (journal p m) o.1))
      (v (sym (among_push-other p q (live_pairs m) o.1) ∙ live))
]

visited : (w : RelayWords) (c : Limits) (p : ℕ) (m : History) → Follows w c m → is_ended (point m) ≡ false → is_live p m ≡ true → Visited w p m
visited w c p [] f runs live = absurd cc
visited w c p (Call (Accept (accepted.Pair q)) ∷ m) f runs live =
    call_accept w c q p m f live (λ before. visited w c p m f.2 (runs_still w c m _ f.0 refl) before)
visited w c p (Call (Accept accepted.NotYet) ∷ m) f runs live = visited w c p m f.2 (runs_still w c m _ f.0 refl) live
visited w c p (Call (Accept accepted.Failed) ∷ m) f runs live = visited w c p m f.2 (runs_still w c m _ f.0 refl) live
visited w c p (Call (Connect q answer) ∷ m) f runs live = call_connect w c q p answer m f live (visited w c p m f.2 (runs_still w c m _ f.0 refl) live)
visited w c p (Call (Read q end room answer bytes) ∷ m) f runs live =
    call_read w c q p room end answer bytes m f live (visited w c p m f.2 (runs_still w c m _ f.0 refl) live)
visited w c p (Call (Write q end bytes answer) ∷ m) f runs live =
    call_write w c q p end bytes answer m f live (visited w c p m f.2 (runs_still w c m _ f.0 refl) live)
visited w c p (Call (Shut q end) ∷ m) f runs live =
    let before : is_ended (point m) ≡ false = shut_ended q end (point m) runs in
    let alive : is_live p m ≡ true = among_gone (has_end (sides (journal q (Call (Shut q end) ∷ m)))) q p (live_pairs m) live in
    call_shut w c q p end m f before live alive (visited w c p m f.2 before alive)
visited w c p (Call (Idle answer) ∷ m) f runs live = visited w c p m f.2 (runs_still w c m _ f.0 refl) live
visited w c p (Call (Now ms) ∷ m) f runs live = tt
visited w c p (Refuse q ∷ m) f runs live =
    visited_same w q p Refused (reached_stage p m) (journal p m) tt (visited w c p m f.1 (refuse_runs q m f.0) live)
visited w c p (TakeUp q ∷ m) f runs live = mark_take_up w c q p m f live (visited w c p m f.1 (runs_still w c m _ f.0 refl) live)
visited w c p (RunOut q s cut ∷ m) f runs live =
    let v : Visited w p m = visited w c p m f.2 (run_out_runs w c q s cut m f.1) live in
    visited_one w q p (OutOfMemory cut) s (reached_stage p m) (journal p m) v (λ e. mark_run_out w c q p s cut m f.2 f.1 e live v)
visited w c p (Finish how ∷ m) f runs live = absurd cc

-- ---- the end of a turn

all_visited : (w : RelayWords) (c : Limits) (m : History) (up : Upcoming) → Follows w c m → next w c m ≡ up → is_rest up ≡ true → is_ended (point m) ≡ false → AllVisited w m
all_visited w c m up f e t runs p live =
    let through : AllThrough w m × IsTried c m = all_through w c m up f (whole w c m f) e t in
    past_by w p (journal p m) (VisitedStage w (journal p m)) (visit_passed w p (journal p m) (live_end w c p m f live)) (reached_stage p m) (reached_stage p m)
    (stages_from (reached_stage p m)) (chain_of (reached_stage p m)) (visited w c p m f runs live) (through.0 p live)

pub visits_all : (w : RelayWords) (c : Limits) (m : History) → Follows w c m → VisitsAll w m
visits_all w c [] f = tt
visits_all w c (Call (Accept answer) ∷ m) f = visits_all w c m f.2
visits_all w c (Call (Connect p answer) ∷ m) f = visits_all w c m f.2
visits_all w c (Call (Read p end room answer bytes) ∷ m) f = visits_all w c m f.2
visits_all w c (Call (Write p end bytes answer) ∷ m) f = visits_all w c m f.2
visits_all w c (Call (Shut p end) ∷ m) f = visits_all w c m f.2
visits_all w c (Call (Idle answer) ∷ m) f = (all_visited w c m (Do AskIdle) f.2 f.0 refl (runs_still w c m _ f.0 refl), visits_all w c m f.2)
visits_all w c (Call (Now ms) ∷ m) f = (all_visited w c m (Do AskNow) f.2 f.0 refl (runs_still w c m _ f.0 refl), visits_all w c m f.2)
visits_all w c (Refuse p ∷ m) f = visits_all w c m f.1
visits_all w c (TakeUp p ∷ m) f = visits_all w c m f.1
visits_all w c (RunOut p s cut ∷ m) f = visits_all w c m f.2
visits_all w c (Finish Stopped ∷ m) f = visits_all w c m f.2
visits_all w c (Finish PairsDone ∷ m) f = (all_visited w c m (EndBy PairsDone) f.2 f.0 refl (runs_still w c m _ f.0 refl), visits_all w c m f.2)
visits_all w c (Finish TurnLimit ∷ m) f = (all_visited w c m (EndBy TurnLimit) f.2 f.0 refl (runs_still w c m _ f.0 refl), visits_all w c m f.2)
visits_all w c (Finish (Fault what) ∷ m) f = visits_all w c m f.2
visits_all w c (Finish Memory ∷ m) f = visits_all w c m f.2
