-- In a turn each end of a pair is written to at most 4,096 times.
use Rattle.std.proofs.Common.{◌≡◌, ℕ, ◌+◌, ◌<◌, ◌≤◌, ◌==◌, nat_lt, Bool, true, ◌&&◌, if◌then◌else◌}
use Rattle.std.proofs.Common.{List, [], ◌∷◌, Some, refl, sym, ap, ◌∙◌, subst, inl, inr, arith}
use Rattle.std.proofs.lemmas.Bool.{ltb-true}
use Rattle.std.proofs.lemmas.Bool.Decides.{eqb_tells}
use Rattle.gate_outside.specs.declared.ports.End.{End}
use Rattle.gate_outside.specs.declared.ports.End.TheVariants.{Client, Up}
use Rattle.gate_outside.specs.declared.ports.Accepted.TheVariants as accepted
use Rattle.gate_outside.specs.declared.ports.Got.{Got}
use Rattle.gate_outside.specs.declared.ports.Got.TheVariants as got
use Rattle.gate_outside.specs.declared.ports.Linked.{Linked}
use Rattle.gate_outside.specs.declared.ports.Put.{Put}
use Rattle.gate_outside.specs.declared.ports.Put.TheVariants as put
use Rattle.gate_outside.specs.declared.log.LogEntry.TheVariants.{Accept, Connect, Read, Write, Shut}
use Rattle.gate_outside.specs.declared.log.LogEntry.TheVariants.{Idle, Now}
use Rattle.gate_relay.specs.declared.loss.Loss.TheVariants as loss
use Rattle.gate_relay.specs.Entries.{Entry, Began, Refused, Moment, Came, Dry, Settled, Joined}
use Rattle.gate_relay.specs.Entries.{Took, Stuck, Lost, OutOfMemory, Over}
use Rattle.gate_relay.specs.Guards.{offers}
use Rattle.gate_relay.specs.RelayWords.{RelayWords}
use Rattle.gate_runs.specs.declared.lap.Lap.{Lap}
use Rattle.gate_runs.specs.declared.lap.Lap.TheVariants.{ToUp, ToClient, ToClientLate, ToUpAgain}
use Rattle.gate_runs.specs.declared.limits.Limits.{Limits}
use Rattle.gate_runs.specs.Marks.{History, Call, Refuse, TakeUp, RunOut, Finish}
use Rattle.gate_runs.specs.Journal.{journal, since, read_entry, write_entry}
use Rattle.gate_runs.specs.Stages.{Stage, Reading, Taking, Linking, Writing, Shutting, Past, later}
use Rattle.gate_runs.specs.Stages.{lap_end, stages_from, writing_at, at_running_out}
use Rattle.gate_runs.specs.Next.{AskConnect, AskRead, AskWrite, Upcoming, Do, Settle, most_writes}
use Rattle.gate_runs.specs.Next.{ClockRead, after_put, stage_of, point, next}
use Rattle.gate_runs.specs.Serving.{RunsOutAt, AtRead, AtTakeUp, AtWrite, Follows}
use Rattle.gate_turn_laws.specs.Turns.{ran_out_in_turn, reached_stage, marks_in_turn, is_same_end}
use Rattle.gate_turn_laws.specs.Turns.{is_write_of, IsFewUp, WritesFew}
use Rattle.gate_turn_laws.proofs.Lists.{if_same}
use Rattle.gate_turn_laws.proofs.Cover.{Asks}
use Rattle.gate_turn_laws.proofs.Stages.{WritesAt, chain_of, Found, found_by}
use Rattle.gate_turn_laws.proofs.Visits.{IsWithin, within_read, within_write}
use Rattle.gate_turn_laws.proofs.Turns.{Whole, Asked, asked_part, accept_whole, whole}

-- the counts of writes to the client and upstream, and whether the pair ran out of memory, by the stage that is reached
abbrev pub CountStage : ℕ → ℕ → Bool → Stage → Type 0
CountStage a b out (Reading end) = (a ≡ 0) × (b ≡ 0)
CountStage a b out Taking = (a ≡ 0) × (b ≡ 0)
CountStage a b out Linking = (a ≡ 0) × (b ≡ 0)
CountStage a b out (Writing ToUp k) = (a ≡ 0) × (b ≡ k) × (k ≤ 4096)
CountStage a b out (Writing ToClient k) = (a ≡ k) × (k ≤ 4096) × (b ≤ 4096)
CountStage a b out (Writing ToClientLate k) = (a ≡ k) × (k ≤ 4096) × (b ≤ 4096) × (out ≡ true)
CountStage a b out (Writing ToUpAgain k) = (a ≤ 4096) × (b ≤ 4096 + k) × (k ≤ 4096) × (out ≡ true)
CountStage a b out (Shutting end) = (a ≤ 4096) × IsFewUp b out
CountStage a b out Past = (a ≤ 4096) × IsFewUp b out

-- what holds at a stage holds at the next one
count_passed : (a b : ℕ) (out : Bool) (s : Stage) → CountStage a b out s → CountStage a b out (later s)
count_passed a b out (Reading Up) k = k
count_passed a b out (Reading Client) k = k
count_passed a b out Taking k = k
count_passed a b out Linking k = (k.0, k.1, omega arith)
count_passed a b out (Writing ToUp n) k = let same : b ≡ n = k.1 in let low : n ≤ 4096 = k.2 in (k.0, omega arith, omega (arith, same, low))
count_passed a b out (Writing ToClient n) k = let same : a ≡ n = k.0 in let low : n ≤ 4096 = k.1 in (omega (arith, same, low), inl k.2)
count_passed a b out (Writing ToClientLate n) k =
    let same : a ≡ n = k.0 in let low : n ≤ 4096 = k.1 in let few : b ≤ 4096 = k.2 in (omega (arith, same, low), omega (arith, few), omega arith, k.3)
count_passed a b out (Writing ToUpAgain n) k = let few : b ≤ 4096 + n = k.1 in let low : n ≤ 4096 = k.2 in (k.0, inr (k.3, omega (arith, few, low)))
count_passed a b out (Shutting Up) k = k
count_passed a b out (Shutting Client) k = k
count_passed a b out Past k = k

-- at the end of a pair's part
count_last : (a b : ℕ) (out : Bool) (s : Stage) → CountStage a b out s → (a ≤ 4096) × IsFewUp b out
count_last a b out (Reading end) k = let none : a ≡ 0 = k.0 in let also : b ≡ 0 = k.1 in (omega (arith, none), inl (omega (arith, also)))
count_last a b out Taking k = let none : a ≡ 0 = k.0 in let also : b ≡ 0 = k.1 in (omega (arith, none), inl (omega (arith, also)))
count_last a b out Linking k = let none : a ≡ 0 = k.0 in let also : b ≡ 0 = k.1 in (omega (arith, none), inl (omega (arith, also)))
count_last a b out (Writing ToUp n) k = let none : a ≡ 0 = k.0 in let same : b ≡ n = k.1 in let low : n ≤ 4096 = k.2 in (omega (arith, none), inl (omega (arith, same, low)))
count_last a b out (Writing ToClient n) k = count_passed a b out (Writing ToClient n) k
count_last a b out (Writing ToClientLate n) k = let same : a ≡ n = k.0 in let low : n ≤ 4096 = k.1 in (omega (arith, same, low), inl k.2)
count_last a b out (Writing ToUpAgain n) k = count_passed a b out (Writing ToUpAgain n) k
count_last a b out (Shutting end) k = k
count_last a b out Past k = k

-- running out of memory later takes nothing back
few_out : (b : ℕ) (old new : Bool) → (old ≡ true → new ≡ true) → IsFewUp b old → IsFewUp b new
few_out b old new on (inl few) = inl few
few_out b old new on (inr more) = inr (on more.0, more.1)

count_out : (a b : ℕ) (old new : Bool) (s : Stage) → (old ≡ true → new ≡ true) → CountStage a b old s → CountStage a b new s
count_out a b old new (Reading end) on k = k
count_out a b old new Taking on k = k
count_out a b old new Linking on k = k
count_out a b old new (Writing ToUp n) on k = k
count_out a b old new (Writing ToClient n) on k = k
count_out a b old new (Writing ToClientLate n) on k = (k.0, k.1, k.2, on k.3)
count_out a b old new (Writing ToUpAgain n) on k = (k.0, k.1, k.2, on k.3)
count_out a b old new (Shutting end) on k = (k.0, few_out b old new on k.1)
count_out a b old new Past on k = (k.0, few_out b old new on k.1)

out_on : (e : Entry) (h : List Entry) → IsWithin e → ran_out_in_turn h ≡ true → ran_out_in_turn (e ∷ h) ≡ true
out_on (Began p ms) h i k = absurd i
out_on Refused h i k = k
out_on (Moment ms) h i k = absurd i
out_on (Came end bytes) h i k = k
out_on (Dry end) h i k = k
out_on Settled h i k = k
out_on (Joined answer) h i k = k
out_on (Took end bytes n) h i k = k
out_on (Stuck end bytes) h i k = k
out_on (Lost end how) h i k = k
out_on (OutOfMemory cut) h i k = refl
out_on Over h i k = k

-- one write more, at the stage of a lap
count_took : (a b : ℕ) (out : Bool) (lap : Lap) (n : ℕ) → n < 4096 → CountStage a b out (Writing lap n)
    → CountStage (if is_same_end (lap_end lap) Client then a + 1 else a) (if is_same_end (lap_end lap) Up then b + 1 else b) out (Writing lap (n + 1))
count_took a b out ToUp n low k = let same : b ≡ n = k.1 in (k.0, omega (arith, same), omega (arith, low))
count_took a b out ToClient n low k = let same : a ≡ n = k.0 in (omega (arith, same), omega (arith, low), k.2)
count_took a b out ToClientLate n low k = let same : a ≡ n = k.0 in (omega (arith, same), omega (arith, low), k.2, k.3)
count_took a b out ToUpAgain n low k = let few : b ≤ 4096 + n = k.1 in (k.0, omega (arith, few), omega (arith, low), k.3)

later_one : (lap : Lap) (n : ℕ) → later (Writing lap (n + 1)) ≡ later (Writing lap n)
later_one ToUp n = refl
later_one ToClient n = refl
later_one ToClientLate n = refl
later_one ToUpAgain n = refl

count_held : (a b : ℕ) (out : Bool) (lap : Lap) (n : ℕ) → n < 4096 → CountStage a b out (Writing lap n)
    → CountStage (if is_same_end (lap_end lap) Client then a + 1 else a) (if is_same_end (lap_end lap) Up then b + 1 else b) out (later (Writing lap n))
count_held a b out lap n low k =
    subst (CountStage (if is_same_end (lap_end lap) Client then a + 1 else a) (if is_same_end (lap_end lap) Up then b + 1 else b) out) (later_one lap n)
    (count_passed (if is_same_end (lap_end lap) Client then a + 1 else a) (if is_same_end (lap_end lap) Up then b + 1 else b) out (Writing lap (n + 1)) (count_took a b out lap n low k))

count_put : (a b : ℕ) (out : Bool) (answer : Put) (lap : Lap) (n : ℕ) → n < 4096 → CountStage a b out (Writing lap n)
    → CountStage (if is_same_end (lap_end lap) Client then a + 1 else a) (if is_same_end (lap_end lap) Up then b + 1 else b) out (after_put answer (Writing lap n))
count_put a b out (put.Took count) lap n low k = count_took a b out lap n low k
count_put a b out put.NotYet lap n low k = count_held a b out lap n low k
count_put a b out put.Failed lap n low k = count_held a b out lap n low k

count_run_out : (a b : ℕ) (old : Bool) (lap : Lap) (n : ℕ) → CountStage a b old (Writing lap n) → CountStage a b true (at_running_out (Writing lap n))
count_run_out a b old ToUp n k = k
count_run_out a b old ToClient n k = (k.0, k.1, k.2, refl)
count_run_out a b old ToClientLate n k = (k.0, k.1, k.2, refl)
count_run_out a b old ToUpAgain n k = (k.0, k.1, k.2, refl)

-- ---- each mark

abbrev to_client : ℕ → History → ℕ
to_client p m = marks_in_turn (is_write_of p Client) m

abbrev to_up : ℕ → History → ℕ
to_up p m = marks_in_turn (is_write_of p Up) m

abbrev ran_out : ℕ → History → Bool
ran_out p m = ran_out_in_turn (journal p m)

abbrev Counted : ℕ → History → Type 0
Counted p m = CountStage (to_client p m) (to_up p m) (ran_out p m) (reached_stage p m)

-- a mark of q that is no write
count_one : (q p a b : ℕ) (e : Entry) (s old : Stage) (h : List Entry) → CountStage a b (ran_out_in_turn h) old → (q ≡ p → CountStage a b (ran_out_in_turn (e ∷ h)) s)
    → CountStage a b (ran_out_in_turn (if q == p then e ∷ h else h)) (if q == p then s else old)
count_one q p a b e s old h k own = elim (eqb_tells q p) [ inl t ↦ rw t.0 (own t.1) | inr f ↦ rw f.0 k ]

count_same : (q p a b : ℕ) (e : Entry) (s : Stage) (h : List Entry) → IsWithin e → CountStage a b (ran_out_in_turn h) s → CountStage a b (ran_out_in_turn (if q == p then e ∷ h else h)) s
count_same q p a b e s h i k = elim (eqb_tells q p) [ inl t ↦ rw t.0 (count_out a b (ran_out_in_turn h) (ran_out_in_turn (e ∷ h)) s (out_on e h i) k) | inr f ↦ rw f.0 k ]

count_since : (a b : ℕ) (e : Entry) (s : Stage) (h : List Entry) → IsWithin e → CountStage a b (ran_out_in_turn h) s → CountStage a b (ran_out_in_turn (since e h)) s
count_since a b e s [] i k = k
count_since a b e s (x ∷ h) i k = count_out a b (ran_out_in_turn (x ∷ h)) (ran_out_in_turn (e ∷ x ∷ h)) s (out_on e (x ∷ h) i) k

count_write : (q p a b : ℕ) (x y : Bool) (e : Entry) (s old : Stage) (h : List Entry) → CountStage a b (ran_out_in_turn h) old
    → (q ≡ p → CountStage (if x then a + 1 else a) (if y then b + 1 else b) (ran_out_in_turn (e ∷ h)) s)
    → CountStage (if (q == p) && x then a + 1 else a) (if (q == p) && y then b + 1 else b) (ran_out_in_turn (if q == p then e ∷ h else h)) (if q == p then s else old)
count_write q p a b x y e s old h k own = elim (eqb_tells q p) [ inl t ↦ rw t.0 (own t.1) | inr f ↦ rw f.0 k ]

-- where something is asked of a pair
count_going : (w : RelayWords) (c : Limits) (m : History) (up : Upcoming) (p : ℕ) → (a : Asked w c m up) → a.pair ≡ p → Counted p m
    → Found w p (journal p m) (CountStage (to_client p m) (to_up p m) (ran_out p m)) (reached_stage p m) up
count_going w c m up p a e k =
    found_by w p (journal p m) (CountStage (to_client p m) (to_up p m) (ran_out p m)) (λ s here none. count_passed (to_client p m) (to_up p m) (ran_out p m) s here)
    (reached_stage p m) (reached_stage p m) (stages_from (reached_stage p m)) up (chain_of (reached_stage p m)) k
    (subst (λ (i : ℕ). Asks w i (stages_from (reached_stage i m)) (journal i m) up) e a.asks)

-- a write of p, at the stage of a lap
record LapOf (p : ℕ) (end : End) (m : History) : Type 0 where
  lap : Lap
  count : ℕ
  ends : lap_end lap ≡ end
  stage : writing_at end (reached_stage p m) ≡ Writing lap count
  few : count < 4096
  here : CountStage (to_client p m) (to_up p m) (ran_out p m) (Writing lap count)

lap_of : (w : RelayWords) (c : Limits) (q p : ℕ) (end : End) (bytes : List ℕ) (m : History) → Follows w c m → next w c m ≡ Do (AskWrite q end bytes) → q ≡ p → Counted p m → LapOf p end m
lap_of w c q p end bytes m f n e v =
    let a : Asked w c m (Do (AskWrite q end bytes)) = asked_part w c m (Do (AskWrite q end bytes)) f (whole w c m f) n refl refl in
    let own : (a.pair ≡ q) × (lap : Lap) × (k : ℕ) × (a.at ≡ Writing lap k) × (lap_end lap ≡ end) × (offers w end (journal a.pair m) ≡ Some bytes) × (nat_lt k most_writes ≡ true) = a.own in
    let k : Found w p (journal p m) (CountStage (to_client p m) (to_up p m) (ran_out p m)) (reached_stage p m) (Do (AskWrite q end bytes)) =
    count_going w c m (Do (AskWrite q end bytes)) p a (own.0 ∙ e) v in
    let at : (p ≡ q) × (lap : Lap) × (i : ℕ) × (k.at ≡ Writing lap i) × (lap_end lap ≡ end) × (offers w end (journal p m) ≡ Some bytes) × (nat_lt i most_writes ≡ true) = k.asks in
    record {
      lap = at.1;
      count = at.2;
      ends = at.4;
      stage = ap (λ (x : End). writing_at x (reached_stage p m)) (sym at.4) ∙ subst (WritesAt (reached_stage p m)) at.3 k.writes;
      few = ltb-true at.2 4096 at.6;
      here = subst (CountStage (to_client p m) (to_up p m) (ran_out p m)) at.3 k.here;
    }

count_call-write : (w : RelayWords) (c : Limits) (q p : ℕ) (end : End) (bytes : List ℕ) (answer : Put) (m : History) → Follows w c (Call (Write q end bytes answer) ∷ m) → Counted p m
    → Counted p (Call (Write q end bytes answer) ∷ m)
count_call-write w c q p end bytes answer m f v =
    count_write q p (to_client p m) (to_up p m) (is_same_end end Client) (is_same_end end Up) (write_entry end bytes answer) (after_put answer (writing_at end (reached_stage p m))) (reached_stage p m)
    (journal p m) v
    (λ e.
    let k : LapOf p end m = lap_of w c q p end bytes m f.2 f.0 e v in
    let there : CountStage (if is_same_end (lap_end k.lap) Client then to_client p m + 1 else to_client p m) (if is_same_end (lap_end k.lap) Up then to_up p m + 1 else to_up p m)
    (ran_out p m) (after_put answer (Writing k.lap k.count)) =
    count_put (to_client p m) (to_up p m) (ran_out p m) answer k.lap k.count k.few k.here in
    let here : CountStage (if is_same_end end Client then to_client p m + 1 else to_client p m) (if is_same_end end Up then to_up p m + 1 else to_up p m)
    (ran_out p m) (after_put answer (writing_at end (reached_stage p m))) =
    subst (λ (s : Stage). CountStage (if is_same_end end Client then to_client p m + 1 else to_client p m) (if is_same_end end Up then to_up p m + 1 else to_up p m)
    (ran_out p m) (after_put answer s)) (sym k.stage)
    (subst (λ (x : End). CountStage (if is_same_end x Client then to_client p m + 1 else to_client p m) (if is_same_end x Up then to_up p m + 1 else to_up p m)
    (ran_out p m) (after_put answer (Writing k.lap k.count))) k.ends there) in
    count_out (if is_same_end end Client then to_client p m + 1 else to_client p m) (if is_same_end end Up then to_up p m + 1 else to_up p m)
    (ran_out_in_turn (journal p m)) (ran_out_in_turn (write_entry end bytes answer ∷ journal p m)) (after_put answer (writing_at end (reached_stage p m)))
    (out_on (write_entry end bytes answer) (journal p m) (within_write end bytes answer)) here)

-- after another step of p the counts are those at its stage
count_step : (w : RelayWords) (c : Limits) (q p : ℕ) (e : Entry) (s : Stage) (m : History) (up : Upcoming) → IsWithin e → (same : q ≡ p) (a : Asked w c m up) → a.pair ≡ q → Counted p m
    → ((k : Found w p (journal p m) (CountStage (to_client p m) (to_up p m) (ran_out p m)) (reached_stage p m) up) → k.at ≡ s)
    → CountStage (to_client p m) (to_up p m) (ran_out_in_turn (e ∷ journal p m)) (later s)
count_step w c q p e s m up i same a own v at =
    let k : Found w p (journal p m) (CountStage (to_client p m) (to_up p m) (ran_out p m)) (reached_stage p m) up = count_going w c m up p a (own ∙ same) v in
    count_out (to_client p m) (to_up p m) (ran_out p m) (ran_out_in_turn (e ∷ journal p m)) (later s) (out_on e (journal p m) i)
    (count_passed (to_client p m) (to_up p m) (ran_out p m) s (subst (CountStage (to_client p m) (to_up p m) (ran_out p m)) (at k) k.here))

count_call-connect : (w : RelayWords) (c : Limits) (q p : ℕ) (answer : Linked) (m : History) → Follows w c (Call (Connect q answer) ∷ m) → Counted p m → Counted p (Call (Connect q answer) ∷ m)
count_call-connect w c q p answer m f v = count_one q p (to_client p m) (to_up p m) (Joined answer) (later Linking) (reached_stage p m) (journal p m) v
    (λ e.
    let a : Asked w c m (Do (AskConnect q)) = asked_part w c m (Do (AskConnect q)) f.2 (whole w c m f.2) f.0 refl refl in
    let own : (a.pair ≡ q) × (a.at ≡ Linking) = a.own in
    count_step w c q p (Joined answer) Linking m (Do (AskConnect q)) tt e a own.0 v (λ k. let at : (p ≡ q) × (k.at ≡ Linking) = k.asks in at.1))

count_call-read : (w : RelayWords) (c : Limits) (q p room : ℕ) (end : End) (answer : Got) (bytes : List ℕ) (m : History) → Follows w c (Call (Read q end room answer bytes) ∷ m) → Counted p m
    → Counted p (Call (Read q end room answer bytes) ∷ m)
count_call-read w c q p room end answer bytes m f v = count_one q p (to_client p m) (to_up p m) (read_entry end answer bytes) (later (Reading end)) (reached_stage p m) (journal p m) v
    (λ e.
    let a : Asked w c m (Do (AskRead q end room)) = asked_part w c m (Do (AskRead q end room)) f.2 (whole w c m f.2) f.0 refl refl in
    let own : (a.pair ≡ q) × (a.at ≡ Reading end) = a.own in
    count_step w c q p (read_entry end answer bytes) (Reading end) m (Do (AskRead q end room)) (within_read end answer bytes) e a own.0 v (λ k. let at : (p ≡ q) × (k.at ≡ Reading end) = k.asks in at.1))

count_take-up : (w : RelayWords) (c : Limits) (q p : ℕ) (m : History) → Follows w c (TakeUp q ∷ m) → Counted p m → Counted p (TakeUp q ∷ m)
count_take-up w c q p m f v = count_one q p (to_client p m) (to_up p m) Settled (later Taking) (reached_stage p m) (journal p m) v
    (λ e.
    let a : Asked w c m (Settle q) = asked_part w c m (Settle q) f.1 (whole w c m f.1) f.0 refl refl in
    let own : (a.pair ≡ q) × (a.at ≡ Taking) = a.own in
    count_step w c q p Settled Taking m (Settle q) tt e a own.0 v (λ k. let at : (p ≡ q) × (k.at ≡ Taking) = k.asks in at.1))

shut_last : (a b : ℕ) (out : Bool) (end : End) → (a ≤ 4096) × IsFewUp b out → CountStage a b out (later (Shutting end))
shut_last a b out Up k = k
shut_last a b out Client k = k

count_call-shut : (q p : ℕ) (end : End) (m : History) → Counted p m → Counted p (Call (Shut q end) ∷ m)
count_call-shut q p end m v = count_one q p (to_client p m) (to_up p m) (Lost end loss.Shut) (later (Shutting end)) (reached_stage p m) (journal p m) v
    (λ e. shut_last (to_client p m) (to_up p m) (ran_out_in_turn (Lost end loss.Shut ∷ journal p m)) end (count_last (to_client p m) (to_up p m) (ran_out p m) (reached_stage p m) v))

count_run-out : (w : RelayWords) (c : Limits) (q p : ℕ) (s : Stage) (cut : ℕ) (m : History) → Follows w c m → RunsOutAt w c q s cut m → q ≡ p → Counted p m
    → CountStage (to_client p m) (to_up p m) true s
count_run-out w c q p s k m f (AtRead cut end room n bytes old) e v =
    let here : reached_stage p (Call (Read q end room (got.Bytes n) bytes) ∷ old) ≡ later (Reading end) =
    subst (λ (i : ℕ). reached_stage i (Call (Read q end room (got.Bytes n) bytes) ∷ old) ≡ later (Reading end)) e (if_same q (later (Reading end)) (reached_stage q old)) in
    count_out (to_client p old) (to_up p old) (ran_out p (Call (Read q end room (got.Bytes n) bytes) ∷ old)) true (later (Reading end)) (λ t. refl)
    (subst (CountStage (to_client p old) (to_up p old) (ran_out p (Call (Read q end room (got.Bytes n) bytes) ∷ old))) here v)
count_run-out w c q p s k m f (AtTakeUp cut old) e v =
    let here : reached_stage p (TakeUp q ∷ old) ≡ later Taking = subst (λ (i : ℕ). reached_stage i (TakeUp q ∷ old) ≡ later Taking) e (if_same q (later Taking) (reached_stage q old)) in
    count_out (to_client p old) (to_up p old) (ran_out p (TakeUp q ∷ old)) true (later Taking) (λ t. refl)
    (subst (CountStage (to_client p old) (to_up p old) (ran_out p (TakeUp q ∷ old))) here v)
count_run-out w c q p s k m f (AtWrite end bytes old n t) e v =
    let a : Asked w c old (Do (AskWrite q end bytes)) = asked_part w c old (Do (AskWrite q end bytes)) f (whole w c old f) n refl refl in
    let own : (a.pair ≡ q) × (lap : Lap) × (i : ℕ) × (a.at ≡ Writing lap i) × (lap_end lap ≡ end) × (offers w end (journal a.pair old) ≡ Some bytes) × (nat_lt i most_writes ≡ true) = a.own in
    let same : stage_of q (point old) ≡ reached_stage p old = subst (λ (i : ℕ). stage_of i (point old) ≡ reached_stage i old) own.0 a.same ∙ ap (λ (i : ℕ). reached_stage i old) e in
    let k : LapOf p end old = lap_of w c q p end bytes old f n e v in
    subst (λ (x : Stage). CountStage (to_client p old) (to_up p old) true (at_running_out (writing_at end x))) (sym same)
    (subst (λ (x : Stage). CountStage (to_client p old) (to_up p old) true (at_running_out x)) (sym k.stage)
    (count_run_out (to_client p old) (to_up p old) (ran_out p old) k.lap k.count k.here))

count_accept : (w : RelayWords) (c : Limits) (q p : ℕ) (m : History) → Follows w c (Call (Accept (accepted.Pair q)) ∷ m) → Counted p m → Counted p (Call (Accept (accepted.Pair q)) ∷ m)
count_accept w c q p m f v =
    let fresh : Whole w m ClockRead = accept_whole w c m f.2 (whole w c m f.2) f.0 in
    let none : CountStage (to_client p m) (to_up p m) (ran_out p m) (Reading Up) = subst (CountStage (to_client p m) (to_up p m) (ran_out p m)) (fresh p) v in
    subst (CountStage (to_client p m) (to_up p m) (ran_out p (Call (Accept (accepted.Pair q)) ∷ m))) (sym (fresh p)) none

counted : (w : RelayWords) (c : Limits) (p : ℕ) (m : History) → Follows w c m → Counted p m
counted w c p [] f = (refl, refl)
counted w c p (Call (Accept (accepted.Pair q)) ∷ m) f = count_accept w c q p m f (counted w c p m f.2)
counted w c p (Call (Accept accepted.NotYet) ∷ m) f = counted w c p m f.2
counted w c p (Call (Accept accepted.Failed) ∷ m) f = counted w c p m f.2
counted w c p (Call (Connect q answer) ∷ m) f = count_call-connect w c q p answer m f (counted w c p m f.2)
counted w c p (Call (Read q end room answer bytes) ∷ m) f = count_call-read w c q p room end answer bytes m f (counted w c p m f.2)
counted w c p (Call (Write q end bytes answer) ∷ m) f = count_call-write w c q p end bytes answer m f (counted w c p m f.2)
counted w c p (Call (Shut q end) ∷ m) f = count_call-shut q p end m (counted w c p m f.2)
counted w c p (Call (Idle answer) ∷ m) f = counted w c p m f.2
counted w c p (Call (Now ms) ∷ m) f = (refl, refl)
counted w c p (Refuse q ∷ m) f = count_same q p (to_client p m) (to_up p m) Refused (reached_stage p m) (journal p m) tt (counted w c p m f.1)
counted w c p (TakeUp q ∷ m) f = count_take-up w c q p m f (counted w c p m f.1)
counted w c p (RunOut q s cut ∷ m) f =
    count_one q p (to_client p m) (to_up p m) (OutOfMemory cut) s (reached_stage p m) (journal p m) (counted w c p m f.2) (λ e. count_run-out w c q p s cut m f.2 f.1 e (counted w c p m f.2))
counted w c p (Finish how ∷ m) f = count_since (to_client p m) (to_up p m) Over (reached_stage p m) (journal p m) tt (counted w c p m f.2)

pub writes_few : (w : RelayWords) (c : Limits) (m : History) → Follows w c m → WritesFew m
writes_few w c m f = record {
  client = λ p. (count_last (to_client p m) (to_up p m) (ran_out p m) (reached_stage p m) (counted w c p m f)).0;
  up = λ p. (count_last (to_client p m) (to_up p m) (ran_out p m) (reached_stage p m) (counted w c p m f)).1;
}
