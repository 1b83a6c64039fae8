-- In a turn accept is called at most once, each end of a pair is read at most once, and so on.
use Rattle.std.proofs.Common.{◌≡◌, ℕ, ◌+◌, ◌<◌, ◌≤◌, ◌==◌, Bool, true, false, if◌then◌else◌, []}
use Rattle.std.proofs.Common.{◌∷◌, Some, ◌⊎◌, refl, sym, ap, ◌∙◌, subst, inl, inr, arith}
use Rattle.std.proofs.lemmas.Bool.Decides.{eqb_tells}
use Rattle.gate_outside.specs.declared.ports.End.{End}
use Rattle.gate_outside.specs.declared.ports.End.TheVariants.{Client, Up}
use Rattle.gate_outside.specs.declared.ports.Got.TheVariants as got
use Rattle.gate_outside.specs.declared.ports.Put.{Put}
use Rattle.gate_outside.specs.declared.ports.Put.TheVariants as put
use Rattle.gate_outside.specs.declared.log.LogEntry.TheVariants.{Accept, Connect, Read, Write, Shut}
use Rattle.gate_outside.specs.declared.log.LogEntry.TheVariants.{Idle, Now}
use Rattle.gate_relay.specs.RelayWords.{RelayWords}
use Rattle.gate_runs.specs.declared.lap.Lap.{Lap}
use Rattle.gate_runs.specs.declared.lap.Lap.TheVariants.{ToUp, ToClient, ToClientLate, ToUpAgain}
use Rattle.gate_runs.specs.declared.limits.Limits.{Limits}
use Rattle.gate_runs.specs.Marks.{Mark, History, Call, Refuse, TakeUp, RunOut, Finish}
use Rattle.gate_runs.specs.Stages.{Stage, Reading, Taking, Linking, Writing, Shutting, Past, later}
use Rattle.gate_runs.specs.Stages.{writing_at, at_running_out}
use Rattle.gate_runs.specs.Next.{after_put, point, stage_of}
use Rattle.gate_runs.specs.Serving.{RunsOutAt, AtRead, AtTakeUp, AtWrite, Follows}
use Rattle.gate_turn_laws.specs.Ends.{newest}
use Rattle.gate_turn_laws.specs.Turns.{rank, reached_stage, IsInTurn, HasPlace, marks_in_turn}
use Rattle.gate_turn_laws.specs.Turns.{is_same_end, is_accept, is_read_of, is_take_up_of}
use Rattle.gate_turn_laws.specs.Turns.{is_connect_of, ComesOnce}
use Rattle.gate_turn_laws.proofs.Lists.{is_or_isnt, and_parts, is_equal, if_same}
use Rattle.gate_turn_laws.proofs.Turns.{has_place}

-- ---- the stages that come behind the connect

writes_some : (end : End) (s : Stage) → (lap : Lap) × (k : ℕ) × (writing_at end s ≡ Writing lap k)
writes_some Up (Reading end) = (ToUp, 0, refl)
writes_some Up Taking = (ToUp, 0, refl)
writes_some Up Linking = (ToUp, 0, refl)
writes_some Up (Writing ToUp k) = (ToUp, k, refl)
writes_some Up (Writing ToClient k) = (ToUp, 0, refl)
writes_some Up (Writing ToClientLate k) = (ToUpAgain, 0, refl)
writes_some Up (Writing ToUpAgain k) = (ToUpAgain, k, refl)
writes_some Up (Shutting end) = (ToUp, 0, refl)
writes_some Up Past = (ToUp, 0, refl)
writes_some Client (Reading end) = (ToClient, 0, refl)
writes_some Client Taking = (ToClient, 0, refl)
writes_some Client Linking = (ToClient, 0, refl)
writes_some Client (Writing ToUp k) = (ToClient, 0, refl)
writes_some Client (Writing ToClient k) = (ToClient, k, refl)
writes_some Client (Writing ToClientLate k) = (ToClientLate, k, refl)
writes_some Client (Writing ToUpAgain k) = (ToClient, 0, refl)
writes_some Client (Shutting end) = (ToClient, 0, refl)
writes_some Client Past = (ToClient, 0, refl)

lap_high : (lap : Lap) (k : ℕ) → 3 < rank (Writing lap k)
lap_high ToUp k = omega arith
lap_high ToClient k = omega arith
lap_high ToClientLate k = omega arith
lap_high ToUpAgain k = omega arith

later_high : (lap : Lap) (k : ℕ) → 3 < rank (later (Writing lap k))
later_high ToUp k = omega arith
later_high ToClient k = omega arith
later_high ToClientLate k = omega arith
later_high ToUpAgain k = omega arith

out_high : (lap : Lap) (k : ℕ) → 3 < rank (at_running_out (Writing lap k))
out_high ToUp k = omega arith
out_high ToClient k = omega arith
out_high ToClientLate k = omega arith
out_high ToUpAgain k = omega arith

put_high : (answer : Put) (lap : Lap) (k : ℕ) → 3 < rank (after_put answer (Writing lap k))
put_high (put.Took n) lap k = lap_high lap (k + 1)
put_high put.NotYet lap k = later_high lap k
put_high put.Failed lap k = later_high lap k

write_high : (answer : Put) (end : End) (s : Stage) → 3 < rank (after_put answer (writing_at end s))
write_high answer end s = let e : (lap : Lap) × (k : ℕ) × (writing_at end s ≡ Writing lap k) = writes_some end s in
    subst (λ (x : Stage). 3 < rank (after_put answer x)) (sym e.2) (put_high answer e.0 e.1)

run_out_high : (end : End) (s : Stage) → 3 < rank (at_running_out (writing_at end s))
run_out_high end s = let e : (lap : Lap) × (k : ℕ) × (writing_at end s ≡ Writing lap k) = writes_some end s in
    subst (λ (x : Stage). 3 < rank (at_running_out x)) (sym e.2) (out_high e.0 e.1)

shut_high : (end : End) → 3 < rank (later (Shutting end))
shut_high Up = omega arith
shut_high Client = omega arith

-- ---- no pair's part goes back in a turn

-- what was passed stays passed
abbrev Stays : ℕ → Stage → Stage → Type 0
Stays n old new = n ≤ 3 → n < rank old → n < rank new

stays_one : (n q p : ℕ) (s old : Stage) → (q ≡ p → Stays n old s) → Stays n old (if q == p then s else old)
stays_one n q p s old k low passed = elim (eqb_tells q p) [ inl t ↦ rw t.0 (k t.1 low passed) | inr f ↦ rw f.0 passed ]

high_stays : (n : ℕ) (old s : Stage) → 3 < rank s → Stays n old s
high_stays n old s high low passed = omega (arith, high, low)

read_stays : (n : ℕ) (end : End) (old : Stage) → rank old ≤ rank (Reading end) → Stays n old (later (Reading end))
read_stays n Up old k low passed = omega (arith, k, passed)
read_stays n Client old k low passed = omega (arith, k, passed)

take_stays : (n : ℕ) (old : Stage) → rank old ≤ rank Taking → Stays n old (later Taking)
take_stays n old k low passed = omega (arith, k, passed)

run_out_stays : (w : RelayWords) (c : Limits) (n p q : ℕ) (s : Stage) (cut : ℕ) (m : History) → RunsOutAt w c q s cut m → q ≡ p → Stays n (reached_stage p m) s
run_out_stays w c n p q s k m (AtRead cut end room size bytes old) e low passed =
    subst (λ (x : Stage). n < rank x) (if_same q (later (Reading end)) (reached_stage q old))
    (subst (λ (i : ℕ). n < rank (reached_stage i (Call (Read q end room (got.Bytes size) bytes) ∷ old))) (sym e) passed)
run_out_stays w c n p q s k m (AtTakeUp cut old) e low passed =
    subst (λ (x : Stage). n < rank x) (if_same q (later Taking) (reached_stage q old)) (subst (λ (i : ℕ). n < rank (reached_stage i (TakeUp q ∷ old))) (sym e) passed)
run_out_stays w c n p q s k m (AtWrite end bytes old h t) e low passed =
    high_stays n (reached_stage p old) (at_running_out (writing_at end (stage_of q (point old)))) (run_out_high end (stage_of q (point old))) low passed

abbrev is_now : Mark → Bool
is_now (Call (Now ms)) = true
is_now x = false

-- the part of q, told as that of p
turn_of : (w : RelayWords) (c : Limits) (q p : ℕ) (s : Stage) (m : History) → IsInTurn w c q s m → q ≡ p → rank (reached_stage p m) ≤ rank s
turn_of w c q p s m k e = subst (λ (i : ℕ). rank (reached_stage i m) ≤ rank s) e k.onward

goes_up : (w : RelayWords) (c : Limits) (n p : ℕ) (x : Mark) (m : History) → Follows w c (x ∷ m) → is_now x ≡ false → Stays n (reached_stage p m) (reached_stage p (x ∷ m))
goes_up w c n p (Call (Accept answer)) m f t = λ low passed. passed
goes_up w c n p (Call (Connect q answer)) m f t = stays_one n q p (later Linking) (reached_stage p m) (λ e. high_stays n (reached_stage p m) (later Linking) (omega arith))
goes_up w c n p (Call (Read q end room answer bytes)) m f t = stays_one n q p (later (Reading end)) (reached_stage p m)
    (λ e. read_stays n end (reached_stage p m) (turn_of w c q p (Reading end) m (has_place w c (Call (Read q end room answer bytes)) m f) e))
goes_up w c n p (Call (Write q end bytes answer)) m f t = stays_one n q p (after_put answer (writing_at end (reached_stage p m))) (reached_stage p m)
    (λ e. high_stays n (reached_stage p m) (after_put answer (writing_at end (reached_stage p m))) (write_high answer end (reached_stage p m)))
goes_up w c n p (Call (Shut q end)) m f t = stays_one n q p (later (Shutting end)) (reached_stage p m)
    (λ e. high_stays n (reached_stage p m) (later (Shutting end)) (shut_high end))
goes_up w c n p (Call (Idle answer)) m f t = λ low passed. passed
goes_up w c n p (Call (Now ms)) m f t = absurd cc
goes_up w c n p (Refuse q) m f t = λ low passed. passed
goes_up w c n p (TakeUp q) m f t = stays_one n q p (later Taking) (reached_stage p m)
    (λ e. take_stays n (reached_stage p m) (turn_of w c q p Taking m (has_place w c (TakeUp q) m f) e))
goes_up w c n p (RunOut q s cut) m f t = stays_one n q p s (reached_stage p m) (λ e. run_out_stays w c n p q s cut m f.1 e)
goes_up w c n p (Finish how) m f t = λ low passed. passed

-- ---- what comes once

in_turn : (t : Mark → Bool) (x : Mark) (m : History) → is_now x ≡ false → marks_in_turn t (x ∷ m) ≡ (if t x then marks_in_turn t m + 1 else marks_in_turn t m)
in_turn t (Call (Accept answer)) m e = refl
in_turn t (Call (Connect q answer)) m e = refl
in_turn t (Call (Read q end room answer bytes)) m e = refl
in_turn t (Call (Write q end bytes answer)) m e = refl
in_turn t (Call (Shut q end)) m e = refl
in_turn t (Call (Idle answer)) m e = refl
in_turn t (Call (Now ms)) m e = absurd cc
in_turn t (Refuse q) m e = refl
in_turn t (TakeUp q) m e = refl
in_turn t (RunOut q s cut) m e = refl
in_turn t (Finish how) m e = refl

-- none came, or one did and its stage is behind
abbrev OnceBy : (Mark → Bool) → Stage → ℕ → History → Type 0
OnceBy t s p m = (marks_in_turn t m ≡ 0) ⊎ ((marks_in_turn t m ≡ 1) × (rank s < rank (reached_stage p m)))

-- a mark that passes the test comes at the stage, and leaves it behind
abbrev Passes : RelayWords → Limits → (Mark → Bool) → Stage → ℕ → Type 0
Passes w c t s p = (x : Mark) (m : History) → Follows w c (x ∷ m) → t x ≡ true → (rank (reached_stage p m) ≤ rank s) × (rank s < rank (reached_stage p (x ∷ m)))

one_then : (t : Mark → Bool) (s : Stage) (p : ℕ) (x : Mark) (m : History) → is_now x ≡ false → t x ≡ true → (rank (reached_stage p m) ≤ rank s) × (rank s < rank (reached_stage p (x ∷ m)))
    → OnceBy t s p m → OnceBy t s p (x ∷ m)
one_then t s p x m e yes' k (inl none) = inr (in_turn t x m e ∙ ap (λ (b : Bool). if b then marks_in_turn t m + 1 else marks_in_turn t m) yes' ∙ ap (λ (n : ℕ). n + 1) none, k.1)
one_then t s p x m e yes' k (inr one) = let high : rank s < rank (reached_stage p m) = one.1 in absurd (omega (arith, high, k.0))

none_then : (t : Mark → Bool) (s : Stage) (p : ℕ) (x : Mark) (m : History) → is_now x ≡ false → t x ≡ false → (rank s < rank (reached_stage p m) → rank s < rank (reached_stage p (x ∷ m)))
    → OnceBy t s p m → OnceBy t s p (x ∷ m)
none_then t s p x m e no' k (inl none) = inl (in_turn t x m e ∙ ap (λ (b : Bool). if b then marks_in_turn t m + 1 else marks_in_turn t m) no' ∙ none)
none_then t s p x m e no' k (inr one) = inr (in_turn t x m e ∙ ap (λ (b : Bool). if b then marks_in_turn t m + 1 else marks_in_turn t m) no' ∙ one.0, k one.1)

once_on : (w : RelayWords) (c : Limits) (t : Mark → Bool) (s : Stage) (p : ℕ) (x : Mark) (m : History) → rank s ≤ 3 → Passes w c t s p → is_now x ≡ false → Follows w c (x ∷ m)
    → OnceBy t s p m → OnceBy t s p (x ∷ m)
once_on w c t s p x m low passes e f k = elim (is_or_isnt (t x)) [
  | inl yes' ↦ one_then t s p x m e yes' (passes x m f yes') k
  | inr no' ↦ none_then t s p x m e no' (goes_up w c (rank s) p x m f e low) k
]

once : (w : RelayWords) (c : Limits) (t : Mark → Bool) (s : Stage) (p : ℕ) (m : History) → rank s ≤ 3 → Passes w c t s p → Follows w c m → OnceBy t s p m
once w c t s p [] low k f = inl refl
once w c t s p (Call (Accept answer) ∷ m) low k f = once_on w c t s p (Call (Accept answer)) m low k refl f (once w c t s p m low k f.2)
once w c t s p (Call (Connect q answer) ∷ m) low k f = once_on w c t s p (Call (Connect q answer)) m low k refl f (once w c t s p m low k f.2)
once w c t s p (Call (Read q end room answer bytes) ∷ m) low k f = once_on w c t s p (Call (Read q end room answer bytes)) m low k refl f (once w c t s p m low k f.2)
once w c t s p (Call (Write q end bytes answer) ∷ m) low k f = once_on w c t s p (Call (Write q end bytes answer)) m low k refl f (once w c t s p m low k f.2)
once w c t s p (Call (Shut q end) ∷ m) low k f = once_on w c t s p (Call (Shut q end)) m low k refl f (once w c t s p m low k f.2)
once w c t s p (Call (Idle answer) ∷ m) low k f = once_on w c t s p (Call (Idle answer)) m low k refl f (once w c t s p m low k f.2)
once w c t s p (Call (Now ms) ∷ m) low k f = inl refl
once w c t s p (Refuse q ∷ m) low k f = once_on w c t s p (Refuse q) m low k refl f (once w c t s p m low k f.1)
once w c t s p (TakeUp q ∷ m) low k f = once_on w c t s p (TakeUp q) m low k refl f (once w c t s p m low k f.1)
once w c t s p (RunOut q n cut ∷ m) low k f = once_on w c t s p (RunOut q n cut) m low k refl f (once w c t s p m low k f.2)
once w c t s p (Finish how ∷ m) low k f = once_on w c t s p (Finish how) m low k refl f (once w c t s p m low k f.2)

at_most : (t : Mark → Bool) (s : Stage) (p : ℕ) (m : History) → OnceBy t s p m → marks_in_turn t m ≤ 1
at_most t s p m (inl none) = omega (arith, none)
at_most t s p m (inr one) = let here : marks_in_turn t m ≡ 1 = one.0 in omega (arith, here)

end_is : (a b : End) → is_same_end a b ≡ true → a ≡ b
end_is Client Client e = refl
end_is Client Up e = absurd cc
end_is Up Client e = absurd cc
end_is Up Up e = refl

-- the stage that a mark leaves behind
left_behind : (q p : ℕ) (s old : Stage) → q ≡ p → rank s < rank (later s) → rank s < rank (if q == p then later s else old)
left_behind q p s old e k = subst (λ (i : ℕ). rank s < rank (if q == i then later s else old)) e (subst (λ (x : Stage). rank s < rank x) (sym (if_same q (later s) old)) k)

read_next : (end : End) → rank (Reading end) < rank (later (Reading end))
read_next Up = omega arith
read_next Client = omega arith

reads_pass : (w : RelayWords) (c : Limits) (p : ℕ) (end : End) → Passes w c (is_read_of p end) (Reading end) p
reads_pass w c p end (Call (Read q other room answer bytes)) m f t =
    let parts : ((q == p) ≡ true) × (is_same_end other end ≡ true) = and_parts (q == p) (is_same_end other end) t in
    let pair : q ≡ p = is_equal q p parts.0 in
    let side : other ≡ end = end_is other end parts.1 in
    let turn : IsInTurn w c q (Reading other) m = has_place w c (Call (Read q other room answer bytes)) m f in (
      subst (λ (e : End). rank (reached_stage p m) ≤ rank (Reading e)) side (turn_of w c q p (Reading other) m turn pair),
      subst (λ (e : End). rank (Reading e) < rank (if q == p then later (Reading other) else reached_stage p m)) side
          (left_behind q p (Reading other) (reached_stage p m) pair (read_next other)),
    )
reads_pass w c p end x m f t = absurd cc

take_ups_pass : (w : RelayWords) (c : Limits) (p : ℕ) → Passes w c (is_take_up_of p) Taking p
take_ups_pass w c p (TakeUp q) m f t =
    let pair : q ≡ p = is_equal q p t in
    let turn : IsInTurn w c q Taking m = has_place w c (TakeUp q) m f in
    (turn_of w c q p Taking m turn pair, left_behind q p Taking (reached_stage p m) pair (omega arith))
take_ups_pass w c p x m f t = absurd cc

connects_pass : (w : RelayWords) (c : Limits) (p : ℕ) → Passes w c (is_connect_of p) Linking p
connects_pass w c p (Call (Connect q answer)) m f t =
    let pair : q ≡ p = is_equal q p t in
    let turn : IsInTurn w c q Linking m = has_place w c (Call (Connect q answer)) m f in
    (turn_of w c q p Linking m turn pair, left_behind q p Linking (reached_stage p m) pair (omega arith))
connects_pass w c p x m f t = absurd cc

-- ---- accept

none_at_clock : (m : History) (ms : ℕ) → newest m ≡ Some (Call (Now ms)) → marks_in_turn is_accept m ≡ 0
none_at_clock [] ms e = absurd cc
none_at_clock (x ∷ m) ms e = let same : x ≡ Call (Now ms) = cc in ap (λ (y : Mark). marks_in_turn is_accept (y ∷ m)) same

accepts_once : (w : RelayWords) (c : Limits) (m : History) → Follows w c m → marks_in_turn is_accept m ≤ 1
accepts_once w c [] f = omega arith
accepts_once w c (Call (Accept answer) ∷ m) f =
    let place : HasPlace w c (Call (Accept answer)) m = has_place w c (Call (Accept answer)) m f in
    let none : marks_in_turn is_accept m ≡ 0 = none_at_clock m place.0.0 place.0.1 in omega (arith, none)
accepts_once w c (Call (Connect q answer) ∷ m) f = accepts_once w c m f.2
accepts_once w c (Call (Read q end room answer bytes) ∷ m) f = accepts_once w c m f.2
accepts_once w c (Call (Write q end bytes answer) ∷ m) f = accepts_once w c m f.2
accepts_once w c (Call (Shut q end) ∷ m) f = accepts_once w c m f.2
accepts_once w c (Call (Idle answer) ∷ m) f = accepts_once w c m f.2
accepts_once w c (Call (Now ms) ∷ m) f = omega arith
accepts_once w c (Refuse q ∷ m) f = accepts_once w c m f.1
accepts_once w c (TakeUp q ∷ m) f = accepts_once w c m f.1
accepts_once w c (RunOut q s cut ∷ m) f = accepts_once w c m f.2
accepts_once w c (Finish how ∷ m) f = accepts_once w c m f.2

read_low : (end : End) → rank (Reading end) ≤ 3
read_low Up = omega arith
read_low Client = omega arith

pub comes_once : (w : RelayWords) (c : Limits) (m : History) → Follows w c m → ComesOnce m
comes_once w c m f = record {
  accepts = accepts_once w c m f;
  reads = λ p end. at_most (is_read_of p end) (Reading end) p m (once w c (is_read_of p end) (Reading end) p m (read_low end) (reads_pass w c p end) f);
  take_ups = λ p. at_most (is_take_up_of p) Taking p m (once w c (is_take_up_of p) Taking p m (omega arith) (take_ups_pass w c p) f);
  connects = λ p. at_most (is_connect_of p) Linking p m (once w c (is_connect_of p) Linking p m (omega arith) (connects_pass w c p) f);
}
