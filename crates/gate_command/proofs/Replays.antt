-- After a run over ports that answer from a log, what is told tells the calls and the log apart.
use Rattle.std.proofs.Common.{◌≡◌, ◌≢◌, ℕ, Bool, true, false, not, cond, ◌&&◌, List, [], ◌∷◌, ◌++◌}
use Rattle.std.proofs.Common.{length, take, reverse, Option, None, Some, refl, sym, ◌∙◌, ap, subst}
use Rattle.std.proofs.Common.{arith, append_assoc}
use Rattle.std.specs.Prelude.{slice_get, Result, Ok, Err, IfOk}
use Rattle.std.specs.List.{AllByRecursion}
use Rattle.std.proofs.lemmas.List.{reverse-append, reverse-reverse, length-reverse}
use Rattle.wire_base.specs.declared.memory.Memory.{Memory}
use Rattle.gate_outside.specs.declared.log.LogEntry.{LogEntry}
use Rattle.gate_capture.specs.Spelling.{HasSpelling}
use Rattle.gate_capture.specs.Replay.{whole, is_nothing}
use Rattle.gate_model.specs.Setup.{SetupText}
use Rattle.gate_pair.specs.Meaning.{pair_words}
use Rattle.gate_relay.specs.RelayWords.{RelayWords}
use Rattle.gate_runs.specs.declared.limits.Limits.{Limits}
use Rattle.gate_runs.specs.declared.served.Served.{Served}
use Rattle.gate_runs.specs.Marks.{History, HasHistory, Call, Refuse, TakeUp, RunOut, Finish, calls}
use Rattle.gate_runs.specs.Serving.{Answered, Follows}
use Rattle.gate_command.specs.declared.replay.Replayed.{Replayed}
use Rattle.gate_command.specs.declared.replay.Replayed.TheVariants.{Same, Differs}
use Rattle.gate_command.specs.Runs.{IsRunOf}
use Rattle.gate_command.specs.Replaying.{RerunState, no_call, told_over, Agrees, Answers, GoesApart}
use Rattle.gate_command.specs.Replaying.{Replays}

-- ---- the mark is no call

abbrev IsCall : LogEntry → Type 0
IsCall x = x ≢ no_call

spelled_is_call : (x : LogEntry) → HasSpelling x → IsCall x
spelled_is_call x h same = let mark : HasSpelling no_call = subst HasSpelling same h in let some = mark.some in absurd (omega arith)

spelled_are_calls : (log : List LogEntry) → AllByRecursion HasSpelling log → AllByRecursion IsCall log
spelled_are_calls [] h = tt
spelled_are_calls (x ∷ log) h = (spelled_is_call x h.0, spelled_are_calls log h.1)

answered_is_call : (m : History) (x : LogEntry) → Answered m x → IsCall x
answered_is_call m x h same = let mark : Answered m no_call = subst (Answered m) same h in let most = mark.1 in absurd (omega arith)

calls_are_calls : (w : RelayWords) (c : Limits) (m : History) → Follows w c m → AllByRecursion IsCall (calls m)
calls_are_calls w c [] h = tt
calls_are_calls w c (Call x ∷ m) h = (answered_is_call m x h.1, calls_are_calls w c m h.2)
calls_are_calls w c (Refuse p ∷ m) h = calls_are_calls w c m h.1
calls_are_calls w c (TakeUp p ∷ m) h = calls_are_calls w c m h.1
calls_are_calls w c (RunOut p s cut ∷ m) h = calls_are_calls w c m h.2
calls_are_calls w c (Finish how ∷ m) h = calls_are_calls w c m h.2

-- ---- the parts before the mark and behind it

no_mark : (us vs : List LogEntry) → ¬ AllByRecursion IsCall (us ++ no_call ∷ vs)
no_mark [] vs h = h.0 refl
no_mark (u ∷ us) vs h = no_mark us vs h.1

parts_at_mark : (xs us ys vs : List LogEntry) → AllByRecursion IsCall xs → AllByRecursion IsCall ys → us ++ no_call ∷ vs ≡ xs ++ no_call ∷ ys → (us ≡ xs) × (vs ≡ ys)
parts_at_mark [] [] ys vs hx hy e = (refl, cc)
parts_at_mark [] (u ∷ us) ys vs hx hy e =
    let rest : us ++ no_call ∷ vs ≡ ys = cc in
    absurd (no_mark us vs (subst (AllByRecursion IsCall) (sym rest) hy))
parts_at_mark (x ∷ xs) [] ys vs hx hy e = let first : x ≡ no_call = cc in absurd (hx.0 first)
parts_at_mark (x ∷ xs) (u ∷ us) ys vs hx hy e =
    let first : u ≡ x = cc in
    let rest : us ++ no_call ∷ vs ≡ xs ++ no_call ∷ ys = cc in
    let parts = parts_at_mark xs us ys vs hx.1 hy rest in
    (rw (first, parts.0) refl, parts.1)

-- ---- a run that is told

-- the calls of the run, and the log that it was made over
record Tells (s : SetupText) (c : Limits) (how : Served) (count : ℕ) (rest used left log : List LogEntry) : Type 0 where
  history : History
  run : IsRunOf s c how count None None None None history
  made : reverse (calls history) ≡ reverse used ++ rest
  over : reverse used ++ left ≡ log

tells_run : (s : SetupText) (c : Limits) (how : Served) (count : ℕ) (rest used left log : List LogEntry) → AllByRecursion HasSpelling log
    → HasHistory (no_call ∷ log) (Some (reverse rest ++ (used ++ no_call ∷ (reverse used ++ left)))) (IsRunOf s c how count None None None None) → Tells s c how count rest used left log
tells_run s c how count rest used left log spelled (m, e, run) =
    let joined : (reverse rest ++ used) ++ no_call ∷ (reverse used ++ left) ≡ calls m ++ no_call ∷ log = append_assoc (reverse rest) used (no_call ∷ (reverse used ++ left)) ∙ e in
    let parts = parts_at_mark (calls m) (reverse rest ++ used) log (reverse used ++ left) (calls_are_calls (pair_words s) c m run.served.follows) (spelled_are_calls log spelled) joined in
    record {
      history = m;
      run = run;
      made = ap reverse (sym parts.0) ∙ reverse-append (reverse rest) used ∙ ap (λ (xs : List LogEntry). reverse used ++ xs) (reverse-reverse rest);
      over = parts.1;
    }

-- ---- what is said of it

-- the place behind a front part
behind : (xs ys : List LogEntry) → slice_get (xs ++ ys) (length xs) ≡ slice_get ys 0
behind [] ys = refl
behind (x ∷ xs) ys = behind xs ys

front : (xs ys : List LogEntry) → take (length xs) (xs ++ ys) ≡ xs
front [] ys = refl
front (x ∷ xs) ys = ap (λ (xs : List LogEntry). x ∷ xs) (front xs ys)

apart : (xs ys zs : List LogEntry) → slice_get ys 0 ≢ slice_get zs 0 → GoesApart (length xs) (xs ++ ys) (xs ++ zs)
apart xs ys zs other = record { front = front xs ys ∙ sym (front xs zs); other = λ same. other (sym (behind xs ys) ∙ same ∙ behind xs zs) }

-- the first call that isn't its entry
another : (d t : Bool) (rest left : List LogEntry) (n k : ℕ) → Agrees d t rest left → t ≡ true → cond {A = Option ℕ} (not d && is_nothing left) None (Some n) ≡ Some k → slice_get rest 0 ≢ slice_get left 0
another true t rest left n k agrees told is same = let parts = agrees told in parts.other (sym same ∙ ap (λ (xs : List LogEntry). slice_get xs 0) parts.calls)
another false t rest [] n k agrees told is same = absurd cc
another false t rest (e ∷ left) n k agrees told is same = let none : slice_get rest 0 ≡ None = ap (λ (xs : List LogEntry). slice_get xs 0) agrees.0 in absurd cc

same_place : (d : Bool) (left : List LogEntry) (n k : ℕ) → cond {A = Option ℕ} (not d && is_nothing left) None (Some n) ≡ Some k → n ≡ k
same_place true left n k is = cc
same_place false [] n k is = absurd cc
same_place false (e ∷ left) n k is = cc

none_left : (d t : Bool) (rest left : List LogEntry) (n : ℕ) → Agrees d t rest left → cond {A = Option ℕ} (not d && is_nothing left) None (Some n) ≡ None → (rest ≡ []) × (t ≡ true) × (left ≡ [])
none_left true t rest left n agrees is = absurd cc
none_left false t rest [] n agrees is = (agrees.0, agrees.1, refl)
none_left false t rest (e ∷ left) n agrees is = absurd cc

told_is : (rerun : RerunState) → rerun.tells ≡ true → told_over rerun ≡ Some (reverse rerun.rest ++ (rerun.ports.log.used ++ no_call ∷ whole rerun.ports.log))
told_is rerun told = rw told refl

pub replays : (s : SetupText) (c : Limits) (how : Served) (count : ℕ) (rerun : RerunState) (log : List LogEntry) (said : Replayed) → AllByRecursion HasSpelling log
    → Agrees rerun.ports.differs rerun.tells rerun.rest rerun.ports.log.left → Answers rerun count said
    → HasHistory (no_call ∷ log) (told_over rerun) (IsRunOf s c how count None None None None) → Replays s c log said
replays s c how count rerun log (Same n) spelled agrees a h =
    let none = none_left rerun.ports.differs rerun.tells rerun.rest rerun.ports.log.left _ agrees a.0 in
    let run = tells_run s c how count rerun.rest rerun.ports.log.used rerun.ports.log.left log spelled
    (subst (λ (t : Option (List LogEntry)). HasHistory (no_call ∷ log) t (IsRunOf s c how count None None None None)) (told_is rerun none.1) h) in
    let all : log ≡ reverse (calls run.history) =
    sym run.over ∙ ap (λ (xs : List LogEntry). reverse rerun.ports.log.used ++ xs) (none.2 ∙ sym none.0) ∙ sym run.made in
    (a.1 ∙ ap length run.over, (count, record { history = run.history; made = all; how = how; run = run.run }))
replays s c how count rerun log (Differs k) spelled agrees a h =
    let run = tells_run s c how count rerun.rest rerun.ports.log.used rerun.ports.log.left log spelled
    (subst (λ (t : Option (List LogEntry)). HasHistory (no_call ∷ log) t (IsRunOf s c how count None None None None)) (told_is rerun a.1) h) in
    let place = same_place rerun.ports.differs rerun.ports.log.left (length rerun.ports.log.used) k a.0 in
    let other = another rerun.ports.differs rerun.tells rerun.rest rerun.ports.log.left (length rerun.ports.log.used) k agrees a.1 a.0 in
    let parts = apart (reverse rerun.ports.log.used) rerun.rest rerun.ports.log.left other in
    let at : length (reverse rerun.ports.log.used) ≡ k = length-reverse rerun.ports.log.used ∙ place in
    let shown : IsRunOf s c how 0 None None None None run.history = subst (λ (n : ℕ). IsRunOf s c how n None None None None run.history) a.2 run.run in
    record {
      made = reverse (calls run.history);
      run = record { history = run.history; made = refl; how = how; run = shown };
      place = subst (λ (l : List LogEntry). GoesApart k (reverse (calls run.history)) l) run.over
          (subst (λ (l : List LogEntry). GoesApart k l (reverse rerun.ports.log.used ++ rerun.ports.log.left)) (sym run.made)
          (subst (λ (n : ℕ). GoesApart n (reverse rerun.ports.log.used ++ rerun.rest) (reverse rerun.ports.log.used ++ rerun.ports.log.left)) at parts));
    }

pub replays_ok : (s : SetupText) (c : Limits) (how : Served) (count : ℕ) (rerun : RerunState) (log : List LogEntry) (said : Result Replayed Memory) → AllByRecursion HasSpelling log
    → Agrees rerun.ports.differs rerun.tells rerun.rest rerun.ports.log.left → IfOk said (Answers rerun count)
    → HasHistory (no_call ∷ log) (told_over rerun) (IsRunOf s c how count None None None None) → IfOk said (Replays s c log)
replays_ok s c how count rerun log (Ok said) spelled agrees a h = replays s c how count rerun log said spelled agrees a h
replays_ok s c how count rerun log (Err e) spelled agrees a h = tt
