-- The newest lines of each pair of a list, told one after another.
use Rattle.std.proofs.Common.{◌≡◌, ℕ, suc, ◌+◌, ◌<◌, ◌≤◌, false, List, [], ◌∷◌, ◌++◌, length, take}
use Rattle.std.proofs.Common.{drop, get_or, Option, Err, append_assoc, append-nil, refl, sym, ap}
use Rattle.std.proofs.Common.{◌∙◌, subst}
use Rattle.std.proofs.Math.Seq.{drop-cons}
use Rattle.std.proofs.lemmas.List.{take_all, take_more, take-append-drop}
use Rattle.std.specs.List.{AllByRecursion}
use Rattle.gate_outside.proofs.Appending.{appends_then}
use Rattle.gate_outside.specs.Streams.{Appends, AppendsFront}
use Rattle.gate_relay.specs.Entries.{Entry, is_empty}
use Rattle.gate_relay.specs.RelayWords.{RelayWords}
use Rattle.gate_runs.specs.Journal.{journal}
use Rattle.gate_runs.specs.Marks.{History}
use Rattle.gate_runs.specs.Report.{lines_of}
use Rattle.gate_turns.specs.declared.live.Live.{Live}
use Rattle.gate_turns.specs.declared.tally.SinkFault.TheVariants.{Out}
use Rattle.gate_turns.specs.Parts.{TellsBy}
use Rattle.gate_turns.specs.Rounds.{IsIn, numbers}
use Rattle.gate_turns.proofs.Fronts.{front_more, front_then}
use Rattle.gate_turns.proofs.LivePairs.{all_middle}
use Rattle.gate_turns.proofs.Telling.{some_front, some_back}

-- the lines of these pairs, and of those behind them
lines-append : {A : Type 0} (w : RelayWords) (n : History) (front back : List (Live A)) → lines_of w (numbers (front ++ back)) n ≡ lines_of w (numbers front) n ++ lines_of w (numbers back) n
lines-append {A} w n [] back = refl
lines-append {A} w n (b ∷ front) back =
    ap (λ (xs : List ℕ). w.lines (journal b.number n) ++ xs) (lines-append w n front back)
    ∙ sym (append_assoc (w.lines (journal b.number n)) (lines_of w (numbers front) n) (lines_of w (numbers back) n))

-- the list, split at a pair
split-at : {A : Type 0} (live : List (Live A)) (i : ℕ) (b : Live A) → i < length live → b ≡ get_or live i b → live ≡ take i live ++ b ∷ drop (suc i) live
split-at {A} live i b lt here = sym (take-append-drop i live)
    ∙ ap (λ (xs : List (Live A)). take i live ++ xs) (drop-cons live i b lt)
    ∙ ap (λ (x : Live A). take i live ++ x ∷ drop (suc i) live) (sym here)

-- the pair at a place is in the history as all are
pub is_in_at : {A : Type 0} (r : A → List Entry → Type 0) (n : History) (live : List (Live A)) (i : ℕ) (b : Live A) → i < length live → b ≡ get_or live i b
    → AllByRecursion (IsIn r n) live → IsIn r n b
is_in_at {A} r n live i b lt here all =
    all_middle (IsIn r n) (take i live) (drop (suc i) live) b (subst (λ (xs : List (Live A)). AllByRecursion (IsIn r n) xs) (split-at live i b lt here) all)

-- the lines of one pair more were taken
pub lines_more : {A : Type 0} (w : RelayWords) (n : History) (live : List (Live A)) (i : ℕ) (b : Live A) (held mid held' : Option (List ℕ)) → i < length live → b ≡ get_or live i b
    → Appends held mid (lines_of w (numbers (take i live)) n) → Appends mid held' (w.lines (journal b.number n)) → Appends held held' (lines_of w (numbers (take (i + 1) live)) n)
lines_more {A} w n live i b held mid held' lt here p q =
    let all : lines_of w (numbers (take (i + 1) live)) n ≡ lines_of w (numbers (take i live)) n ++ w.lines (journal b.number n) =
    ap (λ (xs : List (Live A)). lines_of w (numbers xs) n) (take_more live i b lt ∙ ap (λ (x : Live A). take i live ++ x ∷ []) (sym here))
    ∙ lines-append w n (take i live) (b ∷ [])
    ∙ ap (λ (xs : List ℕ). lines_of w (numbers (take i live)) n ++ xs) (append-nil (w.lines (journal b.number n))) in
    rw all (appends_then held mid held' (lines_of w (numbers (take i live)) n) (w.lines (journal b.number n)) p q)

-- out failed at the lines of a pair
pub lines_stop : {A : Type 0} (w : RelayWords) (n : History) (live : List (Live A)) (i : ℕ) (b : Live A) (held mid held' : Option (List ℕ)) → i < length live → b ≡ get_or live i b
    → Appends held mid (lines_of w (numbers (take i live)) n) → AppendsFront mid held' (w.lines (journal b.number n)) → is_empty (w.lines (journal b.number n)) ≡ false
    → TellsBy (Err Out) held held' (lines_of w (numbers live) n)
lines_stop {A} w n live i b held mid held' lt here p q some =
    let here_lines : List ℕ = w.lines (journal b.number n) in
    let later_lines : List ℕ = lines_of w (numbers (drop (suc i) live)) n in
    let all : lines_of w (numbers live) n ≡ lines_of w (numbers (take i live)) n ++ (here_lines ++ later_lines) =
    ap (λ (xs : List (Live A)). lines_of w (numbers xs) n) (split-at live i b lt here) ∙ lines-append w n (take i live) (b ∷ drop (suc i) live) in
    rw all (
      front_then held mid held' (lines_of w (numbers (take i live)) n) (here_lines ++ later_lines) p (front_more mid held' here_lines later_lines q),
      some_back (lines_of w (numbers (take i live)) n) (here_lines ++ later_lines) (some_front here_lines later_lines some),
    )

-- the lines of all were taken
pub lines_whole : {A : Type 0} (w : RelayWords) (n : History) (live : List (Live A)) (i : ℕ) (held held' : Option (List ℕ)) → length live ≤ i
    → Appends held held' (lines_of w (numbers (take i live)) n) → Appends held held' (lines_of w (numbers live) n)
lines_whole {A} w n live i held held' full p = subst (λ (xs : List (Live A)). Appends held held' (lines_of w (numbers xs) n)) (take_all i live full) p
