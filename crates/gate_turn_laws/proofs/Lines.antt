-- The lines of each mark stand behind those of the marks before it.
use Rattle.std.proofs.Common.{◌≡◌, ℕ, Bool, true, false, List, [], ◌∷◌, ◌++◌, refl, sym, ap, ◌∙◌}
use Rattle.std.proofs.Common.{subst}
use Rattle.gate_outside.specs.declared.ports.End.{End}
use Rattle.gate_outside.specs.declared.ports.End.TheVariants.{Client, Up}
use Rattle.gate_outside.specs.declared.ports.Got.TheVariants as got
use Rattle.gate_outside.specs.declared.log.LogEntry.TheVariants.{Accept, Connect, Read, Write, Shut}
use Rattle.gate_outside.specs.declared.log.LogEntry.TheVariants.{Idle, Now}
use Rattle.gate_relay.specs.declared.loss.Loss.TheVariants as loss
use Rattle.gate_relay.specs.Entries.{Entry, Refused, Began, Lost}
use Rattle.gate_relay.specs.RelayWords.{RelayWords}
use Rattle.gate_relay.specs.Sides.{sides, has_end}
use Rattle.gate_runs.specs.declared.lap.Lap.TheVariants as lap
use Rattle.gate_runs.specs.declared.limits.Limits.{Limits}
use Rattle.gate_runs.specs.Marks.{Mark, History, Call, Refuse, TakeUp, RunOut, Finish}
use Rattle.gate_runs.specs.Journal.{journal}
use Rattle.gate_runs.specs.Stages.{Stage, Reading, Taking, Linking, Writing, Shutting, Past, later}
use Rattle.gate_runs.specs.Stages.{writing_at, at_running_out}
use Rattle.gate_runs.specs.Next.{AskShut, Do, Point, Refusing, stage_of, point, next, ahead}
use Rattle.gate_runs.specs.Report.{closed_lines, shut_lines, mark_lines, lines_before, lines_so_far}
use Rattle.gate_runs.specs.Report.{report}
use Rattle.gate_runs.specs.Serving.{RunsOutAt, AtRead, AtTakeUp, AtWrite, Follows}
use Rattle.gate_turn_laws.specs.Pairs.{is_live}
use Rattle.gate_turn_laws.specs.Lines.{takes_back, told_lines, AddsLines, Adds, InPlace, ShutLines}
use Rattle.gate_turn_laws.specs.Lines.{OfPair, OfRefused, TellsInOrder}
use Rattle.gate_turn_laws.proofs.Lists.{if_same}
use Rattle.gate_turn_laws.proofs.Living.{IsRefusal, LivesAt, lives}

-- what a mark leaves of the lines before it
keeps_lines : (w : RelayWords) (x : Mark) (m : History) → takes_back x ≡ false → lines_before x (lines_so_far w m) ≡ report w m
keeps_lines w (Call entry) m e = refl
keeps_lines w (Refuse p) m e = refl
keeps_lines w (TakeUp p) m e = refl
keeps_lines w (RunOut p (Reading end) cut) m e = absurd cc
keeps_lines w (RunOut p Taking cut) m e = absurd cc
keeps_lines w (RunOut p Linking cut) m e = absurd cc
keeps_lines w (RunOut p (Writing lap k) cut) m e = refl
keeps_lines w (RunOut p (Shutting end) cut) m e = absurd cc
keeps_lines w (RunOut p Past cut) m e = absurd cc
keeps_lines w (Finish how) m e = refl

drops_lines : (w : RelayWords) (x : Mark) (m : History) → takes_back x ≡ true → lines_before x (lines_so_far w m) ≡ (lines_so_far w m).before
drops_lines w (Call entry) m e = absurd cc
drops_lines w (Refuse p) m e = absurd cc
drops_lines w (TakeUp p) m e = absurd cc
drops_lines w (RunOut p (Reading end) cut) m e = refl
drops_lines w (RunOut p Taking cut) m e = refl
drops_lines w (RunOut p Linking cut) m e = refl
drops_lines w (RunOut p (Writing lap k) cut) m e = absurd cc
drops_lines w (RunOut p (Shutting end) cut) m e = refl
drops_lines w (RunOut p Past cut) m e = refl
drops_lines w (Finish how) m e = absurd cc

append_none : (xs : List ℕ) → xs ++ [] ≡ xs
append_none [] = refl
append_none (x ∷ xs) = ap (λ (ys : List ℕ). x ∷ ys) (append_none xs)

-- the lines that are told are the report, or what stands before the newest of them
told_is : (w : RelayWords) (m : History) → (told_lines w false m ≡ report w m) × (told_lines w true m ≡ (lines_so_far w m).before)
told_is w [] = (refl, refl)
told_is w (x ∷ m) =
    let before : told_lines w (takes_back x) m ≡ lines_before x (lines_so_far w m) = by_mark w x m (takes_back x) refl (told_is w m).0 (told_is w m).1 in
    (ap (λ (ys : List ℕ). ys ++ mark_lines w x m) before, append_none (told_lines w (takes_back x) m) ∙ before)
  where
    by_mark : (w : RelayWords) (x : Mark) (m : History) (b : Bool) → takes_back x ≡ b → told_lines w false m ≡ report w m → told_lines w true m ≡ (lines_so_far w m).before
        → told_lines w b m ≡ lines_before x (lines_so_far w m)
    by_mark w x m true e all before = before ∙ sym (drops_lines w x m e)
    by_mark w x m false e all before = all ∙ sym (keeps_lines w x m e)

pub report_is : (w : RelayWords) (m : History) → report w m ≡ told_lines w false m
report_is w m = sym (told_is w m).0

adds_by : (w : RelayWords) (x : Mark) (m : History) → takes_back x ≡ false → AddsLines w x m
adds_by w x m e = Adds (ap (λ (ys : List ℕ). ys ++ mark_lines w x m) (keeps_lines w x m e))

is_writing : (end : End) (s : Stage) (p cut : ℕ) → takes_back (RunOut p (at_running_out (writing_at end s)) cut) ≡ false
is_writing Up (Reading end) p cut = refl
is_writing Up Taking p cut = refl
is_writing Up Linking p cut = refl
is_writing Up (Writing lap.ToUp k) p cut = refl
is_writing Up (Writing lap.ToClient k) p cut = refl
is_writing Up (Writing lap.ToClientLate k) p cut = refl
is_writing Up (Writing lap.ToUpAgain k) p cut = refl
is_writing Up (Shutting end) p cut = refl
is_writing Up Past p cut = refl
is_writing Client (Reading end) p cut = refl
is_writing Client Taking p cut = refl
is_writing Client Linking p cut = refl
is_writing Client (Writing lap.ToUp k) p cut = refl
is_writing Client (Writing lap.ToClient k) p cut = refl
is_writing Client (Writing lap.ToClientLate k) p cut = refl
is_writing Client (Writing lap.ToUpAgain k) p cut = refl
is_writing Client (Shutting end) p cut = refl
is_writing Client Past p cut = refl

run_out_adds : (w : RelayWords) (c : Limits) (p : ℕ) (s : Stage) (cut : ℕ) (m : History) → RunsOutAt w c p s cut m → AddsLines w (RunOut p s cut) m
run_out_adds w c p s k m (AtRead cut end room n bytes old) =
    InPlace p (later (Reading end)) cut (Call (Read p end room (got.Bytes n) bytes)) old refl refl refl
    (ap (λ (ys : List ℕ). ys ++ mark_lines w (RunOut p (later (Reading end)) cut) (Call (Read p end room (got.Bytes n) bytes) ∷ old))
    (drops_lines w (RunOut p (later (Reading end)) cut) (Call (Read p end room (got.Bytes n) bytes) ∷ old) (read_back end p cut)))
  where
    read_back : (end : End) (p cut : ℕ) → takes_back (RunOut p (later (Reading end)) cut) ≡ true
    read_back Up p cut = refl
    read_back Client p cut = refl
run_out_adds w c p s k m (AtTakeUp cut old) = InPlace p Linking cut (TakeUp p) old refl refl refl refl
run_out_adds w c p s k m (AtWrite end bytes old e t) =
    adds_by w (RunOut p (at_running_out (writing_at end (stage_of p (point old)))) 0) old (is_writing end (stage_of p (point old)) p 0)

-- ---- the lines of a shut

shut_asked : (w : RelayWords) (c : Limits) (m : History) (p q : ℕ) (end : End) → point m ≡ Refusing q → next w c m ≡ Do (AskShut p end) → (q ≡ p) × (Client ≡ end)
shut_asked w c m p q end x e =
    let here : Do (AskShut q Client) ≡ Do (AskShut p end) = sym (ap (λ (y : Point). ahead w c m y) x) ∙ e in
    let same : AskShut q Client ≡ AskShut p end = cc in (cc, cc)

shut_lines-pair : (w : RelayWords) (p : ℕ) (end : End) (m : History) (x : Point) → point m ≡ x
    → shut_lines w p x (journal p (Call (Shut p end) ∷ m)) ≡ w.lines (journal p (Call (Shut p end) ∷ m)) ++ closed_lines p (has_end (sides (journal p (Call (Shut p end) ∷ m))))
    → is_live p (Call (Shut p end) ∷ m) ≡ has_end (sides (journal p (Call (Shut p end) ∷ m))) → ShutLines w p end m
shut_lines-pair w p end m x here e l = OfPair (
    ap (λ (y : Point). shut_lines w p y (journal p (Call (Shut p end) ∷ m))) here ∙ e
    ∙ ap (λ (b : Bool). w.lines (journal p (Call (Shut p end) ∷ m)) ++ closed_lines p b) (sym l))

shut_tells : (w : RelayWords) (c : Limits) (p : ℕ) (end : End) (m : History) (x : Point) → Follows w c (Call (Shut p end) ∷ m) → point m ≡ x → LivesAt m x → ShutLines w p end m
shut_tells w c p end m (Refusing q) f here r =
    let s : (q ≡ p) × (Client ≡ end) = shut_asked w c m p q end here f.0 in
    let refused : IsRefusal p (journal p m) = subst (λ (i : ℕ). IsRefusal i (journal i m)) s.0 r in
    let after : journal p (Call (Shut p end) ∷ m) ≡ Lost Client loss.Shut ∷ Refused ∷ Began p refused.0 ∷ [] =
    if_same p (Lost end loss.Shut ∷ journal p m) (journal p m) ∙ ap (λ (h : List Entry). Lost end loss.Shut ∷ h) refused.1
    ∙ ap (λ (e : End). Lost e loss.Shut ∷ Refused ∷ Began p refused.0 ∷ []) (sym s.1) in
    OfRefused refused.0 refused.1 ((lives w c (Call (Shut p end) ∷ m) f).each p ∙ ap (λ (h : List Entry). has_end (sides h)) after)
    (ap (λ (y : Point). shut_lines w p y (journal p (Call (Shut p end) ∷ m))) here)
shut_tells w c p end m x f here r = shut_lines-pair w p end m x here refl ((lives w c (Call (Shut p end) ∷ m) f).each p)

pub tells_in_order : (w : RelayWords) (c : Limits) (m : History) → Follows w c m → TellsInOrder w m
tells_in_order w c [] f = tt
tells_in_order w c (Call (Accept answer) ∷ m) f = (adds_by w (Call (Accept answer)) m refl, tells_in_order w c m f.2)
tells_in_order w c (Call (Connect p answer) ∷ m) f = (adds_by w (Call (Connect p answer)) m refl, tells_in_order w c m f.2)
tells_in_order w c (Call (Read p end room answer bytes) ∷ m) f = (adds_by w (Call (Read p end room answer bytes)) m refl, tells_in_order w c m f.2)
tells_in_order w c (Call (Write p end bytes answer) ∷ m) f = (adds_by w (Call (Write p end bytes answer)) m refl, tells_in_order w c m f.2)
tells_in_order w c (Call (Shut p end) ∷ m) f =
    ((adds_by w (Call (Shut p end)) m refl, shut_tells w c p end m (point m) f refl (lives w c m f.2).here), tells_in_order w c m f.2)
tells_in_order w c (Call (Idle answer) ∷ m) f = (adds_by w (Call (Idle answer)) m refl, tells_in_order w c m f.2)
tells_in_order w c (Call (Now ms) ∷ m) f = (adds_by w (Call (Now ms)) m refl, tells_in_order w c m f.2)
tells_in_order w c (Refuse p ∷ m) f = (adds_by w (Refuse p) m refl, tells_in_order w c m f.1)
tells_in_order w c (TakeUp p ∷ m) f = (adds_by w (TakeUp p) m refl, tells_in_order w c m f.1)
tells_in_order w c (RunOut p s cut ∷ m) f = (run_out_adds w c p s cut m f.1, tells_in_order w c m f.2)
tells_in_order w c (Finish how ∷ m) f = (adds_by w (Finish how) m refl, tells_in_order w c m f.2)
