-- A log of which one entry more is used.
use Rattle.std.proofs.Common.{◌≡◌, ℕ, ◌+◌, List, [], ◌∷◌, ◌++◌, take, drop, reverse, refl, sym, ap}
use Rattle.std.proofs.Common.{◌∙◌}
use Rattle.std.proofs.Math.Seq.{take-add}
use Rattle.std.proofs.lemmas.List.{drop-drop, reverse-append, reverse-reverse, take-append-drop}
use Rattle.gate_outside.specs.declared.log.LogEntry.{LogEntry}
use Rattle.gate_capture.specs.Replay.{Recorded, step, whole}

-- what is left from a place on, and what was used before it, the newest first
abbrev pub at_place : List LogEntry → ℕ → Recorded
at_place entries at = record { left = drop at entries; used = reverse (take at entries) }

one_turned : (xs : List LogEntry) → reverse (take 1 xs) ≡ take 1 xs
one_turned [] = refl
one_turned (x ∷ xs) = refl

used_one : (at : ℕ) (xs : List LogEntry) → reverse (take (at + 1) xs) ≡ take 1 (drop at xs) ++ reverse (take at xs)
used_one at xs = ap reverse (take-add at 1 xs) ∙ reverse-append (take at xs) (take 1 (drop at xs)) ∙ ap (λ (s : List LogEntry). s ++ reverse (take at xs)) (one_turned (drop at xs))

abbrev log_of : List LogEntry → List LogEntry → Recorded
log_of left used = record { left = left; used = used }

pub step_is : (entries : List LogEntry) (at : ℕ) → at_place entries (at + 1) ≡ step (at_place entries at)
step_is entries at =
    ap (λ (left : List LogEntry). log_of left (reverse (take (at + 1) entries))) (sym (drop-drop 1 at entries))
    ∙ ap (log_of (drop 1 (drop at entries))) (used_one at entries)

-- what was used and what is left are the whole log
pub whole_is : (entries : List LogEntry) (at : ℕ) → entries ≡ whole (at_place entries at)
whole_is entries at = sym (ap (λ (s : List LogEntry). s ++ drop at entries) (reverse-reverse (take at entries)) ∙ take-append-drop at entries)
