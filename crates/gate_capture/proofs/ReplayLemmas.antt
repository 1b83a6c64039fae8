-- The log that replaying ports answer from stays the same.
use Rattle.std.proofs.Common.{◌≡◌, ℕ, Bool, true, false, not, cond, ◌&&◌, List, [], ◌∷◌, ◌++◌}
use Rattle.std.proofs.Common.{reverse, Some, None, refl, sym, ap, ◌∙◌, append_assoc, append-nil}
use Rattle.std.proofs.lemmas.List.{reverse-append}
use Rattle.gate_outside.specs.declared.log.LogEntry.{LogEntry}
use Rattle.gate_capture.specs.Replay.{Recorded, step, whole, is_nothing}

step_keeps : (left used : List LogEntry) → whole (step (record { left = left; used = used })) ≡ whole (record { left = left; used = used })
step_keeps [] used = refl
step_keeps (e ∷ left) used = ap (λ (s : List LogEntry). s ++ left) (reverse-append (e ∷ []) used) ∙ append_assoc (reverse used) (e ∷ []) left

-- a call that is its entry, or another, keeps it
pub answered_keeps : (is : Bool) (log : Recorded) → whole (cond is (step log) log) ≡ whole log
answered_keeps true log = step_keeps log.left log.used
answered_keeps false log = refl

nothing_is : (left : List LogEntry) → is_nothing left ≡ true → left ≡ []
nothing_is [] h = refl
nothing_is (e ∷ left) h = absurd cc

pub same_log : (differs : Bool) (left used : List LogEntry) (k : ℕ) → cond (not differs && is_nothing left) None (Some k) ≡ None → reverse used ≡ reverse used ++ left
same_log true left used k h = absurd cc
same_log false [] used k h = sym (append-nil (reverse used))
same_log false (e ∷ left) used k h = absurd cc
