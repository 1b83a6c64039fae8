-- An output to which the entries of a log are added one after another.
use Rattle.std.proofs.Common.{◌≡◌, ℕ, zero, suc, ◌+◌, ◌<◌, List, [], ◌∷◌, ◌++◌, length, take}
use Rattle.std.proofs.Common.{Option, Some, None, slice_get, refl, sym, ap, ◌∙◌, append_assoc}
use Rattle.std.proofs.Common.{append-nil, arith}
use Rattle.std.specs.List.{flat_map}
use Rattle.gate_outside.specs.declared.log.LogEntry.{LogEntry}
use Rattle.gate_capture.specs.Spelling.{spelling_of}
use Rattle.gate_capture.specs.Captures.{start, capture}

pub there_is : (log : List LogEntry) (k : ℕ) → k < length log → slice_get log k ≡ None → ⊥
there_is [] k h none = absurd (omega arith)
there_is (x ∷ log) zero h none = absurd cc
there_is (x ∷ log) (suc k) h none = there_is log k (omega arith) none

spelled_next : (log : List LogEntry) (k : ℕ) (e : LogEntry) → slice_get log k ≡ Some e → flat_map spelling_of (take (suc k) log) ≡ flat_map spelling_of (take k log) ++ spelling_of e
spelled_next [] zero e h = absurd cc
spelled_next [] (suc k) e h = absurd cc
spelled_next (x ∷ log) zero e h = let same : x ≡ e = cc in append-nil (spelling_of x) ∙ ap spelling_of same
spelled_next (x ∷ log) (suc k) e h =
    ap (λ (s : List ℕ). spelling_of x ++ s) (spelled_next log k e h) ∙ sym (append_assoc (spelling_of x) (flat_map spelling_of (take k log)) (spelling_of e))

pub append_next : (old mid new words : List ℕ) (log : List LogEntry) (k : ℕ) (e : LogEntry) → mid ≡ old ++ capture words (take k log) → slice_get log k ≡ Some e → new ≡ mid ++ spelling_of e
    → new ≡ old ++ capture words (take (k + 1) log)
append_next old mid new words log k e so_far here added =
    let next : k + 1 ≡ suc k = omega arith in
    let text : capture words (take (k + 1) log) ≡ capture words (take k log) ++ spelling_of e =
    ap (λ (n : ℕ). capture words (take n log)) next ∙ ap (λ (s : List ℕ). start words ++ s) (spelled_next log k e here)
    ∙ sym (append_assoc (start words) (flat_map spelling_of (take k log)) (spelling_of e)) in
    added ∙ ap (λ (s : List ℕ). s ++ spelling_of e) so_far ∙ append_assoc old (capture words (take k log)) (spelling_of e) ∙ ap (λ (s : List ℕ). old ++ s) (sym text)
