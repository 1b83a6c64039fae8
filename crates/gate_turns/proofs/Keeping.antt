-- What a part of a turn keeps, in one step after another.
use Rattle.std.proofs.Common.{◌≡◌, ◌∙◌, ℕ, List, arith}
use Rattle.gate_outside.specs.declared.ports.End.{End}
use Rattle.gate_outside.specs.declared.ports.Ports as ports
use Rattle.gate_turns.specs.declared.live.Live.{Live}
use Rattle.gate_turns.specs.Parts.{KeepsEnds, KeepsOthers, KeepsPorts}

pub ports_then : {P : Type 0} {g : ports.Ghosts P} {a b d : P} → KeepsPorts g a b → KeepsPorts g b d → KeepsPorts g a d
ports_then {P} {g} {a} {b} {d} h k =
    record { pairs = k.pairs ∙ h.pairs; last = k.last ∙ h.last; later = omega (arith, h.later, k.later) }

others_then : (p q : ℕ) (e f j : List (ℕ × End)) → q ≡ p → KeepsOthers p e f → KeepsOthers q f j → KeepsOthers p e j
others_then p q e f j same h k = λ r end other. k r end (λ is. other (is ∙ same)) ∙ h r end other

pub ends_then : {A : Type 0} {a b d : Live A} {e f j : List (ℕ × End)} → KeepsEnds a b e f → KeepsEnds b d f j → KeepsEnds a d e j
ends_then {A} {a} {b} {d} {e} {f} {j} h k = record {
  number = k.number ∙ h.number;
  open_ends = k.open_ends;
  others = others_then a.number b.number e f j h.number h.others k.others;
}
