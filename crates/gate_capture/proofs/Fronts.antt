-- What a sink took of texts that are written one after another.
use Rattle.std.proofs.Common.{ℕ, List, ◌++◌, Option, append_assoc, ap, ◌∙◌, sym}
use Rattle.gate_outside.specs.Streams.{Appends, AppendsFront}
use Rattle.gate_outside.proofs.Appending.{appends_then}

-- a front part of the first text is a front part of both
pub front_of_first : {a b : Option (List ℕ)} {xs : List ℕ} (ys : List ℕ) → AppendsFront a b xs → AppendsFront a b (xs ++ ys)
front_of_first ys h = record {
  front = h.front;
  back = h.back ++ ys;
  parts = ap (λ (s : List ℕ). s ++ ys) h.parts ∙ append_assoc h.front h.back ys;
  added = h.added;
}

-- the first text and a front part of the second are a front part of both
pub front_of_second : {a b c : Option (List ℕ)} (xs : List ℕ) {ys : List ℕ} → Appends a b xs → AppendsFront b c ys → AppendsFront a c (xs ++ ys)
front_of_second {a} {b} {c} xs p h = record {
  front = xs ++ h.front;
  back = h.back;
  parts = ap (λ (s : List ℕ). xs ++ s) h.parts ∙ sym (append_assoc xs h.front h.back);
  added = appends_then a b c xs h.front p h.added;
}
