-- What a sink holds after two texts were offered in turn.
use Rattle.std.proofs.Common.{ℕ, List, [], ◌++◌, Option, None, Some, append_assoc, append-nil, sym}
use Rattle.std.proofs.Common.{ap, ◌∙◌}
use Rattle.gate_outside.specs.Streams.{Appends, AppendsFront}
use Rattle.gate_outside.proofs.Appending.{appends_then}

-- a front part of the first text is one of both
pub front_more : (a b : Option (List ℕ)) (xs ys : List ℕ) → AppendsFront a b xs → AppendsFront a b (xs ++ ys)
front_more a b xs ys f = record {
  front = f.front;
  back = f.back ++ ys;
  parts = ap (λ (s : List ℕ). s ++ ys) f.parts ∙ append_assoc f.front f.back ys;
  added = f.added;
}

-- the first text, and a front part of the second
pub front_then : (a b c : Option (List ℕ)) (xs ys : List ℕ) → Appends a b xs → AppendsFront b c ys → AppendsFront a c (xs ++ ys)
front_then a b c xs ys p f = record {
  front = xs ++ f.front;
  back = f.back;
  parts = ap (λ (s : List ℕ). xs ++ s) f.parts ∙ sym (append_assoc xs f.front f.back);
  added = appends_then a b c xs f.front p f.added;
}

-- a whole text is a front part of itself
pub front_whole : (a b : Option (List ℕ)) (xs : List ℕ) → Appends a b xs → AppendsFront a b xs
front_whole a b xs p = record { front = xs; back = []; parts = sym (append-nil xs); added = p }

-- nothing was added
pub appends_none : (a : Option (List ℕ)) → Appends a a []
appends_none None = tt
appends_none (Some held) = sym (append-nil held)
