-- Reads one after another read what was left in order.
use Rattle.std.proofs.Common.{◌≡◌, ℕ, ◌<◌, ◌≤◌, List, [], ◌++◌, length, Option, None, Some, inl}
use Rattle.std.proofs.Common.{inr, refl, sym, ◌∙◌, ap, subst, arith, append_assoc}
use Rattle.gate_outside.specs.declared.streams.Drawn.{Drawn}
use Rattle.gate_outside.specs.declared.streams.Drawn.TheVariants.{Bytes, Ended}
use Rattle.gate_outside.specs.Counts.{Rose}
use Rattle.gate_command.specs.Input.{Reads, AddsDrawn, IsWhole}

-- nothing was read yet
pub reads_none : (left : Option (List ℕ)) → Reads left left []
reads_none None = tt
reads_none (Some left) = refl

-- one read, and another
reads_on : (left left' left'' : Option (List ℕ)) (bytes piece : List ℕ) → Reads left left' bytes → Reads left' left'' piece → Reads left left'' (bytes ++ piece)
reads_on left left' None bytes piece r s = tt
reads_on left None (Some left'') bytes piece r s = absurd s
reads_on None (Some left') (Some left'') bytes piece r s = absurd r
reads_on (Some left) (Some left') (Some left'') bytes piece r s = r ∙ ap (λ (rest : List ℕ). bytes ++ rest) s ∙ sym (append_assoc bytes piece left'')

reads_to_end : (left left' left'' : Option (List ℕ)) (bytes : List ℕ) → Reads left left' bytes → Reads left' left'' [] → Reads left left'' bytes
reads_to_end left left' None bytes r s = tt
reads_to_end left None (Some left'') bytes r s = absurd s
reads_to_end None (Some left') (Some left'') bytes r s = absurd r
reads_to_end (Some left) (Some left') (Some left'') bytes r s = r ∙ ap (λ (rest : List ℕ). bytes ++ rest) s

-- a read more of an input
pub read_more : (answer : Drawn) (n : ℕ) (left left' left'' : Option (List ℕ)) (bytes bytes' : List ℕ) → answer ≡ Bytes n → Reads left left' bytes → AddsDrawn answer left' left'' bytes bytes'
    → Reads left left'' bytes'
read_more answer n left left' left'' bytes bytes' is r d =
    let more : AddsDrawn (Bytes n) left' left'' bytes bytes' = subst (λ (a : Drawn). AddsDrawn a left' left'' bytes bytes') is d in
    rw more.3 (reads_on left left' left'' bytes more.0 r more.2)

-- and its end
pub read_whole : (answer : Drawn) (left left' left'' : Option (List ℕ)) (seen bytes bytes' : List ℕ) → answer ≡ Ended → Reads left left' bytes → AddsDrawn answer left' left'' bytes bytes'
    → seen ≡ bytes → length seen < 268435456 → IsWhole left left'' bytes'
read_whole answer left left' left'' seen bytes bytes' is r d same short =
    let end : AddsDrawn Ended left' left'' bytes bytes' = subst (λ (a : Drawn). AddsDrawn a left' left'' bytes bytes') is d in
    record {
      read = rw end.2 (reads_to_end left left' left'' bytes r end.1);
      over = end.0;
      short = rw (end.2, ← same) short;
    }

-- a count that rose later rose
pub rose_later : (a b c : ℕ) → a ≤ b → Rose b c → Rose a c
rose_later a b c below (inl more) = inl (omega (arith, below, more))
rose_later a b c below (inr full) = inr full
