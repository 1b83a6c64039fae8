-- What is told of a pair's newest entry.
use Rattle.std.proofs.Common.{◌≡◌, ℕ, Bool, true, false, not, List, [], ◌∷◌, ◌++◌, Option, Ok, Err}
use Rattle.std.proofs.Common.{refl, sym}
use Rattle.gate_outside.specs.Streams.{Appends, AppendsFront}
use Rattle.gate_outside.proofs.Appending.{appends_then}
use Rattle.gate_relay.specs.Entries.{is_empty}
use Rattle.gate_runs.specs.Report.{closed_lines}
use Rattle.gate_turns.specs.Parts.{TellsBy, memory_lines}
use Rattle.gate_turns.specs.declared.tally.SinkFault.TheVariants.{Out}
use Rattle.gate_turns.proofs.Fronts.{front_more, front_then}

-- texts of which one has something
pub some_front : (xs ys : List ℕ) → is_empty xs ≡ false → is_empty (xs ++ ys) ≡ false
some_front [] ys e = absurd cc
some_front (x ∷ xs) ys e = refl

pub some_back : (xs ys : List ℕ) → is_empty ys ≡ false → is_empty (xs ++ ys) ≡ false
some_back [] ys e = e
some_back (x ∷ xs) ys e = refl

pub memory_some : (ran_out : Bool) (p : ℕ) → ran_out ≡ true → is_empty (memory_lines ran_out p) ≡ false
memory_some true p e = refl
memory_some false p e = absurd cc

pub closed_some : (gone : Bool) (p : ℕ) → gone ≡ true → is_empty (closed_lines p (not gone)) ≡ false
closed_some true p e = refl
closed_some false p e = absurd cc

-- both texts were taken; out failed at the first, or at the second
pub told_both : (a b c : Option (List ℕ)) (xs ys : List ℕ) → Appends a b xs → Appends b c ys → TellsBy (Ok tt) a c (xs ++ ys)
told_both a b c xs ys p q = appends_then a b c xs ys p q

pub told_first : (a b : Option (List ℕ)) (xs ys : List ℕ) → AppendsFront a b xs → is_empty xs ≡ false → TellsBy (Err Out) a b (xs ++ ys)
told_first a b xs ys f e = (front_more a b xs ys f, some_front xs ys e)

pub told_second : (a b c : Option (List ℕ)) (xs ys : List ℕ) → Appends a b xs → AppendsFront b c ys → is_empty ys ≡ false → TellsBy (Err Out) a c (xs ++ ys)
told_second a b c xs ys p f e = (front_then a b c xs ys p f, some_back xs ys e)

not_not : (b : Bool) → not (not b) ≡ b
not_not true = refl
not_not false = refl

-- out failed at the line of a pair that is closed
pub shut_second : (p : ℕ) (has : Bool) (a b c : Option (List ℕ)) (lines : List ℕ) → Appends a b lines → AppendsFront b c (closed_lines p (not (not has))) → not has ≡ true
    → TellsBy (Err Out) a c (lines ++ closed_lines p has)
shut_second p has a b c lines told front gone =
    told_second a b c lines (closed_lines p has) told (rw (sym (not_not has)) front) (rw (sym (not_not has)) (closed_some (not has) p gone))
