-- The marks of a log, as its byte string grows.
use Rattle.std.proofs.Common.{◌≡◌, ℕ, ◌+◌, ◌≤◌, Some, slice_get, List, [], ◌∷◌, ◌++◌, length, take}
use Rattle.std.proofs.Common.{drop, map, ap, ◌∙◌, subst, arith, get_or, refl, ◌<◌, zero, suc}
use Rattle.std.proofs.lemmas.Option.{slice_get_within, get_or_from_slice_get}
use Rattle.gate_outside.specs.declared.log.Mark.{Mark}
use Rattle.gate_outside.specs.declared.log.Call.{Call}
use Rattle.gate_outside.specs.LogState.{entry_of}
use Rattle.gate_outside.specs.Marks.{entry_at, AreWithin}
use Rattle.std.proofs.lemmas.List.{drop-append-le, take-append-le, length-drop, take_all, drop_at}
use Rattle.std.proofs.lemmas.List.{map-append}

-- a part of a text stands there still in a longer one
pub part-append : (text more : List ℕ) (start len : ℕ) → start + len ≤ length text
    → take len (drop start (text ++ more)) ≡ take len (drop start text)
part-append text more start len h =
    let first : start ≤ length text = omega arith in
    let rest : len ≤ length (drop start text) = omega (arith, length-drop start text) in
    ap (λ (s : List ℕ). take len s) (drop-append-le start text more first) ∙ take-append-le len (drop start text) more rest

-- what is added is the part at its place
pub part-added : (text more : List ℕ) → take (length more) (drop (length text) (text ++ more)) ≡ more
part-added text more =
    ap (λ (s : List ℕ). take (length more) s) (drop_at text more (length text) refl) ∙ take_all (length more) more (omega arith)

-- marks that are within a text have the same entries over a longer one
pub entries-append : (text more : List ℕ) (marks : List Mark) → AreWithin (length text) marks
    → map (entry_at (text ++ more)) marks ≡ map (entry_at text) marks
entries-append text more [] h = refl
entries-append text more (mark ∷ marks) h =
    let first = ap (entry_of mark.call) (part-append text more mark.start mark.len h.0) in
    let rest = entries-append text more marks h.1 in cc

-- marks are within more bytes too
pub AreWithin-more : (n m : ℕ) (marks : List Mark) → n ≤ m → AreWithin n marks → AreWithin m marks
AreWithin-more n m [] l h = tt
AreWithin-more n m (mark ∷ marks) l h = (omega (arith, h.0), AreWithin-more n m marks l h.1)

pub AreWithin-push : (n : ℕ) (marks : List Mark) (mark : Mark) → AreWithin n marks → mark.start + mark.len ≤ n
    → AreWithin n (marks ++ mark ∷ [])
AreWithin-push n [] mark h l = (l, tt)
AreWithin-push n (m ∷ marks) mark h l = (h.0, AreWithin-push n marks mark h.1 l)

-- a mark of the list is within
pub AreWithin-at : (n : ℕ) (marks : List Mark) (k : ℕ) (d : Mark) → AreWithin n marks → k < length marks
    → (get_or marks k d).start + (get_or marks k d).len ≤ n
AreWithin-at n [] k d h l = absurd (omega arith)
AreWithin-at n (mark ∷ marks) zero d h l = h.0
AreWithin-at n (mark ∷ marks) (suc k) d h l = AreWithin-at n marks k d h.1 (omega arith)

pub AreWithin-get : (n : ℕ) (marks : List Mark) (k : ℕ) (mark : Mark) → AreWithin n marks → slice_get marks k ≡ Some mark
    → mark.start + mark.len ≤ n
AreWithin-get n marks k mark h e =
    let k_in : k < length marks = slice_get_within marks k mark e in
    subst (λ (m : Mark). m.start + m.len ≤ n) (get_or_from_slice_get marks k mark mark e) (AreWithin-at n marks k mark h k_in)

-- the entries with that of one more call
pub entries-push : (text more : List ℕ) (marks : List Mark) (call : Call) → AreWithin (length text) marks
    → map (entry_at (text ++ more)) (marks ++ record { call = call; start = length text; len = length more } ∷ [])
    ≡ map (entry_at text) marks ++ entry_of call more ∷ []
entries-push text more marks call h =
    let mark : Mark = record { call = call; start = length text; len = length more } in
    let parts = map-append (entry_at (text ++ more)) marks (mark ∷ []) in
    let before = entries-append text more marks h in
    let last = ap (entry_of call) (part-added text more) in
    cc (parts, before, last)
