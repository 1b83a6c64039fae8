-- What stands in an output that is written in parts.
use Rattle.std.proofs.Common.{◌≡◌, ℕ, ◌≤◌, List, ◌++◌, length, take, refl, sym, ap, ◌∙◌, arith}
use Rattle.std.proofs.lemmas.List.{length-append, take-take, take_at}

-- after a part that failed, what stood there before an earlier one is there
pub still_there : (old mid new more : List ℕ) → mid ≡ old ++ more → take (length mid) new ≡ mid → take (length old) new ≡ old
still_there old mid new more e h =
    let shorter : length old ≤ length mid = omega (arith, ap length e, length-append old more) in
    sym (take-take (length old) (length mid) new shorter) ∙ ap (take (length old)) (h ∙ e) ∙ take_at old more (length old) refl
