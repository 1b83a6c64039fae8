-- What was written over the first bytes of a room.
use Rattle.std.proofs.Common.{◌≡◌, ◌∙◌, ℕ, List, take, drop, sym, ap}
use Rattle.std.proofs.lemmas.List.{take_at}
use Rattle.methods_091.specs.Closing.{IsWrittenOver}

pub written : (text old new : List ℕ) (count : ℕ) → IsWrittenOver text old new count → take count new ≡ text
written text old new count w = ap (take count) w.0 ∙ take_at text (drop count old) count (sym w.1)
