-- The numbers inside lists that grow.
use Rattle.std.proofs.Common.{ℕ, List, [], ◌∷◌, ◌++◌}
use Rattle.tables_091.specs.Tree.{Tree}
use Rattle.tables_091.specs.Ranges.{IsRanged, FieldsAreRanged, AreRanged}

pub fields_push : (ts : List Tree) (t : Tree) → FieldsAreRanged ts → IsRanged t → FieldsAreRanged (ts ++ t ∷ [])
fields_push [] t h r = (r, tt)
fields_push (u ∷ us) t h r = (h.0, fields_push us t h.1 r)

pub entries_push : (ms : List (List ℕ × Tree)) (m : List ℕ × Tree) → AreRanged ms → IsRanged m.1 → AreRanged (ms ++ m ∷ [])
entries_push [] m h r = (tt, r, tt)
entries_push (n ∷ ns) m h r = (h.0, h.1, entries_push ns m h.2 r)
