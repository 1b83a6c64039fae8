-- The numbers inside lists that grow.
use Rattle.std.proofs.Common.{List, [], ◌∷◌, ◌++◌}
use Rattle.types_10.specs.Tree.{Tree}
use Rattle.types_10.specs.Ranges.{IsRanged, ListIsRanged, PairsAreRanged}

pub list_push : (ts : List Tree) (t : Tree) → ListIsRanged ts → IsRanged t → ListIsRanged (ts ++ t ∷ [])
list_push [] t h r = (r, tt)
list_push (u ∷ us) t h r = (h.0, list_push us t h.1 r)

pub list_front : (ts us : List Tree) → ListIsRanged (ts ++ us) → ListIsRanged ts
list_front [] us h = tt
list_front (t ∷ ts) us h = (h.0, list_front ts us h.1)

pub pairs_push : (ps : List (Tree × Tree)) (p : Tree × Tree) → PairsAreRanged ps → IsRanged p.0 → IsRanged p.1 → PairsAreRanged (ps ++ p ∷ [])
pairs_push [] p h k t = (k, t, tt)
pairs_push (q ∷ qs) p h k t = (h.0, h.1, pairs_push qs p h.2 k t)
