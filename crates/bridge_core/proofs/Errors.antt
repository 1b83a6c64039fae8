-- The condition of an error as it stands in a close.
use Rattle.std.proofs.Common.{◌≡◌, List, [], ◌∷◌, Some, refl}
use Rattle.types_10.specs.Tree.{Tree, described, list, scalar, symbol, trees_of, ulong}
use Rattle.types_10.specs.Fields.{in_front, trim, a_string, maybe}
use Rattle.performatives_10.specs.Rows.{error_code}
use Rattle.performatives_10.specs.View.{error_tree}
use Rattle.performatives_10.specs.declared.performative.Error10.{Error10}
use Rattle.gate_model.specs.Upstream.{condition_in}

pub condition_is : (e : Error10) → condition_in (maybe error_tree (Some e)) ≡ Some e.condition
condition_is e = by (trim (rest e))
  where
    rest : Error10 → List Tree
    rest e = maybe a_string e.description ∷ []

    by : (ts : List Tree) → condition_in (described (scalar (ulong error_code)) (list (trees_of (in_front (scalar (symbol e.condition)) ts)))) ≡ Some e.condition
    by [] = refl
    by (t ∷ ts) = refl
