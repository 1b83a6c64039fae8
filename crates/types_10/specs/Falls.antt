-- What a list, a map or a described value holds is less deep than it is itself: what the models of
-- these types have to show.
use Rattle.std.specs.Prelude.{◌≤◌, max, List, [], ◌∷◌, map}
use Rattle.std.proofs.Common.{arith}
use denote.Param.Weighed.{most}
use Rattle.types_10.specs.Tree.{depth, list_depth, pairs_depth_of}
use Rattle.types_10.specs.View.{value_tree, pair_trees}
use Rattle.types_10.specs.declared.value.Value10.{Value10}
use Rattle.types_10.specs.declared.value.Value10.TheVariants as value
use Rattle.types_10.specs.declared.value.Inner.TheDeep.{deep-Value10}

pub value_falls : (v : Value10) → deep-Value10 v ≤ depth (value_tree v)
value_falls value.Null = omega arith
value_falls (value.Boolean b) = omega arith
value_falls (value.Ubyte n) = omega arith
value_falls (value.Byte z) = omega arith
value_falls (value.Ushort n) = omega arith
value_falls (value.Short z) = omega arith
value_falls (value.Uint n) = omega arith
value_falls (value.Int z) = omega arith
value_falls (value.Ulong n) = omega arith
value_falls (value.Long z) = omega arith
value_falls (value.Float n) = omega arith
value_falls (value.Double n) = omega arith
value_falls (value.Decimal32 n) = omega arith
value_falls (value.Decimal64 n) = omega arith
value_falls (value.Decimal128 s) = omega arith
value_falls (value.Char n) = omega arith
value_falls (value.Timestamp z) = omega arith
value_falls (value.Uuid s) = omega arith
value_falls (value.Binary s) = omega arith
value_falls (value.String s) = omega arith
value_falls (value.Symbol s) = omega arith
value_falls (value.List ts) = omega arith
value_falls (value.Map ps) = omega arith
value_falls (value.Array ts) = omega arith
value_falls (value.Described d t) = omega arith

pub list_falls : (vs : List Value10) → max (most (λ v. deep-Value10 v) vs) 0 ≤ list_depth
    (map value_tree vs)
list_falls [] = omega arith
list_falls (v ∷ vs) = omega (arith, list_falls vs, value_falls v)

pub pairs_fall : (ps : List (Value10 × Value10)) → max (most (λ p. max (deep-Value10 p.0) (max
    (deep-Value10 p.1) 0)) ps) 0 ≤ pairs_depth_of (map pair_trees ps)
pairs_fall [] = omega arith
pairs_fall (p ∷ ps) = omega (arith, pairs_fall ps, value_falls p.0, value_falls p.1)

pub inner_falls : (v : Value10) → max (deep-Value10 v) 0 ≤ depth (value_tree v)
inner_falls v = omega (arith, value_falls v)
