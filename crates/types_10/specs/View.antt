-- A value of the sources as the value that it is (AMQP 1.0 1.6), one level of it: what it holds is
-- seen by its own model.
use Rattle.types_10.specs.Tree.{null, boolean, ubyte, byte, ushort, short, uint, int, ulong, long}
use Rattle.types_10.specs.Tree.{float, double, decimal32, decimal64, decimal128, char, timestamp}
use Rattle.types_10.specs.Tree.{uuid, binary, string, symbol, Tree, scalar, list, mapping, array}
use Rattle.types_10.specs.Tree.{described, trees_of, pairs_of}
use Rattle.types_10.specs.declared.value.Value10.{Value10}
use Rattle.types_10.specs.declared.value.Value10.TheVariants as value

abbrev pub value_tree : Value10 → Tree
value_tree value.Null = scalar null
value_tree (value.Boolean b) = scalar (boolean b)
value_tree (value.Ubyte n) = scalar (ubyte n)
value_tree (value.Byte z) = scalar (byte z)
value_tree (value.Ushort n) = scalar (ushort n)
value_tree (value.Short z) = scalar (short z)
value_tree (value.Uint n) = scalar (uint n)
value_tree (value.Int z) = scalar (int z)
value_tree (value.Ulong n) = scalar (ulong n)
value_tree (value.Long z) = scalar (long z)
value_tree (value.Float n) = scalar (float n)
value_tree (value.Double n) = scalar (double n)
value_tree (value.Decimal32 n) = scalar (decimal32 n)
value_tree (value.Decimal64 n) = scalar (decimal64 n)
value_tree (value.Decimal128 s) = scalar (decimal128 s)
value_tree (value.Char n) = scalar (char n)
value_tree (value.Timestamp z) = scalar (timestamp z)
value_tree (value.Uuid s) = scalar (uuid s)
value_tree (value.Binary s) = scalar (binary s)
value_tree (value.String s) = scalar (string s)
value_tree (value.Symbol s) = scalar (symbol s)
value_tree (value.List ts) = list (trees_of ts)
value_tree (value.Map ps) = mapping (pairs_of ps)
value_tree (value.Array ts) = array (trees_of ts)
value_tree (value.Described d t) = described d t

-- a pair of a map: its key and its value
abbrev pub pair_trees : Value10 × Value10 → Tree × Tree
pair_trees p = (value_tree p.0, value_tree p.1)
