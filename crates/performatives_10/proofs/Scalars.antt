-- What a value is at its first level, in the words of types_10 and in those of fields.
use Rattle.std.proofs.Common.{◌≡◌, ℕ, Bool, true, false, Some, None, Err, refl}
use Rattle.types_10.specs.Tree.{Tree, scalar, list, mapping, array, described, Trees, no_trees, tree}
use Rattle.types_10.specs.Tree as value
use Rattle.types_10.specs.Spelled.{is_scalar, list_in, is_map, each_is_symbol}
use Rattle.types_10.specs.Spelled as spelled
use Rattle.types_10.specs.Fields.{absent, is_absent}
use Rattle.performatives_10.specs.Fields.{Leaf, Need, is_symbol, are_symbols, is_multiple}
use Rattle.performatives_10.specs.Fields.{leaf_in, field_in, typed}
use Rattle.performatives_10.specs.Fields as field
use Rattle.performatives_10.specs.Composites.{ulong_of, list_of}
use Rattle.performatives_10.specs.declared.fault.PerfFault.TheVariants as fault

-- ---- values that hold others

pub not_absent : (t : Tree) → is_scalar t ≡ false → is_absent t ≡ false
not_absent (scalar s) e = absurd cc
not_absent (list ts) e = refl
not_absent (mapping ps) e = refl
not_absent (array ts) e = refl
not_absent (described d t) e = refl

pub no_ulong : (t : Tree) → is_scalar t ≡ false → ulong_of t ≡ None
no_ulong (scalar s) e = absurd cc
no_ulong (list ts) e = refl
no_ulong (mapping ps) e = refl
no_ulong (array ts) e = refl
no_ulong (described d t) e = refl

-- the primitive types that have a code of their own
abbrev pub is_single : Leaf → Bool
is_single field.boolean = true
is_single field.ubyte = true
is_single field.ushort = true
is_single field.uint = true
is_single field.ulong = true
is_single field.binary = true
is_single field.string = true
is_single field.symbol = true
is_single field.symbols = false
is_single field.mapping = false
is_single field.address = false
is_single field.anything = false

none_of : (l : Leaf) (t : Tree) → is_single l ≡ true → is_scalar t ≡ false → leaf_in l t ≡ None
unfolding leaf_in
none_of field.boolean (scalar s) p e = absurd cc
none_of field.boolean (list ts) p e = refl
none_of field.boolean (mapping ps) p e = refl
none_of field.boolean (array ts) p e = refl
none_of field.boolean (described d t) p e = refl
none_of field.ubyte (scalar s) p e = absurd cc
none_of field.ubyte (list ts) p e = refl
none_of field.ubyte (mapping ps) p e = refl
none_of field.ubyte (array ts) p e = refl
none_of field.ubyte (described d t) p e = refl
none_of field.ushort (scalar s) p e = absurd cc
none_of field.ushort (list ts) p e = refl
none_of field.ushort (mapping ps) p e = refl
none_of field.ushort (array ts) p e = refl
none_of field.ushort (described d t) p e = refl
none_of field.uint (scalar s) p e = absurd cc
none_of field.uint (list ts) p e = refl
none_of field.uint (mapping ps) p e = refl
none_of field.uint (array ts) p e = refl
none_of field.uint (described d t) p e = refl
none_of field.ulong (scalar s) p e = absurd cc
none_of field.ulong (list ts) p e = refl
none_of field.ulong (mapping ps) p e = refl
none_of field.ulong (array ts) p e = refl
none_of field.ulong (described d t) p e = refl
none_of field.binary (scalar s) p e = absurd cc
none_of field.binary (list ts) p e = refl
none_of field.binary (mapping ps) p e = refl
none_of field.binary (array ts) p e = refl
none_of field.binary (described d t) p e = refl
none_of field.string (scalar s) p e = absurd cc
none_of field.string (list ts) p e = refl
none_of field.string (mapping ps) p e = refl
none_of field.string (array ts) p e = refl
none_of field.string (described d t) p e = refl
none_of field.symbol (scalar s) p e = absurd cc
none_of field.symbol (list ts) p e = refl
none_of field.symbol (mapping ps) p e = refl
none_of field.symbol (array ts) p e = refl
none_of field.symbol (described d t) p e = refl
none_of field.symbols t p e = absurd cc
none_of field.mapping t p e = absurd cc
none_of field.address t p e = absurd cc
none_of field.anything t p e = absurd cc

-- such a value is no field of these types
pub no_field : (l : Leaf) (need : Need) (k : ℕ) (t : Tree) → is_single l ≡ true → is_scalar t ≡ false → field_in need k t (leaf_in l t) ≡ Err (fault.WrongType k)
unfolding field_in
no_field l need k t p e =
    let not_null : is_absent t ≡ false = not_absent t e in
    let none : leaf_in l t ≡ None = none_of l t p e in
    rw (not_null, none) refl

-- ---- lists, maps and symbols

pub lists : (t : Tree) → list_in t ≡ list_of t
lists (scalar s) = refl
lists (list ts) = refl
lists (mapping ps) = refl
lists (array ts) = refl
lists (described d t) = refl

same_symbol : (t : Tree) → spelled.is_symbol t ≡ is_symbol t
same_symbol (scalar value.null) = refl
same_symbol (scalar (value.boolean x)) = refl
same_symbol (scalar (value.ubyte x)) = refl
same_symbol (scalar (value.byte x)) = refl
same_symbol (scalar (value.ushort x)) = refl
same_symbol (scalar (value.short x)) = refl
same_symbol (scalar (value.uint x)) = refl
same_symbol (scalar (value.int x)) = refl
same_symbol (scalar (value.ulong x)) = refl
same_symbol (scalar (value.long x)) = refl
same_symbol (scalar (value.float x)) = refl
same_symbol (scalar (value.double x)) = refl
same_symbol (scalar (value.decimal32 x)) = refl
same_symbol (scalar (value.decimal64 x)) = refl
same_symbol (scalar (value.decimal128 x)) = refl
same_symbol (scalar (value.char x)) = refl
same_symbol (scalar (value.timestamp x)) = refl
same_symbol (scalar (value.uuid x)) = refl
same_symbol (scalar (value.binary x)) = refl
same_symbol (scalar (value.string x)) = refl
same_symbol (scalar (value.symbol x)) = refl
same_symbol (list ts) = refl
same_symbol (mapping ps) = refl
same_symbol (array ts) = refl
same_symbol (described d t) = refl

same_symbols : (ts : Trees) → each_is_symbol ts ≡ are_symbols ts
same_symbols no_trees = refl
same_symbols (tree t ts) = rw (same_symbol t, same_symbols ts) refl

pub multiples : (t : Tree) → spelled.are_symbols t ≡ is_multiple t
multiples (scalar s) = same_symbol (scalar s)
multiples (list ts) = refl
multiples (mapping ps) = refl
multiples (array ts) = same_symbols ts
multiples (described d t) = refl

pub maps : (t : Tree) → is_map t ≡ true → leaf_in field.mapping t ≡ Some t
unfolding leaf_in
maps (scalar s) e = absurd cc
maps (list ts) e = absurd cc
maps (mapping ps) e = refl
maps (array ts) e = absurd cc
maps (described d t) e = absurd cc

pub no_maps : (t : Tree) → is_map t ≡ false → leaf_in field.mapping t ≡ None
unfolding leaf_in
no_maps (scalar s) e = refl
no_maps (list ts) e = refl
no_maps (mapping ps) e = absurd cc
no_maps (array ts) e = refl
no_maps (described d t) e = refl

-- an address that holds others is absent
pub no_address : (t : Tree) → is_scalar t ≡ false → leaf_in field.address t ≡ Some absent
unfolding leaf_in
no_address (scalar s) e = absurd cc
no_address (list ts) e = refl
no_address (mapping ps) e = refl
no_address (array ts) e = refl
no_address (described d t) e = refl
