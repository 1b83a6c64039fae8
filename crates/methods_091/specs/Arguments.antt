-- The arguments of a method as values, in the terms of the standard (AMQP 0-9-1 4.2.5).
use Rattle.std.specs.Prelude.{ℕ, Bool, List}
use Rattle.tables_091.specs.Tree.{Tree}
use Rattle.methods_091.specs.Rows.{ArgKind}

-- one constructor for each kind of argument; of a reserved argument only its kind is kept
pub data Arg : Type 0 where
  octet : ℕ → Arg
  short : ℕ → Arg
  long : ℕ → Arg
  longlong : ℕ → Arg
  shortstr : List ℕ → Arg
  longstr : List ℕ → Arg
  fields : List (List ℕ × Tree) → Arg
  bits : List Bool → Arg
  reserved : ArgKind → Arg
