-- The properties of a content as values, in the terms of the standard (AMQP 0-9-1 4.2.5).
use Rattle.std.specs.Prelude.{ℕ, List, Option}
use Rattle.tables_091.specs.Tree.{Tree}

-- one constructor for each kind of property
pub data Property : Type 0 where
  octet : ℕ → Property
  longlong : ℕ → Property
  shortstr : List ℕ → Property
  fields : List (List ℕ × Tree) → Property

-- properties in the order of their rows; None for one that isn't there
abbrev pub Properties : Type 0
Properties = List (Option Property)

-- the size of a body, and the properties
abbrev pub Parts : Type 0
Parts = ℕ × Properties
