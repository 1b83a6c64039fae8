-- A performative as contracts see it (AMQP 1.0 2.7, 5.3.3).
use Rattle.std.specs.Prelude.{ℕ, List}
use Rattle.types_10.specs.Tree.{Tree}
use Rattle.performatives_10.specs.Reading.{code_of}
use Rattle.performatives_10.specs.View.{kind_of, fields_of}
use Rattle.performatives_10.specs.declared.performative.Perf.{Perf}

-- the code of its descriptor and its fields
abbrev pub Parts : Type 0
Parts = ℕ × List Tree

unfoldable pub parts_of : Perf → Parts
parts_of p = (code_of (kind_of p), fields_of p)
