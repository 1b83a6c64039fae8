-- What is written of a performative (AMQP 1.0 1.4, 2.7): null for an absent field and for a boolean
-- that equals its default, and nulls at the end are left out. Any other field with a default is
-- written.
use Rattle.std.specs.Prelude.{ℕ, Bool, true, false, if◌then◌else◌, List, [], ◌∷◌}
use Rattle.types_10.specs.Tree.{Scalar, boolean, Tree, scalar}
use Rattle.types_10.specs.Writing.{value_text}
use Rattle.types_10.specs.Fields.{absent}
use Rattle.performatives_10.specs.Fields.{Need, mandatory, optional, defaults, Row}
use Rattle.performatives_10.specs.Composites.{composite}
use Rattle.performatives_10.specs.Reading.{code_of, rows}
use Rattle.performatives_10.specs.View.{kind_of, fields_of}
use Rattle.performatives_10.specs.declared.performative.Perf.{Perf}

-- a boolean, and the same boolean
abbrev pub is_same_boolean : Scalar → Tree → Bool
is_same_boolean (boolean true) (scalar (boolean true)) = true
is_same_boolean (boolean false) (scalar (boolean false)) = true
is_same_boolean s t = false

-- what is written of a field
abbrev pub written_field : Need → Tree → Tree
written_field mandatory t = t
written_field optional t = t
written_field (defaults s) t = if is_same_boolean s t then absent else t

abbrev pub written : List Row → List Tree → List Tree
written [] xs = []
written (r ∷ rs) [] = []
written (r ∷ rs) (x ∷ xs) = written_field r.1 x ∷ written rs xs

-- the described list that is written
abbrev pub perf_tree : Perf → Tree
perf_tree p = composite (code_of (kind_of p)) (written (rows (kind_of p)) (fields_of p))

abbrev pub perf_text : Perf → List ℕ
perf_text p = value_text (perf_tree p)
