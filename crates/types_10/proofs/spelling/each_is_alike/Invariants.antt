use Rattle.std.proofs.Common.{◌↔◌, map, drop}
use Rattle.types_10.specs.Tree.{trees_of}
use Rattle.types_10.specs.View.{value_tree}
use Rattle.types_10.specs.Writing.{EachIsAlike}
use Rattle.types_10.proofs.spelling.each_is_alike.Given as goal

-- the rest decides
abbrev pub invariant-loop-other : goal.invariant-loop-other
invariant-loop-other l =
    EachIsAlike (value_tree l.first) (trees_of (map value_tree (drop l.other-index l.others))) ↔ EachIsAlike (value_tree l.first) (trees_of (map value_tree l.others))
