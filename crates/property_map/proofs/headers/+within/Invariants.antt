use Rattle.std.proofs.Common.{◌≡◌, ◌+◌, ◌-◌, ◌*◌, length, drop}
use Rattle.std.specs.Prelude.{nat_le}
use Rattle.tables_091.specs.Tree.{list_depth, entries_depth}
use Rattle.property_map.proofs.headers.+within.Given as goal

abbrev pub decreases-is_within : goal.decreases-is_within
decreases-is_within l = 2 * l.most

abbrev pub decreases-list_is_within : goal.decreases-list_is_within
decreases-list_is_within l = 2 * l.most + 1

abbrev pub decreases-table_is_within : goal.decreases-table_is_within
decreases-table_is_within l = 2 * l.most + 1

-- the rest decides
abbrev pub invariant-list_is_within-loop-k : goal.invariant-list_is_within-loop-k
invariant-list_is_within-loop-k l = nat_le (list_depth (drop l.k l.list)) l.most ≡ nat_le (list_depth l.list) l.most

abbrev pub decreases-list_is_within-loop-k : goal.decreases-list_is_within-loop-k
decreases-list_is_within-loop-k l = length l.list - l.k

abbrev pub invariant-table_is_within-loop-k : goal.invariant-table_is_within-loop-k
invariant-table_is_within-loop-k l = nat_le (entries_depth (drop l.k l.table)) l.most ≡ nat_le (entries_depth l.table) l.most

abbrev pub decreases-table_is_within-loop-k : goal.decreases-table_is_within-loop-k
decreases-table_is_within-loop-k l = length l.table - l.k
