use Rattle.std.proofs.Common.{leb, sym, ◌∙◌}
use Rattle.tables_091.specs.Tree.{list_depth, entries_depth}
use Rattle.tables_091.specs.View.{field_tree, entry_member}
use Rattle.property_map.proofs.Places.{found_at, none_past, list_next, list_ends, list_over}
use Rattle.property_map.proofs.Places.{table_next, table_ends, table_over}
use Rattle.property_map.proofs.headers.+within.Goals as goal

pub list_is_within-loop-k-preserved : goal.list_is_within-loop-k-preserved
list_is_within-loop-k-preserved t c =
    let is = found_at (λ f. field_tree f.now) c.get.result c.in-Some.field c.args.list.now c.loop-k.k c.in-Some.is c.get.ensures in
    list_next c.args.list.now c.loop-k.k (field_tree c.in-Some.field.now) c.args.most (leb (list_depth c.args.list.now) c.args.most) is (sym c.is_within.ensures ∙ c.if-not-is_within.false) c.loop-k.invariant

pub list_is_within-returns-then-not-is_within : goal.list_is_within-returns-then-not-is_within
list_is_within-returns-then-not-is_within t c =
    let is = found_at (λ f. field_tree f.now) c.get.result c.in-Some.field c.args.list.now c.loop-k.k c.in-Some.is c.get.ensures in
    list_ends c.args.list.now c.loop-k.k (field_tree c.in-Some.field.now) c.args.most (leb (list_depth c.args.list.now) c.args.most) is (sym c.is_within.ensures ∙ c.if-not-is_within.true) c.loop-k.invariant

pub list_is_within-returns-in_default : goal.list_is_within-returns-in_default
list_is_within-returns-in_default t c =
    list_over c.args.list.now c.loop-k.k c.args.most (leb (list_depth c.args.list.now) c.args.most) (none_past (λ f. field_tree f.now) c.get.result c.args.list.now c.loop-k.k c.in_default.is c.get.ensures) c.loop-k.invariant

pub table_is_within-loop-k-preserved : goal.table_is_within-loop-k-preserved
table_is_within-loop-k-preserved t c =
    let is = found_at (λ e. entry_member e.now) c.get.result c.in-Some.field-0 c.args.table.now c.loop-k.k c.in-Some.is c.get.ensures in
    table_next c.args.table.now c.loop-k.k (entry_member c.in-Some.field-0.now) c.args.most (leb (entries_depth c.args.table.now) c.args.most) is (sym c.is_within.ensures ∙ c.if-not-is_within.false) c.loop-k.invariant

pub table_is_within-returns-then-not-is_within : goal.table_is_within-returns-then-not-is_within
table_is_within-returns-then-not-is_within t c =
    let is = found_at (λ e. entry_member e.now) c.get.result c.in-Some.field-0 c.args.table.now c.loop-k.k c.in-Some.is c.get.ensures in
    table_ends c.args.table.now c.loop-k.k (entry_member c.in-Some.field-0.now) c.args.most (leb (entries_depth c.args.table.now) c.args.most) is (sym c.is_within.ensures ∙ c.if-not-is_within.true) c.loop-k.invariant

pub table_is_within-returns-in_default : goal.table_is_within-returns-in_default
table_is_within-returns-in_default t c =
    table_over c.args.table.now c.loop-k.k c.args.most (leb (entries_depth c.args.table.now) c.args.most) (none_past (λ e. entry_member e.now) c.get.result c.args.table.now c.loop-k.k c.in_default.is c.get.ensures) c.loop-k.invariant
