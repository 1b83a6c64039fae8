use Rattle.std.proofs.Common.{◌≡◌, ◌+◌, ℕ, sym, ap, ◌∙◌, arith, length}
use Rattle.std.proofs.lemmas.Bool.Decides.{nat_tests}
use Rattle.std.proofs.lemmas.Result.{err_from_is_err_and}
use Rattle.tables_091.specs.Tree.{trees_of, members_of}
use Rattle.tables_091.specs.View.{field_tree, entry_member}
use Rattle.property_map.specs.Room.{tree_len, trees_len, members_len, left_of}
use Rattle.property_map.proofs.Places.{found_at, none_past, list_holds, table_holds}
use Rattle.property_map.proofs.Rooms.{list_left, list_at, list_past, table_left, table_at}
use Rattle.property_map.proofs.Rooms.{table_past, left_next, left_stop, left_over}
use Rattle.property_map.proofs.room.+room.Goals.{left_of_list-else-loop-k-test}
use Rattle.property_map.proofs.room.+room.Goals.{left_of_list-then-loop-k-test+in_default}
use Rattle.property_map.proofs.room.+room.Goals.{left_of_entries-else-loop-k-test}
use Rattle.property_map.proofs.room.+room.Goals.{left_of_entries-then-loop-k-test+in_default}
use Rattle.property_map.proofs.room.+room.Goals as goal

-- ---- fields

pub left_of_list-left_of_field-requires : goal.left_of_list-left_of_field-requires
left_of_list-left_of_field-requires t c =
    let is = found_at (λ f. field_tree f.now) c.get.result c.in-Some.field c.args.list.now c.loop-k.k c.in-Some.is c.get.ensures in
    (omega (arith, c.decreases, list_holds c.args.list.now c.loop-k.k (field_tree c.in-Some.field.now) is), tt)

pub left_of_list-returns-in_err-left-2 : goal.left_of_list-returns-in_err-left-2
left_of_list-returns-in_err-left-2 t c =
    let p = err_from_is_err_and c.from_residual-in_err-left-2.result c.from_residual-in_err-left-2.ensures.1 in
    let is = found_at (λ f. field_tree f.now) c.get.result c.in-Some.field c.args.list.now c.loop-k.k c.in-Some.is c.get.ensures in
    rw (p.1, p.2)
    (left_stop c.in_err-left-2.field-0.0 c.loop-k.left (tree_len (field_tree c.in-Some.field.now)) (list_left c.args.list.now (c.loop-k.k + 1)) (left_of c.args.room (5 + trees_len (trees_of c.args.list.now))) c.in_err-left-2.ensures
    (sym (ap (λ (n : ℕ). left_of c.loop-k.left n) (list_at c.args.list.now c.loop-k.k (field_tree c.in-Some.field.now) is)) ∙ c.loop-k.invariant))

pub left_of_list-loop-k-preserved : goal.left_of_list-loop-k-preserved
left_of_list-loop-k-preserved t c =
    let is = found_at (λ f. field_tree f.now) c.get.result c.in-Some.field c.args.list.now c.loop-k.k c.in-Some.is c.get.ensures in
    left_next c.loop-k.left c.in_ok-left-2.left (tree_len (field_tree c.in-Some.field.now)) (list_left c.args.list.now (c.loop-k.k + 1)) (left_of c.args.room (5 + trees_len (trees_of c.args.list.now))) c.in_ok-left-2.ensures
    (sym (ap (λ (n : ℕ). left_of c.loop-k.left n) (list_at c.args.list.now c.loop-k.k (field_tree c.in-Some.field.now) is)) ∙ c.loop-k.invariant)

pub left_of_list-returns : goal.left_of_list-returns
left_of_list-returns t c = elim c.loop-k-test.branch [
  | left_of_list-else-loop-k-test w ↦
      left_over c.loop-k.left (list_left c.args.list.now c.loop-k.k) (left_of c.args.room (5 + trees_len (trees_of c.args.list.now))) (list_past c.args.list.now c.loop-k.k (grind (arith, nat_tests, w.loop-k-test.false, c.len.ensures))) c.loop-k.invariant
  | left_of_list-then-loop-k-test+in_default w ↦
      left_over c.loop-k.left (list_left c.args.list.now c.loop-k.k) (left_of c.args.room (5 + trees_len (trees_of c.args.list.now)))
      (list_past c.args.list.now c.loop-k.k (none_past (λ f. field_tree f.now) w.get.result c.args.list.now c.loop-k.k w.in_default.is w.get.ensures)) c.loop-k.invariant
]

-- ---- entries

pub left_of_entries-returns-in_err-behind_name : goal.left_of_entries-returns-in_err-behind_name
left_of_entries-returns-in_err-behind_name t c =
    let p = err_from_is_err_and c.from_residual-in_err-behind_name.result c.from_residual-in_err-behind_name.ensures.1 in
    let is = found_at (λ e. entry_member e.now) c.get.result c.in-Some.field-0 c.args.table.now c.loop-k.k c.in-Some.is c.get.ensures in
    let named = rw c.as_slice.ensures at c.in_err-behind_name.ensures in
    rw (p.1, p.2)
    (left_stop c.in_err-behind_name.field-0.0 c.loop-k.left (1 + length c.in-Some.field-0.now.0) (tree_len (field_tree c.in-Some.field-0.now.1) + table_left c.args.table.now (c.loop-k.k + 1)) (left_of c.args.room (c.args.front + members_len (members_of c.args.table.now))) named
    (sym (ap (λ (n : ℕ). left_of c.loop-k.left n) (table_at c.args.table.now c.loop-k.k (entry_member c.in-Some.field-0.now) is)) ∙ c.loop-k.invariant))

pub left_of_entries-left_of_field-requires : goal.left_of_entries-left_of_field-requires
left_of_entries-left_of_field-requires t c =
    let is = found_at (λ e. entry_member e.now) c.get.result c.in-Some.field-0 c.args.table.now c.loop-k.k c.in-Some.is c.get.ensures in
    (omega (arith, c.decreases, table_holds c.args.table.now c.loop-k.k (entry_member c.in-Some.field-0.now) is), tt)

pub left_of_entries-returns-in_err-left-2 : goal.left_of_entries-returns-in_err-left-2
left_of_entries-returns-in_err-left-2 t c =
    let p = err_from_is_err_and c.from_residual-in_err-left-2.result c.from_residual-in_err-left-2.ensures.1 in
    let is = found_at (λ e. entry_member e.now) c.get.result c.in-Some.field-0 c.args.table.now c.loop-k.k c.in-Some.is c.get.ensures in
    let named = rw c.as_slice.ensures at c.in_ok-behind_name.ensures in
    let total = left_of c.args.room (c.args.front + members_len (members_of c.args.table.now)) in
    let rest = tree_len (field_tree c.in-Some.field-0.now.1) + table_left c.args.table.now (c.loop-k.k + 1) in
    let so_far : left_of c.in_ok-behind_name.behind_name rest ≡ total =
    left_next c.loop-k.left c.in_ok-behind_name.behind_name (1 + length c.in-Some.field-0.now.0) rest total named
    (sym (ap (λ (n : ℕ). left_of c.loop-k.left n) (table_at c.args.table.now c.loop-k.k (entry_member c.in-Some.field-0.now) is)) ∙ c.loop-k.invariant) in
    rw (p.1, p.2) (left_stop c.in_err-left-2.field-0.0 c.in_ok-behind_name.behind_name (tree_len (field_tree c.in-Some.field-0.now.1)) (table_left c.args.table.now (c.loop-k.k + 1)) total c.in_err-left-2.ensures so_far)

pub left_of_entries-loop-k-preserved : goal.left_of_entries-loop-k-preserved
left_of_entries-loop-k-preserved t c =
    let is = found_at (λ e. entry_member e.now) c.get.result c.in-Some.field-0 c.args.table.now c.loop-k.k c.in-Some.is c.get.ensures in
    let named = rw c.as_slice.ensures at c.in_ok-behind_name.ensures in
    let total = left_of c.args.room (c.args.front + members_len (members_of c.args.table.now)) in
    let rest = tree_len (field_tree c.in-Some.field-0.now.1) + table_left c.args.table.now (c.loop-k.k + 1) in
    let so_far : left_of c.in_ok-behind_name.behind_name rest ≡ total =
    left_next c.loop-k.left c.in_ok-behind_name.behind_name (1 + length c.in-Some.field-0.now.0) rest total named
    (sym (ap (λ (n : ℕ). left_of c.loop-k.left n) (table_at c.args.table.now c.loop-k.k (entry_member c.in-Some.field-0.now) is)) ∙ c.loop-k.invariant) in
    left_next c.in_ok-behind_name.behind_name c.in_ok-left-2.left (tree_len (field_tree c.in-Some.field-0.now.1)) (table_left c.args.table.now (c.loop-k.k + 1)) total c.in_ok-left-2.ensures so_far

pub left_of_entries-returns : goal.left_of_entries-returns
left_of_entries-returns t c = elim c.loop-k-test.branch [
  | left_of_entries-else-loop-k-test w ↦
      left_over c.loop-k.left (table_left c.args.table.now c.loop-k.k) (left_of c.args.room (c.args.front + members_len (members_of c.args.table.now))) (table_past c.args.table.now c.loop-k.k (grind (arith, nat_tests, w.loop-k-test.false, c.len.ensures))) c.loop-k.invariant
  | left_of_entries-then-loop-k-test+in_default w ↦
      left_over c.loop-k.left (table_left c.args.table.now c.loop-k.k) (left_of c.args.room (c.args.front + members_len (members_of c.args.table.now)))
      (table_past c.args.table.now c.loop-k.k (none_past (λ e. entry_member e.now) w.get.result c.args.table.now c.loop-k.k w.in_default.is w.get.ensures)) c.loop-k.invariant
]
