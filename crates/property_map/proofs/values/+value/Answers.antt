use Rattle.std.proofs.Common.{[], arith}
use Rattle.std.proofs.lemmas.Bool.Decides.{nat_tests}
use Rattle.std.proofs.lemmas.Result.{err_from_is_err_and}
use Rattle.tables_091.specs.Tree.{trees_of, members_of}
use Rattle.tables_091.specs.View.{field_tree, entry_member}
use Rattle.types_10.specs.Tree as value
use Rattle.types_10.specs.View.{value_tree}
use Rattle.property_map.specs.Values.{value_in, values_in, pairs_in}
use Rattle.property_map.proofs.Places.{found_at, none_past, list_holds, table_holds}
use Rattle.property_map.proofs.Steps.{next_at, fail_at}
use Rattle.property_map.proofs.Loops.{all_values, values_one, values_none, values_over, pairs_next}
use Rattle.property_map.proofs.Loops.{pairs_fail_named, pairs_fail, pairs_over, names_before}
use Rattle.property_map.proofs.Loops.{names_more}
use Rattle.property_map.proofs.values.+value.Goals.{values_of-else-loop-k-test}
use Rattle.property_map.proofs.values.+value.Goals.{values_of-then-loop-k-test+in_default}
use Rattle.property_map.proofs.values.+value.Goals.{pairs_of-else-loop-k-test}
use Rattle.property_map.proofs.values.+value.Goals.{pairs_of-then-loop-k-test+in_default}
use Rattle.property_map.proofs.values.+value.Goals as goal

-- ---- values

pub values_of-value_of-requires : goal.values_of-value_of-requires
values_of-value_of-requires t c =
    let is = found_at (λ f. field_tree f.now) c.get.result c.in-Some.field c.args.list.now c.loop-k.k c.in-Some.is c.get.ensures in
    (omega (arith, c.decreases, list_holds c.args.list.now c.loop-k.k (field_tree c.in-Some.field.now) is), tt)

pub values_of-returns-in_err-value_of : goal.values_of-returns-in_err-value_of
values_of-returns-in_err-value_of t c =
    let p = err_from_is_err_and c.from_residual.result c.from_residual.ensures.1 in
    let is = found_at (λ f. field_tree f.now) c.get.result c.in-Some.field c.args.list.now c.loop-k.k c.in-Some.is c.get.ensures in
    rw (p.1, p.2) (fail_at value.tree value_in all_values values_none c.in_err-value_of.field-0.0 c.loop-k.values c.args.list.now c.loop-k.k (field_tree c.in-Some.field.now) (values_in (trees_of c.args.list.now)) is c.in_err-value_of.ensures c.loop-k.invariant)

pub values_of-loop-k-preserved : goal.values_of-loop-k-preserved
values_of-loop-k-preserved t c =
    let is = found_at (λ f. field_tree f.now) c.get.result c.in-Some.field c.args.list.now c.loop-k.k c.in-Some.is c.get.ensures in
    rw c.in_ok-push.ensures.ok
    (next_at value.tree value_in all_values values_one c.loop-k.values c.args.list.now c.loop-k.k (field_tree c.in-Some.field.now) (value_tree c.in_ok-value_of.field-0) (values_in (trees_of c.args.list.now)) is c.in_ok-value_of.ensures c.loop-k.invariant)

pub values_of-returns : goal.values_of-returns
values_of-returns t c = elim c.loop-k-test.branch [
  | values_of-else-loop-k-test w ↦
      values_over c.loop-k.values c.args.list.now c.loop-k.k (values_in (trees_of c.args.list.now)) (grind (arith, nat_tests, w.loop-k-test.false, c.len.ensures)) c.loop-k.invariant
  | values_of-then-loop-k-test+in_default w ↦
      values_over c.loop-k.values c.args.list.now c.loop-k.k (values_in (trees_of c.args.list.now)) (none_past (λ f. field_tree f.now) w.get.result c.args.list.now c.loop-k.k w.in_default.is w.get.ensures) c.loop-k.invariant
]

-- ---- pairs

pub pairs_of-returns-in_err-key : goal.pairs_of-returns-in_err-key
pairs_of-returns-in_err-key t c =
    let p = err_from_is_err_and c.from_residual.result c.from_residual.ensures.1 in
    let is = found_at (λ e. entry_member e.now) c.get.result c.in-Some.field-0 c.args.table.now c.loop-k.k c.in-Some.is c.get.ensures in
    rw (p.1, p.2) (pairs_fail_named c.in_err-key.field-0.0 c.loop-k.pairs c.args.table.now c.loop-k.k (entry_member c.in-Some.field-0.now) (pairs_in [] (members_of c.args.table.now)) is (c.in_err-key.ensures.gives (names_before c.args.table.now c.loop-k.k) c.loop-k.invariant.names) c.loop-k.invariant.made)

pub pairs_of-value_of-requires : goal.pairs_of-value_of-requires
pairs_of-value_of-requires t c =
    let is = found_at (λ e. entry_member e.now) c.get.result c.in-Some.field-0 c.args.table.now c.loop-k.k c.in-Some.is c.get.ensures in
    (omega (arith, c.decreases, table_holds c.args.table.now c.loop-k.k (entry_member c.in-Some.field-0.now) is), tt)

pub pairs_of-returns-in_err-value : goal.pairs_of-returns-in_err-value
pairs_of-returns-in_err-value t c =
    let p = err_from_is_err_and c.from_residual-in_err-value.result c.from_residual-in_err-value.ensures.1 in
    let is = found_at (λ e. entry_member e.now) c.get.result c.in-Some.field-0 c.args.table.now c.loop-k.k c.in-Some.is c.get.ensures in
    rw (p.1, p.2)
    (pairs_fail c.in_err-value.field-0.0 c.loop-k.pairs c.args.table.now c.loop-k.k (entry_member c.in-Some.field-0.now) c.in_ok-key.key (pairs_in [] (members_of c.args.table.now)) is (c.in_ok-key.ensures.gives (names_before c.args.table.now c.loop-k.k) c.loop-k.invariant.names) c.in_err-value.ensures c.loop-k.invariant.made)

pub pairs_of-loop-k-preserved : goal.pairs_of-loop-k-preserved
pairs_of-loop-k-preserved t c =
    let is = found_at (λ e. entry_member e.now) c.get.result c.in-Some.field-0 c.args.table.now c.loop-k.k c.in-Some.is c.get.ensures in
    record {
      made = rw c.in_ok-push.ensures.ok
          (pairs_next c.loop-k.pairs c.args.table.now c.loop-k.k (entry_member c.in-Some.field-0.now) c.in_ok-key.key (value_tree c.in_ok-value.value) (pairs_in [] (members_of c.args.table.now)) is (c.in_ok-key.ensures.gives (names_before c.args.table.now c.loop-k.k) c.loop-k.invariant.names) c.in_ok-value.ensures c.loop-k.invariant.made);
      names = names_more c.key_of.new.names c.args.table.now c.loop-k.k (entry_member c.in-Some.field-0.now) is (c.in_ok-key.ensures.more (names_before c.args.table.now c.loop-k.k) c.loop-k.invariant.names);
    }

pub pairs_of-returns : goal.pairs_of-returns
pairs_of-returns t c = elim c.loop-k-test.branch [
  | pairs_of-else-loop-k-test w ↦
      pairs_over c.loop-k.pairs c.args.table.now c.loop-k.k (pairs_in [] (members_of c.args.table.now)) (grind (arith, nat_tests, w.loop-k-test.false, c.len.ensures)) c.loop-k.invariant.made
  | pairs_of-then-loop-k-test+in_default w ↦
      pairs_over c.loop-k.pairs c.args.table.now c.loop-k.k (pairs_in [] (members_of c.args.table.now)) (none_past (λ e. entry_member e.now) w.get.result c.args.table.now c.loop-k.k w.in_default.is w.get.ensures) c.loop-k.invariant.made
]
