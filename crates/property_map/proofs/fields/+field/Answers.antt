use Rattle.std.proofs.Common.{sym, ◌∙◌, arith}
use Rattle.std.proofs.lemmas.Bool.Decides.{nat_tests}
use Rattle.std.proofs.lemmas.Result.{err_from_is_err_and}
use Rattle.tables_091.specs.View.{field_tree}
use Rattle.tables_091.specs.Tree as field
use Rattle.types_10.specs.Tree.{trees_of, pairs_of}
use Rattle.types_10.specs.View.{value_tree, pair_trees}
use Rattle.property_map.specs.Fields.{field_in, fields_in, kept_of, names_of}
use Rattle.property_map.proofs.Places.{found_at, none_past}
use Rattle.property_map.proofs.Steps.{next_at, fail_at}
use Rattle.property_map.proofs.FieldLoops.{value_holds, pair_holds, all_fields, fields_one}
use Rattle.property_map.proofs.FieldLoops.{fields_none, fields_over, made, made_skip, made_step}
use Rattle.property_map.proofs.FieldLoops.{made_stop_named, made_stop, made_end}
use Rattle.property_map.proofs.fields.+field.Goals.{fields_of-else-loop-k-test}
use Rattle.property_map.proofs.fields.+field.Goals.{fields_of-then-loop-k-test+in_default}
use Rattle.property_map.proofs.fields.+field.Goals.{with_pairs-else-loop-k-test}
use Rattle.property_map.proofs.fields.+field.Goals.{with_pairs-then-loop-k-test+in_default}
use Rattle.property_map.proofs.fields.+field.Goals as goal

-- ---- fields

pub fields_of-field_of-requires : goal.fields_of-field_of-requires
fields_of-field_of-requires t c =
    let is = found_at (λ f. value_tree f.now) c.get.result c.in-Some.value c.args.list.now c.loop-k.k c.in-Some.is c.get.ensures in
    (omega (arith, c.decreases, value_holds c.args.list.now c.loop-k.k (value_tree c.in-Some.value.now) is), tt)

pub fields_of-returns-in_err-field_of : goal.fields_of-returns-in_err-field_of
fields_of-returns-in_err-field_of t c =
    let p = err_from_is_err_and c.from_residual.result c.from_residual.ensures.1 in
    let is = found_at (λ f. value_tree f.now) c.get.result c.in-Some.value c.args.list.now c.loop-k.k c.in-Some.is c.get.ensures in
    rw (p.1, p.2) (fail_at field.tree field_in all_fields fields_none c.in_err-field_of.field-0.0 c.loop-k.fields c.args.list.now c.loop-k.k (value_tree c.in-Some.value.now) (fields_in (trees_of c.args.list.now)) is c.in_err-field_of.ensures c.loop-k.invariant)

pub fields_of-loop-k-preserved : goal.fields_of-loop-k-preserved
fields_of-loop-k-preserved t c =
    let is = found_at (λ f. value_tree f.now) c.get.result c.in-Some.value c.args.list.now c.loop-k.k c.in-Some.is c.get.ensures in
    rw c.in_ok-push.ensures.ok
    (next_at field.tree field_in all_fields fields_one c.loop-k.fields c.args.list.now c.loop-k.k (value_tree c.in-Some.value.now) (field_tree c.in_ok-field_of.field-0) (fields_in (trees_of c.args.list.now)) is c.in_ok-field_of.ensures c.loop-k.invariant)

pub fields_of-returns : goal.fields_of-returns
fields_of-returns t c = elim c.loop-k-test.branch [
  | fields_of-else-loop-k-test w ↦
      fields_over c.loop-k.fields c.args.list.now c.loop-k.k (fields_in (trees_of c.args.list.now)) (grind (arith, nat_tests, w.loop-k-test.false, c.len.ensures)) c.loop-k.invariant
  | fields_of-then-loop-k-test+in_default w ↦
      fields_over c.loop-k.fields c.args.list.now c.loop-k.k (fields_in (trees_of c.args.list.now)) (none_past (λ f. value_tree f.now) w.get.result c.args.list.now c.loop-k.k w.in_default.is w.get.ensures) c.loop-k.invariant
]

-- ---- pairs

pub with_pairs-loop-k-preserved-then-is_left_out : goal.with_pairs-loop-k-preserved-then-is_left_out
with_pairs-loop-k-preserved-then-is_left_out t c =
    let is = found_at (λ q. pair_trees q.now) c.get.result c.in-Some.field-0 c.args.pairs.now c.loop-k.k c.in-Some.is c.get.ensures in
    made_skip c.loop-k.names c.loop-k.table c.args.skips c.args.pairs.now c.loop-k.k (pair_trees c.in-Some.field-0.now) (made c.args.named.table (names_of c.args.named.table) (kept_of c.args.skips (pairs_of c.args.pairs.now))) is (sym c.is_left_out.ensures ∙ c.if-is_left_out.true) c.loop-k.invariant

pub with_pairs-returns-in_err-name-clause-table : goal.with_pairs-returns-in_err-name-clause-table
with_pairs-returns-in_err-name-clause-table t c =
    let p = err_from_is_err_and c.from_residual.result c.from_residual.ensures.1 in
    let is = found_at (λ q. pair_trees q.now) c.get.result c.in-Some.field-0 c.args.pairs.now c.loop-k.k c.in-Some.is c.get.ensures in
    rw (p.1, p.2) (made_stop_named c.in_err-name.field-0.0 c.loop-k.names c.loop-k.table c.args.skips c.args.pairs.now c.loop-k.k (pair_trees c.in-Some.field-0.now) (made c.args.named.table (names_of c.args.named.table) (kept_of c.args.skips (pairs_of c.args.pairs.now))) is (sym c.is_left_out.ensures ∙ c.if-is_left_out.false) c.in_err-name.ensures.gives c.loop-k.invariant)

pub with_pairs-field_of-requires : goal.with_pairs-field_of-requires
with_pairs-field_of-requires t c =
    let is = found_at (λ q. pair_trees q.now) c.get.result c.in-Some.field-0 c.args.pairs.now c.loop-k.k c.in-Some.is c.get.ensures in
    (omega (arith, c.decreases, pair_holds c.args.pairs.now c.loop-k.k (pair_trees c.in-Some.field-0.now) is), tt)

pub with_pairs-returns-in_err-field-clause-table : goal.with_pairs-returns-in_err-field-clause-table
with_pairs-returns-in_err-field-clause-table t c =
    let p = err_from_is_err_and c.from_residual-in_err-field.result c.from_residual-in_err-field.ensures.1 in
    let is = found_at (λ q. pair_trees q.now) c.get.result c.in-Some.field-0 c.args.pairs.now c.loop-k.k c.in-Some.is c.get.ensures in
    rw (p.1, p.2) (made_stop c.in_err-field.field-0.0 c.loop-k.names c.loop-k.table c.args.skips c.args.pairs.now c.loop-k.k (pair_trees c.in-Some.field-0.now) c.in_ok-name.name (made c.args.named.table (names_of c.args.named.table) (kept_of c.args.skips (pairs_of c.args.pairs.now))) is (sym c.is_left_out.ensures ∙ c.if-is_left_out.false) c.in_ok-name.ensures.gives c.in_err-field.ensures c.loop-k.invariant)

pub with_pairs-loop-k-preserved : goal.with_pairs-loop-k-preserved
with_pairs-loop-k-preserved t c =
    let is = found_at (λ q. pair_trees q.now) c.get.result c.in-Some.field-0 c.args.pairs.now c.loop-k.k c.in-Some.is c.get.ensures in
    rw c.in_ok-push.ensures.ok
    (made_step c.loop-k.names c.entry_name.new.names c.loop-k.table c.args.skips c.args.pairs.now c.loop-k.k (pair_trees c.in-Some.field-0.now) c.in_ok-name.name (field_tree c.in_ok-field.field) (made c.args.named.table (names_of c.args.named.table) (kept_of c.args.skips (pairs_of c.args.pairs.now))) is (sym c.is_left_out.ensures ∙ c.if-is_left_out.false) c.in_ok-name.ensures.gives c.in_ok-name.ensures.more c.in_ok-field.ensures c.loop-k.invariant)

pub with_pairs-returns-clause-table : goal.with_pairs-returns-clause-table
with_pairs-returns-clause-table t c = elim c.loop-k-test.branch [
  | with_pairs-else-loop-k-test w ↦
      made_end c.loop-k.names c.loop-k.table c.args.skips c.args.pairs.now c.loop-k.k (made c.args.named.table (names_of c.args.named.table) (kept_of c.args.skips (pairs_of c.args.pairs.now))) (grind (arith, nat_tests, w.loop-k-test.false, c.len.ensures)) c.loop-k.invariant
  | with_pairs-then-loop-k-test+in_default w ↦
      made_end c.loop-k.names c.loop-k.table c.args.skips c.args.pairs.now c.loop-k.k (made c.args.named.table (names_of c.args.named.table) (kept_of c.args.skips (pairs_of c.args.pairs.now))) (none_past (λ q. pair_trees q.now) w.get.result c.args.pairs.now c.loop-k.k w.in_default.is w.get.ensures) c.loop-k.invariant
]
