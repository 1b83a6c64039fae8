use Rattle.std.proofs.Common.{◌≡◌, ◌<◌, ◌++◌, ◌∷◌, [], length, Some, arith}
use Rattle.std.proofs.lemmas.Bool.Decides.{nat_tests}
use Rattle.std.proofs.lemmas.Result.{err_from_is_err_and}
use Rattle.wire_base.specs.Reading.{all_items, offset}
use Rattle.wire_base.proofs.Items.{goes_on, ends, is_done}
use Rattle.tables_091.specs.Kinds.{kind_of}
use Rattle.tables_091.proofs.Depth.{deep_gives}
use Rattle.tables_091.specs.View.{field_tree}
use Rattle.tables_091.specs.Reading.{field_in, member_in}
use Rattle.tables_091.proofs.ReaderLaws.{field_shrinks, member_shrinks}
use Rattle.tables_091.proofs.reading.+nested.Goals as goal

pub fields_of-returns-in_err-field : goal.fields_of-returns-in_err-field
fields_of-returns-in_err-field t c =
    let read = field_in c.args.depth in
    let p = err_from_is_err_and c.from_residual.result c.from_residual.ensures.1 in
    let some : 0 < length c.loop-rest.rest.now = grind (arith, nat_tests, c.is_empty.ensures, c.loop-rest-test.true) in
    rw (p.1, p.2) (ends c.in_err-field.field-0.0 offset read c.args.end c.loop-rest.list c.loop-rest.rest.now (all_items offset read c.args.end c.args.body.now) some c.in_err-field.ensures c.loop-rest.invariant.1)

pub fields_of-loop-rest-smaller : goal.fields_of-loop-rest-smaller
fields_of-loop-rest-smaller t c =
    ((field_shrinks c.args.depth c.args.end).by c.loop-rest.rest.now _ c.loop-rest.invariant.0 c.in_ok-field.ensures).0

pub fields_of-loop-rest-preserved : goal.fields_of-loop-rest-preserved
fields_of-loop-rest-preserved t c =
    let read = field_in c.args.depth in
    let s = field_shrinks c.args.depth c.args.end in
    let list : c.push.new.self ≡ c.loop-rest.list ++ field_tree c.in_ok-field.field ∷ [] = c.in_ok-push.ensures.ok in
    let later = s.by c.loop-rest.rest.now _ c.loop-rest.invariant.0 c.in_ok-field.ensures in
    (later.1, rw list (goes_on offset read c.args.end c.loop-rest.list c.loop-rest.rest.now (field_tree c.in_ok-field.field) c.in_ok-field.after.now (all_items offset read c.args.end c.args.body.now) s c.loop-rest.invariant.0 c.in_ok-field.ensures c.loop-rest.invariant.1))

pub fields_of-returns : goal.fields_of-returns
fields_of-returns t c =
    let read = field_in c.args.depth in
    let none : length c.loop-rest.rest.now ≡ 0 = grind (arith, nat_tests, c.is_empty.ensures, c.loop-rest-test.false) in
    is_done offset read c.args.end c.loop-rest.list c.loop-rest.rest.now (all_items offset read c.args.end c.args.body.now) none c.loop-rest.invariant.1

pub entries_of-returns-in_err-name : goal.entries_of-returns-in_err-name
entries_of-returns-in_err-name t c =
    let read = member_in (field_in c.args.depth) in
    let p = err_from_is_err_and c.from_residual.result c.from_residual.ensures.1 in
    let some : 0 < length c.loop-rest.rest.now = grind (arith, nat_tests, c.is_empty.ensures, c.loop-rest-test.true) in
    rw (p.1, p.2) (ends c.in_err-name.field-0.0 offset read c.args.end c.loop-rest.table c.loop-rest.rest.now (all_items offset read c.args.end c.args.body.now) some c.in_err-name.ensures c.loop-rest.invariant.1)

pub entries_of-loop-rest-smaller : goal.entries_of-loop-rest-smaller
entries_of-loop-rest-smaller t c =
    ((member_shrinks c.args.depth c.args.end).by c.loop-rest.rest.now _ c.loop-rest.invariant.0 c.in_ok-name.ensures).0

pub entries_of-loop-rest-preserved : goal.entries_of-loop-rest-preserved
entries_of-loop-rest-preserved t c =
    let read = member_in (field_in c.args.depth) in
    let s = member_shrinks c.args.depth c.args.end in
    let table : c.push.new.self ≡ c.loop-rest.table ++ (c.in_ok-name.name, field_tree c.in_ok-name.field) ∷ [] = c.in_ok-push.ensures.ok in
    let later = s.by c.loop-rest.rest.now _ c.loop-rest.invariant.0 c.in_ok-name.ensures in
    (later.1, rw table (goes_on offset read c.args.end c.loop-rest.table c.loop-rest.rest.now (c.in_ok-name.name, field_tree c.in_ok-name.field) c.in_ok-name.after.now (all_items offset read c.args.end c.args.body.now) s c.loop-rest.invariant.0 c.in_ok-name.ensures c.loop-rest.invariant.1))

pub entries_of-returns : goal.entries_of-returns
entries_of-returns t c =
    let read = member_in (field_in c.args.depth) in
    let none : length c.loop-rest.rest.now ≡ 0 = grind (arith, nat_tests, c.is_empty.ensures, c.loop-rest-test.false) in
    is_done offset read c.args.end c.loop-rest.table c.loop-rest.rest.now (all_items offset read c.args.end c.args.body.now) none c.loop-rest.invariant.1

pub field_of-returns-else-depth-eq0 : goal.field_of-returns-else-depth-eq0
field_of-returns-else-depth-eq0 t c =
    let known : kind_of c.in_ok-byte.byte ≡ Some c.in-Some.kind = cc in
    deep_gives _ c.deep_of.result c.args.depth c.args.end c.in_ok-byte.byte c.args.bytes.now c.in_ok-byte.content.now c.in-Some.kind (omega arith) c.in_ok-byte.ensures known c.deep_of.ensures
