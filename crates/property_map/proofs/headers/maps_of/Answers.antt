use Rattle.std.proofs.Common.{[], sym, ◌∙◌, arith}
use Rattle.std.proofs.lemmas.Bool.Decides.{nat_tests}
use Rattle.std.proofs.lemmas.Result.{err_from_is_err_and}
use Rattle.tables_091.specs.View.{entry_member}
use Rattle.types_10.specs.View.{value_tree}
use Rattle.property_map.specs.Headers.{headers_in}
use Rattle.property_map.proofs.Places.{found_at, none_past}
use Rattle.property_map.proofs.Loops.{application_next, annotation_next, headers_fail_named}
use Rattle.property_map.proofs.Loops.{headers_fail, headers_over, names_before, names_more}
use Rattle.property_map.proofs.headers.maps_of.Goals.{then-holds_others+in_ok-push}
use Rattle.property_map.proofs.headers.maps_of.Goals.{else-holds_others+in_ok-push-2}
use Rattle.property_map.proofs.headers.maps_of.Goals.{else-loop-k-test, then-loop-k-test+in_default}
use Rattle.property_map.proofs.headers.maps_of.Goals as goal

pub returns-in_err-key : goal.returns-in_err-key
returns-in_err-key c =
    let p = err_from_is_err_and c.from_residual.result c.from_residual.ensures.1 in
    let is = found_at (λ e. entry_member e.now) c.get.result c.in-Some.field-0 c.args.table.now c.loop-k.k c.in-Some.is c.get.ensures in
    rw (p.1, p.2) (headers_fail_named c.in_err-key.field-0.0 c.loop-k.application c.loop-k.annotation c.args.table.now c.loop-k.k (entry_member c.in-Some.field-0.now) (headers_in [] c.args.table.now) is (c.in_err-key.ensures.gives (names_before c.args.table.now c.loop-k.k) c.loop-k.invariant.names) c.loop-k.invariant.made)

pub returns-in_err-value : goal.returns-in_err-value
returns-in_err-value c =
    let p = err_from_is_err_and c.from_residual-in_err-value.result c.from_residual-in_err-value.ensures.1 in
    let is = found_at (λ e. entry_member e.now) c.get.result c.in-Some.field-0 c.args.table.now c.loop-k.k c.in-Some.is c.get.ensures in
    rw (p.1, p.2)
    (headers_fail c.in_err-value.field-0.0 c.loop-k.application c.loop-k.annotation c.args.table.now c.loop-k.k (entry_member c.in-Some.field-0.now) c.in_ok-key.key (headers_in [] c.args.table.now) is (c.in_ok-key.ensures.gives (names_before c.args.table.now c.loop-k.k) c.loop-k.invariant.names) c.in_err-value.ensures c.loop-k.invariant.made)

pub loop-k-preserved : goal.loop-k-preserved
loop-k-preserved c =
    let is = found_at (λ e. entry_member e.now) c.get.result c.in-Some.field-0 c.args.table.now c.loop-k.k c.in-Some.is c.get.ensures in
    elim c.if-holds_others.branch [
      | then-holds_others+in_ok-push w ↦
          record {
            names = names_more c.header_key.new.names c.args.table.now c.loop-k.k (entry_member c.in-Some.field-0.now) is (c.in_ok-key.ensures.more (names_before c.args.table.now c.loop-k.k) c.loop-k.invariant.names);
            made = rw (w.application-is, w.annotation-is, w.in_ok-push.ensures.ok)
                (annotation_next c.loop-k.application c.loop-k.annotation c.args.table.now c.loop-k.k (entry_member c.in-Some.field-0.now) c.in_ok-key.key (value_tree c.in_ok-value.value) (headers_in [] c.args.table.now) is (c.in_ok-key.ensures.gives (names_before c.args.table.now c.loop-k.k) c.loop-k.invariant.names) c.in_ok-value.ensures
                (sym c.holds_others.ensures ∙ w.if-holds_others.true) c.loop-k.invariant.made);
          }
      | else-holds_others+in_ok-push-2 w ↦
          record {
            names = names_more c.header_key.new.names c.args.table.now c.loop-k.k (entry_member c.in-Some.field-0.now) is (c.in_ok-key.ensures.more (names_before c.args.table.now c.loop-k.k) c.loop-k.invariant.names);
            made = rw (w.application-is, w.annotation-is, w.in_ok-push-2.ensures.ok)
                (application_next c.loop-k.application c.loop-k.annotation c.args.table.now c.loop-k.k (entry_member c.in-Some.field-0.now) c.in_ok-key.key (value_tree c.in_ok-value.value) (headers_in [] c.args.table.now) is (c.in_ok-key.ensures.gives (names_before c.args.table.now c.loop-k.k) c.loop-k.invariant.names) c.in_ok-value.ensures
                (sym c.holds_others.ensures ∙ w.if-holds_others.false) c.loop-k.invariant.made);
          }
    ]

pub returns : goal.returns
returns c = elim c.loop-k-test.branch [
  | else-loop-k-test w ↦
      headers_over c.loop-k.application c.loop-k.annotation c.args.table.now c.loop-k.k (headers_in [] c.args.table.now) (grind (arith, nat_tests, w.loop-k-test.false, c.len.ensures)) c.loop-k.invariant.made
  | then-loop-k-test+in_default w ↦
      headers_over c.loop-k.application c.loop-k.annotation c.args.table.now c.loop-k.k (headers_in [] c.args.table.now) (none_past (λ e. entry_member e.now) w.get.result c.args.table.now c.loop-k.k w.in_default.is w.get.ensures) c.loop-k.invariant.made
]
