use Rattle.std.proofs.Common.{ℕ, ◌<◌, ◌^◌, List, ◌++◌, length, map, subst, sym, ap, ◌∙◌, arith}
use Rattle.std.proofs.lemmas.Result.{err_from_is_err_and, on_ok_weaker, on_err_weaker}
use Rattle.std.proofs.lemmas.List.{append-nil}
use Rattle.std.proofs.lemmas.Grind.{common_steps}
use denote.Param.Weighed.{at_most}
use Rattle.wire_base.proofs.Outputs.{still_there}
use Rattle.types_10.specs.Tree.{trees_of, pairs_of}
use Rattle.types_10.specs.View.{value_tree, pair_trees}
use Rattle.types_10.specs.Writing.{written, written_each, written_pairs}
use Rattle.types_10.specs.Measures.{pair_text}
use Rattle.types_10.specs.declared.kind.Kind.{Kind}
use Rattle.types_10.specs.declared.value.Value10.{Value10}
use Rattle.types_10.specs.declared.value.Inner.TheDeep.{size-Value10}
use Rattle.types_10.specs.declared.value.Inner.TheShapes.{weighed-PairList-pairs-at-2}
use Rattle.types_10.proofs.Measures.{text_is}
use Rattle.types_10.proofs.Slices.{whole_text, content_text, each_count, pairs_count, each_text}
use Rattle.types_10.proofs.Slices.{pairs_text, contents_text, part_fits, parts_fit, held_under}
use Rattle.types_10.proofs.Slices.{none_under, ValueIsWritable, PairIsWritable, values_are_writable}
use Rattle.types_10.proofs.Slices.{pairs_are_writable}
use Rattle.types_10.proofs.writing.+whole.Goals as goal

-- ---- a value that stands alone

pub put_whole-put_front-requires : goal.put_whole-put_front-requires
put_whole-put_front-requires t c = (omega (arith, c.decreases), (c.requires.writable, (parts_fit (value_tree c.args.value.now) c.requires.size).0))

pub put_whole-put_content-requires : goal.put_whole-put_content-requires
put_whole-put_content-requires t c =
    let w = written (value_tree c.args.value.now) in
    let m = c.measure_value-measure.ensures in (
      omega (arith, c.decreases),
      (
        c.requires.writable,
        (subst (λ (k : Kind). length (w.content k) < 2 ^ 32) (sym m.kind) (parts_fit (value_tree c.args.value.now) c.requires.size).1, m.body),
      ),
    )

pub put_whole-returns-clause-ok : goal.put_whole-returns-clause-ok
put_whole-returns-clause-ok t c = grind (arith, common_steps, text_is (value_tree c.args.value.now))

pub put_whole-returns-clause-err : goal.put_whole-returns-clause-err
put_whole-returns-clause-err t c =
    on_err_weaker c.put_content.result
    (λ h. still_there c.args.out.now c.put_front.new.out c.put_content.new.out _ c.in_ok-put_front.ensures.ok (still_there c.put_front.new.out c.put_u8.new.out c.put_content.new.out _ c.in_ok-put_u8.ensures.ok h))
    c.put_content.ensures.err

pub put_front-returns-in_ok-put_whole-in-Described-clause-err : goal.put_front-returns-in_ok-put_whole-in-Described-clause-err
put_front-returns-in_ok-put_whole-in-Described-clause-err t c =
    on_err_weaker c.put_front.result
    (λ h. still_there c.args.out.now c.put_u8.new.out c.put_front.new.out _ c.in_ok-put_u8-in-Described.ensures.ok (still_there c.put_u8.new.out c.put_whole.new.out c.put_front.new.out _ c.in_ok-put_whole-in-Described.ensures.ok h))
    c.put_front.ensures.err

-- ---- contents

pub put_content-put_held-requires : goal.put_content-put_held-requires
put_content-put_held-requires t c =
    let same = held_under (value_tree c.args.value.now) c.args.kind c.in-List.size c.in-List.is in
    (omega (arith, c.decreases), (c.requires.writable, (subst (λ (s : List ℕ). length s < 2 ^ 32) same c.requires.size, c.requires.measured)))

pub put_content-returns-in-List-clause-ok : goal.put_content-returns-in-List-clause-ok
put_content-returns-in-List-clause-ok t c =
    on_ok_weaker c.put_held.result (λ h. h ∙ ap (λ (s : List ℕ). c.args.out.now ++ s) (sym (held_under (value_tree c.args.value.now) c.args.kind c.in-List.size c.in-List.is))) c.put_held.ensures.ok

pub put_content-returns-in-EmptyList-clause-ok : goal.put_content-returns-in-EmptyList-clause-ok
put_content-returns-in-EmptyList-clause-ok t c = rw (none_under (value_tree c.args.value.now) c.args.kind c.in-EmptyList.is) (sym (append-nil c.args.out.now))

pub put_list-returns-clause-ok : goal.put_list-returns-clause-ok
put_list-returns-clause-ok t c = grind (arith, common_steps, each_count c.args.values.now)

pub put_map-returns-clause-ok : goal.put_map-returns-clause-ok
put_map-returns-clause-ok t c = grind (arith, common_steps, pairs_count c.args.pairs.now)

pub put_array-returns-clause-ok : goal.put_array-returns-clause-ok
put_array-returns-clause-ok t c = grind (arith, common_steps, each_count c.args.values.now)

pub put_array-returns-clause-err : goal.put_array-returns-clause-err
put_array-returns-clause-err t c =
    let new = c.put_contents.new.out in
    on_err_weaker c.put_contents.result
    (λ h. still_there c.args.out.now c.put_head.new.out new _ c.in_ok-put_head.ensures.ok
    (still_there c.put_head.new.out c.put_first_front.new.out new _ c.in_ok-put_first_front.ensures.ok (still_there c.put_first_front.new.out c.put_u8.new.out new _ c.in_ok-put_u8.ensures.ok h)))
    c.put_contents.ensures.err

-- ---- values in turn

pub put_each-put_whole-requires : goal.put_each-put_whole-requires
put_each-put_whole-requires t c =
    let vs = c.args.values.now in
    let i = c.loop-value.value-index in
    let v = c.value-item.result in (
      omega (arith, c.decreases, at_most size-Value10 vs i v c.loop-value-test.true, ap size-Value10 c.value-item.is),
      (
        subst ValueIsWritable (sym c.value-item.is) (values_are_writable vs c.requires.writable i v c.loop-value-test.true),
        subst (λ (v : Value10). length (whole_text v) < 2 ^ 32) (sym c.value-item.is) (part_fits whole_text vs (written_each (trees_of (map value_tree vs))).text i v (each_text vs) c.loop-value-test.true c.requires.size),
      ),
    )

pub put_each-returns-in_err-put_whole-clause-err : goal.put_each-returns-in_err-put_whole-clause-err
put_each-returns-in_err-put_whole-clause-err t c =
    let p = err_from_is_err_and c.from_residual.result c.from_residual.ensures.1 in
    rw p.1 (still_there c.args.out.now c.loop-value.out c.put_whole.new.out _ c.loop-value.invariant c.in_err-put_whole.ensures.err)

pub put_each-returns-clause-ok : goal.put_each-returns-clause-ok
put_each-returns-clause-ok t c = grind (arith, common_steps, each_text c.args.values.now)

pub put_pairs-put_pair-requires : goal.put_pairs-put_pair-requires
put_pairs-put_pair-requires t c =
    let ps = c.args.pairs.now in
    let i = c.loop-pair.pair-index in
    let p = c.pair-item.result in
    let w = subst PairIsWritable (sym c.pair-item.is) (pairs_are_writable ps c.requires.writable i p c.loop-pair-test.true) in (
      omega (arith, c.decreases, at_most (weighed-PairList-pairs-at-2.weight Value10 size-Value10) ps i p c.loop-pair-test.true, ap (weighed-PairList-pairs-at-2.weight Value10 size-Value10) c.pair-item.is),
      (
        w.0,
        (w.1, subst (λ (p : Value10 × Value10). length (pair_text p) < 2 ^ 32) (sym c.pair-item.is) (part_fits pair_text ps (written_pairs (pairs_of (map pair_trees ps))).1 i p (pairs_text ps) c.loop-pair-test.true c.requires.size)),
      ),
    )

pub put_pairs-returns-in_err-put_pair-clause-err : goal.put_pairs-returns-in_err-put_pair-clause-err
put_pairs-returns-in_err-put_pair-clause-err t c =
    let p = err_from_is_err_and c.from_residual.result c.from_residual.ensures.1 in
    rw p.1 (still_there c.args.out.now c.loop-pair.out c.put_pair.new.out _ c.loop-pair.invariant c.in_err-put_pair.ensures.err)

pub put_pairs-returns-clause-ok : goal.put_pairs-returns-clause-ok
put_pairs-returns-clause-ok t c = grind (arith, common_steps, pairs_text c.args.pairs.now)

pub put_contents-measure_value-body-requires : goal.put_contents-measure_value-body-requires
put_contents-measure_value-body-requires t c =
    subst ValueIsWritable (sym c.value-item.is) (values_are_writable c.args.values.now c.requires.writable c.loop-value.value-index c.value-item.result c.loop-value-test.true)

pub put_contents-put_content-requires : goal.put_contents-put_content-requires
put_contents-put_content-requires t c =
    let vs = c.args.values.now in
    let k = c.args.kind in
    let i = c.loop-value.value-index in
    let v = c.value-item.result in (
      omega (arith, c.decreases, at_most size-Value10 vs i v c.loop-value-test.true, ap size-Value10 c.value-item.is),
      (
        subst ValueIsWritable (sym c.value-item.is) (values_are_writable vs c.requires.writable i v c.loop-value-test.true),
        (
          subst (λ (v : Value10). length (content_text k v) < 2 ^ 32) (sym c.value-item.is)
              (part_fits (content_text k) vs ((written_each (trees_of (map value_tree vs))).contents k) i v (contents_text k vs) c.loop-value-test.true c.requires.size),
          c.measure_value-body.ensures.body,
        ),
      ),
    )

pub put_contents-returns-in_err-put_content-clause-err : goal.put_contents-returns-in_err-put_content-clause-err
put_contents-returns-in_err-put_content-clause-err t c =
    let p = err_from_is_err_and c.from_residual.result c.from_residual.ensures.1 in
    rw p.1 (still_there c.args.out.now c.loop-value.out c.put_content.new.out _ c.loop-value.invariant c.in_err-put_content.ensures.err)

pub put_contents-returns-clause-ok : goal.put_contents-returns-clause-ok
put_contents-returns-clause-ok t c = grind (arith, common_steps, contents_text c.args.kind c.args.values.now)
