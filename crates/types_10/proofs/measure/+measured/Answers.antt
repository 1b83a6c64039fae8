use Rattle.std.proofs.Common.{◌≡◌, ℕ, ◌-◌, ◌*◌, ◌<◌, length, map, subst, sym, ap, ◌∙◌, arith}
use Rattle.std.proofs.lemmas.Grind.{common_steps}
use denote.Param.Weighed.{at_most}
use Rattle.types_10.specs.Tree.{described, trees_of, pairs_of}
use Rattle.types_10.specs.View.{value_tree, pair_trees}
use Rattle.types_10.specs.Writing.{list_kind, map_kind, array_kind, array_body, written_each}
use Rattle.types_10.specs.Writing.{written_pairs}
use Rattle.types_10.specs.Measures.{capped, IsMeasure}
use Rattle.types_10.specs.declared.kind.Kind.TheVariants as kind
use Rattle.types_10.specs.declared.value.Value10.{Value10}
use Rattle.types_10.specs.declared.value.Inner.TheDeep.{size-Value10}
use Rattle.types_10.specs.declared.value.Inner.TheShapes.{weighed-PairList-pairs-at-2}
use Rattle.types_10.proofs.Slices.{each_count, pairs_count, pairs_text, ValueIsWritable}
use Rattle.types_10.proofs.Slices.{PairIsWritable, values_are_writable, pairs_are_writable}
use Rattle.types_10.proofs.Slices.{map_sized, array_sized, array_capped}
use Rattle.types_10.proofs.measure.+measured.Goals as goal

pub measure_each-measure_value-requires : goal.measure_each-measure_value-requires
measure_each-measure_value-requires t c =
    let vs = c.args.values.now in
    let v = c.index-values-left.result in
    let i = c.loop-left.left - 1 in
    let within : i < length vs = omega arith in (
      omega (arith, c.decreases, at_most size-Value10 vs i v within, ap size-Value10 c.index-values-left.is),
      subst ValueIsWritable (sym c.index-values-left.is) (values_are_writable vs c.requires i v within),
    )

pub measure_pairs-measure_pair-requires : goal.measure_pairs-measure_pair-requires
measure_pairs-measure_pair-requires t c =
    let ps = c.args.pairs.now in
    let i = c.loop-pair.pair-index in
    let p = c.pair-item.result in
    let w = subst PairIsWritable (sym c.pair-item.is) (pairs_are_writable ps c.requires i p c.loop-pair-test.true) in (
      omega (arith, c.decreases, at_most (weighed-PairList-pairs-at-2.weight Value10 size-Value10) ps i p c.loop-pair-test.true, ap (weighed-PairList-pairs-at-2.weight Value10 size-Value10) c.pair-item.is),
      (w.0, w.1),
    )

pub measure_list-returns : goal.measure_list-returns
measure_list-returns t c =
    let vs = c.args.values.now in
    let w = written_each (trees_of (map value_tree vs)) in
    record {
      kind = c.plain.ensures.kind ∙ c.list_kind.ensures w.text c.measure_each-body.ensures.text ∙ ap (λ (n : ℕ). list_kind n w.text) (sym (each_count vs));
      front = c.plain.ensures.front;
      body = c.plain.ensures.body ∙ c.measure_each-body.ensures.text;
    }

pub measure_map-returns : goal.measure_map-returns
measure_map-returns t c =
    let ps = c.args.pairs.now in
    let w = written_pairs (pairs_of (map pair_trees ps)) in
    record {
      kind = c.plain.ensures.kind ∙ ap kind.Map (c.of.ensures w.1 c.measure_pairs-body.ensures) ∙ map_sized (2 * length ps) w.1 ∙ ap (λ (n : ℕ). map_kind n w.1) (sym (pairs_count ps));
      front = c.plain.ensures.front;
      body = c.plain.ensures.body ∙ c.measure_pairs-body.ensures;
    }

pub measure_array-returns : goal.measure_array-returns
measure_array-returns t c =
    let vs = c.args.values.now in
    let ts = trees_of (map value_tree vs) in
    let w = written_each ts in
    let body = array_capped c.measure_each-each.result ts (length vs) c.head_len.result c.measure_each-each.ensures c.requires.alike (sym (each_count vs)) c.head_len.ensures in
    let same : c.saturating_add-body.result ≡ capped (length (array_body w)) = omega (arith, body) in
    record {
      kind = c.plain.ensures.kind ∙ ap kind.Array (c.of.ensures (array_body w) same) ∙ array_sized (length vs) (array_body w) ∙ ap (λ (n : ℕ). array_kind n (array_body w)) (sym (each_count vs));
      front = c.plain.ensures.front;
      body = c.plain.ensures.body ∙ same;
    }

pub measure_pairs-returns : goal.measure_pairs-returns
measure_pairs-returns t c = grind (arith, common_steps, pairs_text c.args.pairs.now)

pub measure_value-returns-in-Described : goal.measure_value-returns-in-Described
measure_value-returns-in-Described t c =
    let d : value_tree c.deref-in-Described.result.now ≡ c.in-Described.descriptor = ap value_tree c.deref-in-Described.ensures ∙ c.descriptor.view_is in
    let v : value_tree c.deref-in-Described-2.result.now ≡ c.in-Described.value = ap value_tree c.deref-in-Described-2.ensures ∙ c.value.view_is in
    let whole : value_tree c.args.value.now ≡ described c.in-Described.descriptor c.in-Described.value = ap value_tree c.in-Described.is in
    subst (IsMeasure c.described.result) (cc (sym whole)) (c.described.ensures _ _ c.measure_value-descriptor.ensures c.measure_value.ensures)
