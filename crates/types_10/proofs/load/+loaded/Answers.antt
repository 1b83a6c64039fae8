use Rattle.std.proofs.Common.{◌≡◌, ℕ, ◌+◌, ◌-◌, ◌*◌, ◌<◌, max, Bool, cond, List, length, drop, map, subst, sym, ap, ◌∙◌, arith}
use Rattle.std.proofs.lemmas.List.{at_drop_more}
use denote.Param.Weighed.{at_most}
use Rattle.types_10.specs.Kinds.{is_bare}
use Rattle.types_10.specs.Loads.{copies, element_load}
use Rattle.types_10.specs.Tree.{described, tree, trees_of}
use Rattle.types_10.specs.View.{value_tree}
use Rattle.types_10.specs.Writing.{written_each, first_descriptors}
use Rattle.types_10.specs.Measures.{capped, IsLoad, IsEachLoad}
use Rattle.types_10.specs.declared.value.Value10.{Value10}
use Rattle.types_10.specs.declared.value.Inner.TheDeep.{size-Value10}
use Rattle.types_10.specs.declared.value.Inner.TheShapes.{weighed-PairList-pairs-at-2}
use Rattle.types_10.proofs.Slices.{each_count, ValueIsWritable, PairIsWritable}
use Rattle.types_10.proofs.Slices.{values_are_writable, pairs_are_writable}
use Rattle.types_10.proofs.Capped.{capped_times}
use Rattle.types_10.proofs.load.+loaded.Goals as goal

pub loads_of-load_of-requires : goal.loads_of-load_of-requires
loads_of-load_of-requires t c =
    let vs = c.args.values.now in
    let v = c.index-values-left.result in
    let i = c.loop-left.left - 1 in
    let within : i < length vs = omega arith in (
      omega (arith, c.decreases, at_most size-Value10 vs i v within, ap size-Value10 c.index-values-left.is),
      subst ValueIsWritable (sym c.index-values-left.is) (values_are_writable vs c.requires i v within),
    )

pub loads_of-loop-left-preserved : goal.loads_of-loop-left-preserved
loads_of-loop-left-preserved t c =
    let vs = c.args.values.now in
    let v = c.index-values-left.result in
    let i = c.loop-left.left - 1 in
    let left : i + 1 ≡ c.loop-left.left = omega arith in
    let more = at_drop_more (λ (vs : List Value10). trees_of (map value_tree vs)) vs i v (omega arith) in
    let one : trees_of (map value_tree (drop i vs)) ≡ tree (value_tree v) (trees_of (map value_tree (drop c.loop-left.left vs))) = cc (more, left, c.index-values-left.is) in
    (omega arith, subst (IsEachLoad c.behind-each.result) (sym one) (c.behind-each.ensures _ _ c.load_of.ensures c.loop-left.invariant.1))

pub pairs_load_of-pair_load_of-requires : goal.pairs_load_of-pair_load_of-requires
pairs_load_of-pair_load_of-requires t c =
    let ps = c.args.pairs.now in
    let p = c.index-pairs-left.result in
    let i = c.loop-left.left - 1 in
    let within : i < length ps = omega arith in
    let w = subst PairIsWritable (sym c.index-pairs-left.is) (pairs_are_writable ps c.requires i p within) in (
      omega (arith, c.decreases, at_most (weighed-PairList-pairs-at-2.weight Value10 size-Value10) ps i p within, ap (weighed-PairList-pairs-at-2.weight Value10 size-Value10) c.index-pairs-left.is),
      (w.0, w.1),
    )

pub array_load-returns : goal.array_load-returns
array_load-returns t c =
    let vs = c.args.values.now in
    let ts = trees_of (map value_tree vs) in
    let w = written_each ts in
    let one = element_load (first_descriptors ts, w.kind) in
    let ds = first_descriptors ts in
    let bare : c.is_bare-bare.result ≡ is_bare w.kind = c.is_bare-bare.ensures ∙ ap is_bare c.measure_each.ensures.kind in
    let each_one : c.element_load-one.result ≡ capped one = c.element_load-one.ensures (copies ds) c.first_copies.ensures ∙ ap (λ (b : Bool). capped (max (copies ds) (cond b 1 0))) bare in
    let own : c.saturating_mul-own.result ≡ capped (w.count * one) = c.saturating_mul-own.ensures ∙ ap (λ n. capped (length vs * n)) each_one ∙ capped_times (length vs) one ∙ ap (λ (n : ℕ). capped (n * one)) (sym (each_count vs)) in
    record {
      front = c.plain.ensures.front;
      inner = omega (arith, c.plain.ensures.inner, own, c.loads_of-each.ensures.first, c.loads_of-each.ensures.inner);
    }

pub load_of-returns-in-Described : goal.load_of-returns-in-Described
load_of-returns-in-Described t c =
    let d : value_tree c.deref-in-Described.result.now ≡ c.in-Described.descriptor = ap value_tree c.deref-in-Described.ensures ∙ c.descriptor.view_is in
    let v : value_tree c.deref-in-Described-2.result.now ≡ c.in-Described.value = ap value_tree c.deref-in-Described-2.ensures ∙ c.value.view_is in
    let whole : value_tree c.args.value.now ≡ described c.in-Described.descriptor c.in-Described.value = ap value_tree c.in-Described.is in
    subst (IsLoad c.described.result) (cc (sym whole)) (c.described.ensures _ _ c.load_of-descriptor.ensures c.load_of.ensures)
