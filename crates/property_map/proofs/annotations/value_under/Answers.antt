use Rattle.std.proofs.Common.{sym, ◌∙◌, arith}
use Rattle.std.proofs.lemmas.Bool.Decides.{nat_tests}
use Rattle.types_10.specs.Tree.{pairs_of}
use Rattle.types_10.specs.View.{pair_trees}
use Rattle.property_map.specs.Rows091.{value_under}
use Rattle.property_map.proofs.Places.{found_at, none_past}
use Rattle.property_map.proofs.FieldLoops.{under_next, under_at, under_past}
use Rattle.property_map.proofs.annotations.value_under.Goals.{else-loop-k-test}
use Rattle.property_map.proofs.annotations.value_under.Goals.{then-loop-k-test+in_default}
use Rattle.property_map.proofs.annotations.value_under.Goals as goal

pub returns-then-is_symbol : goal.returns-then-is_symbol
returns-then-is_symbol c =
    let is = found_at (λ q. pair_trees q.now) c.get.result c.in-Some.field-0 c.args.pairs.now c.loop-k.k c.in-Some.is c.get.ensures in
    under_at c.args.name.now c.args.pairs.now c.loop-k.k (pair_trees c.in-Some.field-0.now) (value_under c.args.name.now (pairs_of c.args.pairs.now)) is (sym c.is_symbol.ensures ∙ c.if-is_symbol.true) c.loop-k.invariant

pub loop-k-preserved : goal.loop-k-preserved
loop-k-preserved c =
    let is = found_at (λ q. pair_trees q.now) c.get.result c.in-Some.field-0 c.args.pairs.now c.loop-k.k c.in-Some.is c.get.ensures in
    under_next c.args.name.now c.args.pairs.now c.loop-k.k (pair_trees c.in-Some.field-0.now) (value_under c.args.name.now (pairs_of c.args.pairs.now)) is (sym c.is_symbol.ensures ∙ c.if-is_symbol.false) c.loop-k.invariant

pub returns : goal.returns
returns c = elim c.loop-k-test.branch [
  | else-loop-k-test w ↦
      under_past c.args.name.now c.args.pairs.now c.loop-k.k (value_under c.args.name.now (pairs_of c.args.pairs.now)) (grind (arith, nat_tests, w.loop-k-test.false, c.len.ensures)) c.loop-k.invariant
  | then-loop-k-test+in_default w ↦
      under_past c.args.name.now c.args.pairs.now c.loop-k.k (value_under c.args.name.now (pairs_of c.args.pairs.now)) (none_past (λ q. pair_trees q.now) w.get.result c.args.pairs.now c.loop-k.k w.in_default.is w.get.ensures) c.loop-k.invariant
]
