use Rattle.std.proofs.Common.{◌≡◌, List, map, sym, ap, ◌∙◌}
use Rattle.types_10.specs.Tree.{Tree, list, mapping, array, trees_of, pairs_of}
use Rattle.types_10.specs.View.{value_tree, pair_trees}
use Rattle.types_10.proofs.Alone.{trees_same, pairs_same}
use Rattle.types_10.proofs.spelling.+same.Goals as goal

pub is_same-returns-in-List-List : goal.is_same-returns-in-List-List
is_same-returns-in-List-List t c =
    let i = c.in-List-List in
    let one : map value_tree c.deref.result.now ≡ i.one = ap (map value_tree) c.deref.ensures.value ∙ c.one.view_is in
    let other : map value_tree c.deref-in-List-List.result.now ≡ i.other = ap (map value_tree) c.deref-in-List-List.ensures.value ∙ c.other.view_is in
    let first : value_tree c.args.one.now ≡ list (trees_of i.one) = ap value_tree i.is-0 in
    let second : value_tree c.args.other.now ≡ list (trees_of i.other) = ap value_tree i.is-1 in (
      (λ e. first ∙ ap (λ (ts : List Tree). list (trees_of ts)) (sym one ∙ c.are_same.ensures.0 e ∙ other) ∙ sym second),
      λ e.
          let whole : list (trees_of i.one) ≡ list (trees_of i.other) = sym first ∙ e ∙ second in
          let same : i.one ≡ i.other = trees_same i.one i.other cc in
          c.are_same.ensures.1 (one ∙ same ∙ sym other),
    )

pub is_same-returns-in-Array-Array : goal.is_same-returns-in-Array-Array
is_same-returns-in-Array-Array t c =
    let i = c.in-Array-Array in
    let one : map value_tree c.deref-in-Array-Array.result.now ≡ i.one = ap (map value_tree) c.deref-in-Array-Array.ensures.value ∙ c.one-in-Array-Array.view_is in
    let other : map value_tree c.deref-in-Array-Array-2.result.now ≡ i.other = ap (map value_tree) c.deref-in-Array-Array-2.ensures.value ∙ c.other-in-Array-Array.view_is in
    let first : value_tree c.args.one.now ≡ array (trees_of i.one) = ap value_tree i.is-0 in
    let second : value_tree c.args.other.now ≡ array (trees_of i.other) = ap value_tree i.is-1 in (
      (λ e. first ∙ ap (λ (ts : List Tree). array (trees_of ts)) (sym one ∙ c.are_same-in-Array-Array.ensures.0 e ∙ other) ∙ sym second),
      λ e.
          let whole : array (trees_of i.one) ≡ array (trees_of i.other) = sym first ∙ e ∙ second in
          let same : i.one ≡ i.other = trees_same i.one i.other cc in
          c.are_same-in-Array-Array.ensures.1 (one ∙ same ∙ sym other),
    )

pub is_same-returns-in-Map-Map : goal.is_same-returns-in-Map-Map
is_same-returns-in-Map-Map t c =
    let i = c.in-Map-Map in
    let one : map pair_trees c.deref-in-Map-Map.result.now ≡ i.one = ap (map pair_trees) c.deref-in-Map-Map.ensures.value ∙ c.one-in-Map-Map.view_is in
    let other : map pair_trees c.deref-in-Map-Map-2.result.now ≡ i.other = ap (map pair_trees) c.deref-in-Map-Map-2.ensures.value ∙ c.other-in-Map-Map.view_is in
    let first : value_tree c.args.one.now ≡ mapping (pairs_of i.one) = ap value_tree i.is-0 in
    let second : value_tree c.args.other.now ≡ mapping (pairs_of i.other) = ap value_tree i.is-1 in (
      (λ e. first ∙ ap (λ (ps : List (Tree × Tree)). mapping (pairs_of ps)) (sym one ∙ c.pairs_are_same.ensures.0 e ∙ other) ∙ sym second),
      λ e.
          let whole : mapping (pairs_of i.one) ≡ mapping (pairs_of i.other) = sym first ∙ e ∙ second in
          let same : i.one ≡ i.other = pairs_same i.one i.other cc in
          c.pairs_are_same.ensures.1 (one ∙ same ∙ sym other),
    )
