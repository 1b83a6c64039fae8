use Rattle.std.proofs.Common.{◌≡◌, ◌+◌, ◌*◌, ◌++◌, take}
use Rattle.std.specs.List.{flat_map}
use Rattle.types_10.specs.Measures.{pair_text}
use Rattle.types_10.proofs.Slices.{whole_text, content_text}
use Rattle.types_10.proofs.writing.+whole.Given as goal

abbrev pub invariant-put_each-loop-value : goal.invariant-put_each-loop-value
invariant-put_each-loop-value l = l.out ≡ l.fn.out ++ flat_map whole_text (take l.value-index l.values)

abbrev pub invariant-put_pairs-loop-pair : goal.invariant-put_pairs-loop-pair
invariant-put_pairs-loop-pair l = l.out ≡ l.fn.out ++ flat_map pair_text (take l.pair-index l.pairs)

abbrev pub invariant-put_contents-loop-value : goal.invariant-put_contents-loop-value
invariant-put_contents-loop-value l = l.out ≡ l.fn.out ++ flat_map (content_text l.kind) (take l.value-index l.values)

abbrev pub decreases-put_held : goal.decreases-put_held
decreases-put_held l = 8 * goal.size-put_held l

abbrev pub decreases-put_content : goal.decreases-put_content
decreases-put_content l = 8 * goal.size-put_content l + 1

abbrev pub decreases-put_front : goal.decreases-put_front
decreases-put_front l = 8 * goal.size-put_front l + 1

abbrev pub decreases-put_whole : goal.decreases-put_whole
decreases-put_whole l = 8 * goal.size-put_whole l + 2

abbrev pub decreases-put_pair : goal.decreases-put_pair
decreases-put_pair l = 8 * goal.size-put_pair l + 3

abbrev pub decreases-put_each : goal.decreases-put_each
decreases-put_each l = 8 * goal.size-put_each l + 3

abbrev pub decreases-put_contents : goal.decreases-put_contents
decreases-put_contents l = 8 * goal.size-put_contents l + 3

abbrev pub decreases-put_first_front : goal.decreases-put_first_front
decreases-put_first_front l = 8 * goal.size-put_first_front l + 3

abbrev pub decreases-put_pairs : goal.decreases-put_pairs
decreases-put_pairs l = 8 * goal.size-put_pairs l + 4

abbrev pub decreases-put_list : goal.decreases-put_list
decreases-put_list l = 8 * goal.size-put_list l + 4

abbrev pub decreases-put_array : goal.decreases-put_array
decreases-put_array l = 8 * goal.size-put_array l + 4

abbrev pub decreases-put_map : goal.decreases-put_map
decreases-put_map l = 8 * goal.size-put_map l + 5
