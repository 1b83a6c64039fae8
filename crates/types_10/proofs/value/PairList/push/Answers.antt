use Rattle.std.proofs.lemmas.List.{map_push}
use Rattle.types_10.proofs.RangeLaws.{pairs_push}
use Rattle.types_10.proofs.value.PairList.push.Goals as goal

pub invariant_of-self-2 : goal.invariant_of-self-2
invariant_of-self-2 c = rw (c.in_ok-push.ensures.items, map_push) (pairs_push _ _ c.self.invariant c.tell_ranges.ensures c.tell_ranges-2.ensures)
