use Rattle.std.proofs.lemmas.List.{map_push}
use Rattle.types_10.proofs.RangeLaws.{list_push}
use Rattle.types_10.proofs.value.ValueList.push.Goals as goal

pub invariant_of-self-2 : goal.invariant_of-self-2
invariant_of-self-2 c = rw (c.in_ok-push.ensures.items, map_push) (list_push _ _ c.self.invariant c.tell_ranges.ensures)
