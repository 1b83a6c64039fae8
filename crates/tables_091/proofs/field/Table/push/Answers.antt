use Rattle.std.proofs.lemmas.List.{map_push}
use Rattle.tables_091.proofs.Ranges.{entries_push}
use Rattle.tables_091.proofs.field.Table.push.Goals as goal

pub invariant_of-self-2 : goal.invariant_of-self-2
invariant_of-self-2 c = rw (c.in_ok-push.ensures.items, map_push) (entries_push _ _ c.self.invariant c.tell_field_ranges.ensures)
