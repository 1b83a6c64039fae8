use Rattle.gate_ends.proofs.OpenEndLemmas.{none_below, none_distinct}
use Rattle.gate_ends.proofs.open_ends.OpenEnds.new.Goals as goal

pub invariant_of-result-clause-below : goal.invariant_of-result-clause-below
invariant_of-result-clause-below g c = none_below _ c.in_ok-with_capacity.field-0.items c.in_ok-with_capacity.ensures.items

pub invariant_of-result-clause-distinct : goal.invariant_of-result-clause-distinct
invariant_of-result-clause-distinct g c = none_distinct c.in_ok-with_capacity.field-0.items c.in_ok-with_capacity.ensures.items
