use Rattle.gate_laws.proofs.deliveries_are_settled.Goals as goal

pub returns-clause-taken : goal.returns-clause-taken
returns-clause-taken c = λ s l m f p. c.deliveries_are_taken_as_asked.ensures _ (c.entries_are_lawful.ensures.picks s l m f p)
