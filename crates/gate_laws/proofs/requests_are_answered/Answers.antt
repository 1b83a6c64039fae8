use Rattle.gate_laws.proofs.requests_are_answered.Goals as goal

pub returns-clause-met : goal.returns-clause-met
returns-clause-met c = λ s l m f p. c.wishes_are_met.ensures _ (c.entries_are_lawful.ensures.picks s l m f p)
