use Rattle.gate_laws.proofs.quotas_are_kept.Goals as goal

pub returns-clause-kept : goal.returns-clause-kept
returns-clause-kept c = λ s l m f p. c.quotas_are_kept.ensures _ (c.entries_are_lawful.ensures.picks s l m f p)

pub returns-clause-left : goal.returns-clause-left
returns-clause-left c = λ s l m f p. c.links_are_supplied.ensures.left _ (c.entries_are_lawful.ensures.picks s l m f p)
