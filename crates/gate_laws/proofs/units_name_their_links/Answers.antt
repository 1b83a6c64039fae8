use Rattle.gate_laws.proofs.units_name_their_links.Goals as goal

pub returns-clause-heard : goal.returns-clause-heard
returns-clause-heard c = λ s l m f p. c.containers_name_their_links.ensures _ (c.entries_are_lawful.ensures.picks s l m f p)
