use Rattle.gate_laws.proofs.sessions_end_in_time.Goals as goal

pub returns-clause-once : goal.returns-clause-once
returns-clause-once c = λ s l m f p. c.sessions_end_once.ensures _ (c.entries_are_lawful.ensures.picks s l m f p)

pub returns-clause-lost : goal.returns-clause-lost
returns-clause-lost c = λ s l m f p. c.lost_containers_end_publishes.ensures _ (c.entries_are_lawful.ensures.picks s l m f p)
