use Rattle.gate_laws.proofs.owed_units_go.Goals as goal

pub returns : goal.returns
returns c = record {
  clients = λ s l m f p. c.owed_units_go.ensures.clients _ (c.entries_are_lawful.ensures.picks s l m f p);
  containers = λ s l m f p. c.owed_units_go.ensures.containers _ (c.entries_are_lawful.ensures.picks s l m f p);
  sessions = λ s l m f p. c.sessions_get_what_is_due.ensures _ (c.entries_are_lawful.ensures.picks s l m f p);
  filled = λ s l m f p. c.links_are_supplied.ensures.filled _ (c.entries_are_lawful.ensures.picks s l m f p);
  attached = λ s l m f p. c.links_are_supplied.ensures.attached _ (c.entries_are_lawful.ensures.picks s l m f p);
  detached = λ s l m f p. c.links_are_supplied.ensures.detached _ (c.entries_are_lawful.ensures.picks s l m f p);
  replies = λ s l m f p. c.clients_get_what_is_due.ensures _ (c.entries_are_lawful.ensures.picks s l m f p);
}
