use Rattle.gate_pair.proofs.Lawfuls.{lawful}
use Rattle.gate_pair.proofs.laws.entries_are_lawful.Goals as goal

pub returns : goal.returns
returns c = lawful (record {
  beats = c.times_are_kept.ensures.beats_at_once;
  goes = c.containers_are_asked.ensures.goes;
  shuts = c.times_are_kept.ensures.shuts_at_once;
  shuts_up = c.containers_are_left.ensures;
  late = c.times_are_kept.ensures.late;
})
