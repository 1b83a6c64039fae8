use Rattle.gate_pair.proofs.Timings.{keeps_times}
use Rattle.gate_pair.proofs.laws.times_are_kept.Goals as goal

pub returns : goal.returns
returns c = keeps_times (record {
  beats = c.times_are_kept.ensures.beats_at_once;
  goes = c.containers_are_asked.ensures.goes;
  shuts = c.times_are_kept.ensures.shuts_at_once;
  shuts_up = c.containers_are_left.ensures;
  late = c.times_are_kept.ensures.late;
})
