-- Each law as its lemma states it.
use Rattle.gate_turn_laws.proofs.Laws.{keeps_turns}
use Rattle.gate_turn_laws.proofs.runs_keep_turns.Goals as goal

pub returns : goal.returns
returns c = keeps_turns
