-- All the laws of the turns together.
use Rattle.gate_relay.specs.RelayWords.{RelayWords}
use Rattle.gate_runs.specs.declared.limits.Limits.{Limits}
use Rattle.gate_runs.specs.Marks.{History}
use Rattle.gate_runs.specs.Serving.{Follows}
use Rattle.gate_turn_laws.specs.Laws.{KeepsTurns}
use Rattle.gate_turn_laws.proofs.Asks.{asks_live}
use Rattle.gate_turn_laws.proofs.Ends.{ends_once, turns_did}
use Rattle.gate_turn_laws.proofs.Lines.{tells_in_order}
use Rattle.gate_turn_laws.proofs.Log.{follows_log, marks_by_calls}
use Rattle.gate_turn_laws.proofs.Memory.{counts_run_outs}
use Rattle.gate_turn_laws.proofs.Moments.{never_falls}
use Rattle.gate_turn_laws.proofs.Once.{comes_once}
use Rattle.gate_turn_laws.proofs.Order.{ordered}
use Rattle.gate_turn_laws.proofs.Pairs.{lives_or_shut, of_pair}
use Rattle.gate_turn_laws.proofs.Quiet.{idles_at_rest}
use Rattle.gate_turn_laws.proofs.Relayed.{relayed}
use Rattle.gate_turn_laws.proofs.Turns.{keeps_order}
use Rattle.gate_turn_laws.proofs.Visits.{visits_all}
use Rattle.gate_turn_laws.proofs.Within.{within}
use Rattle.gate_turn_laws.proofs.Writes.{writes_few}

pub keeps_turns : (w : RelayWords) (c : Limits) (m : History) → Follows w c m → KeepsTurns w c m
keeps_turns w c m f = record {
  asked = relayed w c m f;
  begun = of_pair w c m f;
  live = asks_live w c m f;
  pairs = λ p. lives_or_shut w c p m f;
  ordered = ordered w c m f;
  places = keeps_order w c m f;
  once = comes_once w c m f;
  writes = writes_few w c m f;
  visits = visits_all w c m f;
  rests = λ steady. idles_at_rest w c m steady f;
  ends = ends_once w c m f;
  turns = turns_did w c m f;
  limits = within w c m f;
  memory = counts_run_outs w c m f;
  moments = never_falls w c m f;
  lines = tells_in_order w c m f;
  log = follows_log w c m f;
  alone = marks_by_calls w c m f;
}
