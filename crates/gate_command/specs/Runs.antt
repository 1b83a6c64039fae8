-- Runs of the service, with all their laws.
use Rattle.std.specs.Prelude.{ℕ, List, Option}
use Rattle.gate_model.specs.Frames.{FitsContainers}
use Rattle.gate_model.specs.Setup.{SetupText}
use Rattle.gate_pair.specs.Meaning.{pair_words, steps_of}
use Rattle.gate_runs.specs.declared.limits.Limits.{Limits}
use Rattle.gate_runs.specs.declared.served.Served.{Served}
use Rattle.gate_runs.specs.Journal.{journal}
use Rattle.gate_runs.specs.Marks.{History}
use Rattle.gate_runs.specs.Serving.{IsServed}
use Rattle.gate_laws.specs.Laws.{IsLawfulThroughout}

-- the calls are a run of the service whose pairs share s, with what the report and the record of
-- calls held before and hold after it, and all its laws hold at each point of it
pub record IsRunOf (s : SetupText) (c : Limits) (how : Served) (count : ℕ)
    (held held' kept kept' : Option (List ℕ)) (m : History) : Type 0 where
  pub served : IsServed (pair_words s) c how count held held' kept kept' m
  pub lawful : IsLawfulThroughout s c m
  -- no frame that went to a container passes its limit
  pub frames_up : (p : ℕ) → FitsContainers s (steps_of s (journal p m))
