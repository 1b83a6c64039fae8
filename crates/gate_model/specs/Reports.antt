-- The lines of the report on publishes and deliveries, by the steps.
use Rattle.std.specs.Prelude.{ℕ, zero, suc, ◌==◌, if◌then◌else◌, List, [], ◌++◌, Option, None, Some}
use Rattle.machine_091.specs.declared.limits.TheConstants.{CHANNEL_MAX}
use Rattle.open_items.specs.declared.lost.LostItem.{LostItem}
use Rattle.consume_path.specs.Laws as deliveries
use Rattle.publish_path.specs.Laws.{lines_by}
use Rattle.session_path.specs.Events.{PathEvent, deliveries_of, publishes_of}
use Rattle.gate_model.specs.Folds.{peers}
use Rattle.gate_model.specs.Publishing.{path_events, path_life}
use Rattle.gate_model.specs.State.{Step}

-- what the report is owed of a life, by what happened in it: of its publishes, and then of its
-- deliveries
abbrev pub lines_after : ℕ → List PathEvent → List LostItem
lines_after life es =
    lines_by life (publishes_of life es) ++ deliveries.lines_by life (deliveries_of life es)

-- where it is in progress on this channel
abbrev pub lines_if : Option ℕ → ℕ → List Step → ℕ → List LostItem
lines_if None life h n = []
lines_if (Some l) life h n = if l == life then lines_after life (path_events h n) else []

-- on the channels below n
abbrev pub lines_below : ℕ → List Step → ℕ → List LostItem
lines_below life h zero = []
lines_below life h (suc n) = lines_below life h n ++ lines_if (path_life h n) life h n

-- of lives 1 to j, by rising number
abbrev pub lines_upto : List Step → ℕ → List LostItem
lines_upto h zero = []
lines_upto h (suc j) = lines_upto h j ++ lines_below (suc j) h (suc CHANNEL_MAX)

-- all that it is owed: of each life its publishes, and then its deliveries, by their rising
-- numbers, the lives by theirs
abbrev pub lines_owed : List Step → List LostItem
lines_owed h = lines_upto h (peers h).opened
