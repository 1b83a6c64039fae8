-- The answers to the requests of a channel: told by the events of the life in progress.
use Rattle.std.specs.Prelude.{◌≡◌, ℕ, ◌++◌, List, Some}
use Rattle.session_path.specs.Events.{after_events}
use Rattle.session_path.specs.Laws.{oks_owed, oks_sent}
use Rattle.gate_model.specs.Publishing.{path_events, path_life}
use Rattle.gate_model.specs.State.{Step}

-- those that went and those that are due are those that became due, in the order of the requests,
-- each once (AMQP 0-9-1 2.2.2). A basic.get-ok is the one that goes as a deliver
abbrev pub AnswersInOrder : List Step → Type 0
AnswersInOrder h =
    (n life : ℕ) → path_life h n ≡ Some life
    → oks_sent (path_events h n) ++ (after_events life (path_events h n)).oks
    ≡ oks_owed life (path_events h n)
