-- How many channel.closes of the gateway a life of a channel has (AMQP 0-9-1 1.5.2.5).
use Rattle.std.specs.Prelude.{◌≡◌, ℕ, ◌+◌, ◌≤◌, Bool, false, if◌then◌else◌, List, [], ◌∷◌, Some}
use Rattle.gate_model.specs.declared.outgoing.Outgoing.TheVariants.{ToClient}
use Rattle.gate_model.specs.Once.{one_if}
use Rattle.gate_model.specs.Publishing.{opens_channel, path_life}
use Rattle.gate_model.specs.Reasons.{is_close_on}
use Rattle.gate_model.specs.State.{Gave, Step}

-- a channel.close of channel n goes
abbrev pub tells_close : ℕ → Step → Bool
tells_close n (Gave (ToClient u) text) = is_close_on n u
tells_close n s = false

-- how many went since the last channel.open of it
abbrev pub closes_since : ℕ → List Step → ℕ
closes_since n [] = 0
closes_since n (s ∷ h) =
    if opens_channel n h s then 0 else closes_since n h + one_if (tells_close n s)

-- in the life in progress at most one went
abbrev pub ClosesALifeOnce : List Step → Type 0
ClosesALifeOnce h = (n life : ℕ) → path_life h n ≡ Some life → closes_since n h ≤ 1
