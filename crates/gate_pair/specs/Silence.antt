-- When an end is given up, of entries: at the first moment at which no byte of it came for too
-- long. Moments are in milliseconds.
use Rattle.std.specs.Prelude.{◌≡◌, false, List, [], ◌∷◌}
use Rattle.gate_outside.specs.declared.ports.End.{End}
use Rattle.gate_relay.specs.Entries.{Entry, Moment}
use Rattle.gate_model.specs.Due.{is_silent}
use Rattle.gate_model.specs.Setup.{SetupText}
use Rattle.gate_model.specs.Silence.{SilentAtOnce, SilentWhenDue}
use Rattle.gate_pair.specs.Meaning.{state_of, steps_of}

-- behind each moment no end is left that is to be given up
abbrev pub NoneIsSilent : SetupText → List Entry → Type 0
NoneIsSilent s [] = Unit {0}
NoneIsSilent s (Moment ms ∷ h) =
    ((end : End) → is_silent (state_of s (Moment ms ∷ h)) end ≡ false) × NoneIsSilent s h
NoneIsSilent s (e ∷ h) = NoneIsSilent s h

pub record GivesUp (s : SetupText) (h : List Entry) : Type 0 where
  -- each end that was given up was it where that might be
  pub due : SilentWhenDue (steps_of s h)
  -- it is to be exactly there
  pub at_once : SilentAtOnce (steps_of s h)
  -- and no moment passes
  pub at_moments : NoneIsSilent s h
