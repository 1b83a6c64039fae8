-- What the loop asks of a pair's entries.
use Rattle.std.specs.Prelude.{ℕ, Bool, List, Option}
use Rattle.gate_outside.specs.declared.ports.End.{End}
use Rattle.gate_relay.specs.Entries.{Entry}

pub record RelayWords : Type 0 where
  -- bytes of an end are awaited
  pub awaits : End → List Entry → Bool
  -- something that came can be taken up
  pub takes_up : List Entry → Bool
  -- the connection upstream is to be asked for
  pub connects : List Entry → Bool
  -- the bytes that are offered to an end, if any
  pub offer : End → List Entry → Option (List ℕ)
  -- what is offered to an end may run out of memory
  pub takes_memory : End → List Entry → Bool
  -- an end is to be shut
  pub shut_due : End → List Entry → Bool
  -- the report lines that the newest entry adds
  pub lines : List Entry → List ℕ
