-- When the state of a ferry is what its entries say.
use Rattle.std.specs.Prelude.{◌≡◌, ℕ, List, Option}
use Rattle.gate_outside.specs.declared.ports.End.{End}
use Rattle.gate_relay.specs.Entries.{Entry, is_out_of_memory}
use Rattle.gate_relay.specs.Sides.{sides}
use Rattle.tests_gate.specs.declared.gate.ferry.Ferry.{Ferry}
use Rattle.tests_gate.specs.FerryWords.{for_client, for_up, is_settled, order, note_of, offered}

-- a state is what the entries say
pub record Represents (t : Ferry) (h : List Entry) : Type 0 where
  pub client : t.for_client ≡ for_client h
  pub up : t.for_up ≡ for_up h
  pub sides : t.sides ≡ sides h
  pub order : t.order ≡ order h
  pub settled : t.settled ≡ is_settled h
  pub memory : t.out_of_memory ≡ is_out_of_memory h
  pub told : t.note ≡ note_of h

-- what is offered to an end
abbrev pub is_ready : Ferry → End → Option (List ℕ)
is_ready t end = offered t.for_client t.for_up t.settled end
