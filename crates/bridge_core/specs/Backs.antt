-- What can be written back to a client.
use Rattle.std.specs.Prelude.{ℕ, ◌≤◌, if◌then◌else◌, List, length, Option, None, Some}
use Rattle.content_091.specs.Writing.{CanPut}
use Rattle.property_map.specs.declared.message.Message091.{Message091}
use Rattle.gate_model.specs.Returns.{header_of, is_within}

-- the names are short strings, and so are the properties that are some, as far as these have a
-- spelling (AMQP 0-9-1 4.2.5.3)
pub record IsWritable (m : Message091) : Type 0 where
  pub exchange : length m.exchange ≤ 255
  pub key : length m.key ≤ 255
  pub header : CanPut (header_of m)

-- a frame that its client takes
abbrev pub fitted : ℕ → List ℕ → Option (List ℕ)
fitted limit frame = if is_within limit frame then Some frame else None
