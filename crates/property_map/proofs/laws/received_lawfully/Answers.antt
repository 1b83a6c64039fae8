use Rattle.std.proofs.Common.{◌≤◌, length}
use Rattle.content_091.specs.Writing.{header_text}
use Rattle.property_map.specs.Received.{header_of, received_in}
use Rattle.property_map.proofs.ReceivedBounds.{all_received, received_bounds}
use Rattle.property_map.proofs.laws.received_lawfully.Goals as goal

pub returns-clause-exchange : goal.returns-clause-exchange
returns-clause-exchange c =
    λ queue room bytes. all_received (λ m. length m.exchange ≤ 255) room (received_in queue room bytes) (λ m b. b.exchange) (received_bounds queue room bytes)

pub returns-clause-key : goal.returns-clause-key
returns-clause-key c =
    λ queue room bytes. all_received (λ m. length m.key ≤ 255) room (received_in queue room bytes) (λ m b. b.key) (received_bounds queue room bytes)

pub returns-clause-header : goal.returns-clause-header
returns-clause-header c =
    λ queue room bytes. all_received (λ m. length (header_text (header_of m)) ≤ room) room (received_in queue room bytes) (λ m b. b.header) (received_bounds queue room bytes)
