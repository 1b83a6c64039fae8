-- The protocol headers of AMQP 1.0: version 1.0.0 of AMQP itself (2.2), and of its security layer
-- (5.3.2).
use Rattle.std.specs.Prelude.{ℕ, List, [], ◌∷◌}
use Rattle.wire_base.specs.declared.scan.At.{At}
use Rattle.wire_base.specs.declared.scan.Scan.{Scan}
use Rattle.wire_base.specs.Headers.{IsHeaderOf, first_header, PartAt}
use Rattle.frames_10.specs.declared.frame.Kind10.{Kind10}
use Rattle.frames_10.specs.declared.frame.Kind10.TheVariants.{Amqp, Sasl}
use Rattle.frames_10.specs.declared.header.NotHeader.{NotHeader}

-- the letters AMQP, the protocol's id, and the version
abbrev pub header_bytes : Kind10 → List ℕ
header_bytes Amqp = 65 ∷ 77 ∷ 81 ∷ 80 ∷ 0 ∷ 1 ∷ 0 ∷ 0 ∷ []
header_bytes Sasl = 65 ∷ 77 ∷ 81 ∷ 80 ∷ 3 ∷ 1 ∷ 0 ∷ 0 ∷ []

-- the header is its own only spelling
abbrev pub IsHeader : Kind10 → Unit {0} → List ℕ → Type 0
IsHeader kind = IsHeaderOf (header_bytes kind)

-- the header with which a stream begins
abbrev pub header_scan : Kind10 → List ℕ → Scan (Unit {0}) (At NotHeader)
header_scan kind = first_header (record {}) (header_bytes kind)

-- the bytes and the header agree before this place, and differ there
abbrev pub IsHeaderFault : Kind10 → List ℕ → At NotHeader → Type 0
IsHeaderFault kind bytes at = PartAt (header_bytes kind) bytes at.at
