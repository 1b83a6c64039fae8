-- The protocol header of AMQP 0-9-1 (AMQP 0-9-1 4.2.2), and how a stream that begins with it is
-- scanned.
use Rattle.std.specs.Prelude.{ℕ, List, [], ◌∷◌}
use Rattle.wire_base.specs.declared.scan.At.{At}
use Rattle.wire_base.specs.declared.scan.Scan.{Scan}
use Rattle.wire_base.specs.Headers.{IsHeaderOf, first_header, PartAt}
use Rattle.frames_091.specs.declared.header.NotHeader.{NotHeader}

-- the letters AMQP, and the version 0-0-9-1
abbrev pub header_bytes : List ℕ
header_bytes = 65 ∷ 77 ∷ 81 ∷ 80 ∷ 0 ∷ 0 ∷ 9 ∷ 1 ∷ []

-- the header is its own only spelling
abbrev pub IsHeader : Unit {0} → List ℕ → Type 0
IsHeader = IsHeaderOf header_bytes

-- the header with which a stream begins
unfoldable pub header_scan : List ℕ → Scan (Unit {0}) (At NotHeader)
header_scan bytes = first_header (record {}) header_bytes bytes

-- the bytes and the header agree before this place, and differ there
abbrev pub IsHeaderFault : List ℕ → At NotHeader → Type 0
IsHeaderFault bytes at = PartAt header_bytes bytes at.at
