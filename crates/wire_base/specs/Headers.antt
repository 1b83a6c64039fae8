-- Protocol headers: a fixed text with which a stream begins (AMQP 0-9-1 4.2.2; AMQP 1.0 2.2), for
-- any text and any fault.
use Rattle.std.specs.Prelude.{◌≡◌, ◌≢◌, ℕ, ◌<◌, ◌==◌, nat_eq, if◌then◌else◌, List, length, take}
use Rattle.std.specs.Prelude.{slice_index}
use Rattle.std.specs.List.{common_prefix_len}
use Rattle.wire_base.specs.declared.scan.At.{At}
use Rattle.wire_base.specs.declared.scan.Scan.{Scan}
use Rattle.wire_base.specs.declared.scan.Scan.TheVariants.{Whole, More, Bad}

-- a header is its own only spelling
abbrev pub IsHeaderOf : List ℕ → Unit {0} → List ℕ → Type 0
IsHeaderOf header unit bytes = bytes ≡ header

-- how many bytes agree with the header, from the front on
abbrev pub agreed_with : List ℕ → List ℕ → ℕ
agreed_with header bytes = common_prefix_len nat_eq bytes header

-- by that number: the header is whole, or the bytes end within it, or they part from it
abbrev pub scan_agreed : {F : Type 0} → F → ℕ → List ℕ → List ℕ → Scan (Unit {0}) (At F)
scan_agreed fault agreed header bytes =
    if agreed == length header then Whole tt (length header) else
    (if agreed == length bytes then More else Bad (record { fault = fault; at = agreed }))

-- the header with which a stream begins
unfoldable pub first_header : {F : Type 0} → F → List ℕ → List ℕ → Scan (Unit {0}) (At F)
first_header fault header bytes = scan_agreed fault (agreed_with header bytes) header bytes

-- the bytes and the header agree before this place, and differ there
abbrev pub PartAt : List ℕ → List ℕ → ℕ → Type 0
PartAt header bytes at =
    (at < length bytes) × (at < length header) × (take at bytes ≡ take at header)
    × (slice_index bytes at ≢ slice_index header at)
