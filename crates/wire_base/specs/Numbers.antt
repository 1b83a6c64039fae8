-- Numbers on the wire: most significant byte first (AMQP 0-9-1 4.2.5.1; AMQP 1.0 1.6).
use Rattle.std.specs.Prelude.{ℕ, ◌+◌, ◌≤◌, List, length, take, drop, Option}
use Rattle.std.specs.Option.{SomeIff}
use Rattle.std.specs.Int.{Width, byte_len, from_be_bytes}

-- the number that stands at a place, where all of its bytes are there
abbrev pub ReadsNumber : Width → List ℕ → ℕ → Option ℕ → Type 0
ReadsNumber w bytes at read =
    SomeIff read (at + byte_len w ≤ length bytes) (from_be_bytes w (take (byte_len w)
    (drop at bytes)))
