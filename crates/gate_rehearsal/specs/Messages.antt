-- How long the messages of a rehearsal are: message i, from 0, has a body of 37 * i mod 4096 bytes.
use Rattle.std.specs.Prelude.{ℕ, ◌*◌, ◌%◌}

abbrev pub body_length : ℕ → ℕ
body_length i = (37 * i) % 4096
