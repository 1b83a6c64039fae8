-- What an end's stream gives and takes, where its bytes are known.
use Rattle.std.specs.Prelude.{◌≡◌, ℕ, List, [], ◌++◌, take, Option, None, Some}
use Rattle.std.specs.Io.KnownBytes.{Keeps, Consumes, IsAtEnd}
use Rattle.gate_outside.specs.declared.ports.Got.{Got}
use Rattle.gate_outside.specs.declared.ports.Got.TheVariants as got
use Rattle.gate_outside.specs.declared.ports.Put.{Put}
use Rattle.gate_outside.specs.declared.ports.Put.TheVariants as put

-- the bytes that came are the next ones of the stream, and it ends only where none is left
abbrev pub Gives : Got → List ℕ → Option (List ℕ) → Option (List ℕ) → Type 0
Gives (got.Bytes n) buffer old new = Consumes old new (take n buffer)
Gives got.Ended buffer old new = Consumes old new [] × IsAtEnd new
Gives got.NotYet buffer old new = Keeps old new
Gives got.Failed buffer old new = Keeps old new

-- the bytes that a write took
abbrev pub put_bytes : Put → List ℕ → List ℕ
put_bytes (put.Took n) bytes = take n bytes
put_bytes put.NotYet bytes = []
put_bytes put.Failed bytes = []

-- what went out before and what waited then are what went out since and what waits now, in the same
-- order
abbrev pub SameInAll : Option (List ℕ) → List ℕ → Option (List ℕ) → List ℕ → Type 0
SameInAll None waited new waits = Unit {0}
SameInAll (Some sent) waited None waits = ⊥
SameInAll (Some sent) waited (Some more) waits = more ++ waits ≡ sent ++ waited
