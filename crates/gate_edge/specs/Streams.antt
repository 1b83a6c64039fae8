-- What a reader gives and a writer takes, where their bytes are known.
use Rattle.std.specs.Prelude.{◌≡◌, ℕ, ◌<◌, List, length, take, Option, None, Some}
use Rattle.std.specs.Io.KnownBytes.{Keeps, Appends, Consumes, IsAtEnd}

-- the bytes that came are the next ones of the reader, which ends only where none is left; without
-- an answer it gave none
abbrev pub SomeRead : Option ℕ → List ℕ → Option (List ℕ) → Option (List ℕ) → Type 0
SomeRead (Some n) buffer old new =
    Consumes old new (take n buffer) × (n ≡ 0 → 0 < length buffer → IsAtEnd new)
SomeRead None buffer old new = Keeps old new

-- the writer took that many of the bytes, and without an answer none
abbrev pub SomeWrite : Option ℕ → List ℕ → Option (List ℕ) → Option (List ℕ) → Type 0
SomeWrite (Some n) bytes old new = Appends old new (take n bytes)
SomeWrite None bytes old new = Keeps old new
