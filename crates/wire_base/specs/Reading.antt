-- Readers as functions on lists: what a reader gives is a value and the bytes after it, or the
-- first fault. Numbers, texts behind their length, and items, for both protocols (AMQP 0-9-1 4.2.5;
-- AMQP 1.0 1.6). A reader knows the offset at which its bytes end, so the offset of what is left is
-- that end less its length.
use Rattle.std.specs.Prelude.{◌≡◌, ℕ, zero, suc, ◌-◌, List, [], ◌∷◌, length, take, drop, Result, Ok}
use Rattle.std.specs.Prelude.{Err, nat_lt, if◌then◌else◌}
use Rattle.std.specs.Int.{Width, byte_len, from_be_bytes}
use Rattle.wire_base.specs.declared.stop.Stop.{Stop}
use Rattle.wire_base.specs.declared.stop.Stop.TheVariants as stop

-- a value and the bytes after it, or the first fault
abbrev pub Reads : Type 0 → Type 0 → Type 0
Reads A F = Result (A × List ℕ) F

-- one step and then another, up to the first fault
infixl 10 ◌>>=◌
abbrev pub ◌>>=◌ : {A B F : Type 0} → Result A F → (A → Result B F) → Result B F
(Ok x) >>= f = f x
(Err e) >>= f = Err e

-- the fault that is told by its offset alone
abbrev pub offset : ℕ → ℕ
offset at = at

-- what was read, made into another value
abbrev pub made : {A B F : Type 0} → (A → B) → Reads A F → Reads B F
made make read = read >>= λ x. Ok (make x.0, x.1)

-- one value and then another
abbrev pub pair_in : {A B F : Type 0} → (ℕ → List ℕ → Reads A F) → (ℕ → List ℕ → Reads B F) → ℕ
    → List ℕ → Reads (A × B) F
pair_in first second end bytes = do
  a ← first end bytes
  b ← second end a.1
  Ok ((a.0, b.0), b.1)

-- a number of this width, most significant byte first; where it is cut off, the fault at its first
-- byte
abbrev pub number_in : {F : Type 0} → (ℕ → F) → Width → ℕ → List ℕ → Reads ℕ F
number_in fault w end bytes =
    if nat_lt (length bytes) (byte_len w) then Err (fault (end - length bytes)) else Ok
    (from_be_bytes w (take (byte_len w) bytes), drop (byte_len w) bytes)

-- a length of this width and so many bytes; where the length is cut off or passes what is there,
-- the fault at the length
unfoldable pub text_in : {F : Type 0} → (ℕ → F) → Width → ℕ → List ℕ → Reads (List ℕ) F
text_in fault w end bytes = do
  n ← number_in fault w end bytes
  if nat_lt (length n.1) n.0 then Err (fault (end - length bytes)) else Ok
      (take n.0 n.1, drop n.0 n.1)

-- a value of at least so many bytes; where fewer are there, the fault at its first byte
abbrev pub whole_in : {A F : Type 0} → (ℕ → F) → ℕ → (ℕ → List ℕ → Reads A F) → ℕ → List ℕ
    → Reads A F
whole_in fault n read end bytes =
    if nat_lt (length bytes) n then Err (fault (end - length bytes)) else read end bytes

-- items until nothing is left, at most so many; where bytes are left behind them, the fault at the
-- first of these
abbrev pub many : {A F : Type 0} → (ℕ → F) → (ℕ → List ℕ → Reads A F) → ℕ → ℕ → List ℕ
    → Result (List A) F
many fault read end most [] = Ok []
many fault read end zero (b ∷ bytes) = Err (fault (end - length (b ∷ bytes)))
many fault read end (suc most) (b ∷ bytes) = do
  x ← read end (b ∷ bytes)
  xs ← many fault read end most x.1
  Ok (x.0 ∷ xs)

-- items until nothing is left: there are no more than bytes, as each takes one at least
unfoldable pub all_items : {A F : Type 0} → (ℕ → F) → (ℕ → List ℕ → Reads A F) → ℕ → List ℕ
    → Result (List A) F
all_items fault read end body = many fault read end (length body) body

-- a length of this width, and items that fill exactly so many bytes
abbrev pub container_in : {A F : Type 0} → (ℕ → F) → Width → (ℕ → List ℕ → Reads A F) → ℕ
    → List ℕ → Reads (List A) F
container_in fault w read end bytes = do
  body ← text_in fault w end bytes
  items ← all_items fault read (end - length body.1) body.0
  Ok (items, body.1)

-- so many items, one after another
unfoldable pub times : {A F : Type 0} → (List ℕ → Reads A F) → ℕ → List ℕ → Reads (List A) F
times read zero bytes = Ok ([], bytes)
times read (suc count) bytes = do
  x ← read bytes
  xs ← times read count x.1
  Ok (x.0 ∷ xs.0, xs.1)

-- why a function stopped is the fault that reading gives, unless memory ran out
abbrev pub Stops : {Y F : Type 0} → Stop F → Result Y F → Type 0
Stops stop.Memory read = Unit {0}
Stops (stop.Fault fault) read = read ≡ Err fault

-- what a function returned, seen by view, is what reading gives, unless memory ran out
abbrev pub Gives : {X Y F : Type 0} → (X → Y) → Result X (Stop F) → Result Y F → Type 0
Gives view (Ok x) read = read ≡ Ok (view x)
Gives view (Err e) read = Stops e read
