-- Faults of bytes, and where the first one is: relations between the offset at which bytes end, the
-- bytes, and the fault. Bytes are read from left to right, so what stands before a fault is spelled
-- rightly (AMQP 0-9-1 4.2.5; AMQP 1.0 1.6).
use Rattle.std.specs.Prelude.{◌≡◌, ◌≢◌, ◌⊎◌, ℕ, ◌+◌, ◌-◌, ◌<◌, ◌≤◌, List, [], ◌++◌, length, take}
use Rattle.std.specs.Int.{Width, byte_len, from_be_bytes}
use Rattle.wire_base.specs.Spelling.{IsText, IsItems}

-- which bytes, ending at an offset, have a fault
abbrev pub Faults : Type 0 → Type 1
Faults F = ℕ → List ℕ → F → Type 0

-- fewer bytes than this are left: the fault at the first of them
abbrev pub IsCut : {F : Type 0} → (ℕ → F) → ℕ → Faults F
IsCut fault n end bytes f = (length bytes < n) × (f ≡ fault (end - length bytes))

-- a number of this width is cut off
abbrev pub IsNumberCut : {F : Type 0} → (ℕ → F) → Width → Faults F
IsNumberCut fault w = IsCut fault (byte_len w)

-- a length of this width stands there, and passes the bytes behind it
abbrev pub IsTooLong : Width → List ℕ → Type 0
IsTooLong w bytes =
    (byte_len w ≤ length bytes) × (length bytes < byte_len w + from_be_bytes w (take
    (byte_len w) bytes))

-- a length is cut off or passes the bytes behind it: the fault at the length
abbrev pub IsTextFault : {F : Type 0} → (ℕ → F) → Width → Faults F
IsTextFault fault w end bytes f =
    IsNumberCut fault w end bytes f ⊎ (IsTooLong w bytes × (f ≡ fault (end - length bytes)))

-- bytes begin with a value, and the bytes after it have such a fault
abbrev pub IsBehind : {A F : Type 0} → (A → List ℕ → Type 0) → Faults F → Faults F
IsBehind {A} R Fault end bytes f =
    (x : A) × (front : List ℕ) × (rest : List ℕ) × R x front × (bytes
    ≡ front ++ rest) × Fault end rest f

-- the first value has a fault, or the second one behind it
abbrev pub IsPairFault : {A F : Type 0} → Faults F → (A → List ℕ → Type 0) → Faults F → Faults F
IsPairFault First R Second end bytes f = First end bytes f ⊎ IsBehind R Second end bytes f

-- of items that are to fill the bytes, the first ones are spelled so, and the next one has a fault
abbrev pub IsItemsFault : {A F : Type 0} → (A → List ℕ → Type 0) → Faults F → Faults F
IsItemsFault R Fault = IsBehind (IsItems R) (λ end bytes f. (bytes ≢ []) × Fault end bytes f)

-- a length has a fault, or the items that are to fill so many bytes
abbrev pub IsContainerFault : {A F : Type 0} → (ℕ → F) → Width → (A → List ℕ → Type 0)
    → Faults F → Faults F
IsContainerFault fault w R Fault end bytes f =
    IsTextFault fault w end bytes f
    ⊎ ((body : List ℕ) × (front : List ℕ) × (rest : List ℕ) × IsText w body front × (bytes
    ≡ front ++ rest)
    × IsItemsFault R Fault (end - length rest) body f)

-- of so many items, fewer are spelled so, and the next one has a fault
abbrev pub IsTimesFault : {A F : Type 0} → (A → List ℕ → Type 0) → Faults F → ℕ → Faults F
IsTimesFault R Fault count = IsBehind (λ xs text. (length xs < count) × IsItems R xs text) Fault
