-- The first fault of bytes that are to begin with a value, and its place (AMQP 1.0 1.6), one row
-- for each. What stands before the fault is spelled rightly. A value that is cut off has a fault of
-- its own, `cut`: in the input itself Cut at its end, and inside a list, a map or an array Count at
-- its code, since there it disagrees with the size.
use Rattle.std.specs.Prelude.{◌≡◌, ◌≢◌, ◌⊎◌, ℕ, zero, suc, ◌-◌, ◌*◌, ◌/◌, ◌%◌, ◌<◌, ◌≤◌, Bool, false}
use Rattle.std.specs.Prelude.{nat_lt, List, [], ◌∷◌, ◌++◌, length, drop}
use Rattle.std.specs.Int.{Width, w8, w32}
use Rattle.wire_base.specs.Spelling.{IsNumber, IsText}
use Rattle.wire_base.specs.Faults.{Faults, IsCut, IsNumberCut, IsTextFault, IsBehind}
use Rattle.types_10.specs.Tree.{Tree, depth}
use Rattle.types_10.specs.Kinds.{kind_byte, wide_width, is_text, is_character, size_width}
use Rattle.types_10.specs.Loads.{element_load}
use Rattle.types_10.specs.Reading.{Fault, fault_at, text_fault}
use Rattle.types_10.specs.Grammar.{Elements, IsTwo, IsListIn, IsMapIn, IsFront, IsConstructorIn}
use Rattle.types_10.specs.Grammar.{Spellings, IsValueBy, IsArrayIn, spellings}
use Rattle.types_10.specs.declared.fault.TypeFault.TheVariants as fault
use Rattle.types_10.specs.declared.kind.Kind.{Kind}
use Rattle.types_10.specs.declared.kind.Kind.TheVariants as kind
use Rattle.types_10.specs.declared.kind.Single.{Single}
use Rattle.types_10.specs.declared.kind.Single.TheVariants as single

-- ---- numbers, texts and tests

-- a number is cut off
abbrev pub IsShort : Width → Fault → Faults Fault
IsShort w cut = IsNumberCut (λ at. cut) w

-- a length is cut off, or passes the bytes behind it
abbrev pub IsBytesFault : Width → Fault → Faults Fault
IsBytesFault w cut = IsTextFault (λ at. cut) w

-- what is spelled rightly has a fault, or fails a test: the fault depends on it, and on the offset
-- behind it
abbrev pub IsTestedFault : {A : Type 0} → (A → Bool) → (A → ℕ → Fault) → (A → List ℕ → Type 0)
    → Faults Fault → Faults Fault
IsTestedFault {A} passes fault R IsFault end bytes f =
    IsFault end bytes f
    ⊎ ((x : A) × (front : List ℕ) × (rest : List ℕ) × R x front × (bytes ≡ front ++ rest)
    × (passes x ≡ false) × (f ≡ fault x (end - length rest)))

-- a value that holds no other. UnknownCode at the byte of a boolean, NotUtf8 and NotAscii at the
-- first byte of a content
abbrev pub IsSingleFault : Single → Fault → Faults Fault
IsSingleFault (single.Bare k) cut = λ end bytes f. ⊥
IsSingleFault single.Boolean cut =
    IsTestedFault (λ n. nat_lt n 2) (λ n after. fault_at fault.UnknownCode (after - 1))
    (IsNumber w8) (IsShort w8 cut)
IsSingleFault (single.Octet k) cut = IsShort w8 cut
IsSingleFault (single.Wide k) cut = IsShort (wide_width k) cut
IsSingleFault single.Char cut =
    IsTestedFault is_character (λ n after. fault_at fault.NotUtf8 (after - 4)) (IsNumber w32)
    (IsShort w32 cut)
IsSingleFault (single.Sixteen k) cut = IsCut (λ at. cut) 16
IsSingleFault (single.Text k s) cut =
    IsTestedFault (is_text k) (text_fault k) (IsText (size_width s)) (IsBytesFault
    (size_width s) cut)

-- ---- values by their code

-- the faults of contents by their kind, with the offset of the code
abbrev pub ContentFaults : Type 1
ContentFaults = Kind → ℕ → Fault → Faults Fault

-- a code at this offset is that of no kind, or the content behind it has a fault
abbrev pub IsKindFault : ContentFaults → Fault → ℕ → ℕ → Faults Fault
IsKindFault IsContentFault cut byte at end bytes f =
    (((k : Kind) → kind_byte k ≢ byte) × (f ≡ fault_at fault.UnknownCode at))
    ⊎ ((k : Kind) × (kind_byte k ≡ byte) × IsContentFault k at cut end bytes f)

-- a code is cut off, or has a fault
abbrev pub IsCodedFault : ContentFaults → Fault → Faults Fault
IsCodedFault IsContentFault cut end bytes f =
    IsShort w8 cut end bytes f
    ⊎ ((byte : ℕ) × (rest : List ℕ) × (bytes ≡ byte ∷ rest)
    × IsKindFault IsContentFault cut byte (end - length bytes) end rest f)

-- a code alone
abbrev pub IsCodeFault : Fault → Faults Fault
IsCodeFault = IsCodedFault (λ k at cut end bytes f. ⊥)

-- a constructor: behind its first descriptors a code has a fault, or the code of described values
-- stands there, and the next descriptor has a fault
abbrev pub IsConstructorFault : (ℕ → Tree × ℕ → List ℕ → Type 0) → (ℕ → Fault → Faults Fault) → ℕ
    → Fault → Faults Fault
IsConstructorFault R IsFault room cut end bytes f =
    (ds : List Tree) × (left : ℕ) × (front : List ℕ) × (rest : List ℕ)
    × IsFront R room ds left front × (bytes ≡ front ++ rest)
    × (IsCodeFault cut end rest f
    ⊎ ((more : List ℕ) × (rest ≡ kind_byte kind.Described ∷ more) × IsFault left cut end more f))

-- ---- lists, maps and arrays

-- a size has a fault; or what is to fill so many bytes has one, or leaves bytes over: Count at the
-- code
abbrev pub IsFilledFault : {A : Type 0} → Width → ℕ → (A → List ℕ → Type 0) → (Fault
    → Faults Fault) → Fault → Faults Fault
IsFilledFault w at R IsInner cut end bytes f =
    IsBytesFault w cut end bytes f
    ⊎ ((body : List ℕ) × (front : List ℕ) × (rest : List ℕ) × IsText w body front × (bytes
    ≡ front ++ rest)
    × (IsInner (fault_at fault.Count at) (end - length rest) body f
    ⊎ IsBehind R (λ end bytes f. (bytes ≢ []) × (f ≡ fault_at fault.Count at))
    (end - length rest) body f))

-- a value has a fault, or what follows, depending on it
abbrev pub IsThenFault : {A : Type 0} → (A → List ℕ → Type 0) → Faults Fault → (A
    → Faults Fault) → Faults Fault
IsThenFault {A} R IsFirst IsMore end bytes f =
    IsFirst end bytes f
    ⊎ ((x : A) × (front : List ℕ) × (rest : List ℕ) × R x front × (bytes
    ≡ front ++ rest) × IsMore x end rest f)

-- of so many, the first one, or those behind it within the room that it leaves
unfoldable pub IsRowFault : {A : Type 0} → (ℕ → A × ℕ → List ℕ → Type 0) → (ℕ → Faults Fault) → ℕ
    → ℕ → Faults Fault
IsRowFault R IsFault zero room = λ end bytes f. ⊥
IsRowFault R IsFault (suc count) room =
    IsThenFault (R room) (IsFault room) (λ x. IsRowFault R IsFault count x.1)

-- the first of two values, or the second one
abbrev pub IsTwoFault : (ℕ → Tree × ℕ → List ℕ → Type 0) → (ℕ → Faults Fault) → ℕ → Faults Fault
IsTwoFault R IsFault room = IsThenFault (R room) (IsFault room) (λ x. IsFault x.1)

-- the count, or one of so many values
abbrev pub IsListFault : Width → (ℕ → Tree × ℕ → List ℕ → Type 0) → (ℕ → Fault → Faults Fault)
    → ℕ → Fault → Faults Fault
IsListFault w R IsFault room cut =
    IsThenFault (IsNumber w) (IsShort w cut) (λ n.
    IsRowFault R (λ room. IsFault room cut) n room)

-- the count of keys and values together, which is odd, or one of so many pairs
abbrev pub IsPairsFault : (ℕ → Tree × ℕ → List ℕ → Type 0) → (ℕ → Fault → Faults Fault) → ℕ
    → Fault → ℕ → Faults Fault
IsPairsFault R IsFault room cut n end bytes f =
    ((n % 2 ≢ 0) × (f ≡ cut))
    ⊎ ((n % 2 ≡ 0) × IsRowFault (IsTwo R) (IsTwoFault R (λ room. IsFault room cut)) (n / 2) room
    end bytes f)

abbrev pub IsMapFault : Width → (ℕ → Tree × ℕ → List ℕ → Type 0) → (ℕ → Fault → Faults Fault)
    → ℕ → Fault → Faults Fault
IsMapFault w R IsFault room cut =
    IsThenFault (IsNumber w) (IsShort w cut) (IsPairsFault R IsFault room cut)

-- the faults of what stands inside a value: contents, and elements behind a constructor, the offset
-- of whose last code is given
pub record FaultsInside : Type 1 where
  pub content : ℕ → ContentFaults
  pub element : ℕ → Elements → ℕ → Fault → Faults Fault

-- the faults of a value whose contents have these
abbrev pub IsFaultBy : FaultsInside → ℕ → Fault → Faults Fault
IsFaultBy i room = IsCodedFault (i.content room)

-- behind a constructor: elements that have no room, or a fault of one of so many
abbrev pub AreElementsFault : Spellings → FaultsInside → Fault → ℕ → Elements × ℕ → Faults Fault
AreElementsFault s i cut n c end bytes f =
    ((c.1 < n * element_load c.0) × (f ≡ cut))
    ⊎ ((n * element_load c.0 ≤ c.1) × IsRowFault (λ room. s.element room c.0)
    (λ room. i.element room c.0 ((end - length bytes) - 1) cut) n (c.1 - n * element_load c.0)
    end bytes f)

-- the count, the constructor, or the elements
abbrev pub IsArrayFault : Width → Spellings → FaultsInside → ℕ → Fault → Faults Fault
IsArrayFault w s i room cut = IsThenFault (IsNumber w) (IsShort w cut) (λ n.
    IsThenFault (IsConstructorIn (IsValueBy s) room) (IsConstructorFault (IsValueBy s)
    (IsFaultBy i) room cut)
    (AreElementsFault s i cut n))

-- ---- contents by depth

-- the content of a value that may hold no other: Depth at the code
abbrev pub IsFlatFault : ℕ → ContentFaults
IsFlatFault room (kind.Single k) at cut = IsSingleFault k cut
IsFlatFault room kind.EmptyList at cut = λ end bytes f. f ≡ fault_at fault.Depth at
IsFlatFault room (kind.List s) at cut = λ end bytes f. f ≡ fault_at fault.Depth at
IsFlatFault room (kind.Map s) at cut = λ end bytes f. f ≡ fault_at fault.Depth at
IsFlatFault room (kind.Array s) at cut = λ end bytes f. f ≡ fault_at fault.Depth at
IsFlatFault room kind.Described at cut = λ end bytes f. f ≡ fault_at fault.Depth at

-- the content of a value that may hold such
abbrev pub IsDeepFault : Spellings → FaultsInside → ℕ → ContentFaults
IsDeepFault s i room (kind.Single k) at cut = IsSingleFault k cut
IsDeepFault s i room kind.EmptyList at cut = λ end bytes f. ⊥
IsDeepFault s i room (kind.List z) at cut =
    IsFilledFault (size_width z) at (IsListIn (size_width z) (IsValueBy s) room)
    (IsListFault (size_width z) (IsValueBy s) (IsFaultBy i) room) cut
IsDeepFault s i room (kind.Map z) at cut =
    IsFilledFault (size_width z) at (IsMapIn (size_width z) (IsValueBy s) room)
    (IsMapFault (size_width z) (IsValueBy s) (IsFaultBy i) room) cut
IsDeepFault s i room (kind.Array z) at cut =
    IsFilledFault (size_width z) at (IsArrayIn (size_width z) s room) (IsArrayFault
    (size_width z) s i room) cut
IsDeepFault s i room kind.Described at cut =
    IsTwoFault (IsValueBy s) (λ room. IsFaultBy i room cut) room

-- an element behind its constructor: its descriptor is deeper than this, Depth at the constructor's
-- last code, or its content has a fault
abbrev pub IsElementFault : ℕ → (ℕ → ContentFaults) → (ℕ → Elements → ℕ → Fault → Faults Fault)
    → ℕ → Elements → ℕ → Fault → Faults Fault
IsElementFault d IsContentFault IsMore room ([], k) at cut = IsContentFault room k at cut
IsElementFault d IsContentFault IsMore room (x ∷ xs, k) at cut = λ end bytes f.
    ((d < depth x) × (f ≡ fault_at fault.Depth at)) ⊎ ((depth x ≤ d)
    × IsMore room (xs, k) at cut end bytes f)

-- what stands inside values of at most this depth
unfoldable pub faults : ℕ → FaultsInside
faults zero = record {
  content = IsFlatFault;
  element = IsElementFault 0 IsFlatFault (λ room c at cut end bytes f.
      f ≡ fault_at fault.Depth at);
}
faults (suc d) = record {
  content = IsDeepFault (spellings d) (faults d);
  element = IsElementFault d (IsDeepFault (spellings d) (faults d)) (faults d).element;
}

-- a value of at most this depth, within a room
abbrev pub IsValueFault : ℕ → ℕ → Fault → Faults Fault
IsValueFault d = IsFaultBy (faults d)

-- the value that is to stand at an offset
abbrev pub IsFaultAt : List ℕ → ℕ → Fault → Type 0
IsFaultAt bytes from =
    IsValueFault 16 65536 (fault_at fault.Cut (length bytes)) (length bytes) (drop from bytes)
