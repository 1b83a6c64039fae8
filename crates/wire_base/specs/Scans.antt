-- What the answer of a scan says of the first bytes of a stream, for any grammar. A grammar relates
-- a unit to its spellings.
use Rattle.std.specs.Prelude.{◌≡◌, ◌≢◌, ℕ, ◌≤◌, List, [], ◌++◌, length, take}
use Rattle.wire_base.specs.declared.scan.Scan.{Scan}
use Rattle.wire_base.specs.declared.scan.Scan.TheVariants.{Whole, More, Bad}

-- Whole: the first n bytes spell the unit. More: the bytes are a proper prefix of some unit's
-- spelling. Bad: no continuation of the bytes begins with a unit.
abbrev pub Scans : {T F : Type 0} → (T → List ℕ → Type 0) → List ℕ → Scan T F → Type 0
Scans IsUnit bytes (Whole x n) = (n ≤ length bytes) × IsUnit x (take n bytes)
Scans {T} IsUnit bytes More = (x : T) × (rest : List ℕ) × (rest ≢ []) × IsUnit x (bytes ++ rest)
Scans {T} IsUnit bytes (Bad fault) =
    (x : T) (unit more after : List ℕ) → IsUnit x unit → bytes ++ more ≡ unit ++ after → ⊥

-- no unit's spelling is a proper prefix of another's, and a spelling is one unit's
abbrev pub AreApart : {T : Type 0} → (T → List ℕ → Type 0) → Type 0
AreApart {T} IsUnit =
    (x y : T) (a b more : List ℕ) → IsUnit x a → IsUnit y b → b ≡ a ++ more → (more ≡ []) × (x ≡ y)

-- a fact of the fault, where a scan answers one
abbrev pub IfBad : {T F : Type 0} → Scan T F → (F → Type 0) → Type 0
IfBad (Whole x n) P = Unit {0}
IfBad More P = Unit {0}
IfBad (Bad fault) P = P fault
