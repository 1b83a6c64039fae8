-- How values are spelled: relations between a value and the bytes that spell it, all of the bytes.
-- Numbers, texts behind their length, and items one after another, for both protocols (AMQP 0-9-1
-- 4.2.5; AMQP 1.0 1.6).
use Rattle.std.specs.Prelude.{◌≡◌, ℕ, ◌-◌, ◌<◌, ◌≤◌, ◌^◌, List, [], ◌∷◌, ◌++◌, length, take, drop}
use Rattle.std.specs.Int.{Width, byte_len, to_be_bytes}

-- a number that fits the width, most significant byte first
abbrev pub IsNumber : Width → ℕ → List ℕ → Type 0
IsNumber w n text = (n < 256 ^ byte_len w) × (text ≡ to_be_bytes w n)

-- the length of a text in this width, and the text
abbrev pub text_of : Width → List ℕ → List ℕ
text_of w s = to_be_bytes w (length s) ++ s

-- a text whose length fits the width, behind that length
abbrev pub IsText : Width → List ℕ → List ℕ → Type 0
IsText w s text = (length s < 256 ^ byte_len w) × (text ≡ text_of w s)

-- a value that is made of one that is spelled so
abbrev pub IsMade : {A B : Type 0} → (A → B) → (A → List ℕ → Type 0) → B → List ℕ → Type 0
IsMade {A} make R y text = (x : A) × (y ≡ make x) × R x text

-- one value, and then another
abbrev pub IsPair : {A B : Type 0} → (A → List ℕ → Type 0) → (B → List ℕ → Type 0) → A × B
    → List ℕ → Type 0
IsPair R S p text =
    (front : List ℕ) × (back : List ℕ) × R p.0 front × S p.1 back × (text ≡ front ++ back)

-- items, one after another
abbrev pub IsItems : {A : Type 0} → (A → List ℕ → Type 0) → List A → List ℕ → Type 0
IsItems R [] text = text ≡ []
IsItems R (x ∷ xs) text =
    (front : List ℕ) × (back : List ℕ) × R x front × IsItems R xs back × (text ≡ front ++ back)

-- the length of the items' bytes in this width, and the items
abbrev pub IsContainer : {A : Type 0} → Width → (A → List ℕ → Type 0) → List A → List ℕ → Type 0
IsContainer w R xs text = (body : List ℕ) × IsItems R xs body × IsText w body text

-- the bytes from one offset to another are there, and spell the value
abbrev pub StandsAt : {A : Type 0} → (A → List ℕ → Type 0) → A → List ℕ → ℕ → ℕ → Type 0
StandsAt R x bytes at after =
    (at ≤ after) × (after ≤ length bytes) × R x (take (after - at) (drop at bytes))
