-- The frame of a method, put together from its parts.
use Rattle.std.proofs.Common.{◌≡◌, ℕ, ◌+◌, ◌%◌, ◌<◌, ◌≤◌, List, [], ◌∷◌, ◌++◌, length, append_assoc}
use Rattle.std.proofs.Common.{ap, ◌∙◌, arith, refl}
use Rattle.std.proofs.lemmas.List.{length-append}
use Rattle.std.specs.Int.{w16, w32, w64, to_be_bytes}
use Rattle.frames_091.specs.Frames.{frame_text}
use Rattle.methods_091.specs.Closing.{head_text, payload_text, closing_text, tagged_text}

-- what stands before a payload
pub head_is : (n size : ℕ) (first second : List ℕ) → first ≡ to_be_bytes w16 n → second ≡ to_be_bytes w32 size
    → ((1 ∷ []) ++ first) ++ second ≡ head_text n size
head_is n size first second a b = rw (a, b) refl

-- what stands before a payload, the payload, and the end byte
pub payload_is : (n size : ℕ) (payload : List ℕ) → size ≡ length payload → (head_text n size ++ payload) ++ 206 ∷ [] ≡ payload_text n payload
unfolding frame_text
payload_is n size payload a = rw (a) refl

-- the parts of the frame of a method that closes, in the order in which they are written
abbrev pub close_parts : List ℕ → List ℕ → List ℕ → ℕ → List ℕ → List ℕ → List ℕ → List ℕ
close_parts head ids code count text class method =
    ((((((head ++ ids) ++ code) ++ count ∷ []) ++ text) ++ class) ++ method) ++ 206 ∷ []

-- the parts, with the payload's put together
parts_are : (head ids code : List ℕ) (count : ℕ) (text class method : List ℕ)
    → close_parts head ids code count text class method ≡ (head ++ (ids ++ code ++ (count ∷ text) ++ class ++ method)) ++ 206 ∷ []
parts_are head ids code count text class method = simp append_assoc

-- how long the payload is
payload_long : (ids code counted class method : List ℕ)
    → length (ids ++ code ++ counted ++ class ++ method) ≡ length ids + length code + length counted + length class + length method
payload_long ids code counted class method = simp length-append

pub close_is : (n code class method : ℕ) (ids text first second third : List ℕ) → length ids ≡ 4 → length text ≤ 255 → first ≡ to_be_bytes w16 code → second ≡ to_be_bytes w16 class
    → third ≡ to_be_bytes w16 method → close_parts (head_text n (11 + length text)) ids first (length text) text second third ≡ closing_text n ids code text class method
close_is n code class method ids text first second third four short a b c =
    let head : List ℕ = head_text n (11 + length text) in
    let payload : ℕ → List ℕ = λ count. ids ++ to_be_bytes w16 code ++ (count ∷ text) ++ to_be_bytes w16 class ++ to_be_bytes w16 method in
    let sum = payload_long ids (to_be_bytes w16 code) ((length text % 256) ∷ text) (to_be_bytes w16 class) (to_be_bytes w16 method) in
    let size : 11 + length text ≡ length (payload (length text % 256)) = omega (arith, four, sum) in
    let count : length text ≡ length text % 256 = omega arith in
    let parts = parts_are head ids (to_be_bytes w16 code) (length text) text (to_be_bytes w16 class) (to_be_bytes w16 method) in
    rw (a, b, c) (parts ∙ ap (λ k. (head ++ payload k) ++ 206 ∷ []) count ∙ payload_is n (11 + length text) (payload (length text % 256)) size)

-- the payload of a method that confirms deliveries, and the end byte
tagged_parts : (head ids tag : List ℕ) (flags : ℕ) → ((head ++ ids) ++ tag) ++ flags ∷ 206 ∷ [] ≡ (head ++ (ids ++ tag ++ flags ∷ [])) ++ 206 ∷ []
tagged_parts head ids tag flags = simp append_assoc

pub tagged_is : (n tag flags : ℕ) (ids first : List ℕ) → length ids ≡ 4 → flags < 256 → first ≡ to_be_bytes w64 tag
    → ((head_text n 13 ++ ids) ++ first) ++ flags ∷ 206 ∷ [] ≡ tagged_text n ids tag flags
tagged_is n tag flags ids first four small a =
    let payload : ℕ → List ℕ = λ k. ids ++ to_be_bytes w64 tag ++ k ∷ [] in
    let size : 13 ≡ length (payload flags) = omega (arith, four, length-append ids (to_be_bytes w64 tag), length-append (ids ++ to_be_bytes w64 tag) (flags ∷ [])) in
    let once : flags ≡ flags % 256 = omega (arith, small) in
    rw (a) (tagged_parts (head_text n 13) ids (to_be_bytes w64 tag) flags ∙ payload_is n 13 (payload flags) size ∙ ap (λ k. payload_text n (payload k)) once)
