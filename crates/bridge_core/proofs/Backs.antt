-- Frames of returns: which fit their client, and a body cut in pieces.
use Rattle.std.proofs.Common.{◌≡◌, ℕ, zero, suc, ◌+◌, ◌-◌, ◌<◌, ◌≤◌, Bool, true, false, if◌then◌else◌, List}
use Rattle.std.proofs.Common.{[], ◌∷◌, ◌++◌, take, drop, length, map, None, Some, refl, sym, ap}
use Rattle.std.proofs.Common.{◌∙◌, arith, append_assoc, min}
use Rattle.std.proofs.lemmas.Bool.Decides.{nat_tests}
use Rattle.std.proofs.lemmas.List.{length-append, length-drop, drop_min, take_min}
use Rattle.frames_091.specs.Frames.{frame_text}
use Rattle.frames_091.specs.declared.frame.Kind91.{Kind91}
use Rattle.frames_091.specs.declared.frame.Kind91.TheVariants.{Body}
use Rattle.gate_model.specs.Returns.{body_parts, cut_in, frame_with, is_within, pieces}
use Rattle.content_091.specs.declared.assembly.Content.{Content}
use Rattle.machine_091.specs.Writable.{CanPutBack}
use Rattle.machine_091.specs.declared.unit.Want91.TheVariants as want
use Rattle.methods_091.specs.declared.method.Method91.{Method91}
use Rattle.methods_091.specs.declared.method.Method91.TheVariants as method
use Rattle.gate_model.specs.Requests.{message_of}
use Rattle.bridge_core.specs.Backs.{IsWritable, fitted}

frame_long : (kind : Kind91) (n : ℕ) (payload : List ℕ) → length (frame_with kind n payload) ≡ length payload + 8
unfolding frame_text
frame_long kind n payload = grind (arith, length-append)

pub passes : (kind : Kind91) (n limit : ℕ) (payload : List ℕ) → 8 < limit → limit - 8 < length payload → None ≡ fitted limit (frame_with kind n payload)
passes kind n limit payload some more = by (is_within limit (frame_with kind n payload)) refl
  where
    by : (b : Bool) → is_within limit (frame_with kind n payload) ≡ b → None ≡ (if b then Some (frame_with kind n payload) else None)
    by true e =
        let long = frame_long kind n payload in
        let less : length (frame_with kind n payload) ≤ limit = grind (arith, nat_tests, e) in
        absurd (omega (arith, long, less, some, more))
    by false e = refl

pub fits : (kind : Kind91) (n limit : ℕ) (payload : List ℕ) → 8 < limit → length payload ≤ limit - 8
    → Some (frame_with kind n payload) ≡ fitted limit (frame_with kind n payload)
fits kind n limit payload some few = by (is_within limit (frame_with kind n payload)) refl
  where
    by : (b : Bool) → is_within limit (frame_with kind n payload) ≡ b → Some (frame_with kind n payload) ≡ (if b then Some (frame_with kind n payload) else None)
    by true e = refl
    by false e =
        let long = frame_long kind n payload in
        let more : limit < length (frame_with kind n payload) = grind (arith, nat_tests, e) in
        absurd (omega (arith, long, more, some, few))

-- with more turns than a body has bytes nothing more is cut
cut_more : (k j room : ℕ) (body : List ℕ) → 1 ≤ room → length body ≤ k → length body ≤ j → cut_in k room body ≡ cut_in j room body
cut_more k j room [] some a b = by k j
  where
    by : (k j : ℕ) → cut_in k room [] ≡ cut_in j room []
    by zero zero = refl
    by zero (suc j) = refl
    by (suc k) zero = refl
    by (suc k) (suc j) = refl
cut_more zero j room (x ∷ body) some a b = absurd (omega (arith, a))
cut_more (suc k) zero room (x ∷ body) some a b = absurd (omega (arith, b))
cut_more (suc k) (suc j) room (x ∷ body) some a b =
    let long = length-drop room (x ∷ body) in
    let first_ : length (drop room (x ∷ body)) ≤ k = omega (arith, long, a, some) in
    let second : length (drop room (x ∷ body)) ≤ j = omega (arith, long, b, some) in
    ap (λ (xs : List (List ℕ)). take room (x ∷ body) ∷ xs) (cut_more k j room (drop room (x ∷ body)) some first_ second)

-- one piece, and those of the rest
one_piece : (room : ℕ) (b : ℕ) (body : List ℕ) → 1 ≤ room → pieces room (b ∷ body) ≡ take room (b ∷ body) ∷ pieces room (drop room (b ∷ body))
one_piece room b body some =
    let long = length-drop room (b ∷ body) in
    let few : length (drop room (b ∷ body)) ≤ length body = omega (arith, long, some) in
    ap (λ (xs : List (List ℕ)). take room (b ∷ body) ∷ xs) (cut_more (length body) (length (drop room (b ∷ body))) room (drop room (b ∷ body)) some few (omega arith))

-- a frame that is added has the next piece, and what is left is the rest of them
pub next_piece : (limit n k : ℕ) (rest front back : List ℕ) (old new whole : List (List ℕ)) → 8 < limit → 1 ≤ length rest → k ≡ min (limit - 8) (length rest)
    → front ≡ take k rest → back ≡ drop k rest → new ≡ old ++ (frame_with Body n front ∷ []) → old ++ body_parts limit n rest ≡ whole
    → new ++ body_parts limit n back ≡ whole
next_piece limit n k [] front back old new whole some none count f b added so = absurd (omega (arith, none))
next_piece limit n k (x ∷ rest) front back old new whole some more count f b added so =
    let room : 1 ≤ limit - 8 = omega (arith, some) in
    let front_ : front ≡ take (limit - 8) (x ∷ rest) = f ∙ ap (λ (m : ℕ). take m (x ∷ rest)) count ∙ take_min (limit - 8) (x ∷ rest) in
    let back_ : back ≡ drop (limit - 8) (x ∷ rest) = b ∙ ap (λ (m : ℕ). drop m (x ∷ rest)) count ∙ drop_min (limit - 8) (x ∷ rest) in
    ap (λ (fs : List (List ℕ)). fs ++ body_parts limit n back) added
    ∙ append_assoc old (frame_with Body n front ∷ []) (body_parts limit n back)
    ∙ ap (λ (p : List ℕ). old ++ (frame_with Body n p ∷ body_parts limit n back)) front_
    ∙ ap (λ (p : List ℕ). old ++ (frame_with Body n (take (limit - 8) (x ∷ rest)) ∷ body_parts limit n p)) back_
    ∙ sym (ap (λ (ps : List (List ℕ)). old ++ map (frame_with Body n) ps) (one_piece (limit - 8) x rest room))
    ∙ so

-- ---- what can be written back

-- a message that a publish hands out can be
pub writable : (n : ℕ) (m : Method91) (c : Content) → CanPutBack (want.Publish n m c) → IsWritable (message_of m c)
writable n (method.BasicPublish exchange key mandatory immediate) c p = record { exchange = p.1.0; key = p.1.1.0; header = p.0 }
writable n m c p = record { exchange = omega arith; key = omega arith; header = p.0 }
