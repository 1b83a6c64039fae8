-- The bytes of a frame, part by part.
use Rattle.std.proofs.Common.{◌≡◌, ℕ, ◌+◌, ◌<◌, ◌≤◌, suc, cond, nat_eq, List, [], ◌∷◌, ◌++◌, length}
use Rattle.std.proofs.Common.{get_or, take, drop, Option, Some, refl, sym, ◌∙◌, ap, arith}
use Rattle.std.specs.Int.{w16, w32, to_be_bytes, from_be_bytes}
use Rattle.std.proofs.lemmas.Bool.{eqb-true, cond_both}
use Rattle.std.proofs.lemmas.Nat.{be_bytes_2, be_bytes_4}
use Rattle.std.proofs.lemmas.List.{get_or-append-add, take_more, take-append-drop, length-take-le}
use Rattle.wire_base.proofs.Bytes.{IsBytes-take}
use Rattle.wire_base.specs.Bytes.{IsBytes}
use Rattle.frames_091.specs.declared.frame.Kind91.{Kind91}
use Rattle.frames_091.specs.declared.frame.Kind91.TheVariants.{Method, Header, Body, Heartbeat}
use Rattle.frames_091.specs.declared.frame.Frame91.{Frame91}
use Rattle.frames_091.specs.Frames.{kind_byte, frame_text}
use Rattle.frames_091.specs.FrameScan.{kind_of, stated_size, frame_in}
use Rattle.frames_091.proofs.FrameScanning.{Begins}

-- a kind is that of its byte, and no other byte is one's
pub kind_again : (kind : Kind91) → kind_of (kind_byte kind) ≡ Some kind
kind_again Method = refl
kind_again Header = refl
kind_again Body = refl
kind_again Heartbeat = refl

first_kind : (byte n : ℕ) (x : Kind91) (rest : Option Kind91) (kind : Kind91) → kind_byte x ≡ n → cond (nat_eq byte n) (Some x) rest ≡ Some kind
    → (rest ≡ Some kind → byte ≡ kind_byte kind) → byte ≡ kind_byte kind
first_kind byte n x rest kind is e later =
    cond_both (nat_eq byte n) (Some x) rest (λ o. o ≡ Some kind → byte ≡ kind_byte kind)
    (λ t same. let one : x ≡ kind = cc in eqb-true byte n t ∙ sym is ∙ ap kind_byte one) (λ t same. later same) e

pub kind_is : (byte : ℕ) (kind : Kind91) → kind_of byte ≡ Some kind → byte ≡ kind_byte kind
kind_is byte kind e =
    first_kind byte 1 Method _ kind refl e (λ e. first_kind byte 2 Header _ kind refl e
    (λ e. first_kind byte 3 Body _ kind refl e (λ e. first_kind byte 8 Heartbeat _ kind refl e (λ e. absurd cc))))

-- a frame's text from the bytes of its parts
text_from : ℕ → List ℕ → List ℕ → List ℕ → List ℕ
text_from kind channel size payload = kind ∷ channel ++ size ++ payload ++ 206 ∷ []

spelled_from : (frame : Frame91) → text_from (kind_byte frame.kind) (to_be_bytes w16 frame.channel) (to_be_bytes w32 (length frame.payload)) frame.payload
    ≡ frame_text frame
unfolding text_from frame_text
spelled_from frame = refl

read_from : (a b c d e f g : ℕ) (payload more : List ℕ) → a ∷ b ∷ c ∷ d ∷ e ∷ f ∷ g ∷ ((payload ++ 206 ∷ []) ++ more)
    ≡ text_from a (b ∷ c ∷ []) (d ∷ e ∷ f ∷ g ∷ []) payload ++ more
unfolding text_from
read_from a b c d e f g payload more = refl

-- the bytes from place 7 are the payload, the end byte, and what follows
tail_parts : (rest : List ℕ) (n : ℕ) → n < length rest → get_or rest n 0 ≡ 206 → rest ≡ (take n rest ++ 206 ∷ []) ++ drop (n + 1) rest
tail_parts rest n h e = sym (take-append-drop (n + 1) rest)
    ∙ ap (λ (t : List ℕ). t ++ drop (n + 1) rest) (take_more rest n 0 h ∙ ap (λ (x : ℕ). take n rest ++ x ∷ []) e)

-- bytes that hold a whole frame are its text and what follows
pub frame_parts : (kind : Kind91) (bytes : List ℕ) → IsBytes bytes → Begins kind bytes → stated_size bytes + 8 ≤ length bytes
    → get_or bytes (7 + stated_size bytes) 0 ≡ 206
    → bytes ≡ frame_text (frame_in kind bytes) ++ drop (stated_size bytes + 1) (drop 7 bytes)
unfolding stated_size frame_in
frame_parts kind (a ∷ b ∷ c ∷ d ∷ e ∷ f ∷ g ∷ rest) small k h end =
    let n = stated_size (a ∷ b ∷ c ∷ d ∷ e ∷ f ∷ g ∷ rest) in
    let at_end : get_or rest n 0 ≡ 206 = sym (get_or-append-add (a ∷ b ∷ c ∷ d ∷ e ∷ f ∷ g ∷ []) rest n 0) ∙ end in
    let size : length (take n rest) ≡ n = length-take-le n rest (omega arith) in
    let two = IsBytes-take 2 (b ∷ c ∷ d ∷ e ∷ f ∷ g ∷ rest) (λ i. small (suc i)) in
    let four = IsBytes-take 4 (d ∷ e ∷ f ∷ g ∷ rest) (λ i. small (suc (suc (suc i)))) in
    let first : a ≡ kind_byte kind = kind_is a kind k.known in
    let channel : to_be_bytes w16 (from_be_bytes w16 (b ∷ c ∷ [])) ≡ b ∷ c ∷ [] = be_bytes_2 (b ∷ c ∷ []) _ refl two refl in
    let number : to_be_bytes w32 (length (take n rest)) ≡ d ∷ e ∷ f ∷ g ∷ [] = be_bytes_4 (d ∷ e ∷ f ∷ g ∷ []) _ refl four size in
    let Text : ℕ → List ℕ → List ℕ → List ℕ = λ x y z. text_from x y z (take n rest) ++ drop (n + 1) rest in
    ap (λ (t : List ℕ). a ∷ b ∷ c ∷ d ∷ e ∷ f ∷ g ∷ t) (tail_parts rest n (omega arith) at_end)
    ∙ read_from a b c d e f g (take n rest) (drop (n + 1) rest)
    ∙ ap (λ (x : ℕ). Text x (b ∷ c ∷ []) (d ∷ e ∷ f ∷ g ∷ [])) first
    ∙ ap (λ (y : List ℕ). Text (kind_byte kind) y (d ∷ e ∷ f ∷ g ∷ [])) (sym channel)
    ∙ ap (λ (z : List ℕ). Text (kind_byte kind) (to_be_bytes w16 (from_be_bytes w16 (b ∷ c ∷ []))) z) (sym number)
    ∙ ap (λ (t : List ℕ). t ++ drop (n + 1) rest) (spelled_from (frame_in kind (a ∷ b ∷ c ∷ d ∷ e ∷ f ∷ g ∷ rest)))
frame_parts kind _ small k h end = absurd (omega arith)
