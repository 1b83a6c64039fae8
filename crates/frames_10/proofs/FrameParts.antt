-- The bytes of a frame, part by part.
use Rattle.std.proofs.Common.{◌≡◌, ℕ, ◌+◌, ◌-◌, ◌*◌, ◌^◌, ◌<◌, ◌≤◌, cond, nat_eq, List, [], ◌∷◌}
use Rattle.std.proofs.Common.{◌++◌, length, get_or, take, drop, Option, Some, refl, sym, ◌∙◌, ap}
use Rattle.std.proofs.Common.{arith}
use Rattle.std.specs.Int.{w16, w32, to_be_bytes, from_be_bytes}
use Rattle.std.proofs.Math.Seq.{take-add, take-append-add, drop-append-add}
use Rattle.std.proofs.lemmas.Bool.{eqb-true, cond_both}
use Rattle.std.proofs.lemmas.Nat.{be_bytes_2, be_bytes_4, from_be_bytes-to_be_bytes_2}
use Rattle.std.proofs.lemmas.Nat.{from_be_bytes-to_be_bytes_4}
use Rattle.std.proofs.lemmas.List.{append_assoc, take_at, length-append, length-drop}
use Rattle.std.proofs.lemmas.List.{length-take-le}
use Rattle.wire_base.proofs.Bytes.{IsBytes-take, IsBytes-drop}
use Rattle.wire_base.specs.Bytes.{IsBytes}
use Rattle.frames_10.specs.declared.frame.Kind10.{Kind10}
use Rattle.frames_10.specs.declared.frame.Kind10.TheVariants.{Amqp, Sasl}
use Rattle.frames_10.specs.declared.frame.Frame10.{Frame10}
use Rattle.frames_10.specs.Frames.{kind_byte, size_behind, text_behind}
use Rattle.frames_10.specs.FrameScan.{kind_of, stated_size, stated_offset, frame_in}
use Rattle.frames_10.proofs.FrameScanning.{IsSet}

-- a kind is that of its byte, and no other byte is one's
pub kind_again : (kind : Kind10) → kind_of (kind_byte kind) ≡ Some kind
kind_again Amqp = refl
kind_again Sasl = refl

first_kind : (byte n : ℕ) (x : Kind10) (rest : Option Kind10) (kind : Kind10) → kind_byte x ≡ n → cond (nat_eq byte n) (Some x) rest ≡ Some kind
    → (rest ≡ Some kind → byte ≡ kind_byte kind) → byte ≡ kind_byte kind
first_kind byte n x rest kind is e later =
    cond_both (nat_eq byte n) (Some x) rest (λ o. o ≡ Some kind → byte ≡ kind_byte kind)
    (λ t same. let one : x ≡ kind = cc in eqb-true byte n t ∙ sym is ∙ ap kind_byte one) (λ t same. later same) e

pub kind_is : (byte : ℕ) (kind : Kind10) → kind_of byte ≡ Some kind → byte ≡ kind_byte kind
kind_is byte kind e = first_kind byte 0 Amqp _ kind refl e (λ e. first_kind byte 1 Sasl _ kind refl e (λ e. absurd cc))

-- ---- what a spelled frame states

pub length_text : (words : ℕ) (extended : List ℕ) (frame : Frame10) → length extended ≡ 4 * words
    → length (text_behind words extended frame) ≡ size_behind words frame
unfolding text_behind
length_text words extended frame h = omega (arith, length-append extended frame.body)

pub size_text : (words : ℕ) (extended : List ℕ) (frame : Frame10) (rest : List ℕ) → size_behind words frame < 2 ^ 32
    → stated_size (text_behind words extended frame ++ rest) ≡ size_behind words frame
unfolding text_behind stated_size
size_text words extended frame rest h = from_be_bytes-to_be_bytes_4 (size_behind words frame) h

pub offset_text : (words : ℕ) (extended : List ℕ) (frame : Frame10) (rest : List ℕ)
    → stated_offset (text_behind words extended frame ++ rest) ≡ 2 + words
unfolding text_behind stated_offset
offset_text words extended frame rest = refl

pub kind_text : (words : ℕ) (extended : List ℕ) (frame : Frame10) (rest : List ℕ)
    → kind_of (get_or (text_behind words extended frame ++ rest) 5 0) ≡ Some frame.kind
unfolding text_behind
kind_text words extended frame rest = kind_again frame.kind

-- the eight bytes before an extended header
front_of : ℕ → Frame10 → List ℕ
front_of words frame =
    to_be_bytes w32 (size_behind words frame) ++ (2 + words) ∷ kind_byte frame.kind ∷ to_be_bytes w16 frame.channel

text_parts : (words : ℕ) (extended : List ℕ) (frame : Frame10) (rest : List ℕ)
    → text_behind words extended frame ++ rest ≡ front_of words frame ++ (extended ++ (frame.body ++ rest))
unfolding text_behind front_of
text_parts words extended frame rest =
    ap (λ (t : List ℕ). front_of words frame ++ t) (append_assoc extended frame.body rest)

front_length : (words : ℕ) (frame : Frame10) → length (front_of words frame) ≡ 8
unfolding front_of
front_length words frame = refl

body_text : (words : ℕ) (extended : List ℕ) (frame : Frame10) (rest : List ℕ) (n : ℕ) → length extended ≡ 4 * words
    → n ≡ 4 * (2 + words) → take (length frame.body) (drop n (text_behind words extended frame ++ rest)) ≡ frame.body
body_text words extended frame rest n h e =
    let front = front_of words frame in
    let eight = front_length words frame in
    let size : n ≡ length front + (length extended + 0) = omega arith in
    let behind : drop n (text_behind words extended frame ++ rest) ≡ frame.body ++ rest =
    ap (drop n) (text_parts words extended frame rest)
    ∙ ap (λ (k : ℕ). drop k (front ++ (extended ++ (frame.body ++ rest)))) size
    ∙ drop-append-add front (extended ++ (frame.body ++ rest)) (length extended + 0)
    ∙ drop-append-add extended (frame.body ++ rest) 0 in
    ap (take (length frame.body)) behind ∙ take_at frame.body rest (length frame.body) refl

channel_text : (words : ℕ) (extended : List ℕ) (frame : Frame10) (rest : List ℕ) → frame.channel < 2 ^ 16
    → from_be_bytes w16 (drop 6 (text_behind words extended frame ++ rest)) ≡ frame.channel
unfolding text_behind
channel_text words extended frame rest h = from_be_bytes-to_be_bytes_2 frame.channel h

-- and the frame that it holds
pub frame_text_in : (words : ℕ) (extended : List ℕ) (frame : Frame10) (rest : List ℕ) → length extended ≡ 4 * words
    → frame.channel < 2 ^ 16 → size_behind words frame < 2 ^ 32
    → frame_in frame.kind (text_behind words extended frame ++ rest) ≡ frame
unfolding frame_in
frame_text_in words extended frame rest h c s =
    let text : List ℕ = text_behind words extended frame ++ rest in
    let size = size_text words extended frame rest s in
    let offset = offset_text words extended frame rest in
    let channel = channel_text words extended frame rest c in
    let left : stated_size text - 4 * stated_offset text ≡ length frame.body = omega (arith, size, offset) in
    let start : 4 * stated_offset text ≡ 4 * (2 + words) = ap (λ (n : ℕ). 4 * n) offset in
    let body : take (stated_size text - 4 * stated_offset text) (drop (4 * stated_offset text) text) ≡ frame.body =
    ap (λ (n : ℕ). take n (drop (4 * stated_offset text) text)) left
    ∙ body_text words extended frame rest (4 * stated_offset text) h start in
    let Of : ℕ → List ℕ → Frame10 = λ c b. record { kind = frame.kind; channel = c; body = b } in
    ap (λ (c : ℕ). Of c (take (stated_size text - 4 * stated_offset text) (drop (4 * stated_offset text) text))) channel
    ∙ ap (Of frame.channel) body

-- ---- what bytes spell

-- a frame's text from the bytes of its parts
assembled : (words : ℕ) (extended : List ℕ) (frame : Frame10) (a b c d e f g h : ℕ)
    → to_be_bytes w32 (size_behind words frame) ≡ a ∷ b ∷ c ∷ d ∷ [] → 2 + words ≡ e → kind_byte frame.kind ≡ f
    → to_be_bytes w16 frame.channel ≡ g ∷ h ∷ []
    → text_behind words extended frame ≡ a ∷ b ∷ c ∷ d ∷ e ∷ f ∷ g ∷ h ∷ (extended ++ frame.body)
unfolding text_behind
assembled words extended frame a b c d e f g h size offset kind channel =
    let Text : List ℕ → ℕ → ℕ → List ℕ → List ℕ = λ x o k y. x ++ o ∷ k ∷ y ++ extended ++ frame.body in
    let four : List ℕ = a ∷ b ∷ c ∷ d ∷ [] in
    ap (λ (x : List ℕ). Text x (2 + words) (kind_byte frame.kind) (to_be_bytes w16 frame.channel)) size
    ∙ ap (λ (o : ℕ). Text four o (kind_byte frame.kind) (to_be_bytes w16 frame.channel)) offset
    ∙ ap (λ (k : ℕ). Text four e k (to_be_bytes w16 frame.channel)) kind
    ∙ ap (λ (y : List ℕ). Text four e f y) channel

-- bytes that hold a whole frame begin with its text
pub frame_parts : (limit : ℕ) (kind : Kind10) (bytes : List ℕ) → IsBytes bytes → IsSet limit bytes
    → kind_of (get_or bytes 5 0) ≡ Some kind → stated_size bytes ≤ length bytes
    → take (stated_size bytes) bytes
    ≡ text_behind (get_or bytes 4 0 - 2) (take (4 * get_or bytes 4 0 - 8) (drop 8 bytes)) (frame_in kind bytes)
unfolding stated_size stated_offset frame_in
frame_parts limit kind (a ∷ b ∷ c ∷ d ∷ e ∷ f ∷ g ∷ h ∷ rest) small s k there =
    let bytes : List ℕ = a ∷ b ∷ c ∷ d ∷ e ∷ f ∷ g ∷ h ∷ rest in
    let front : List ℕ = a ∷ b ∷ c ∷ d ∷ e ∷ f ∷ g ∷ h ∷ [] in
    let n = stated_size bytes in
    let frame = frame_in kind bytes in
    let eight : 8 ≤ n = s.sized.1 in
    let behind : 2 ≤ e = s.behind in
    let inside : 4 * e ≤ n = s.inside in
    let x : ℕ = 4 * e - 8 in
    let y : ℕ = n - 4 * e in
    let after : drop (4 * e) bytes ≡ drop x rest =
    ap (λ (j : ℕ). drop j bytes) (let start : 4 * e ≡ length front + x = omega arith in start) ∙ drop-append-add front rest x in
    let body : frame.body ≡ take y (drop x rest) = ap (take y) after in
    let size : length frame.body ≡ y = length-take-le y (drop (4 * e) bytes) (omega (arith, length-drop (4 * e) bytes)) in
    let whole : take n bytes ≡ front ++ (take x rest ++ take y (drop x rest)) =
    ap (λ (j : ℕ). take j bytes) (let sum : n ≡ length front + (x + y) = omega arith in sum)
    ∙ take-append-add front rest (x + y) ∙ ap (λ (t : List ℕ). front ++ t) (take-add x y rest) in
    let four = IsBytes-take 4 bytes small in
    let two = IsBytes-take 2 (g ∷ h ∷ rest) (IsBytes-drop 6 bytes small) in
    let sized : to_be_bytes w32 (size_behind (e - 2) frame) ≡ a ∷ b ∷ c ∷ d ∷ [] =
    be_bytes_4 (a ∷ b ∷ c ∷ d ∷ []) (size_behind (e - 2) frame) refl four (let same : size_behind (e - 2) frame ≡ n = omega (arith, size) in same) in
    let channel : to_be_bytes w16 (from_be_bytes w16 (g ∷ h ∷ [])) ≡ g ∷ h ∷ [] = be_bytes_2 (g ∷ h ∷ []) _ refl two refl in
    let known : kind_byte kind ≡ f = sym (kind_is f kind k) in
    whole ∙ ap (λ (t : List ℕ). front ++ (take x rest ++ t)) (sym body)
    ∙ sym (assembled (e - 2) (take x rest) frame a b c d e f g h sized (omega arith) known channel)
frame_parts limit kind _ small s k there = absurd (omega (arith, s.sized.1))
