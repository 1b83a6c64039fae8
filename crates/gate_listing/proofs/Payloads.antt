-- The payloads of frames: bytes, and how long a frame is.
use Rattle.std.proofs.Common.{◌≡◌, ℕ, ◌+◌, ◌≤◌, List, [], ◌∷◌, ◌++◌, length, drop, refl, ap, subst}
use Rattle.std.proofs.Common.{◌∙◌, arith}
use Rattle.std.specs.Int.{w16, w32, to_be_bytes}
use Rattle.std.proofs.lemmas.List.{get_or-append-add, drop_at, length-append}
use Rattle.wire_base.specs.Bytes.{IsBytes}
use Rattle.wire_base.proofs.Bytes.{IsBytes-drop, get_or-append-le}
use Rattle.frames_091.specs.declared.frame.Frame91.{Frame91}
use Rattle.frames_091.specs.Frames as frames_091
use Rattle.frames_10.specs.declared.frame.Frame10.{Frame10}
use Rattle.frames_10.specs.Frames as frames_10
use Rattle.gate_listing.specs.Units.{IsFrame091, IsFrame10}

inside_091 : (frame : Frame91) → IsBytes (frames_091.frame_text frame) → IsBytes frame.payload
unfolding frames_091.frame_text
inside_091 frame fits i =
    let front = frames_091.kind_byte frame.kind ∷ to_be_bytes w16 frame.channel ++ to_be_bytes w32 (length frame.payload) in
    let there = get_or-append-add front (frame.payload ++ 206 ∷ []) i 0 in
    omega (arith, get_or-append-le frame.payload (206 ∷ []) i, there, fits (7 + i))

pub payload_fits : (frame : Frame91) (text : List ℕ) → IsFrame091 frame text → IsBytes text → IsBytes frame.payload
payload_fits frame text f fits = inside_091 frame (subst IsBytes f.spelled fits)

size_091 : (frame : Frame91) → 8 ≤ length (frames_091.frame_text frame)
unfolding frames_091.frame_text
size_091 frame = omega (arith, length-append frame.payload (206 ∷ []))

pub some_091 : (frame : Frame91) (text : List ℕ) → IsFrame091 frame text → 1 ≤ length text
some_091 frame text f = omega (arith, ap length f.spelled, size_091 frame)

behind_10 : (words : ℕ) (extended : List ℕ) (frame : Frame10) → drop 8 (frames_10.text_behind words extended frame) ≡ extended ++ frame.body
unfolding frames_10.text_behind
behind_10 words extended frame = refl

pub body_fits : (frame : Frame10) (text : List ℕ) → IsFrame10 frame text → IsBytes text → IsBytes frame.body
body_fits frame text f fits =
    let behind : drop 8 text ≡ f.extended ++ frame.body = ap (drop 8) f.spelled ∙ behind_10 f.words f.extended frame in
    subst IsBytes (ap (drop (length f.extended)) behind ∙ drop_at f.extended frame.body (length f.extended) refl)
    (IsBytes-drop (length f.extended) (drop 8 text) (IsBytes-drop 8 text fits))

size_10 : (words : ℕ) (extended : List ℕ) (frame : Frame10) → 8 ≤ length (frames_10.text_behind words extended frame)
unfolding frames_10.text_behind
size_10 words extended frame = omega arith

pub some_10 : (frame : Frame10) (text : List ℕ) → IsFrame10 frame text → 1 ≤ length text
some_10 frame text f = omega (arith, ap length f.spelled, size_10 f.words f.extended frame)
