-- The payload of a frame that begins in the bytes that were kept, by the parts of these.
use Rattle.std.proofs.Common.{◌≡◌, ◌∙◌, ℕ, ◌+◌, ◌-◌, ◌<◌, ◌≤◌, List, [], ◌∷◌, ◌++◌, length, take, drop}
use Rattle.std.proofs.Common.{sym, ap, arith, append-nil}
use Rattle.std.proofs.lemmas.List.{append_assoc, take-append-le}
use Rattle.std.proofs.Math.Seq.{drop-append-add, drop-append_seam, take-append-add}
use Rattle.frames_091.specs.Unread.{AreSplit}

-- none of it was kept
pub payload_behind : (n : ℕ) (head behind bytes : List ℕ) → AreSplit head behind → length head < 7
    → take n (drop (7 - length head) bytes) ≡ take n (drop 7 ((head ++ behind) ++ bytes))
payload_behind n head (x ∷ behind) bytes s lt = absurd (omega (arith, s.1 (omega arith)))
payload_behind n head [] bytes s lt =
    let seven : length head + (7 - length head) ≡ 7 = omega (arith, s.0) in
    ap (take n) (sym (drop-append-add head bytes (7 - length head)) ∙ ap (λ k. drop k (head ++ bytes)) seven ∙ ap (λ t. drop 7 (t ++ bytes)) (sym (append-nil head)))

behind_head : (head behind bytes : List ℕ) → AreSplit head behind → 7 ≤ length head → drop 7 ((head ++ behind) ++ bytes) ≡ behind ++ bytes
behind_head head behind bytes s le =
    let seven : 7 ≡ length head = omega (arith, s.0) in
    ap (drop 7) (append_assoc head behind bytes) ∙ ap (λ k. drop k (head ++ (behind ++ bytes))) seven ∙ drop-append_seam head (behind ++ bytes)

-- all of it was
pub payload_kept : (n : ℕ) (head behind bytes : List ℕ) → AreSplit head behind → 7 ≤ length head → n < length behind
    → take n behind ≡ take n (drop 7 ((head ++ behind) ++ bytes))
payload_kept n head behind bytes s le lt =
    sym (ap (take n) (behind_head head behind bytes s le) ∙ take-append-le n behind bytes (omega arith))

-- a part of it was
pub payload_grown : (n : ℕ) (head behind bytes : List ℕ) → AreSplit head behind → 7 ≤ length head → length behind ≤ n
    → behind ++ take (n - length behind) bytes ≡ take n (drop 7 ((head ++ behind) ++ bytes))
payload_grown n head behind bytes s le lt =
    let all : n ≡ length behind + (n - length behind) = omega arith in
    sym (ap (take n) (behind_head head behind bytes s le) ∙ ap (λ k. take k (behind ++ bytes)) all ∙ take-append-add behind bytes (n - length behind))
