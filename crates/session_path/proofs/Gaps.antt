-- The lowest number that no link has.
use Rattle.std.proofs.Common.{◌≡◌, ◌∙◌, ℕ, suc, ◌+◌, ◌<◌, List, true, drop, sym, ap}
use Rattle.std.proofs.Common.{arith, cond, length, get_or, add-one, drop-cons}
use Rattle.std.specs.Prelude.{◌==◌}
use Rattle.std.proofs.lemmas.Bool.Decides.{nat_tests}
use Rattle.session_path.specs.declared.path.PathLink.{PathLink}
use Rattle.session_path.specs.Links.{gap}

pub gap_more : (ls : List PathLink) (i n : ℕ) (d : PathLink) → i < length ls → (get_or ls i d).link ≡ n → n + gap n (drop i ls) ≡ (n + 1) + gap (n + 1) (drop (i + 1) ls)
gap_more ls i n d lt e =
    let is : ((get_or ls i d).link == n) ≡ true = grind (arith, nat_tests) in
    ap (λ xs. n + gap n xs) (drop-cons ls i d lt) ∙ (ap (λ b. n + cond b (gap (n + 1) (drop (suc i) ls) + 1) 0) is ∙ (by (gap (n + 1) (drop (suc i) ls)) ∙ ap (λ k. (n + 1) + gap (n + 1) (drop k ls)) (sym (add-one i))))
  where
    by : (g : ℕ) → n + (g + 1) ≡ (n + 1) + g
    by g = omega arith
