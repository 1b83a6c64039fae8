use Rattle.std.proofs.Common.{List, ℕ, Some, [], ◌∷◌, ◌++◌, ◌+◌, ap, subst}
use Rattle.performatives_10.specs.Closing.{head_text, error_text, IsWrittenOver}
use Rattle.performatives_10.proofs.closing.put_failed.Goals as goal

pub returns-clause-frame : goal.returns-clause-frame
returns-clause-frame c =
    let old = c.args.out.now in
    let n = c.error_len-size.result in
    let e : List ℕ = error_text (Some c.args.condition) in
    let h : List ℕ = head_text c.args.channel (14 + n) in
    let second = c.write_at-at.ensures.bytes h old c.write_head-at.ensures.bytes in
    let third = c.write_error.ensures.bytes (h ++ 0 ∷ 83 ∷ c.args.code ∷ 192 ∷ (n + 1) ∷ 1 ∷ []) old second in
    let Stands : List ℕ → Type 0 = λ t. IsWrittenOver t old c.write_error.new.out c.write_error.result in
    subst Stands (ap (λ (k : ℕ). (head_text c.args.channel (14 + k) ++ 0 ∷ 83 ∷ c.args.code ∷ 192 ∷ (k + 1) ∷ 1 ∷ []) ++ e) c.error_len-size.ensures.length) third
