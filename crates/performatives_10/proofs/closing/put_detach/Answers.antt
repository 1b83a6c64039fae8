use Rattle.std.proofs.Common.{List, ℕ, [], ◌∷◌, ◌++◌, ◌+◌, ap, ◌∙◌, subst, arith}
use Rattle.types_10.specs.Writing.{value_text}
use Rattle.types_10.specs.Fields.{a_uint}
use Rattle.performatives_10.specs.Closing.{head_text, error_text, IsWrittenOver}
use Rattle.performatives_10.proofs.Frames.{detach_is}
use Rattle.performatives_10.proofs.closing.put_detach.Goals as goal

pub returns : goal.returns
returns c =
    let old = c.args.out.now in
    let items : ℕ = 1 + c.uint_len.result + c.error_len.result in
    let h : List ℕ = head_text c.args.channel (14 + items) in
    let a : ℕ → List ℕ = λ k. 0 ∷ 83 ∷ 22 ∷ 192 ∷ (items + 1) ∷ k ∷ [] in
    let f : List ℕ = value_text (a_uint c.args.handle) in
    let e : List ℕ = error_text c.args.condition in
    let k = c.detach_count-count.result in
    let second = c.write_at-at.ensures.bytes h old c.write_head-at.ensures.bytes in
    let third = c.write_uint-at.ensures.bytes (h ++ a k) old second in
    let fourth = c.write_at-at-2.ensures.bytes ((h ++ a k) ++ f) old third in
    let fifth = c.write_error.ensures.bytes (((h ++ a k) ++ f) ++ 65 ∷ []) old fourth in
    let Stands : List ℕ → Type 0 = λ t. IsWrittenOver t old c.write_error.new.out c.write_error.result in
    let count = c.uint_len.ensures in
    let more = c.error_len.ensures in
    subst Stands (ap (λ (n : ℕ). (((h ++ a n) ++ f) ++ 65 ∷ []) ++ e) c.detach_count-count.ensures
    ∙ detach_is c.args.channel c.args.handle items c.args.condition (omega (arith, count.length, more.length)) (omega (arith, count.short, more.short))) fifth
