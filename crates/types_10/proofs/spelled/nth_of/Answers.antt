use Rattle.std.proofs.Common.{◌≡◌, ℕ, ◌-◌, refl, sym, ◌∙◌, arith}
use Rattle.types_10.specs.Reading.{value_in}
use Rattle.types_10.specs.Spelled.{told}
use Rattle.types_10.proofs.Spellings.{row_step, row_at, row_on}
use Rattle.types_10.proofs.spelled.nth_of.Goals as goal

pub loop-before-init : goal.loop-before-init
loop-before-init c =
    let all : c.args.count - (c.args.place - c.args.place) ≡ c.args.count = omega arith in
    rw all (omega arith, c.requires.read, refl)

pub past-left-requires : goal.past-left-requires
past-left-requires c =
    let n = c.args.count - (c.args.place - c.loop-before.before) in
    (row_step (λ (room : ℕ). value_in c.args.depth room c.args.bounds.cut) n (n - 1) c.loop-before.spare c.args.bounds.end c.loop-before.rest.now (omega (arith, c.loop-before.invariant.0, c.requires.there)) c.loop-before.invariant.1).0

pub loop-before-preserved : goal.loop-before-preserved
loop-before-preserved c =
    let n = c.args.count - (c.args.place - c.loop-before.before) in
    let m = c.args.count - (c.args.place - (c.loop-before.before - 1)) in
    let read = λ (room : ℕ). value_in c.args.depth room c.args.bounds.cut in
    let value = read c.loop-before.spare c.args.bounds.end c.loop-before.rest.now in
    let on = row_on read n m c.loop-before.before (c.loop-before.before - 1) c.loop-before.spare c.args.bounds.end c.loop-before.rest.now (told value) c.past-left.result.0 c.past-left.result.1.now
    (omega (arith, c.loop-before.invariant.0, c.requires.there)) (omega arith) c.loop-before.invariant.1 c.past-left.ensures in
    (omega (arith, c.loop-before.invariant.0), on.0, c.loop-before.invariant.2 ∙ on.1)

pub invariant_of-result : goal.invariant_of-result
invariant_of-result c =
    (row_at (λ (room : ℕ). value_in c.args.depth room c.args.bounds.cut) (c.args.count - (c.args.place - c.loop-before.before)) c.loop-before.before c.loop-before.spare c.args.bounds.end c.loop-before.rest.now (omega (arith, c.loop-before.invariant.0, c.requires.there)) (omega arith) c.loop-before.invariant.1).0

pub returns : goal.returns
returns c =
    let at = row_at (λ (room : ℕ). value_in c.args.depth room c.args.bounds.cut) (c.args.count - (c.args.place - c.loop-before.before)) c.loop-before.before c.loop-before.spare c.args.bounds.end c.loop-before.rest.now (omega (arith, c.loop-before.invariant.0, c.requires.there)) (omega arith) c.loop-before.invariant.1 in
    at.1 ∙ sym c.loop-before.invariant.2
