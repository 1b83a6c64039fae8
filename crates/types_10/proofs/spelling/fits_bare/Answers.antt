use Rattle.std.proofs.Common.{◌≡◌, ℕ, ◌<◌, ◌≤◌, Bool, true, false, not, refl, ap, ◌∙◌, map, arith}
use Rattle.std.specs.Bool.{IsTrue}
use Rattle.std.proofs.lemmas.Bool.Decides.{nat_tests}
use Rattle.types_10.specs.Kinds.{is_bare}
use Rattle.types_10.specs.Tree.{trees_of}
use Rattle.types_10.specs.View.{value_tree}
use Rattle.types_10.specs.Writing.{written_each}
use Rattle.types_10.proofs.Slices.{each_count}
use Rattle.types_10.proofs.spelling.fits_bare.Goals as goal

-- what is bare, and what isn't
isnt_bare : (b : Bool) → not b ≡ true → IsTrue b → ⊥
isnt_bare true e h = absurd cc
isnt_bare false e h = absurd cc

must_not : (b : Bool) (n : ℕ) → 65536 < n → (IsTrue b → n ≤ 65536) → not b ≡ true
must_not true n lt h = absurd (omega (arith, lt, h refl))
must_not false n lt h = refl

pub returns-then-values : goal.returns-then-values
returns-then-values c =
    let few = c.if-values.true in
    ((λ e bare. omega (arith, each_count c.args.values.now, few)), λ h. grind (arith, nat_tests, few))

pub returns-else-values : goal.returns-else-values
returns-else-values c =
    let w = written_each (trees_of (map value_tree c.args.values.now)) in
    let same : c.is_bare.result ≡ is_bare w.kind = c.is_bare.ensures ∙ ap is_bare c.measure_each.ensures.kind in
    let many : 65536 < w.count = grind (arith, nat_tests, each_count c.args.values.now, c.if-values.false) in (
      rw same (λ e bare. absurd (isnt_bare (is_bare w.kind) e bare)),
      rw same (must_not (is_bare w.kind) w.count many),
    )
