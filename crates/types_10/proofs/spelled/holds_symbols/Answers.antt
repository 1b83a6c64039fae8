use Rattle.std.proofs.Common.{◌≡◌, refl, sym, ◌∙◌, arith, true, false, eqb}
use Rattle.std.proofs.lemmas.Bool.{eq-eqb, ne_eqb}
use Rattle.types_10.specs.Kinds.{size_width}
use Rattle.types_10.specs.Reading.{shape_in}
use Rattle.types_10.specs.Skipping.{outline}
use Rattle.types_10.proofs.Spellings.{made_stands, array_stands, array_counted, array_shape}
use Rattle.types_10.proofs.Spellings.{array_told}
use Rattle.types_10.proofs.spelled.holds_symbols.Goals as goal

pub counted-count-requires : goal.counted-count-requires
counted-count-requires c =
    let w = size_width c.args.size in
    array_counted c.args.depth c.args.room w c.args.at c.args.bounds.cut c.args.bounds.end c.args.content.now c.requires.0.0.0 (array_stands c.args.depth c.args.room w c.args.at c.args.bounds.cut c.args.bounds.end c.args.content.now c.requires.0 c.requires.1)

pub unreachable-unreachable : goal.unreachable-unreachable
unreachable-unreachable c =
    let w = size_width c.args.size in
    let a = array_stands c.args.depth c.args.room w c.args.at c.args.bounds.cut c.args.bounds.end c.args.content.now c.requires.0 c.requires.1 in
    let inside = c.counted-count.result.0 in
    let shape = c.counted-count.result.2.now in
    let there = array_shape c.args.depth c.args.room w c.args.at c.args.bounds.cut c.args.bounds.end c.args.content.now c.requires.0.0.0 inside c.counted-count.result.1 shape a (c.counted-count.ensures a.0 a.2.0 a.1 a.2.1) in
    made_stands outline (shape_in c.args.depth c.args.room inside.cut inside.end shape) c.in-Err.field-0 there c.in-Err.ensures

pub returns-then-count-eq0 : goal.returns-then-count-eq0
returns-then-count-eq0 c = λ ts e.
    let w = size_width c.args.size in
    let a = array_stands c.args.depth c.args.room w c.args.at c.args.bounds.cut c.args.bounds.end c.args.content.now ts e in
    let told = array_told c.args.depth c.args.room w c.args.at c.args.bounds.cut c.args.bounds.end c.args.content.now ts.0.0 c.counted-count.result.0 c.counted-count.result.1 c.counted-count.result.2.now _ _ _ a (c.counted-count.ensures a.0 a.2.0 a.1 a.2.1) c.in-Ok.ensures in
    let none : eqb c.counted-count.result.1 0 ≡ true = eq-eqb _ _ (omega arith) in
    sym (told ∙ rw none refl)

pub returns-then-shape-eq0 : goal.returns-then-shape-eq0
returns-then-shape-eq0 c = λ ts e.
    let w = size_width c.args.size in
    let a = array_stands c.args.depth c.args.room w c.args.at c.args.bounds.cut c.args.bounds.end c.args.content.now ts e in
    let told = array_told c.args.depth c.args.room w c.args.at c.args.bounds.cut c.args.bounds.end c.args.content.now ts.0.0 c.counted-count.result.0 c.counted-count.result.1 c.counted-count.result.2.now c.in-Ok.shape _ _ a (c.counted-count.ensures a.0 a.2.0 a.1 a.2.1) c.in-Ok.ensures in
    let some : eqb c.counted-count.result.1 0 ≡ false = ne_eqb _ _ (λ none. omega (arith, none)) in
    let plain : eqb c.in-Ok.shape.front.count 0 ≡ true = eq-eqb _ _ (omega arith) in
    c.is_symbol_kind.ensures ∙ sym (told ∙ rw (some, plain) refl)

pub returns-else-shape-eq0 : goal.returns-else-shape-eq0
returns-else-shape-eq0 c = λ ts e.
    let w = size_width c.args.size in
    let a = array_stands c.args.depth c.args.room w c.args.at c.args.bounds.cut c.args.bounds.end c.args.content.now ts e in
    let told = array_told c.args.depth c.args.room w c.args.at c.args.bounds.cut c.args.bounds.end c.args.content.now ts.0.0 c.counted-count.result.0 c.counted-count.result.1 c.counted-count.result.2.now c.in-Ok.shape _ _ a (c.counted-count.ensures a.0 a.2.0 a.1 a.2.1) c.in-Ok.ensures in
    let some : eqb c.counted-count.result.1 0 ≡ false = ne_eqb _ _ (λ none. omega (arith, none)) in
    let deep : eqb c.in-Ok.shape.front.count 0 ≡ false = ne_eqb _ _ (λ none. omega (arith, none)) in
    sym (told ∙ rw (some, deep) refl)
