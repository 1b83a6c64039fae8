use Rattle.std.proofs.Common.{ap, ◌∙◌, arith, length-append}
use Rattle.types_10.specs.Writing.{shared, written, written_each}
use Rattle.types_10.specs.declared.kind.Kind.{Kind}
use Rattle.types_10.proofs.measure.EachMeasure.behind.Goals as goal

pub returns : goal.returns
returns c t ts m each = record {
  text = omega (arith, c.whole_len.ensures t m, each.text, length-append (written t).text (written_each ts).text);
  front = m.front;
  kind = c.shared.ensures ∙ ap (λ (k : Kind). shared k c.args.self.kind) m.kind ∙ ap (shared (written t).kind) each.kind;
  bodies = omega (arith, m.body, each.bodies);
}
