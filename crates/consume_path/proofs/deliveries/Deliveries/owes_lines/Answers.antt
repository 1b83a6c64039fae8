use Rattle.std.proofs.Common.{◌∙◌, ap, sym, length}
use Rattle.std.specs.Prelude.{nat_lt}
use Rattle.consume_path.specs.Deliveries.{DeliveryState}
use Rattle.consume_path.specs.Offers.{lines_of}
use Rattle.consume_path.specs.declared.tallies.Counts.{Counts}
use Rattle.consume_path.proofs.Kept.{lines_counted}
use Rattle.consume_path.proofs.deliveries.Deliveries.owes_lines.Goals as goal

pub returns : goal.returns
returns c =
    ap (λ (k : Counts). nat_lt 0 k.lines) c.self.invariant.counts_are
    ∙ ap (nat_lt 0) (sym (lines_counted c.self.inside.life c.self.inside.items.items))
    ∙ ap (λ (s : DeliveryState). nat_lt 0 (length (lines_of s.life s.list))) c.self.view_is
