use Rattle.std.proofs.Common.{◌∙◌, ap, sym, length}
use Rattle.std.specs.Prelude.{nat_lt}
use Rattle.publish_path.specs.Offers.{lines_of}
use Rattle.publish_path.specs.Publishes.{PublishState}
use Rattle.publish_path.specs.declared.counts.Counts.{Counts}
use Rattle.publish_path.proofs.Ahead.{lines_counted}
use Rattle.publish_path.proofs.publishes.Publishes.owes_lines.Goals as goal

pub returns : goal.returns
returns c =
    ap (λ (k : Counts). nat_lt 0 k.lines) c.self.invariant.0.counted
    ∙ ap (nat_lt 0) (sym (lines_counted c.self.inside.life c.self.inside.items.items))
    ∙ ap (λ (s : PublishState). nat_lt 0 (length (lines_of s.life s.list))) c.self.view_is
