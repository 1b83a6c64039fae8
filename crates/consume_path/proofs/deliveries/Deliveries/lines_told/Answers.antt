use Rattle.std.proofs.Common.{sym, ap}
use Rattle.consume_path.specs.Deliveries.{DeliveryState}
use Rattle.consume_path.proofs.Kept.{none_told}
use Rattle.consume_path.proofs.deliveries.Deliveries.lines_told.Goals as goal

pub returns-then-self-eq0 : goal.returns-then-self-eq0
returns-then-self-eq0 c =
    none_told c.self.invariant c.if-self-eq0.true c.args.self.now (ap (λ (s : DeliveryState). s.links) (sym c.self.view_is)) (ap (λ (s : DeliveryState). s.list) (sym c.self.view_is))
