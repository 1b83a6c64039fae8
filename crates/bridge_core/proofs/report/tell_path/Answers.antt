use Rattle.bridge_core.proofs.OwedLines.{path_front, path_text}
use Rattle.bridge_core.proofs.Writings.{writes_front, writes_same, writes_then}
use Rattle.bridge_core.proofs.report.tell_path.Goals as goal

pub returns-then-not-tell_publishes : goal.returns-then-not-tell_publishes
returns-then-not-tell_publishes g c =
    writes_same _ _ _ _ _ _ _
    (path_front c.args.pair c.args.path.now c.life-life.result c.publishes.result.now c.life-life.ensures c.publishes.ensures)
    (writes_front _ _ _ _ _ _ _ c.if-not-tell_publishes.true c.tell_publishes.ensures)

pub returns : goal.returns
returns g c =
    writes_same _ _ _ _ _ _ _
    (path_text c.args.pair c.args.path.now c.life-life.result c.delivery_life.result c.publishes.result.now c.deliveries.result.now c.life-life.ensures c.delivery_life.ensures c.publishes.ensures c.deliveries.ensures)
    (writes_then _ _ _ _ _ _ _ _ _ _ c.if-not-tell_publishes.false c.tell_publishes.ensures c.tell_deliveries.ensures)
