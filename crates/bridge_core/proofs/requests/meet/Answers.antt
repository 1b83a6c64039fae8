use Rattle.std.proofs.Common.{IfOk, sym, subst}
use Rattle.machine_091.specs.declared.unit.Want91.{Want91}
use Rattle.bridge_core.specs.Met.{IsMet}
use Rattle.bridge_core.proofs.requests.meet.Goals as goal

pub returns-in-Publish-clause-ok : goal.returns-in-Publish-clause-ok
returns-in-Publish-clause-ok c =
    subst (λ (x : Want91). IfOk c.meet_publish.result (IsMet c.args.routes.now c.args.paths.now x c.args.conn.now c.meet_publish.new.conn))
    (sym c.in-Publish.is) (c.meet_publish.ensures.ok c.args.paths.now)
