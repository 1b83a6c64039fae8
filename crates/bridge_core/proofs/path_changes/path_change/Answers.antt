use Rattle.std.proofs.Common.{rules}
use Rattle.bridge_core.proofs.PathChanges.{attach_heard, detach_heard, flow_heard}
use Rattle.bridge_core.proofs.path_changes.path_change.Goals as goal

pub returns-in_ok-name-in-Attach-clause-path : goal.returns-in_ok-name-in-Attach-clause-path
returns-in_ok-name-in-Attach-clause-path c =
    attach_heard c.args.perf.now c.in-Attach.attach c.in_ok-name-in-Attach.name c.attach_heard.result (search rules) (search rules) c.attach_heard.ensures

pub returns-in_ok-handle-in-Flow-clause-path : goal.returns-in_ok-handle-in-Flow-clause-path
returns-in_ok-handle-in-Flow-clause-path c =
    let e = c.link_flow.ensures in
    flow_heard c.args.perf.now c.in-Flow.flow c.in_ok-handle-in-Flow.handle _ _ _ _ (search rules) (search rules) e.count e.credit e.drain e.echo

pub returns-in-Detach-clause-path : goal.returns-in-Detach-clause-path
returns-in-Detach-clause-path c =
    detach_heard c.args.perf.now c.in-Detach.detach c.is_not_found.result (search rules) c.is_not_found.ensures
