use Rattle.std.proofs.Common.{List, Option, ap}
use Rattle.machine_10.specs.Parts.{parts_of}
use Rattle.session_path.specs.Path.{PathState}
use Rattle.gate_model.specs.Paths.{with_path}
use Rattle.gate_model.specs.State.{State, path_heard}
use Rattle.bridge_core.proofs.LinkFaults.{heard_change, heard_none, paths_kept, paths_made, paths_retold}
use Rattle.bridge_core.proofs.LinkFaults.{retold, takes_as, transfer_heard}
use Rattle.bridge_core.proofs.core_state.Core.hear_path.Goals as goal

pub returns-in-Transfer-clause-ok : goal.returns-in-Transfer-clause-ok
returns-in-Transfer-clause-ok c =
    paths_retold c.hear_transfer.result c.hear_transfer.new.self c.args.self.now _ _ c.hear_transfer.ensures.ok
    (transfer_heard c.args.self.now.conn.limits.frame_max c.args.channel c.args.perf.now c.in-Transfer.transfer c.args.payload.now c.args.self.now.paths c.in-Transfer.is)

pub returns-in-None : goal.returns-in-None
returns-in-None c =
    let w = c.args.self.now in
    record {
      ok = ap (λ (ps : List (Option PathState)). record w { paths = ps })
          (heard_none w.conn.limits.frame_max c.args.channel (parts_of c.args.perf.now) c.args.payload.now w.paths
          (c.in-None.ensures.path w.conn.limits.frame_max c.args.channel c.args.payload.now));
      err = tt;
      takes = tt;
    }

pub returns-in-Some : goal.returns-in-Some
returns-in-Some c =
    let n = c.args.channel in
    let p = parts_of c.args.perf.now in
    record {
      ok = paths_made c.change.result _ _ c.change.new.self (λ (w : State). with_path n (path_heard w.conn.limits.frame_max n p c.args.payload.now) w.paths)
          (retold c.change.result c.change.new.self _ _ c.change.ensures.ok
          (heard_change c.self.inside.conn.limits.frame_max n p c.args.payload.now _ c.self.inside.paths
          (c.in-Some.ensures.path c.self.inside.conn.limits.frame_max n c.args.payload.now)))
          c.self.view_is;
      err = paths_kept c.change.result _ _ c.change.new.self c.change.ensures.err c.self.view_is;
      takes = takes_as c.change.result _ _ c.change.ensures.takes c.in-Some.ensures.takes;
    }
