use Rattle.bridge_core.proofs.Changes.{none_changed}
use Rattle.bridge_core.proofs.core_state.Core.change_path.Goals as goal

pub returns-in-None-clause-ok : goal.returns-in-None-clause-ok
returns-in-None-clause-ok c =
    none_changed c.args.self.now c.args.channel c.args.method.now c.change_by.result c.in-None.is c.change_by.ensures.path
