use Rattle.bridge_core.proofs.Writings.{writes_by}
use Rattle.bridge_core.proofs.report.tell_text.Goals as goal

pub returns : goal.returns
returns g c = let e = c.write_all.ensures in writes_by _ _ _ _ _ _ e.later e.cause e.whole e.part
