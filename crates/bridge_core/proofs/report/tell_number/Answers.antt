use Rattle.std.proofs.Common.{◌∙◌}
use Rattle.bridge_core.proofs.Writings.{writes_front, writes_same, writes_then}
use Rattle.bridge_core.proofs.report.tell_number.Goals as goal

pub returns-then-not-tell_text : goal.returns-then-not-tell_text
returns-then-not-tell_text g c = writes_front _ _ _ _ _ _ _ c.if-not-tell_text.true c.tell_text.ensures

pub returns : goal.returns
returns g c =
    writes_then _ _ _ _ _ _ _ _ _ _ c.if-not-tell_text.false c.tell_text.ensures
    (writes_same _ _ _ _ _ _ _ (c.as_bytes.ensures.value ∙ c.format.ensures.text) c.tell_text-2.ensures)
