use Rattle.std.proofs.Common.{sym, ◌∙◌}
use Rattle.wire_base.specs.declared.stop.Stop.TheVariants as stop
use Rattle.types_10.specs.Reading.{value_in}
use Rattle.types_10.proofs.Spellings.{not_told, told_is}
use Rattle.types_10.proofs.spelled.Spelled.read.Goals as goal

pub unreachable-unreachable : goal.unreachable-unreachable
unreachable-unreachable c =
    let s = c.self.inside in
    let told = rw c.in-Err-Fault.field-0-is at c.in-Err-Fault.ensures in
    not_told (value_in s.depth s.room s.bounds.cut s.bounds.end s.text.now) c.self.invariant.0 (stop.Fault _) c.self.invariant.1 told

pub returns-in-Ok : goal.returns-in-Ok
returns-in-Ok c =
    let s = c.self.inside in
    sym (told_is (value_in s.depth s.room s.bounds.cut s.bounds.end s.text.now) _ c.in-Ok.ensures) ∙ c.self.view_is
