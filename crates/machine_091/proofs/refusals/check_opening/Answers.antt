use Rattle.std.proofs.Common.{sym, ◌∙◌, ap, Some}
use Rattle.methods_091.specs.Reading.{method_in, seen}
use Rattle.machine_091.specs.declared.unit.Ruling.TheVariants as ruling
use Rattle.machine_091.proofs.Orders.{unread_some, unread_none}
use Rattle.machine_091.proofs.refusals.check_opening.Goals as goal

pub returns-in-Some-method_place : goal.returns-in-Some-method_place
returns-in-Some-method_place c =
    unread_some c.args.conn.now c.args.frame.now c.in-Err.fault c.in-Some-method_place.ruling c.requires
    (ap method_in (sym c.as_slice.ensures) ∙ sym c.in_ok-method.ensures.exact ∙ ap seen c.in-Err.is) c.in-Some-method_place.ensures

pub returns-in-None-method_place : goal.returns-in-None-method_place
returns-in-None-method_place c =
    unread_none c.args.conn.now c.args.frame.now c.in-Err.fault c.requires
    (ap method_in (sym c.as_slice.ensures) ∙ sym c.in_ok-method.ensures.exact ∙ ap seen c.in-Err.is) c.in-None-method_place.ensures
    ∙ ap (λ n. Some (ruling.Refused n)) (sym c.fault_code.ensures)
