use Rattle.std.proofs.Common.{sym, subst, ◌∙◌, ap, Some, Bool}
use Rattle.methods_091.specs.Reading.{method_in, seen}
use Rattle.machine_091.specs.Checked.{IsCounted}
use Rattle.machine_091.specs.RefusalsRunning.{class_order}
use Rattle.machine_091.specs.declared.unit.Ruling.TheVariants as ruling
use Rattle.machine_091.proofs.Orders.{running_some, running_unread, running_read}
use Rattle.machine_091.proofs.refusals.check_running.Goals as goal

pub returns-in-Some-method_place : goal.returns-in-Some-method_place
returns-in-Some-method_place c =
    running_some c.args.conn.now c.args.frame.now c.in-Some-method_place.ruling c.requires
    (c.in_default.ensures ∙ ap (class_order c.args.frame.now.channel) c.as_slice-payload.ensures) c.in-Some-method_place.ensures

pub returns-in-Err : goal.returns-in-Err
returns-in-Err c =
    running_unread c.args.conn.now c.args.frame.now c.in-Err.fault c.requires
    (ap method_in (sym c.as_slice-payload.ensures) ∙ sym c.in_ok-fault.ensures.exact ∙ ap seen c.in-Err.is)
    (c.in_default.ensures ∙ ap (class_order c.args.frame.now.channel) c.as_slice-payload.ensures) c.in_default-method_place.ensures
    ∙ ap (λ n. Some (ruling.Refused n)) (sym c.fault_code.ensures)

pub returns-in-Some-running_ruling : goal.returns-in-Some-running_ruling
returns-in-Some-running_ruling c =
    running_read c.args.conn.now c.args.frame.now c.in-Ok.method c.requires
    (ap method_in (sym c.as_slice-payload.ensures) ∙ sym c.in_ok-fault.ensures.exact ∙ ap seen c.in-Ok.is)
    (c.in_default.ensures ∙ ap (class_order c.args.frame.now.channel) c.as_slice-payload.ensures) c.in_default-method_place.ensures
    ∙ sym c.running_ruling.ensures.ruling ∙ c.in-Some-running_ruling.is

pub returns-in-None : goal.returns-in-None
returns-in-None c =
    let read = ap method_in (sym c.as_slice-payload.ensures) ∙ sym c.in_ok-fault.ensures.exact ∙ ap seen c.in-Ok.is in (
      running_read c.args.conn.now c.args.frame.now c.in-Ok.method c.requires read
          (c.in_default.ensures ∙ ap (class_order c.args.frame.now.channel) c.as_slice-payload.ensures) c.in_default-method_place.ensures
          ∙ sym c.running_ruling.ensures.ruling ∙ c.in-None.is,
      read,
      subst (λ (b : Bool). IsCounted b c.args.conn.now c.args.frame.now.channel c.in-Ok.method) (sym c.requires) c.in-None.ensures.counted,
    )
