use Rattle.machine_091.specs.Limits.{AreWithin}
use Rattle.machine_091.specs.Writable.{CanPutContents}
use Rattle.machine_091.proofs.StepLaws.{limits_stay}
use Rattle.machine_091.proofs.Writable.{step_puts, kept_by, want_puts}
use Rattle.machine_091.proofs.connection.Conn91.take.Goals as goal

pub invariant_of-self : goal.invariant_of-self
invariant_of-self c =
    let s = c.self.inside.state in
    let u = c.args.unit in
    let h = c.self.invariant in
    kept_by (λ x. AreWithin x.limits × CanPutContents x) c.take.result s _ u c.take.ensures.state c.take.ensures.err
    (limits_stay s u h.0, (step_puts s u c.tell_bytes.ensures h.1).0) h

pub returns-clause-put : goal.returns-clause-put
returns-clause-put c = want_puts c.take.result c.self.inside.state c.args.unit c.tell_bytes.ensures c.self.invariant.1 c.take.ensures.want
