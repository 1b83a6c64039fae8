use Rattle.std.proofs.Common.{arith}
use Rattle.gate_show.proofs.Whole.{all_listed}
use Rattle.gate_show.proofs.show.show_capture.Goals as goal

pub returns-in-Ok-clause-listed : goal.returns-in-Ok-clause-listed
returns-in-Ok-clause-listed g c =
    all_listed c.in-Ok.field-0-0.now c.in-Ok.rest.now c.args.bytes.now _ _ _ (λ i. omega (arith, c.type_inv.bytes i)) c.in-Ok.ensures c.show_entries.ensures.listed
