use Rattle.std.proofs.Common.{◌∙◌, sym, ap}
use Rattle.gate_model.specs.Due.{client_rows}
use Rattle.bridge_core.specs.Offers.{SlotState}
use Rattle.bridge_core.proofs.Firsts.{first_bytes}
use Rattle.bridge_core.proofs.bridge.look.Goals as goal

pub returns-in_ok-choose-in-Some-clause-bytes : goal.returns-in_ok-choose-in-Some-clause-bytes
returns-in_ok-choose-in-Some-clause-bytes c =
    ap (λ (s : SlotState). s.bytes) c.in_ok-choose-in-Some.ensures.ok
    ∙ sym (first_bytes c.args.state.now (client_rows c.args.state.now) c.in-Some.unit c.args.slot.now.bytes c.in-Some.ensures)
