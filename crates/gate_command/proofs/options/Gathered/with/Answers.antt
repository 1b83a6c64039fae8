use Rattle.std.proofs.Common.{refl}
use Rattle.gate_command.specs.Reading.{set_in}
use Rattle.gate_command.proofs.options.Gathered.with.Goals as goal

pub returns : goal.returns
unfolding set_in
returns c =
    elim c.match-name.branch [
      | goal.in-Listen+in_ok-text_of-in-Listen w ↦
          rw (w.self-is, w.in-Listen.is, ← w.in_ok-text_of-in-Listen.ensures) refl
      | goal.in-Upstream+in_ok-text_of-in-Upstream w ↦
          rw (w.self-is, w.in-Upstream.is, ← w.in_ok-text_of-in-Upstream.ensures) refl
      | goal.in-Name+in_ok-name_of-in-Name w ↦
          rw (w.self-is, w.in-Name.is, ← w.in_ok-name_of-in-Name.ensures) refl
      | goal.in-Host+in_ok-host_of-in-Host w ↦
          rw (w.self-is, w.in-Host.is, ← w.in_ok-host_of-in-Host.ensures) refl
      | goal.in-Vhost+in_ok-short_of-in-Vhost w ↦
          rw (w.self-is, w.in-Vhost.is, ← w.in_ok-short_of-in-Vhost.ensures) refl
      | goal.in-Exchange+in_ok-exchanges_of-in-Exchange w ↦
          rw (w.self-is, w.in-Exchange.is, ← w.in_ok-exchanges_of-in-Exchange.ensures) refl
      | goal.in-Pairs+in_ok-number_of-in-Pairs w ↦
          rw (w.self-is, w.in-Pairs.is, ← w.in_ok-number_of-in-Pairs.ensures.number) refl
      | goal.in-Turns+in_ok-number_of-in-Turns w ↦
          rw (w.self-is, w.in-Turns.is, ← w.in_ok-number_of-in-Turns.ensures.number) refl
      | goal.in-Capture+in_ok-text_of-in-Capture w ↦
          rw (w.self-is, w.in-Capture.is, ← w.in_ok-text_of-in-Capture.ensures) refl
    ]
