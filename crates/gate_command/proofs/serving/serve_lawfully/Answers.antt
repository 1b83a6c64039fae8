use Rattle.gate_command.proofs.RunLaws.{history_map}
use Rattle.gate_command.proofs.serving.serve_lawfully.Goals as goal

pub returns-clause-served : goal.returns-clause-served
returns-clause-served g c = λ base e. history_map base _ _ _
    (λ m s.
    let lawful = c.runs_are_lawful.ensures _ _ m s.follows in
    record { served = s; lawful = lawful; frames_up = λ p. ((lawful 0).pairs p).frames_up c.know_form.ensures })
    (c.serve.ensures.served base e)
