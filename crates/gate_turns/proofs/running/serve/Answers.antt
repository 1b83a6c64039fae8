use Rattle.std.proofs.Common.{[], ◌∷◌, refl}
use Rattle.gate_runs.specs.Marks.{Finish}
use Rattle.gate_runs.specs.declared.served.Served.TheVariants.{Memory}
use Rattle.gate_turns.proofs.Runs.{run_served, told_at_once}
use Rattle.gate_turns.proofs.running.serve.Goals as goal

pub returns-in_default-clause-served : goal.returns-in_default-clause-served
returns-in_default-clause-served g c = λ base told.
    told_at_once base (g.P.Ports.log c.args.ports.now) (Finish Memory ∷ []) _ told refl
    (c.end_without_memory.ensures.served (g.R.Relay.words c.args.setup.now) c.args.limits.now (g.T.Recorder.held c.args.recorder.now))

pub returns-clause-served : goal.returns-clause-served
returns-clause-served g c = λ base told.
    run_served (g.R.Relay.words c.args.setup.now) (g.R.Relay.represents c.args.setup.now) c.args.limits.now c.run-why.result c.conclude-answer.result _ _ _ _ _ _ _ base _ _ _
    c.requires.form c.new-service.ensures.live c.new-service.ensures.accepted c.new-tally.ensures refl refl refl told c.run-why.ensures.log
    (c.conclude-answer.ensures.log c.args.setup.now c.run-why.new.tally)
