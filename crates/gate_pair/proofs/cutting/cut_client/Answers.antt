use Rattle.gate_model.specs.State.{OutOfMemory}
use Rattle.gate_pair.proofs.Sounds.{moved_stays, sound_more}
use Rattle.gate_pair.proofs.cutting.cut_client.Goals as goal

pub returns-in-Err-append-clause-sound : goal.returns-in-Err-append-clause-sound
returns-in-Err-append-clause-sound c =
    sound_more c.args.bridge.now c.cut_units.new.bridge c.run_out.new.self c.cut_units.ensures.sound
    (moved_stays OutOfMemory c.cut_units.new.bridge c.run_out.new.self c.run_out.ensures.step c.run_out.ensures.kept)
