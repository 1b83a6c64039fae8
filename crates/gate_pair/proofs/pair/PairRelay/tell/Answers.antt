use Rattle.std.proofs.Common.{[], ◌∷◌, ap, refl, true}
use Rattle.gate_outside.specs.declared.ports.End.TheVariants.{Client}
use Rattle.gate_model.specs.State.{Moment}
use Rattle.gate_pair.specs.Meaning.{Told, made, ticked, told, watched}
use Rattle.gate_pair.specs.PairStates.{unlined}
use Rattle.gate_pair.proofs.Saids.{half, pair_of, says_of, told_said}
use Rattle.gate_pair.proofs.pair.PairRelay.tell.Goals as goal

pub returns-clause-entry : goal.returns-clause-entry
returns-clause-entry c = λ s h r.
    let t : Told = made (Moment c.args.moment ∷ []) (told s h) in
    told_said (pair_of c.self.inside.bridge (half c.self.inside.client c.self.inside.client_sent) (half c.self.inside.up c.self.inside.up_sent) true) (ticked c.args.moment (told s h)) true
    (says_of c.self.inside.bridge (half c.self.inside.client c.self.inside.client_sent) (half c.self.inside.up c.self.inside.up_sent) c.self.inside.telling c.watch-2.new.self (ticked c.args.moment (told s h)) c.self.view_is
    (c.watch-2.ensures.step (watched Client t) (c.watch.ensures.step t (c.clock.ensures.step (told s h) (ap unlined r))))) refl
