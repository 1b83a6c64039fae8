use Rattle.std.proofs.Common.{[], ap, false, refl}
use Rattle.gate_pair.specs.Meaning.{brought, told}
use Rattle.gate_pair.specs.PairStates.{unlined}
use Rattle.gate_pair.proofs.Saids.{half, pair_of, says_of, told_said}
use Rattle.gate_pair.proofs.pair.PairRelay.finish.Goals as goal

pub returns-clause-entry : goal.returns-clause-entry
returns-clause-entry c = λ s h e.
    told_said (pair_of c.self.inside.bridge (half c.self.inside.client c.self.inside.client_sent) (half c.self.inside.up c.self.inside.up_sent) false) (brought [] (told s h)) false
    (says_of c.self.inside.bridge (half c.self.inside.client c.self.inside.client_sent) (half c.self.inside.up c.self.inside.up_sent) c.self.inside.telling c.args.self.now (told s h) c.self.view_is (ap unlined e)) refl
