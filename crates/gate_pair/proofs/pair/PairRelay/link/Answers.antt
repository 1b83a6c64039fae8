use Rattle.std.proofs.Common.{[], ◌∷◌, ap, refl, true}
use Rattle.gate_model.specs.State.{Joined}
use Rattle.gate_pair.specs.Meaning.{made, told}
use Rattle.gate_pair.specs.PairStates.{unlined}
use Rattle.gate_pair.proofs.Saids.{half, moved_says, pair_of, told_said}
use Rattle.gate_pair.proofs.pair.PairRelay.link.Goals as goal

pub returns-clause-entry : goal.returns-clause-entry
returns-clause-entry c = λ s h e.
    told_said (pair_of c.link.new.self (half c.self.inside.client c.self.inside.client_sent) (half c.self.inside.up c.self.inside.up_sent) true) (made (Joined c.args.answer ∷ []) (told s h)) true
    (moved_says (Joined c.args.answer) c.self.inside.bridge c.link.new.self (half c.self.inside.client c.self.inside.client_sent) (half c.self.inside.up c.self.inside.up_sent) c.self.inside.telling true c.args.self.now
    c.self.view_is c.link.ensures.step c.link.ensures.kept (told s h) (ap unlined e)) refl
