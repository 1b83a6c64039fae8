use Rattle.std.proofs.Common.{false, refl}
use Rattle.gate_pair.proofs.Saids.{half}
use Rattle.gate_pair.proofs.Writes.{client_sound, client_took, up_sound, up_took}
use Rattle.gate_pair.proofs.pair.Pair.take_away.Goals as goal

pub invariant_of-self : goal.invariant_of-self
invariant_of-self c =
    client_sound c.args.count c.advance-self-inside.result c.self.inside.client_sent c.self.inside.bridge c.advance-self-inside.new.bridge (half c.self.inside.client c.self.inside.client_sent) (half c.self.inside.up c.self.inside.up_sent) (half c.self.inside.client c.advance-self-inside.result)
    c.self.invariant refl refl c.advance-self-inside.ensures.advances

pub returns-in-Client-clause-step : goal.returns-in-Client-clause-step
returns-in-Client-clause-step c =
    rw c.in-Client.is (client_took c.args.count c.advance-self-inside.result c.self.inside.bridge c.advance-self-inside.new.bridge (half c.self.inside.client c.self.inside.client_sent) (half c.self.inside.up c.self.inside.up_sent) (half c.self.inside.client c.advance-self-inside.result)
    c.self.inside.telling false c.args.self.now c.self.view_is refl c.advance-self-inside.ensures.advances)

pub invariant_of-self-in-Up : goal.invariant_of-self-in-Up
invariant_of-self-in-Up c =
    up_sound c.args.count c.advance-self-inside-in-Up.result c.self.inside.up_sent c.self.inside.bridge c.advance-self-inside-in-Up.new.bridge (half c.self.inside.client c.self.inside.client_sent) (half c.self.inside.up c.self.inside.up_sent) (half c.self.inside.up c.advance-self-inside-in-Up.result)
    c.self.invariant refl refl c.advance-self-inside-in-Up.ensures.advances

pub returns-in-Up-clause-step : goal.returns-in-Up-clause-step
returns-in-Up-clause-step c =
    rw c.in-Up.is (up_took c.args.count c.advance-self-inside-in-Up.result c.self.inside.bridge c.advance-self-inside-in-Up.new.bridge (half c.self.inside.client c.self.inside.client_sent) (half c.self.inside.up c.self.inside.up_sent) (half c.self.inside.up c.advance-self-inside-in-Up.result)
    c.self.inside.telling c.ends_session-ends.result c.args.self.now c.self.view_is refl c.advance-self-inside-in-Up.ensures.advances)
