use Rattle.std.proofs.Common.{◌∙◌, ap, subst, sym}
use Rattle.bridge_core.specs.Offers.{BridgeState, FindsBytes}
use Rattle.gate_pair.specs.Meaning.{offered}
use Rattle.gate_pair.specs.PairStates.{IsSound, PairState, is_ready, said, said_stream}
use Rattle.gate_pair.proofs.Saids.{half, pair_of}
use Rattle.gate_pair.proofs.Writes.{look_ready}
use Rattle.gate_pair.proofs.Sounds.{looked_stays}
use Rattle.gate_pair.proofs.pair.Pair.look.Goals as goal

pub invariant_of-self : goal.invariant_of-self
invariant_of-self c =
    subst (λ (b : BridgeState). IsSound b c.self.inside.client_sent c.self.inside.up_sent) (sym c.in-Ok.ensures.ok)
    (looked_stays c.args.setup.now c.args.end c.self.inside.bridge _ c.in-Ok.ensures.some
    (subst (FindsBytes c.args.end _) c.in-Ok.ensures.ok c.in-Ok.ensures.long) (sym c.is_busy.ensures ∙ c.if-is_busy.false) c.self.inside.client_sent c.self.inside.up_sent c.self.invariant)

pub returns-in-Ok-clause-ready : goal.returns-in-Ok-clause-ready
returns-in-Ok-clause-ready c =
    let s = c.args.setup.now in
    let b : BridgeState = c.self.inside.bridge in
    let p : PairState = pair_of b (half c.self.inside.client c.self.inside.client_sent) (half c.self.inside.up c.self.inside.up_sent) c.self.inside.telling in
    let free = sym c.is_busy.ensures ∙ c.if-is_busy.false in
    ap (λ (d : BridgeState). is_ready (pair_of d (half c.self.inside.client c.self.inside.client_sent) (half c.self.inside.up c.self.inside.up_sent) c.self.inside.telling) c.args.end) c.in-Ok.ensures.ok
    ∙ look_ready s c.args.end b (half c.self.inside.client c.self.inside.client_sent) (half c.self.inside.up c.self.inside.up_sent) c.self.inside.telling free
    ∙ ap (λ (q : PairState). offered s c.args.end q.bridge.state (said_stream c.args.end (said q)).rest) c.self.view_is
