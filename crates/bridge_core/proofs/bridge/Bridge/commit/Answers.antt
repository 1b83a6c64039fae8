use Rattle.std.proofs.Common.{subst}
use Rattle.bridge_core.specs.Offers.{BridgeState}
use Rattle.bridge_core.specs.PathChanges.{MayGoUp, MayReply}
use Rattle.bridge_core.proofs.Goings.{offered_may_go, offered_may_reply}
use Rattle.bridge_core.proofs.bridge.Bridge.commit.Goals as goal

pub go-requires : goal.go-requires
go-requires c =
    subst (λ (b : BridgeState). MayReply b.state c.in-Some.unit) c.self.view_is
    (offered_may_reply c.self.inside.state c.self.inside.client c.in-Some.unit c.self.invariant.0 c.in-Some.ensures)

pub go-requires-in-Some-chosen : goal.go-requires-in-Some-chosen
go-requires-in-Some-chosen c =
    subst (λ (b : BridgeState). MayGoUp b.state c.in-Some-chosen.unit) c.self-in-Up.view_is
    (offered_may_go c.self-in-Up.inside.state c.self-in-Up.inside.up c.in-Some-chosen.unit c.self-in-Up.invariant.1 c.in-Some-chosen.ensures)
