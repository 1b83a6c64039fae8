use Rattle.std.proofs.Common.{refl, true}
use Rattle.gate_pair.proofs.Saids.{half, taken_failed, taken_in}
use Rattle.gate_pair.proofs.pair.Pair.came_client.Goals as goal

pub invariant_of-self : goal.invariant_of-self
invariant_of-self c = c.cut_client.ensures.sound c.self.inside.client_sent c.self.inside.up_sent c.self.invariant

pub invariant_of-self-in-Err : goal.invariant_of-self-in-Err
invariant_of-self-in-Err c = c.cut_client.ensures.sound c.self.inside.client_sent c.self.inside.up_sent c.self.invariant

pub returns-in-Ok-clause-ok : goal.returns-in-Ok-clause-ok
returns-in-Ok-clause-ok c =
    taken_in c.args.bytes.now c.self.inside.bridge c.cut_client.new.bridge (half c.self.inside.client c.self.inside.client_sent) (half c.self.inside.up c.self.inside.up_sent) (half c.cut_client.new.unread c.self.inside.client_sent)
    c.self.inside.telling true c.args.self.now c.self.view_is c.in-Ok.ensures.ok c.cut_client.ensures.kept refl

pub returns-in-Err-clause-err : goal.returns-in-Err-clause-err
returns-in-Err-clause-err c =
    taken_failed c.args.bytes.now c.self.inside.bridge c.cut_client.new.bridge (half c.self.inside.client c.self.inside.client_sent) (half c.self.inside.up c.self.inside.up_sent) (half c.cut_client.new.unread c.self.inside.client_sent)
    c.self.inside.telling true c.args.self.now c.forget.new.self c.self.view_is refl c.forget.ensures c.in-Err.ensures.err c.cut_client.ensures.kept
