use Rattle.std.proofs.Common.{sym}
use Rattle.content_091.proofs.Contents.{payload_joined}
use Rattle.content_091.proofs.assembly.Assembly.body.Goals as goal

pub returns-in-Taking-clause-joined : goal.returns-in-Taking-clause-joined
returns-in-Taking-clause-joined c =
    payload_joined c.args.self.now _ c.args.payload c.in-Taking.partial c.grow.result (sym c.in-Taking.ensures.value) c.grow.ensures.taken
