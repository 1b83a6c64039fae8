use Rattle.std.proofs.Common.{arith}
use Rattle.content_091.proofs.Contents.{header_joined}
use Rattle.content_091.proofs.assembly.Assembly.header.Goals as goal

pub returns-clause-joined : goal.returns-clause-joined
returns-clause-joined c =
    header_joined c.in_ok-header.field-0 c.in-Ok.header _ c.args.payload.now _ c.in-Ok.is c.in_ok-header.ensures.found
    (omega (arith, c.if-header-gt-BODY_MAX.false)) c.start.ensures
