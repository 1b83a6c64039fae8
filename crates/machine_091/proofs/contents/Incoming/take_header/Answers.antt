use Rattle.std.proofs.Common.{refl, arith}
use Rattle.machine_091.proofs.Taking.{header_ok, header_err}
use Rattle.machine_091.proofs.contents.Incoming.take_header.Goals as goal

pub returns-clause-taken : goal.returns-clause-taken
returns-clause-taken c =
    header_ok c.header.result _ c.args.self.now.assembly _ c.args.payload.now (λ i. omega (arith, c.type_inv.payload i)) refl
    c.header.ensures.taken c.header.ensures.joined

pub returns-clause-refused : goal.returns-clause-refused
returns-clause-refused c =
    header_err c.header.result _ c.args.self.now.assembly c.args.payload.now (λ i. omega (arith, c.type_inv.payload i)) refl
    c.header.ensures.refused
