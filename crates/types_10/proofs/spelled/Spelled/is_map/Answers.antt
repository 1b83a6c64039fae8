use Rattle.std.proofs.Common.{ap, sym}
use Rattle.types_10.specs.Spelled.{is_map}
use Rattle.types_10.proofs.Spellings.{announced_of, Announces, no_map}
use Rattle.types_10.specs.declared.kind.Kind.TheVariants as kind
use Rattle.types_10.proofs.spelled.Spelled.is_map.Goals as goal

pub returns-in-Map : goal.returns-in-Map
returns-in-Map c =
    let s = c.self.inside in
    let code = c.code_there.result.0 in
    let a = announced_of s.depth s.room s.bounds.cut s.bounds.end s.text.now code.kind code.at c.code_there.result.1.now c.args.self.now c.self.invariant c.self.view_is c.code_there.ensures in
    let map : Announces (kind.Map c.in-Map.field-0) c.args.self.now = rw c.in-Map.is at a in
    sym (ap is_map map.1)

pub returns-in_default : goal.returns-in_default
returns-in_default c =
    let s = c.self.inside in
    let code = c.code_there.result.0 in
    sym (no_map code.kind c.args.self.now (announced_of s.depth s.room s.bounds.cut s.bounds.end s.text.now code.kind code.at c.code_there.result.1.now c.args.self.now c.self.invariant c.self.view_is c.code_there.ensures) c.in_default.not-Map)
