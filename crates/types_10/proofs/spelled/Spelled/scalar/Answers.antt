use Rattle.std.proofs.Common.{◌-◌, ◌∙◌}
use Rattle.wire_base.specs.declared.stop.Stop.TheVariants as stop
use Rattle.types_10.specs.View.{value_tree}
use Rattle.types_10.specs.Reading.{level}
use Rattle.types_10.proofs.Spellings.{not_told, content_of, announced_of, no_scalar, single_made}
use Rattle.types_10.proofs.Spellings.{single_stands, single_found}
use Rattle.types_10.specs.declared.kind.Kind.TheVariants as kind
use Rattle.types_10.proofs.spelled.Spelled.scalar.Goals as goal

pub returns-in_default-clause-none : goal.returns-in_default-clause-none
returns-in_default-clause-none c =
    let s = c.self.inside in
    let code = c.code_there.result.0 in
    no_scalar code.kind c.args.self.now (announced_of s.depth s.room s.bounds.cut s.bounds.end s.text.now code.kind code.at c.code_there.result.1.now c.args.self.now c.self.invariant c.self.view_is c.code_there.ensures) c.in_default.not-Single

pub unreachable-requires : goal.unreachable-requires
unreachable-requires c =
    let s = c.self.inside in
    let code = c.code_there.result.0 in
    let content = c.code_there.result.1.now in
    let x = content_of s.depth s.room s.bounds.cut s.bounds.end s.text.now code.kind (kind.Single c.in-Single.kind) code.at content c.args.self.now c.self.invariant c.self.view_is c.code_there.ensures c.in-Single.is in
    let single = single_stands (level (s.depth - 1)) s.room c.in-Single.kind code.at s.bounds.cut s.bounds.end content x.0 x.1 in
    let told = rw c.in-Err-Fault.field-0-is at c.in-Err-Fault.ensures in
    not_told (single_made c.in-Single.kind s.bounds.cut s.bounds.end content) single.0 (stop.Fault _) single.1 told

pub returns-in-Ok-clause-value : goal.returns-in-Ok-clause-value
returns-in-Ok-clause-value c =
    let s = c.self.inside in
    let code = c.code_there.result.0 in
    let content = c.code_there.result.1.now in
    let x = content_of s.depth s.room s.bounds.cut s.bounds.end s.text.now code.kind (kind.Single c.in-Single.kind) code.at content c.args.self.now c.self.invariant c.self.view_is c.code_there.ensures c.in-Single.is in
    let single = single_stands (level (s.depth - 1)) s.room c.in-Single.kind code.at s.bounds.cut s.bounds.end content x.0 x.1 in
    single_found c.in-Single.kind s.bounds.cut s.bounds.end content x.0.0.0 (value_tree c.in-Ok.value) _ single c.in-Ok.ensures ∙ x.2
