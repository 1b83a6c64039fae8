use Rattle.std.proofs.Common.{◌-◌, ap, sym, ◌∙◌}
use Rattle.types_10.specs.Reading.{level, value_in}
use Rattle.types_10.specs.Spelled.{told, described_in}
use Rattle.types_10.proofs.Spellings.{content_of, announced_of, not_described, parts_stand}
use Rattle.types_10.specs.declared.kind.Kind.TheVariants as kind
use Rattle.types_10.proofs.spelled.Spelled.described.Goals as goal

pub returns-in_default : goal.returns-in_default
returns-in_default c =
    let s = c.self.inside in
    let code = c.code_there.result.0 in
    sym (not_described code.kind c.args.self.now (announced_of s.depth s.room s.bounds.cut s.bounds.end s.text.now code.kind code.at c.code_there.result.1.now c.args.self.now c.self.invariant c.self.view_is c.code_there.ensures) c.in_default.not-Described)

pub past-left-requires : goal.past-left-requires
past-left-requires c =
    let s = c.self.inside in
    let code = c.code_there.result.0 in
    let content = c.code_there.result.1.now in
    let x = content_of s.depth s.room s.bounds.cut s.bounds.end s.text.now code.kind kind.Described code.at content c.args.self.now c.self.invariant c.self.view_is c.code_there.ensures c.in-Described.is in
    rw c.saturating_sub-depth.ensures (parts_stand (level (s.depth - 1)) s.room code.at s.bounds.cut s.bounds.end content x.0 x.1).0

pub invariant_of-descriptor : goal.invariant_of-descriptor
invariant_of-descriptor c =
    let s = c.self.inside in
    let code = c.code_there.result.0 in
    let content = c.code_there.result.1.now in
    let x = content_of s.depth s.room s.bounds.cut s.bounds.end s.text.now code.kind kind.Described code.at content c.args.self.now c.self.invariant c.self.view_is c.code_there.ensures c.in-Described.is in
    rw c.saturating_sub-depth.ensures (parts_stand (level (s.depth - 1)) s.room code.at s.bounds.cut s.bounds.end content x.0 x.1).0

pub invariant_of-value : goal.invariant_of-value
invariant_of-value c =
    let s = c.self.inside in
    let code = c.code_there.result.0 in
    let content = c.code_there.result.1.now in
    let x = content_of s.depth s.room s.bounds.cut s.bounds.end s.text.now code.kind kind.Described code.at content c.args.self.now c.self.invariant c.self.view_is c.code_there.ensures c.in-Described.is in
    let parts = parts_stand (level (s.depth - 1)) s.room code.at s.bounds.cut s.bounds.end content x.0 x.1 in
    let first = rw c.saturating_sub-depth.ensures at c.past-left.ensures in
    rw c.saturating_sub-depth.ensures (parts.1 (told (value_in (s.depth - 1) s.room s.bounds.cut s.bounds.end content)) c.past-left.result.0 c.past-left.result.1.now first).0

pub returns : goal.returns
returns c =
    let s = c.self.inside in
    let code = c.code_there.result.0 in
    let content = c.code_there.result.1.now in
    let x = content_of s.depth s.room s.bounds.cut s.bounds.end s.text.now code.kind kind.Described code.at content c.args.self.now c.self.invariant c.self.view_is c.code_there.ensures c.in-Described.is in
    let parts = parts_stand (level (s.depth - 1)) s.room code.at s.bounds.cut s.bounds.end content x.0 x.1 in
    let first = rw c.saturating_sub-depth.ensures at c.past-left.ensures in
    rw c.saturating_sub-depth.ensures ((parts.1 (told (value_in (s.depth - 1) s.room s.bounds.cut s.bounds.end content)) c.past-left.result.0 c.past-left.result.1.now first).1 ∙ ap described_in x.2)
