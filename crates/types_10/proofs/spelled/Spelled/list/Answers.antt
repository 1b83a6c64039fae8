use Rattle.std.proofs.Common.{ℕ, ◌-◌, List, Some, ap, sym, ◌∙◌}
use Rattle.types_10.specs.Tree.{Tree, trees_of}
use Rattle.types_10.specs.Kinds.{size_width}
use Rattle.types_10.specs.Reading.{value_in}
use Rattle.types_10.specs.Spelled.{list_in}
use Rattle.types_10.proofs.Spellings.{content_of, announced_of, Announces, row_none, list_stands}
use Rattle.types_10.proofs.Spellings.{list_counted, list_row, no_list}
use Rattle.types_10.specs.declared.kind.Kind.TheVariants as kind
use Rattle.types_10.proofs.spelled.Spelled.list.Goals as goal

pub invariant_of-result : goal.invariant_of-result
invariant_of-result c =
    (row_none (λ (room : ℕ). value_in c.saturating_sub-depth.result room c.self.inside.bounds.cut) c.self.inside.room c.self.inside.bounds.end c.code_there.result.1.now).0

pub returns-in-EmptyList : goal.returns-in-EmptyList
returns-in-EmptyList c =
    let s = c.self.inside in
    let code = c.code_there.result.0 in
    let a = announced_of s.depth s.room s.bounds.cut s.bounds.end s.text.now code.kind code.at c.code_there.result.1.now c.args.self.now c.self.invariant c.self.view_is c.code_there.ensures in
    let empty : Announces kind.EmptyList c.args.self.now = rw c.in-EmptyList.is at a in
    let none = (row_none (λ (room : ℕ). value_in c.saturating_sub-depth.result room s.bounds.cut) s.room s.bounds.end c.code_there.result.1.now).1 in
    ap (λ (ts : List Tree). Some (trees_of ts)) none ∙ sym (ap list_in empty)

pub counted-count-requires : goal.counted-count-requires
counted-count-requires c =
    let s = c.self.inside in
    let code = c.code_there.result.0 in
    let content = c.code_there.result.1.now in
    let z = c.in-List.size in
    let x = content_of s.depth s.room s.bounds.cut s.bounds.end s.text.now code.kind (kind.List z) code.at content c.args.self.now c.self.invariant c.self.view_is c.code_there.ensures c.in-List.is in
    list_counted (s.depth - 1) s.room (size_width z) code.at s.bounds.cut s.bounds.end content x.0.0.0 (list_stands (s.depth - 1) s.room z code.at s.bounds.cut s.bounds.end content x.0 x.1)

pub invariant_of-result-in-List : goal.invariant_of-result-in-List
invariant_of-result-in-List c =
    let s = c.self.inside in
    let code = c.code_there.result.0 in
    let content = c.code_there.result.1.now in
    let z = c.in-List.size in
    let x = content_of s.depth s.room s.bounds.cut s.bounds.end s.text.now code.kind (kind.List z) code.at content c.args.self.now c.self.invariant c.self.view_is c.code_there.ensures c.in-List.is in
    let l = list_stands (s.depth - 1) s.room z code.at s.bounds.cut s.bounds.end content x.0 x.1 in
    rw c.saturating_sub-depth.ensures (list_row (s.depth - 1) s.room (size_width z) code.at s.bounds.cut s.bounds.end content x.0.0.0 c.counted-count.result.0 c.counted-count.result.1 c.counted-count.result.2.now l (c.counted-count.ensures l.0 l.2.0 l.1 l.2.1)).0

pub returns-in-List : goal.returns-in-List
returns-in-List c =
    let s = c.self.inside in
    let code = c.code_there.result.0 in
    let content = c.code_there.result.1.now in
    let z = c.in-List.size in
    let x = content_of s.depth s.room s.bounds.cut s.bounds.end s.text.now code.kind (kind.List z) code.at content c.args.self.now c.self.invariant c.self.view_is c.code_there.ensures c.in-List.is in
    let l = list_stands (s.depth - 1) s.room z code.at s.bounds.cut s.bounds.end content x.0 x.1 in
    rw c.saturating_sub-depth.ensures ((list_row (s.depth - 1) s.room (size_width z) code.at s.bounds.cut s.bounds.end content x.0.0.0 c.counted-count.result.0 c.counted-count.result.1 c.counted-count.result.2.now l (c.counted-count.ensures l.0 l.2.0 l.1 l.2.1)).1 ∙ ap list_in x.2)

pub returns-in_default : goal.returns-in_default
returns-in_default c =
    let s = c.self.inside in
    let code = c.code_there.result.0 in
    sym (no_list code.kind c.args.self.now (announced_of s.depth s.room s.bounds.cut s.bounds.end s.text.now code.kind code.at c.code_there.result.1.now c.args.self.now c.self.invariant c.self.view_is c.code_there.ensures) c.in_default.not-EmptyList c.in_default.not-List)
