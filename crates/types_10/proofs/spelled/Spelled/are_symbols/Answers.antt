use Rattle.std.proofs.Common.{◌-◌, refl, ap, sym, ◌∙◌}
use Rattle.types_10.specs.Reading.{level}
use Rattle.types_10.specs.Spelled.{is_symbol, are_symbols}
use Rattle.types_10.proofs.Spellings.{content_of, announced_of, symbol_known, no_array}
use Rattle.types_10.proofs.Spellings.{array_content}
use Rattle.types_10.specs.declared.kind.Kind.TheVariants as kind
use Rattle.types_10.proofs.spelled.Spelled.are_symbols.Goals as goal

pub returns-in_default : goal.returns-in_default
returns-in_default c =
    let s = c.self.inside in
    let code = c.code_there.result.0 in
    let content = c.code_there.result.1.now in
    let x = content_of s.depth s.room s.bounds.cut s.bounds.end s.text.now code.kind code.kind code.at content c.args.self.now c.self.invariant c.self.view_is c.code_there.ensures refl in
    let a = announced_of s.depth s.room s.bounds.cut s.bounds.end s.text.now code.kind code.at content c.args.self.now c.self.invariant c.self.view_is c.code_there.ensures in
    let known = symbol_known (level (s.depth - 1)) s.room code.kind code.at s.bounds.cut s.bounds.end content x.0 x.1 in
    c.is_symbol_kind.ensures ∙ sym known ∙ ap is_symbol x.2 ∙ sym (no_array code.kind c.args.self.now a c.in_default.not-Array)

pub holds_symbols-requires : goal.holds_symbols-requires
holds_symbols-requires c =
    let s = c.self.inside in
    let code = c.code_there.result.0 in
    let content = c.code_there.result.1.now in
    let z = c.in-Array.size in
    let x = content_of s.depth s.room s.bounds.cut s.bounds.end s.text.now code.kind (kind.Array z) code.at content c.args.self.now c.self.invariant c.self.view_is c.code_there.ensures c.in-Array.is in
    let y = array_content (level (s.depth - 1)) s.room z code.at s.bounds.cut s.bounds.end content x.0 x.1 in
    rw c.saturating_sub-depth.ensures (y.0, y.1)

pub returns : goal.returns
returns c =
    let s = c.self.inside in
    let code = c.code_there.result.0 in
    let content = c.code_there.result.1.now in
    let z = c.in-Array.size in
    let x = content_of s.depth s.room s.bounds.cut s.bounds.end s.text.now code.kind (kind.Array z) code.at content c.args.self.now c.self.invariant c.self.view_is c.code_there.ensures c.in-Array.is in
    let y = array_content (level (s.depth - 1)) s.room z code.at s.bounds.cut s.bounds.end content x.0 x.1 in
    let holds = rw c.saturating_sub-depth.ensures at c.holds_symbols.ensures in
    holds y.0 y.1 ∙ ap are_symbols (y.2 ∙ x.2)
