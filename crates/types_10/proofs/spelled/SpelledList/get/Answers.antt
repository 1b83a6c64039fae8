use Rattle.std.proofs.Common.{ℕ, List, ap, sym, ◌∙◌, arith, slice_get}
use Rattle.types_10.specs.Tree.{Tree}
use Rattle.types_10.specs.Reading.{value_in}
use Rattle.types_10.proofs.Spellings.{row_past}
use Rattle.types_10.proofs.spelled.SpelledList.get.Goals as goal

pub returns-then-k-self : goal.returns-then-k-self
returns-then-k-self c =
    let s = c.self.inside in
    let none = row_past (λ (room : ℕ). value_in s.depth room s.bounds.cut) s.count c.args.k s.room s.bounds.end s.text.now (omega arith) c.self.invariant in
    sym none ∙ ap (λ (ts : List Tree). slice_get ts c.args.k) c.self.view_is

pub nth_of-value-requires-clause-read : goal.nth_of-value-requires-clause-read
nth_of-value-requires-clause-read c = c.self.invariant

pub returns : goal.returns
returns c = c.nth_of-value.ensures ∙ ap (λ (ts : List Tree). slice_get ts c.args.k) c.self.view_is
