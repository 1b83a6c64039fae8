use Rattle.std.proofs.Common.{◌≡◌, Some, None, position, ◌∙◌}
use Rattle.gate_outside.specs.Script.{is_left, piece_after}
use Rattle.gate_outside.proofs.FirstLemmas.{find_found, find_none, changed_found, piece_changed}
use Rattle.gate_outside.proofs.pieces.PiecesLeft.read.Goals as goal

pub returns-in-Some-clause-answer : goal.returns-in-Some-clause-answer
returns-in-Some-clause-answer c =
    let at : position (is_left c.args.pair c.args.end) c.self.inside.pieces.items ≡ Some c.in-Some.at = cc in
    rw (← c.self.view_is, find_found _ _ _ _ at c.index_mut-piece.ensures.value) c.read.ensures.answer

pub returns-in-Some-clause-goes : goal.returns-in-Some-clause-goes
returns-in-Some-clause-goes c =
    let at : position (is_left c.args.pair c.args.end) c.self.inside.pieces.items ≡ Some c.in-Some.at = cc in
    rw (← c.self.view_is)
    (changed_found _ (piece_after c.read.result) _ _ _ _ at c.index_mut-piece.ensures.value c.read.ensures.goes
    ∙ piece_changed c.args.pair c.args.end c.read.result c.self.inside.pieces.items)

pub returns-in-Some-clause-came : goal.returns-in-Some-clause-came
returns-in-Some-clause-came c =
    let at : position (is_left c.args.pair c.args.end) c.self.inside.pieces.items ≡ Some c.in-Some.at = cc in
    rw (← c.self.view_is, find_found _ _ _ _ at c.index_mut-piece.ensures.value) c.read.ensures.came

pub returns-in-None-clause-answer : goal.returns-in-None-clause-answer
returns-in-None-clause-answer c =
    let at : position (is_left c.args.pair c.args.end) c.self.inside.pieces.items ≡ None = cc in
    rw (← c.self.view_is, find_none _ _ at)
