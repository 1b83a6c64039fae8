use Rattle.std.proofs.Common.{◌∙◌, ◌≤◌, length, drop, arith, ap, sym}
use Rattle.std.proofs.lemmas.List.{drop-drop, length-drop}
use Rattle.std.proofs.Math.ListN.{drop_of_length-le}
use Rattle.open_items.proofs.frames.Frames.drop_first.Goals as goal

pub returns-then-self-len : goal.returns-then-self-len
returns-then-self-len c =
    sym (drop-drop 1 c.self.inside.gone c.self.inside.frames.items) ∙ ap (drop 1) c.self.view_is

pub returns-else-self-len : goal.returns-else-self-len
returns-else-self-len c =
    let left = ap length c.self.view_is in
    let short : length c.args.self.now ≤ 1 = omega (arith, left, length-drop c.self.inside.gone c.self.inside.frames.items) in
    c.new.ensures.items ∙ sym (drop_of_length-le c.args.self.now short)
