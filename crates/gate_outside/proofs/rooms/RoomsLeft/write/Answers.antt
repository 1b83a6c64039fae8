use Rattle.std.proofs.Common.{◌≡◌, Some, None, position}
use Rattle.gate_outside.specs.Script.{is_room_of}
use Rattle.gate_outside.proofs.FirstLemmas.{find_found, find_none}
use Rattle.gate_outside.proofs.rooms.RoomsLeft.write.Goals as goal

pub returns-in-Some-clause-answer : goal.returns-in-Some-clause-answer
returns-in-Some-clause-answer c =
    let at : position (is_room_of c.args.pair c.args.end) c.self.inside.rooms.items ≡ Some c.in-Some.at = cc in
    rw (← c.self.view_is, find_found _ _ _ _ at c.remove.ensures.value) c.taken_by.ensures.answer

pub returns-in-None-clause-answer : goal.returns-in-None-clause-answer
returns-in-None-clause-answer c =
    let at : position (is_room_of c.args.pair c.args.end) c.self.inside.rooms.items ≡ None = cc in
    rw (← c.self.view_is, find_none _ _ at)
