use Rattle.std.proofs.Common.{ℕ, List, subst}
use Rattle.std.proofs.lemmas.Result.{err_from_is_err_and}
use Rattle.property_map.specs.Said.{IsMessageOf}
use Rattle.property_map.proofs.Images.{image_is, earlier_stops, middle_stops, later_stops}
use Rattle.property_map.proofs.image.image_of.Goals as goal

pub returns-in_err-earlier-clause-fault : goal.returns-in_err-earlier-clause-fault
returns-in_err-earlier-clause-fault c =
    let p = err_from_is_err_and c.from_residual.result c.from_residual.ensures.1 in
    rw (p.1, p.2) (earlier_stops c.args.m.now c.in_err-earlier.field-0.0 c.in_err-earlier.ensures)

pub returns-in_err-middle-clause-fault : goal.returns-in_err-middle-clause-fault
returns-in_err-middle-clause-fault c =
    let p = err_from_is_err_and c.from_residual-in_err-middle.result c.from_residual-in_err-middle.ensures.1 in
    rw (p.1, p.2) (middle_stops c.args.m.now c.in_ok-earlier.earlier c.in_err-middle.field-0.0 c.in_ok-earlier.ensures c.in_err-middle.ensures)

pub returns-in_err-later-clause-fault : goal.returns-in_err-later-clause-fault
returns-in_err-later-clause-fault c =
    let p = err_from_is_err_and c.from_residual-in_err-later.result c.from_residual-in_err-later.ensures.1 in
    rw (p.1, p.2) (later_stops c.args.m.now c.in_ok-earlier.earlier c.in_ok-middle.middle c.in_err-later.field-0.0 c.in_ok-earlier.ensures c.in_ok-middle.ensures c.in_err-later.ensures)

pub returns-clause-image : goal.returns-clause-image
returns-clause-image c =
    let whole : IsMessageOf c.in_ok-earlier.earlier c.in_ok-middle.middle c.in_ok-later.later c.args.m.now.body c.in_ok-message_of.field-0 =
    subst (λ (s : List ℕ). IsMessageOf c.in_ok-earlier.earlier c.in_ok-middle.middle c.in_ok-later.later s c.in_ok-message_of.field-0) c.in_ok-body.ensures c.in_ok-message_of.ensures in
    image_is c.args.m.now c.in_ok-earlier.earlier c.in_ok-middle.middle c.in_ok-later.later c.in_ok-message_of.field-0 c.in_ok-earlier.ensures c.in_ok-middle.ensures c.in_ok-later.ensures whole
