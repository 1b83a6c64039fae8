use Rattle.std.proofs.lemmas.Result.{err_from_is_err_and}
use Rattle.types_10.specs.Tree.{trees_of}
use Rattle.sections_10.specs.Parts.{route_fields, content_fields, group_fields}
use Rattle.sections_10.proofs.Parts.{parts_read, route_stops, content_stops, group_stops}
use Rattle.sections_10.proofs.properties.fields_from.Goals as goal

pub returns : goal.returns
returns c = parts_read (trees_of c.args.fields.now) (route_fields c.in_ok-route.route) (content_fields c.in_ok-content.content) (group_fields c.in_ok-group.group) c.in_ok-route.ensures c.in_ok-content.ensures c.in_ok-group.ensures

pub returns-in_err-route : goal.returns-in_err-route
returns-in_err-route c =
    let p = err_from_is_err_and c.from_residual.result c.from_residual.ensures.1 in
    rw (p.1, p.2) (route_stops c.in_err-route.field-0.0 (trees_of c.args.fields.now) c.in_err-route.ensures)

pub returns-in_err-content : goal.returns-in_err-content
returns-in_err-content c =
    let p = err_from_is_err_and c.from_residual-in_err-content.result c.from_residual-in_err-content.ensures.1 in
    rw (p.1, p.2) (content_stops c.in_err-content.field-0.0 (trees_of c.args.fields.now) (route_fields c.in_ok-route.route) c.in_ok-route.ensures c.in_err-content.ensures)

pub returns-in_err-group : goal.returns-in_err-group
returns-in_err-group c =
    let p = err_from_is_err_and c.from_residual-in_err-group.result c.from_residual-in_err-group.ensures.1 in
    rw (p.1, p.2) (group_stops c.in_err-group.field-0.0 (trees_of c.args.fields.now) (route_fields c.in_ok-route.route) (content_fields c.in_ok-content.content) c.in_ok-route.ensures c.in_ok-content.ensures c.in_err-group.ensures)
