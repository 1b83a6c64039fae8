use Rattle.std.proofs.Common.{◌≡◌, ℕ, Bool, false, List, sym, ◌∙◌, ap, arith}
use Rattle.std.specs.List.{list_any}
use Rattle.gate_model.specs.Setup.{is_named}
use Rattle.gate_command.specs.Reading.{are_routes, routes_of}
use Rattle.gate_command.proofs.Parts.{part_found, part_absent}
use Rattle.gate_command.proofs.RouteLaws.{goes_on, stops_at, stops_twice, ends_at}
use Rattle.gate_command.proofs.RouteLaws.{routes_in-listed, routes_in-refused}
use Rattle.gate_command.proofs.exchanges.exchanges_of.Goals as goal

pub returns-then-not-is_route : goal.returns-then-not-is_route
returns-then-not-is_route c =
    let found = part_found 44 _ _ (omega arith) c.split_once.ensures.cases _ c.in-Some.is in
    let named : List ℕ → Bool = λ name. list_any (is_named name) (routes_of c.in-Some.after.now) in
    let none : are_routes (routes_of c.loop-part.rest.now) ≡ false =
    elim c.then-not-is_route.branch [
      | goal.then-not-is_route-via-then-not-is_route w ↦
          stops_at _ _ c.in-Some.after.now found.parts_are (sym w.if-not-is_route.ensures)
      | goal.then-not-is_route-via-else-not-is_route+then-has_exchange w ↦
          stops_twice _ _ c.in-Some.after.now found.parts_are
          (ap named (sym w.route_of.ensures.exchange) ∙ sym w.if-has_exchange.ensures)
    ]
    in
    sym (routes_in-refused c.args.list.now (sym c.loop-part.invariant.same ∙ none))

pub loop-part-preserved : goal.loop-part-preserved
loop-part-preserved c =
    let found = part_found 44 _ _ (omega arith) c.split_once.ensures.cases _ c.in-Some.is in
    let named : List ℕ → Bool = λ name. list_any (is_named name) (routes_of c.in-Some.after.now) in
    record {
      text = search;
      same =
          goes_on _ _ _ found.parts_are (sym c.if-not-is_route.ensures)
          (ap named (sym c.route_of.ensures.exchange) ∙ sym c.if-has_exchange.ensures)
          ∙ c.loop-part.invariant.same;
    }

pub loop-part-smaller : goal.loop-part-smaller
loop-part-smaller c =
    (part_found 44 _ _ (omega arith) c.split_once.ensures.cases _ c.in-Some.is).shorter

pub returns-then-is_route : goal.returns-then-is_route
returns-then-is_route c =
    let one = part_absent 44 _ _ (omega arith) c.split_once.ensures.cases c.in_default.is in
    let all = sym c.loop-part.invariant.same ∙ ends_at c.loop-part.rest.now one in
    sym (routes_in-listed c.args.list.now (all ∙ sym c.if-is_route.ensures))

pub returns-else-is_route : goal.returns-else-is_route
returns-else-is_route c =
    let one = part_absent 44 _ _ (omega arith) c.split_once.ensures.cases c.in_default.is in
    let all = sym c.loop-part.invariant.same ∙ ends_at c.loop-part.rest.now one in
    sym (routes_in-refused c.args.list.now (all ∙ sym c.if-is_route.ensures))
