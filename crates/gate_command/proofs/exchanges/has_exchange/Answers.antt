use Rattle.std.proofs.Common.{◌∙◌, sym, lit<, rules, tests}
use Rattle.std.proofs.lemmas.Iterator.Search.{any_from_yields_List}
use Rattle.std.proofs.lemmas.Iterator.Splits.{YieldsList-from_str_split}
use Rattle.gate_model.specs.Setup.{is_named}
use Rattle.gate_command.specs.Reading.{route_of}
use Rattle.gate_command.proofs.RouteLaws.{routes_of-any}
use Rattle.gate_command.proofs.exchanges.has_exchange.Goals as goal

pub returns : goal.returns
returns c =
    any_from_yields_List (λ part. is_named c.args.exchange.now (route_of part)) _ _ _
    c.any.ensures.ran
    (YieldsList-from_str_split 44 c.args.list.now (lit< tt)
    c.split.ensures.text c.split.ensures.has_more c.split.ensures.pattern)
    (λ x b q k. search (rules, tests))
    ∙ sym (routes_of-any (is_named c.args.exchange.now) c.args.list.now)
