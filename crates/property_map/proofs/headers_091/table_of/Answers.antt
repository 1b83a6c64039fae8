use Rattle.std.proofs.Common.{option_map}
use Rattle.std.proofs.lemmas.Result.{err_from_is_err_and}
use Rattle.types_10.specs.Tree.{pairs_of}
use Rattle.types_10.specs.View.{value_tree}
use Rattle.property_map.proofs.FieldLoops.{table_alone, table_more, table_stops}
use Rattle.property_map.proofs.headers_091.table_of.Goals as goal

pub returns-in_default : goal.returns-in_default
returns-in_default c = rw (c.into_table.ensures, c.in_default.is) (table_alone (option_map value_tree c.args.application.now) c.in_ok-named.named.table c.in_ok-named.ensures.table)

pub returns-in_err-with_pairs-in-Map : goal.returns-in_err-with_pairs-in-Map
returns-in_err-with_pairs-in-Map c =
    let p = err_from_is_err_and c.from_residual-in_err-with_pairs-in-Map.result c.from_residual-in_err-with_pairs-in-Map.ensures.1 in
    rw (p.1, p.2, c.in-Some.is, c.in-Map.is)
    (table_stops c.in_err-with_pairs-in-Map.field-0.0 (option_map value_tree c.args.application.now) c.in_ok-named.named.table (pairs_of c.in-Map.pairs) c.in_ok-named.ensures.table c.in_err-with_pairs-in-Map.ensures.table)

pub returns-in_ok-with_pairs-in-Map : goal.returns-in_ok-with_pairs-in-Map
returns-in_ok-with_pairs-in-Map c =
    rw (c.into_table-in-Map.ensures, c.in-Some.is, c.in-Map.is)
    (table_more (option_map value_tree c.args.application.now) c.in_ok-named.named.table c.in_ok-with_pairs-in-Map.field-0.table (pairs_of c.in-Map.pairs) c.in_ok-named.ensures.table c.in_ok-with_pairs-in-Map.ensures.table)
