use Rattle.types_10.specs.View.{value_tree}
use Rattle.std.proofs.Common.{option_map}
use Rattle.property_map.proofs.FieldLoops.{no_section}
use Rattle.property_map.proofs.headers_091.properties_of.Goals as goal

pub returns-in_default-clause-table : goal.returns-in_default-clause-table
returns-in_default-clause-table c = rw c.no_entries.ensures.table (no_section (option_map value_tree c.args.application.now) c.in_default.ensures)
