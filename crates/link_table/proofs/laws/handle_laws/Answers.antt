use Rattle.link_table.proofs.Naming.{names_links}
use Rattle.link_table.proofs.laws.handle_laws.Goals as goal

pub returns : goal.returns
returns c = names_links
