use Rattle.std.proofs.Common.{arith}
use Rattle.gate_listing.proofs.Whole.{is_listed, ends_all}
use Rattle.gate_listing.proofs.listing.list_units.Goals as goal

pub returns-clause-listed : goal.returns-clause-listed
returns-clause-listed g c = is_listed c.args.dialect c.args.bytes.now _ _ _ c.list_all.ensures.listed

pub returns-clause-all : goal.returns-clause-all
returns-clause-all g c = ends_all c.args.dialect c.args.bytes.now _ _ _ (λ i. omega (arith, c.type_inv.bytes i)) c.list_all.ensures.listed
