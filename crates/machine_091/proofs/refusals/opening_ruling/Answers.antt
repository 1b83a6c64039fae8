use Rattle.machine_091.proofs.Orders.{opening_some, opening_none}
use Rattle.machine_091.proofs.refusals.opening_ruling.Goals as goal

pub returns-in-Some-method_place-clause-ruling : goal.returns-in-Some-method_place-clause-ruling
returns-in-Some-method_place-clause-ruling c =
    opening_some c.args.conn.now c.args.frame.now c.args.method.now c.in-Some-method_place.ruling c.requires.opening c.requires.read c.in_default.ensures c.in-Some-method_place.ensures

pub returns-clause-ruling : goal.returns-clause-ruling
returns-clause-ruling c =
    opening_none c.args.conn.now c.args.frame.now c.args.method.now c.opening_refusal.result c.requires.opening c.requires.read c.in_default.ensures c.in_default-method_place.ensures c.opening_refusal.ensures
