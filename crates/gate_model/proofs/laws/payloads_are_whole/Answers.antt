use Rattle.gate_model.proofs.Wholes.{are_pieces, end_whole}
use Rattle.gate_model.proofs.laws.payloads_are_whole.Goals as goal

pub returns : goal.returns
returns c =
    let publishes = c.publishes_lawfully.ensures in
    let laws = c.payloads_lawfully.ensures in
    record { pieces = are_pieces publishes laws.frame laws.rest laws.whole; end = end_whole publishes laws.frame laws.rest laws.whole }
