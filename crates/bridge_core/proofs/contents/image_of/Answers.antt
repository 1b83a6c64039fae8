use Rattle.std.proofs.Common.{◌∙◌, Some, sym, ap}
use Rattle.std.specs.Option.{option_map}
use Rattle.gate_model.specs.Paths.{content_of}
use Rattle.bridge_core.proofs.contents.image_of.Goals as goal

pub returns-in_ok-content_of-in-Some-clause-image : goal.returns-in_ok-content_of-in-Some-clause-image
returns-in_ok-content_of-in-Some-clause-image c =
    ap Some (c.in_ok-content_of-in-Some.ensures c.in-Some.again)
    ∙ ap (option_map (content_of c.args.limit c.args.channel)) (sym c.in-Some.is ∙ c.in_ok-received.ensures.received)
