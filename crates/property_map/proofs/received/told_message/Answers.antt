use Rattle.property_map.proofs.FactLaws.{told}
use Rattle.property_map.proofs.received.told_message.Goals as goal

pub returns : goal.returns
returns c =
    let m = c.args.m in
    told m.header m.annotations m.properties c.told_section.result m.application m.body c.told_section.ensures
