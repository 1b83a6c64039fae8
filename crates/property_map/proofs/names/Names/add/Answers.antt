use Rattle.property_map.proofs.NameSets.{adds}
use Rattle.property_map.proofs.names.Names.add.Goals as goal

pub returns-clause-more : goal.returns-clause-more
returns-clause-more c = adds (λ k. k.items) c.args.self.now.set.keys c.insert.new.self.keys c.in_ok-key.key c.args.name.now c.in_ok-key.ensures.items c.in_ok-insert.ensures.keys
