use Rattle.gate_outside.specs.declared.ports.End.TheVariants.{Client, Up}
use Rattle.gate_pair.proofs.Saids.{fed_failed, fed_in}
use Rattle.gate_pair.proofs.pair.PairRelay.came_in.Goals as goal

pub returns-in-Client-clause-ok : goal.returns-in-Client-clause-ok
returns-in-Client-clause-ok c =
    fed_in c.args._setup.now Client c.args.end c.args.bytes.now c.args.self.now c.feed.new.self c.came_client.new.self c.came_client.result
    c.in-Client.is c.feed.ensures.step c.came_client.ensures.ok c.came_client.ensures.telling

pub returns-in-Client-clause-err : goal.returns-in-Client-clause-err
returns-in-Client-clause-err c =
    fed_failed c.args._setup.now Client c.args.end c.args.bytes.now c.args.self.now c.feed.new.self c.came_client.new.self c.came_client.result
    c.in-Client.is c.feed.ensures.step c.came_client.ensures.err c.came_client.ensures.telling

pub returns-in-Up-clause-ok : goal.returns-in-Up-clause-ok
returns-in-Up-clause-ok c =
    fed_in c.args._setup.now Up c.args.end c.args.bytes.now c.args.self.now c.feed.new.self c.came_up.new.self c.came_up.result
    c.in-Up.is c.feed.ensures.step c.came_up.ensures.ok c.came_up.ensures.telling

pub returns-in-Up-clause-err : goal.returns-in-Up-clause-err
returns-in-Up-clause-err c =
    fed_failed c.args._setup.now Up c.args.end c.args.bytes.now c.args.self.now c.feed.new.self c.came_up.new.self c.came_up.result
    c.in-Up.is c.feed.ensures.step c.came_up.ensures.err c.came_up.ensures.telling
