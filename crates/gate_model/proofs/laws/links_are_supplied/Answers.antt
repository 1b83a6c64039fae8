use Rattle.gate_model.proofs.Filling.{fills_quotas, leaves_credit}
use Rattle.gate_model.proofs.Frames.{within}
use Rattle.gate_model.proofs.Images.{life_below}
use Rattle.gate_model.proofs.Spent.{detaches_done}
use Rattle.gate_model.proofs.Wanting.{attaches_links}
use Rattle.gate_model.proofs.laws.links_are_supplied.Goals as goal

pub returns : goal.returns
returns c =
    let arrives = c.deliveries_lawfully.ensures in
    let closed = c.numbers_lawfully.ensures.closed in
    let calls = c.calls_lawfully.ensures in
    let counts = c.counts_lawfully.ensures in
    let joined = c.links_lawfully-2.ensures.joined in
    let tied = c.links_lawfully.ensures in
    let queues = c.names_lawfully.ensures.queue in
    let below = life_below (within c.connection_laws.ensures.limits_stay) in
    record {
      left = leaves_credit arrives closed calls counts joined tied queues below;
      filled = fills_quotas arrives closed calls counts joined tied queues below c.owed_units_go.ensures.containers;
      attached = attaches_links arrives closed calls joined tied queues c.publishes_lawfully.ensures c.payloads_lawfully.ensures.frame c.payloads_lawfully.ensures.rest below
          c.owed_units_go.ensures.containers;
      detached = detaches_done arrives closed calls joined tied queues c.settles_lawfully.ensures.covered below c.owed_units_go.ensures.containers;
    }
