use Rattle.std.proofs.Common.{inr, refl}
use Rattle.gate_listing.specs.declared.listing.Dialect.TheVariants.{Amqp10}
use Rattle.gate_command.proofs.RunLaws.{accepted_within}
use Rattle.gate_command.proofs.top_call.run_as_asked.Goals as goal

pub returns-in-Serve-clause-limit : goal.returns-in-Serve-clause-limit
returns-in-Serve-clause-limit g c =
    accepted_within _ c.in-Serve.limits c.in-Serve.setup c.in-Serve.path (g.P.Ports.pairs c.serve_as_asked.new.ports)
    (c.in-Serve.listen, c.in-Serve.upstream, rw c.in-Serve.is at c.requires.asks) c.serve_as_asked.ensures.limit

pub returns-in-Show10-clause-outcome : goal.returns-in-Show10-clause-outcome
unfolding Rattle.gate_command.specs.Outcome.Outcome
returns-in-Show10-clause-outcome g c = inr (inr (inr (record {
  dialect = Amqp10;
  asks = rw c.in-Show10.is at c.requires.asks;
  listing = c.run_listing-in-Show10.ensures.listing;
  unrecorded = refl;
  silent = refl;
})))
