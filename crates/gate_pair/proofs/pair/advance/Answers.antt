use Rattle.std.proofs.Common.{◌<◌, ◌≡◌, ◌∙◌, ap, arith, length, sym}
use Rattle.bridge_core.specs.Offers.{offer_of}
use Rattle.gate_pair.proofs.Writes.{begun_taken, free_within, whole_taken}
use Rattle.gate_pair.proofs.pair.advance.Goals as goal

pub returns-then-count-size-clause-advances : goal.returns-then-count-size-clause-advances
returns-then-count-size-clause-advances c =
    let all : c.args.count ≡ length (offer_of c.args.end c.args.bridge.now).bytes = c.if-count-size.true ∙ ap length c.bytes-size.ensures.bytes in
    whole_taken c.args.end c.args.count c.args.at c.args.bridge.now c.commit.new.self c.wrote_all-then-count-size.new.self
    (sym c.is_busy.ensures ∙ c.if-is_busy.false) all c.commit.ensures.picked c.commit.ensures.step c.wrote_all-then-count-size.ensures

pub returns-else-count-size-clause-advances : goal.returns-else-count-size-clause-advances
returns-else-count-size-clause-advances c =
    let free = sym c.is_busy.ensures ∙ c.if-is_busy.false in
    let within = free_within c.args.end c.args.at c.args.count c.args.bridge.now free c.requires.offered.ready c.requires.offered.within in
    let size = ap length c.bytes-size.ensures.bytes in
    let some : c.args.count < length (offer_of c.args.end c.args.bridge.now).bytes = omega (arith, within, size, c.if-count-size.false) in
    begun_taken c.args.end c.args.count c.args.at c.args.bridge.now c.commit.new.self free some c.commit.ensures.picked c.commit.ensures.step
