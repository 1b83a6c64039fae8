use Rattle.std.proofs.Common.{◌≡◌, ◌++◌, subst}
use Rattle.gate_outside.specs.declared.ports.Put.TheVariants as put
use Rattle.gate_ends.specs.Streams.{put_bytes, SameInAll}
use Rattle.gate_ends.specs.declared.unsent.Unsent.{Unsent}
use Rattle.gate_ends.proofs.InOrder.{past_in_order, not_failed}
use Rattle.gate_ends.proofs.outgoing.Outgoing.write_long.Goals as goal

pub returns-in-NotYet-clause-order : goal.returns-in-NotYet-clause-order
returns-in-NotYet-clause-order g c = λ well.
    let no : c.write_past.result ≡ put.Failed → ⊥ = λ e. absurd cc in
    past_in_order (g.W.Write.contents c.args.self.now.writer) (g.W.Write.contents c.flush.new.self.writer) (g.W.Write.contents c.write_past.new.self.writer)
    (g.W.Write.contents c.write_short.new.self.writer) c.args.self.now.unsent.bytes.items c.flush.new.self.unsent.bytes.items
    (put_bytes c.write_short.result c.args.bytes.now) c.write_short.new.self.unsent.bytes.items c.args.bytes.now c.write_past.result c.in-NotYet.is
    (c.flush.ensures.order (not_failed c.flush.new.self.failed c.write_past.result c.write_past.ensures.still no))
    (c.write_past.ensures.order (not_failed c.write_past.new.self.failed c.write_past.result c.write_past.ensures.failed.1 no))
    (subst (λ (u : Unsent). SameInAll (g.W.Write.contents c.write_past.new.self.writer) (u.bytes.items ++ put_bytes c.write_short.result c.args.bytes.now)
    (g.W.Write.contents c.write_short.new.self.writer) c.write_short.new.self.unsent.bytes.items) c.write_past.ensures.unsent (c.write_short.ensures.order well))
