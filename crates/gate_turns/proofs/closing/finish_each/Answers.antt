use Rattle.std.proofs.Common.{rules, subst, sym}
use Rattle.gate_relay.specs.Entries.{Over}
use Rattle.gate_turns.specs.declared.live.Live.{Live}
use Rattle.gate_turns.specs.Openings.{HasEntry}
use Rattle.gate_turns.proofs.EachPair.{ends_kept, have_all, have_more, have_none, none_represents}
use Rattle.gate_turns.proofs.closing.finish_each.Goals as goal

pub loop-pair-init : goal.loop-pair-init
loop-pair-init g c = record {
  ends = have_none none_represents Over c.args.live.now;
  each = λ s. have_none (g.R.Relay.represents s) Over c.args.live.now;
}

pub loop-pair-preserved : goal.loop-pair-preserved
loop-pair-preserved g c = record {
  ends = have_more none_represents Over c.loop-pair.pair-index c.args.live.now c.loop-pair.live c.pair-item.result c.finish.new.self (search rules) (search rules)
      (subst (λ (b : Live g.row.R.Denot). HasEntry none_represents Over b c.finish.new.self) (sym c.pair-item.is)
      (record { number = c.finish.ensures.number; sides = c.finish.ensures.sides; entry = λ h e. absurd e.relay })) c.loop-pair.invariant.ends;
  each = λ s. have_more (g.R.Relay.represents s) Over c.loop-pair.pair-index c.args.live.now c.loop-pair.live c.pair-item.result c.finish.new.self (search rules) (search rules)
      (subst (λ (b : Live g.row.R.Denot). HasEntry (g.R.Relay.represents s) Over b c.finish.new.self) (sym c.pair-item.is)
      (record { number = c.finish.ensures.number; sides = c.finish.ensures.sides; entry = λ h. c.finish.ensures.entry s h })) (c.loop-pair.invariant.each s);
}

pub returns-clause-ends : goal.returns-clause-ends
returns-clause-ends g c = ends_kept Over _ _ (have_all none_represents Over _ c.args.live.now _ (search rules) c.loop-pair.invariant.ends)

pub returns-clause-entry : goal.returns-clause-entry
returns-clause-entry g c = λ s. have_all (g.R.Relay.represents s) Over _ c.args.live.now _ (search rules) (c.loop-pair.invariant.each s)
