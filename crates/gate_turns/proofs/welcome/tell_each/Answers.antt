use Rattle.std.proofs.Common.{rules, refl, subst, sym, ◌∙◌}
use Rattle.gate_relay.specs.Entries.{Moment}
use Rattle.gate_turns.specs.declared.live.Live.{Live}
use Rattle.gate_turns.specs.Openings.{HasEntry}
use Rattle.gate_turns.proofs.Countings.{how_many_told}
use Rattle.gate_turns.proofs.EachPair.{ends_kept, have_all, have_more, have_none, none_represents}
use Rattle.gate_turns.proofs.welcome.tell_each.Goals as goal

pub loop-pair-init : goal.loop-pair-init
loop-pair-init g c = record {
  count = refl;
  ends = have_none none_represents (Moment c.args.moment) c.args.live.now;
  each = λ s. have_none (g.R.Relay.represents s) (Moment c.args.moment) c.args.live.now;
}

pub loop-pair-preserved : goal.loop-pair-preserved
loop-pair-preserved g c = record {
  count = how_many_told g.R.Relay.out_of_memory c.loop-pair.live c.loop-pair.pair-index c.pair-item.result c.tell.new.self (search rules) c.tell.ensures.memory
      ∙ c.loop-pair.invariant.count;
  ends = have_more none_represents (Moment c.args.moment) c.loop-pair.pair-index c.args.live.now c.loop-pair.live c.pair-item.result c.tell.new.self (search rules) (search rules)
      (subst (λ (b : Live g.row.R.Denot). HasEntry none_represents (Moment c.args.moment) b c.tell.new.self) (sym c.pair-item.is)
      (record { number = c.tell.ensures.number; sides = c.tell.ensures.sides; entry = λ h none. absurd none.relay })) c.loop-pair.invariant.ends;
  each = λ s. have_more (g.R.Relay.represents s) (Moment c.args.moment) c.loop-pair.pair-index c.args.live.now c.loop-pair.live c.pair-item.result c.tell.new.self (search rules) (search rules)
      (subst (λ (b : Live g.row.R.Denot). HasEntry (g.R.Relay.represents s) (Moment c.args.moment) b c.tell.new.self) (sym c.pair-item.is)
      (record { number = c.tell.ensures.number; sides = c.tell.ensures.sides; entry = λ h. c.tell.ensures.entry s h })) (c.loop-pair.invariant.each s);
}

pub returns-clause-ends : goal.returns-clause-ends
returns-clause-ends g c = ends_kept (Moment c.args.moment) _ _ (have_all none_represents (Moment c.args.moment) _ c.args.live.now _ (search rules) c.loop-pair.invariant.ends)

pub returns-clause-entry : goal.returns-clause-entry
returns-clause-entry g c = λ s. have_all (g.R.Relay.represents s) (Moment c.args.moment) _ c.args.live.now _ (search rules) (c.loop-pair.invariant.each s)
