use Rattle.std.proofs.Common.{◌<◌, length, refl, rules, sym, ◌∙◌, arith}
use Rattle.gate_turns.proofs.Countings.{how_many_left, how_many_set}
use Rattle.gate_turns.proofs.RoundMarks.{leaves_after, owns_after, owns_this, pair_visited}
use Rattle.gate_turns.proofs.RoundMarks.{split_at, stays_after}
use Rattle.gate_turns.proofs.round.turn_at.Goals as goal

pub returns-then-lives-clause-holds : goal.returns-then-lives-clause-holds
returns-then-lives-clause-holds g c =
    let lt : c.args.at < length c.args.service.now.live.items = search rules in
    record {
      accepts = c.requires.holds.accepts ∙ sym c.visit-result.ensures.ports.pairs;
      owns = owns_after _ c.args.at _ _ _ c.index_mut-live.result.now c.visit-result.new.live _ _ _ _ _
          (split_at c.args.service.now.live.items c.args.at c.index_mut-live.result.now lt c.index_mut-live.ensures.value)
          (stays_after c.args.at c.visit-result.new.live c.args.service.now.live.items _ lt refl)
          (record { number = c.visit-result.ensures.ends.number; same = c.visit-result.ensures.ports.pairs; keeps = c.visit-result.ensures.ends.others; are = c.visit-result.ensures.ends.open_ends })
          (sym c.if-lives.true ∙ c.has_end-lives.ensures) c.requires.holds.owns;
    }

pub returns-clause-holds : goal.returns-clause-holds
returns-clause-holds g c =
    let lt : c.args.at < length c.args.service.now.live.items = search rules in
    record {
      accepts = c.retire.ensures.accepted ∙ c.requires.holds.accepts ∙ sym c.visit-result.ensures.ports.pairs;
      owns = owns_after _ c.args.at _ _ _ c.index_mut-live.result.now c.visit-result.new.live _ _ _ _ _
          (split_at c.args.service.now.live.items c.args.at c.index_mut-live.result.now lt c.index_mut-live.ensures.value)
          (leaves_after c.args.at c.visit-result.new.live c.args.service.now.live.items _ c.retire.ensures.live)
          (record { number = c.visit-result.ensures.ends.number; same = c.visit-result.ensures.ports.pairs; keeps = c.visit-result.ensures.ends.others; are = c.visit-result.ensures.ends.open_ends })
          (sym c.if-lives.false ∙ c.has_end-lives.ensures) c.requires.holds.owns;
    }

pub returns-then-lives-clause-log : goal.returns-then-lives-clause-log
returns-then-lives-clause-log g c =
    let lt : c.args.at < length c.args.service.now.live.items = search rules in
    let split = split_at c.args.service.now.live.items c.args.at c.index_mut-live.result.now lt c.index_mut-live.ensures.value in
    pair_visited (g.R.Relay.words c.args.setup.now) (g.R.Relay.represents c.args.setup.now) c.has_end-lives.result c.args.at _ c.index_mut-live.result.now c.visit-result.new.live _ _ _ _ c.visit-result.result _ _ _ _ _ _
    split c.requires.holds.owns.rising (owns_this _ _ _ _ _ _ _ split c.requires.holds.owns).has c.has_end-lives.ensures
    (rw c.if-lives.true (stays_after c.args.at c.visit-result.new.live c.args.service.now.live.items _ lt refl)) refl c.visit-result.ensures.ports.last c.visit-result.ensures.log

pub returns-clause-log : goal.returns-clause-log
returns-clause-log g c =
    let lt : c.args.at < length c.args.service.now.live.items = search rules in
    let split = split_at c.args.service.now.live.items c.args.at c.index_mut-live.result.now lt c.index_mut-live.ensures.value in
    pair_visited (g.R.Relay.words c.args.setup.now) (g.R.Relay.represents c.args.setup.now) c.has_end-lives.result c.args.at _ c.index_mut-live.result.now c.visit-result.new.live _ _ _ _ c.visit-result.result _ _ _ _ _ _
    split c.requires.holds.owns.rising (owns_this _ _ _ _ _ _ _ split c.requires.holds.owns).has c.has_end-lives.ensures
    (rw c.if-lives.false (leaves_after c.args.at c.visit-result.new.live c.args.service.now.live.items _ c.retire.ensures.live)) c.retire.ensures.accepted c.visit-result.ensures.ports.last c.visit-result.ensures.log

pub returns-then-lives-clause-count : goal.returns-then-lives-clause-count
returns-then-lives-clause-count g c = λ within.
    let lt : c.args.at < length c.args.service.now.live.items = search rules in
    omega (
      arith,
      within,
      c.visit-result.ensures.count,
      how_many_set g.R.Relay.out_of_memory c.args.service.now.live.items c.args.at c.index_mut-live.result.now c.visit-result.new.live lt c.index_mut-live.ensures.value,
    )

pub returns-clause-count : goal.returns-clause-count
returns-clause-count g c = λ within.
    let lt : c.args.at < length c.args.service.now.live.items = search rules in
    omega (
      arith,
      within,
      c.visit-result.ensures.count,
      c.retire.ensures.accepted,
      how_many_set g.R.Relay.out_of_memory c.args.service.now.live.items c.args.at c.index_mut-live.result.now c.visit-result.new.live lt c.index_mut-live.ensures.value,
      how_many_left g.R.Relay.out_of_memory c.args.service.now.live.items c.retire.new.self.live.items c.args.at c.visit-result.new.live lt c.retire.ensures.live,
    )
