use Rattle.std.proofs.Common.{◌≡◌, ℕ, ◌∙◌, ◌∷◌, List, length, ap, subst, sym, arith}
use Rattle.std.specs.Vec.Iter.{into_iter_items}
use Rattle.gate_runs.specs.declared.served.Outside.TheVariants.{Out, Capture}
use Rattle.gate_runs.specs.declared.served.Served.TheVariants.{Fault}
use Rattle.gate_turns.specs.declared.live.Live.{Live}
use Rattle.gate_turns.specs.Endings.{ClosingEffect, closing_state}
use Rattle.gate_turns.specs.Rounds.{OwnsEnds}
use Rattle.gate_runs.specs.Marks.{Extends}
use Rattle.gate_turns.proofs.Closings.{answer_then, closing_then, fault_then, none_left, owns_none}
use Rattle.gate_turns.proofs.Closings.{owns_rest}
use Rattle.gate_turns.proofs.Keeping.{ports_then}
use Rattle.gate_turns.proofs.closing.shut_all.Goals as goal

pub loop-live-preserved : goal.loop-live-preserved
loop-live-preserved g c =
    let at = c.loop-live in
    let steps : into_iter_items at.live-iterator ≡ c.in-Some.live ∷ into_iter_items c.next.new.self = c.in-Some.ensures.steps.0 in
    let left : OwnsEnds (c.in-Some.live ∷ into_iter_items c.next.new.self) (g.P.Ports.pairs at.ports) (g.P.Ports.ends at.ports) =
    subst (λ (xs : List (Live g.row.R.Denot)). OwnsEnds xs (g.P.Ports.pairs at.ports) (g.P.Ports.ends at.ports)) steps at.invariant.owns in
    let next = c.shut_pair-answer in
    record {
      count = (let was = at.invariant.count in let gone = c.in-Some.ensures.steps.1 in let short = ap length steps in omega arith);
      owns = subst (λ (pairs : ℕ). OwnsEnds (into_iter_items c.next.new.self) pairs (g.P.Ports.ends next.new.ports)) (sym next.ensures.ports.pairs)
          (owns_rest c.in-Some.live (into_iter_items c.next.new.self) _ _ _ left next.ensures.others next.ensures.none);
      ports = ports_then at.invariant.ports next.ensures.ports;
      out = omega (arith, at.invariant.out, next.ensures.out);
      tape = omega (arith, at.invariant.tape, next.ensures.tape);
      answer = answer_then c.args.answer at.answer next.result at.invariant.answer next.ensures.answer;
      mute = fault_then (Fault Out) c.args.answer at.answer next.result _ _ _ at.invariant.out next.ensures.out at.invariant.mute next.ensures.mute;
      lost = fault_then (Fault Capture) c.args.answer at.answer next.result _ _ _ at.invariant.tape next.ensures.tape at.invariant.lost next.ensures.lost;
      log = λ s. closing_then (g.R.Relay.words s) (g.R.Relay.represents s) _ (closing_state (c.in-Some.live ∷ into_iter_items c.next.new.self) at.answer (g.K.Sink.held at.report) (g.T.Recorder.held at.recorder)) _ _ _ _
          (subst (λ (xs : List (Live g.row.R.Denot)). Extends (g.P.Ports.log c.args.ports.now) (g.P.Ports.log at.ports)
          (ClosingEffect (g.R.Relay.words s) (g.R.Relay.represents s) (closing_state c.args.service.live.items c.args.answer (g.K.Sink.held c.args.report.now) (g.T.Recorder.held c.args.recorder.now))
          (closing_state xs at.answer (g.K.Sink.held at.report) (g.T.Recorder.held at.recorder)))) steps (at.invariant.log s))
          (next.ensures.log s (into_iter_items c.next.new.self));
    }

pub returns-clause-ends : goal.returns-clause-ends
returns-clause-ends g c = owns_none (into_iter_items c.loop-live.live-iterator) _ _ (none_left _ (sym c.loop-live.invariant.count ∙ c.in-None.ensures.steps.0)) c.loop-live.invariant.owns
