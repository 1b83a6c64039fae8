use Rattle.std.proofs.Common.{ℕ, List, ◌∙◌, ap, drop, refl, sym, true}
use Rattle.gate_pair.proofs.Saids.{half, heard_failed, heard_in, heard_lost}
use Rattle.gate_pair.proofs.pair.Pair.came_up.Goals as goal

pub invariant_of-self : goal.invariant_of-self
invariant_of-self c = c.cut_up.ensures.sound c.self.inside.client_sent c.self.inside.up_sent c.self.invariant

pub invariant_of-self-in-Err-cut_up : goal.invariant_of-self-in-Err-cut_up
invariant_of-self-in-Err-cut_up c = c.cut_up.ensures.sound c.self.inside.client_sent c.self.inside.up_sent c.self.invariant

pub returns-in-Ok-cut_up-clause-ok : goal.returns-in-Ok-cut_up-clause-ok
returns-in-Ok-cut_up-clause-ok c =
    heard_in c.as_slice.result.now c.args.bytes.now c.in-Ok-cut_up.at c.self.inside.bridge c.cut_up.new.bridge (half c.self.inside.client c.self.inside.client_sent) (half c.self.inside.up c.self.inside.up_sent) (half c.discard.new.self c.self.inside.up_sent)
    c.self.inside.telling true c.args.self.now c.self.view_is (c.as_slice.ensures ∙ c.in-Ok.ensures.ok) c.in-Ok-cut_up.ensures.ok c.cut_up.ensures.kept
    (ap (λ (t : List ℕ). half t c.self.inside.up_sent) (c.discard.ensures ∙ ap (drop c.in-Ok-cut_up.at) (sym c.as_slice.ensures)))

pub returns-in-Err-cut_up-clause-err : goal.returns-in-Err-cut_up-clause-err
returns-in-Err-cut_up-clause-err c =
    heard_failed c.as_slice.result.now c.args.bytes.now c.self.inside.bridge c.cut_up.new.bridge (half c.self.inside.client c.self.inside.client_sent) (half c.self.inside.up c.self.inside.up_sent) (half c.append.new.self c.self.inside.up_sent)
    c.self.inside.telling true c.args.self.now c.forget.new.self c.self.view_is (c.as_slice.ensures ∙ c.in-Ok.ensures.ok) refl
    c.forget.ensures c.in-Err-cut_up.ensures.err.0 c.cut_up.ensures.kept

pub returns-in-Err-clause-err : goal.returns-in-Err-clause-err
returns-in-Err-clause-err c =
    heard_lost c.args.bytes.now c.self.inside.bridge c.run_out.new.self (half c.self.inside.client c.self.inside.client_sent) (half c.self.inside.up c.self.inside.up_sent) (half c.append.new.self c.self.inside.up_sent)
    c.self.inside.telling true c.args.self.now c.forget-in-Err.new.self c.self.view_is (ap (λ (t : List ℕ). half t c.self.inside.up_sent) c.in-Err.ensures.err)
    c.forget-in-Err.ensures c.run_out.ensures.step c.run_out.ensures.kept
