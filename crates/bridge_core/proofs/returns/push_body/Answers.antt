use Rattle.std.proofs.Common.{◌∙◌, ◌∷◌, [], ◌++◌, List, ℕ, ap, arith, refl}
use Rattle.std.proofs.lemmas.Bool.Decides.{nat_tests}
use Rattle.frames_091.specs.declared.frame.Kind91.TheVariants.{Body}
use Rattle.gate_model.specs.Returns.{frame_with}
use Rattle.bridge_core.proofs.Backs.{next_piece}
use Rattle.bridge_core.proofs.returns.push_body.Goals as goal

pub loop-rest-preserved : goal.loop-rest-preserved
loop-rest-preserved c =
    let frame = c.in_ok-frame_with.ensures ∙ ap (frame_with Body c.args.channel) c.in_ok-payload.ensures in
    let added = c.in_ok-push.ensures.ok ∙ ap (λ (f : List ℕ). c.loop-rest.frames ++ (f ∷ [])) frame in
    record {
      room = refl;
      whole = next_piece c.args.limit c.args.channel _ c.loop-rest.rest.now _ _ c.loop-rest.frames _ _ c.requires
          (grind (arith, nat_tests, c.loop-rest-test.true)) (omega (arith, c.min.ensures)) c.split_at.ensures.front c.split_at.ensures.back added
          c.loop-rest.invariant.whole;
    }
