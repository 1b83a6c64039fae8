use Rattle.std.proofs.Common.{◌≡◌, ◌++◌, length, ℕ, ◌+◌, List, arith, ap, ◌∙◌, length-drop}
use Rattle.gate_model.specs.Spelling.{frame_on}
use Rattle.publish_path.specs.Payloads.{joined}
use Rattle.bridge_core.proofs.link_frames.frame_behind.Goals as goal
use Rattle.bridge_core.proofs.Joined.{behind_len}

pub set_u32-requires : goal.set_u32-requires
set_u32-requires c =
    omega (
      arith,
      ap length (c.in_ok-put_pieces.ensures ∙ ap (λ (t : List ℕ). t ++ joined c.args.payload)
          (c.in_ok-put_frame10.ensures.ok ∙ ap (λ (t : List ℕ). t ++ frame_on c.args.channel c.args.body) c.empty-text.ensures)),
      behind_len c.args.channel c.args.body (joined c.args.payload),
    )

-- what is changed is as long as the frame
long : (c : goal.After-set_u32) → length c.put_pieces.new.out ≡ 8 + length c.args.body + length (joined c.args.payload)
long c =
    ap length (c.in_ok-put_pieces.ensures ∙ ap (λ (t : List ℕ). t ++ joined c.args.payload)
    (c.in_ok-put_frame10.ensures.ok ∙ ap (λ (t : List ℕ). t ++ frame_on c.args.channel c.args.body) c.empty-text.ensures))
    ∙ behind_len c.args.channel c.args.body (joined c.args.payload)

pub returns-clause-small : goal.returns-clause-small
returns-clause-small c = grind (arith, long c, ap length c.set_u32.ensures, length-drop 4 c.put_pieces.new.out)
