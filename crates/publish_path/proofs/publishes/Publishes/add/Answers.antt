use Rattle.std.proofs.Common.{◌≡◌, ◌∙◌, ◌+◌, ◌++◌, ◌∷◌, [], refl, sym, ap, cond, Some}
use Rattle.publish_path.specs.declared.publish.Publish.{Publish}
use Rattle.publish_path.specs.declared.counts.Counts.{Counts}
use Rattle.publish_path.specs.Publishes.{PublishState, new_publish, next_number}
use Rattle.publish_path.specs.Offers.{held_count, held_bytes}
use Rattle.publish_path.proofs.Steps.{held_seen, bytes_seen}
use Rattle.publish_path.proofs.Ids.{ids_push}
use Rattle.publish_path.proofs.Kept.{kept_push}
use Rattle.publish_path.proofs.publishes.Publishes.add.Goals as goal
use Rattle.publish_path.proofs.publishes.Publishes.add.Goals.{then-confirm, else-confirm, then-confirm-2, else-confirm-2}

pub invariant_of-self-2 : goal.invariant_of-self-2
invariant_of-self-2 c =
    let items = c.self.inside.items.items in
    let counts = c.self.inside.counts in
    let n = c.self.inside.confirms in
    let confirms : c.if-confirm.confirms ≡ cond c.args.confirm (n + 1) n = elim c.if-confirm.branch [
      | then-confirm w ↦ w.confirms-is ∙ sym (ap (λ b. cond b (n + 1) n) w.if-confirm.true)
      | else-confirm w ↦ w.confirms-is ∙ sym (ap (λ b. cond b (n + 1) n) w.if-confirm.false)
    ] in
    let named : c.if-confirm-2.confirm ≡ next_number c.args.confirm n = elim c.if-confirm-2.branch [
      | then-confirm-2 w ↦ w.confirm-is ∙ ap Some (confirms ∙ ap (λ b. cond b (n + 1) n) w.if-confirm-2.true) ∙ sym (ap (λ b. next_number b n) w.if-confirm-2.true)
      | else-confirm-2 w ↦ w.confirm-is ∙ sym (ap (λ b. next_number b n) w.if-confirm-2.false)
    ] in
    let held : c.held-held.result.0 ≡ counts.held = c.held-held.ensures.count ∙ sym (ap (λ (s : PublishState). held_count s.list) c.self.view_is) ∙ held_seen items ∙ sym (ap (λ (k : Counts). k.held) c.self.invariant.0.counted) in
    let bytes : c.held-held.result.1 ≡ counts.bytes = c.held-held.ensures.bytes ∙ sym (ap (λ (s : PublishState). held_bytes s.list) c.self.view_is) ∙ bytes_seen items ∙ sym (ap (λ (k : Counts). k.bytes) c.self.invariant.0.counted) in
    let now = c.in_ok-push.ensures.items ∙ ap (λ (p : Publish). items ++ p ∷ []) c.new_one.ensures in (
      kept_push c.self.invariant.0 c.args.link (c.self.inside.numbers + 1) c.args.confirm c.args.payload c.args.back
          (now ∙ ap (λ k. items ++ new_publish (c.self.inside.numbers + 1) c.args.link k c.args.payload c.args.back ∷ []) named)
          refl refl confirms
          (ap (λ m. record { held = m + 1; bytes = c.held-held.result.1 + c.len-size.result; owed = counts.owed; returns = counts.returns; lines = counts.lines }) held
          ∙ ap (λ m. record { held = counts.held + 1; bytes = m + c.len-size.result; owed = counts.owed; returns = counts.returns; lines = counts.lines }) bytes
          ∙ ap (λ m. record { held = counts.held + 1; bytes = counts.bytes + m; owed = counts.owed; returns = counts.returns; lines = counts.lines }) c.len-size.ensures),
      λ w. ids_push c.self.inside.next_id (c.self.inside.numbers + 1) c.args.link c.if-confirm-2.confirm c.args.payload c.args.back now (c.self.invariant.1 w),
    )
