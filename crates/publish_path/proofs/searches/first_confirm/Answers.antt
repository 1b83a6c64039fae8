use Rattle.std.proofs.Common.{◌≡◌, ◌∙◌, ◌+◌, ◌∷◌, subst, sym, ap, arith, drop, None}
use Rattle.std.proofs.lemmas.List.{drop_more}
use Rattle.std.specs.Prelude.{filter}
use Rattle.publish_path.specs.Offers.{is_unanswered}
use Rattle.publish_path.specs.Searches.{found_confirm}
use Rattle.publish_path.proofs.Steps.{rest_confirm, rest_due, first_alone_is}
use Rattle.publish_path.proofs.searches.first_confirm.Goals as goal

pub returns-in-None-None : goal.returns-in-None-None
returns-in-None-None c =
    let items = c.args.items.now in
    let i = c.loop-p.p-index in
    let run = subst (λ r. rest_confirm r (filter is_unanswered (drop i items)) ≡ found_confirm (filter is_unanswered items)) c.in-None-None.is-0 c.loop-p.invariant.run in
    let due = subst (λ r. rest_due r (drop i items) items) c.in-None-None.is-0 c.loop-p.invariant.due in
    let cons : drop i items ≡ c.p-item.result ∷ drop (i + 1) items = drop_more items i c.p-item.result (omega arith) ∙ ap (λ x. x ∷ drop (i + 1) items) (sym c.p-item.is) in
    c.first_alone.ensures
    ∙ first_alone_is c.p-item.result (drop (i + 1) items) items (cc) (cc)
    (subst (λ ps. rest_confirm None (filter is_unanswered ps) ≡ found_confirm (filter is_unanswered items)) cons run) (subst (λ ps. rest_due None ps items) cons due)
