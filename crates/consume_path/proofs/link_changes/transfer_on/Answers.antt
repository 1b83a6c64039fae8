use Rattle.std.proofs.Common.{◌≡◌, ◌∙◌, ◌<◌, List, sym, ap, subst, arith, length, set, get_or}
use Rattle.std.proofs.lemmas.List.{get_or_read}
use Rattle.std.proofs.lemmas.Result.{on_ok_weaker}
use Rattle.consume_path.specs.declared.receiving.ReceivingLink.{ReceivingLink}
use Rattle.consume_path.specs.Links.{has_number, change_first}
use Rattle.consume_path.specs.Kept.{came_counted}
use Rattle.consume_path.proofs.Steps.{first_here}
use Rattle.consume_path.proofs.link_changes.transfer_on.Goals as goal

pub returns-then-has_link_number-clause-ok : goal.returns-then-has_link_number-clause-ok
returns-then-has_link_number-clause-ok c =
    let f = came_counted c.args.part c.args.payload.now in
    let here = has_number c.args.link in
    let links = c.args.links.now.items in
    let k = c.loop-k.k in
    let same = c.loop-k.invariant.same in
    let lt : k < length c.loop-k.links.items = omega arith in
    let within : k < length links = subst (λ (ls : List ReceivingLink). k < length ls) same lt in
    let got : c.index_mut.result.now ≡ c.index.result.now = get_or_read c.loop-k.links.items k c.index_mut.result.now lt c.index_mut.ensures.value c.index.result.now ∙ sym c.index.ensures in
    on_ok_weaker c.transfer_one.result
    (λ e.
    subst (λ (ls : List ReceivingLink). set ls k c.transfer_one.new.l ≡ change_first here f links) (sym same)
    (first_here here f links k c.index.result.now c.transfer_one.new.l within (c.index.ensures ∙ ap (λ (ls : List ReceivingLink). get_or ls k c.index.result.now) same) (sym c.has_link_number.ensures ∙ c.if-has_link_number.true) (e ∙ ap f got) c.loop-k.invariant.first))
    c.transfer_one.ensures.ok
