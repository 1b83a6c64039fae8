use Rattle.std.proofs.Common.{◌≡◌, ◌∙◌, ◌+◌, ◌-◌, suc, ap, sym, subst, length, false, true}
use Rattle.std.proofs.Common.{arith, IfOk}
use Rattle.consume_path.specs.Links.{is_tag_used}
use Rattle.session_path.specs.Path.{numbered_tag}
use Rattle.session_path.proofs.Consuming.{found_free, passed_over}
use Rattle.session_path.proofs.session_path.consuming.free_tag.Goals as goal

pub returns-then-not-has_tag : goal.returns-then-not-has_tag
returns-then-not-has_tag c =
    let links = c.args.deliveries.now.links in
    let same : length c.links-end.result.now ≡ length links = ap length c.links-end.ensures in
    let k = length links - suc c.loop.counter in
    let here : c.loop.counter + suc k ≡ length links = omega (arith, same, c.loop-test.true) in
    let free : is_tag_used (numbered_tag c.loop.number) links ≡ false =
    ap (λ tag. is_tag_used tag links) (sym (c.as_slice.ensures ∙ c.in_ok-tag.ensures))
    ∙ (sym c.has_tag.ensures ∙ c.if-not-has_tag.true) in
    c.in_ok-tag.ensures ∙ ap numbered_tag (found_free k c.loop.number _ links free (c.loop.invariant.rest (suc k) here))

pub loop-preserved : goal.loop-preserved
loop-preserved c =
    let links = c.args.deliveries.now.links in
    let used : is_tag_used (numbered_tag c.loop.number) links ≡ true =
    ap (λ tag. is_tag_used tag links) (sym (c.as_slice.ensures ∙ c.in_ok-tag.ensures))
    ∙ (sym c.has_tag.ensures ∙ c.if-not-has_tag.false) in
    record {
      number = ap (λ n. n + 1) c.loop.invariant.number;
      rest = λ k e. passed_over k c.loop.number _ links used (c.loop.invariant.rest (suc k) (omega (arith, e)));
    }

pub returns : goal.returns
returns c =
    let same : length c.links-end.result.now ≡ length c.args.deliveries.now.links = ap length c.links-end.ensures in
    subst (λ n. IfOk c.numbered_tag-2.result (λ tag. tag ≡ numbered_tag n))
    (c.loop.invariant.rest 0 (omega (arith, same, c.loop-test.false, c.loop.auto.counter-end)))
    c.numbered_tag-2.ensures
