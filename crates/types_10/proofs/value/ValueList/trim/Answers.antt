use Rattle.std.proofs.Common.{◌≡◌, ◌∙◌, ◌++◌, List, Option, Some, None, true, sym, ap, subst, map, append-nil, option_to_list}
use Rattle.std.proofs.lemmas.List.{map_push, map-append}
use Rattle.types_10.specs.Fields.{ends_absent, trim}
use Rattle.types_10.specs.Ranges.{ListIsRanged}
use Rattle.types_10.specs.View.{value_tree}
use Rattle.types_10.specs.declared.value.Value10.{Value10}
use Rattle.types_10.proofs.Trimmed.{ends_push, trim_absent, trim_all}
use Rattle.types_10.proofs.RangeLaws.{list_front}
use Rattle.types_10.proofs.value.ValueList.trim.Goals as goal

-- without its last value, which is null, a list has the same values up to the last that isn't
dropped : (new : List Value10) (last : Option Value10) → ends_absent (map value_tree (new ++ option_to_list last)) ≡ true
    → trim (map value_tree new) ≡ trim (map value_tree (new ++ option_to_list last))
dropped new None e = ap (λ vs. trim (map value_tree vs)) (sym (append-nil new))
dropped new (Some v) e =
    let whole = map_push value_tree new v in
    sym (ap trim whole ∙ trim_absent (map value_tree new) (value_tree v) (sym (ends_push (map value_tree new) (value_tree v)) ∙ ap ends_absent (sym whole) ∙ e))

pub loop-self-preserved : goal.loop-self-preserved
loop-self-preserved c =
    let new = c.pop.new.self.items in
    let last = c.pop.result in
    let old = c.pop.ensures.items in
    let ends = sym (c.loop-self-test.ensures) in (
      dropped new last (ap (λ vs. ends_absent (map value_tree vs)) (sym old ∙ sym c.as_slice.ensures.value) ∙ ends)
          ∙ ap (λ vs. trim (map value_tree vs)) (sym old) ∙ c.loop-self.invariant.0,
      list_front (map value_tree new) (map value_tree (option_to_list last))
          (subst ListIsRanged (ap (map value_tree) old ∙ map-append value_tree new (option_to_list last)) c.loop-self.invariant.1),
    )

pub returns : goal.returns
returns c =
    let stays = ap (λ vs. ends_absent (map value_tree vs)) (sym c.as_slice.ensures.value) in
    sym (trim_all _ (stays ∙ sym c.loop-self-test.ensures)) ∙ c.loop-self.invariant.0
