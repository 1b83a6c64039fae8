use Rattle.std.proofs.Common.{sym, ◌∙◌, arith}
use Rattle.std.specs.String.{string_bytes}
use Rattle.gate_command.proofs.Steps.{stops_at, goes_on, is_done, word_takes}
use Rattle.gate_command.proofs.words.options_of.Goals as goal

pub returns-in-None : goal.returns-in-None
returns-in-None c =
    sym (stops_at string_bytes c.args.words.now c.loop-word.word-index c.word-item.result _ c.loop-word.place c.loop-word.room _ (omega arith) c.word-item.is c.as_str-text.ensures.value (sym c.in-None.ensures))
    ∙ c.loop-word.invariant.same

pub overflow_sub-room : goal.overflow_sub-room
overflow_sub-room c =
    let takes = word_takes c.loop-word.room _ _ _ (sym c.in-Some.ensures) in
    omega arith

pub loop-word-preserved : goal.loop-word-preserved
loop-word-preserved c = record {
  same =
      goes_on string_bytes c.args.words.now c.loop-word.word-index c.word-item.result _ c.loop-word.place c.loop-word.room _ _ (omega arith) c.word-item.is c.as_str-text.ensures.value (sym c.in-Some.ensures)
      ∙ c.loop-word.invariant.same;
  bound = let takes = word_takes c.loop-word.room _ _ _ (sym c.in-Some.ensures) in omega arith;
}

pub returns : goal.returns
returns c =
    c.ended.ensures ∙ sym (is_done string_bytes c.args.words.now c.loop-word.word-index c.loop-word.place c.loop-word.room _ (omega arith)) ∙ c.loop-word.invariant.same
