use Rattle.std.proofs.Common.{arith}
use Rattle.std.specs.String.{string_bytes}
use Rattle.gate_command.proofs.Lines.{one_more, last, words_are}
use Rattle.gate_command.proofs.Parts.{part_found, part_absent}
use Rattle.gate_command.proofs.told_words.words_of.Goals as goal

pub loop-line-preserved : goal.loop-line-preserved
loop-line-preserved c = record {
  text = search;
  same =
      let found = part_found 10 _ _ (omega arith) c.split_once.ensures.cases _ c.in-Some.is in
      rw c.in_ok-push-2.ensures.items (one_more string_bytes _ _ c.loop-line.rest.now c.in-Some.line.now c.in-Some.after.now _ c.loop-line.invariant.same found.parts_are c.in_ok-from_str-2.ensures.ok);
}

pub returns : goal.returns
returns c =
    let one = part_absent 10 _ _ (omega arith) c.split_once.ensures.cases c.in_default.is in
    rw (c.in_ok-push-3.ensures.items, words_are _ _ c.is_empty.ensures c.if-is_empty.false)
    (last string_bytes _ _ c.loop-line.rest.now _ c.loop-line.invariant.same one c.in_ok-from_str-3.ensures.ok)
