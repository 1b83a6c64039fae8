use Rattle.std.proofs.Common.{◌≡◌, length}
use Rattle.wire_base.specs.Bytes.{IsBytes}
use Rattle.wire_base.specs.Reading.{all_items}
use Rattle.wire_base.proofs.Items.{with_front}
use Rattle.gate_capture.specs.Reading.{cut, entry_in}
use Rattle.gate_capture.proofs.reading.entries_of.Given as goal

abbrev pub invariant-loop-rest : goal.invariant-loop-rest
invariant-loop-rest l = record {
  bytes : IsBytes l.rest;
  read : with_front l.entries (all_items (cut l.size) entry_in l.size l.rest) ≡ all_items (cut l.size) entry_in l.size l.bytes;
}

abbrev pub decreases-loop-rest : goal.decreases-loop-rest
decreases-loop-rest l = length l.rest
