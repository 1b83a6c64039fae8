use Rattle.std.proofs.Common.{◌≡◌, ℕ, ◌-◌, List, ap, length, arith, rules, length-append, vec_len}
use Rattle.gate_outside.specs.declared.log.LogEntry.{LogEntry}
use Rattle.gate_outside.specs.LogState.{LogState}
use Rattle.gate_outside.proofs.MarkLemmas.{AreWithin-more, AreWithin-push, entries-push}
use Rattle.gate_outside.proofs.log.Log.add.Goals as goal

abbrev log_of : ℕ → ℕ → List LogEntry → LogState
log_of entry_room byte_room entries = record { entries = entries; entry_room = entry_room; byte_room = byte_room }

pub invariant_of-self : goal.invariant_of-self
invariant_of-self c =
    let before : vec_len c.self.inside.bytes ≡ length c.self.inside.bytes.items = search rules in
    record {
      within = rw (c.push_reserved.ensures.items, c.append_reserved.ensures.items, length-append)
          (AreWithin-push _ _ _ (AreWithin-more _ _ _ (omega arith) c.self.invariant.within) (omega arith));
      entries = omega arith;
      bytes = omega arith;
    }

pub returns-clause-added : goal.returns-clause-added
returns-clause-added c =
    let start : c.len.result ≡ length c.self.inside.bytes.items = search rules in
    rw (← c.self.view_is, c.push_reserved.ensures.items, c.append_reserved.ensures.items, start)
    (ap (log_of (c.self.inside.entry_room - 1) (c.self.inside.byte_room - length c.args.bytes.now))
    (entries-push _ c.args.bytes.now _ c.args.call c.self.invariant.within))
