use Rattle.std.proofs.Common.{◌∙◌, ◌+◌, ◌<◌, ◌||◌, Bool, List, ap, arith, length, subst, sym, take, ℕ}
use Rattle.std.proofs.lemmas.Bool.{or_cases}
use Rattle.std.specs.List.{list_any}
use Rattle.std.specs.Prelude.{◌==◌}
use Rattle.std.specs.BTreeSet.{contains}
use Rattle.std.specs.Ordering.{nat_cmp}
use Rattle.machine_091.specs.declared.unit.Unit91.{Unit91}
use Rattle.gate_model.specs.Queue.{channel_of, waits_for_all}
use Rattle.bridge_core.specs.Held.{ArePassed, is_on}
use Rattle.bridge_core.specs.declared.above.Above.{Above}
use Rattle.bridge_core.proofs.Passed.{none_more, one_put, passed_more}
use Rattle.bridge_core.proofs.above.Above.pass.Goals as goal
use Rattle.bridge_core.proofs.above.Above.pass.Goals.{then-from-ge-CHANNELS+else-not-is_held+in-Ok, else-from-ge-CHANNELS}

pub returns : goal.returns
returns c known =
    let us : List Unit91 = c.args.units.now.items in
    let u : Unit91 = c.in-Some.unit.now in
    let p : ℕ = c.args.self.now.passed in
    let within : p < length us = c.in-Some.ensures.item.3.0 in
    elim c.if-from-ge-CHANNELS.branch [
      | then-from-ge-CHANNELS+else-not-is_held+in-Ok w ↦
          subst (λ (a : Above). ArePassed us (a.passed + 1) a.channels) (sym w.self-is)
          (passed_more us p u c.args.self.now.channels w.insert.new.self within c.in-Some.ensures.lookup
          (λ at. or_cases (waits_for_all u) (list_any (is_on (channel_of u)) (take p us))
          (ap (λ (b : Bool). waits_for_all u || b) (sym (known.2 (channel_of u) (omega (arith, at)))) ∙ sym w.is_held.ensures ∙ w.if-not-is_held.false))
          (λ n le. w.in-Ok.ensures.updates.0 n ∙ one_put c.channel_of-channel.result n (contains nat_cmp c.args.self.now.channels n)
          ∙ ap (λ (k : ℕ). contains nat_cmp c.args.self.now.channels n || k == n) c.channel_of-channel.ensures) known)
      | else-from-ge-CHANNELS w ↦
          subst (λ (a : Above). ArePassed us (a.passed + 1) a.channels) (sym w.self-is)
          (passed_more us p u c.args.self.now.channels c.args.self.now.channels within c.in-Some.ensures.lookup
          (λ at. absurd (omega (arith, at, w.if-from-ge-CHANNELS.false, c.from.ensures, c.channel_of-channel.ensures)))
          (λ n le. none_more c.args.self.now.channels u n (omega (arith, w.if-from-ge-CHANNELS.false, c.from.ensures, c.channel_of-channel.ensures)) le) known)
    ]
