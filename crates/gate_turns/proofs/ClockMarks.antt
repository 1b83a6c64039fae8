-- The clock is read at the beginning of a turn.
use Rattle.std.proofs.Common.{◌≡◌, ℕ, ◌+◌, ◌≤◌, Bool, List, ◌∷◌, Option, Result, Ok, Err, refl, sym}
use Rattle.std.proofs.Common.{ap, ◌∙◌, subst, arith}
use Rattle.std.specs.List.{AllByRecursion}
use Rattle.gate_outside.specs.declared.ports.End.{End}
use Rattle.gate_outside.specs.declared.log.LogEntry.{LogEntry}
use Rattle.gate_outside.specs.declared.log.LogEntry.TheVariants.{Now}
use Rattle.gate_outside.specs.History.{Tells}
use Rattle.gate_relay.specs.Entries.{Entry, Moment}
use Rattle.gate_relay.specs.RelayWords.{RelayWords}
use Rattle.gate_runs.specs.Marks.{History, Call, Extends, calls}
use Rattle.gate_runs.specs.Next.{live_pairs}
use Rattle.gate_runs.specs.Report.{lines_of, report}
use Rattle.gate_runs.specs.Serving.{Follows}
use Rattle.gate_turns.specs.declared.live.Live.{Live}
use Rattle.gate_turns.specs.declared.service.Service.{Service}
use Rattle.gate_turns.specs.declared.tally.SinkFault.{SinkFault}
use Rattle.gate_turns.specs.declared.tally.Tally.{Tally}
use Rattle.gate_turns.specs.Openings.{ClockEffect, ClockIsRead, HaveEntry, ReachesClock}
use Rattle.gate_turns.specs.Openings.{numbered_sides}
use Rattle.gate_turns.specs.Parts.{KeptBy, TellsBy, begun, both}
use Rattle.gate_turns.specs.Rounds.{AtClock, Holds, IsIn, OwnsEnds, RunAgrees, RunContext, RunState}
use Rattle.gate_turns.specs.Rounds.{numbers, with_turns}
use Rattle.gate_turns.proofs.EachPair.{each_in, numbers_kept, owns_told}
use Rattle.gate_turns.proofs.Extending.{extends_call}
use Rattle.gate_turns.proofs.Reporting.{keeps_both, tells_both}
use Rattle.gate_turns.proofs.RunReaching.{ReachesPlace, run_reaches}

-- the ports' open ends are those of the live pairs still
pub holds_clock : {A : Type 0} (old new : Service A) (pairs pairs' : ℕ) (ends ends' : List (ℕ × End)) → pairs' ≡ pairs → ends' ≡ ends → new.accepted ≡ old.accepted
    → numbered_sides new.live.items ≡ numbered_sides old.live.items → Holds old pairs ends → Holds new pairs' ends'
holds_clock {A} old new pairs pairs' ends ends' same_pairs same_ends same kept h = rw (same_pairs, same_ends) (record {
  accepts = same ∙ h.accepts;
  owns = owns_told old.live.items new.live.items pairs ends kept h.owns;
})

abbrev pub clock_result : Result (Unit {0}) SinkFault → ℕ → Result ℕ SinkFault
clock_result (Ok done) ms = Ok ms
clock_result (Err fault) ms = Err fault

reaches_clock : {A : Type 0} (w : RelayWords) (r : A → List Entry → Type 0) (result : Result (Unit {0}) SinkFault) (ms : ℕ) (x : RunContext) (t : RunState A) (n : History)
    → ReachesPlace w r (ClockIsRead w x.limits t.moment n) result x t n → ReachesClock w r (clock_result result ms) x t n
reaches_clock {A} w r (Ok done) ms x t n a = a
reaches_clock {A} w r (Err fault) ms x t n a = a

clock_agrees : {A : Type 0} (r : A → List Entry → Type 0) (ms pairs : ℕ) (ends : List (ℕ × End)) (x : RunContext) (old new : RunState A) (m : History)
    → HaveEntry r (Moment ms) old.live new.live → OwnsEnds old.live pairs ends → new.accepted ≡ old.accepted → new.tally ≡ begun old.tally → new.moment ≡ ms
    → RunAgrees r x old m → RunAgrees r (with_turns (x.turns + 1) x) new (Call (Now ms) ∷ m)
clock_agrees {A} r ms pairs ends x old new m have owns same begins last a = record {
  each = each_in r (Moment ms) pairs ends m (Call (Now ms) ∷ m) old.live new.live (λ p. refl) have owns.each a.each;
  live = a.live ∙ sym (numbers_kept r (Moment ms) old.live new.live have);
  accepts = a.accepts ∙ sym same;
  turn = ap (λ (k : ℕ). k + 1) a.turn;
  time = omega (arith, last);
  motion = ap (λ (t : Tally). t.moved) (sym begins);
  count = a.count ∙ ap (λ (t : Tally). t.out_of_memory) (sym begins);
  finish = a.finish;
}

pub clock_log : {A : Type 0} (w : RelayWords) (r : A → List Entry → Type 0) (ms pairs : ℕ) (ends : List (ℕ × End)) (told : Result (Unit {0}) SinkFault) (keeps : Bool) (result : Result ℕ SinkFault)
    (listed : List (Live A)) (old new : RunState A) (a b : Option (List LogEntry)) → HaveEntry r (Moment ms) old.live new.live → OwnsEnds old.live pairs ends
    → new.accepted ≡ old.accepted → new.tally ≡ begun old.tally → old.moment ≤ ms → new.moment ≡ ms → new.live ≡ listed
    → ((n : History) → AllByRecursion (IsIn r n) listed → TellsBy told old.held new.held (lines_of w (numbers listed) n))
    → result ≡ clock_result (both told keeps) ms → KeptBy keeps old.kept new.kept (Now ms) → Tells a b (Now ms) → Extends a b (ClockEffect w r result old new)
clock_log {A} w r ms pairs ends told keeps result listed old new a b have owns same begins le last whole tells is keep log =
    extends_call a b (Now ms) _ log (λ m. rw is (record { goes = λ x i. go m x i }))
  where
    go : (m : History) (x : RunContext) → AtClock w r x old m → ReachesClock w r (clock_result (both told keeps) ms) (with_turns (x.turns + 1) x) new (Call (Now ms) ∷ m)
    go m x i =
        let n : History = Call (Now ms) ∷ m in
        let agrees : RunAgrees r (with_turns (x.turns + 1) x) new n = clock_agrees r ms pairs ends x old new m have owns same begins last i.agrees in
        let follows : Follows w x.limits n = (i.at.coming, omega (arith, i.agrees.time, le), i.at.follows) in
        reaches_clock w r (both told keeps) ms (with_turns (x.turns + 1) x) new n
        (run_reaches w r (ClockIsRead w x.limits new.moment n) (both told keeps) (with_turns (x.turns + 1) x) new old.held n (report w m) (lines_of w (live_pairs m) n)
        (record { here = refl; follows = follows; now = sym last }) refl follows agrees refl i.told
        (subst (λ (ps : List ℕ). TellsBy (both told keeps) old.held new.held (lines_of w ps n)) (sym (agrees.live ∙ ap numbers whole))
        (tells_both told keeps old.held new.held _ (tells n (subst (λ (xs : List (Live A)). AllByRecursion (IsIn r n) xs) whole agrees.each)))) tt
        (keeps_both told keeps x.kept old.kept new.kept (calls m) (Now ms) i.kept keep))
