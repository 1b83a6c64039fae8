-- The beginning of a turn: the clock, and an accept where another pair may be.
use Rattle.std.proofs.Common.{◌≡◌, ℕ, suc, ◌+◌, nat_lt, Bool, true, false, ◌&&◌, if◌then◌else◌}
use Rattle.std.proofs.Common.{List, [], ◌∷◌, length, Option, Result, Ok, Err, refl, sym, ap, ◌∙◌}
use Rattle.std.proofs.Common.{subst}
use Rattle.gate_outside.specs.declared.log.LogEntry.{LogEntry}
use Rattle.gate_relay.specs.Entries.{Entry}
use Rattle.gate_relay.specs.RelayWords.{RelayWords}
use Rattle.gate_runs.specs.declared.limits.Limits.{Limits}
use Rattle.gate_runs.specs.declared.served.Outside.{Outside}
use Rattle.gate_runs.specs.declared.served.Served.TheVariants.{Fault}
use Rattle.gate_runs.specs.Marks.{History, Extends}
use Rattle.gate_runs.specs.Next.{AskAccept, ClockRead, Do, Point, accepted_count, ahead, live_pairs}
use Rattle.gate_runs.specs.Next.{may_accept, most_live, next, pair_limit, round}
use Rattle.gate_turns.specs.declared.live.Live.{Live}
use Rattle.gate_turns.specs.declared.tally.SinkFault.{SinkFault}
use Rattle.gate_turns.specs.Openings.{AtClockRead, ClockEffect, OpenEffect, ReachesClock}
use Rattle.gate_turns.specs.Openings.{WelcomeEffect}
use Rattle.gate_turns.specs.Parts.{is_inside, outside_of}
use Rattle.gate_turns.specs.Rounds.{AtEnd, RunContext, RunState, numbers, numbers_from, with_turns}
use Rattle.gate_turns.proofs.AcceptMarks.{none_had}
use Rattle.gate_turns.proofs.Extending.{extends_map, extends_then}

length-numbers : {A : Type 0} (bs : List (Live A)) → length (numbers bs) ≡ length bs
length-numbers {A} [] = refl
length-numbers {A} (b ∷ bs) = ap suc (length-numbers bs)

-- the test of the code
abbrev pub may_be_more : {A : Type 0} → Limits → RunState A → Bool
may_be_more c t = nat_lt (length t.live) most_live && nat_lt t.accepted (pair_limit c)

-- is that of the rules
comes_after : {A : Type 0} (w : RelayWords) (r : A → List Entry → Type 0) (c : Limits) (room : Bool) (x : RunContext) (t : RunState A) (n : History) → room ≡ may_be_more c t
    → x.limits ≡ c → AtClockRead w r x t n → next w x.limits n ≡ (if room then Do AskAccept else round w x.limits n (live_pairs n))
comes_after {A} w r c room x t n is same a =
    let may : may_accept x.limits n ≡ room =
    ap (λ (k : ℕ). nat_lt k most_live && nat_lt (accepted_count n) (pair_limit x.limits)) (ap length a.agrees.live ∙ length-numbers t.live)
    ∙ ap (λ (k : ℕ). nat_lt (length t.live) most_live && nat_lt k (pair_limit x.limits)) a.agrees.accepts
    ∙ ap (λ (l : Limits). may_be_more l t) same ∙ sym is in
    ap (λ (y : Point). ahead w x.limits n y) a.at.here ∙ ap (λ (b : Bool). if b then Do AskAccept else round w x.limits n (live_pairs n)) may

-- no other pair may be
pub opens_full : {A : Type 0} (w : RelayWords) (r : A → List Entry → Type 0) (c : Limits) (room : Bool) (first : Result ℕ SinkFault) (ms : ℕ) (old new : RunState A) (a b : Option (List LogEntry))
    → first ≡ Ok ms → room ≡ may_be_more c new → room ≡ false → Extends a b (ClockEffect w r first old new) → Extends a b (OpenEffect w r c (Ok tt) old new)
opens_full {A} w r c room first ms old new a b is_ok is full f =
    extends_map a b (ClockEffect w r first old new) _ f (λ m n y. record {
      goes = λ x same i.
          let z : RunContext = with_turns (x.turns + 1) x in
          let j : AtClockRead w r z new n = subst (λ (o : Result ℕ SinkFault). ReachesClock w r o z new n) is_ok (y.goes x i) in
          record {
            at = record {
              coming = comes_after w r c room z new n is same j
                  ∙ ap (λ (t : Bool). if t then Do AskAccept else round w x.limits n (live_pairs n)) full ∙ ap (λ (ps : List ℕ). round w x.limits n ps) j.agrees.live;
              fresh = none_had ClockRead (λ q. refl) (numbers_from 0 new.live) n j.at.here;
              inside = ap is_inside j.at.here;
              follows = j.at.follows;
            };
            agrees = j.agrees;
            told = j.told;
            kept = j.kept;
          };
    })

-- another pair may be
pub opens_room : {A : Type 0} (w : RelayWords) (r : A → List Entry → Type 0) (c : Limits) (room : Bool) (first : Result ℕ SinkFault) (ms : ℕ) (result : Result (Unit {0}) Outside)
    (old mid new : RunState A) (a b d : Option (List LogEntry)) → first ≡ Ok ms → room ≡ may_be_more c mid → room ≡ true
    → Extends a b (ClockEffect w r first old mid) → Extends b d (WelcomeEffect w r result mid new) → Extends a d (OpenEffect w r c result old new)
opens_room {A} w r c room first ms result old mid new a b d is_ok is fits f g =
    extends_then a b d (ClockEffect w r first old mid) (WelcomeEffect w r result mid new) _ f g (λ m n k y v. record {
      goes = λ x same i.
          let z : RunContext = with_turns (x.turns + 1) x in
          let j : AtClockRead w r z mid n = subst (λ (o : Result ℕ SinkFault). ReachesClock w r o z mid n) is_ok (y.goes x i) in
          v.goes z (record {
            at = record {
              coming = comes_after w r c room z mid n is same j ∙ ap (λ (t : Bool). if t then Do AskAccept else round w x.limits n (live_pairs n)) fits;
              follows = j.at.follows;
              now = j.at.now;
            };
            agrees = j.agrees;
            told = j.told;
            kept = j.kept;
          });
    })

-- a sink failed
pub opens_stop : {A : Type 0} (w : RelayWords) (r : A → List Entry → Type 0) (c : Limits) (first : Result ℕ SinkFault) (fault : SinkFault) (outside : Outside) (old new : RunState A)
    (a b : Option (List LogEntry)) → first ≡ Err fault → outside ≡ outside_of fault → Extends a b (ClockEffect w r first old new) → Extends a b (OpenEffect w r c (Err outside) old new)
opens_stop {A} w r c first fault outside old new a b is_err is f =
    extends_map a b (ClockEffect w r first old new) _ f (λ m n y. record {
      goes = λ x same i.
          let z : RunContext = with_turns (x.turns + 1) x in
          subst (λ (o : Outside). AtEnd w r (Fault o) z new n) (sym is) (subst (λ (o : Result ℕ SinkFault). ReachesClock w r o z new n) is_err (y.goes x i));
    })
