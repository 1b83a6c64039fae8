-- The end of a turn, turn after turn, and a run from its beginning.
use Rattle.std.proofs.Common.{◌≡◌, ℕ, ◌+◌, ◌<◌, ◌≤◌, ◌==◌, ◌&&◌, Bool, true, false, if◌then◌else◌}
use Rattle.std.proofs.Common.{List, [], ◌∷◌, ◌++◌, Option, None, Some, Result, Ok, Err, IfSome}
use Rattle.std.proofs.Common.{refl, sym, ap, ◌∙◌, subst, arith, unwrap_or}
use Rattle.std.proofs.lemmas.Bool.Decides.{nat_tests}
use Rattle.gate_outside.specs.declared.log.LogEntry.{LogEntry}
use Rattle.gate_outside.specs.declared.log.LogEntry.TheVariants.{Idle}
use Rattle.gate_outside.specs.declared.ports.End.{End}
use Rattle.gate_outside.specs.declared.ports.Next.{Next}
use Rattle.gate_outside.specs.declared.ports.Next.TheVariants.{Go, Stop}
use Rattle.gate_outside.specs.Ends.{is_open}
use Rattle.gate_outside.specs.History.{Tells}
use Rattle.gate_relay.specs.Entries.{Entry, is_empty}
use Rattle.gate_relay.specs.RelayWords.{RelayWords}
use Rattle.gate_runs.specs.declared.limits.Limits.{Limits}
use Rattle.gate_runs.specs.declared.served.Outside.{Outside}
use Rattle.gate_runs.specs.declared.served.Outside.TheVariants as outside
use Rattle.gate_runs.specs.declared.served.Served.{Served}
use Rattle.gate_runs.specs.declared.served.Served.TheVariants.{Stopped, PairsDone, TurnLimit, Fault}
use Rattle.gate_runs.specs.Form.{IsInForm}
use Rattle.gate_runs.specs.Marks.{History, Call, Extends, HasHistory, calls}
use Rattle.gate_runs.specs.Next.{Do, EndBy, AskIdle, AskNow, begin, is_done, live_pairs, next}
use Rattle.gate_runs.specs.Next.{pair_limit, point, turns_begun}
use Rattle.gate_runs.specs.Report.{report}
use Rattle.gate_runs.specs.Serving.{IsServed, Follows, HoldsReport, is_ended}
use Rattle.gate_turns.specs.declared.live.Live.{Live}
use Rattle.gate_turns.specs.declared.service.Service.{Service}
use Rattle.gate_turns.specs.declared.tally.SinkFault.{SinkFault}
use Rattle.gate_turns.specs.Endings.{AtTurn, CloseEffect, ConcludeEffect, ReachesTurn, RunEffect}
use Rattle.gate_turns.specs.Endings.{TurnEffect, end_of}
use Rattle.gate_turns.specs.Openings.{OpenEffect, ReachesRound}
use Rattle.gate_turns.specs.Parts.{KeptBy, outside_of}
use Rattle.gate_turns.specs.Rounds.{AtClock, AtEnd, AtRest, Holds, InRun, ReachesRest, RoundEffect}
use Rattle.gate_turns.specs.Rounds.{RunAgrees, RunContext, RunState, numbers, with_turns}
use Rattle.gate_turns.proofs.Extending.{extends_call, extends_map, extends_none, extends_then}
use Rattle.gate_turns.proofs.Extending.{history_extends}
use Rattle.gate_turns.proofs.Fronts.{appends_none}
use Rattle.gate_turns.proofs.Reaching.{inside_open}
use Rattle.gate_turns.proofs.Reporting.{holds_more, keeps_both}

-- ---- the end of a turn

none_empty : {A : Type 0} (bs : List (Live A)) → is_empty (numbers bs) ≡ is_empty bs
none_empty {A} [] = refl
none_empty {A} (b ∷ bs) = refl

-- the test of the code is that of the rules
pub done_is : {A : Type 0} (r : A → List Entry → Type 0) (x : RunContext) (t : RunState A) (m : History) (c : Limits) → RunAgrees r x t m
    → is_done c m ≡ ((t.accepted == pair_limit c) && is_empty t.live)
done_is {A} r x t m c a =
    ap (λ (k : ℕ). (k == pair_limit c) && is_empty (live_pairs m)) a.accepts
    ∙ ap (λ (e : Bool). (t.accepted == pair_limit c) && e) (ap is_empty a.live ∙ none_empty t.live)

turn_ends : {A : Type 0} (w : RelayWords) (r : A → List Entry → Type 0) (x : RunContext) (t : RunState A) (m : History) (done : Bool) → is_done x.limits m ≡ done
    → InRun w r x (next w x.limits m ≡ begin x.limits m) t m → Follows w x.limits m → is_ended (point m) ≡ false → ReachesTurn w r (end_of done) x t m
turn_ends {A} w r x t m true is i follows open_still = record {
  ends = i.at ∙ ap (λ (b : Bool). if b then EndBy PairsDone else (if turns_begun m == x.limits.turns then EndBy TurnLimit else Do AskNow)) is;
  open_still = open_still;
  follows = follows;
  agrees = i.agrees;
  told = i.told;
  kept = i.kept;
}
turn_ends {A} w r x t m false is i follows open_still = record {
  at = record { coming = i.at; undone = is; open_still = open_still; follows = follows };
  agrees = i.agrees;
  told = i.told;
  kept = i.kept;
}

-- something moved
moved_on : {A : Type 0} (w : RelayWords) (r : A → List Entry → Type 0) (x : RunContext) (t : RunState A) (m : History) → t.tally.moved ≡ true → AtRest w r x t m
    → InRun w r x (next w x.limits m ≡ begin x.limits m) t m
moved_on {A} w r x t m moved a = record {
  at = a.at.coming ∙ ap (λ (b : Bool). if b then begin x.limits m else Do AskIdle) (a.agrees.motion ∙ moved);
  agrees = a.agrees;
  told = a.told;
  kept = a.kept;
}

pub close_moved : {A : Type 0} (w : RelayWords) (r : A → List Entry → Type 0) (c : Limits) (result : Result (Unit {0}) Served) (t : RunState A) (a : Option (List LogEntry))
    → t.tally.moved ≡ true → result ≡ end_of ((t.accepted == pair_limit c) && is_empty t.live) → Extends a a (CloseEffect w r c result t t)
close_moved {A} w r c result t a moved is = rw is (extends_none a _ (λ m. record {
  goes = λ x e i. turn_ends w r x t m _ (done_is r x t m x.limits i.agrees ∙ ap (λ (l : Limits). (t.accepted == pair_limit l) && is_empty t.live) e)
      (moved_on w r x t m moved i) i.at.follows (inside_open (point m) i.at.inside);
}))

-- nothing moved, and the service was idle
idle_agrees : {A : Type 0} (r : A → List Entry → Type 0) (x : RunContext) (t : RunState A) (kept : Option (List ℕ)) (answer : Next) (m : History) → RunAgrees r x t m
    → RunAgrees r x (record { live = t.live; accepted = t.accepted; tally = t.tally; moment = t.moment; held = t.held; kept = kept }) (Call (Idle answer) ∷ m)
idle_agrees {A} r x t kept answer m a = record {
  each = a.each;
  live = a.live;
  accepts = a.accepts;
  turn = a.turn;
  time = a.time;
  motion = a.motion;
  count = a.count;
  finish = a.finish;
}

idle_comes : {A : Type 0} (w : RelayWords) (r : A → List Entry → Type 0) (x : RunContext) (t : RunState A) (m : History) → t.tally.moved ≡ false → AtRest w r x t m
    → next w x.limits m ≡ Do AskIdle
idle_comes {A} w r x t m still a = a.at.coming ∙ ap (λ (b : Bool). if b then begin x.limits m else Do AskIdle) (a.agrees.motion ∙ still)

idle_told : (w : RelayWords) (base held : Option (List ℕ)) (answer : Next) (m : History) → HoldsReport w base held m → HoldsReport w base held (Call (Idle answer) ∷ m)
idle_told w base held answer m h = holds_more w base held held (Call (Idle answer) ∷ m) (report w m) [] refl h (appends_none held)

-- how a turn ended after idle
abbrev pub end_idle : Bool → Next → Bool → Result (Unit {0}) Served
end_idle false answer done = Err (Fault outside.Capture)
end_idle true Stop done = Err Stopped
end_idle true Go done = end_of done

abbrev kept_state : {A : Type 0} → RunState A → Option (List ℕ) → RunState A
kept_state t kept = record { live = t.live; accepted = t.accepted; tally = t.tally; moment = t.moment; held = t.held; kept = kept }

idle_reaches : {A : Type 0} (w : RelayWords) (r : A → List Entry → Type 0) (keeps : Bool) (answer : Next) (x : RunContext) (t : RunState A) (kept : Option (List ℕ)) (m : History)
    → t.tally.moved ≡ false → KeptBy keeps t.kept kept (Idle answer) → AtRest w r x t m
    → ReachesTurn w r (end_idle keeps answer ((t.accepted == pair_limit x.limits) && is_empty t.live)) x (kept_state t kept) (Call (Idle answer) ∷ m)
idle_reaches {A} w r false answer x t kept m still keep i = record {
  ends = tt;
  open_still = after_idle answer;
  follows = (idle_comes w r x t m still i, tt, i.at.follows);
  agrees = idle_agrees r x t kept answer m i.agrees;
  told = idle_told w x.held t.held answer m i.told;
  kept = keeps_both (Ok tt) false x.kept t.kept kept (calls m) (Idle answer) i.kept keep;
}
  where
    after_idle : (answer : Next) → is_ended (point (Call (Idle answer) ∷ m)) ≡ false
    after_idle Go = refl
    after_idle Stop = refl
idle_reaches {A} w r true Stop x t kept m still keep i = record {
  ends = refl;
  open_still = refl;
  follows = (idle_comes w r x t m still i, tt, i.at.follows);
  agrees = idle_agrees r x t kept Stop m i.agrees;
  told = idle_told w x.held t.held Stop m i.told;
  kept = keeps_both (Ok tt) true x.kept t.kept kept (calls m) (Idle Stop) i.kept keep;
}
idle_reaches {A} w r true Go x t kept m still keep i =
    turn_ends w r x (kept_state t kept) (Call (Idle Go) ∷ m) _ (done_is r x (kept_state t kept) (Call (Idle Go) ∷ m) x.limits (idle_agrees r x t kept Go m i.agrees))
    (record {
      at = refl;
      agrees = idle_agrees r x t kept Go m i.agrees;
      told = idle_told w x.held t.held Go m i.told;
      kept = keeps_both (Ok tt) true x.kept t.kept kept (calls m) (Idle Go) i.kept keep;
    }) (idle_comes w r x t m still i, tt, i.at.follows) refl

pub close_idle : {A : Type 0} (w : RelayWords) (r : A → List Entry → Type 0) (c : Limits) (keeps : Bool) (answer : Next) (result : Result (Unit {0}) Served) (old new : RunState A) (kept : Option (List ℕ)) (a b : Option (List LogEntry))
    → old.tally.moved ≡ false → new ≡ kept_state old kept → KeptBy keeps old.kept kept (Idle answer) → result ≡ end_idle keeps answer ((old.accepted == pair_limit c) && is_empty old.live)
    → Tells a b (Idle answer) → Extends a b (CloseEffect w r c result old new)
close_idle {A} w r c keeps answer result old new kept a b still e keep is log = rw (is, e) (extends_call a b (Idle answer) _ log (λ m. record {
  goes = λ x l i. subst (λ (l : Limits). ReachesTurn w r (end_idle keeps answer ((old.accepted == pair_limit l) && is_empty old.live)) x (kept_state old kept) (Call (Idle answer) ∷ m)) l
      (idle_reaches w r keeps answer x old kept m still keep i);
}))

-- ---- a whole turn

pub turn_unopened : {A : Type 0} (w : RelayWords) (r : A → List Entry → Type 0) (c : Limits) (first : Result (Unit {0}) Outside) (outside : Outside) (old new : RunState A) (a b : Option (List LogEntry))
    → first ≡ Err outside → Extends a b (OpenEffect w r c first old new) → Extends a b (TurnEffect w r c (Err (Fault outside)) old new)
turn_unopened {A} w r c first outside old new a b is f =
    extends_map a b (OpenEffect w r c first old new) _ f
    (λ m n y. record { goes = λ x e i. subst (λ (o : Result (Unit {0}) Outside). ReachesRound w r o (with_turns (x.turns + 1) x) new n) is (y.goes x e i) })

-- the beginning, and the round
pub record HalfTurn {A : Type 0} (w : RelayWords) (r : A → List Entry → Type 0) (c : Limits) (result : Result (Unit {0}) SinkFault) (old new : RunState A) (m n : History) : Type 0 where
  pub goes : (x : RunContext) → x.limits ≡ c → AtClock w r x old m → ReachesRest w r result (with_turns (x.turns + 1) x) new n

pub turn_half : {A : Type 0} (w : RelayWords) (r : A → List Entry → Type 0) (c : Limits) (first : Result (Unit {0}) Outside) (result : Result (Unit {0}) SinkFault) (old mid new : RunState A) (a b d : Option (List LogEntry))
    → first ≡ Ok tt → Extends a b (OpenEffect w r c first old mid) → Extends b d (RoundEffect w r result mid new) → Extends a d (HalfTurn w r c result old new)
turn_half {A} w r c first result old mid new a b d is f g =
    extends_then a b d (OpenEffect w r c first old mid) (RoundEffect w r result mid new) _ f g
    (λ m n k y z. record { goes = λ x e i. z.goes (with_turns (x.turns + 1) x) (subst (λ (o : Result (Unit {0}) Outside). ReachesRound w r o (with_turns (x.turns + 1) x) mid n) is (y.goes x e i)) })

pub turn_halts : {A : Type 0} (w : RelayWords) (r : A → List Entry → Type 0) (c : Limits) (result : Result (Unit {0}) SinkFault) (fault : SinkFault) (outside : Outside) (old new : RunState A) (a b : Option (List LogEntry))
    → result ≡ Err fault → outside ≡ outside_of fault → Extends a b (HalfTurn w r c result old new) → Extends a b (TurnEffect w r c (Err (Fault outside)) old new)
turn_halts {A} w r c result fault outside old new a b is e f = rw e (
    extends_map a b (HalfTurn w r c result old new) _ f
    (λ m n y. record { goes = λ x l i. subst (λ (o : Result (Unit {0}) SinkFault). ReachesRest w r o (with_turns (x.turns + 1) x) new n) is (y.goes x l i) }))

pub turn_closes : {A : Type 0} (w : RelayWords) (r : A → List Entry → Type 0) (c : Limits) (first : Result (Unit {0}) SinkFault) (result : Result (Unit {0}) Served) (old mid new : RunState A) (a b d : Option (List LogEntry))
    → first ≡ Ok tt → Extends a b (HalfTurn w r c first old mid) → Extends b d (CloseEffect w r c result mid new) → Extends a d (TurnEffect w r c result old new)
turn_closes {A} w r c first result old mid new a b d is f g =
    extends_then a b d (HalfTurn w r c first old mid) (CloseEffect w r c result mid new) _ f g
    (λ m n k y z. record { goes = λ x l i. z.goes (with_turns (x.turns + 1) x) l (subst (λ (o : Result (Unit {0}) SinkFault). ReachesRest w r o (with_turns (x.turns + 1) x) mid n) is (y.goes x l i)) })

-- ---- turn after turn

-- so many turns
pub record TurnsEffect {A : Type 0} (w : RelayWords) (r : A → List Entry → Type 0) (c : Limits) (turns : ℕ) (old new : RunState A) (m n : History) : Type 0 where
  pub goes : (x : RunContext) → x.limits ≡ c → x.turns ≡ 0 → AtTurn w r x old m → AtTurn w r (with_turns turns x) new n

pub turns_none : {A : Type 0} (w : RelayWords) (r : A → List Entry → Type 0) (c : Limits) (t : RunState A) (a : Option (List LogEntry)) → Extends a a (TurnsEffect w r c 0 t t)
turns_none {A} w r c t a = extends_none a _ (λ m. record { goes = λ x e none i. subst (λ (k : ℕ). AtTurn w r (with_turns k x) t m) none i })

-- the clock comes while turns are left
to_clock : {A : Type 0} (w : RelayWords) (r : A → List Entry → Type 0) (x : RunContext) (t : RunState A) (m : History) → x.turns < x.limits.turns → AtTurn w r x t m → AtClock w r x t m
to_clock {A} w r x t m lt i =
    let not_all : (turns_begun m == x.limits.turns) ≡ false = grind (arith, nat_tests, i.agrees.turn, lt) in
    record {
      at = record {
        coming = i.at.coming ∙ ap (λ (b : Bool). if b then EndBy PairsDone else (if turns_begun m == x.limits.turns then EndBy TurnLimit else Do AskNow)) i.at.undone
            ∙ ap (λ (b : Bool). if b then EndBy TurnLimit else Do AskNow) not_all;
        follows = i.at.follows;
      };
      agrees = i.agrees;
      told = i.told;
      kept = i.kept;
    }

pub turns_more : {A : Type 0} (w : RelayWords) (r : A → List Entry → Type 0) (c : Limits) (turns : ℕ) (one : Result (Unit {0}) Served) (old mid new : RunState A) (a b d : Option (List LogEntry)) → turns < c.turns
    → one ≡ Ok tt → Extends a b (TurnsEffect w r c turns old mid) → Extends b d (TurnEffect w r c one mid new) → Extends a d (TurnsEffect w r c (turns + 1) old new)
turns_more {A} w r c turns one old mid new a b d lt is f g =
    extends_then a b d (TurnsEffect w r c turns old mid) (TurnEffect w r c one mid new) _ f g
    (λ m n k y z. record {
      goes = λ x e none i.
          subst (λ (o : Result (Unit {0}) Served). ReachesTurn w r o (with_turns (turns + 1) x) new k) is
          (z.goes (with_turns turns x) e (to_clock w r (with_turns turns x) mid n (subst (λ (l : Limits). turns < l.turns) (sym e) lt) (y.goes x e none i)));
    })

pub run_stops : {A : Type 0} (w : RelayWords) (r : A → List Entry → Type 0) (c : Limits) (turns : ℕ) (one : Result (Unit {0}) Served) (how : Served) (old mid new : RunState A) (a b d : Option (List LogEntry)) → turns < c.turns
    → one ≡ Err how → Extends a b (TurnsEffect w r c turns old mid) → Extends b d (TurnEffect w r c one mid new) → Extends a d (RunEffect w r c how old new)
run_stops {A} w r c turns one how old mid new a b d lt is f g =
    extends_then a b d (TurnsEffect w r c turns old mid) (TurnEffect w r c one mid new) _ f g
    (λ m n k y z. record {
      turns = turns + 1;
      goes = λ x e none i.
          subst (λ (o : Result (Unit {0}) Served). ReachesTurn w r o (with_turns (turns + 1) x) new k) is
          (z.goes (with_turns turns x) e (to_clock w r (with_turns turns x) mid n (subst (λ (l : Limits). turns < l.turns) (sym e) lt) (y.goes x e none i)));
    })

-- all turns were made
to_limit : {A : Type 0} (w : RelayWords) (r : A → List Entry → Type 0) (x : RunContext) (t : RunState A) (m : History) → x.turns ≡ x.limits.turns → AtTurn w r x t m → AtEnd w r TurnLimit x t m
to_limit {A} w r x t m all i =
    let last : (turns_begun m == x.limits.turns) ≡ true = grind (arith, nat_tests, i.agrees.turn, all) in
    record {
      ends = i.at.coming ∙ ap (λ (b : Bool). if b then EndBy PairsDone else (if turns_begun m == x.limits.turns then EndBy TurnLimit else Do AskNow)) i.at.undone
          ∙ ap (λ (b : Bool). if b then EndBy TurnLimit else Do AskNow) last;
      open_still = i.at.open_still;
      follows = i.at.follows;
      agrees = i.agrees;
      told = i.told;
      kept = i.kept;
    }

pub run_limit : {A : Type 0} (w : RelayWords) (r : A → List Entry → Type 0) (c : Limits) (turns : ℕ) (old new : RunState A) (a b : Option (List LogEntry)) → turns ≡ c.turns
    → Extends a b (TurnsEffect w r c turns old new) → Extends a b (RunEffect w r c TurnLimit old new)
run_limit {A} w r c turns old new a b all f =
    extends_map a b (TurnsEffect w r c turns old new) _ f
    (λ m n y. record {
      turns = turns;
      goes = λ x e none i. to_limit w r (with_turns turns x) new n (subst (λ (l : Limits). turns ≡ l.turns) (sym e) all) (y.goes x e none i);
    })

-- ---- from the beginning

pub holds_none : {A : Type 0} (s : Service A) (pairs : ℕ) (ends : List (ℕ × End)) → s.live.items ≡ [] → s.accepted ≡ 0 → pairs ≡ 0 → ends ≡ [] → Holds s pairs ends
holds_none {A} s pairs ends live accepted none shut = record {
  accepts = accepted ∙ sym none;
  owns = record {
    rising = rw live tt;
    each = rw live tt;
    only = λ p e h. ap (λ (xs : List (ℕ × End)). is_open p e xs) shut;
  };
}

some_undone : (w : RelayWords) (c : Limits) → IsInForm c → (0 == pair_limit c) ≡ false
some_undone w c form = by c.pairs refl
  where
    by : (pairs : Option ℕ) → c.pairs ≡ pairs → (0 == pair_limit c) ≡ false
    by None e = ap (λ (o : Option ℕ). 0 == unwrap_or o 4294967295) e
    by (Some n) e =
        let some : 1 ≤ n = subst (λ (o : Option ℕ). IfSome o (λ n. 1 ≤ n)) e form.pairs in
        let no : (0 == n) ≡ false = grind (arith, nat_tests, some) in
        ap (λ (o : Option ℕ). 0 == unwrap_or o 4294967295) e ∙ no

-- nothing was called yet
turn_first : {A : Type 0} (w : RelayWords) (r : A → List Entry → Type 0) (c : Limits) (held kept : Option (List ℕ)) (t : RunState A) → IsInForm c → t.live ≡ [] → t.accepted ≡ 0
    → t.tally ≡ record { moved = false; out_of_memory = 0 } → t.held ≡ held → t.kept ≡ kept
    → AtTurn w r (record { limits = c; turns = 0; held = held; kept = kept }) t []
turn_first {A} w r c held kept t form live accepted tally is_held is_kept = record {
  at = record { coming = refl; undone = ap (λ (b : Bool). b && true) (some_undone w c form); open_still = refl; follows = tt };
  agrees = record {
    each = rw live tt;
    live = rw live refl;
    accepts = sym accepted;
    turn = refl;
    time = omega arith;
    motion = rw tally refl;
    count = rw tally refl;
    finish = refl;
  };
  told = rw is_held (appends_none held);
  kept = rw is_kept (appends_none kept);
}

-- a run, and its end
pub run_served : {A : Type 0} (w : RelayWords) (r : A → List Entry → Type 0) (c : Limits) (why answer : Served) (count : ℕ) (held held' kept kept' : Option (List ℕ)) (first last : RunState A) (base : List LogEntry) (a b d : Option (List LogEntry))
    → IsInForm c → first.live ≡ [] → first.accepted ≡ 0 → first.tally ≡ record { moved = false; out_of_memory = 0 } → first.held ≡ held → first.kept ≡ kept
    → last.tally.out_of_memory ≡ count → a ≡ Some base → Extends a b (RunEffect w r c why first last) → Extends b d (ConcludeEffect w r why answer last held' kept')
    → HasHistory base d (IsServed w c answer count held held' kept kept')
run_served {A} w r c why answer count held held' kept kept' first last base a b d form live accepted tally is_held is_kept is_count told f g =
    history_extends base a d Through _
    (extends_then a b d (RunEffect w r c why first last) (ConcludeEffect w r why answer last held' kept') Through f g (λ m n k y z. (n, y, z))) told
    (λ k t. subst (λ (i : ℕ). IsServed w c answer i held held' kept kept' k) is_count
    (t.2.goes (with_turns t.1.turns start) (t.1.goes start refl refl (turn_first w r c held kept first form live accepted tally is_held is_kept))))
  where
    start : RunContext
    start = record { limits = c; turns = 0; held = held; kept = kept }

    Through : History → History → Type 0
    Through m k = (n : History) × RunEffect w r c why first last m n × ConcludeEffect w r why answer last held' kept' n k

-- a history without calls
pub told_at_once : (base : List LogEntry) (a : Option (List LogEntry)) (m : History) (P : History → Type 0) → a ≡ Some base → calls m ≡ [] → P m → HasHistory base a P
told_at_once base None m P e none p = absurd cc
told_at_once base (Some log) m P e none p =
    let same : log ≡ base = cc in (m, same ∙ ap (λ (xs : List LogEntry). xs ++ base) (sym none), p)
