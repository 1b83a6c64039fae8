-- The shuts of a pair's ends.
use Rattle.std.proofs.Common.{◌≡◌, ℕ, Bool, true, false, ◌||◌, ◌&&◌, List, ◌∷◌, ◌++◌, Option}
use Rattle.std.proofs.Common.{Result, Ok, Err, refl, sym, ap, ◌∙◌, subst}
use Rattle.std.proofs.lemmas.Bool.{or_parts}
use Rattle.gate_outside.specs.declared.ports.End.{End}
use Rattle.gate_outside.specs.declared.ports.End.TheVariants.{Client, Up}
use Rattle.gate_outside.specs.declared.log.LogEntry.{LogEntry}
use Rattle.gate_outside.specs.declared.log.LogEntry.TheVariants.{Shut}
use Rattle.gate_outside.specs.History.{Tells}
use Rattle.gate_outside.specs.Streams.{Appends}
use Rattle.gate_relay.specs.declared.loss.Loss.TheVariants as loss
use Rattle.gate_relay.specs.declared.sides.Sides.{Sides}
use Rattle.gate_relay.specs.Entries.{Entry, Lost}
use Rattle.gate_relay.specs.Guards.{shuts}
use Rattle.gate_relay.specs.RelayWords.{RelayWords}
use Rattle.gate_relay.specs.Sides.{sides, has_end, is_open_side, side_of}
use Rattle.gate_runs.specs.Journal.{journal}
use Rattle.gate_runs.specs.Marks.{History, Call, Extends, calls}
use Rattle.gate_runs.specs.Next.{Point, BetweenTurns, ClockRead, BeforePairs, Refusing, InPair}
use Rattle.gate_runs.specs.Next.{Ending, Ended, point, Do, AskShut, where_due, unless_gone}
use Rattle.gate_runs.specs.Next.{live_pairs}
use Rattle.gate_runs.specs.Report.{report, shut_lines, closed_lines}
use Rattle.gate_runs.specs.Serving.{IsCallLast}
use Rattle.gate_runs.specs.Stages.{Stage, Shutting, Past, later}
use Rattle.gate_turns.specs.declared.live.Live.{Live}
use Rattle.gate_turns.specs.declared.tally.SinkFault.{SinkFault}
use Rattle.gate_turns.specs.declared.tally.SinkFault.TheVariants.{Out, Capture}
use Rattle.gate_turns.specs.declared.tally.Tally.{Tally}
use Rattle.gate_turns.specs.Represents.{Represents}
use Rattle.gate_turns.specs.Parts.{AtStage, PartContext, PartState, PartAgrees, InStage, InShutting}
use Rattle.gate_turns.specs.Parts.{ReachesShut, ShutEffect, PartEffect, Reaches, TellsBy, KeptBy}
use Rattle.gate_turns.specs.Parts.{both, is_inside, noted, state}
use Rattle.gate_turns.proofs.Extending.{extends_call, extends_map, extends_none, extends_then}
use Rattle.gate_turns.proofs.OneMark.{if_same, if_not_mine}
use Rattle.gate_turns.proofs.Reaching.{inside_open}
use Rattle.gate_turns.proofs.Reporting.{HasLines, holds_by, ends_by, keeps_both, tells_both}
use Rattle.gate_turns.proofs.Reporting.{KeepsAfter}
use Rattle.gate_turns.proofs.Stages.{at_pass, at_call, shut_inside, beyond-gone}

-- a pair reaches a stage, with an end or with none
pub reaches_shut : {A : Type 0} (w : RelayWords) (r : A → List Entry → Type 0) (x : PartContext) (result : Result (Unit {0}) SinkFault) (to : Stage) (t : PartState A)
    (held : Option (List ℕ)) (n : History) (before lines : List ℕ) → AtStage w x.limits x.pair to x.behind n → PartAgrees r x t n
    → HasLines w n before lines → Appends x.held held before → TellsBy result held t.held lines → IsCallLast n → KeepsAfter result x.kept t.kept (calls n)
    → ReachesShut w r x result to t n
reaches_shut {A} w r x (Ok done) to t held n before lines at agrees e p told last kept = record {
  at = at;
  agrees = agrees;
  told = holds_by w (Ok done) x.held held t.held n before lines e p told;
  kept = kept;
}
reaches_shut {A} w r x (Err Out) to t held n before lines at agrees e p told last kept = record {
  follows = at.follows;
  open_still = inside_open (point n) at.inside;
  ends = ends_by w x.limits Out n before lines held t.held e last told;
  agrees = agrees;
  told = holds_by w (Err Out) x.held held t.held n before lines e p told;
  kept = kept;
}
reaches_shut {A} w r x (Err Capture) to t held n before lines at agrees e p told last kept = record {
  follows = at.follows;
  open_still = inside_open (point n) at.inside;
  ends = ends_by w x.limits Capture n before lines held t.held e last told;
  agrees = agrees;
  told = holds_by w (Err Capture) x.held held t.held n before lines e p told;
  kept = kept;
}

inside_lines : (w : RelayWords) (p : ℕ) (y : Point) (h : List Entry) → is_inside y ≡ true → shut_lines w p y h ≡ w.lines h ++ closed_lines p (has_end (sides h))
inside_lines w p BetweenTurns h e = absurd cc
inside_lines w p ClockRead h e = refl
inside_lines w p BeforePairs h e = refl
inside_lines w p (Refusing q) h e = absurd cc
inside_lines w p (InPair q s) h e = refl
inside_lines w p (Ending how) h e = absurd cc
inside_lines w p Ended h e = absurd cc

shut_has : (w : RelayWords) (p : ℕ) (end : End) (m : History) → is_inside (point m) ≡ true
    → HasLines w (Call (Shut p end) ∷ m) (report w m) (w.lines (journal p (Call (Shut p end) ∷ m)) ++ closed_lines p (has_end (sides (journal p (Call (Shut p end) ∷ m)))))
shut_has w p end m e = ap (λ (l : List ℕ). record { before = report w m; newest = l }) (inside_lines w p (point m) (journal p (Call (Shut p end) ∷ m)) e)

or_true : (b : Bool) → (b || true) ≡ true
or_true true = refl
or_true false = refl

shut_agrees : {A : Type 0} (r : A → List Entry → Type 0) (x : PartContext) (end : End) (old new : Live A) (tally : Tally)
    (held held' kept kept' : Option (List ℕ)) (m : History) → new.number ≡ old.number → has_end old.sides ≡ true
    → ((h : List Entry) → Represents r old h → Represents r new (Lost end loss.Shut ∷ h))
    → PartAgrees r x (state old tally held kept) m → PartAgrees r x (state new (noted true false tally) held' kept') (Call (Shut x.pair end) ∷ m)
shut_agrees {A} r x end old new tally held held' kept kept' m number has keeps a =
    let mine : journal x.pair (Call (Shut x.pair end) ∷ m) ≡ Lost end loss.Shut ∷ journal x.pair m = if_same x.pair _ _ in
    let stands : Represents r new (journal x.pair (Call (Shut x.pair end) ∷ m)) = subst (λ (h : List Entry). Represents r new h) (sym mine) (keeps (journal x.pair m) a.represents) in
    record {
      number = number ∙ a.number;
      represents = stands;
      others = λ q ne. if_not_mine x.pair q _ _ ne ∙ a.others q ne;
      live = ap (λ (s : Sides). unless_gone (has_end s) x.pair (live_pairs m)) (sym stands.sides)
          ∙ ap (λ (ps : List ℕ). unless_gone (has_end new.sides) x.pair ps) (a.live ∙ ap (λ (b : Bool). unless_gone b x.pair x.live) has);
      accepts = a.accepts;
      turn = a.turn;
      time = a.time;
      motion = sym (or_true tally.moved);
      count = a.count;
      finish = a.finish;
    }

pub shut_log : {A : Type 0} (w : RelayWords) (r : A → List Entry → Type 0) (end : End) (told result : Result (Unit {0}) SinkFault) (keeps : Bool)
    (old new : Live A) (tally tally' : Tally) (held held' kept kept' : Option (List ℕ)) (a b : Option (List LogEntry)) → tally' ≡ noted true false tally
    → new.number ≡ old.number → ((h : List Entry) → Represents r old h → true ≡ shuts w end h)
    → ((h : List Entry) → Represents r old h → Represents r new (Lost end loss.Shut ∷ h))
    → ((h : List Entry) → Represents r new h → TellsBy told held held' (w.lines h ++ closed_lines new.number (has_end new.sides)))
    → result ≡ both told keeps → KeptBy keeps kept kept' (Shut old.number end) → Tells a b (Shut old.number end)
    → Extends a b (ShutEffect w r (Shutting end) (later (Shutting end)) result (state old tally held kept) (state new tally' held' kept'))
shut_log {A} w r end told result keeps old new tally tally' held held' kept kept' a b is_noted number due entry tells is_both keep log =
    extends_call a b (Shut old.number end) _ log (λ m. rw (is_noted, is_both) (record { goes = λ x i. go m x i }))
  where
    go : (m : History) (x : PartContext) → InStage w r x (Shutting end) (state old tally held kept) m
        → ReachesShut w r x (both told keeps) (later (Shutting end)) (state new (noted true false tally) held' kept') (Call (Shut old.number end) ∷ m)
    go m x i =
        let n : History = Call (Shut x.pair end) ∷ m in
        let agrees : PartAgrees r x (state new (noted true false tally) held' kept') n = shut_agrees r x end old new tally held held' kept kept' m number i.has entry i.agrees in
        subst (λ (q : ℕ). ReachesShut w r x (both told keeps) (later (Shutting end)) (state new (noted true false tally) held' kept') (Call (Shut q end) ∷ m)) (sym i.agrees.number)
        (reaches_shut w r x (both told keeps) (later (Shutting end)) (state new (noted true false tally) held' kept') held n (report w m)
        (w.lines (journal x.pair n) ++ closed_lines x.pair (has_end (sides (journal x.pair n))))
        (at_call w x.limits x.pair (Shutting end) (later (Shutting end)) x.behind m (Shut x.pair end)
        (ap (λ (b : Bool). where_due b (Do (AskShut x.pair end))) (sym (due (journal x.pair m) i.agrees.represents))) tt
        (shut_inside x.pair end (point m) i.at.inside) (beyond-gone _ x.pair (live_pairs m)) i.at)
        agrees (shut_has w x.pair end m i.at.inside) i.told
        (subst (λ (s : Sides). TellsBy (both told keeps) held held' (w.lines (journal x.pair n) ++ closed_lines x.pair (has_end s))) agrees.represents.sides
        (subst (λ (q : ℕ). TellsBy (both told keeps) held held' (w.lines (journal x.pair n) ++ closed_lines q (has_end new.sides))) agrees.number
        (tells_both told keeps held held' _ (tells (journal x.pair n) agrees.represents)))) tt
        (keeps_both told keeps x.kept kept kept' (calls m) (Shut x.pair end) i.kept (subst (λ (q : ℕ). KeptBy keeps kept kept' (Shut q end)) i.agrees.number keep)))

-- an end isn't shut
pub stays_log : {A : Type 0} (w : RelayWords) (r : A → List Entry → Type 0) (end : End) (b : Live A) (tally : Tally) (held kept : Option (List ℕ)) (a : Option (List LogEntry))
    → ((h : List Entry) → Represents r b h → false ≡ shuts w end h)
    → Extends a a (ShutEffect w r (Shutting end) (later (Shutting end)) (Ok tt) (state b tally held kept) (state b tally held kept))
stays_log {A} w r end b tally held kept a isnt = extends_none a _ (λ m. record {
  goes = λ x i. record {
    at = at_pass w x.limits x.pair (Shutting end) x.behind m (ap (λ (t : Bool). where_due t (Do (AskShut x.pair end))) (sym (isnt (journal x.pair m) i.agrees.represents))) i.at;
    agrees = i.agrees;
    told = i.told;
    kept = i.kept;
  };
})

-- both ends, where one is left after the first
pub shut_then : {A : Type 0} (w : RelayWords) (r : A → List Entry → Type 0) (first result : Result (Unit {0}) SinkFault) (has : Bool) (old mid new : PartState A) (a b d : Option (List LogEntry))
    → first ≡ Ok tt → has ≡ true → has ≡ has_end mid.live.sides
    → Extends a b (ShutEffect w r (Shutting Up) (Shutting Client) first old mid) → Extends b d (ShutEffect w r (Shutting Client) Past result mid new)
    → Extends a d (ShutEffect w r (Shutting Up) Past result old new)
shut_then {A} w r first result has old mid new a b d is_ok left is_has f g =
    extends_then a b d (ShutEffect w r (Shutting Up) (Shutting Client) first old mid) (ShutEffect w r (Shutting Client) Past result mid new) _ f g
    (λ m n k y z. record {
      goes = λ x i.
          let j : InShutting w r x (Shutting Client) mid n = subst (λ (o : Result (Unit {0}) SinkFault). ReachesShut w r x o (Shutting Client) mid n) is_ok (y.goes x i) in
          z.goes x (record { at = j.at; has = sym is_has ∙ left; agrees = j.agrees; told = j.told; kept = j.kept });
    })

-- and where none is
pub no_ends : (s : Sides) (e : End) → has_end s ≡ false → is_open_side (side_of e s) ≡ false
no_ends s Client h = (or_parts (is_open_side s.client) (is_open_side s.up) h).0
no_ends s Up h = (or_parts (is_open_side s.client) (is_open_side s.up) h).1

pub shut_gone : {A : Type 0} (w : RelayWords) (r : A → List Entry → Type 0) (first : Result (Unit {0}) SinkFault) (has : Bool) (old mid : PartState A) (a b : Option (List LogEntry))
    → first ≡ Ok tt → has ≡ false → has ≡ has_end mid.live.sides
    → Extends a b (ShutEffect w r (Shutting Up) (Shutting Client) first old mid) → Extends a b (ShutEffect w r (Shutting Up) Past (Ok tt) old mid)
shut_gone {A} w r first has old mid a b is_ok gone is_has f =
    extends_map a b (ShutEffect w r (Shutting Up) (Shutting Client) first old mid) _ f
    (λ m n y. record {
      goes = λ x i.
          let j : InShutting w r x (Shutting Client) mid n = subst (λ (o : Result (Unit {0}) SinkFault). ReachesShut w r x o (Shutting Client) mid n) is_ok (y.goes x i) in
          let shut : is_open_side (side_of Client (sides (journal x.pair n))) ≡ false =
          subst (λ (s : Sides). is_open_side (side_of Client s) ≡ false) j.agrees.represents.sides (no_ends mid.live.sides Client (sym is_has ∙ gone)) in
          record {
            at = at_pass w x.limits x.pair (Shutting Client) x.behind n (ap (λ (t : Bool). where_due (t && w.shut_due Client (journal x.pair n)) (Do (AskShut x.pair Client))) shut) j.at;
            agrees = j.agrees;
            told = j.told;
            kept = j.kept;
          };
    })

pub shut_stops : {A : Type 0} (w : RelayWords) (r : A → List Entry → Type 0) (from mid to : Stage) (first : Result (Unit {0}) SinkFault) (fault : SinkFault) (old new : PartState A) (a b : Option (List LogEntry))
    → first ≡ Err fault → Extends a b (ShutEffect w r from mid first old new) → Extends a b (ShutEffect w r from to (Err fault) old new)
shut_stops {A} w r from mid to first fault old new a b is_err f =
    extends_map a b (ShutEffect w r from mid first old new) _ f
    (λ m n y. record { goes = λ x i. subst (λ (o : Result (Unit {0}) SinkFault). ReachesShut w r x o mid new n) is_err (y.goes x i) })

-- the whole part of a turn
pub visit_then : {A : Type 0} (w : RelayWords) (r : A → List Entry → Type 0) (from mid to : Stage) (first result : Result (Unit {0}) SinkFault) (old new last : PartState A) (a b d : Option (List LogEntry))
    → first ≡ Ok tt → Extends a b (PartEffect w r from mid first old new) → Extends b d (ShutEffect w r mid to result new last) → Extends a d (ShutEffect w r from to result old last)
visit_then {A} w r from mid to first result old new last a b d is_ok f g =
    extends_then a b d (PartEffect w r from mid first old new) (ShutEffect w r mid to result new last) _ f g
    (λ m n k y z. record { goes = λ x i. z.goes x (subst (λ (o : Result (Unit {0}) SinkFault). Reaches w r x o mid new n) is_ok (y.goes x i)) })

pub visit_stops : {A : Type 0} (w : RelayWords) (r : A → List Entry → Type 0) (from mid to : Stage) (first : Result (Unit {0}) SinkFault) (fault : SinkFault) (old new : PartState A) (a b : Option (List LogEntry))
    → first ≡ Err fault → Extends a b (PartEffect w r from mid first old new) → Extends a b (ShutEffect w r from to (Err fault) old new)
visit_stops {A} w r from mid to first fault old new a b is_err f =
    extends_map a b (PartEffect w r from mid first old new) _ f
    (λ m n y. record { goes = λ x i. subst (λ (o : Result (Unit {0}) SinkFault). Reaches w r x o mid new n) is_err (y.goes x i) })
