-- A client is accepted, if one waits, and taken in or turned away.
use Rattle.std.proofs.Common.{◌≡◌, ◌≢◌, ℕ, ◌+◌, Bool, true, false, ◌||◌, List, [], ◌∷◌, ◌++◌}
use Rattle.std.proofs.Common.{Option, Result, Ok, Err, append-nil, refl, sym, ap, ◌∙◌, subst, arith}
use Rattle.std.specs.List.{AllByRecursion}
use Rattle.gate_capture.specs.Captures.{spelling}
use Rattle.gate_capture.specs.Spelling.{spelling_of}
use Rattle.gate_outside.proofs.Appending.{appends_then}
use Rattle.gate_outside.specs.declared.log.LogEntry.{LogEntry}
use Rattle.gate_outside.specs.declared.log.LogEntry.TheVariants.{Accept, Shut}
use Rattle.gate_outside.specs.declared.ports.Accepted.{Accepted}
use Rattle.gate_outside.specs.declared.ports.Accepted.TheVariants as accepted
use Rattle.gate_outside.specs.declared.ports.End.TheVariants.{Client, Up}
use Rattle.gate_outside.specs.History.{Tells}
use Rattle.gate_outside.specs.Streams.{Appends, AppendsFront}
use Rattle.gate_relay.specs.declared.loss.Loss.TheVariants as loss
use Rattle.gate_relay.specs.Entries.{Entry, Began, Lost, Refused}
use Rattle.gate_relay.specs.RelayWords.{RelayWords}
use Rattle.gate_relay.specs.Sides.{has_end, sides}
use Rattle.gate_runs.specs.declared.limits.Limits.{Limits}
use Rattle.gate_runs.specs.declared.served.Outside.{Outside}
use Rattle.gate_runs.specs.declared.served.Outside.TheVariants as outside
use Rattle.gate_runs.specs.Journal.{journal, moment}
use Rattle.gate_runs.specs.Marks.{History, Call, Extends, Refuse, calls}
use Rattle.gate_runs.specs.Next.{BeforePairs, Point, accepted_count, after_accept, ahead}
use Rattle.gate_runs.specs.Next.{live_pairs, out_of_memory_count, point, round, stage_of}
use Rattle.gate_runs.specs.Next.{unless_gone, without}
use Rattle.gate_runs.specs.Report.{closed_line, memory_line, report}
use Rattle.gate_runs.specs.Serving.{Answered, Follows, Keeps, counted, is_ended}
use Rattle.gate_runs.specs.Stages.{Reading}
use Rattle.gate_turns.specs.declared.live.Live.{Live}
use Rattle.gate_turns.specs.declared.tally.SinkFault.{SinkFault}
use Rattle.gate_turns.specs.declared.tally.Tally.{Tally}
use Rattle.gate_turns.specs.Openings.{KeptAlso, ReachesRound, WelcomeEffect, outcome}
use Rattle.gate_turns.specs.Parts.{AreFresh, KeptBy, PairsAhead, TellsBy, both, is_inside, noted}
use Rattle.gate_turns.specs.Represents.{Represents}
use Rattle.gate_turns.specs.Rounds.{AtAccept, IsIn, RunAgrees, RunContext, RunState, numbers}
use Rattle.gate_turns.specs.Rounds.{numbers_from}
use Rattle.gate_turns.proofs.Extending.{extends_call, extends_note, extends_then}
use Rattle.gate_turns.proofs.Fronts.{appends_none, front_more, front_then}
use Rattle.gate_turns.proofs.NewPairs.{AreBelow, all_push, keep_below, none_among, numbers_push}
use Rattle.gate_turns.proofs.NewPairs.{without_push}
use Rattle.gate_turns.proofs.OneMark.{if_not_mine, if_same}
use Rattle.gate_turns.proofs.Reaching.{counted_more}
use Rattle.gate_turns.proofs.Reporting.{HasLines, KeepsAfter, kept_by, keeps_both, tells_both}
use Rattle.gate_turns.proofs.RunReaching.{ReachesPlace, run_reaches}

-- ---- the live pairs' part of the turn comes

all_fresh : (x : Point) → ((q : ℕ) → stage_of q x ≡ Reading Up) → (ps : List ℕ) → AreFresh ps x
all_fresh x f [] = tt
all_fresh x f (q ∷ ps) = (f q, all_fresh x f ps)

pub none_had : (x : Point) → ((q : ℕ) → stage_of q x ≡ Reading Up) → (ps : List ℕ) (n : History) → point n ≡ x → AreFresh ps (point n)
none_had x f ps n here = rw here (all_fresh x f ps)

before_pairs : (w : RelayWords) (c : Limits) (ps : List ℕ) (n : History) → point n ≡ BeforePairs → live_pairs n ≡ ps → Follows w c n → PairsAhead w c ps n
before_pairs w c ps n here live follows = record {
  coming = ap (λ (x : Point). ahead w c n x) here ∙ ap (λ (qs : List ℕ). round w c n qs) live;
  fresh = none_had BeforePairs (λ q. refl) ps n here;
  inside = ap is_inside here;
  follows = follows;
}

reaches_round : {A : Type 0} (w : RelayWords) (r : A → List Entry → Type 0) (result : Result (Unit {0}) SinkFault) (x : RunContext) (t : RunState A) (n : History)
    → ReachesPlace w r (PairsAhead w x.limits (numbers_from 0 t.live) n) result x t n → ReachesRound w r (outcome result) x t n
reaches_round {A} w r (Ok done) x t n a = a
reaches_round {A} w r (Err fault) x t n a = a

-- what a recorder's clauses say of an accept that was answered so
pub kept_accept : (answer known : Accepted) (keeps : Bool) (old new : Option (List ℕ)) → answer ≡ known → (keeps ≡ true → Appends old new (spelling_of (Accept answer)))
    → AppendsFront old new (spelling_of (Accept answer)) → KeptBy keeps old new (Accept known)
kept_accept answer known keeps old new is whole part = subst (λ (o : Accepted). KeptBy keeps old new (Accept o)) is (kept_by keeps old new (Accept answer) whole part)

-- ---- an accept at which nothing is told: that of a pair that lives, or where no client waits

pub quiet_log : {A : Type 0} (w : RelayWords) (r : A → List Entry → Type 0) (answer : Accepted) (keeps : Bool) (result : Result (Unit {0}) Outside) (old new : RunState A)
    (a b : Option (List LogEntry)) → ((m : History) (x : RunContext) → moment m ≡ old.moment → RunAgrees r x old m → RunAgrees r x new (Call (Accept answer) ∷ m))
    → ((m : History) → accepted_count m ≡ old.accepted → Answered m (Accept answer)) → after_accept answer ≡ BeforePairs → new.held ≡ old.held
    → result ≡ outcome (both (Ok tt) keeps) → KeptBy keeps old.kept new.kept (Accept answer) → Tells a b (Accept answer) → Extends a b (WelcomeEffect w r result old new)
quiet_log {A} w r answer keeps result old new a b agree answered here same is keep log =
    extends_call a b (Accept answer) _ log (λ m. rw is (record { goes = λ x i. go m x i }))
  where
    go : (m : History) (x : RunContext) → AtAccept w r x old m → ReachesRound w r (outcome (both (Ok tt) keeps)) x new (Call (Accept answer) ∷ m)
    go m x i =
        let n : History = Call (Accept answer) ∷ m in
        let agrees : RunAgrees r x new n = agree m x i.at.now i.agrees in
        let follows : Follows w x.limits n = (i.at.coming, answered m i.agrees.accepts, i.at.follows) in
        let told : TellsBy (Ok tt) old.held new.held [] = rw same (appends_none old.held) in
        reaches_round w r (both (Ok tt) keeps) x new n
        (run_reaches w r (PairsAhead w x.limits (numbers_from 0 new.live) n) (both (Ok tt) keeps) x new old.held n (report w m) []
        (before_pairs w x.limits (numbers_from 0 new.live) n here agrees.live follows) (ap is_ended here) follows agrees refl i.told
        (tells_both (Ok tt) keeps old.held new.held [] told) tt
        (keeps_both (Ok tt) keeps x.kept old.kept new.kept (calls m) (Accept answer) i.kept keep))

or_true : (b : Bool) → (b || true) ≡ true
or_true true = refl
or_true false = refl

-- a pair lives
pub new_agrees : {A : Type 0} (r : A → List Entry → Type 0) (p : ℕ) (b : Live A) (x : RunContext) (old new : RunState A) (m : History) → new.live ≡ old.live ++ b ∷ []
    → b.number ≡ p → Represents r b (Began p old.moment ∷ []) → AreBelow p old.live → new.accepted ≡ old.accepted + 1 → new.moment ≡ old.moment
    → new.tally ≡ noted true false old.tally → moment m ≡ old.moment → RunAgrees r x old m → RunAgrees r x new (Call (Accept (accepted.Pair p)) ∷ m)
new_agrees {A} r p b x old new m more number begins below counts last is_noted now a =
    let n : History = Call (Accept (accepted.Pair p)) ∷ m in
    let here : IsIn r n b = subst (λ (q : ℕ). Represents r b (journal q n)) (sym number)
    (subst (λ (h : List Entry). Represents r b h) (sym (if_same p (Began p (moment m) ∷ []) (journal p m)))
    (subst (λ (i : ℕ). Represents r b (Began p i ∷ [])) (sym now) begins)) in
    let before : AllByRecursion (IsIn r n) old.live = keep_below (IsIn r m) (IsIn r n) p old.live
    (λ q lt is. subst (λ (h : List Entry). Represents r q h) (sym (if_not_mine p q.number (Began q.number (moment m) ∷ []) (journal q.number m) (λ e. omega (arith, lt, e)))) is) below a.each in
    record {
      each = rw more (all_push (IsIn r n) old.live b before here);
      live = ap (λ (ps : List ℕ). ps ++ p ∷ []) a.live ∙ ap (λ (q : ℕ). numbers old.live ++ q ∷ []) (sym number) ∙ sym (numbers_push old.live b) ∙ sym (ap numbers more);
      accepts = ap (λ (k : ℕ). k + 1) a.accepts ∙ sym counts;
      turn = a.turn;
      time = omega (arith, a.time, last);
      motion = sym (ap (λ (t : Tally). t.moved) is_noted ∙ or_true old.tally.moved);
      count = a.count ∙ ap (λ (t : Tally). t.out_of_memory) (sym is_noted);
      finish = a.finish;
    }

-- ---- no pair was accepted

-- nothing changed but what was kept
abbrev pub with_kept : {A : Type 0} → Option (List ℕ) → RunState A → RunState A
with_kept kept t = record { live = t.live; accepted = t.accepted; tally = t.tally; moment = t.moment; held = t.held; kept = kept }

-- no client waits
pub none_agrees : {A : Type 0} (r : A → List Entry → Type 0) (x : RunContext) (kept : Option (List ℕ)) (old new : RunState A) (m : History) → new ≡ with_kept kept old
    → RunAgrees r x old m → RunAgrees r x new (Call (Accept accepted.NotYet) ∷ m)
none_agrees {A} r x kept old new m is a = rw is (record {
  each = a.each;
  live = a.live;
  accepts = a.accepts;
  turn = a.turn;
  time = a.time;
  motion = a.motion;
  count = a.count;
  finish = a.finish;
})

-- accept failed
failed_agrees : {A : Type 0} (r : A → List Entry → Type 0) (x : RunContext) (kept : Option (List ℕ)) (old : RunState A) (m : History)
    → RunAgrees r x old m → RunAgrees r x (with_kept kept old) (Call (Accept accepted.Failed) ∷ m)
failed_agrees {A} r x kept old m a = record {
  each = a.each;
  live = a.live;
  accepts = a.accepts;
  turn = a.turn;
  time = a.time;
  motion = a.motion;
  count = a.count;
  finish = a.finish;
}

abbrev pub failed_outcome : Bool → Result (Unit {0}) Outside
failed_outcome true = Err outside.Accept
failed_outcome false = Err outside.Capture

reaches_failed : {A : Type 0} (w : RelayWords) (r : A → List Entry → Type 0) (keeps : Bool) (kept : Option (List ℕ)) (x : RunContext) (old : RunState A) (m : History)
    → KeptBy keeps old.kept kept (Accept accepted.Failed) → AtAccept w r x old m → ReachesRound w r (failed_outcome keeps) x (with_kept kept old) (Call (Accept accepted.Failed) ∷ m)
reaches_failed {A} w r true kept x old m keep i = record {
  ends = refl;
  open_still = refl;
  follows = (i.at.coming, tt, i.at.follows);
  agrees = failed_agrees r x kept old m i.agrees;
  told = rw (append-nil (report w m)) i.told;
  kept = appends_then x.kept old.kept kept (spelling (calls m)) (spelling_of (Accept accepted.Failed)) i.kept keep;
}
reaches_failed {A} w r false kept x old m keep i = record {
  ends = tt;
  open_still = refl;
  follows = (i.at.coming, tt, i.at.follows);
  agrees = failed_agrees r x kept old m i.agrees;
  told = rw (append-nil (report w m)) i.told;
  kept = front_then x.kept old.kept kept (spelling (calls m)) (spelling_of (Accept accepted.Failed)) i.kept keep;
}

pub failed_log : {A : Type 0} (w : RelayWords) (r : A → List Entry → Type 0) (keeps : Bool) (result : Result (Unit {0}) Outside) (kept : Option (List ℕ)) (old new : RunState A)
    (a b : Option (List LogEntry)) → new ≡ with_kept kept old → result ≡ failed_outcome keeps → KeptBy keeps old.kept kept (Accept accepted.Failed) → Tells a b (Accept accepted.Failed)
    → Extends a b (WelcomeEffect w r result old new)
failed_log {A} w r keeps result kept old new a b is ends keep log =
    extends_call a b (Accept accepted.Failed) _ log (λ m. rw (is, ends) (record { goes = λ x i. reaches_failed w r keeps kept x old m keep i }))

-- ---- a pair was turned away

abbrev away : ℕ → History → History
away p m = Call (Shut p Client) ∷ Refuse p ∷ Call (Accept (accepted.Pair p)) ∷ m

own_away : (p : ℕ) (m : History) → journal p (away p m) ≡ Lost Client loss.Shut ∷ Refused ∷ Began p (moment m) ∷ []
own_away p m = if_same p _ _ ∙ ap (λ (h : List Entry). Lost Client loss.Shut ∷ h) (if_same p _ _ ∙ ap (λ (h : List Entry). Refused ∷ h) (if_same p (Began p (moment m) ∷ []) (journal p m)))

others_away : (p q : ℕ) (m : History) → q ≢ p → journal q (away p m) ≡ journal q m
others_away p q m ne = if_not_mine p q _ _ ne ∙ if_not_mine p q _ _ ne ∙ if_not_mine p q (Began q (moment m) ∷ []) (journal q m) ne

away_agrees : {A : Type 0} (r : A → List Entry → Type 0) (p : ℕ) (x : RunContext) (old new : RunState A) (m : History) → new.live ≡ old.live → AreBelow p old.live
    → new.accepted ≡ old.accepted + 1 → new.moment ≡ old.moment → new.tally ≡ noted true true old.tally → RunAgrees r x old m → RunAgrees r x new (away p m)
away_agrees {A} r p x old new m same below counts last is_noted a = record {
  each = rw same (keep_below (IsIn r m) (IsIn r (away p m)) p old.live
      (λ q lt is. subst (λ (h : List Entry). Represents r q h) (sym (others_away p q.number m (λ e. omega (arith, lt, e)))) is) below a.each);
  live = ap (λ (h : List Entry). unless_gone (has_end (sides h)) p (live_pairs m ++ p ∷ [])) (own_away p m)
      ∙ ap (λ (ps : List ℕ). without p (ps ++ p ∷ [])) a.live ∙ without_push p (numbers old.live) (none_among p old.live below) ∙ sym (ap numbers same);
  accepts = ap (λ (k : ℕ). k + 1) a.accepts ∙ sym counts;
  turn = a.turn;
  time = omega (arith, a.time, last);
  motion = sym (ap (λ (t : Tally). t.moved) is_noted ∙ or_true old.tally.moved);
  count = counted_more (out_of_memory_count m) ∙ ap (λ (k : ℕ). counted (k + 1)) a.count ∙ ap (λ (t : Tally). t.out_of_memory) (sym is_noted);
  finish = a.finish;
}

-- its lines
abbrev away_lines : ℕ → List ℕ
away_lines p = memory_line p ++ closed_line p

away_has : (w : RelayWords) (p : ℕ) (m : History) → HasLines w (away p m) (report w m) (away_lines p)
away_has w p m = ap (λ (t : List ℕ). record { before = t; newest = away_lines p }) (append-nil (report w m ++ []) ∙ append-nil (report w m))

-- its call was kept, as that of the accept was
keeps_also : (keeps : Bool) (result : Result (Unit {0}) SinkFault) (base old mid new : Option (List ℕ)) (entries : List LogEntry) (first second : LogEntry) → Keeps base old entries
    → KeptBy keeps old mid first → KeptAlso keeps result mid new second → KeepsAfter result base new (second ∷ first ∷ entries)
keeps_also true (Ok done) base old mid new entries first second k f s =
    appends_then base mid new (spelling (first ∷ entries)) (spelling_of second) (appends_then base old mid (spelling entries) (spelling_of first) k f) s
keeps_also true (Err fault) base old mid new entries first second k f s =
    front_then base mid new (spelling (first ∷ entries)) (spelling_of second) (appends_then base old mid (spelling entries) (spelling_of first) k f) s
keeps_also false (Ok done) base old mid new entries first second k f s = absurd s
keeps_also false (Err fault) base old mid new entries first second k f s =
    front_more base new (spelling (first ∷ entries)) (spelling_of second) (rw s (front_then base old mid (spelling entries) (spelling_of first) k f))

pub away_log : {A : Type 0} (w : RelayWords) (r : A → List Entry → Type 0) (p : ℕ) (keeps : Bool) (told : Result (Unit {0}) SinkFault) (result : Result (Unit {0}) Outside)
    (kept : Option (List ℕ)) (old new : RunState A) (a b d : Option (List LogEntry)) → p ≡ old.accepted → new.live ≡ old.live → AreBelow p old.live → new.accepted ≡ old.accepted + 1
    → new.moment ≡ old.moment → new.tally ≡ noted true true old.tally → TellsBy told old.held new.held (memory_line p ++ closed_line p) → result ≡ outcome told
    → KeptBy keeps old.kept kept (Accept (accepted.Pair p)) → KeptAlso keeps told kept new.kept (Shut p Client)
    → Tells a b (Accept (accepted.Pair p)) → Tells b d (Shut p Client) → Extends a d (WelcomeEffect w r result old new)
away_log {A} w r p keeps told result kept old new a b d is same below counts last is_noted tells ends first second accept shut =
    extends_then a b d R S _
    (extends_note a b (Refuse p) (λ m n. n ≡ Call (Accept (accepted.Pair p)) ∷ m) R (λ m. refl) (extends_call a b (Accept (accepted.Pair p)) _ accept (λ m. refl))
    (λ m n e. ap (λ (k : History). Refuse p ∷ k) e))
    (extends_call b d (Shut p Client) S shut (λ m. refl))
    (λ m n k e f. rw (f, e, ends) (record { goes = λ x i. go m x i }))
  where
    R : History → History → Type 0
    R m n = n ≡ Refuse p ∷ Call (Accept (accepted.Pair p)) ∷ m

    S : History → History → Type 0
    S m n = n ≡ Call (Shut p Client) ∷ m

    go : (m : History) (x : RunContext) → AtAccept w r x old m → ReachesRound w r (outcome told) x new (away p m)
    go m x i =
        let agrees : RunAgrees r x new (away p m) = away_agrees r p x old new m same below counts last is_noted i.agrees in
        let follows : Follows w x.limits (away p m) = (refl, tt, (refl, (i.at.coming, is ∙ sym i.agrees.accepts, i.at.follows))) in
        reaches_round w r told x new (away p m)
        (run_reaches w r (PairsAhead w x.limits (numbers_from 0 new.live) (away p m)) told x new old.held (away p m) (report w m) (away_lines p)
        (before_pairs w x.limits (numbers_from 0 new.live) (away p m) refl agrees.live follows) refl follows agrees (away_has w p m) i.told tells tt
        (keeps_also keeps told x.kept old.kept kept new.kept (calls m) (Accept (accepted.Pair p)) (Shut p Client) i.kept first second))
