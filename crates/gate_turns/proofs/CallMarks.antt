-- One call for a pair: what it does, whatever the call.
use Rattle.std.proofs.Common.{◌≡◌, ◌≢◌, ℕ, Bool, true, false, ◌||◌, List, ◌∷◌, Option, Result, refl}
use Rattle.std.proofs.Common.{sym, ◌∙◌, subst}
use Rattle.gate_outside.specs.declared.log.LogEntry.{LogEntry}
use Rattle.gate_outside.specs.declared.log.LogEntry.TheVariants.{Connect, Write}
use Rattle.gate_outside.specs.declared.ports.End.{End}
use Rattle.gate_outside.specs.declared.ports.Linked.{Linked}
use Rattle.gate_outside.specs.declared.ports.Put.{Put}
use Rattle.gate_outside.specs.declared.ports.Put.TheVariants as put
use Rattle.gate_relay.specs.Entries.{Entry, Joined}
use Rattle.gate_relay.specs.RelayWords.{RelayWords}
use Rattle.gate_relay.specs.Sides.{has_end}
use Rattle.gate_runs.specs.Journal.{journal, moment, write_entry}
use Rattle.gate_runs.specs.Marks.{History, Call, calls}
use Rattle.gate_runs.specs.Next.{has_moved, live_pairs, accepted_count, turns_begun}
use Rattle.gate_runs.specs.Report.{report}
use Rattle.gate_runs.specs.Stages.{Stage}
use Rattle.gate_turns.specs.declared.live.Live.{Live}
use Rattle.gate_turns.specs.declared.tally.SinkFault.{SinkFault}
use Rattle.gate_turns.specs.declared.tally.Tally.{Tally}
use Rattle.gate_turns.specs.Represents.{Represents}
use Rattle.gate_turns.specs.Parts.{AtStage, PartContext, PartAgrees, InStage, Reaches, TellsBy}
use Rattle.gate_turns.specs.Parts.{KeptBy, both, own_lines, noted, put_moved, state}
use Rattle.gate_turns.proofs.OneMark.{if_same, if_not_mine}
use Rattle.gate_turns.proofs.Reaching.{reaches}
use Rattle.gate_turns.proofs.ReadMarks.{unless_kept}
use Rattle.gate_turns.proofs.Reporting.{HasLines, keeps_both, tells_both}

-- a call for pair p that adds this entry to its journal, and changes nothing else but whether something moved
pub record IsPairCall (w : RelayWords) (p : ℕ) (entry : LogEntry) (e : Entry) (moved : Bool) (m : History) : Type 0 where
  pub mine : journal p (Call entry ∷ m) ≡ e ∷ journal p m
  pub others : (q : ℕ) → q ≢ p → journal q (Call entry ∷ m) ≡ journal q m
  pub live : live_pairs (Call entry ∷ m) ≡ live_pairs m
  pub accepts : accepted_count (Call entry ∷ m) ≡ accepted_count m
  pub turn : turns_begun (Call entry ∷ m) ≡ turns_begun m
  pub time : moment (Call entry ∷ m) ≡ moment m
  pub motion : (b : Bool) → has_moved m ≡ b → has_moved (Call entry ∷ m) ≡ (b || moved)
  pub lines : HasLines w (Call entry ∷ m) (report w m) (w.lines (journal p (Call entry ∷ m)))

or_true : (b : Bool) → (b || true) ≡ true
or_true true = refl
or_true false = refl

or_false : (b : Bool) → (b || false) ≡ b
or_false true = refl
or_false false = refl

pub is_connect : (w : RelayWords) (p : ℕ) (answer : Linked) (m : History) → IsPairCall w p (Connect p answer) (Joined answer) false m
is_connect w p answer m = record {
  mine = if_same p _ _;
  others = λ q ne. if_not_mine p q _ _ ne;
  live = refl;
  accepts = refl;
  turn = refl;
  time = refl;
  motion = λ b e. e ∙ sym (or_false b);
  lines = refl;
}

pub is_write : (w : RelayWords) (p : ℕ) (end : End) (bytes : List ℕ) (answer : Put) (m : History) → IsPairCall w p (Write p end bytes answer) (write_entry end bytes answer) (put_moved answer) m
is_write w p end bytes answer m = record {
  mine = if_same p _ _;
  others = λ q ne. if_not_mine p q _ _ ne;
  live = refl;
  accepts = refl;
  turn = refl;
  time = refl;
  motion = moves answer;
  lines = refl;
}
  where
    moves : (answer : Put) (b : Bool) → has_moved m ≡ b → has_moved (Call (Write p end bytes answer) ∷ m) ≡ (b || put_moved answer)
    moves (put.Took n) b e = sym (or_true b)
    moves put.NotYet b e = e ∙ sym (or_false b)
    moves put.Failed b e = sym (or_true b)

call_agrees : {A : Type 0} (w : RelayWords) (r : A → List Entry → Type 0) (x : PartContext) (entry : LogEntry) (e : Entry) (moved : Bool) (old new : Live A) (tally : Tally)
    (held held' : Option (List ℕ)) (kept kept' : Option (List ℕ)) (m : History) → IsPairCall w x.pair entry e moved m → new.number ≡ old.number → has_end old.sides ≡ true → has_end new.sides ≡ true
    → ((h : List Entry) → Represents r old h → Represents r new (e ∷ h))
    → PartAgrees r x (state old tally held kept) m → PartAgrees r x (state new (noted moved false tally) held' kept') (Call entry ∷ m)
call_agrees {A} w r x entry e moved old new tally held held' kept kept' m is number has has' keeps a = record {
  number = number ∙ a.number;
  represents = subst (λ (h : List Entry). Represents r new h) (sym is.mine) (keeps (journal x.pair m) a.represents);
  others = λ q ne. is.others q ne ∙ a.others q ne;
  live = is.live ∙ a.live ∙ unless_kept (has_end old.sides) (has_end new.sides) x.pair x.live has has';
  accepts = is.accepts ∙ a.accepts;
  turn = is.turn ∙ a.turn;
  time = is.time ∙ a.time;
  motion = is.motion tally.moved a.motion;
  count = a.count;
  finish = a.finish;
}

-- from one stage to another by such a call
pub call_reaches : {A : Type 0} (w : RelayWords) (r : A → List Entry → Type 0) (x : PartContext) (from to : Stage) (entry : LogEntry) (e : Entry) (moved : Bool)
    (told : Result (Unit {0}) SinkFault) (keeps : Bool) (old new : Live A) (tally : Tally) (held held' : Option (List ℕ)) (kept kept' : Option (List ℕ)) (m : History)
    → IsPairCall w x.pair entry e moved m → new.number ≡ old.number → (has_end old.sides ≡ true → has_end new.sides ≡ true)
    → (AtStage w x.limits x.pair from x.behind m → AtStage w x.limits x.pair to x.behind (Call entry ∷ m))
    → ((h : List Entry) → Represents r old h → Represents r new (e ∷ h))
    → ((h : List Entry) → Represents r new h → TellsBy told held held' (own_lines false new.number (w.lines h)))
    → KeptBy keeps kept kept' entry
    → InStage w r x from (state old tally held kept) m → Reaches w r x (both told keeps) to (state new (noted moved false tally) held' kept') (Call entry ∷ m)
call_reaches {A} w r x from to entry e moved told keeps old new tally held held' kept kept' m is number has at represents tells keep a =
    let agrees : PartAgrees r x (state new (noted moved false tally) held' kept') (Call entry ∷ m) =
    call_agrees w r x entry e moved old new tally held held' kept kept' m is number a.has (has a.has) represents a.agrees in
    reaches w r x (both told keeps) to (state new (noted moved false tally) held' kept') held (Call entry ∷ m) (report w m) (w.lines (journal x.pair (Call entry ∷ m)))
    (at a.at) (has a.has) agrees is.lines a.told (tells_both told keeps held held' _ (tells (journal x.pair (Call entry ∷ m)) agrees.represents)) (λ f. tt)
    (keeps_both told keeps x.kept kept kept' (calls m) entry a.kept keep)
