-- A pair's connection upstream is asked for, and what came of it is taken up.
use Rattle.std.proofs.Common.{◌≡◌, ◌≢◌, ℕ, ◌+◌, Bool, true, false, not, ◌||◌, List, ◌∷◌, Option}
use Rattle.std.proofs.Common.{None, Result, Ok, Err, refl, sym, ap, ◌∙◌, subst}
use Rattle.std.proofs.lemmas.Bool.{and_parts}
use Rattle.gate_outside.specs.declared.log.LogEntry.{LogEntry}
use Rattle.gate_outside.specs.declared.log.LogEntry.TheVariants.{Connect}
use Rattle.gate_outside.specs.declared.ports.Linked.{Linked}
use Rattle.gate_outside.specs.History.{Tells}
use Rattle.gate_relay.specs.Entries.{Entry, Joined, Settled, is_out_of_memory}
use Rattle.gate_relay.specs.Guards.{connects, takes_up}
use Rattle.gate_relay.specs.RelayWords.{RelayWords}
use Rattle.gate_relay.specs.Sides.{has_end}
use Rattle.gate_relay.specs.declared.sides.Sides.{Sides}
use Rattle.gate_runs.specs.Journal.{journal}
use Rattle.gate_runs.specs.Marks.{History, Call, TakeUp, RunOut, Extends, calls}
use Rattle.gate_runs.specs.Next.{Do, Settle, AskConnect, where_due, ask, unless_gone}
use Rattle.gate_runs.specs.Next.{out_of_memory_count}
use Rattle.gate_runs.specs.Report.{report}
use Rattle.gate_runs.specs.Serving.{AtTakeUp, Keeps, counted}
use Rattle.gate_runs.specs.Stages.{Stage, Taking, Linking, later}
use Rattle.gate_turns.specs.declared.live.Live.{Live}
use Rattle.gate_turns.specs.declared.tally.SinkFault.{SinkFault}
use Rattle.gate_turns.specs.declared.tally.SinkFault.TheVariants.{Capture}
use Rattle.gate_turns.specs.declared.tally.Tally.{Tally}
use Rattle.gate_turns.specs.Represents.{Represents, with_cut}
use Rattle.gate_turns.specs.Parts.{AtStage, PartContext, PartState, PartAgrees, InStage, Reaches}
use Rattle.gate_turns.specs.Parts.{PartEffect, TellsBy, KeptBy, both, own_lines, noted, state}
use Rattle.gate_turns.proofs.CallMarks.{is_connect, call_reaches}
use Rattle.gate_capture.specs.Captures.{spelling}
use Rattle.gate_turns.proofs.Fronts.{front_whole}
use Rattle.gate_turns.proofs.Extending.{extends_call, extends_none, extends_more}
use Rattle.gate_turns.proofs.OneMark.{if_same, if_not_mine}
use Rattle.gate_turns.proofs.Reaching.{reaches, counted_more}
use Rattle.gate_turns.proofs.Reporting.{HasLines, KeepsAfter}
use Rattle.gate_turns.proofs.Stages.{at_pass, at_call, at_take_up, at_run_out}

-- ---- the connection

pub connect_log : {A : Type 0} (w : RelayWords) (r : A → List Entry → Type 0) (answer : Linked) (told result : Result (Unit {0}) SinkFault) (keeps : Bool)
    (old new : Live A) (tally : Tally) (held held' : Option (List ℕ)) (kept kept' : Option (List ℕ)) (a b : Option (List LogEntry))
    → new.number ≡ old.number → (has_end old.sides ≡ true → has_end new.sides ≡ true)
    → ((h : List Entry) → Represents r old h → true ≡ connects w h)
    → ((h : List Entry) → Represents r old h → Represents r new (Joined answer ∷ h))
    → ((h : List Entry) → Represents r new h → TellsBy told held held' (own_lines false new.number (w.lines h)))
    → result ≡ both told keeps → KeptBy keeps kept kept' (Connect old.number answer) → Tells a b (Connect old.number answer)
    → Extends a b (PartEffect w r Linking (later Linking) result (state old tally held kept) (state new tally held' kept'))
connect_log {A} w r answer told result keeps old new tally held held' kept kept' a b number has due entry tells is_both keep log =
    extends_call a b (Connect old.number answer) _ log (λ m. rw is_both (record { goes = λ x i. go m x i }))
  where
    same : (t : Tally) → noted false false t ≡ t
    same t = ap (λ (b : Bool). record { moved = b; out_of_memory = t.out_of_memory }) (or_false t.moved)
      where
        or_false : (b : Bool) → (b || false) ≡ b
        or_false true = refl
        or_false false = refl

    go : (m : History) (x : PartContext) → InStage w r x Linking (state old tally held kept) m
        → Reaches w r x (both told keeps) (later Linking) (state new tally held' kept') (Call (Connect old.number answer) ∷ m)
    go m x i =
        subst (λ (t : Tally). Reaches w r x (both told keeps) (later Linking) (state new t held' kept') (Call (Connect old.number answer) ∷ m)) (same tally)
        (subst (λ (q : ℕ). Reaches w r x (both told keeps) (later Linking) (state new (noted false false tally) held' kept') (Call (Connect q answer) ∷ m)) (sym i.agrees.number)
        (call_reaches w r x Linking (later Linking) (Connect x.pair answer) (Joined answer) false told keeps old new tally held held' kept kept' m
        (is_connect w x.pair answer m) number has
        (λ at. at_call w x.limits x.pair Linking (later Linking) x.behind m (Connect x.pair answer)
        (ap (λ (b : Bool). where_due b (Do (AskConnect x.pair))) (sym (due (journal x.pair m) i.agrees.represents))) tt refl refl at)
        entry tells (subst (λ (q : ℕ). KeptBy keeps kept kept' (Connect q answer)) i.agrees.number keep) i))

-- ---- taking up

abbrev pub take_marks : Bool → ℕ → ℕ → History → History
take_marks true p cut m = RunOut p (later Taking) cut ∷ TakeUp p ∷ m
take_marks false p cut m = TakeUp p ∷ m

take_journal : (ran_out : Bool) (p cut : ℕ) (m : History) → journal p (take_marks ran_out p cut m) ≡ with_cut ran_out cut (Settled ∷ journal p m)
take_journal true p cut m = if_same p _ _ ∙ ap (λ (h : List Entry). with_cut true cut h) (if_same p (Settled ∷ journal p m) (journal p m))
take_journal false p cut m = if_same p _ _

takes_calm : (w : RelayWords) (h : List Entry) → takes_up w h ≡ true → is_out_of_memory h ≡ false
takes_calm w h e = calm (is_out_of_memory h) (and_parts (not (is_out_of_memory h)) (w.takes_up h) e).0
  where
    calm : (b : Bool) → not b ≡ true → b ≡ false
    calm true e = absurd cc
    calm false e = refl

take_at : (w : RelayWords) (x : PartContext) (ran_out : Bool) (cut : ℕ) (m : History) → takes_up w (journal x.pair m) ≡ true
    → AtStage w x.limits x.pair Taking x.behind m → AtStage w x.limits x.pair Linking x.behind (take_marks ran_out x.pair cut m)
take_at w x false cut m due a = at_take_up w x.limits x.pair x.behind m (ap (λ (b : Bool). where_due b (Settle x.pair)) due) a
take_at w x true cut m due a =
    at_run_out w x.limits x.pair Linking Linking cut x.behind _ (ap is_out_of_memory (if_same x.pair (Settled ∷ journal x.pair m) (journal x.pair m)) ∙ takes_calm w (journal x.pair m) due)
    (AtTakeUp cut m) (at_take_up w x.limits x.pair x.behind m (ap (λ (b : Bool). where_due b (Settle x.pair)) due) a)

take_lines : (w : RelayWords) (ran_out : Bool) (p cut : ℕ) (m : History)
    → HasLines w (take_marks ran_out p cut m) (report w m) (own_lines ran_out p (w.lines (journal p (take_marks ran_out p cut m))))
take_lines w true p cut m = refl
take_lines w false p cut m = refl

take_agrees : {A : Type 0} (r : A → List Entry → Type 0) (x : PartContext) (ran_out : Bool) (cut : ℕ) (old new : Live A) (tally : Tally)
    (held held' : Option (List ℕ)) (kept : Option (List ℕ)) (m : History) → new.number ≡ old.number → new.sides ≡ old.sides
    → ((h : List Entry) → Represents r old h → Represents r new (with_cut ran_out cut (Settled ∷ h)))
    → PartAgrees r x (state old tally held kept) m → PartAgrees r x (state new (noted false ran_out tally) held' kept) (take_marks ran_out x.pair cut m)
take_agrees {A} r x true cut old new tally held held' kept m number sides entry a = record {
  number = number ∙ a.number;
  represents = subst (λ (h : List Entry). Represents r new h) (sym (take_journal true x.pair cut m)) (entry (journal x.pair m) a.represents);
  others = λ q ne. if_not_mine x.pair q _ _ ne ∙ if_not_mine x.pair q _ _ ne ∙ a.others q ne;
  live = a.live ∙ ap (λ (s : Sides). unless_gone (has_end s) x.pair x.live) (sym sides);
  accepts = a.accepts;
  turn = a.turn;
  time = a.time;
  motion = a.motion ∙ sym (or_false tally.moved);
  count = counted_more (out_of_memory_count m) ∙ ap (λ (n : ℕ). counted (n + 1)) a.count;
  finish = a.finish;
}
  where
    or_false : (b : Bool) → (b || false) ≡ b
    or_false true = refl
    or_false false = refl
take_agrees {A} r x false cut old new tally held held' kept m number sides entry a = record {
  number = number ∙ a.number;
  represents = subst (λ (h : List Entry). Represents r new h) (sym (take_journal false x.pair cut m)) (entry (journal x.pair m) a.represents);
  others = λ q ne. if_not_mine x.pair q _ _ ne ∙ a.others q ne;
  live = a.live ∙ ap (λ (s : Sides). unless_gone (has_end s) x.pair x.live) (sym sides);
  accepts = a.accepts;
  turn = a.turn;
  time = a.time;
  motion = a.motion ∙ sym (or_false tally.moved);
  count = a.count;
  finish = a.finish;
}
  where
    or_false : (b : Bool) → (b || false) ≡ b
    or_false true = refl
    or_false false = refl

pub no_capture : (told : Result (Unit {0}) SinkFault) (base kept : Option (List ℕ)) (entries : List LogEntry) → Keeps base kept entries → KeepsAfter told base kept entries
no_capture (Ok done) base kept entries k = k
no_capture (Err fault) base kept entries k = front_whole base kept (spelling entries) k

pub take_log : {A : Type 0} (w : RelayWords) (r : A → List Entry → Type 0) (ran_out : Bool) (told : Result (Unit {0}) SinkFault)
    (old new : Live A) (tally tally' : Tally) (held held' : Option (List ℕ)) (kept : Option (List ℕ)) (log : Option (List LogEntry)) → tally' ≡ noted false ran_out tally
    → new.number ≡ old.number → new.sides ≡ old.sides → told ≢ Err Capture
    → ((h : List Entry) → Represents r old h → true ≡ takes_up w h)
    → (cut : ℕ) × ((h : List Entry) → Represents r old h → Represents r new (with_cut ran_out cut (Settled ∷ h)))
    → ((h : List Entry) → Represents r new h → TellsBy told held held' (own_lines ran_out new.number (w.lines h)))
    → Extends log log (PartEffect w r Taking Linking told (state old tally held kept) (state new tally' held' kept))
take_log {A} w r ran_out told old new tally tally' held held' kept log is_noted number sides never due entry tells =
    rw is_noted (extends_more log log (λ m n. n ≡ m) _ (extends_none log _ (λ m. refl))
    (λ m n e. (take_marks ran_out old.number entry.0 m, same ran_out old.number entry.0 m ∙ ap calls (sym e), record { goes = λ x i. go m x i })))
  where
    same : (b : Bool) (p cut : ℕ) (m : History) → calls (take_marks b p cut m) ≡ calls m
    same true p cut m = refl
    same false p cut m = refl

    go : (m : History) (x : PartContext) → InStage w r x Taking (state old tally held kept) m
        → Reaches w r x told Linking (state new (noted false ran_out tally) held' kept) (take_marks ran_out old.number entry.0 m)
    go m x i =
        let n : History = take_marks ran_out x.pair entry.0 m in
        let agrees : PartAgrees r x (state new (noted false ran_out tally) held' kept) n =
        take_agrees r x ran_out entry.0 old new tally held held' kept m number sides entry.1 i.agrees in
        subst (λ (q : ℕ). Reaches w r x told Linking (state new (noted false ran_out tally) held' kept) (take_marks ran_out q entry.0 m)) (sym i.agrees.number)
        (reaches w r x told Linking (state new (noted false ran_out tally) held' kept) held n (report w m) (own_lines ran_out x.pair (w.lines (journal x.pair n)))
        (take_at w x ran_out entry.0 m (sym (due (journal x.pair m) i.agrees.represents)) i.at)
        (ap has_end sides ∙ i.has) agrees (take_lines w ran_out x.pair entry.0 m) i.told
        (subst (λ (q : ℕ). TellsBy told held held' (own_lines ran_out q (w.lines (journal x.pair n)))) agrees.number (tells (journal x.pair n) agrees.represents))
        (λ f. absurd (never f))
        (no_capture told x.kept kept (calls n) (subst (λ (es : List LogEntry). Keeps x.kept kept es) (sym (same ran_out x.pair entry.0 m)) i.kept)))

-- nothing is done at a stage that asks nothing
pub pass_log : {A : Type 0} (w : RelayWords) (r : A → List Entry → Type 0) (s to : Stage) (t : PartState A) (log : Option (List LogEntry)) → later s ≡ to
    → ((p : ℕ) (h : List Entry) → Represents r t.live h → ask w p s h ≡ None)
    → Extends log log (PartEffect w r s to (Ok tt) t t)
pass_log {A} w r s to t log is_later none = extends_none log _ (λ m. record {
  goes = λ x i. record {
    at = subst (λ (q : Stage). AtStage w x.limits x.pair q x.behind m) is_later (at_pass w x.limits x.pair s x.behind m (none x.pair (journal x.pair m) i.agrees.represents) i.at);
    has = i.has;
    agrees = i.agrees;
    told = i.told;
    kept = i.kept;
  };
})
