-- Writes to a pair's end: what is found for one, and the call.
use Rattle.std.proofs.Common.{◌≡◌, ◌≢◌, ℕ, ◌+◌, ◌<◌, nat_lt, Bool, true, false, not, ◌||◌}
use Rattle.std.proofs.Common.{if◌then◌else◌, List, ◌∷◌, length, Option, None, Some, is_some, Result}
use Rattle.std.proofs.Common.{Ok, Err, refl, sym, ap, ◌∙◌, subst, arith}
use Rattle.std.proofs.lemmas.Bool.Decides.{nat_tests}
use Rattle.std.specs.Option.{option_map}
use Rattle.gate_outside.specs.declared.ports.End.{End}
use Rattle.gate_outside.specs.declared.ports.End.TheVariants.{Up}
use Rattle.gate_outside.specs.declared.ports.Put.{Put}
use Rattle.gate_outside.specs.declared.ports.Put.TheVariants as put
use Rattle.gate_outside.specs.declared.log.LogEntry.{LogEntry}
use Rattle.gate_outside.specs.declared.log.LogEntry.TheVariants.{Write}
use Rattle.gate_outside.specs.Ends.{TakesSome}
use Rattle.gate_outside.specs.History.{Tells}
use Rattle.gate_relay.specs.Entries.{Entry, OutOfMemory, is_out_of_memory}
use Rattle.gate_relay.specs.Guards.{offers}
use Rattle.gate_relay.specs.RelayWords.{RelayWords}
use Rattle.gate_relay.specs.Sides.{has_end}
use Rattle.gate_relay.specs.declared.sides.Sides.{Sides}
use Rattle.gate_runs.specs.declared.lap.Lap.{Lap}
use Rattle.gate_runs.specs.declared.lap.Lap.TheVariants as lap
use Rattle.gate_runs.specs.declared.limits.Limits.{Limits}
use Rattle.gate_runs.specs.Journal.{journal, write_entry}
use Rattle.gate_runs.specs.Marks.{History, Call, RunOut, Extends, calls}
use Rattle.gate_runs.specs.Next.{Upcoming, Do, AskWrite, InPair, ask, after_put, most_writes, round}
use Rattle.gate_runs.specs.Next.{unless_gone, out_of_memory_count, point, stage_of}
use Rattle.gate_runs.specs.Report.{report}
use Rattle.gate_runs.specs.Serving.{Answered, RunsOutAt, AtWrite, counted}
use Rattle.gate_runs.specs.Stages.{Stage, Writing, Shutting, later, lap_end, lap_after, writing_at}
use Rattle.gate_runs.specs.Stages.{at_running_out}
use Rattle.gate_turns.specs.declared.live.Live.{Live}
use Rattle.gate_turns.specs.declared.tally.SinkFault.{SinkFault}
use Rattle.gate_turns.specs.declared.tally.SinkFault.TheVariants.{Capture}
use Rattle.gate_turns.specs.declared.tally.Tally.{Tally}
use Rattle.gate_turns.specs.Represents.{Represents, found_by, with_cut}
use Rattle.gate_turns.specs.Parts.{AtStage, PartContext, PartState, PartAgrees, InStage, Reaches}
use Rattle.gate_turns.specs.Parts.{PartEffect, OfferEffect, LookEffect, WriteEffect, TellsBy}
use Rattle.gate_turns.specs.Parts.{KeptBy, both, own_lines, noted, put_moved, put_more, stage_wrote}
use Rattle.gate_turns.specs.Parts.{state}
use Rattle.gate_turns.proofs.CallMarks.{is_write, call_reaches}
use Rattle.gate_turns.proofs.Connects.{no_capture}
use Rattle.gate_turns.proofs.Extending.{extends_call, extends_map, extends_none, extends_more}
use Rattle.gate_turns.proofs.Extending.{extends_then}
use Rattle.gate_turns.proofs.OneMark.{if_same, if_not_mine}
use Rattle.gate_turns.proofs.Reaching.{reaches, counted_more}
use Rattle.gate_turns.proofs.Stages.{asks, at_pass, at_call, at_run_out, is_written}

-- ---- what a stage of writes asks

few_are : (k : ℕ) → k < most_writes → nat_lt k most_writes ≡ true
few_are k h = grind (arith, nat_tests)

abbrev write_of : ℕ → Lap → List ℕ → Upcoming
write_of p lap bytes = Do (AskWrite p (lap_end lap) bytes)

asks_write : (w : RelayWords) (p : ℕ) (lap : Lap) (k : ℕ) (h : List Entry) (bytes : List ℕ) → k < most_writes → offers w (lap_end lap) h ≡ Some bytes
    → ask w p (Writing lap k) h ≡ Some (Do (AskWrite p (lap_end lap) bytes))
asks_write w p lap k h bytes few e =
    ap (λ (t : Bool). if t then option_map (λ (x : List ℕ). write_of p lap x) (offers w (lap_end lap) h) else None) (few_are k few)
    ∙ ap (λ (o : Option (List ℕ)). option_map (λ (x : List ℕ). write_of p lap x) o) e

abbrev no_ask : Option Upcoming
no_ask = None

pub no_write : (w : RelayWords) (p : ℕ) (lap : Lap) (k : ℕ) (h : List Entry) → offers w (lap_end lap) h ≡ None → ask w p (Writing lap k) h ≡ None
no_write w p lap k h e =
    ap (λ (o : Option (List ℕ)). if nat_lt k most_writes then option_map (λ (x : List ℕ). write_of p lap x) o else None) e ∙ same (nat_lt k most_writes)
  where
    same : (b : Bool) → (if b then no_ask else no_ask) ≡ no_ask
    same true = refl
    same false = refl

after_is : (answer : Put) (l : Lap) (k : ℕ) → after_put answer (Writing l k) ≡ stage_wrote (put_more answer) l k
after_is (put.Took n) l k = refl
after_is put.NotYet l k = refl
after_is put.Failed l k = refl

write_at : (w : RelayWords) (c : Limits) (p : ℕ) (l : Lap) (k : ℕ) (ps : List ℕ) (m : History) (bytes : List ℕ) (answer : Put) → k < most_writes
    → offers w (lap_end l) (journal p m) ≡ Some bytes → Answered m (Write p (lap_end l) bytes answer)
    → AtStage w c p (Writing l k) ps m → AtStage w c p (stage_wrote (put_more answer) l k) ps (Call (Write p (lap_end l) bytes answer) ∷ m)
write_at w c p l k ps m bytes answer few e answered a =
    at_call w c p (Writing l k) (stage_wrote (put_more answer) l k) ps m (Write p (lap_end l) bytes answer)
    (asks_write w p l k (journal p m) bytes few e) answered
    (ap (λ (s : Stage). InPair p (after_put answer s)) (is_written l k _ a.written) ∙ ap (λ (s : Stage). InPair p s) (after_is answer l k)) refl a

-- ---- the call

pub offer_log : {A : Type 0} (w : RelayWords) (r : A → List Entry → Type 0) (end : End) (bytes : List ℕ) (answer : Put) (told result : Result (Unit {0}) SinkFault) (keeps more : Bool)
    (old new : Live A) (tally tally' : Tally) (held held' kept kept' : Option (List ℕ)) (a b : Option (List LogEntry))
    → tally' ≡ noted (put_moved answer) false tally → more ≡ put_more answer → new.number ≡ old.number → (has_end old.sides ≡ true → has_end new.sides ≡ true)
    → ((m : History) → Answered m (Write old.number end bytes answer))
    → ((h : List Entry) → Represents r old h → Represents r new (write_entry end bytes answer ∷ h))
    → ((h : List Entry) → Represents r new h → TellsBy told held held' (own_lines false new.number (w.lines h)))
    → result ≡ both told keeps → KeptBy keeps kept kept' (Write old.number end bytes answer) → Tells a b (Write old.number end bytes answer)
    → Extends a b (OfferEffect w r end bytes more result (state old tally held kept) (state new tally' held' kept'))
offer_log {A} w r end bytes answer told result keeps more old new tally tally' held held' kept kept' a b is_noted is_more number has answered entry tells is_both keep log =
    extends_call a b (Write old.number end bytes answer) _ log (λ m. rw (is_noted, is_more, is_both) (record { goes = λ l k x e few offered i. go m l k x e few offered i }))
  where
    go : (m : History) (l : Lap) (k : ℕ) (x : PartContext) → lap_end l ≡ end → k < most_writes → offers w end (journal x.pair m) ≡ Some bytes
        → InStage w r x (Writing l k) (state old tally held kept) m
        → Reaches w r x (both told keeps) (stage_wrote (put_more answer) l k) (state new (noted (put_moved answer) false tally) held' kept') (Call (Write old.number end bytes answer) ∷ m)
    go m l k x e few offered i =
        subst (λ (q : ℕ). Reaches w r x (both told keeps) (stage_wrote (put_more answer) l k) (state new (noted (put_moved answer) false tally) held' kept') (Call (Write q end bytes answer) ∷ m)) (sym i.agrees.number)
        (call_reaches w r x (Writing l k) (stage_wrote (put_more answer) l k) (Write x.pair end bytes answer) (write_entry end bytes answer) (put_moved answer) told keeps old new tally held held' kept kept' m
        (is_write w x.pair end bytes answer m) number has
        (λ at. subst (λ (f : End). AtStage w x.limits x.pair (stage_wrote (put_more answer) l k) x.behind (Call (Write x.pair f bytes answer) ∷ m)) e
        (write_at w x.limits x.pair l k x.behind m bytes answer few (subst (λ (f : End). offers w f (journal x.pair m) ≡ Some bytes) (sym e) offered)
        (subst (λ (f : End). Answered m (Write x.pair f bytes answer)) (sym e) (subst (λ (q : ℕ). Answered m (Write q end bytes answer)) i.agrees.number (answered m))) at))
        entry tells (subst (λ (q : ℕ). KeptBy keeps kept kept' (Write q end bytes answer)) i.agrees.number keep) i)

-- ---- the look

-- nothing ran out
pub look_calm : {A : Type 0} (w : RelayWords) (r : A → List Entry → Type 0) (end : End) (found : Option (List ℕ)) (old new : Live A) (tally : Tally) (held kept : Option (List ℕ)) (log : Option (List LogEntry))
    → new.number ≡ old.number → new.sides ≡ old.sides → ((h : List Entry) → Represents r old h → offers w end h ≡ found)
    → ((h : List Entry) → Represents r old h → Represents r new h)
    → Extends log log (LookEffect w r end false found (Ok tt) (state old tally held kept) (state new tally held kept))
look_calm {A} w r end found old new tally held kept log number sides offered keeps = extends_none log _ (λ m. record {
  goes = λ l k x e few i. record {
    at = i.at;
    has = ap has_end sides ∙ i.has;
    agrees = record {
      number = number ∙ i.agrees.number;
      represents = keeps (journal x.pair m) i.agrees.represents;
      others = i.agrees.others;
      live = i.agrees.live ∙ ap (λ (s : Sides). unless_gone (has_end s) x.pair x.live) (sym sides);
      accepts = i.agrees.accepts;
      turn = i.agrees.turn;
      time = i.agrees.time;
      motion = i.agrees.motion;
      count = i.agrees.count;
      finish = i.agrees.finish;
    };
    told = i.told;
    kept = i.kept;
  };
  found_is = λ x a. offered (journal x.pair m) a.represents;
})

out_agrees : {A : Type 0} (r : A → List Entry → Type 0) (x : PartContext) (s : Stage) (old new : Live A) (tally : Tally) (held held' kept : Option (List ℕ)) (m : History)
    → new.number ≡ old.number → new.sides ≡ old.sides → ((h : List Entry) → Represents r old h → Represents r new (OutOfMemory 0 ∷ h))
    → PartAgrees r x (state old tally held kept) m → PartAgrees r x (state new (noted false true tally) held' kept) (RunOut x.pair s 0 ∷ m)
out_agrees {A} r x s old new tally held held' kept m number sides keeps a = record {
  number = number ∙ a.number;
  represents = subst (λ (h : List Entry). Represents r new h) (sym (if_same x.pair _ _)) (keeps (journal x.pair m) a.represents);
  others = λ q ne. if_not_mine x.pair q _ _ ne ∙ a.others q ne;
  live = a.live ∙ ap (λ (t : Sides). unless_gone (has_end t) x.pair x.live) (sym sides);
  accepts = a.accepts;
  turn = a.turn;
  time = a.time;
  motion = a.motion ∙ sym (or_false tally.moved);
  count = counted_more (out_of_memory_count m) ∙ ap (λ (n : ℕ). counted (n + 1)) a.count;
  finish = a.finish;
}
  where
    or_false : (b : Bool) → (b || false) ≡ b
    or_false true = refl
    or_false false = refl

some_of : (o : Option (List ℕ)) → is_some o ≡ true → (bytes : List ℕ) × (o ≡ Some bytes)
some_of None e = absurd cc
some_of (Some bytes) e = (bytes, refl)

-- the pair ran out of memory
pub look_out : {A : Type 0} (w : RelayWords) (r : A → List Entry → Type 0) (end : End) (found : Option (List ℕ)) (told : Result (Unit {0}) SinkFault) (old new : Live A) (tally tally' : Tally)
    (held held' kept : Option (List ℕ)) (log : Option (List LogEntry)) → tally' ≡ noted false true tally
    → new.number ≡ old.number → new.sides ≡ old.sides → told ≢ Err Capture
    → ((h : List Entry) → Represents r old h → is_out_of_memory h ≡ false) → ((h : List Entry) → Represents r old h → is_some (offers w end h) ≡ true)
    → ((h : List Entry) → Represents r old h → w.takes_memory end h ≡ true)
    → ((h : List Entry) → Represents r old h → offers w end (OutOfMemory 0 ∷ h) ≡ found)
    → ((h : List Entry) → Represents r old h → Represents r new (OutOfMemory 0 ∷ h))
    → ((h : List Entry) → Represents r new h → TellsBy told held held' (own_lines true new.number (w.lines h)))
    → Extends log log (LookEffect w r end true found told (state old tally held kept) (state new tally' held' kept))
look_out {A} w r end found told old new tally tally' held held' kept log is_noted number sides never calm due takes offered keeps tells =
    rw is_noted (extends_more log log (λ m n. n ≡ m) _ (extends_none log _ (λ m. refl))
    (λ m n e. (
      RunOut old.number (at_running_out (writing_at end (stage_of old.number (point m)))) 0 ∷ m,
      ap calls (sym e),
      record {
        goes = λ l k x f few i. subst (λ (q : ℕ). Reaches w r x told (Writing (lap_after true l) k) (state new (noted false true tally) held' kept) (RunOut q (at_running_out (writing_at end (stage_of q (point m)))) 0 ∷ m)) (sym i.agrees.number) (go m l k x f few i);
        found_is = λ x a. subst (λ (q : ℕ). offers w end (journal x.pair (RunOut q (at_running_out (writing_at end (stage_of q (point m)))) 0 ∷ m)) ≡ found) (sym a.number)
            (ap (λ (h : List Entry). offers w end h) (if_same x.pair _ _) ∙ offered (journal x.pair m) a.represents);
      },
    )))
  where
    go : (m : History) (l : Lap) (k : ℕ) (x : PartContext) → lap_end l ≡ end → k < most_writes → InStage w r x (Writing l k) (state old tally held kept) m
        → Reaches w r x told (Writing (lap_after true l) k) (state new (noted false true tally) held' kept) (RunOut x.pair (at_running_out (writing_at end (stage_of x.pair (point m)))) 0 ∷ m)
    go m l k x e few i =
        let s : Stage = Writing (lap_after true l) k in
        let here : at_running_out (writing_at end (stage_of x.pair (point m))) ≡ s =
        ap (λ (f : End). at_running_out (writing_at f (stage_of x.pair (point m)))) (sym e) ∙ ap at_running_out (is_written l k _ i.at.written) in
        let o = some_of _ (due (journal x.pair m) i.agrees.represents) in
        let there : offers w (lap_end l) (journal x.pair m) ≡ Some o.0 = ap (λ (f : End). offers w f (journal x.pair m)) e ∙ o.1 in
        let agrees : PartAgrees r x (state new (noted false true tally) held' kept) (RunOut x.pair s 0 ∷ m) = out_agrees r x s old new tally held held' kept m number sides keeps i.agrees in
        let asked = i.at.coming ∙ asks w x.pair (Writing l k) (journal x.pair m) (round w x.limits m x.behind) _ (asks_write w x.pair l k (journal x.pair m) o.0 few there) in
        subst (λ (t : Stage). Reaches w r x told s (state new (noted false true tally) held' kept) (RunOut x.pair t 0 ∷ m)) (sym here)
        (reaches w r x told s (state new (noted false true tally) held' kept) held (RunOut x.pair s 0 ∷ m) (report w m) (own_lines true x.pair (w.lines (journal x.pair (RunOut x.pair s 0 ∷ m))))
        (at_run_out w x.limits x.pair (Writing l k) s 0 x.behind m (calm (journal x.pair m) i.agrees.represents)
        (subst (λ (t : Stage). RunsOutAt w x.limits x.pair t 0 m) here
        (AtWrite end o.0 m (asked ∙ ap (λ (f : End). Do (AskWrite x.pair f o.0)) e) (takes (journal x.pair m) i.agrees.represents))) i.at)
        (ap has_end sides ∙ i.has) agrees refl i.told
        (subst (λ (q : ℕ). TellsBy told held held' (own_lines true q (w.lines (journal x.pair (RunOut x.pair s 0 ∷ m))))) agrees.number (tells (journal x.pair (RunOut x.pair s 0 ∷ m)) agrees.represents))
        (λ f. absurd (never f)) (no_capture told x.kept kept (calls m) i.kept))

pub look_out_if : {A : Type 0} (w : RelayWords) (r : A → List Entry → Type 0) (end : End) (ran_out : Bool) (found : Option (List ℕ)) (told : Result (Unit {0}) SinkFault) (old new : Live A) (tally tally' : Tally)
    (held held' kept : Option (List ℕ)) (log : Option (List LogEntry)) → not ran_out ≡ false → tally' ≡ noted false true tally
    → new.number ≡ old.number → new.sides ≡ old.sides → told ≢ Err Capture
    → (ran_out ≡ true → (h : List Entry) → Represents r old h → is_out_of_memory h ≡ false)
    → (ran_out ≡ true → (h : List Entry) → Represents r old h → is_some (offers w end h) ≡ true)
    → (ran_out ≡ true → (h : List Entry) → Represents r old h → w.takes_memory end h ≡ true)
    → ((h : List Entry) → Represents r old h → offers w end (with_cut ran_out 0 h) ≡ found)
    → ((h : List Entry) → Represents r old h → Represents r new (with_cut ran_out 0 h))
    → ((h : List Entry) → Represents r new h → TellsBy told held held' (own_lines true new.number (w.lines h)))
    → Extends log log (LookEffect w r end ran_out found told (state old tally held kept) (state new tally' held' kept))
look_out_if {A} w r end true found told old new tally tally' held held' kept log is_out is_noted number sides never calm due takes offered keeps tells =
    look_out w r end found told old new tally tally' held held' kept log is_noted number sides never (calm refl) (due refl) (takes refl) offered keeps tells
look_out_if {A} w r end false found told old new tally tally' held held' kept log is_out is_noted number sides never calm due takes offered keeps tells = absurd cc

-- ---- both

end_kept : (b : Bool) (l : Lap) → lap_end (lap_after b l) ≡ lap_end l
end_kept true lap.ToUp = refl
end_kept true lap.ToClient = refl
end_kept true lap.ToClientLate = refl
end_kept true lap.ToUpAgain = refl
end_kept false l = refl

-- it was looked, and then written
pub look_write : {A : Type 0} (w : RelayWords) (r : A → List Entry → Type 0) (end : End) (ran_out more : Bool) (bytes : List ℕ) (found : Option (List ℕ)) (result : Result (Unit {0}) SinkFault)
    (old mid new : PartState A) (m n k : History) → found ≡ Some bytes
    → LookEffect w r end ran_out found (Ok tt) old mid m n → OfferEffect w r end bytes more result mid new n k → WriteEffect w r end more ran_out result old new m k
look_write {A} w r end ran_out more bytes found result old mid new m n k is f g = record {
  goes = λ l i x e few s. g.goes (lap_after ran_out l) i x (end_kept ran_out l ∙ e) few (f.found_is x s.agrees ∙ is) (f.goes l i x e few s);
}

-- a sink failed at the look
pub look_stops : {A : Type 0} (w : RelayWords) (r : A → List Entry → Type 0) (end : End) (ran_out : Bool) (found : Option (List ℕ)) (fault : SinkFault) (old new : PartState A) (m n : History)
    → LookEffect w r end ran_out found (Err fault) old new m n → WriteEffect w r end false ran_out (Err fault) old new m n
look_stops {A} w r end ran_out found fault old new m n f = record { goes = λ l k x e few i. f.goes l k x e few i }

-- it was looked, and nothing is offered
pub look_none : {A : Type 0} (w : RelayWords) (r : A → List Entry → Type 0) (end : End) (ran_out : Bool) (found : Option (List ℕ)) (old new : PartState A) (m n : History) → found ≡ None
    → LookEffect w r end ran_out found (Ok tt) old new m n → WriteEffect w r end false ran_out (Ok tt) old new m n
look_none {A} w r end ran_out found old new m n none f = record {
  goes = λ l k x e few i.
      let j : InStage w r x (Writing (lap_after ran_out l) k) new n = f.goes l k x e few i in
      record {
        at = at_pass w x.limits x.pair (Writing (lap_after ran_out l) k) x.behind n
            (no_write w x.pair (lap_after ran_out l) k (journal x.pair n) (ap (λ (g : End). offers w g (journal x.pair n)) (end_kept ran_out l ∙ e) ∙ f.found_is x i.agrees ∙ none)) j.at;
        has = j.has;
        agrees = j.agrees;
        told = j.told;
        kept = j.kept;
      };
}

pub same_some : (a b : List ℕ) → Some a ≡ Some b → a ≡ b
same_some a b e = cc

-- what ports answered to a write
pub writes_answered : (p : ℕ) (end : End) (bytes : List ℕ) (answer : Put) → TakesSome answer (length bytes) → (m : History) → Answered m (Write p end bytes answer)
writes_answered p end bytes (put.Took n) t m = t
writes_answered p end bytes put.NotYet t m = tt
writes_answered p end bytes put.Failed t m = tt

-- ---- over histories

pub look_write_log : {A : Type 0} (w : RelayWords) (r : A → List Entry → Type 0) (end : End) (ran_out more flag : Bool) (rd : Option (List ℕ)) (told result : Result (Unit {0}) SinkFault)
    (old mid new : PartState A) (a b : Option (List LogEntry)) → told ≡ Ok tt → flag ≡ true → is_some rd ≡ true
    → Extends a a (LookEffect w r end ran_out (found_by flag rd) told old mid)
    → ((bytes : List ℕ) → rd ≡ Some bytes → Extends a b (OfferEffect w r end bytes more result mid new))
    → Extends a b (WriteEffect w r end more ran_out result old new)
look_write_log {A} w r end ran_out more flag rd told result old mid new a b is_told is_ready some looked offer =
    let o = some_of rd some in
    extends_then a a b (LookEffect w r end ran_out (found_by flag rd) told old mid) (OfferEffect w r end o.0 more result mid new) (WriteEffect w r end more ran_out result old new) looked (offer o.0 o.1)
    (λ m n k f g. look_write w r end ran_out more o.0 (found_by flag rd) result old mid new m n k (ap (λ (t : Bool). found_by t rd) is_ready ∙ o.1)
    (subst (λ (t : Result (Unit {0}) SinkFault). LookEffect w r end ran_out (found_by flag rd) t old mid m n) is_told f) g)

pub look_none_log : {A : Type 0} (w : RelayWords) (r : A → List Entry → Type 0) (end : End) (ran_out flag : Bool) (rd : Option (List ℕ)) (told : Result (Unit {0}) SinkFault)
    (old new : PartState A) (a : Option (List LogEntry)) → told ≡ Ok tt → flag ≡ false
    → Extends a a (LookEffect w r end ran_out (found_by flag rd) told old new) → Extends a a (WriteEffect w r end false ran_out (Ok tt) old new)
look_none_log {A} w r end ran_out flag rd told old new a is_told is_ready looked =
    extends_map a a (LookEffect w r end ran_out (found_by flag rd) told old new) (WriteEffect w r end false ran_out (Ok tt) old new) looked
    (λ m n f. look_none w r end ran_out (found_by flag rd) old new m n (ap (λ (t : Bool). found_by t rd) is_ready)
    (subst (λ (t : Result (Unit {0}) SinkFault). LookEffect w r end ran_out (found_by flag rd) t old new m n) is_told f))

pub look_stops_log : {A : Type 0} (w : RelayWords) (r : A → List Entry → Type 0) (end : End) (ran_out : Bool) (found : Option (List ℕ)) (told : Result (Unit {0}) SinkFault) (fault : SinkFault)
    (old new : PartState A) (a : Option (List LogEntry)) → told ≡ Err fault
    → Extends a a (LookEffect w r end ran_out found told old new) → Extends a a (WriteEffect w r end false ran_out (Err fault) old new)
look_stops_log {A} w r end ran_out found told fault old new a is_told looked =
    extends_map a a (LookEffect w r end ran_out found told old new) (WriteEffect w r end false ran_out (Err fault) old new) looked
    (λ m n f. look_stops w r end ran_out found fault old new m n (subst (λ (t : Result (Unit {0}) SinkFault). LookEffect w r end ran_out found t old new m n) is_told f))

-- ---- laps

-- the lap goes on
lap_twice : (a b : Bool) (l : Lap) → lap_after b (lap_after a l) ≡ lap_after (a || b) l
lap_twice true true lap.ToUp = refl
lap_twice true true lap.ToClient = refl
lap_twice true true lap.ToClientLate = refl
lap_twice true true lap.ToUpAgain = refl
lap_twice true false l = refl
lap_twice false b l = refl

later_any : (l : Lap) (k : ℕ) → later (Writing l k) ≡ later (Writing l 0)
later_any lap.ToUp k = refl
later_any lap.ToClient k = refl
later_any lap.ToClientLate k = refl
later_any lap.ToUpAgain k = refl

-- one write more, after which more may be written
pub lap_more : {A : Type 0} (w : RelayWords) (r : A → List Entry → Type 0) (end : End) (l : Lap) (k : ℕ) (more s t : Bool) (result : Result (Unit {0}) SinkFault) (old mid new : PartState A) (a b d : Option (List LogEntry))
    → end ≡ lap_end l → k < most_writes → more ≡ true → result ≡ Ok tt
    → Extends a b (PartEffect w r (Writing l 0) (Writing (lap_after s l) k) (Ok tt) old mid) → Extends b d (WriteEffect w r end more t result mid new)
    → Extends a d (PartEffect w r (Writing l 0) (Writing (lap_after (s || t) l) (k + 1)) (Ok tt) old new)
lap_more {A} w r end l k more s t result old mid new a b d e few is_more is_ok f g =
    extends_then a b d (PartEffect w r (Writing l 0) (Writing (lap_after s l) k) (Ok tt) old mid) (WriteEffect w r end more t result mid new) _ f g
    (λ m n o x y. record {
      goes = λ z i.
          subst (λ (u : Lap). InStage w r z (Writing u (k + 1)) new o) (lap_twice s t l)
          (subst (λ (u : Bool). Reaches w r z (Ok tt) (stage_wrote u (lap_after t (lap_after s l)) k) new o) is_more
          (subst (λ (u : Result (Unit {0}) SinkFault). Reaches w r z u (stage_wrote more (lap_after t (lap_after s l)) k) new o) is_ok
          (y.goes (lap_after s l) k z (end_kept s l ∙ sym e) few (x.goes z i))));
    })

-- the last write of a lap
pub lap_last : {A : Type 0} (w : RelayWords) (r : A → List Entry → Type 0) (end : End) (l : Lap) (k : ℕ) (more s t : Bool) (result : Result (Unit {0}) SinkFault) (old mid new : PartState A) (a b d : Option (List LogEntry))
    → end ≡ lap_end l → k < most_writes → more ≡ false
    → Extends a b (PartEffect w r (Writing l 0) (Writing (lap_after s l) k) (Ok tt) old mid) → Extends b d (WriteEffect w r end more t result mid new)
    → Extends a d (PartEffect w r (Writing l 0) (later (Writing (lap_after (s || t) l) 0)) result old new)
lap_last {A} w r end l k more s t result old mid new a b d e few is_more f g =
    extends_then a b d (PartEffect w r (Writing l 0) (Writing (lap_after s l) k) (Ok tt) old mid) (WriteEffect w r end more t result mid new) _ f g
    (λ m n o x y. record {
      goes = λ z i.
          subst (λ (u : Stage). Reaches w r z result u new o) (ap (λ (u : Lap). later (Writing u k)) (lap_twice s t l) ∙ later_any (lap_after (s || t) l) k)
          (subst (λ (u : Bool). Reaches w r z result (stage_wrote u (lap_after t (lap_after s l)) k) new o) is_more
          (y.goes (lap_after s l) k z (end_kept s l ∙ sym e) few (x.goes z i)));
    })

-- a sink failed in a lap
pub lap_stops : {A : Type 0} (w : RelayWords) (r : A → List Entry → Type 0) (end : End) (l : Lap) (k : ℕ) (more s t : Bool) (fault : SinkFault) (to : Stage) (result : Result (Unit {0}) SinkFault) (old mid new : PartState A) (a b d : Option (List LogEntry))
    → end ≡ lap_end l → k < most_writes → result ≡ Err fault
    → Extends a b (PartEffect w r (Writing l 0) (Writing (lap_after s l) k) (Ok tt) old mid) → Extends b d (WriteEffect w r end more t result mid new)
    → Extends a d (PartEffect w r (Writing l 0) to (Err fault) old new)
lap_stops {A} w r end l k more s t fault to result old mid new a b d e few is_err f g =
    extends_then a b d (PartEffect w r (Writing l 0) (Writing (lap_after s l) k) (Ok tt) old mid) (WriteEffect w r end more t result mid new) _ f g
    (λ m n o x y. record {
      goes = λ z i.
          subst (λ (u : Result (Unit {0}) SinkFault). Reaches w r z u (stage_wrote more (lap_after t (lap_after s l)) k) new o) is_err
          (y.goes (lap_after s l) k z (end_kept s l ∙ sym e) few (x.goes z i));
    })

no_more : (w : RelayWords) (p : ℕ) (l : Lap) (h : List Entry) → ask w p (Writing l 4096) h ≡ None
no_more w p l h = refl

-- all the writes of a lap were made
pub lap_full : {A : Type 0} (w : RelayWords) (r : A → List Entry → Type 0) (l : Lap) (k : ℕ) (s : Bool) (old new : PartState A) (a b : Option (List LogEntry)) → k ≡ 4096
    → Extends a b (PartEffect w r (Writing l 0) (Writing (lap_after s l) k) (Ok tt) old new)
    → Extends a b (PartEffect w r (Writing l 0) (later (Writing (lap_after s l) 0)) (Ok tt) old new)
lap_full {A} w r l k s old new a b full f =
    extends_map a b (PartEffect w r (Writing l 0) (Writing (lap_after s l) k) (Ok tt) old new) _ f
    (λ m n x. record {
      goes = λ z i.
          let j : InStage w r z (Writing (lap_after s l) 4096) new n = subst (λ (q : ℕ). InStage w r z (Writing (lap_after s l) q) new n) full (x.goes z i) in
          record {
            at = subst (λ (u : Stage). AtStage w z.limits z.pair u z.behind n) (later_any (lap_after s l) 4096)
                (at_pass w z.limits z.pair (Writing (lap_after s l) 4096) z.behind n (no_more w z.pair (lap_after s l) (journal z.pair n)) j.at);
            has = j.has;
            agrees = j.agrees;
            told = j.told;
            kept = j.kept;
          };
    })

pub lap_begins : {A : Type 0} (w : RelayWords) (r : A → List Entry → Type 0) (l : Lap) (t : PartState A) (a : Option (List LogEntry))
    → Extends a a (PartEffect w r (Writing l 0) (Writing l 0) (Ok tt) t t)
lap_begins {A} w r l t a = extends_none a _ (λ m. record { goes = λ x i. i })

-- the stages after the laps
pub to_client : (s : Bool) → later (Writing (lap_after s lap.ToUp) 0) ≡ Writing lap.ToClient 0
to_client true = refl
to_client false = refl

pub to_shut : (s : Bool) → later (Writing (lap_after s lap.ToUpAgain) 0) ≡ Shutting Up
to_shut true = refl
to_shut false = refl

pub to_end : (s : Bool) → s ≡ false → later (Writing (lap_after s lap.ToClient) 0) ≡ Shutting Up
to_end s e = ap (λ (b : Bool). later (Writing (lap_after b lap.ToClient) 0)) e

pub to_again : (s : Bool) → s ≡ true → later (Writing (lap_after s lap.ToClient) 0) ≡ Writing lap.ToUpAgain 0
to_again s e = ap (λ (b : Bool). later (Writing (lap_after b lap.ToClient) 0)) e

-- two laps, or what comes after one
pub then_log : {A : Type 0} (w : RelayWords) (r : A → List Entry → Type 0) (from mid there to : Stage) (first result : Result (Unit {0}) SinkFault) (old new last : PartState A) (a b d : Option (List LogEntry))
    → mid ≡ there → first ≡ Ok tt → Extends a b (PartEffect w r from mid first old new) → Extends b d (PartEffect w r there to result new last) → Extends a d (PartEffect w r from to result old last)
then_log {A} w r from mid there to first result old new last a b d is_there is_ok f g =
    extends_then a b d (PartEffect w r from mid first old new) (PartEffect w r there to result new last) _ f g
    (λ m n k x y. record { goes = λ z i. y.goes z (subst (λ (u : Stage). InStage w r z u new n) is_there (subst (λ (u : Result (Unit {0}) SinkFault). Reaches w r z u mid new n) is_ok (x.goes z i))) })

pub stops_log : {A : Type 0} (w : RelayWords) (r : A → List Entry → Type 0) (from mid to : Stage) (first : Result (Unit {0}) SinkFault) (fault : SinkFault) (old new : PartState A) (a b : Option (List LogEntry))
    → first ≡ Err fault → Extends a b (PartEffect w r from mid first old new) → Extends a b (PartEffect w r from to (Err fault) old new)
stops_log {A} w r from mid to first fault old new a b is_err f =
    extends_map a b (PartEffect w r from mid first old new) _ f
    (λ m n x. record { goes = λ z i. subst (λ (u : Result (Unit {0}) SinkFault). Reaches w r z u mid new n) is_err (x.goes z i) })

pub ends_log : {A : Type 0} (w : RelayWords) (r : A → List Entry → Type 0) (from mid to : Stage) (first : Result (Unit {0}) SinkFault) (old new : PartState A) (a b : Option (List LogEntry))
    → mid ≡ to → first ≡ Ok tt → Extends a b (PartEffect w r from mid first old new) → Extends a b (PartEffect w r from to (Ok tt) old new)
ends_log {A} w r from mid to first old new a b is_to is_ok f =
    extends_map a b (PartEffect w r from mid first old new) _ f
    (λ m n x. record { goes = λ z i. subst (λ (u : Stage). InStage w r z u new n) is_to (subst (λ (u : Result (Unit {0}) SinkFault). Reaches w r z u mid new n) is_ok (x.goes z i)) })

pub to_log : {A : Type 0} (w : RelayWords) (r : A → List Entry → Type 0) (from mid to : Stage) (result : Result (Unit {0}) SinkFault) (old new : PartState A) (a b : Option (List LogEntry))
    → mid ≡ to → Extends a b (PartEffect w r from mid result old new) → Extends a b (PartEffect w r from to result old new)
to_log {A} w r from mid to result old new a b e f = subst (λ (u : Stage). Extends a b (PartEffect w r from u result old new)) e f
