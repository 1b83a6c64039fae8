-- A read of a pair's end.
use Rattle.std.proofs.Common.{◌≡◌, ◌≢◌, ℕ, ◌+◌, Bool, true, false, not, ◌||◌, ◌&&◌, if◌then◌else◌}
use Rattle.std.proofs.Common.{List, ◌∷◌, length, Option, Result, refl, sym, ap, ◌∙◌, subst}
use Rattle.std.proofs.lemmas.Bool.{and_parts}
use Rattle.std.proofs.lemmas.List.{length-take-le}
use Rattle.gate_outside.specs.declared.ports.End.{End}
use Rattle.gate_outside.specs.declared.ports.End.TheVariants.{Client, Up}
use Rattle.gate_outside.specs.declared.ports.Got.{Got}
use Rattle.gate_outside.specs.declared.ports.Got.TheVariants as got
use Rattle.gate_outside.specs.declared.log.LogEntry.{LogEntry}
use Rattle.gate_outside.specs.Ends.{ReadsInto, got_bytes}
use Rattle.gate_outside.specs.History.{Tells}
use Rattle.gate_outside.specs.declared.log.LogEntry.TheVariants.{Read}
use Rattle.gate_relay.specs.Entries.{Entry, is_out_of_memory}
use Rattle.gate_relay.specs.Guards.{reads}
use Rattle.gate_relay.specs.Relayed.{read_room}
use Rattle.gate_relay.specs.RelayWords.{RelayWords}
use Rattle.gate_relay.specs.Sides.{has_end, sides, side_of, is_readable}
use Rattle.gate_runs.specs.Journal.{journal, moment, read_entry}
use Rattle.gate_runs.specs.Marks.{History, Call, RunOut, Extends, calls}
use Rattle.gate_runs.specs.Next.{Do, AskRead, where_due, has_moved, live_pairs, unless_gone}
use Rattle.gate_runs.specs.Next.{accepted_count, turns_begun, out_of_memory_count, finish_of}
use Rattle.gate_runs.specs.Report.{report}
use Rattle.gate_runs.specs.Serving.{Answered, AtRead, IsCallLast, counted}
use Rattle.gate_runs.specs.Stages.{Reading, later}
use Rattle.gate_turns.specs.declared.live.Live.{Live}
use Rattle.gate_turns.specs.declared.tally.SinkFault.{SinkFault}
use Rattle.gate_turns.specs.declared.tally.Tally.{Tally}
use Rattle.gate_turns.specs.Represents.{Represents, with_cut, has_come}
use Rattle.gate_turns.specs.Parts.{AtStage, PartContext, PartAgrees, InStage, Reaches, PartEffect}
use Rattle.gate_turns.specs.Parts.{TellsBy, KeptBy, both, own_lines, noted, got_moved, state}
use Rattle.gate_turns.proofs.Extending.{extends_call, extends_more}
use Rattle.gate_turns.proofs.OneMark.{if_same, if_not_mine}
use Rattle.gate_turns.proofs.Reaching.{reaches, counted_more}
use Rattle.gate_turns.proofs.Reporting.{HasLines, KeepsAfter, keeps_both, tells_both}
use Rattle.gate_turns.proofs.Stages.{at_call, at_run_out}
use Rattle.wire_base.specs.Bytes.{IsBytes}

-- the marks of a read
abbrev pub read_marks : Bool → ℕ → End → ℕ → Got → List ℕ → History → History
read_marks true p end cut answer bytes m = RunOut p (later (Reading end)) cut ∷ Call (Read p end read_room answer bytes) ∷ m
read_marks false p end cut answer bytes m = Call (Read p end read_room answer bytes) ∷ m

read_journal : (ran_out : Bool) (p : ℕ) (end : End) (cut : ℕ) (answer : Got) (bytes : List ℕ) (m : History)
    → journal p (read_marks ran_out p end cut answer bytes m) ≡ with_cut ran_out cut (read_entry end answer bytes ∷ journal p m)
read_journal true p end cut answer bytes m = if_same p _ _ ∙ ap (λ (h : List Entry). with_cut true cut h) (if_same p (read_entry end answer bytes ∷ journal p m) (journal p m))
read_journal false p end cut answer bytes m = if_same p _ _

read_others : (ran_out : Bool) (p q : ℕ) (end : End) (cut : ℕ) (answer : Got) (bytes : List ℕ) (m : History) → q ≢ p
    → journal q (read_marks ran_out p end cut answer bytes m) ≡ journal q m
read_others true p q end cut answer bytes m ne = if_not_mine p q _ _ ne ∙ if_not_mine p q _ _ ne
read_others false p q end cut answer bytes m ne = if_not_mine p q _ _ ne

read_lines : (w : RelayWords) (ran_out : Bool) (p : ℕ) (end : End) (cut : ℕ) (answer : Got) (bytes : List ℕ) (m : History)
    → HasLines w (read_marks ran_out p end cut answer bytes m) (report w m) (own_lines ran_out p (w.lines (journal p (read_marks ran_out p end cut answer bytes m))))
read_lines w true p Client cut answer bytes m = refl
read_lines w true p Up cut answer bytes m = refl
read_lines w false p end cut answer bytes m = refl

or_true : (b : Bool) → (b || true) ≡ true
or_true true = refl
or_true false = refl

or_false : (b : Bool) → (b || false) ≡ b
or_false true = refl
or_false false = refl

read_motion : (ran_out : Bool) (p : ℕ) (end : End) (cut : ℕ) (answer : Got) (bytes : List ℕ) (m : History) (b : Bool) → has_moved m ≡ b
    → has_moved (read_marks ran_out p end cut answer bytes m) ≡ (b || got_moved answer)
read_motion true p end cut (got.Bytes n) bytes m b e = sym (or_true b)
read_motion true p end cut got.NotYet bytes m b e = e ∙ sym (or_false b)
read_motion true p end cut got.Ended bytes m b e = sym (or_true b)
read_motion true p end cut got.Failed bytes m b e = sym (or_true b)
read_motion false p end cut (got.Bytes n) bytes m b e = sym (or_true b)
read_motion false p end cut got.NotYet bytes m b e = e ∙ sym (or_false b)
read_motion false p end cut got.Ended bytes m b e = sym (or_true b)
read_motion false p end cut got.Failed bytes m b e = sym (or_true b)

read_count : (ran_out : Bool) (p : ℕ) (end : End) (cut : ℕ) (answer : Got) (bytes : List ℕ) (m : History) (k : ℕ) → counted (out_of_memory_count m) ≡ k
    → counted (out_of_memory_count (read_marks ran_out p end cut answer bytes m)) ≡ (if ran_out then counted (k + 1) else k)
read_count true p end cut answer bytes m k e = counted_more (out_of_memory_count m) ∙ ap (λ (n : ℕ). counted (n + 1)) e
read_count false p end cut answer bytes m k e = e

read_at : (w : RelayWords) (x : PartContext) (ran_out : Bool) (end : End) (cut : ℕ) (answer : Got) (bytes : List ℕ) (m : History)
    → reads w end (journal x.pair m) ≡ true → is_out_of_memory (journal x.pair m) ≡ false → (ran_out ≡ true → has_come answer ≡ true) → Answered m (Read x.pair end read_room answer bytes)
    → AtStage w x.limits x.pair (Reading end) x.behind m → AtStage w x.limits x.pair (later (Reading end)) x.behind (read_marks ran_out x.pair end cut answer bytes m)
read_at w x false end cut answer bytes m due calm came answered a =
    at_call w x.limits x.pair (Reading end) (later (Reading end)) x.behind m (Read x.pair end read_room answer bytes)
    (ap (λ (b : Bool). where_due b (Do (AskRead x.pair end read_room))) due) answered refl refl a
read_at w x true end cut (got.Bytes n) bytes m due calm came answered a =
    at_run_out w x.limits x.pair (later (Reading end)) (later (Reading end)) cut x.behind _ (ap is_out_of_memory (if_same x.pair (read_entry end (got.Bytes n) bytes ∷ journal x.pair m) (journal x.pair m)) ∙ calm)
    (AtRead cut end read_room n bytes m)
    (at_call w x.limits x.pair (Reading end) (later (Reading end)) x.behind m (Read x.pair end read_room (got.Bytes n) bytes)
    (ap (λ (b : Bool). where_due b (Do (AskRead x.pair end read_room))) due) answered refl refl a)
read_at w x true end cut got.NotYet bytes m due calm came answered a = let no : false ≡ true = came refl in absurd cc
read_at w x true end cut got.Ended bytes m due calm came answered a = let no : false ≡ true = came refl in absurd cc
read_at w x true end cut got.Failed bytes m due calm came answered a = let no : false ≡ true = came refl in absurd cc

call_last : (ran_out : Bool) (p : ℕ) (end : End) (cut : ℕ) (answer : Got) (bytes : List ℕ) (m : History) → IsCallLast (read_marks ran_out p end cut answer bytes m)
call_last true p end cut answer bytes m = tt
call_last false p end cut answer bytes m = tt

read_calls : (ran_out : Bool) (p : ℕ) (end : End) (cut : ℕ) (answer : Got) (bytes : List ℕ) (m : History) → calls (read_marks ran_out p end cut answer bytes m) ≡ Read p end read_room answer bytes ∷ calls m
read_calls true p end cut answer bytes m = refl
read_calls false p end cut answer bytes m = refl

read_live : (ran_out : Bool) (p : ℕ) (end : End) (cut : ℕ) (answer : Got) (bytes : List ℕ) (m : History) → live_pairs (read_marks ran_out p end cut answer bytes m) ≡ live_pairs m
read_live true p end cut answer bytes m = refl
read_live false p end cut answer bytes m = refl

pub unless_kept : (b c : Bool) (p : ℕ) (ps : List ℕ) → b ≡ true → c ≡ true → unless_gone b p ps ≡ unless_gone c p ps
unless_kept b c p ps e f = ap (λ (d : Bool). unless_gone d p ps) (e ∙ sym f)

read_agrees : {A : Type 0} (r : A → List Entry → Type 0) (x : PartContext) (ran_out : Bool) (end : End) (cut : ℕ) (answer : Got) (bytes : List ℕ) (old new : Live A) (tally : Tally)
    (held held' : Option (List ℕ)) (kept kept' : Option (List ℕ)) (m : History) → new.number ≡ old.number → has_end old.sides ≡ true → has_end new.sides ≡ true
    → ((h : List Entry) → Represents r old h → Represents r new (with_cut ran_out cut (read_entry end answer bytes ∷ h)))
    → PartAgrees r x (state old tally held kept) m → PartAgrees r x (state new (noted (got_moved answer) ran_out tally) held' kept') (read_marks ran_out x.pair end cut answer bytes m)
read_agrees {A} r x ran_out end cut answer bytes old new tally held held' kept kept' m number has has' entry a = record {
  number = number ∙ a.number;
  represents = subst (λ (h : List Entry). Represents r new h) (sym (read_journal ran_out x.pair end cut answer bytes m)) (entry (journal x.pair m) a.represents);
  others = λ q ne. read_others ran_out x.pair q end cut answer bytes m ne ∙ a.others q ne;
  live = read_live ran_out x.pair end cut answer bytes m ∙ a.live ∙ unless_kept (has_end old.sides) (has_end new.sides) x.pair x.live has has';
  accepts = same ran_out (λ (k : History). accepted_count k) refl refl ∙ a.accepts;
  turn = same ran_out (λ (k : History). turns_begun k) refl refl ∙ a.turn;
  time = same ran_out (λ (k : History). moment k) refl refl ∙ a.time;
  motion = read_motion ran_out x.pair end cut answer bytes m tally.moved a.motion;
  count = read_count ran_out x.pair end cut answer bytes m tally.out_of_memory a.count;
  finish = finish ran_out ∙ a.finish;
}
  where
    same : (b : Bool) (f : History → ℕ) → f (read_marks true x.pair end cut answer bytes m) ≡ f m → f (read_marks false x.pair end cut answer bytes m) ≡ f m
        → f (read_marks b x.pair end cut answer bytes m) ≡ f m
    same true f e g = e
    same false f e g = g

    finish : (b : Bool) → finish_of (read_marks b x.pair end cut answer bytes m) ≡ finish_of m
    finish true = refl
    finish false = refl

-- what may be read isn't out of memory
pub reads_calm : (w : RelayWords) (end : End) (h : List Entry) → reads w end h ≡ true → is_out_of_memory h ≡ false
reads_calm w end h e = calm (is_out_of_memory h) (and_parts (not (is_out_of_memory h)) (w.awaits end h) (and_parts (is_readable (side_of end (sides h))) (not (is_out_of_memory h) && w.awaits end h) e).1).0
  where
    calm : (b : Bool) → not b ≡ true → b ≡ false
    calm true e = absurd cc
    calm false e = refl

pub read_effect : {A : Type 0} (w : RelayWords) (r : A → List Entry → Type 0) (end : End) (answer : Got) (bytes : List ℕ) (cut : ℕ) (ran_out : Bool) (told : Result (Unit {0}) SinkFault) (keeps : Bool)
    (old new : Live A) (tally : Tally) (held held' : Option (List ℕ)) (kept kept' : Option (List ℕ)) → new.number ≡ old.number
    → (has_end old.sides ≡ true → has_end new.sides ≡ true) → (ran_out ≡ true → has_come answer ≡ true)
    → ((h : List Entry) → Represents r old h → reads w end h ≡ true)
    → ((h : List Entry) → Represents r old h → Represents r new (with_cut ran_out cut (read_entry end answer bytes ∷ h)))
    → ((m : History) → Answered m (Read old.number end read_room answer bytes))
    → ((h : List Entry) → Represents r new h → TellsBy told held held' (own_lines ran_out new.number (w.lines h)))
    → KeptBy keeps kept kept' (Read old.number end read_room answer bytes)
    → (m : History) → PartEffect w r (Reading end) (later (Reading end)) (both told keeps) (state old tally held kept) (state new (noted (got_moved answer) ran_out tally) held' kept') m (read_marks ran_out old.number end cut answer bytes m)
read_effect {A} w r end answer bytes cut ran_out told keeps old new tally held held' kept kept' number has came due entry answered tells keep m = record { goes = λ x a. goes x a }
  where
    goes : (x : PartContext) → InStage w r x (Reading end) (state old tally held kept) m
        → Reaches w r x (both told keeps) (later (Reading end)) (state new (noted (got_moved answer) ran_out tally) held' kept') (read_marks ran_out old.number end cut answer bytes m)
    goes x a =
        let p : old.number ≡ x.pair = a.agrees.number in
        let n : History = read_marks ran_out x.pair end cut answer bytes m in
        let agrees : PartAgrees r x (state new (noted (got_moved answer) ran_out tally) held' kept') n =
        read_agrees r x ran_out end cut answer bytes old new tally held held' kept kept' m number a.has (has a.has) entry a.agrees in
        let ready : reads w end (journal x.pair m) ≡ true = due (journal x.pair m) a.agrees.represents in
        subst (λ (q : ℕ). Reaches w r x (both told keeps) (later (Reading end)) (state new (noted (got_moved answer) ran_out tally) held' kept') (read_marks ran_out q end cut answer bytes m)) (sym p)
        (reaches w r x (both told keeps) (later (Reading end)) (state new (noted (got_moved answer) ran_out tally) held' kept') held n (report w m) (own_lines ran_out x.pair (w.lines (journal x.pair n)))
        (read_at w x ran_out end cut answer bytes m ready (reads_calm w end (journal x.pair m) ready) came (subst (λ (q : ℕ). Answered m (Read q end read_room answer bytes)) p (answered m)) a.at)
        (has a.has) agrees (read_lines w ran_out x.pair end cut answer bytes m) a.told
        (subst (λ (q : ℕ). TellsBy (both told keeps) held held' (own_lines ran_out q (w.lines (journal x.pair n)))) agrees.number (tells_both told keeps held held' _ (tells (journal x.pair n) agrees.represents)))
        (λ e. call_last ran_out x.pair end cut answer bytes m)
        (subst (λ (es : List LogEntry). KeepsAfter (both told keeps) x.kept kept' es) (sym (read_calls ran_out x.pair end cut answer bytes m))
        (keeps_both told keeps x.kept kept kept' (calls m) (Read x.pair end read_room answer bytes) a.kept (subst (λ (q : ℕ). KeptBy keeps kept kept' (Read q end read_room answer bytes)) p keep))))

-- what ports answered to a read
pub reads_answered : (p : ℕ) (end : End) (answer : Got) (old new : List ℕ) (room : ℕ) → ReadsInto answer old new → length new ≡ length old → length old ≡ room
    → IsBytes (got_bytes answer new) → (m : History) → Answered m (Read p end room answer (got_bytes answer new))
reads_answered p end (got.Bytes n) old new room into same is_room fit m = (into.0, rw (sym is_room) into.1, length-take-le n new (rw same into.1), fit)
reads_answered p end got.NotYet old new room into same is_room fit m = tt
reads_answered p end got.Ended old new room into same is_room fit m = tt
reads_answered p end got.Failed old new room into same is_room fit m = tt

pub read_log : {A : Type 0} (w : RelayWords) (r : A → List Entry → Type 0) (end : End) (answer : Got) (bytes came : List ℕ) (room : ℕ) (ran_out : Bool) (told result : Result (Unit {0}) SinkFault) (keeps : Bool)
    (old new : Live A) (tally tally' : Tally) (held held' : Option (List ℕ)) (kept kept' : Option (List ℕ)) (a b : Option (List LogEntry))
    → room ≡ read_room → came ≡ bytes → tally' ≡ noted (got_moved answer) ran_out tally → new.number ≡ old.number
    → (has_end old.sides ≡ true → has_end new.sides ≡ true) → (ran_out ≡ true → has_come answer ≡ true)
    → ((h : List Entry) → Represents r old h → reads w end h ≡ true)
    → (cut : ℕ) × ((h : List Entry) → Represents r old h → Represents r new (with_cut ran_out cut (read_entry end answer came ∷ h)))
    → ((m : History) → Answered m (Read old.number end room answer bytes))
    → ((h : List Entry) → Represents r new h → TellsBy told held held' (own_lines ran_out new.number (w.lines h)))
    → result ≡ both told keeps → KeptBy keeps kept kept' (Read old.number end room answer came)
    → Tells a b (Read old.number end room answer bytes)
    → Extends a b (PartEffect w r (Reading end) (later (Reading end)) result (state old tally held kept) (state new tally' held' kept'))
read_log {A} w r end answer bytes came room ran_out told result keeps old new tally tally' held held' kept kept' a b is_room is_bytes is_noted number has only due entry answered tells is_both keep log =
    extends_more a b (λ m n. n ≡ Call (Read old.number end room answer bytes) ∷ m) _ (extends_call a b _ _ log (λ m. refl))
    (λ m n e. (
      read_marks ran_out old.number end entry.0 answer bytes m,
      read_calls ran_out old.number end entry.0 answer bytes m ∙ ap (λ (k : ℕ). Read old.number end k answer bytes ∷ calls m) (sym is_room) ∙ ap calls (sym e),
      rw (is_noted, is_both)
          (read_effect w r end answer bytes entry.0 ran_out told keeps old new tally held held' kept kept' number has only due
          (λ h s. subst (λ (x : List ℕ). Represents r new (with_cut ran_out entry.0 (read_entry end answer x ∷ h))) is_bytes (entry.1 h s))
          (λ k. subst (λ (x : ℕ). Answered k (Read old.number end x answer bytes)) is_room (answered k))
          tells
          (subst (λ (x : ℕ). KeptBy keeps kept kept' (Read old.number end x answer bytes)) is_room
          (subst (λ (x : List ℕ). KeptBy keeps kept kept' (Read old.number end room answer x)) is_bytes keep)) m),
    ))
