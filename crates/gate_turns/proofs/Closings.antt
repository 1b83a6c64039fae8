-- The end of the service: its pairs are told so and shut one after the other, and the last line is told.
use Rattle.std.proofs.Common.{◌≡◌, ◌≢◌, ◌⊎◌, ℕ, length, ◌≤◌, Bool, true, false, not, ◌||◌, ◌&&◌}
use Rattle.std.proofs.Common.{if◌then◌else◌, List, [], ◌∷◌, ◌++◌, append-nil, Option, Some, Result, Ok}
use Rattle.std.proofs.Common.{Err, refl, sym, ap, ◌∙◌, subst, inl, inr, arith}
use Rattle.std.proofs.lemmas.Bool.Decides.{eqb_tells}
use Rattle.std.specs.List.{AllByRecursion}
use Rattle.gate_outside.specs.declared.ports.End.{End}
use Rattle.gate_outside.specs.declared.ports.End.TheVariants.{Client, Up}
use Rattle.gate_outside.specs.declared.log.LogEntry.{LogEntry}
use Rattle.gate_outside.specs.declared.log.LogEntry.TheVariants.{Shut}
use Rattle.gate_outside.specs.Counts.{Rose}
use Rattle.gate_outside.specs.Ends.{is_end, is_open, same_end}
use Rattle.gate_outside.specs.History.{Tells}
use Rattle.gate_outside.specs.Streams.{Appends, AppendsFront}
use Rattle.gate_relay.specs.declared.loss.Loss.TheVariants as loss
use Rattle.gate_relay.specs.declared.sides.Side.{Side}
use Rattle.gate_relay.specs.declared.sides.Side.TheVariants as side
use Rattle.gate_relay.specs.declared.sides.Sides.{Sides}
use Rattle.gate_relay.specs.Entries.{Entry, Lost, Over}
use Rattle.gate_relay.specs.RelayWords.{RelayWords}
use Rattle.gate_relay.specs.Sides.{has_end, is_open_side, side_of, sides}
use Rattle.gate_runs.specs.declared.limits.Limits.{Limits}
use Rattle.gate_runs.specs.declared.served.Outside.TheVariants as outside
use Rattle.gate_runs.specs.declared.served.Served.{Served}
use Rattle.gate_runs.specs.declared.served.Served.TheVariants.{Stopped, PairsDone, TurnLimit, Fault}
use Rattle.gate_runs.specs.declared.served.Served.TheVariants.{Memory}
use Rattle.gate_runs.specs.Journal.{journal}
use Rattle.gate_runs.specs.Marks.{Mark, History, Call, Finish, Extends, calls}
use Rattle.gate_runs.specs.Next.{AskShut, Do, Point, Ended, point, after_shut, ahead, closing}
use Rattle.gate_runs.specs.Next.{finish_of, live_pairs, unless_gone}
use Rattle.gate_runs.specs.Report.{closed_lines, last_line, report, shut_lines}
use Rattle.gate_runs.specs.Serving.{AtLastLine, AtLines, HoldsReport, IsKept, IsServed, IsTold}
use Rattle.gate_runs.specs.Serving.{LosesCall, is_shutting, is_sink_fault}
use Rattle.gate_turns.specs.declared.live.Live.{Live}
use Rattle.gate_turns.specs.declared.tally.SinkFault.{SinkFault}
use Rattle.gate_turns.specs.declared.tally.SinkFault.TheVariants.{Out, Capture}
use Rattle.gate_turns.specs.Endings.{ClosingContext, ClosingEffect, ClosingState, ConcludeEffect}
use Rattle.gate_turns.specs.Endings.{HoldsWhile, IsClosing, KeepsWhile, KeptWhile, LosesLines}
use Rattle.gate_turns.specs.Endings.{TellsWhile, closing_state, is_recorded, is_told, sides_shut}
use Rattle.gate_turns.specs.Endings.{with_fault, with_pair}
use Rattle.gate_turns.specs.Openings.{HaveEntry, numbered_sides}
use Rattle.gate_turns.specs.Parts.{KeepsOthers, both}
use Rattle.gate_turns.specs.Represents.{Represents}
use Rattle.gate_turns.specs.Rounds.{AtEnd, HasEnds, HoldsAt, IsIn, IsRising, KeepsAt, OwnsEnds}
use Rattle.gate_turns.specs.Rounds.{RunContext, RunState, is_among, numbers}
use Rattle.gate_turns.proofs.EachPair.{each_in, none_represents, numbers_kept, owns_told}
use Rattle.gate_turns.proofs.Extending.{extends_call, extends_none, extends_note, extends_then}
use Rattle.gate_turns.proofs.Fronts.{appends_none}
use Rattle.gate_turns.proofs.LivePairs.{keep_removed, keep_set, remove_rising, set_numbers}
use Rattle.gate_turns.proofs.LivePairs.{set_rising, split_without}
use Rattle.gate_turns.proofs.OneMark.{if_not_mine, if_same, is_other, is_same}
use Rattle.gate_turns.proofs.Reporting.{HasLines, holds_front, holds_more, keeps_both}

-- ---- the sinks

recorded_told : (answer : Served) → is_recorded answer ≡ true → is_told answer ≡ true
recorded_told Stopped e = refl
recorded_told PairsDone e = refl
recorded_told TurnLimit e = refl
recorded_told (Fault outside.Accept) e = refl
recorded_told (Fault outside.Out) e = absurd cc
recorded_told (Fault outside.Capture) e = refl
recorded_told Memory e = refl

-- a call that was not kept was to be kept
was_recorded : (recorded kept : Bool) (old new : Option (List ℕ)) (entry : LogEntry) → KeptWhile recorded kept old new entry → kept ≡ false → recorded ≡ true
was_recorded true kept old new entry k e = refl
was_recorded false kept old new entry k e = absurd (let clash : true ≡ false = sym k.0 ∙ e in cc)

loses_lines_more : (w : RelayWords) (base held : Option (List ℕ)) (x : Mark) (m : History) → is_shutting x ≡ true → LosesLines w base held m → LosesLines w base held (x ∷ m)
loses_lines_more w base held x m shuts l = record {
  before = l.before;
  after = x ∷ l.after;
  parts = ap (λ (k : History). x ∷ k) l.parts;
  shuts = (shuts, l.shuts);
  front = l.front;
}

loses_call_more : (base kept : Option (List ℕ)) (x : Mark) (m : History) → is_shutting x ≡ true → LosesCall base kept m → LosesCall base kept (x ∷ m)
loses_call_more base kept x m shuts l = record {
  before = l.before;
  after = x ∷ l.after;
  parts = ap (λ (k : History). x ∷ k) l.parts;
  shuts = (shuts, l.shuts);
  front = l.front;
}

-- what out holds after the lines of a shut
holds_after : (w : RelayWords) (answer : Served) (t : Bool) (told : Result (Unit {0}) SinkFault) (kept : Bool) (base a b : Option (List ℕ)) (x : Mark) (m : History) (lines : List ℕ)
    → is_told answer ≡ t → is_shutting x ≡ true → HasLines w (x ∷ m) (report w m) lines → (kept ≡ false → is_told answer ≡ true)
    → TellsWhile t told a b lines → HoldsWhile t w base a m → HoldsWhile (is_told (with_fault answer (both told kept))) w base b (x ∷ m)
holds_after w answer true (Ok done) true base a b x m lines is shuts has was t h = rw is (holds_more w base a b (x ∷ m) (report w m) lines has h t)
holds_after w answer true (Ok done) false base a b x m lines is shuts has was t h = holds_more w base a b (x ∷ m) (report w m) lines has h t
holds_after w answer true (Err Out) kept base a b x m lines is shuts has was t h =
    record { before = x ∷ m; after = []; parts = refl; shuts = tt; front = holds_front w base a b (x ∷ m) (report w m) lines has h t.0 }
holds_after w answer true (Err Capture) kept base a b x m lines is shuts has was t h = holds_more w base a b (x ∷ m) (report w m) lines has h t
holds_after w answer false (Ok done) true base a b x m lines is shuts has was t h = rw (is, t.1) (loses_lines_more w base a x m shuts h)
holds_after w answer false (Ok done) false base a b x m lines is shuts has was t h = absurd (let clash : false ≡ true = sym is ∙ was refl in cc)
holds_after w answer false (Err fault) kept base a b x m lines is shuts has was t h = absurd (let never : Err fault ≡ Ok tt = t.0 in cc)

-- and what was kept
keeps_after : (answer : Served) (k : Bool) (told : Result (Unit {0}) SinkFault) (kept : Bool) (base a b : Option (List ℕ)) (entry : LogEntry) (m : History)
    → is_recorded answer ≡ k → is_shutting (Call entry) ≡ true → KeptWhile k kept a b entry → KeepsWhile k base a m
    → KeepsWhile (is_recorded (with_fault answer (both told kept))) base b (Call entry ∷ m)
keeps_after answer true (Ok done) true base a b entry m is shuts k h = rw is (keeps_both (Ok tt) true base a b (calls m) entry h k)
keeps_after answer true (Ok done) false base a b entry m is shuts k h =
    record { before = Call entry ∷ m; after = []; parts = refl; shuts = tt; front = keeps_both (Ok tt) false base a b (calls m) entry h k }
keeps_after answer true (Err Out) kept base a b entry m is shuts k h =
    record { before = Call entry ∷ m; after = []; parts = refl; shuts = tt; front = keeps_both (Err Out) kept base a b (calls m) entry h k }
keeps_after answer true (Err Capture) kept base a b entry m is shuts k h =
    record { before = Call entry ∷ m; after = []; parts = refl; shuts = tt; front = keeps_both (Err Capture) kept base a b (calls m) entry h k }
keeps_after answer false (Ok done) true base a b entry m is shuts k h = rw (is, k.1) (loses_call_more base a (Call entry) m shuts h)
keeps_after answer false (Ok done) false base a b entry m is shuts k h = absurd (let clash : false ≡ true = k.0 in cc)
keeps_after answer false (Err Out) kept base a b entry m is shuts k h = rw k.1 (loses_call_more base a (Call entry) m shuts h)
keeps_after answer false (Err Capture) kept base a b entry m is shuts k h = rw k.1 (loses_call_more base a (Call entry) m shuts h)

-- ---- the pairs that are left

or_true : (b : Bool) → (b || true) ≡ true
or_true true = refl
or_true false = refl

has_open : (s : Sides) (end : End) → is_open_side (side_of end s) ≡ true → has_end s ≡ true
has_open s Client e = ap (λ (b : Bool). b || is_open_side s.up) e
has_open s Up e = ap (λ (b : Bool). is_open_side s.client || b) e ∙ or_true (is_open_side s.client)

first_is : (s : Sides) (end : End) → is_open_side (side_of end s) ≡ true → (end ≡ Client → is_open_side s.up ≡ false) → (if is_open_side s.up then Up else Client) ≡ end
first_is s Client e order = ap (λ (b : Bool). if b then Up else Client) (order refl)
first_is s Up e order = ap (λ (b : Bool). if b then Up else Client) e

left_numbers : {A : Type 0} (has : Bool) (old new : Live A) (back : List (Live A)) → new.number ≡ old.number → IsRising 0 (old ∷ back)
    → unless_gone has old.number (numbers (old ∷ back)) ≡ numbers (if has then new ∷ back else back)
left_numbers {A} true old new back number rising = sym (set_numbers [] back old new number)
left_numbers {A} false old new back number rising = split_without 0 [] back old rising

left_rising : {A : Type 0} (has : Bool) (old new : Live A) (back : List (Live A)) → new.number ≡ old.number → IsRising 0 (old ∷ back)
    → IsRising 0 (if has then new ∷ back else back)
left_rising {A} true old new back number rising = set_rising 0 [] back old new number rising
left_rising {A} false old new back number rising = remove_rising 0 [] back old rising

left_each : {A : Type 0} (P Q : Live A → Type 0) (has : Bool) (old new : Live A) (back : List (Live A)) → ((y : Live A) → y.number ≢ old.number → P y → Q y)
    → IsRising 0 (old ∷ back) → AllByRecursion P (old ∷ back) → Q new → AllByRecursion Q (if has then new ∷ back else back)
left_each {A} P Q true old new back keeps rising all q = keep_set P Q 0 [] back old new keeps rising all q
left_each {A} P Q false old new back keeps rising all q = keep_removed P Q 0 [] back old keeps rising all

-- ---- a shut of an end

-- the lines of a shut after the end of the service
shut_has : (w : RelayWords) (p : ℕ) (end : End) (m : History) → point m ≡ Ended
    → HasLines w (Call (Shut p end) ∷ m) (report w m) (w.lines (journal p (Call (Shut p end) ∷ m)) ++ closed_lines p (has_end (sides (journal p (Call (Shut p end) ∷ m)))))
shut_has w p end m e = ap (λ (x : Point). record { before = report w m; newest = shut_lines w p x (journal p (Call (Shut p end) ∷ m)) }) e

shut_tells : {A : Type 0} (w : RelayWords) (r : A → List Entry → Type 0) (t : Bool) (told : Result (Unit {0}) SinkFault) (new : Live A) (p : ℕ) (h : List Entry) (held held' : Option (List ℕ))
    → new.number ≡ p → Represents r new h → TellsWhile t told held held' (w.lines h ++ closed_lines new.number (has_end new.sides))
    → TellsWhile t told held held' (w.lines h ++ closed_lines p (has_end (sides h)))
shut_tells {A} w r t told new p h held held' number stands tells =
    subst (λ (s : Sides). TellsWhile t told held held' (w.lines h ++ closed_lines p (has_end s))) stands.sides
    (subst (λ (q : ℕ). TellsWhile t told held held' (w.lines h ++ closed_lines q (has_end new.sides))) number tells)

-- an open end of the first pair that is left was shut
shut_here : {A : Type 0} (w : RelayWords) (r : A → List Entry → Type 0) (x : ClosingContext) (answer : Served) (told : Result (Unit {0}) SinkFault) (kept : Bool) (old new : Live A) (back : List (Live A)) (end : End)
    (held held' keeps keeps' : Option (List ℕ)) (m : History) → is_open_side (side_of end old.sides) ≡ true → (end ≡ Client → is_open_side old.sides.up ≡ false) → new.number ≡ old.number
    → ((h : List Entry) → Represents r old h → Represents r new (Lost end loss.Shut ∷ h))
    → ((h : List Entry) → Represents r new h → TellsWhile (is_told answer) told held held' (w.lines h ++ closed_lines new.number (has_end new.sides)))
    → KeptWhile (is_recorded answer) kept keeps keeps' (Shut old.number end) → IsClosing w r x (closing_state (old ∷ back) answer held keeps) m
    → IsClosing w r x (closing_state (with_pair new back) (with_fault answer (both told kept)) held' keeps') (Call (Shut old.number end) ∷ m)
shut_here {A} w r x answer told kept old new back end held held' keeps keeps' m opened order number entry tells keep i =
    let p : ℕ = old.number in
    let n : History = Call (Shut p end) ∷ m in
    let mine : journal p n ≡ Lost end loss.Shut ∷ journal p m = if_same p _ _ in
    let stands : Represents r new (journal p n) = subst (λ (h : List Entry). Represents r new h) (sym mine) (entry (journal p m) i.each.0) in
    let here : Represents r new (journal new.number n) = subst (λ (q : ℕ). Represents r new (journal q n)) (sym number) stands in
    record {
      here = ap (λ (y : Point). after_shut p end y) i.here;
      follows = (
        ap (λ (y : Point). ahead w x.limits m y) i.here ∙ ap (λ (ps : List ℕ). closing m ps) i.live
            ∙ ap (λ (s : Sides). Do (AskShut p (if is_open_side s.up then Up else Client))) (sym i.each.0.sides)
            ∙ ap (λ (e : End). Do (AskShut p e)) (first_is old.sides end opened order),
        tt,
        i.follows,
      );
      live = ap (λ (s : Sides). unless_gone (has_end s) p (live_pairs m)) (sym stands.sides)
          ∙ ap (λ (ps : List ℕ). unless_gone (has_end new.sides) p ps) i.live ∙ left_numbers (has_end new.sides) old new back number i.rising;
      rising = left_rising (has_end new.sides) old new back number i.rising;
      each = left_each (IsIn r m) (IsIn r n) (has_end new.sides) old new back
          (λ y ne s. subst (λ (h : List Entry). Represents r y h) (sym (if_not_mine p y.number (Lost end loss.Shut ∷ journal y.number m) (journal y.number m) ne)) s) i.rising i.each here;
      finish = i.finish;
      accepts = i.accepts;
      count = i.count;
      told = holds_after w answer (is_told answer) told kept x.held held held' (Call (Shut p end)) m _ refl refl (shut_has w p end m i.here)
          (λ e. recorded_told answer (was_recorded (is_recorded answer) kept keeps keeps' (Shut p end) keep e))
          (shut_tells w r (is_told answer) told new p (journal p n) held held' number stands (tells (journal p n) stands)) i.told;
      kept = keeps_after answer (is_recorded answer) told kept x.kept keeps keeps' (Shut p end) m refl refl keep i.kept;
    }

pub shut_log : {A : Type 0} (w : RelayWords) (r : A → List Entry → Type 0) (answer result : Served) (told : Result (Unit {0}) SinkFault) (kept : Bool) (old new : Live A) (back : List (Live A)) (end : End)
    (held held' keeps keeps' : Option (List ℕ)) (a b : Option (List LogEntry)) → is_open_side (side_of end old.sides) ≡ true → (end ≡ Client → is_open_side old.sides.up ≡ false) → new.number ≡ old.number
    → ((h : List Entry) → Represents r old h → Represents r new (Lost end loss.Shut ∷ h))
    → ((h : List Entry) → Represents r new h → TellsWhile (is_told answer) told held held' (w.lines h ++ closed_lines new.number (has_end new.sides)))
    → KeptWhile (is_recorded answer) kept keeps keeps' (Shut old.number end) → result ≡ with_fault answer (both told kept) → Tells a b (Shut old.number end)
    → Extends a b (ClosingEffect w r (closing_state (with_pair old back) answer held keeps) (closing_state (with_pair new back) result held' keeps'))
shut_log {A} w r answer result told kept old new back end held held' keeps keeps' a b opened order number entry tells keep is log =
    extends_call a b (Shut old.number end) _ log (λ m. rw is (record {
      goes = λ x i. shut_here w r x answer told kept old new back end held held' keeps keeps' m opened order number entry tells keep
          (subst (λ (t : Bool). IsClosing w r x (closing_state (if t then old ∷ back else back) answer held keeps) m) (has_open old.sides end opened) i);
    }))

-- nothing is shut
pub closing_none : {A : Type 0} (w : RelayWords) (r : A → List Entry → Type 0) (t : ClosingState A) (a : Option (List LogEntry)) → Extends a a (ClosingEffect w r t t)
closing_none {A} w r t a = extends_none a _ (λ m. record { goes = λ x i. i })

-- some of the pairs are shut, and then more
pub closing_then : {A : Type 0} (w : RelayWords) (r : A → List Entry → Type 0) (old mid new : ClosingState A) (a b d : Option (List LogEntry))
    → Extends a b (ClosingEffect w r old mid) → Extends b d (ClosingEffect w r mid new) → Extends a d (ClosingEffect w r old new)
closing_then {A} w r old mid new a b d f g =
    extends_then a b d (ClosingEffect w r old mid) (ClosingEffect w r mid new) _ f g (λ m n k y z. record { goes = λ x i. z.goes x (y.goes x i) })

-- ---- a pair

-- with both ends shut
up_shut : (client up : Side) → is_open_side (sides_shut Up (record { client = client; up = up })).up ≡ false
up_shut client side.Absent = refl
up_shut client side.Open = refl
up_shut client side.Ended = refl
up_shut client side.Failed = refl
up_shut client side.Gone = refl

client_shut : (client up : Side) → has_end (sides_shut Client (record { client = client; up = up })) ≡ is_open_side up
client_shut side.Absent up = refl
client_shut side.Open up = refl
client_shut side.Ended up = refl
client_shut side.Failed up = refl
client_shut side.Gone up = refl

both_shut : (old half new : Sides) → half ≡ sides_shut Up old → new ≡ sides_shut Client half → has_end new ≡ false
both_shut old half new e f = ap has_end f ∙ client_shut half.client half.up ∙ ap (λ (s : Sides). is_open_side s.up) e ∙ up_shut old.client old.up

pub pair_log : {A : Type 0} (w : RelayWords) (r : A → List Entry → Type 0) (answer mid result : Served) (old half new : Live A) (back : List (Live A)) (held held' held'' keeps keeps' keeps'' : Option (List ℕ))
    (a b d : Option (List LogEntry)) → has_end old.sides ≡ true → half.sides ≡ sides_shut Up old.sides → new.sides ≡ sides_shut Client half.sides
    → Extends a b (ClosingEffect w r (closing_state (with_pair old back) answer held keeps) (closing_state (with_pair half back) mid held' keeps'))
    → Extends b d (ClosingEffect w r (closing_state (with_pair half back) mid held' keeps') (closing_state (with_pair new back) result held'' keeps''))
    → Extends a d (ClosingEffect w r (closing_state (old ∷ back) answer held keeps) (closing_state back result held'' keeps''))
pair_log {A} w r answer mid result old half new back held held' held'' keeps keeps' keeps'' a b d has up client f g =
    let whole : with_pair old back ≡ old ∷ back = ap (λ (t : Bool). if t then old ∷ back else back) has in
    let gone : with_pair new back ≡ back = ap (λ (t : Bool). if t then new ∷ back else back) (both_shut old.sides half.sides new.sides up client) in
    subst (λ (xs : List (Live A)). Extends a d (ClosingEffect w r (closing_state (old ∷ back) answer held keeps) (closing_state xs result held'' keeps''))) gone
    (subst (λ (xs : List (Live A)). Extends a d (ClosingEffect w r (closing_state xs answer held keeps) (closing_state (with_pair new back) result held'' keeps''))) whole
    (closing_then w r _ _ _ a b d f g))

-- ---- the pairs one after the other, and the ports' ends

-- the first pair that is left was shut
pub owns_rest : {A : Type 0} (b : Live A) (back : List (Live A)) (pairs : ℕ) (ends ends' : List (ℕ × End)) → OwnsEnds (b ∷ back) pairs ends → KeepsOthers b.number ends ends'
    → ((end : End) → is_open b.number end ends' ≡ false) → OwnsEnds back pairs ends'
owns_rest {A} b back pairs ends ends' o keeps none = record {
  rising = remove_rising 0 [] back b o.rising;
  each = keep_removed (HasEnds pairs ends) (HasEnds pairs ends') 0 [] back b
      (λ y ne h. record { below = h.below; has = h.has; open_ends = λ end. keeps y.number end ne ∙ h.open_ends end }) o.rising o.each;
  only = λ q end h. elim (eqb_tells q b.number) [
    | inl t ↦ ap (λ (p : ℕ). is_open p end ends') t.1 ∙ none end
    | inr f ↦ keeps q end f.1 ∙ o.only q end (ap (λ (t : Bool). t || is_among q (numbers back)) (is_other b.number q (λ e. f.1 (sym e))) ∙ h)
  ];
}

-- with no end open the list is empty
none_open : (xs : List (ℕ × End)) → ((p : ℕ) (end : End) → is_open p end xs ≡ false) → xs ≡ []
none_open [] h = refl
none_open (x ∷ xs) h =
    let here : is_end x.0 x.1 x ≡ true = ap (λ (b : Bool). b && same_end x.1 x.1) (is_same x.0) ∙ own x.1 in
    let clash : true ≡ false = sym (ap (λ (b : Bool). b || is_open x.0 x.1 xs) here) ∙ h x.0 x.1 in absurd cc
  where
    own : (end : End) → same_end end end ≡ true
    own Client = refl
    own Up = refl

pub owns_none : {A : Type 0} (left : List (Live A)) (pairs : ℕ) (ends : List (ℕ × End)) → left ≡ [] → OwnsEnds left pairs ends → ends ≡ []
owns_none {A} left pairs ends e o = none_open ends (λ p end. o.only p end (ap (λ (xs : List (Live A)). is_among p (numbers xs)) e))

-- a count of faults that rose has risen since before
pub fault_then : (fault answer mid result : Served) (a b d : ℕ) → a ≤ b → b ≤ d → (mid ≡ fault → (answer ≡ fault) ⊎ Rose a b) → (result ≡ fault → (mid ≡ fault) ⊎ Rose b d)
    → result ≡ fault → (answer ≡ fault) ⊎ Rose a d
fault_then fault answer mid result a b d le le' f g is = elim (g is) [
  | inl same ↦ (elim (f same) [
    | inl at ↦ inl at
    | inr rose ↦ inr (elim rose [ inl lt ↦ inl (omega (arith, lt, le')) | inr full ↦ inr (omega (arith, full, le')) ])
  ])
  | inr rose ↦ inr (elim rose [ inl lt ↦ inl (omega (arith, lt, le)) | inr full ↦ inr full ])
]

pub answer_then : (answer mid result : Served) → (mid ≡ answer) ⊎ (is_sink_fault mid ≡ true) → (result ≡ mid) ⊎ (is_sink_fault result ≡ true) → (result ≡ answer) ⊎ (is_sink_fault result ≡ true)
answer_then answer mid result f (inr fault) = inr fault
answer_then answer mid result (inl at) (inl same) = inl (same ∙ at)
answer_then answer mid result (inr fault) (inl same) = inr (ap is_sink_fault same ∙ fault)

-- a list without items
pub none_left : {A : Type 0} (xs : List (Live A)) → length xs ≡ 0 → xs ≡ []
none_left {A} [] e = refl
none_left {A} (x ∷ xs) e = absurd (omega (arith, e))

-- ---- the pairs are told that the service ended

-- what out holds, and what was kept, right after that
ended_holds : (w : RelayWords) (why : Served) (base held : Option (List ℕ)) (m : History) → HoldsReport w base held m → HoldsReport w base held (Finish why ∷ m)
ended_holds w why base held m h = rw (append-nil (report w m)) h

ended_told : (w : RelayWords) (why : Served) (base held : Option (List ℕ)) (m : History) → HoldsAt w why base held m → HoldsWhile (is_told why) w base held (Finish why ∷ m)
ended_told w Stopped base held m h = ended_holds w Stopped base held m h
ended_told w PairsDone base held m h = ended_holds w PairsDone base held m h
ended_told w TurnLimit base held m h = ended_holds w TurnLimit base held m h
ended_told w (Fault outside.Accept) base held m h = ended_holds w (Fault outside.Accept) base held m h
ended_told w (Fault outside.Out) base held m h = record { before = m; after = Finish (Fault outside.Out) ∷ []; parts = refl; shuts = (refl, tt); front = h }
ended_told w (Fault outside.Capture) base held m h = ended_holds w (Fault outside.Capture) base held m h
ended_told w Memory base held m h = ended_holds w Memory base held m h

ended_kept : (why : Served) (base kept : Option (List ℕ)) (m : History) → KeepsAt why base kept m → KeepsWhile (is_recorded why) base kept (Finish why ∷ m)
ended_kept Stopped base kept m k = k
ended_kept PairsDone base kept m k = k
ended_kept TurnLimit base kept m k = k
ended_kept (Fault outside.Accept) base kept m k = k
ended_kept (Fault outside.Out) base kept m k = record { before = m; after = Finish (Fault outside.Out) ∷ []; parts = refl; shuts = (refl, tt); front = k }
ended_kept (Fault outside.Capture) base kept m k = record { before = m; after = Finish (Fault outside.Capture) ∷ []; parts = refl; shuts = (refl, tt); front = k }
ended_kept Memory base kept m k = k

abbrev pub closing_context : {A : Type 0} → RunContext → Served → RunState A → ClosingContext
closing_context x why t =
    record { limits = x.limits; why = why; accepted = t.accepted; count = t.tally.out_of_memory; held = x.held; kept = x.kept }

closing_begins : {A : Type 0} (w : RelayWords) (r : A → List Entry → Type 0) (why : Served) (x : RunContext) (old : RunState A) (live : List (Live A)) (pairs : ℕ) (ends : List (ℕ × End)) (m : History)
    → OwnsEnds old.live pairs ends → numbered_sides live ≡ numbered_sides old.live → HaveEntry r Over old.live live → AtEnd w r why x old m
    → IsClosing w r (closing_context x why old) (closing_state live why old.held old.kept) (Finish why ∷ m)
closing_begins {A} w r why x old live pairs ends m owns same have a = record {
  here = refl;
  follows = (a.ends, a.open_still, a.follows);
  live = a.agrees.live ∙ sym (numbers_kept r Over old.live live have);
  rising = (owns_told old.live live pairs ends same owns).rising;
  each = each_in r Over pairs ends m (Finish why ∷ m) old.live live (λ p. refl) have owns.each a.agrees.each;
  finish = refl;
  accepts = a.agrees.accepts;
  count = a.agrees.count;
  told = ended_told w why x.held old.held m a.told;
  kept = ended_kept why x.kept old.kept m a.kept;
}

-- ---- the last line

is_mute : (answer : Served) → is_told answer ≡ false → answer ≡ Fault outside.Out
is_mute Stopped e = absurd cc
is_mute PairsDone e = absurd cc
is_mute TurnLimit e = absurd cc
is_mute (Fault outside.Accept) e = absurd cc
is_mute (Fault outside.Out) e = refl
is_mute (Fault outside.Capture) e = absurd cc
is_mute Memory e = absurd cc

is_kept : (answer result : Served) (fault : Bool) (base kept : Option (List ℕ)) (n : History) → (is_sink_fault answer ≡ true → is_sink_fault result ≡ true) → is_sink_fault answer ≡ fault
    → KeepsWhile (not fault) base kept n → IsKept result base kept n
is_kept answer result true base kept n on e k = inr (on e, k)
is_kept answer result false base kept n on e k = inl k

-- each pair was shut, and what was told is known
concluded : {A : Type 0} (w : RelayWords) (r : A → List Entry → Type 0) (x : ClosingContext) (answer result : Served) (held held' kept : Option (List ℕ)) (n : History)
    → (is_sink_fault answer ≡ true → is_sink_fault result ≡ true) → (result ≡ x.why) ⊎ (is_sink_fault result ≡ true) → IsTold w result x.held held' n
    → IsClosing w r x (closing_state [] answer held kept) n → IsServed w x.limits result x.count x.held held' x.kept kept n
concluded {A} w r x answer result held held' kept n on answers told i = record {
  follows = i.follows;
  over = ap (λ (y : Point). ahead w x.limits n y) i.here ∙ ap (λ (ps : List ℕ). closing n ps) i.live;
  shut = i.live;
  why = x.why;
  ended = i.finish;
  answers = answers;
  counted = i.count;
  told = told;
  recorded = is_kept answer result (is_sink_fault answer) x.kept kept n on refl i.kept;
}

-- how the last line ends the service: it was told, out failed at it, or out failed before
pub data LastLine (answer : Served) (accepted : ℕ) (held held' : Option (List ℕ)) : Served → Type 0 where
  Whole : is_told answer ≡ true → Appends held held' (last_line answer accepted) → LastLine answer accepted held held' answer
  Cut : is_told answer ≡ true → AppendsFront held held' (last_line answer accepted) → LastLine answer accepted held held' (Fault outside.Out)
  Mute : is_told answer ≡ false → held' ≡ held → LastLine answer accepted held held' answer

says_end : (answer why : Served) (n : History) → finish_of n ≡ Some why → (answer ≡ why) ⊎ (is_sink_fault answer ≡ true)
    → (finish_of n ≡ Some answer) ⊎ (is_sink_fault answer ≡ true)
says_end answer why n ended (inl e) = inl (ended ∙ ap (λ (x : Served). Some x) (sym e))
says_end answer why n ended (inr e) = inr e

last_told : {A : Type 0} (w : RelayWords) (r : A → List Entry → Type 0) (x : ClosingContext) (answer result : Served) (held held' kept : Option (List ℕ)) (n : History)
    → (answer ≡ x.why) ⊎ (is_sink_fault answer ≡ true) → LastLine answer x.accepted held held' result → IsClosing w r x (closing_state [] answer held kept) n
    → IsServed w x.limits result x.count x.held held' x.kept kept n
last_told {A} w r x answer result held held' kept n answers (Whole told line) i =
    concluded w r x answer answer held held' kept n (λ e. e) answers
    (inl (record { reached = held; lines = subst (λ (t : Bool). HoldsWhile t w x.held held n) told i.told; last = rw i.accepts line })) i
last_told {A} w r x answer result held held' kept n answers (Cut told line) i =
    concluded w r x answer (Fault outside.Out) held held' kept n (λ e. refl) (inr refl)
    (inr (refl, AtLastLine answer held (says_end answer x.why n i.finish answers) (subst (λ (t : Bool). HoldsWhile t w x.held held n) told i.told) (rw i.accepts line))) i
last_told {A} w r x answer result held held' kept n answers (Mute mute same) i =
    let lost : LosesLines w x.held held n = subst (λ (t : Bool). HoldsWhile t w x.held held n) mute i.told in
    concluded w r x answer answer held held' kept n (λ e. e) answers
    (inr (is_mute answer mute, AtLines lost.before lost.after lost.parts lost.shuts (rw same lost.front))) i

pub conclude_log : {A : Type 0} (w : RelayWords) (r : A → List Entry → Type 0) (why answer result : Served) (old : RunState A) (live : List (Live A)) (held held' kept : Option (List ℕ))
    (pairs : ℕ) (ends : List (ℕ × End)) (a b : Option (List LogEntry)) → OwnsEnds old.live pairs ends → numbered_sides live ≡ numbered_sides old.live → HaveEntry r Over old.live live
    → (answer ≡ why) ⊎ (is_sink_fault answer ≡ true) → LastLine answer old.accepted held held' result
    → Extends a b (ClosingEffect w r (closing_state live why old.held old.kept) (closing_state [] answer held kept)) → Extends a b (ConcludeEffect w r why result old held' kept)
conclude_log {A} w r why answer result old live held held' kept pairs ends a b owns same have answers line f =
    let Ends : History → History → Type 0 = λ m n. n ≡ Finish why ∷ m in
    extends_then a a b Ends (ClosingEffect w r (closing_state live why old.held old.kept) (closing_state [] answer held kept)) _
    (extends_note a a (Finish why) (λ m n. n ≡ m) Ends (λ m. refl) (extends_none a (λ m n. n ≡ m) (λ m. refl)) (λ m n e. ap (λ (k : History). Finish why ∷ k) e)) f
    (λ m n k e y. record {
      goes = λ x at. last_told w r (closing_context x why old) answer result held held' kept k answers line
          (y.goes (closing_context x why old)
          (subst (λ (l : History). IsClosing w r (closing_context x why old) (closing_state live why old.held old.kept) l) (sym e) (closing_begins w r why x old live pairs ends m owns same have at)));
    })

-- no call was made
pub served_without_memory : (w : RelayWords) (c : Limits) (result : Served) (held held' kept : Option (List ℕ)) → LastLine Memory 0 held held' result
    → IsServed w c result 0 held held' kept kept (Finish Memory ∷ [])
served_without_memory w c result held held' kept line =
    last_told {A = Unit {0}} w none_represents (record { limits = c; why = Memory; accepted = 0; count = 0; held = held; kept = kept }) Memory result held held' kept (Finish Memory ∷ []) (inl refl) line
    (record {
      here = refl;
      follows = (refl, refl, tt);
      live = refl;
      rising = tt;
      each = tt;
      finish = refl;
      accepts = refl;
      count = refl;
      told = appends_none held;
      kept = appends_none kept;
    })
