-- What one live pair's part of a turn does to all of them.
use Rattle.std.proofs.Common.{◌≡◌, ◌≢◌, ℕ, suc, ◌+◌, ◌<◌, ◌≤◌, Bool, true, false, List, ◌∷◌, ◌++◌}
use Rattle.std.proofs.Common.{length, take, drop, get_or, Option, Result, Ok, Err, sym, ap, ◌∙◌}
use Rattle.std.proofs.Common.{subst, refl, arith, inl, inr}
use Rattle.std.proofs.Math.ListN.{set, drop_of_length-le}
use Rattle.std.proofs.lemmas.Grind.{common_steps}
use Rattle.std.proofs.Math.Seq.{drop-cons, drop-append-add}
use Rattle.std.proofs.lemmas.List.{take-append-drop, take-set, drop-set-lt, set_split, drop_at}
use Rattle.std.specs.List.{AllByRecursion, remove}
use Rattle.std.proofs.lemmas.Bool.Decides.{eqb_tells}
use Rattle.gate_outside.specs.declared.ports.End.{End}
use Rattle.gate_outside.specs.declared.log.LogEntry.{LogEntry}
use Rattle.gate_outside.specs.Ends.{is_open}
use Rattle.gate_relay.specs.Entries.{Entry}
use Rattle.gate_relay.specs.RelayWords.{RelayWords}
use Rattle.gate_relay.specs.Sides.{has_end}
use Rattle.gate_runs.specs.declared.served.Served.TheVariants.{Fault}
use Rattle.gate_runs.specs.Journal.{journal, moment}
use Rattle.gate_runs.specs.Marks.{History, Extends, calls}
use Rattle.gate_runs.specs.Next.{beyond, unless_gone, live_pairs}
use Rattle.gate_runs.specs.Stages.{Reading, Past}
use Rattle.gate_runs.specs.Serving.{KeepsFront}
use Rattle.gate_outside.specs.declared.ports.End.TheVariants.{Up}
use Rattle.gate_turns.specs.declared.live.Live.{Live}
use Rattle.gate_turns.specs.declared.tally.SinkFault.{SinkFault}
use Rattle.gate_turns.specs.declared.tally.SinkFault.TheVariants.{Out, Capture}
use Rattle.gate_turns.specs.declared.tally.Tally.{Tally}
use Rattle.gate_turns.specs.Parts.{EndsAre, KeepsOthers, PairsAhead, PartContext, PartState}
use Rattle.gate_turns.specs.Parts.{PartAgrees, InStage, HoldsBy, ReachesShut, ShutEffect}
use Rattle.gate_turns.specs.Parts.{outside_of, state}
use Rattle.gate_turns.specs.Represents.{Represents}
use Rattle.gate_turns.specs.Rounds.{HasEnds, IsIn, IsRising, OwnsEnds, PairsEffect, ReachesPairs}
use Rattle.gate_turns.specs.Rounds.{RoundEffect, AtPairs, HoldsAt, KeepsAt, RunAgrees, RunContext}
use Rattle.gate_turns.specs.Rounds.{RunState, is_among, numbers, numbers_from, place_after}
use Rattle.gate_turns.proofs.Extending.{extends_map, extends_none, extends_then}
use Rattle.gate_turns.proofs.LivePairs.{all_middle, all_others, among_others, keep_removed}
use Rattle.gate_turns.proofs.LivePairs.{keep_set, not_middle, remove_rising, set_numbers}
use Rattle.gate_turns.proofs.LivePairs.{set_rising, split_back, split_beyond, split_without}
use Rattle.gate_turns.proofs.ShutMarks.{no_ends}
use Rattle.gate_turns.proofs.Stages.{at_face, face_past}

-- ---- the list

-- b stands in the list behind so many others
pub record SplitAt {A : Type 0} (live : List (Live A)) (at : ℕ) (front : List (Live A)) (b : Live A) (back : List (Live A)) : Type 0 where
  pub whole : live ≡ front ++ b ∷ back
  pub before : length front ≡ at

length-take-lt : {A : Type 0} (live : List (Live A)) (at : ℕ) → at < length live → length (take at live) ≡ at
length-take-lt {A} live at lt = grind (arith, common_steps)

pub split_at : {A : Type 0} (live : List (Live A)) (at : ℕ) (b : Live A) → at < length live → b ≡ get_or live at b → SplitAt live at (take at live) b (drop (suc at) live)
split_at {A} live at b lt here = record {
  whole = sym (take-append-drop at live)
      ∙ ap (λ (xs : List (Live A)). take at live ++ xs) (drop-cons live at b lt)
      ∙ ap (λ (x : Live A). take at live ++ x ∷ drop (suc at) live) (sym here);
  before = length-take-lt live at lt;
}

from_here : {A : Type 0} (live : List (Live A)) (at : ℕ) (front : List (Live A)) (b : Live A) (back : List (Live A)) → SplitAt live at front b back → drop at live ≡ b ∷ back
from_here {A} live at front b back i = ap (λ (xs : List (Live A)). drop at xs) i.whole ∙ drop_at front (b ∷ back) at i.before

from_next : {A : Type 0} (at : ℕ) (front : List (Live A)) (b : Live A) (back : List (Live A)) → length front ≡ at → drop (at + 1) (front ++ b ∷ back) ≡ back
from_next {A} at front b back e =
    subst (λ (n : ℕ). drop (n + 1) (front ++ b ∷ back) ≡ back) e (drop-append-add front (b ∷ back) 1)

-- the list with the pair's new state, where it lives on, or without the pair
abbrev pub list_after : {A : Type 0} → Bool → List (Live A) → Live A → List (Live A) → List (Live A)
list_after true front new back = front ++ new ∷ back
list_after false front new back = front ++ back

pub stays_after : {A : Type 0} (at : ℕ) (new : Live A) (live live' : List (Live A)) → at < length live → live' ≡ set live at new
    → live' ≡ list_after true (take at live) new (drop (suc at) live)
stays_after {A} at new live live' lt e = e ∙ set_split live at new lt

pub leaves_after : {A : Type 0} (at : ℕ) (new : Live A) (live live' : List (Live A)) → live' ≡ remove (set live at new) at
    → live' ≡ list_after false (take at live) new (drop (suc at) live)
leaves_after {A} at new live live' e = e
    ∙ ap (λ (xs : List (Live A)). xs ++ drop (suc at) (set live at new)) (take-set live at new)
    ∙ ap (λ (xs : List (Live A)). take at live ++ xs) (drop-set-lt (suc at) live at new (omega arith))

from_after : {A : Type 0} (lives : Bool) (at : ℕ) (front : List (Live A)) (new : Live A) (back : List (Live A)) → length front ≡ at
    → numbers_from (place_after lives at) (list_after lives front new back) ≡ numbers back
from_after {A} true at front new back e = ap numbers (from_next at front new back e)
from_after {A} false at front new back e = ap numbers (drop_at front back at e)

-- ---- the ports' ends

-- b is among the live pairs, and its part of the turn left the ends so
pub record Visited {A : Type 0} (front : List (Live A)) (b new : Live A) (back : List (Live A)) (pairs pairs' : ℕ) (ends ends' : List (ℕ × End)) : Type 0 where
  pub number : new.number ≡ b.number
  pub same : pairs' ≡ pairs
  pub keeps : KeepsOthers b.number ends ends'
  pub are : EndsAre new.number new.sides ends'

has_kept : {A : Type 0} (front : List (Live A)) (b new : Live A) (back : List (Live A)) (pairs pairs' : ℕ) (ends ends' : List (ℕ × End))
    → Visited front b new back pairs pairs' ends ends' → (x : Live A) → x.number ≢ b.number → HasEnds pairs ends x → HasEnds pairs' ends' x
has_kept {A} front b new back pairs pairs' ends ends' v x ne h = record {
  below = rw v.same h.below;
  has = h.has;
  open_ends = λ e. v.keeps x.number e ne ∙ h.open_ends e;
}

owns_split : {A : Type 0} (lives : Bool) (front : List (Live A)) (b new : Live A) (back : List (Live A)) (pairs pairs' : ℕ) (ends ends' : List (ℕ × End))
    → Visited front b new back pairs pairs' ends ends' → lives ≡ has_end new.sides → OwnsEnds (front ++ b ∷ back) pairs ends
    → OwnsEnds (list_after lives front new back) pairs' ends'
owns_split {A} true front b new back pairs pairs' ends ends' v is c = record {
  rising = set_rising 0 front back b new v.number c.rising;
  each = keep_set (HasEnds pairs ends) (HasEnds pairs' ends') 0 front back b new (has_kept front b new back pairs pairs' ends ends' v) c.rising c.each
      (record { below = rw (v.number, v.same) (all_middle (HasEnds pairs ends) front back b c.each).below; has = sym is; open_ends = v.are });
  only = λ q e h.
      let old : is_among q (numbers (front ++ b ∷ back)) ≡ false = subst (λ (ps : List ℕ). is_among q ps ≡ false) (set_numbers front back b new v.number) h in
      v.keeps q e (not_middle q front back b old) ∙ c.only q e old;
}
owns_split {A} false front b new back pairs pairs' ends ends' v is c = record {
  rising = remove_rising 0 front back b c.rising;
  each = keep_removed (HasEnds pairs ends) (HasEnds pairs' ends') 0 front back b (has_kept front b new back pairs pairs' ends ends' v) c.rising c.each;
  only = λ q e h. elim (eqb_tells q b.number) [
    | inl t ↦ ap (λ (i : ℕ). is_open i e ends') (t.1 ∙ sym v.number) ∙ v.are e ∙ no_ends new.sides e (sym is)
    | inr f ↦ (v.keeps q e f.1 ∙ c.only q e (among_others q front back b f.1 ∙ h))
  ];
}

pub owns_after : {A : Type 0} (lives : Bool) (at : ℕ) (live live' : List (Live A)) (front : List (Live A)) (b new : Live A) (back : List (Live A)) (pairs pairs' : ℕ) (ends ends' : List (ℕ × End))
    → SplitAt live at front b back → live' ≡ list_after lives front new back → Visited front b new back pairs pairs' ends ends' → lives ≡ has_end new.sides
    → OwnsEnds live pairs ends → OwnsEnds live' pairs' ends'
owns_after {A} lives at live live' front b new back pairs pairs' ends ends' i after v is c =
    rw after (owns_split lives front b new back pairs pairs' ends ends' v is (subst (λ (xs : List (Live A)). OwnsEnds xs pairs ends) i.whole c))

-- the pair itself
pub owns_this : {A : Type 0} (at : ℕ) (live front : List (Live A)) (b : Live A) (back : List (Live A)) (pairs : ℕ) (ends : List (ℕ × End))
    → SplitAt live at front b back → OwnsEnds live pairs ends → HasEnds pairs ends b
owns_this {A} at live front b back pairs ends i c = all_middle (HasEnds pairs ends) front back b (subst (λ (xs : List (Live A)). AllByRecursion (HasEnds pairs ends) xs) i.whole c.each)

-- ---- the history

-- what stays in the part of the turn of b
abbrev part_context : {A : Type 0} → RunContext → RunState A → Live A → List (Live A) → History → PartContext
part_context x t b back m = record {
  limits = x.limits;
  pair = b.number;
  behind = numbers back;
  others = λ q. journal q m;
  live = live_pairs m;
  accepted = t.accepted;
  turns = x.turns;
  moment = moment m;
  held = x.held;
  kept = x.kept;
}

abbrev part_state : {A : Type 0} → RunState A → Live A → PartState A
part_state t b = state b t.tally t.held t.kept

begins : {A : Type 0} (w : RelayWords) (r : A → List Entry → Type 0) (at : ℕ) (front : List (Live A)) (b : Live A) (back : List (Live A)) (x : RunContext) (t : RunState A) (m : History)
    → SplitAt t.live at front b back → IsRising 0 t.live → has_end b.sides ≡ true → AtPairs w r at x t m
    → InStage w r (part_context x t b back m) (Reading Up) (part_state t b) m
begins {A} w r at front b back x t m i rising has a =
    let split : IsRising 0 (front ++ b ∷ back) = subst (λ (xs : List (Live A)). IsRising 0 xs) i.whole rising in
    let ahead : PairsAhead w x.limits (b.number ∷ numbers back) m =
    subst (λ (xs : List (Live A)). PairsAhead w x.limits (numbers xs) m) (from_here t.live at front b back i) a.at in
    record {
      at = at_face w x.limits b.number (numbers back) m
          (ap (λ (ps : List ℕ). beyond b.number ps) (a.agrees.live ∙ ap numbers i.whole) ∙ split_beyond 0 front back b split)
          (all_others b.number (b.number + 1) back (omega arith) (split_back 0 front back b split)) ahead;
      has = has;
      agrees = record {
        number = refl;
        represents = all_middle (IsIn r m) front back b (subst (λ (xs : List (Live A)). AllByRecursion (IsIn r m) xs) i.whole a.agrees.each);
        others = λ q ne. refl;
        live = ap (λ (h : Bool). unless_gone h b.number (live_pairs m)) (sym has);
        accepts = a.agrees.accepts;
        turn = a.agrees.turn;
        time = refl;
        motion = a.agrees.motion;
        count = a.agrees.count;
        finish = a.agrees.finish;
      };
      told = a.told;
      kept = a.kept;
    }

-- the state of the run after it
abbrev pub with_list : {A : Type 0} → List (Live A) → Tally → Option (List ℕ) → Option (List ℕ) → RunState A → RunState A
with_list live tally held kept t = record { live = live; accepted = t.accepted; tally = tally; moment = t.moment; held = held; kept = kept }

each_after : {A : Type 0} (r : A → List Entry → Type 0) (lives : Bool) (front : List (Live A)) (b new : Live A) (back : List (Live A)) (m n : History)
    → ((q : ℕ) → q ≢ b.number → journal q n ≡ journal q m) → IsIn r n new → IsRising 0 (front ++ b ∷ back) → AllByRecursion (IsIn r m) (front ++ b ∷ back)
    → AllByRecursion (IsIn r n) (list_after lives front new back)
each_after {A} r true front b new back m n others here rising all =
    keep_set (IsIn r m) (IsIn r n) 0 front back b new (λ y ne is. subst (λ (j : List Entry). Represents r y j) (sym (others y.number ne)) is) rising all here
each_after {A} r false front b new back m n others here rising all =
    keep_removed (IsIn r m) (IsIn r n) 0 front back b (λ y ne is. subst (λ (j : List Entry). Represents r y j) (sym (others y.number ne)) is) rising all

live_after : {A : Type 0} (lives : Bool) (front : List (Live A)) (b new : Live A) (back : List (Live A)) → new.number ≡ b.number → IsRising 0 (front ++ b ∷ back)
    → unless_gone lives b.number (numbers (front ++ b ∷ back)) ≡ numbers (list_after lives front new back)
live_after {A} true front b new back number rising = sym (set_numbers front back b new number)
live_after {A} false front b new back number rising = split_without 0 front back b rising

agrees_after : {A : Type 0} (r : A → List Entry → Type 0) (lives : Bool) (at : ℕ) (front : List (Live A)) (b new : Live A) (back : List (Live A)) (tally : Tally) (held kept : Option (List ℕ))
    (x : RunContext) (t : RunState A) (m n : History) → SplitAt t.live at front b back → IsRising 0 t.live → lives ≡ has_end new.sides → RunAgrees r x t m
    → PartAgrees r (part_context x t b back m) (state new tally held kept) n → RunAgrees r x (with_list (list_after lives front new back) tally held kept t) n
agrees_after {A} r lives at front b new back tally held kept x t m n i rising is a p =
    let split : IsRising 0 (front ++ b ∷ back) = subst (λ (xs : List (Live A)). IsRising 0 xs) i.whole rising in
    record {
      each = each_after r lives front b new back m n p.others (subst (λ (q : ℕ). Represents r new (journal q n)) (sym p.number) p.represents) split
          (subst (λ (xs : List (Live A)). AllByRecursion (IsIn r m) xs) i.whole a.each);
      live = p.live ∙ ap (λ (h : Bool). unless_gone h b.number (live_pairs m)) (sym is)
          ∙ ap (λ (ps : List ℕ). unless_gone lives b.number ps) (a.live ∙ ap numbers i.whole) ∙ live_after lives front b new back p.number split;
      accepts = p.accepts;
      turn = p.turn;
      time = omega (arith, p.time, a.time);
      motion = p.motion;
      count = p.count;
      finish = p.finish;
    }

-- what the sinks hold where one failed
pub holds_at : (w : RelayWords) (fault : SinkFault) (base held : Option (List ℕ)) (n : History) → HoldsBy w fault base held n → HoldsAt w (Fault (outside_of fault)) base held n
holds_at w Out base held n h = h
holds_at w Capture base held n h = h

pub keeps_at : (fault : SinkFault) (base kept : Option (List ℕ)) (n : History) → KeepsFront base kept (calls n) → KeepsAt (Fault (outside_of fault)) base kept n
keeps_at Out base kept n k = k
keeps_at Capture base kept n k = k

reaches_pairs : {A : Type 0} (w : RelayWords) (r : A → List Entry → Type 0) (lives : Bool) (at : ℕ) (front : List (Live A)) (b new : Live A) (back : List (Live A)) (tally : Tally) (held kept : Option (List ℕ))
    (result : Result (Unit {0}) SinkFault) (x : RunContext) (t : RunState A) (m n : History) → SplitAt t.live at front b back → IsRising 0 t.live → lives ≡ has_end new.sides → AtPairs w r at x t m
    → ReachesShut w r (part_context x t b back m) result Past (state new tally held kept) n
    → ReachesPairs w r (place_after lives at) result x (with_list (list_after lives front new back) tally held kept t) n
reaches_pairs {A} w r lives at front b new back tally held kept (Ok done) x t m n i rising is a s = record {
  at = subst (λ (ps : List ℕ). PairsAhead w x.limits ps n) (sym (from_after lives at front new back i.before)) (face_past w x.limits b.number (numbers back) n s.at);
  agrees = agrees_after r lives at front b new back tally held kept x t m n i rising is a.agrees s.agrees;
  told = s.told;
  kept = s.kept;
}
reaches_pairs {A} w r lives at front b new back tally held kept (Err fault) x t m n i rising is a s =
    record {
      ends = s.ends;
      open_still = s.open_still;
      follows = s.follows;
      agrees = agrees_after r lives at front b new back tally held kept x t m n i rising is a.agrees s.agrees;
      told = holds_at w fault x.held held n s.told;
      kept = keeps_at fault x.kept kept n s.kept;
    }

-- the part of the turn of the pair at a place
pub pair_visited : {A : Type 0} (w : RelayWords) (r : A → List Entry → Type 0) (lives : Bool) (at : ℕ) (front : List (Live A)) (b new : Live A) (back : List (Live A)) (tally : Tally) (held kept : Option (List ℕ))
    (result : Result (Unit {0}) SinkFault) (old : RunState A) (live' : List (Live A)) (accepted' moment' : ℕ) (c d : Option (List LogEntry))
    → SplitAt old.live at front b back → IsRising 0 old.live → has_end b.sides ≡ true → lives ≡ has_end new.sides
    → live' ≡ list_after lives front new back → accepted' ≡ old.accepted → moment' ≡ old.moment
    → Extends c d (ShutEffect w r (Reading Up) Past result (part_state old b) (state new tally held kept))
    → Extends c d (PairsEffect w r at (place_after lives at) result old (record { live = live'; accepted = accepted'; tally = tally; moment = moment'; held = held; kept = kept }))
pair_visited {A} w r lives at front b new back tally held kept result old live' accepted' moment' c d i rising has is e f h log =
    rw (e, f, h) (extends_map c d _ _ log
    (λ m n y. record {
      goes = λ x a. reaches_pairs w r lives at front b new back tally held kept result x old m n i rising is a
          (y.goes (part_context x old b back m) (begins w r at front b back x old m i rising has a));
    }))

-- ---- all pairs

-- none of them had its part of the turn
pub pairs_none : {A : Type 0} (w : RelayWords) (r : A → List Entry → Type 0) (at : ℕ) (t : RunState A) (a : Option (List LogEntry)) → Extends a a (PairsEffect w r at at (Ok tt) t t)
pairs_none {A} w r at t a = extends_none a _ (λ m. record { goes = λ x i. i })

-- some, and then more
pub pairs_then : {A : Type 0} (w : RelayWords) (r : A → List Entry → Type 0) (from mid to : ℕ) (first result : Result (Unit {0}) SinkFault) (old new last : RunState A) (a b d : Option (List LogEntry))
    → first ≡ Ok tt → Extends a b (PairsEffect w r from mid first old new) → Extends b d (PairsEffect w r mid to result new last) → Extends a d (PairsEffect w r from to result old last)
pairs_then {A} w r from mid to first result old new last a b d is_ok f g =
    extends_then a b d (PairsEffect w r from mid first old new) (PairsEffect w r mid to result new last) _ f g
    (λ m n k y z. record { goes = λ x i. z.goes x (subst (λ (o : Result (Unit {0}) SinkFault). ReachesPairs w r mid o x new n) is_ok (y.goes x i)) })

-- a sink failed
pub round_stops : {A : Type 0} (w : RelayWords) (r : A → List Entry → Type 0) (to : ℕ) (result : Result (Unit {0}) SinkFault) (fault : SinkFault) (old new : RunState A) (a b : Option (List LogEntry))
    → result ≡ Err fault → Extends a b (PairsEffect w r 0 to result old new) → Extends a b (RoundEffect w r (Err fault) old new)
round_stops {A} w r to result fault old new a b is_err f =
    extends_map a b (PairsEffect w r 0 to result old new) _ f
    (λ m n y. record { goes = λ x i. subst (λ (o : Result (Unit {0}) SinkFault). ReachesPairs w r to o x new n) is_err (y.goes x i) })

-- no pair is left
pub round_ends : {A : Type 0} (w : RelayWords) (r : A → List Entry → Type 0) (at : ℕ) (old new : RunState A) (a b : Option (List LogEntry)) → length new.live ≤ at
    → Extends a b (PairsEffect w r 0 at (Ok tt) old new) → Extends a b (RoundEffect w r (Ok tt) old new)
round_ends {A} w r at old new a b full f =
    extends_map a b (PairsEffect w r 0 at (Ok tt) old new) _ f
    (λ m n y. record {
      goes = λ x i.
          let j : AtPairs w r at x new n = y.goes x i in
          record {
            at = subst (λ (ps : List ℕ). PairsAhead w x.limits ps n) (ap numbers (drop_of_length-le new.live full)) j.at;
            agrees = j.agrees;
            told = j.told;
            kept = j.kept;
          };
    })
