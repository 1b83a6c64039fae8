-- Each mark stands in its place in the turn.
use Rattle.std.proofs.Common.{◌≡◌, ◌≢◌, ℕ, ◌<◌, ◌≤◌, ◌==◌, nat_lt, Bool, true, false, if◌then◌else◌}
use Rattle.std.proofs.Common.{List, [], ◌∷◌, Some, ◌⊎◌, refl, sym, ap, ◌∙◌, subst, inl, inr, arith}
use Rattle.std.proofs.lemmas.Bool.{lt-ltb, ltb-true, ltb-false}
use Rattle.std.proofs.lemmas.Bool.Decides.{eqb_tells}
use Rattle.gate_outside.specs.declared.ports.End.{End}
use Rattle.gate_outside.specs.declared.ports.End.TheVariants.{Client, Up}
use Rattle.gate_outside.specs.declared.ports.Accepted.TheVariants as accepted
use Rattle.gate_outside.specs.declared.ports.Got.{Got}
use Rattle.gate_outside.specs.declared.ports.Got.TheVariants as got
use Rattle.gate_outside.specs.declared.ports.Linked.{Linked}
use Rattle.gate_outside.specs.declared.ports.Put.{Put}
use Rattle.gate_outside.specs.declared.ports.Next.TheVariants.{Go, Stop}
use Rattle.gate_outside.specs.declared.log.LogEntry.TheVariants.{Accept, Connect, Read, Write, Shut}
use Rattle.gate_outside.specs.declared.log.LogEntry.TheVariants.{Idle, Now}
use Rattle.gate_relay.specs.declared.loss.Loss.TheVariants as loss
use Rattle.gate_relay.specs.Entries.{Entry, Refused, Began, Settled, Joined, Lost, OutOfMemory}
use Rattle.gate_relay.specs.Guards.{offers}
use Rattle.gate_relay.specs.RelayWords.{RelayWords}
use Rattle.gate_relay.specs.Sides.{sides, has_end}
use Rattle.gate_runs.specs.declared.lap.Lap.{Lap}
use Rattle.gate_runs.specs.declared.lap.Lap.TheVariants.{ToUp, ToClient, ToClientLate, ToUpAgain}
use Rattle.gate_runs.specs.declared.limits.Limits.{Limits}
use Rattle.gate_runs.specs.declared.served.Served.{Served}
use Rattle.gate_runs.specs.declared.served.Served.TheVariants.{Stopped, PairsDone, TurnLimit, Fault}
use Rattle.gate_runs.specs.declared.served.Served.TheVariants.{Memory}
use Rattle.gate_runs.specs.Marks.{Mark, History, Call, Refuse, TakeUp, RunOut, Finish}
use Rattle.gate_runs.specs.Journal.{journal, read_entry, write_entry}
use Rattle.gate_runs.specs.Stages.{Stage, Reading, Taking, Linking, Writing, Shutting, Past, later}
use Rattle.gate_runs.specs.Stages.{lap_end, stages_from, writing_at, at_running_out}
use Rattle.gate_runs.specs.Next.{most_writes, AskAccept, AskConnect, AskRead, AskWrite, AskShut}
use Rattle.gate_runs.specs.Next.{AskIdle, AskNow, Upcoming, Do, Settle, EndBy, Done, Point}
use Rattle.gate_runs.specs.Next.{BetweenTurns, ClockRead, BeforePairs, Refusing, InPair, Ending}
use Rattle.gate_runs.specs.Next.{Ended, after_put, after_shut, stage_of, live_pairs, point, next}
use Rattle.gate_runs.specs.Next.{begin, beyond, closing, may_accept}
use Rattle.gate_runs.specs.Serving.{RefusesAt, RunsOutAt, AtRead, AtTakeUp, AtWrite, is_ended}
use Rattle.gate_runs.specs.Serving.{Follows}
use Rattle.gate_turn_laws.specs.Ends.{newest}
use Rattle.gate_turn_laws.specs.Pairs.{is_among, is_live}
use Rattle.gate_turn_laws.specs.Turns.{rank, reached_stage, AsksNone, IsThrough, AllThrough}
use Rattle.gate_turn_laws.specs.Turns.{IsTried, IsInTurn, ShutsInTurn, AtStage, OfRefused, AtTheEnd}
use Rattle.gate_turn_laws.specs.Turns.{HasPlace, KeepsOrder}
use Rattle.gate_turn_laws.proofs.Lists.{is_or_isnt, unlike, if_same, if_other, among_kept}
use Rattle.gate_turn_laws.proofs.Order.{ordered, among_gone}
use Rattle.gate_turn_laws.proofs.Points.{after_shut_by, is_last, runs_still}
use Rattle.gate_turn_laws.proofs.Cover.{Asks, pairs_ahead, PassedAt, Below, Any, of_pair, of_next}
use Rattle.gate_turn_laws.proofs.Cover.{rests, begins, accepts, refuses, stops, closes, cover_at}
use Rattle.gate_turn_laws.proofs.Cover.{rest_at, begin_at}
use Rattle.gate_turn_laws.proofs.Living.{IsRefusal, LivesAt, wanted, lives}
use Rattle.gate_turn_laws.proofs.Stages.{OwnAt, WritesAt, chain_of, Found, found_by, among_passes}
use Rattle.gate_turn_laws.proofs.Stages.{stage_ahead, stage_own}
use Rattle.gate_turn_laws.proofs.Ends.{StopMark, LedTo, led_to, finish_is}

-- ---- how far the pairs are, at a point

abbrev pub Whole : RelayWords → History → Point → Type 0
Whole w m BetweenTurns = AllThrough w m
Whole w m ClockRead = (q : ℕ) → reached_stage q m ≡ Reading Up
Whole w m BeforePairs = (q : ℕ) → is_live q m ≡ true → reached_stage q m ≡ Reading Up
Whole w m (Refusing p) = ((q : ℕ) → is_live q m ≡ true → reached_stage q m ≡ Reading Up) × (newest m ≡ Some (Refuse p))
Whole w m (InPair p s) = (reached_stage p m ≡ s) × ((q : ℕ) → is_live q m ≡ true → q < p → IsThrough w q m) × ((q : ℕ) → is_live q m ≡ true → p < q → reached_stage q m ≡ Reading Up)
Whole w m (Ending how) = Unit {0}
Whole w m Ended = Unit {0}

-- a pair from whose stage on nothing is asked is through
through_at : (w : RelayWords) (q : ℕ) (s : Stage) (m : History) → reached_stage q m ≡ s → AsksNone w q (stages_from s) (journal q m) → IsThrough w q m
through_at w q s m e none = subst (λ (x : Stage). AsksNone w q (stages_from x) (journal q m)) (sym e) none

among_beyond : (p q : ℕ) (ps : List ℕ) → is_among q ps ≡ true → p < q → is_among q (beyond p ps) ≡ true
among_beyond p q ps h low = among_kept (λ r. nat_lt p r) q ps h (lt-ltb p q low)

compare : (q p : ℕ) → (q < p) ⊎ (q ≡ p) ⊎ (p < q)
compare q p = elim (is_or_isnt (nat_lt q p)) [
  | inl low ↦ inl (ltb-true q p low)
  | inr high ↦ let least : p ≤ q = ltb-false q p high in elim (eqb_tells q p) [ inl t ↦ inr (inl t.1) | inr f ↦ inr (inr (above q p least f.1)) ]
]
  where
    above : (q p : ℕ) → p ≤ q → q ≢ p → p < q
    above q p least ne = omega (arith, ne)

visit_through : (w : RelayWords) (c : Limits) (m : History) (R : ℕ → Type 0) (p : ℕ) (s : Stage) → Whole w m (InPair p s) → PassedAt w c m R (InPair p s)
    → (q : ℕ) → is_live q m ≡ true → R q → (q < p) ⊎ (q ≡ p) ⊎ (p < q) → IsThrough w q m
visit_through w c m R p s k passed q live r (inl low) = k.1 q live low
visit_through w c m R p s k passed q live r (inr (inl same)) = subst (λ (x : ℕ). IsThrough w x m) (sym same) (through_at w p s m k.0 passed.0)
visit_through w c m R p s k passed q live r (inr (inr high)) = through_at w q (Reading Up) m (k.2 q live high) (passed.1 q (among_beyond p q (live_pairs m) live high) r)

-- the pairs that had their part of the turn are through
point_through : (w : RelayWords) (c : Limits) (m : History) (R : ℕ → Type 0) (x : Point) → Whole w m x → PassedAt w c m R x
    → (q : ℕ) → is_live q m ≡ true → R q → IsThrough w q m
point_through w c m R BetweenTurns k passed q live r = absurd passed
point_through w c m R ClockRead k passed q live r = through_at w q (Reading Up) m (k q) (passed.1 q live r)
point_through w c m R BeforePairs k passed q live r = through_at w q (Reading Up) m (k q live) (passed q live r)
point_through w c m R (Refusing p) k passed q live r = absurd passed
point_through w c m R (InPair p s) k passed q live r = visit_through w c m R p s k passed q live r (compare q p)
point_through w c m R (Ending how) k passed q live r = absurd passed
point_through w c m R Ended k passed q live r = absurd passed

-- ---- the clock

clock_read : (m : History) (ms : ℕ) → newest m ≡ Some (Call (Now ms)) → point m ≡ ClockRead
clock_read [] ms e = absurd cc
clock_read (x ∷ m) ms e = let same : x ≡ Call (Now ms) = cc in ap (λ (y : Mark). point (y ∷ m)) same

tried_by : (w : RelayWords) (c : Limits) (m : History) (R : ℕ → Type 0) → PassedAt w c m R (point m) → IsTried c m
tried_by w c m R passed ms e = let here : PassedAt w c m R ClockRead = subst (λ (x : Point). PassedAt w c m R x) (clock_read m ms e) passed in here.0

abbrev is_clock : Point → Bool
is_clock BetweenTurns = false
is_clock ClockRead = true
is_clock BeforePairs = false
is_clock (Refusing p) = false
is_clock (InPair p s) = false
is_clock (Ending how) = false
is_clock Ended = false

tried_else : (c : Limits) (m : History) (x : Point) → point m ≡ x → is_clock x ≡ false → IsTried c m
tried_else c m x here other ms e = absurd (unlike is_clock x ClockRead (sym here ∙ clock_read m ms e) other refl)

-- ---- where something is asked of a pair

later_rank : (from s : Stage) → rank from ≤ rank s → rank from ≤ rank (later s)
later_rank from (Reading Up) k = omega (arith, k)
later_rank from (Reading Client) k = omega (arith, k)
later_rank from Taking k = omega (arith, k)
later_rank from Linking k = omega (arith, k)
later_rank from (Writing ToUp n) k = omega (arith, k)
later_rank from (Writing ToClient n) k = omega (arith, k)
later_rank from (Writing ToClientLate n) k = omega (arith, k)
later_rank from (Writing ToUpAgain n) k = omega (arith, k)
later_rank from (Shutting Up) k = omega (arith, k)
later_rank from (Shutting Client) k = omega (arith, k)
later_rank from Past k = k

-- between the clock and the end of a turn
abbrev pub is_inside : Point → Bool
is_inside BetweenTurns = false
is_inside ClockRead = true
is_inside BeforePairs = true
is_inside (Refusing p) = false
is_inside (InPair p s) = true
is_inside (Ending how) = false
is_inside Ended = false

ahead_inside : (m : History) (x : Point) (p : ℕ) → is_among p (pairs_ahead m x) ≡ true → is_inside x ≡ true
ahead_inside m BetweenTurns p e = absurd cc
ahead_inside m ClockRead p e = refl
ahead_inside m BeforePairs p e = refl
ahead_inside m (Refusing q) p e = absurd cc
ahead_inside m (InPair q s) p e = refl
ahead_inside m (Ending how) p e = absurd cc
ahead_inside m Ended p e = absurd cc

-- the pair of which something is asked, and the stage
pub record Asked (w : RelayWords) (c : Limits) (m : History) (up : Upcoming) : Type 0 where
  pub pair : ℕ
  pub at : Stage
  pub own : OwnAt w pair at (journal pair m) up
  pub asks : Asks w pair (stages_from (reached_stage pair m)) (journal pair m) up
  pub writes : WritesAt (reached_stage pair m) at
  pub same : stage_of pair (point m) ≡ reached_stage pair m
  pub inside : is_inside (point m) ≡ true
  pub turn : IsInTurn w c pair at m

-- what is asked of a pair
abbrev is_pair_ask : Upcoming → Bool
is_pair_ask (Do AskAccept) = false
is_pair_ask (Do (AskConnect q)) = true
is_pair_ask (Do (AskRead q end room)) = true
is_pair_ask (Do (AskWrite q end bytes)) = true
is_pair_ask (Do (AskShut q end)) = true
is_pair_ask (Do AskIdle) = false
is_pair_ask (Do AskNow) = false
is_pair_ask (Settle q) = true
is_pair_ask (EndBy how) = false
is_pair_ask Done = false

pub data AskedAt (w : RelayWords) (c : Limits) (m : History) (up : Upcoming) : Type 0 where
  in_part : Asked w c m up → AskedAt w c m up
  at_refusal : (p : ℕ) → point m ≡ Refusing p → Do (AskShut p Client) ≡ up → AskedAt w c m up
  at_end : point m ≡ Ended → AskedAt w c m up
  of_none : is_pair_ask up ≡ false → AskedAt w c m up

begin_none : (c : Limits) (m : History) (up : Upcoming) → begin c m ≡ up → is_pair_ask up ≡ false
begin_none c m up e = elim (begin_at c m up e) [
  | inl h ↦ sym (ap is_pair_ask h.1)
  | inr g ↦ elim g [ inl h ↦ sym (ap is_pair_ask h.2) | inr h ↦ sym (ap is_pair_ask h.1) ]
]

found_at : (w : RelayWords) (p : ℕ) (from : Stage) (m : History) (up : Upcoming) → Asks w p (stages_from from) (journal p m) up
    → Found w p (journal p m) (λ s. rank from ≤ rank s) from up
found_at w p from m up own =
    found_by w p (journal p m) (λ s. rank from ≤ rank s) (λ s here none. later_rank from s here) from from (stages_from from) up (chain_of from) (omega arith) own

asked_from : (w : RelayWords) (c : Limits) (m : History) (p : ℕ) (from : Stage) (up : Upcoming) → Asks w p (stages_from from) (journal p m) up → reached_stage p m ≡ from
    → stage_of p (point m) ≡ from → ((q : ℕ) → is_live q m ≡ true → q < p → IsThrough w q m) → ((q : ℕ) → is_live q m ≡ true → p < q → reached_stage q m ≡ Reading Up)
    → IsTried c m → is_inside (point m) ≡ true → Asked w c m up
asked_from w c m p from up own here stage below above tried inside =
    let k : Found w p (journal p m) (λ s. rank from ≤ rank s) from up = found_at w p from m up own in
    record {
      pair = p;
      at = k.at;
      own = k.asks;
      asks = subst (λ (x : Stage). Asks w p (stages_from x) (journal p m) up) (sym here) own;
      writes = subst (λ (x : Stage). WritesAt x k.at) (sym here) k.writes;
      same = stage ∙ sym here;
      inside = inside;
      turn = record { onward = subst (λ (x : Stage). rank x ≤ rank k.at) (sym here) k.here; below = below; above = above; tried = tried };
    }

-- a pair that is ahead has reached nothing yet, nor have those above it
ahead_fresh : (w : RelayWords) (m : History) (x : Point) (p : ℕ) → Whole w m x → is_among p (pairs_ahead m x) ≡ true → is_live p m ≡ true
    → (q : ℕ) → is_live q m ≡ true → p ≤ q → reached_stage q m ≡ Reading Up
ahead_fresh w m BetweenTurns p k e live q also up = absurd cc
ahead_fresh w m ClockRead p k e live q also up = k q
ahead_fresh w m BeforePairs p k e live q also up = k q also
ahead_fresh w m (Refusing r) p k e live q also up = absurd cc
ahead_fresh w m (InPair r s) p k e live q also up =
    let low : r < p = ltb-true r p (among_passes (λ i. nat_lt r i) p (live_pairs m) e) in k.2 q also (omega arith)
ahead_fresh w m (Ending how) p k e live q also up = absurd cc
ahead_fresh w m Ended p k e live q also up = absurd cc

pub asked_at : (w : RelayWords) (c : Limits) (m : History) (up : Upcoming) → Follows w c m → Whole w m (point m) → next w c m ≡ up → AskedAt w c m up
asked_at w c m up f k e = elim (cover_at w c m (point m) up (ordered w c m f).rising e) [
  | of_pair p s x own ↦ let here : Whole w m (InPair p s) = subst (λ (y : Point). Whole w m y) x k in
      in_part (asked_from w c m p s up own here.0 (ap (λ (y : Point). stage_of p y) x ∙ stage_own p s) here.1 here.2 (tried_else c m (InPair p s) x refl) (ap is_inside x))
  | of_next p live front passed own ↦
      in_part (asked_from w c m p (Reading Up) up own (ahead_fresh w m (point m) p k front live p live (omega arith)) (stage_ahead m (point m) p front)
      (point_through w c m (Below p) (point m) k passed)
      (λ q also high. ahead_fresh w m (point m) p k front live q also (omega arith))
      (tried_by w c m (Below p) passed) (ahead_inside m (point m) p front))
  | rests passed r ↦ elim (rest_at c m up r) [ inl i ↦ of_none (sym (ap is_pair_ask i.1)) | inr b ↦ of_none (begin_none c m up b.1) ]
  | begins x b ↦ of_none (begin_none c m up b)
  | accepts x t a ↦ of_none (sym (ap is_pair_ask a))
  | refuses p x a ↦ at_refusal p x a
  | stops how x a ↦ of_none (sym (ap is_pair_ask a))
  | closes x a ↦ at_end x
]

-- a read, a take-up, a connect or a write is asked in its part of the turn
pub asked_part : (w : RelayWords) (c : Limits) (m : History) (up : Upcoming) → Follows w c m → Whole w m (point m) → next w c m ≡ up → is_pair_ask up ≡ true → is_last up ≡ false
    → Asked w c m up
asked_part w c m up f k e of_one inner = elim (asked_at w c m up f k e) [
  | in_part a ↦ a
  | at_refusal p x a ↦ absurd (unlike is_last up (Do (AskShut p Client)) (sym a) inner refl)
  | at_end x ↦ let clash : false ≡ true = sym (runs_still w c m up e inner) ∙ ap is_ended x in absurd cc
  | of_none none ↦ let clash : true ≡ false = sym of_one ∙ none in absurd cc
]

-- ---- the next point

-- the mark x of pair p leaves the others as they are
record KeepsOthers (p : ℕ) (x : Mark) (m : History) : Type 0 where
  live : (q : ℕ) → is_live q (x ∷ m) ≡ true → is_live q m ≡ true
  stages : (q : ℕ) → p ≢ q → reached_stage q (x ∷ m) ≡ reached_stage q m
  journals : (q : ℕ) → p ≢ q → journal q (x ∷ m) ≡ journal q m

whole_on : (w : RelayWords) (p : ℕ) (s : Stage) (x : Mark) (m : History) → ((q : ℕ) → is_live q m ≡ true → q < p → IsThrough w q m)
    → ((q : ℕ) → is_live q m ≡ true → p < q → reached_stage q m ≡ Reading Up) → KeepsOthers p x m → reached_stage p (x ∷ m) ≡ s → Whole w (x ∷ m) (InPair p s)
whole_on w p s x m below above k here = (
  here,
  (λ q live low.
      let ne : p ≢ q = (λ e. absurd (omega arith)) in
      subst (λ (h : List Entry). AsksNone w q (stages_from (reached_stage q (x ∷ m))) h) (sym (k.journals q ne))
      (through_at_stage q (reached_stage q (x ∷ m)) (k.stages q ne) (below q (k.live q live) low))),
  (λ q live high. k.stages q (λ e. absurd (omega arith)) ∙ above q (k.live q live) high),
)
  where
    through_at_stage : (q : ℕ) (s : Stage) → s ≡ reached_stage q m → IsThrough w q m → AsksNone w q (stages_from s) (journal q m)
    through_at_stage q s e t = subst (λ (y : Stage). AsksNone w q (stages_from y) (journal q m)) (sym e) t

-- the pair of the mark x alone is at another stage, and has an entry more
keeps_by : (p : ℕ) (x : Mark) (e : Entry) (s : ℕ → Stage) (m : History) → ((q : ℕ) → is_live q (x ∷ m) ≡ true → is_live q m ≡ true)
    → ((q : ℕ) → reached_stage q (x ∷ m) ≡ (if p == q then s q else reached_stage q m)) → ((q : ℕ) → journal q (x ∷ m) ≡ (if p == q then e ∷ journal q m else journal q m)) → KeepsOthers p x m
keeps_by p x e s m live stages journals = record {
  live = live;
  stages = λ q ne. stages q ∙ if_other p q (s q) (reached_stage q m) ne;
  journals = λ q ne. journals q ∙ if_other p q (e ∷ journal q m) (journal q m) ne;
}

-- the pairs on both sides of p
record Around (w : RelayWords) (p : ℕ) (m : History) : Type 0 where
  below : (q : ℕ) → is_live q m ≡ true → q < p → IsThrough w q m
  above : (q : ℕ) → is_live q m ≡ true → p < q → reached_stage q m ≡ Reading Up

around : (w : RelayWords) (c : Limits) (p r : ℕ) (s : Stage) (m : History) → IsInTurn w c r s m → r ≡ p → Around w p m
around w c p r s m t e = subst (λ (i : ℕ). Around w i m) e (record { below = t.below; above = t.above })

connect_whole : (w : RelayWords) (c : Limits) (p : ℕ) (answer : Linked) (m : History) → Asked w c m (Do (AskConnect p)) → Whole w (Call (Connect p answer) ∷ m) (InPair p (later Linking))
connect_whole w c p answer m a =
    let own : (a.pair ≡ p) × (a.at ≡ Linking) = a.own in
    let k : Around w p m = around w c p a.pair a.at m a.turn own.0 in
    whole_on w p (later Linking) (Call (Connect p answer)) m k.below k.above
    (keeps_by p (Call (Connect p answer)) (Joined answer) (λ q. later Linking) m (λ q live. live) (λ q. refl) (λ q. refl)) (if_same p (later Linking) (reached_stage p m))

read_whole : (w : RelayWords) (c : Limits) (p room : ℕ) (end : End) (answer : Got) (bytes : List ℕ) (m : History) → Asked w c m (Do (AskRead p end room))
    → Whole w (Call (Read p end room answer bytes) ∷ m) (InPair p (later (Reading end)))
read_whole w c p room end answer bytes m a =
    let own : (a.pair ≡ p) × (a.at ≡ Reading end) = a.own in
    let k : Around w p m = around w c p a.pair a.at m a.turn own.0 in
    whole_on w p (later (Reading end)) (Call (Read p end room answer bytes)) m k.below k.above
    (keeps_by p (Call (Read p end room answer bytes)) (read_entry end answer bytes) (λ q. later (Reading end)) m (λ q live. live) (λ q. refl) (λ q. refl))
    (if_same p (later (Reading end)) (reached_stage p m))

take_up_whole : (w : RelayWords) (c : Limits) (p : ℕ) (m : History) → Asked w c m (Settle p) → Whole w (TakeUp p ∷ m) (InPair p (later Taking))
take_up_whole w c p m a =
    let own : (a.pair ≡ p) × (a.at ≡ Taking) = a.own in
    let k : Around w p m = around w c p a.pair a.at m a.turn own.0 in
    whole_on w p (later Taking) (TakeUp p) m k.below k.above
    (keeps_by p (TakeUp p) Settled (λ q. later Taking) m (λ q live. live) (λ q. refl) (λ q. refl)) (if_same p (later Taking) (reached_stage p m))

write_whole : (w : RelayWords) (c : Limits) (p : ℕ) (end : End) (bytes : List ℕ) (answer : Put) (m : History) → Asked w c m (Do (AskWrite p end bytes))
    → Whole w (Call (Write p end bytes answer) ∷ m) (InPair p (after_put answer (writing_at end (stage_of p (point m)))))
write_whole w c p end bytes answer m a =
    let own : (a.pair ≡ p) × (lap : Lap) × (k : ℕ) × (a.at ≡ Writing lap k) × (lap_end lap ≡ end) × (offers w end (journal a.pair m) ≡ Some bytes) × (nat_lt k most_writes ≡ true) = a.own in
    let same : stage_of p (point m) ≡ reached_stage p m = subst (λ (i : ℕ). stage_of i (point m) ≡ reached_stage i m) own.0 a.same in
    let k : Around w p m = around w c p a.pair a.at m a.turn own.0 in
    whole_on w p (after_put answer (writing_at end (stage_of p (point m)))) (Call (Write p end bytes answer)) m k.below k.above
    (keeps_by p (Call (Write p end bytes answer)) (write_entry end bytes answer) (λ q. after_put answer (writing_at end (reached_stage q m))) m (λ q live. live) (λ q. refl) (λ q. refl))
    (if_same p (after_put answer (writing_at end (reached_stage p m))) (reached_stage p m) ∙ ap (λ (s : Stage). after_put answer (writing_at end s)) (sym same))

-- no pair comes to live by a shut
shut_live : (p : ℕ) (end : End) (m : History) (q : ℕ) → is_live q (Call (Shut p end) ∷ m) ≡ true → is_live q m ≡ true
shut_live p end m q live = among_gone (has_end (sides (journal p (Call (Shut p end) ∷ m)))) p q (live_pairs m) live

after_shut_inside : (P : Point → Type 0) (p : ℕ) (end : End) (x : Point) → is_inside x ≡ true → P (InPair p (later (Shutting end))) → P (after_shut p end x)
after_shut_inside P p end BetweenTurns e k = absurd cc
after_shut_inside P p end ClockRead e k = k
after_shut_inside P p end BeforePairs e k = k
after_shut_inside P p end (Refusing q) e k = absurd cc
after_shut_inside P p end (InPair q s) e k = k
after_shut_inside P p end (Ending how) e k = absurd cc
after_shut_inside P p end Ended e k = absurd cc

shut_whole-part : (w : RelayWords) (c : Limits) (p : ℕ) (end : End) (m : History) → Asked w c m (Do (AskShut p end)) → Whole w (Call (Shut p end) ∷ m) (after_shut p end (point m))
shut_whole-part w c p end m a =
    let own : (a.pair ≡ p) × (a.at ≡ Shutting end) = a.own in
    let k : Around w p m = around w c p a.pair a.at m a.turn own.0 in
    after_shut_inside (Whole w (Call (Shut p end) ∷ m)) p end (point m) a.inside
    (whole_on w p (later (Shutting end)) (Call (Shut p end)) m k.below k.above
    (keeps_by p (Call (Shut p end)) (Lost end loss.Shut) (λ q. later (Shutting end)) m (shut_live p end m) (λ q. refl) (λ q. refl)) (if_same p (later (Shutting end)) (reached_stage p m)))

-- a pair that was refused lives no more after its shut
pub refused_gone : (w : RelayWords) (c : Limits) (p : ℕ) (m : History) → Follows w c (Call (Shut p Client) ∷ m) → IsRefusal p (journal p m) → is_live p (Call (Shut p Client) ∷ m) ≡ false
refused_gone w c p m f r =
    let after : journal p (Call (Shut p Client) ∷ m) ≡ Lost Client loss.Shut ∷ Refused ∷ Began p r.0 ∷ [] =
    if_same p (Lost Client loss.Shut ∷ journal p m) (journal p m) ∙ ap (λ (h : List Entry). Lost Client loss.Shut ∷ h) r.1 in
    (lives w c (Call (Shut p Client) ∷ m) f).each p ∙ ap (λ (h : List Entry). has_end (sides h)) after

shut_whole-refused : (w : RelayWords) (c : Limits) (p : ℕ) (m : History) → Follows w c (Call (Shut p Client) ∷ m) → Whole w m (Refusing p) → IsRefusal p (journal p m)
    → Whole w (Call (Shut p Client) ∷ m) BeforePairs
shut_whole-refused w c p m f k r q live =
    let ne : p ≢ q = (λ e. let alive : is_live p (Call (Shut p Client) ∷ m) ≡ true = subst (λ (i : ℕ). is_live i (Call (Shut p Client) ∷ m) ≡ true) (sym e) live in
    let clash : false ≡ true = sym (refused_gone w c p m f r) ∙ alive in cc) in
    if_other p q (later (Shutting Client)) (reached_stage q m) ne ∙ k.0 q (shut_live p Client m q live)

shut_whole : (w : RelayWords) (c : Limits) (p : ℕ) (end : End) (m : History) → Follows w c (Call (Shut p end) ∷ m) → Whole w m (point m)
    → Whole w (Call (Shut p end) ∷ m) (after_shut p end (point m))
shut_whole w c p end m f k = elim (asked_at w c m (Do (AskShut p end)) f.2 k f.0) [
  | in_part a ↦ shut_whole-part w c p end m a
  | at_refusal r x e ↦
      let call : AskShut r Client ≡ AskShut p end = cc in
      let pair : r ≡ p = cc in
      let side : Client ≡ end = cc in
      let here : point m ≡ Refusing p = x ∙ ap Refusing pair in
      let refused : IsRefusal p (journal p m) = subst (λ (y : Point). LivesAt m y) here (lives w c m f.2).here in
      subst (λ (y : Point). Whole w (Call (Shut p end) ∷ m) (after_shut p end y)) (sym here)
      (subst (λ (other : End). Follows w c (Call (Shut p other) ∷ m) → Whole w (Call (Shut p other) ∷ m) BeforePairs) side
      (λ g. shut_whole-refused w c p m g (subst (Whole w m) here k) refused) f)
  | at_end x ↦ subst (λ (y : Point). Whole w (Call (Shut p end) ∷ m) (after_shut p end y)) (sym x) tt
  | of_none e ↦ absurd cc
]

-- ---- between the pairs and the next turn

-- what comes behind the pairs, or between two turns
abbrev pub is_rest : Upcoming → Bool
is_rest (Do AskAccept) = false
is_rest (Do (AskConnect q)) = false
is_rest (Do (AskRead q end room)) = false
is_rest (Do (AskWrite q end bytes)) = false
is_rest (Do (AskShut q end)) = false
is_rest (Do AskIdle) = true
is_rest (Do AskNow) = true
is_rest (Settle q) = false
is_rest (EndBy Stopped) = false
is_rest (EndBy PairsDone) = true
is_rest (EndBy TurnLimit) = true
is_rest (EndBy (Fault what)) = false
is_rest (EndBy Memory) = false
is_rest Done = false

own_rest : (w : RelayWords) (p : ℕ) (s : Stage) (h : List Entry) (up : Upcoming) → OwnAt w p s h up → is_rest up ≡ true → ⊥
own_rest w p s h (Do AskAccept) own t = own
own_rest w p s h (Do (AskConnect q)) own t = cc
own_rest w p s h (Do (AskRead q end room)) own t = cc
own_rest w p s h (Do (AskWrite q end bytes)) own t = cc
own_rest w p s h (Do (AskShut q end)) own t = cc
own_rest w p s h (Do AskIdle) own t = own
own_rest w p s h (Do AskNow) own t = own
own_rest w p s h (Settle q) own t = cc
own_rest w p s h (EndBy how) own t = own
own_rest w p s h Done own t = own

stop_rest : (m : History) (how : Served) → StopMark m how → is_rest (EndBy how) ≡ false
stop_rest m Stopped s = refl
stop_rest m PairsDone s = absurd s
stop_rest m TurnLimit s = absurd s
stop_rest m (Fault what) s = refl
stop_rest m Memory s = refl

closing_rest : (m : History) (ps : List ℕ) → is_rest (closing m ps) ≡ false
closing_rest m [] = refl
closing_rest m (p ∷ ps) = refl

pub all_through : (w : RelayWords) (c : Limits) (m : History) (up : Upcoming) → Follows w c m → Whole w m (point m) → next w c m ≡ up → is_rest up ≡ true → AllThrough w m × IsTried c m
all_through w c m up f k e t = elim (cover_at w c m (point m) up (ordered w c m f).rising e) [
  | of_pair p s x own ↦ absurd (own_rest w p _ (journal p m) up (found_at w p s m up own).asks t)
  | of_next p live front passed own ↦ absurd (own_rest w p _ (journal p m) up (found_at w p (Reading Up) m up own).asks t)
  | rests passed r ↦ ((λ p live. point_through w c m Any (point m) k passed p live tt), tried_by w c m Any passed)
  | begins x b ↦ (subst (Whole w m) x k, tried_else c m BetweenTurns x refl)
  | accepts x h a ↦ absurd (unlike is_rest _ up a refl t)
  | refuses p x a ↦ absurd (unlike is_rest _ up a refl t)
  | stops how x a ↦ absurd (unlike is_rest _ up a (stop_rest m how (subst (λ (y : Point). LedTo m y) x (led_to m))) t)
  | closes x a ↦ absurd (unlike is_rest _ up a (closing_rest m (live_pairs m)) t)
]

-- ---- each mark

refuse_whole : (w : RelayWords) (p : ℕ) (m : History) → RefusesAt p m → Whole w m (point m) → Whole w (Refuse p ∷ m) (Refusing p)
refuse_whole w p (Call (Accept (accepted.Pair q)) ∷ m) r k = (k, refl)
refuse_whole w p m r k = absurd r

keeps_out : (p : ℕ) (s : Stage) (cut : ℕ) (m : History) → KeepsOthers p (RunOut p s cut) m
keeps_out p s cut m = keeps_by p (RunOut p s cut) (OutOfMemory cut) (λ q. s) m (λ q live. live) (λ q. refl) (λ q. refl)

run_out_whole : (w : RelayWords) (c : Limits) (p : ℕ) (s : Stage) (cut : ℕ) (m : History) → Follows w c m → RunsOutAt w c p s cut m → Whole w m (point m)
    → Whole w (RunOut p s cut ∷ m) (InPair p s)
run_out_whole w c p s k m f (AtRead cut end room n bytes old) here =
    whole_on w p (later (Reading end)) (RunOut p (later (Reading end)) cut) (Call (Read p end room (got.Bytes n) bytes) ∷ old) here.1 here.2
    (keeps_out p (later (Reading end)) cut (Call (Read p end room (got.Bytes n) bytes) ∷ old))
    (if_same p (later (Reading end)) (reached_stage p (Call (Read p end room (got.Bytes n) bytes) ∷ old)))
run_out_whole w c p s k m f (AtTakeUp cut old) here =
    whole_on w p (later Taking) (RunOut p (later Taking) cut) (TakeUp p ∷ old) here.1 here.2 (keeps_out p (later Taking) cut (TakeUp p ∷ old))
    (if_same p (later Taking) (reached_stage p (TakeUp p ∷ old)))
run_out_whole w c p s k m f (AtWrite end bytes old e t) here =
    let a : Asked w c old (Do (AskWrite p end bytes)) = asked_part w c old (Do (AskWrite p end bytes)) f here e refl refl in
    let own : (a.pair ≡ p) × (lap : Lap) × (n : ℕ) × (a.at ≡ Writing lap n) × (lap_end lap ≡ end) × (offers w end (journal a.pair old) ≡ Some bytes) × (nat_lt n most_writes ≡ true) = a.own in
    let k : Around w p old = around w c p a.pair a.at old a.turn own.0 in
    let s : Stage = at_running_out (writing_at end (stage_of p (point old))) in
    whole_on w p s (RunOut p s 0) old k.below k.above (keeps_out p s 0 old) (if_same p s (reached_stage p old))

pub accept_whole : (w : RelayWords) (c : Limits) (m : History) → Follows w c m → Whole w m (point m) → next w c m ≡ Do AskAccept → Whole w m ClockRead
accept_whole w c m f k e = let a : (point m ≡ ClockRead) × (may_accept c m ≡ true) = wanted w c m (Do AskAccept) f e in subst (Whole w m) a.0 k

pub whole : (w : RelayWords) (c : Limits) (m : History) → Follows w c m → Whole w m (point m)
whole w c [] f = λ q live. absurd cc
whole w c (Call (Accept (accepted.Pair p)) ∷ m) f = let k : Whole w m ClockRead = accept_whole w c m f.2 (whole w c m f.2) f.0 in λ q live. k q
whole w c (Call (Accept accepted.NotYet) ∷ m) f = let k : Whole w m ClockRead = accept_whole w c m f.2 (whole w c m f.2) f.0 in λ q live. k q
whole w c (Call (Accept accepted.Failed) ∷ m) f = tt
whole w c (Call (Connect p answer) ∷ m) f = connect_whole w c p answer m (asked_part w c m _ f.2 (whole w c m f.2) f.0 refl refl)
whole w c (Call (Read p end room answer bytes) ∷ m) f = read_whole w c p room end answer bytes m (asked_part w c m _ f.2 (whole w c m f.2) f.0 refl refl)
whole w c (Call (Write p end bytes answer) ∷ m) f = write_whole w c p end bytes answer m (asked_part w c m _ f.2 (whole w c m f.2) f.0 refl refl)
whole w c (Call (Shut p end) ∷ m) f = shut_whole w c p end m f (whole w c m f.2)
whole w c (Call (Idle Go) ∷ m) f = (all_through w c m (Do AskIdle) f.2 (whole w c m f.2) f.0 refl).0
whole w c (Call (Idle Stop) ∷ m) f = tt
whole w c (Call (Now ms) ∷ m) f = λ q. refl
whole w c (Refuse p ∷ m) f = refuse_whole w p m f.0 (whole w c m f.1)
whole w c (TakeUp p ∷ m) f = take_up_whole w c p m (asked_part w c m _ f.1 (whole w c m f.1) f.0 refl refl)
whole w c (RunOut p s cut ∷ m) f = run_out_whole w c p s cut m f.2 f.1 (whole w c m f.2)
whole w c (Finish how ∷ m) f = tt

-- ---- the place of each mark

at_stage : (w : RelayWords) (c : Limits) (m : History) (p r : ℕ) (s t : Stage) → IsInTurn w c r s m → r ≡ p → s ≡ t → IsInTurn w c p t m
at_stage w c m p r s t k e h = subst (λ (y : Stage). IsInTurn w c p y m) h (subst (λ (i : ℕ). IsInTurn w c i s m) e k)

clock_before : (m : History) → point m ≡ ClockRead → (ms : ℕ) × (newest m ≡ Some (Call (Now ms)))
clock_before [] e = absurd (unlike is_clock BetweenTurns ClockRead e refl refl)
clock_before (Call (Accept (accepted.Pair p)) ∷ m) e = absurd (unlike is_clock BeforePairs ClockRead e refl refl)
clock_before (Call (Accept accepted.NotYet) ∷ m) e = absurd (unlike is_clock BeforePairs ClockRead e refl refl)
clock_before (Call (Accept accepted.Failed) ∷ m) e = absurd (unlike is_clock (point (Call (Accept accepted.Failed) ∷ m)) ClockRead e refl refl)
clock_before (Call (Connect p answer) ∷ m) e = absurd (unlike is_clock (point (Call (Connect p answer) ∷ m)) ClockRead e refl refl)
clock_before (Call (Read p end room answer bytes) ∷ m) e = absurd (unlike is_clock (point (Call (Read p end room answer bytes) ∷ m)) ClockRead e refl refl)
clock_before (Call (Write p end bytes answer) ∷ m) e = absurd (unlike is_clock (point (Call (Write p end bytes answer) ∷ m)) ClockRead e refl refl)
clock_before (Call (Shut p end) ∷ m) e =
    absurd (unlike is_clock (after_shut p end (point m)) ClockRead e (after_shut_by (λ (x : Point). is_clock x ≡ false) p end (point m) refl refl (λ o. refl)) refl)
clock_before (Call (Idle Go) ∷ m) e = absurd (unlike is_clock BetweenTurns ClockRead e refl refl)
clock_before (Call (Idle Stop) ∷ m) e = absurd (unlike is_clock (point (Call (Idle Stop) ∷ m)) ClockRead e refl refl)
clock_before (Call (Now ms) ∷ m) e = (ms, refl)
clock_before (Refuse p ∷ m) e = absurd (unlike is_clock (Refusing p) ClockRead e refl refl)
clock_before (TakeUp p ∷ m) e = absurd (unlike is_clock (point (TakeUp p ∷ m)) ClockRead e refl refl)
clock_before (RunOut p s cut ∷ m) e = absurd (unlike is_clock (InPair p s) ClockRead e refl refl)
clock_before (Finish how ∷ m) e = absurd (unlike is_clock Ended ClockRead e refl refl)

write_place : (w : RelayWords) (c : Limits) (p : ℕ) (end : End) (bytes : List ℕ) (m : History) → Asked w c m (Do (AskWrite p end bytes)) → IsInTurn w c p (writing_at end (reached_stage p m)) m
write_place w c p end bytes m a =
    let own : (a.pair ≡ p) × (lap : Lap) × (k : ℕ) × (a.at ≡ Writing lap k) × (lap_end lap ≡ end) × (offers w end (journal a.pair m) ≡ Some bytes) × (nat_lt k most_writes ≡ true) = a.own in
    let stage : writing_at (lap_end own.1) (reached_stage a.pair m) ≡ Writing own.1 own.2 = subst (WritesAt (reached_stage a.pair m)) own.3 a.writes in
    let here : writing_at end (reached_stage p m) ≡ Writing own.1 own.2 =
    ap (λ (e : End). writing_at e (reached_stage p m)) (sym own.4) ∙ subst (λ (i : ℕ). writing_at (lap_end own.1) (reached_stage i m) ≡ Writing own.1 own.2) own.0 stage in
    at_stage w c m p a.pair a.at (writing_at end (reached_stage p m)) a.turn own.0 (own.3 ∙ sym here)

refuse_place : (p : ℕ) (m : History) → RefusesAt p m → newest m ≡ Some (Call (Accept (accepted.Pair p)))
refuse_place p (Call (Accept (accepted.Pair q)) ∷ m) r = ap (λ (i : ℕ). Some (Call (Accept (accepted.Pair i)))) r
refuse_place p m r = absurd r

out_rank : (s : Stage) → rank s ≤ rank (at_running_out s)
out_rank (Reading end) = omega arith
out_rank Taking = omega arith
out_rank Linking = omega arith
out_rank (Writing ToUp k) = omega arith
out_rank (Writing ToClient k) = omega arith
out_rank (Writing ToClientLate k) = omega arith
out_rank (Writing ToUpAgain k) = omega arith
out_rank (Shutting end) = omega arith
out_rank Past = omega arith

-- where a pair is at the stage that it reached
here_in_turn : (w : RelayWords) (c : Limits) (p : ℕ) (s : Stage) (m : History) → Whole w m (InPair p s) → point m ≡ InPair p s → IsInTurn w c p s m
here_in_turn w c p s m k x = record {
  onward = subst (λ (y : Stage). rank (reached_stage p m) ≤ rank y) k.0 (omega arith);
  below = k.1;
  above = k.2;
  tried = tried_else c m (InPair p s) x refl;
}

out_in_turn : (w : RelayWords) (c : Limits) (p : ℕ) (s : Stage) (m : History) → IsInTurn w c p s m → IsInTurn w c p (at_running_out s) m
out_in_turn w c p s m k = record {
  onward = further (rank (reached_stage p m)) (rank s) (rank (at_running_out s)) k.onward (out_rank s);
  below = k.below;
  above = k.above;
  tried = k.tried;
}
  where
    further : (a b d : ℕ) → a ≤ b → b ≤ d → a ≤ d
    further a b d low high = omega (arith, low, high)

-- a pair that ran out of memory doesn't go back
run_out_place : (w : RelayWords) (c : Limits) (p : ℕ) (s : Stage) (cut : ℕ) (m : History) → Follows w c m → RunsOutAt w c p s cut m → Whole w m (point m) → IsInTurn w c p s m
run_out_place w c p s k m f (AtRead cut end room n bytes old) here = here_in_turn w c p (later (Reading end)) (Call (Read p end room (got.Bytes n) bytes) ∷ old) here refl
run_out_place w c p s k m f (AtTakeUp cut old) here = here_in_turn w c p (later Taking) (TakeUp p ∷ old) here refl
run_out_place w c p s k m f (AtWrite end bytes old e t) here =
    let a : Asked w c old (Do (AskWrite p end bytes)) = asked_part w c old (Do (AskWrite p end bytes)) f here e refl refl in
    let own : (a.pair ≡ p) × (lap : Lap) × (n : ℕ) × (a.at ≡ Writing lap n) × (lap_end lap ≡ end) × (offers w end (journal a.pair old) ≡ Some bytes) × (nat_lt n most_writes ≡ true) = a.own in
    let same : stage_of p (point old) ≡ reached_stage p old = subst (λ (i : ℕ). stage_of i (point old) ≡ reached_stage i old) own.0 a.same in
    subst (λ (x : Stage). IsInTurn w c p (at_running_out (writing_at end x)) old) (sym same)
    (out_in_turn w c p (writing_at end (reached_stage p old)) old (write_place w c p end bytes old a))

shut_place : (w : RelayWords) (c : Limits) (p : ℕ) (end : End) (m : History) → Follows w c (Call (Shut p end) ∷ m) → ShutsInTurn w c p end m
shut_place w c p end m f = elim (asked_at w c m (Do (AskShut p end)) f.2 (whole w c m f.2) f.0) [
  | in_part a ↦ let own : (a.pair ≡ p) × (a.at ≡ Shutting end) = a.own in AtStage (at_stage w c m p a.pair a.at (Shutting end) a.turn own.0 own.1)
  | at_refusal r x e ↦
      let call : AskShut r Client ≡ AskShut p end = cc in
      let pair : r ≡ p = cc in
      let here : Whole w m (Refusing r) = subst (Whole w m) x (whole w c m f.2) in
      OfRefused (here.1 ∙ ap (λ (i : ℕ). Some (Refuse i)) pair)
  | at_end x ↦ AtTheEnd (finish_is w c m f.2 ∙ ap is_ended x)
  | of_none e ↦ absurd cc
]

pub has_place : (w : RelayWords) (c : Limits) (x : Mark) (m : History) → Follows w c (x ∷ m) → HasPlace w c x m
has_place w c (Call (Accept answer)) m f =
    let a : (point m ≡ ClockRead) × (may_accept c m ≡ true) = wanted w c m (Do AskAccept) f.2 f.0 in (clock_before m a.0, a.1)
has_place w c (Call (Connect p answer)) m f =
    let a : Asked w c m (Do (AskConnect p)) = asked_part w c m _ f.2 (whole w c m f.2) f.0 refl refl in
    let own : (a.pair ≡ p) × (a.at ≡ Linking) = a.own in at_stage w c m p a.pair a.at Linking a.turn own.0 own.1
has_place w c (Call (Read p end room answer bytes)) m f =
    let a : Asked w c m (Do (AskRead p end room)) = asked_part w c m _ f.2 (whole w c m f.2) f.0 refl refl in
    let own : (a.pair ≡ p) × (a.at ≡ Reading end) = a.own in at_stage w c m p a.pair a.at (Reading end) a.turn own.0 own.1
has_place w c (Call (Write p end bytes answer)) m f = write_place w c p end bytes m (asked_part w c m _ f.2 (whole w c m f.2) f.0 refl refl)
has_place w c (Call (Shut p end)) m f = shut_place w c p end m f
has_place w c (Call (Idle answer)) m f = all_through w c m (Do AskIdle) f.2 (whole w c m f.2) f.0 refl
has_place w c (Call (Now ms)) m f = all_through w c m (Do AskNow) f.2 (whole w c m f.2) f.0 refl
has_place w c (Refuse p) m f = refuse_place p m f.0
has_place w c (TakeUp p) m f =
    let a : Asked w c m (Settle p) = asked_part w c m _ f.1 (whole w c m f.1) f.0 refl refl in
    let own : (a.pair ≡ p) × (a.at ≡ Taking) = a.own in at_stage w c m p a.pair a.at Taking a.turn own.0 own.1
has_place w c (RunOut p s cut) m f = run_out_place w c p s cut m f.2 f.1 (whole w c m f.2)
has_place w c (Finish Stopped) m f = tt
has_place w c (Finish PairsDone) m f = all_through w c m (EndBy PairsDone) f.2 (whole w c m f.2) f.0 refl
has_place w c (Finish TurnLimit) m f = all_through w c m (EndBy TurnLimit) f.2 (whole w c m f.2) f.0 refl
has_place w c (Finish (Fault what)) m f = tt
has_place w c (Finish Memory) m f = tt

pub keeps_order : (w : RelayWords) (c : Limits) (m : History) → Follows w c m → KeepsOrder w c m
keeps_order w c [] f = tt
keeps_order w c (Call entry ∷ m) f = (has_place w c (Call entry) m f, keeps_order w c m f.2)
keeps_order w c (Refuse p ∷ m) f = (has_place w c (Refuse p) m f, keeps_order w c m f.1)
keeps_order w c (TakeUp p ∷ m) f = (has_place w c (TakeUp p) m f, keeps_order w c m f.1)
keeps_order w c (RunOut p s cut ∷ m) f = (has_place w c (RunOut p s cut) m f, keeps_order w c m f.2)
keeps_order w c (Finish how ∷ m) f = (has_place w c (Finish how) m f, keeps_order w c m f.2)
