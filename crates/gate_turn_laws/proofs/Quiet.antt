-- Where nothing moved in a turn, the pairs that had their part of it are quiet; so at idle all are.
use Rattle.std.proofs.Common.{◌≡◌, ◌≢◌, ℕ, ◌<◌, ◌≤◌, ◌==◌, nat_lt, Bool, true, false, not, ◌&&◌}
use Rattle.std.proofs.Common.{◌||◌, if◌then◌else◌, List, [], ◌∷◌, Option, None, Some, ◌⊎◌, refl}
use Rattle.std.proofs.Common.{sym, ap, ◌∙◌, subst, inl, inr, arith}
use Rattle.std.specs.Option.{option_map}
use Rattle.std.proofs.lemmas.Bool.{lt-ltb, ltb-true, ltb-false}
use Rattle.std.proofs.lemmas.Bool.Decides.{eqb_tells}
use Rattle.gate_outside.specs.declared.ports.End.{End}
use Rattle.gate_outside.specs.declared.ports.End.TheVariants.{Client, Up}
use Rattle.gate_outside.specs.declared.ports.Accepted.TheVariants as accepted
use Rattle.gate_outside.specs.declared.ports.Got.TheVariants as got
use Rattle.gate_outside.specs.declared.ports.Linked.{Linked}
use Rattle.gate_outside.specs.declared.ports.Linked.TheVariants as linked
use Rattle.gate_outside.specs.declared.ports.Put.TheVariants as put
use Rattle.gate_outside.specs.declared.ports.Next.TheVariants.{Go, Stop}
use Rattle.gate_outside.specs.declared.log.LogEntry.TheVariants.{Accept, Connect, Read, Write, Shut}
use Rattle.gate_outside.specs.declared.log.LogEntry.TheVariants.{Idle, Now}
use Rattle.gate_relay.specs.Entries.{Entry, Dry, Settled, Joined, Stuck, OutOfMemory}
use Rattle.gate_relay.specs.Entries.{is_out_of_memory}
use Rattle.gate_relay.specs.Guards.{reads, takes_up, connects, offers, shuts}
use Rattle.gate_relay.specs.RelayWords.{RelayWords}
use Rattle.gate_relay.specs.Sides.{sides, side_of, is_readable, is_writable, is_absent}
use Rattle.gate_runs.specs.declared.lap.Lap.{Lap}
use Rattle.gate_runs.specs.declared.lap.Lap.TheVariants.{ToUp, ToClient, ToClientLate, ToUpAgain}
use Rattle.gate_runs.specs.declared.limits.Limits.{Limits}
use Rattle.gate_runs.specs.declared.served.Served.TheVariants.{PairsDone, TurnLimit}
use Rattle.gate_runs.specs.Marks.{Mark, History, Call, Refuse, TakeUp, RunOut, Finish}
use Rattle.gate_runs.specs.Journal.{journal}
use Rattle.gate_runs.specs.Stages.{Stage, Reading, Taking, Linking, Writing, Shutting, Past, later}
use Rattle.gate_runs.specs.Stages.{lap_end, stages_from, writing_at, at_running_out}
use Rattle.gate_runs.specs.Next.{most_writes, AskAccept, AskConnect, AskRead, AskWrite, AskShut}
use Rattle.gate_runs.specs.Next.{AskIdle, AskNow, Upcoming, Done, Do, Settle, EndBy, ask, Point}
use Rattle.gate_runs.specs.Next.{BetweenTurns, ClockRead, BeforePairs, Refusing, InPair, Ending}
use Rattle.gate_runs.specs.Next.{Ended, stage_of, live_pairs, point, next, begin, beyond, closing}
use Rattle.gate_runs.specs.Next.{may_accept, has_moved}
use Rattle.gate_runs.specs.Serving.{RunsOutAt, AtRead, AtTakeUp, AtWrite, RefusesAt, Follows}
use Rattle.gate_turn_laws.specs.Pairs.{is_among, is_live}
use Rattle.gate_turn_laws.specs.Quiet.{IsSteady, InTurn, Wakes, IsQuiet, is_none_waiting, IsAtRest}
use Rattle.gate_turn_laws.specs.Quiet.{IdlesAtRest}
use Rattle.gate_turn_laws.specs.Turns.{AsksNone}
use Rattle.gate_turn_laws.proofs.Lists.{unlike, is_or_isnt, some_or_none, or_right, if_same}
use Rattle.gate_turn_laws.proofs.Lists.{if_other, among_kept}
use Rattle.gate_turn_laws.proofs.Order.{ordered}
use Rattle.gate_turn_laws.proofs.Cover.{PassedAt, Below, Any, all_stages, not_due, of_pair, of_next}
use Rattle.gate_turn_laws.proofs.Cover.{rests, begins, accepts, refuses, stops, closes, cover_at}
use Rattle.gate_turn_laws.proofs.Cover.{rest_at, begin_at}
use Rattle.gate_turn_laws.proofs.Stages.{WritesAt, chain_of, past_by, Found, found_by, stage_ahead}
use Rattle.gate_turn_laws.proofs.Stages.{stage_own}

-- ---- what the calls of a pair's part of the turn found, where none moved

-- the read of this turn gave nothing, where the end is to be read
abbrev pub IsDry : RelayWords → End → List Entry → Type 0
IsDry w end h = reads w end h ≡ true → InTurn (Dry end) h ⊎ Wakes (reads w end) h

abbrev pub IsTaken : RelayWords → List Entry → Type 0
IsTaken w h = takes_up w h ≡ true → Wakes (takes_up w) h

abbrev pub IsStuck : RelayWords → End → List Entry → Type 0
IsStuck w end h = (bytes : List ℕ) → offers w end h ≡ Some bytes → InTurn (Stuck end bytes) h

-- both ends were read, what came was taken up, and the connection was asked for, where any of that was due
pub record IsRead (w : RelayWords) (h : List Entry) : Type 0 where
  pub dry : (end : End) → IsDry w end h
  pub taken : IsTaken w h
  pub linked : connects w h ≡ false

-- by the stage that is reached
abbrev pub SettledStage : RelayWords → List Entry → Stage → Type 0
SettledStage w h (Reading Up) = Unit {0}
SettledStage w h (Reading Client) = IsDry w Up h
SettledStage w h Taking = (end : End) → IsDry w end h
SettledStage w h Linking = ((end : End) → IsDry w end h) × IsTaken w h
SettledStage w h (Writing ToUp k) = (k ≡ 0) × IsRead w h
SettledStage w h (Writing ToClient k) = (k ≡ 0) × IsRead w h × IsStuck w Up h
SettledStage w h (Writing ToClientLate k) = (k ≡ 0) × (is_out_of_memory h ≡ true)
SettledStage w h (Writing ToUpAgain k) = (k ≡ 0) × (is_out_of_memory h ≡ true) × IsStuck w Client h
SettledStage w h (Shutting Up) = IsRead w h × ((end : End) → IsStuck w end h)
SettledStage w h (Shutting Client) = IsRead w h × ((end : End) → IsStuck w end h) × (shuts w Up h ≡ false)
SettledStage w h Past = IsQuiet w h

-- ---- what stays behind an entry that moves nothing

not_true : {A : Type 0} (b : Bool) → b ≡ false → b ≡ true → A
not_true b f t = let clash : false ≡ true = sym f ∙ t in absurd cc

-- after running out of memory nothing is read, taken up or connected
quiet_out : (w : RelayWords) (h : List Entry) → is_out_of_memory h ≡ true → IsRead w h
quiet_out w h out = record {
  dry = λ end r. not_true (reads w end h) (unread end) r;
  taken = λ t. not_true (takes_up w h) (ap (λ (b : Bool). not b && w.takes_up h) out) t;
  linked = last (is_absent (side_of Up (sides h))) (not (is_out_of_memory h) && w.connects h) (ap (λ (b : Bool). not b && w.connects h) out);
}
  where
    last : (a b : Bool) → b ≡ false → (a && b) ≡ false
    last true b e = e
    last false b e = refl

    unread : (end : End) → reads w end h ≡ false
    unread end = last (is_readable (side_of end (sides h))) (not (is_out_of_memory h) && w.awaits end h) (ap (λ (b : Bool). not b && w.awaits end h) out)

-- the reads of steady words
reads_dry : (w : RelayWords) (end dry : End) (h : List Entry) → IsSteady w → reads w end (Dry dry ∷ h) ≡ reads w end h
reads_dry w end dry h k = ap (λ (b : Bool). is_readable (side_of end (sides h)) && (not (is_out_of_memory h) && b)) (k.dry_awaits end dry h)

reads_stuck : (w : RelayWords) (end stuck : End) (bytes : List ℕ) (h : List Entry) → IsSteady w → reads w end (Stuck stuck bytes ∷ h) ≡ reads w end h
reads_stuck w end stuck bytes h k = ap (λ (b : Bool). is_readable (side_of end (sides h)) && (not (is_out_of_memory h) && b)) (k.awaits end stuck bytes h)

takes_stuck : (w : RelayWords) (stuck : End) (bytes : List ℕ) (h : List Entry) → IsSteady w → takes_up w (Stuck stuck bytes ∷ h) ≡ takes_up w h
takes_stuck w stuck bytes h k = ap (λ (b : Bool). not (is_out_of_memory h) && b) (k.takes stuck bytes h)

connects_stuck : (w : RelayWords) (stuck : End) (bytes : List ℕ) (h : List Entry) → IsSteady w → connects w (Stuck stuck bytes ∷ h) ≡ connects w h
connects_stuck w stuck bytes h k = ap (λ (b : Bool). is_absent (side_of Up (sides h)) && (not (is_out_of_memory h) && b)) (k.connects stuck bytes h)

offers_stuck : (w : RelayWords) (end stuck : End) (bytes : List ℕ) (h : List Entry) → IsSteady w → offers w end (Stuck stuck bytes ∷ h) ≡ offers w end h
offers_stuck w end stuck bytes h k = ap (λ (o : Option (List ℕ)). if is_writable (side_of end (sides h)) then o else None) (k.offer end stuck bytes h)

pub takes_settled : (w : RelayWords) (h : List Entry) → IsSteady w → takes_up w (Settled ∷ h) ≡ false
takes_settled w h k = last (is_out_of_memory h) (w.takes_up (Settled ∷ h)) (k.settled h)
  where
    last : (out b : Bool) → (out ≡ false → b ≡ false) → (not out && b) ≡ false
    last true b e = refl
    last false b e = e refl

dry_dry : (w : RelayWords) (end dry : End) (h : List Entry) → IsSteady w → IsDry w end h → IsDry w end (Dry dry ∷ h)
dry_dry w end dry h k d r = elim (d (sym (reads_dry w end dry h k) ∙ r)) [ inl i ↦ inl (inr i) | inr o ↦ inr o ]

dry_stuck : (w : RelayWords) (end stuck : End) (bytes : List ℕ) (h : List Entry) → IsSteady w → IsDry w end h → IsDry w end (Stuck stuck bytes ∷ h)
dry_stuck w end stuck bytes h k d r = elim (d (sym (reads_stuck w end stuck bytes h k) ∙ r)) [ inl i ↦ inl (inr i) | inr o ↦ inr o ]

dry_settled : (w : RelayWords) (end : End) (h : List Entry) → IsDry w end h → IsDry w end (Settled ∷ h)
dry_settled w end h d r = elim (is_or_isnt (reads w end h)) [
  | inl before ↦ elim (d before) [ inl i ↦ inl (inr i) | inr o ↦ inr (inr o) ]
  | inr none ↦ inr (inl (none, r))
]

dry_joined : (w : RelayWords) (end : End) (answer : Linked) (h : List Entry) → IsDry w end h → IsDry w end (Joined answer ∷ h)
dry_joined w end answer h d r = elim (is_or_isnt (reads w end h)) [
  | inl before ↦ elim (d before) [ inl i ↦ inl (inr i) | inr o ↦ inr (inr o) ]
  | inr none ↦ inr (inl (none, r))
]

taken_stuck : (w : RelayWords) (stuck : End) (bytes : List ℕ) (h : List Entry) → IsSteady w → IsTaken w h → IsTaken w (Stuck stuck bytes ∷ h)
taken_stuck w stuck bytes h k d t = d (sym (takes_stuck w stuck bytes h k) ∙ t)

taken_joined : (w : RelayWords) (answer : Linked) (h : List Entry) → IsTaken w h → IsTaken w (Joined answer ∷ h)
taken_joined w answer h d t = elim (is_or_isnt (takes_up w h)) [ inl before ↦ inr (d before) | inr none ↦ inl (none, t) ]

linked_joined : (w : RelayWords) (answer : Linked) (h : List Entry) → connects w (Joined answer ∷ h) ≡ false
linked_joined w linked.Ok h = refl
linked_joined w linked.Failed h = refl

read_stuck : (w : RelayWords) (stuck : End) (bytes : List ℕ) (h : List Entry) → IsSteady w → IsRead w h → IsRead w (Stuck stuck bytes ∷ h)
read_stuck w stuck bytes h k r = record {
  dry = λ end. dry_stuck w end stuck bytes h k (r.dry end);
  taken = taken_stuck w stuck bytes h k r.taken;
  linked = connects_stuck w stuck bytes h k ∙ r.linked;
}

stuck_stuck : (w : RelayWords) (end stuck : End) (bytes : List ℕ) (h : List Entry) → IsSteady w → IsStuck w end h → IsStuck w end (Stuck stuck bytes ∷ h)
stuck_stuck w end stuck bytes h k d more o = inr (d more (sym (offers_stuck w end stuck bytes h k) ∙ o))

stuck_now : (w : RelayWords) (end : End) (bytes : List ℕ) (h : List Entry) → IsSteady w → offers w end h ≡ Some bytes → IsStuck w end (Stuck end bytes ∷ h)
stuck_now w end bytes h k here more o =
    let both : Some bytes ≡ Some more = sym here ∙ sym (offers_stuck w end end bytes h k) ∙ o in
    let same : bytes ≡ more = cc in inl (ap (λ (x : List ℕ). Stuck end x) same)

-- ---- from stage to stage

none_offered : (w : RelayWords) (end : End) (h : List Entry) → offers w end h ≡ None → IsStuck w end h
none_offered w end h none bytes o = let clash : None ≡ Some bytes = sym none ∙ o in absurd cc

-- at the first write of a lap nothing is asked where nothing is offered
none_written : (w : RelayWords) (p : ℕ) (lap : Lap) (k : ℕ) (h : List Entry) → k ≡ 0 → ask w p (Writing lap k) h ≡ None → IsStuck w (lap_end lap) h
none_written w p lap k h zero none = elim (some_or_none (offers w (lap_end lap) h)) [
  | inl o ↦
      let first : ask w p (Writing lap 0) h ≡ None = subst (λ (i : ℕ). ask w p (Writing lap i) h ≡ None) zero none in
      let clash : Some (Do (AskWrite p (lap_end lap) o.0)) ≡ None =
      sym (ap (λ (x : Option (List ℕ)). option_map (λ (bytes : List ℕ). Do (AskWrite p (lap_end lap) bytes)) x) o.1) ∙ first in absurd cc
  | inr nothing ↦ none_offered w (lap_end lap) h nothing
]

both_ends : (P : End → Type 0) → P Client → P Up → (end : End) → P end
both_ends P client up Client = client
both_ends P client up Up = up

none_awaited : (w : RelayWords) (end : End) (h : List Entry) → reads w end h ≡ false → IsDry w end h
none_awaited w end h none r = not_true (reads w end h) none r

stage_passed : (w : RelayWords) (p : ℕ) (h : List Entry) (s : Stage) → SettledStage w h s → ask w p s h ≡ None → SettledStage w h (later s)
stage_passed w p h (Reading Up) k e = none_awaited w Up h (not_due (reads w Up h) _ e)
stage_passed w p h (Reading Client) k e = both_ends (λ end. IsDry w end h) (none_awaited w Client h (not_due (reads w Client h) _ e)) k
stage_passed w p h Taking k e = (k, (λ t. not_true (takes_up w h) (not_due (takes_up w h) _ e) t))
stage_passed w p h Linking k e = (refl, record { dry = k.0; taken = k.1; linked = not_due (connects w h) _ e })
stage_passed w p h (Writing ToUp n) k e = (refl, k.1, none_written w p ToUp n h k.0 e)
stage_passed w p h (Writing ToClient n) k e = (k.1, both_ends (λ end. IsStuck w end h) (none_written w p ToClient n h k.0 e) k.2)
stage_passed w p h (Writing ToClientLate n) k e = (refl, k.1, none_written w p ToClientLate n h k.0 e)
stage_passed w p h (Writing ToUpAgain n) k e = (quiet_out w h k.1, both_ends (λ end. IsStuck w end h) k.2 (none_written w p ToUpAgain n h k.0 e))
stage_passed w p h (Shutting Up) k e = (k.0, k.1, not_due (shuts w Up h) _ e)
stage_passed w p h (Shutting Client) k e = record {
  dry = k.0.dry;
  taken = k.0.taken;
  linked = k.0.linked;
  stuck = k.1;
  stays = both_ends (λ end. shuts w end h ≡ false) (not_due (shuts w Client h) _ e) k.2;
}
stage_passed w p h Past k e = k

quiet_passed : (w : RelayWords) (p : ℕ) (s : Stage) (h : List Entry) → SettledStage w h s → AsksNone w p (stages_from s) h → IsQuiet w h
quiet_passed w p s h k passes = past_by w p h (SettledStage w h) (stage_passed w p h) s s (stages_from s) (chain_of s) k passes

-- ---- what is so at a point, where nothing moved in this turn

-- no further pair can come
abbrev pub Tried : Limits → History → Type 0
Tried c m = (is_none_waiting m || not (may_accept c m)) ≡ true

-- the pairs before p are quiet
abbrev pub Earlier : RelayWords → ℕ → History → Type 0
Earlier w p m = (q : ℕ) → is_live q m ≡ true → q < p → IsQuiet w (journal q m)

abbrev pub Still : RelayWords → Limits → History → Point → Type 0
Still w c m BetweenTurns = Unit {0}
Still w c m ClockRead = Unit {0}
Still w c m BeforePairs = Tried c m
Still w c m (Refusing p) = Unit {0}
Still w c m (InPair p s) = Tried c m × SettledStage w (journal p m) s × Earlier w p m
Still w c m (Ending how) = Unit {0}
Still w c m Ended = Unit {0}

among_beyond : (p q : ℕ) (ps : List ℕ) → is_among q ps ≡ true → p < q → is_among q (beyond p ps) ≡ true
among_beyond p q ps h low = among_kept (λ r. nat_lt p r) q ps h (lt-ltb p q low)

compare : (q p : ℕ) → (q < p) ⊎ (q ≡ p) ⊎ (p < q)
compare q p = elim (is_or_isnt (nat_lt q p)) [
  | inl low ↦ inl (ltb-true q p low)
  | inr high ↦ let least : p ≤ q = ltb-false q p high in elim (eqb_tells q p) [ inl t ↦ inr (inl t.1) | inr f ↦ inr (inr (above q p least f.1)) ]
]
  where
    above : (q p : ℕ) → p ≤ q → q ≢ p → p < q
    above q p least ne = omega (arith, ne)

-- by its place behind, at or before the pair of the point
quiet_visit : (w : RelayWords) (c : Limits) (m : History) (R : ℕ → Type 0) (p : ℕ) (s : Stage) → Still w c m (InPair p s) → PassedAt w c m R (InPair p s)
    → (q : ℕ) → is_live q m ≡ true → R q → (q < p) ⊎ (q ≡ p) ⊎ (p < q) → IsQuiet w (journal q m)
quiet_visit w c m R p s still passed q live r (inl low) = still.2 q live low
quiet_visit w c m R p s still passed q live r (inr (inl same)) =
    subst (λ (x : ℕ). IsQuiet w (journal x m)) (sym same) (quiet_passed w p s (journal p m) still.1 passed.0)
quiet_visit w c m R p s still passed q live r (inr (inr high)) =
    quiet_passed w q (Reading Up) (journal q m) tt (passed.1 q (among_beyond p q (live_pairs m) live high) r)

-- the pairs that had their part of the turn are quiet
point_quiet : (w : RelayWords) (c : Limits) (m : History) (R : ℕ → Type 0) (x : Point) → Still w c m x → PassedAt w c m R x
    → (q : ℕ) → is_live q m ≡ true → R q → IsQuiet w (journal q m)
point_quiet w c m R BetweenTurns still passed q live r = absurd passed
point_quiet w c m R ClockRead still passed q live r = quiet_passed w q (Reading Up) (journal q m) tt (passed.1 q live r)
point_quiet w c m R BeforePairs still passed q live r = quiet_passed w q (Reading Up) (journal q m) tt (passed q live r)
point_quiet w c m R (Refusing p) still passed q live r = absurd passed
point_quiet w c m R (InPair p s) still passed q live r = quiet_visit w c m R p s still passed q live r (compare q p)
point_quiet w c m R (Ending how) still passed q live r = absurd passed
point_quiet w c m R Ended still passed q live r = absurd passed

point_tried : (w : RelayWords) (c : Limits) (m : History) (R : ℕ → Type 0) (x : Point) → Still w c m x → PassedAt w c m R x → Tried c m
point_tried w c m R BetweenTurns still passed = absurd passed
point_tried w c m R ClockRead still passed = or_right (is_none_waiting m) (not (may_accept c m)) (ap not passed.0)
point_tried w c m R BeforePairs still passed = still
point_tried w c m R (Refusing p) still passed = absurd passed
point_tried w c m R (InPair p s) still passed = still.0
point_tried w c m R (Ending how) still passed = absurd passed
point_tried w c m R Ended still passed = absurd passed

-- ---- where something is asked of a pair

-- a read, a take-up, a connect or a write is asked
abbrev is_pair_ask : Upcoming → Bool
is_pair_ask (Do AskAccept) = false
is_pair_ask (Do (AskConnect q)) = true
is_pair_ask (Do (AskRead q end room)) = true
is_pair_ask (Do (AskWrite q end bytes)) = true
is_pair_ask (Do (AskShut q end)) = false
is_pair_ask (Do AskIdle) = false
is_pair_ask (Do AskNow) = false
is_pair_ask (Settle q) = true
is_pair_ask (EndBy how) = false
is_pair_ask Done = false

not_begin : (c : Limits) (m : History) (up : Upcoming) → begin c m ≡ up → is_pair_ask up ≡ true → ⊥
not_begin c m up e t = elim (begin_at c m up e) [
  | inl h ↦ unlike is_pair_ask _ up h.1 refl t
  | inr g ↦ elim g [ inl h ↦ unlike is_pair_ask _ up h.2 refl t | inr h ↦ unlike is_pair_ask _ up h.1 refl t ]
]

not_closing : (m : History) (ps : List ℕ) (up : Upcoming) → closing m ps ≡ up → is_pair_ask up ≡ true → ⊥
not_closing m [] up e t = unlike is_pair_ask _ up e refl t
not_closing m (p ∷ ps) up e t = unlike is_pair_ask _ up e refl t

-- what is so where something is asked of pair p
pub record Reached (w : RelayWords) (c : Limits) (m : History) (up : Upcoming) : Type 0 where
  pub pair : ℕ
  pub tried : Tried c m
  pub earlier : Earlier w pair m
  pub found : Found w pair (journal pair m) (SettledStage w (journal pair m)) (stage_of pair (point m)) up

reached : (w : RelayWords) (c : Limits) (m : History) (up : Upcoming) → Follows w c m → Still w c m (point m) → next w c m ≡ up → is_pair_ask up ≡ true → Reached w c m up
reached w c m up f still e t = elim (cover_at w c m (point m) up (ordered w c m f).rising e) [
  | of_pair p s x own ↦ let here : Still w c m (InPair p s) = subst (λ (y : Point). Still w c m y) x still in
      record {
        pair = p;
        tried = here.0;
        earlier = here.2;
        found = subst (λ (y : Stage). Found w p (journal p m) (SettledStage w (journal p m)) y up) (sym (ap (λ (y : Point). stage_of p y) x ∙ stage_own p s))
            (found_by w p (journal p m) (SettledStage w (journal p m)) (stage_passed w p (journal p m)) s s (stages_from s) up (chain_of s) here.1 own);
      }
  | of_next p live ahead passed own ↦
      record {
        pair = p;
        tried = point_tried w c m (Below p) (point m) still passed;
        earlier = point_quiet w c m (Below p) (point m) still passed;
        found = subst (λ (y : Stage). Found w p (journal p m) (SettledStage w (journal p m)) y up) (sym (stage_ahead m (point m) p ahead))
            (found_by w p (journal p m) (SettledStage w (journal p m)) (stage_passed w p (journal p m)) (Reading Up) (Reading Up) all_stages up (chain_of (Reading Up)) tt own);
      }
  | rests passed r ↦ elim (rest_at c m up r) [ inl i ↦ absurd (unlike is_pair_ask _ up i.1 refl t) | inr b ↦ absurd (not_begin c m up b.1 t) ]
  | begins x b ↦ absurd (not_begin c m up b t)
  | accepts x k a ↦ absurd (unlike is_pair_ask _ up a refl t)
  | refuses p x a ↦ absurd (unlike is_pair_ask _ up a refl t)
  | stops how x a ↦ absurd (unlike is_pair_ask _ up a refl t)
  | closes x a ↦ absurd (not_closing m (live_pairs m) up a t)
]

-- ---- a mark that moves nothing

-- a pair's own mark leaves the others quiet
earlier_on : (w : RelayWords) (p : ℕ) (m n : History) → ((q : ℕ) → p ≢ q → journal q n ≡ journal q m) → live_pairs n ≡ live_pairs m → Earlier w p m → Earlier w p n
earlier_on w p m n others l earlier q live low =
    subst (IsQuiet w) (sym (others q (λ e. absurd (omega arith)))) (earlier q (ap (λ (ps : List ℕ). is_among q ps) (sym l) ∙ live) low)

-- the pair p is at this stage after its mark x, which moved nothing
still_on : (w : RelayWords) (c : Limits) (p : ℕ) (e : Entry) (s : Stage) (m : History) (x : Mark)
    → ((q : ℕ) → journal q (x ∷ m) ≡ (if p == q then e ∷ journal q m else journal q m)) → live_pairs (x ∷ m) ≡ live_pairs m
    → Tried c (x ∷ m) → Earlier w p m → SettledStage w (e ∷ journal p m) s → Still w c (x ∷ m) (InPair p s)
still_on w c p e s m x adds l tried earlier here = (
  tried,
  subst (λ (h : List Entry). SettledStage w h s) (sym (adds p ∙ if_same p (e ∷ journal p m) (journal p m))) here,
  earlier_on w p m (x ∷ m) (λ q ne. adds q ∙ if_other p q (e ∷ journal q m) (journal q m) ne) l earlier,
)

settled_read : (w : RelayWords) (end : End) (h : List Entry) → IsSteady w → SettledStage w h (Reading end) → SettledStage w (Dry end ∷ h) (later (Reading end))
settled_read w Up h k st = λ r. inl (inl refl)
settled_read w Client h k st = both_ends (λ end. IsDry w end (Dry Client ∷ h)) (λ r. inl (inl refl)) (dry_dry w Up Client h k st)

settled_taken : (w : RelayWords) (h : List Entry) → IsSteady w → SettledStage w h Taking → SettledStage w (Settled ∷ h) Linking
settled_taken w h k st = ((λ end. dry_settled w end h (st end)), (λ t. not_true (takes_up w (Settled ∷ h)) (takes_settled w h k) t))

settled_linked : (w : RelayWords) (answer : Linked) (h : List Entry) → SettledStage w h Linking → SettledStage w (Joined answer ∷ h) (Writing ToUp 0)
settled_linked w answer h st =
    (refl, record { dry = λ end. dry_joined w end answer h (st.0 end); taken = taken_joined w answer h st.1; linked = linked_joined w answer h })

settled_written : (w : RelayWords) (lap : Lap) (n : ℕ) (bytes : List ℕ) (h : List Entry) → IsSteady w → offers w (lap_end lap) h ≡ Some bytes
    → SettledStage w h (Writing lap n) → SettledStage w (Stuck (lap_end lap) bytes ∷ h) (later (Writing lap n))
settled_written w ToUp n bytes h k o st = (refl, read_stuck w Up bytes h k st.1, stuck_now w Up bytes h k o)
settled_written w ToClient n bytes h k o st =
    (read_stuck w Client bytes h k st.1, both_ends (λ end. IsStuck w end (Stuck Client bytes ∷ h)) (stuck_now w Client bytes h k o) (stuck_stuck w Up Client bytes h k st.2))
settled_written w ToClientLate n bytes h k o st = (refl, st.1, stuck_now w Client bytes h k o)
settled_written w ToUpAgain n bytes h k o st =
    (read_stuck w Up bytes h k (quiet_out w h st.1), both_ends (λ end. IsStuck w end (Stuck Up bytes ∷ h)) (stuck_stuck w Client Up bytes h k st.2) (stuck_now w Up bytes h k o))

settled_out : (w : RelayWords) (lap : Lap) (n cut : ℕ) (h : List Entry) → is_out_of_memory h ≡ false → SettledStage w h (Writing lap n)
    → SettledStage w (OutOfMemory cut ∷ h) (at_running_out (Writing lap n))
settled_out w ToUp n cut h calm st = (st.0, quiet_out w (OutOfMemory cut ∷ h) refl)
settled_out w ToClient n cut h calm st = (st.0, refl)
settled_out w ToClientLate n cut h calm st = (st.0, refl)
settled_out w ToUpAgain n cut h calm st = not_true (is_out_of_memory h) calm st.1

abbrev StillAfter : RelayWords → Limits → History → Type 0
StillAfter w c m = Still w c m (point m)

still_read : (w : RelayWords) (c : Limits) (q room : ℕ) (end : End) (bytes : List ℕ) (m : History) → IsSteady w → Reached w c m (Do (AskRead q end room))
    → StillAfter w c (Call (Read q end room got.NotYet bytes) ∷ m)
still_read w c q room end bytes m k r =
    let own : (r.pair ≡ q) × (r.found.at ≡ Reading end) = r.found.asks in
    let here : SettledStage w (journal r.pair m) (Reading end) = subst (SettledStage w (journal r.pair m)) own.1 r.found.here in
    still_on w c q (Dry end) (later (Reading end)) m (Call (Read q end room got.NotYet bytes)) (λ p. refl) refl r.tried
    (subst (λ (i : ℕ). Earlier w i m) own.0 r.earlier)
    (settled_read w end (journal q m) k (subst (λ (i : ℕ). SettledStage w (journal i m) (Reading end)) own.0 here))

still_taken : (w : RelayWords) (c : Limits) (q : ℕ) (m : History) → IsSteady w → Reached w c m (Settle q) → StillAfter w c (TakeUp q ∷ m)
still_taken w c q m k r =
    let own : (r.pair ≡ q) × (r.found.at ≡ Taking) = r.found.asks in
    let here : SettledStage w (journal r.pair m) Taking = subst (SettledStage w (journal r.pair m)) own.1 r.found.here in
    still_on w c q Settled Linking m (TakeUp q) (λ p. refl) refl r.tried
    (subst (λ (i : ℕ). Earlier w i m) own.0 r.earlier)
    (settled_taken w (journal q m) k (subst (λ (i : ℕ). SettledStage w (journal i m) Taking) own.0 here))

still_linked : (w : RelayWords) (c : Limits) (q : ℕ) (answer : Linked) (m : History) → Reached w c m (Do (AskConnect q)) → StillAfter w c (Call (Connect q answer) ∷ m)
still_linked w c q answer m r =
    let own : (r.pair ≡ q) × (r.found.at ≡ Linking) = r.found.asks in
    let here : SettledStage w (journal r.pair m) Linking = subst (SettledStage w (journal r.pair m)) own.1 r.found.here in
    still_on w c q (Joined answer) (Writing ToUp 0) m (Call (Connect q answer)) (λ p. refl) refl r.tried
    (subst (λ (i : ℕ). Earlier w i m) own.0 r.earlier)
    (settled_linked w answer (journal q m) (subst (λ (i : ℕ). SettledStage w (journal i m) Linking) own.0 here))

-- a write at the stage of a lap
record WrittenAt (w : RelayWords) (c : Limits) (q : ℕ) (end : End) (bytes : List ℕ) (m : History) : Type 0 where
  lap : Lap
  count : ℕ
  ends : lap_end lap ≡ end
  stage : writing_at end (stage_of q (point m)) ≡ Writing lap count
  offered : offers w (lap_end lap) (journal q m) ≡ Some bytes
  here : SettledStage w (journal q m) (Writing lap count)
  earlier : Earlier w q m

written_at : (w : RelayWords) (c : Limits) (q : ℕ) (end : End) (bytes : List ℕ) (m : History) → Reached w c m (Do (AskWrite q end bytes)) → WrittenAt w c q end bytes m
written_at w c q end bytes m r =
    let own : (r.pair ≡ q) × (lap : Lap) × (k : ℕ) × (r.found.at ≡ Writing lap k) × (lap_end lap ≡ end) × (offers w end (journal r.pair m) ≡ Some bytes) × (nat_lt k most_writes ≡ true) = r.found.asks in
    let here : SettledStage w (journal r.pair m) (Writing own.1 own.2) = subst (SettledStage w (journal r.pair m)) own.3 r.found.here in
    let stage : writing_at (lap_end own.1) (stage_of r.pair (point m)) ≡ Writing own.1 own.2 = subst (WritesAt (stage_of r.pair (point m))) own.3 r.found.writes in
    record {
      lap = own.1;
      count = own.2;
      ends = own.4;
      stage = ap (λ (e : End). writing_at e (stage_of q (point m))) (sym own.4)
          ∙ subst (λ (i : ℕ). writing_at (lap_end own.1) (stage_of i (point m)) ≡ Writing own.1 own.2) own.0 stage;
      offered = subst (λ (i : ℕ). offers w (lap_end own.1) (journal i m) ≡ Some bytes) own.0 (ap (λ (e : End). offers w e (journal r.pair m)) own.4 ∙ own.5);
      here = subst (λ (i : ℕ). SettledStage w (journal i m) (Writing own.1 own.2)) own.0 here;
      earlier = subst (λ (i : ℕ). Earlier w i m) own.0 r.earlier;
    }

still_stuck : (w : RelayWords) (c : Limits) (q : ℕ) (end : End) (bytes : List ℕ) (m : History) → IsSteady w → Reached w c m (Do (AskWrite q end bytes))
    → StillAfter w c (Call (Write q end bytes put.NotYet) ∷ m)
still_stuck w c q end bytes m k r =
    let a : WrittenAt w c q end bytes m = written_at w c q end bytes m r in
    let here : SettledStage w (Stuck (lap_end a.lap) bytes ∷ journal q m) (later (Writing a.lap a.count)) = settled_written w a.lap a.count bytes (journal q m) k a.offered a.here in
    still_on w c q (Stuck end bytes) (later (writing_at end (stage_of q (point m)))) m (Call (Write q end bytes put.NotYet)) (λ p. refl) refl r.tried a.earlier
    (subst (λ (s : Stage). SettledStage w (Stuck end bytes ∷ journal q m) (later s)) (sym a.stage)
    (subst (λ (e : End). SettledStage w (Stuck e bytes ∷ journal q m) (later (Writing a.lap a.count))) a.ends here))

still_out : (w : RelayWords) (c : Limits) (q : ℕ) (s : Stage) (cut : ℕ) (m : History) → Follows w c m → is_out_of_memory (journal q m) ≡ false → RunsOutAt w c q s cut m
    → has_moved m ≡ false → Still w c m (point m) → Still w c (RunOut q s cut ∷ m) (InPair q s)
still_out w c q s k m f calm (AtRead cut end room n bytes old) moved still = not_true (has_moved (Call (Read q end room (got.Bytes n) bytes) ∷ old)) moved refl
still_out w c q s k m f calm (AtTakeUp cut old) moved still =
    still_on w c q (OutOfMemory cut) Linking (TakeUp q ∷ old) (RunOut q Linking cut) (λ p. refl) refl still.0 still.2
    ((quiet_out w (OutOfMemory cut ∷ journal q (TakeUp q ∷ old)) refl).dry, (quiet_out w (OutOfMemory cut ∷ journal q (TakeUp q ∷ old)) refl).taken)
still_out w c q s k m f calm (AtWrite end bytes old e t) moved still =
    let r : Reached w c old (Do (AskWrite q end bytes)) = reached w c old (Do (AskWrite q end bytes)) f still e refl in
    let a : WrittenAt w c q end bytes old = written_at w c q end bytes old r in
    still_on w c q (OutOfMemory 0) (at_running_out (writing_at end (stage_of q (point old)))) old (RunOut q (at_running_out (writing_at end (stage_of q (point old)))) 0)
    (λ p. refl) refl r.tried a.earlier
    (subst (λ (x : Stage). SettledStage w (OutOfMemory 0 ∷ journal q old) (at_running_out x)) (sym a.stage) (settled_out w a.lap a.count 0 (journal q old) calm a.here))

-- a pair is refused where something moved
refuse_moved : (p : ℕ) (m : History) → RefusesAt p m → has_moved m ≡ true
refuse_moved p (Call (Accept (accepted.Pair q)) ∷ m) r = refl
refuse_moved p m r = absurd r

pub still_at : (w : RelayWords) (c : Limits) (m : History) → IsSteady w → Follows w c m → has_moved m ≡ false → Still w c m (point m)
still_at w c [] k f still = tt
still_at w c (Call (Accept (accepted.Pair p)) ∷ m) k f still = absurd cc
still_at w c (Call (Accept accepted.NotYet) ∷ m) k f still = refl
still_at w c (Call (Accept accepted.Failed) ∷ m) k f still = tt
still_at w c (Call (Connect p answer) ∷ m) k f still = still_linked w c p answer m (reached w c m _ f.2 (still_at w c m k f.2 still) f.0 refl)
still_at w c (Call (Read p end room (got.Bytes n) bytes) ∷ m) k f still = absurd cc
still_at w c (Call (Read p end room got.NotYet bytes) ∷ m) k f still = still_read w c p room end bytes m k (reached w c m _ f.2 (still_at w c m k f.2 still) f.0 refl)
still_at w c (Call (Read p end room got.Ended bytes) ∷ m) k f still = absurd cc
still_at w c (Call (Read p end room got.Failed bytes) ∷ m) k f still = absurd cc
still_at w c (Call (Write p end bytes (put.Took n)) ∷ m) k f still = absurd cc
still_at w c (Call (Write p end bytes put.NotYet) ∷ m) k f still = still_stuck w c p end bytes m k (reached w c m _ f.2 (still_at w c m k f.2 still) f.0 refl)
still_at w c (Call (Write p end bytes put.Failed) ∷ m) k f still = absurd cc
still_at w c (Call (Shut p end) ∷ m) k f still = absurd cc
still_at w c (Call (Idle Go) ∷ m) k f still = tt
still_at w c (Call (Idle Stop) ∷ m) k f still = tt
still_at w c (Call (Now ms) ∷ m) k f still = tt
still_at w c (Refuse p ∷ m) k f still = not_true (has_moved m) still (refuse_moved p m f.0)
still_at w c (TakeUp p ∷ m) k f still = still_taken w c p m k (reached w c m _ f.1 (still_at w c m k f.1 still) f.0 refl)
still_at w c (RunOut p s cut ∷ m) k f still = still_out w c p s cut m f.2 f.0 f.1 still (still_at w c m k f.2 still)
still_at w c (Finish how ∷ m) k f still = tt

-- ---- idle

not_idle_begin : (c : Limits) (m : History) → begin c m ≡ Do AskIdle → ⊥
not_idle_begin c m e = elim (begin_at c m (Do AskIdle) e) [
  | inl h ↦ let g : EndBy PairsDone ≡ Do AskIdle = h.1 in cc
  | inr k ↦ elim k [ inl h ↦ let g : EndBy TurnLimit ≡ Do AskIdle = h.2 in cc | inr h ↦ let g : Do AskNow ≡ Do AskIdle = h.1 in cc ]
]

not_idle_closing : (m : History) (ps : List ℕ) → closing m ps ≡ Do AskIdle → ⊥
not_idle_closing m [] e = cc
not_idle_closing m (p ∷ ps) e = cc

abbrev Any_stage : Stage → Type 0
Any_stage s = Unit {0}

-- idle is asked where nothing moved and all the pairs were passed over
idle_at : (w : RelayWords) (c : Limits) (m : History) → Follows w c m → next w c m ≡ Do AskIdle → (has_moved m ≡ false) × PassedAt w c m Any (point m)
idle_at w c m f e = elim (cover_at w c m (point m) (Do AskIdle) (ordered w c m f).rising e) [
  | of_pair p s x own ↦ absurd (found_by w p (journal p m) Any_stage (λ y here none. tt) s s (stages_from s) (Do AskIdle) (chain_of s) tt own).asks
  | of_next p live ahead passed own ↦
      absurd (found_by w p (journal p m) Any_stage (λ y here none. tt) (Reading Up) (Reading Up) all_stages (Do AskIdle) (chain_of (Reading Up)) tt own).asks
  | rests passed r ↦ elim (rest_at c m (Do AskIdle) r) [ inl i ↦ (i.0, passed) | inr b ↦ absurd (not_idle_begin c m b.1) ]
  | begins x b ↦ absurd (not_idle_begin c m b)
  | accepts x k a ↦ absurd cc
  | refuses p x a ↦ absurd cc
  | stops how x a ↦ absurd cc
  | closes x a ↦ absurd (not_idle_closing m (live_pairs m) a)
]

at_rest : (w : RelayWords) (c : Limits) (m : History) → IsSteady w → Follows w c m → next w c m ≡ Do AskIdle → IsAtRest w c m
at_rest w c m k f e =
    let i : (has_moved m ≡ false) × PassedAt w c m Any (point m) = idle_at w c m f e in
    let s : Still w c m (point m) = still_at w c m k f i.0 in
    record {
      pairs = λ p live. point_quiet w c m Any (point m) s i.1 p live tt;
      clients = point_tried w c m Any (point m) s i.1;
      still = i.0;
    }

pub idles_at_rest : (w : RelayWords) (c : Limits) (m : History) → IsSteady w → Follows w c m → IdlesAtRest w c m
idles_at_rest w c [] k f = tt
idles_at_rest w c (Call (Accept answer) ∷ m) k f = idles_at_rest w c m k f.2
idles_at_rest w c (Call (Connect p answer) ∷ m) k f = idles_at_rest w c m k f.2
idles_at_rest w c (Call (Read p end room answer bytes) ∷ m) k f = idles_at_rest w c m k f.2
idles_at_rest w c (Call (Write p end bytes answer) ∷ m) k f = idles_at_rest w c m k f.2
idles_at_rest w c (Call (Shut p end) ∷ m) k f = idles_at_rest w c m k f.2
idles_at_rest w c (Call (Idle answer) ∷ m) k f = (at_rest w c m k f.2 f.0, idles_at_rest w c m k f.2)
idles_at_rest w c (Call (Now ms) ∷ m) k f = idles_at_rest w c m k f.2
idles_at_rest w c (Refuse p ∷ m) k f = idles_at_rest w c m k f.1
idles_at_rest w c (TakeUp p ∷ m) k f = idles_at_rest w c m k f.1
idles_at_rest w c (RunOut p s cut ∷ m) k f = idles_at_rest w c m k f.2
idles_at_rest w c (Finish how ∷ m) k f = idles_at_rest w c m k f.2
