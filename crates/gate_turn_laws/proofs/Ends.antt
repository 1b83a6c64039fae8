-- How the service ends, and what each turn did.
use Rattle.std.proofs.Common.{◌≡◌, ℕ, ◌==◌, Bool, true, false, List, [], ◌∷◌, Option, None, Some}
use Rattle.std.proofs.Common.{is_some, ◌⊎◌, refl, sym, ap, ◌∙◌, subst, inl, inr}
use Rattle.gate_outside.specs.declared.ports.End.{End}
use Rattle.gate_outside.specs.declared.ports.Accepted.TheVariants as accepted
use Rattle.gate_outside.specs.declared.ports.Next.TheVariants.{Go, Stop}
use Rattle.gate_outside.specs.declared.log.LogEntry.{LogEntry}
use Rattle.gate_outside.specs.declared.log.LogEntry.TheVariants.{Accept, Connect, Read, Write, Shut}
use Rattle.gate_outside.specs.declared.log.LogEntry.TheVariants.{Idle, Now}
use Rattle.gate_relay.specs.Entries.{Entry, is_empty}
use Rattle.gate_relay.specs.RelayWords.{RelayWords}
use Rattle.gate_runs.specs.declared.limits.Limits.{Limits}
use Rattle.gate_runs.specs.declared.served.Served.{Served}
use Rattle.gate_runs.specs.declared.served.Served.TheVariants.{Stopped, PairsDone, TurnLimit, Fault}
use Rattle.gate_runs.specs.declared.served.Served.TheVariants.{Memory}
use Rattle.gate_runs.specs.declared.served.Outside.TheVariants as outside
use Rattle.gate_runs.specs.Marks.{History, Call, Refuse, TakeUp, RunOut, Finish}
use Rattle.gate_runs.specs.Journal.{journal}
use Rattle.gate_runs.specs.Stages.{Stage, stages_from}
use Rattle.gate_runs.specs.Next.{AskAccept, AskConnect, AskRead, AskWrite, AskShut, AskIdle, AskNow}
use Rattle.gate_runs.specs.Next.{Upcoming, Do, Settle, EndBy, Done, Point, BetweenTurns, ClockRead}
use Rattle.gate_runs.specs.Next.{BeforePairs, Refusing, InPair, Ending, Ended, live_pairs}
use Rattle.gate_runs.specs.Next.{accepted_count, pair_limit, is_done, finish_of, point, after}
use Rattle.gate_runs.specs.Next.{after_shut, next, asked, begin, closing}
use Rattle.gate_runs.specs.Serving.{RunsOutAt, AtRead, AtTakeUp, AtWrite, RefusesAt, is_ended}
use Rattle.gate_runs.specs.Serving.{EndsBy, Follows}
use Rattle.gate_turn_laws.specs.Ends.{newest, is_stopped, EndsAs, Runs, ComesAfter, InService}
use Rattle.gate_turn_laws.specs.Ends.{Closes, EndsOnce, Did, NoneYet, Moved, Idled, TurnsDid}
use Rattle.gate_turn_laws.proofs.Lists.{is_or_isnt, unlike, and_parts, is_equal}
use Rattle.gate_turn_laws.proofs.Order.{ordered}
use Rattle.gate_turn_laws.proofs.Points.{after_shut_by, ended_is, after_runs, is_last, runs_still}
use Rattle.gate_turn_laws.proofs.Points.{closing_call, run_out_runs, refuse_runs}
use Rattle.gate_turn_laws.proofs.Cover.{Own, asks_own, all_stages, of_pair, of_next, rests, begins}
use Rattle.gate_turn_laws.proofs.Cover.{accepts, refuses, stops, closes, cover_at, rest_at}
use Rattle.gate_turn_laws.proofs.Cover.{begin_at}

pub none_is : {A : Type 0} (o : Option A) → is_some o ≡ false → o ≡ None
none_is None e = refl
none_is (Some a) e = absurd cc

-- the service has ended where its point is the last
pub finish_is : (w : RelayWords) (c : Limits) (m : History) → Follows w c m → is_some (finish_of m) ≡ is_ended (point m)
finish_is w c [] f = refl
finish_is w c (Call entry ∷ m) f = elim (is_or_isnt (is_ended (point m))) [
  | inl over ↦
      let x : point m ≡ Ended = ended_is (point m) over in
      let s : (p : ℕ) × (end : End) × (entry ≡ Shut p end) = closing_call w c m entry x f.0 in
      finish_is w c m f.2 ∙ over ∙ sym (ap (λ (y : LogEntry). is_ended (after y (point m))) s.2 ∙ ap (λ (y : Point). is_ended (after_shut s.0 s.1 y)) x)
  | inr runs ↦ finish_is w c m f.2 ∙ runs ∙ sym (after_runs entry (point m) runs)
]
finish_is w c (Refuse p ∷ m) f = finish_is w c m f.1 ∙ refuse_runs p m f.0
finish_is w c (TakeUp p ∷ m) f = finish_is w c m f.1 ∙ runs_still w c m (Settle p) f.0 refl
finish_is w c (RunOut p s cut ∷ m) f = finish_is w c m f.2 ∙ run_out_runs w c p s cut m f.1
finish_is w c (Finish how ∷ m) f = refl

pub lasts_at : (w : RelayWords) (c : Limits) (m : History) → Follows w c m → is_ended (point m) ≡ false → finish_of m ≡ None
lasts_at w c m f runs = none_is (finish_of m) (finish_is w c m f ∙ runs)

-- what comes after an answer that ends the service
abbrev is_stop : Upcoming → Bool
is_stop (Do a) = false
is_stop (Settle p) = false
is_stop (EndBy Stopped) = true
is_stop (EndBy PairsDone) = false
is_stop (EndBy TurnLimit) = false
is_stop (EndBy (Fault outside.Accept)) = true
is_stop (EndBy (Fault outside.Out)) = false
is_stop (EndBy (Fault outside.Capture)) = false
is_stop (EndBy Memory) = false
is_stop Done = false

stopped_next : (w : RelayWords) (c : Limits) (m : History) → is_stopped m ≡ true → is_stop (next w c m) ≡ true
stopped_next w c [] e = absurd cc
stopped_next w c (Call (Accept (accepted.Pair p)) ∷ m) e = absurd cc
stopped_next w c (Call (Accept accepted.NotYet) ∷ m) e = absurd cc
stopped_next w c (Call (Accept accepted.Failed) ∷ m) e = refl
stopped_next w c (Call (Connect p answer) ∷ m) e = absurd cc
stopped_next w c (Call (Read p end room answer bytes) ∷ m) e = absurd cc
stopped_next w c (Call (Write p end bytes answer) ∷ m) e = absurd cc
stopped_next w c (Call (Shut p end) ∷ m) e = absurd cc
stopped_next w c (Call (Idle Go) ∷ m) e = absurd cc
stopped_next w c (Call (Idle Stop) ∷ m) e = refl
stopped_next w c (Call (Now ms) ∷ m) e = absurd cc
stopped_next w c (Refuse p ∷ m) e = absurd cc
stopped_next w c (TakeUp p ∷ m) e = absurd cc
stopped_next w c (RunOut p s cut ∷ m) e = absurd cc
stopped_next w c (Finish how ∷ m) e = absurd cc

not_stopped : (w : RelayWords) (c : Limits) (m : History) (up : Upcoming) → next w c m ≡ up → is_stop up ≡ false → is_stopped m ≡ false
not_stopped w c m up e t = elim (is_or_isnt (is_stopped m)) [
  | inl stopped ↦ absurd (unlike is_stop up (next w c m) (sym e) t (stopped_next w c m stopped))
  | inr runs ↦ runs
]

runs_at : (w : RelayWords) (c : Limits) (m : History) (up : Upcoming) → Follows w c m → next w c m ≡ up → is_last up ≡ false → is_stop up ≡ false → Runs m
runs_at w c m up f e last stop = record { lasts = lasts_at w c m f (runs_still w c m up e last); goes_on = not_stopped w c m up e stop }

run_out_at : (w : RelayWords) (c : Limits) (p : ℕ) (s : Stage) (cut : ℕ) (m : History) → RunsOutAt w c p s cut m → is_stopped m ≡ false
run_out_at w c p s k m (AtRead cut end room n bytes old) = refl
run_out_at w c p s k m (AtTakeUp cut old) = refl
run_out_at w c p s k m (AtWrite end bytes old e t) = not_stopped w c old (Do (AskWrite p end bytes)) e refl

refuse_at : (p : ℕ) (m : History) → RefusesAt p m → is_stopped m ≡ false
refuse_at p (Call (Accept (accepted.Pair q)) ∷ m) r = refl
refuse_at p m r = absurd r

comes_after : (w : RelayWords) (c : Limits) (m : History) (entry : LogEntry) → Follows w c m → next w c m ≡ Do (asked entry) → ComesAfter m entry
comes_after w c m entry f e = elim (is_or_isnt (is_ended (point m))) [
  | inl over ↦
      let s : (p : ℕ) × (end : End) × (entry ≡ Shut p end) = closing_call w c m entry (ended_is (point m) over) e in
      Closes s.0 s.1 s.2 (finish_is w c m f ∙ over)
  | inr runs ↦ InService (record { lasts = lasts_at w c m f runs; goes_on = not_stopped w c m (Do (asked entry)) e refl })
]

-- ---- the mark that led to a point

-- the call whose answer ends the service so is the newest mark
abbrev pub StopMark : History → Served → Type 0
StopMark m Stopped = newest m ≡ Some (Call (Idle Stop))
StopMark m PairsDone = ⊥
StopMark m TurnLimit = ⊥
StopMark m (Fault outside.Accept) = newest m ≡ Some (Call (Accept accepted.Failed))
StopMark m (Fault outside.Out) = ⊥
StopMark m (Fault outside.Capture) = ⊥
StopMark m Memory = ⊥

abbrev pub LedTo : History → Point → Type 0
LedTo m BetweenTurns = (m ≡ []) ⊎ (newest m ≡ Some (Call (Idle Go)))
LedTo m ClockRead = Unit {0}
LedTo m BeforePairs = Unit {0}
LedTo m (Refusing p) = Unit {0}
LedTo m (InPair p s) = Unit {0}
LedTo m (Ending how) = StopMark m how
LedTo m Ended = Unit {0}

pub led_to : (m : History) → LedTo m (point m)
led_to [] = inl refl
led_to (Call (Accept (accepted.Pair p)) ∷ m) = tt
led_to (Call (Accept accepted.NotYet) ∷ m) = tt
led_to (Call (Accept accepted.Failed) ∷ m) = refl
led_to (Call (Connect p answer) ∷ m) = tt
led_to (Call (Read p end room answer bytes) ∷ m) = tt
led_to (Call (Write p end bytes answer) ∷ m) = tt
led_to (Call (Shut p end) ∷ m) = after_shut_by (λ (x : Point). LedTo (Call (Shut p end) ∷ m) x) p end (point m) tt tt (λ o. tt)
led_to (Call (Idle Go) ∷ m) = inr refl
led_to (Call (Idle Stop) ∷ m) = refl
led_to (Call (Now ms) ∷ m) = tt
led_to (Refuse p ∷ m) = tt
led_to (TakeUp p ∷ m) = tt
led_to (RunOut p s cut ∷ m) = tt
led_to (Finish how ∷ m) = tt

-- ---- how the service ends

-- where the service is to end, and how
abbrev EndsUp : RelayWords → Limits → History → Upcoming → Type 0
EndsUp w c m (Do a) = Unit {0}
EndsUp w c m (Settle p) = Unit {0}
EndsUp w c m (EndBy how) = EndsAs w c m how
EndsUp w c m Done = Unit {0}

stop_ends : (w : RelayWords) (c : Limits) (m : History) (how : Served) → StopMark m how → EndsAs w c m how
stop_ends w c m Stopped s = s
stop_ends w c m PairsDone s = absurd s
stop_ends w c m TurnLimit s = absurd s
stop_ends w c m (Fault outside.Accept) s = s
stop_ends w c m (Fault outside.Out) s = absurd s
stop_ends w c m (Fault outside.Capture) s = absurd s
stop_ends w c m Memory s = absurd s

empty_is : (ps : List ℕ) → is_empty ps ≡ true → ps ≡ []
empty_is [] e = refl
empty_is (p ∷ ps) e = absurd cc

done_parts : (w : RelayWords) (c : Limits) (m : History) → is_done c m ≡ true → is_stopped m ≡ false → EndsAs w c m PairsDone
done_parts w c m e runs =
    let parts : ((accepted_count m == pair_limit c) ≡ true) × (is_empty (live_pairs m) ≡ true) = and_parts (accepted_count m == pair_limit c) (is_empty (live_pairs m)) e in
    (is_equal (accepted_count m) (pair_limit c) parts.0, empty_is (live_pairs m) parts.1, runs)

begin_ends : (w : RelayWords) (c : Limits) (m : History) (up : Upcoming) → next w c m ≡ up → begin c m ≡ up → EndsUp w c m up
begin_ends w c m up n e = elim (begin_at c m up e) [
  | inl h ↦ subst (λ (u : Upcoming). EndsUp w c m u) h.1 (done_parts w c m h.0 (not_stopped w c m (EndBy PairsDone) (n ∙ sym h.1) refl))
  | inr g ↦ elim g [
    | inl h ↦ subst (λ (u : Upcoming). EndsUp w c m u) h.2 (h.1, h.0, not_stopped w c m (EndBy TurnLimit) (n ∙ sym h.2) refl)
    | inr h ↦ subst (λ (u : Upcoming). EndsUp w c m u) h.1 tt
  ]
]

closing_ends : (w : RelayWords) (c : Limits) (m : History) (ps : List ℕ) (up : Upcoming) → closing m ps ≡ up → EndsUp w c m up
closing_ends w c m [] up e = subst (λ (u : Upcoming). EndsUp w c m u) e tt
closing_ends w c m (p ∷ ps) up e = subst (λ (u : Upcoming). EndsUp w c m u) e tt

own_ends : (w : RelayWords) (c : Limits) (m : History) (p : ℕ) (h : List Entry) (up : Upcoming) → Own w p h up → EndsUp w c m up
own_ends w c m p h (Do a) own = tt
own_ends w c m p h (Settle q) own = tt
own_ends w c m p h (EndBy how) own = absurd own
own_ends w c m p h Done own = tt

ends_up : (w : RelayWords) (c : Limits) (m : History) (up : Upcoming) → Follows w c m → next w c m ≡ up → EndsUp w c m up
ends_up w c m up f e = elim (cover_at w c m (point m) up (ordered w c m f).rising e) [
  | of_pair p s x own ↦ own_ends w c m p (journal p m) up (asks_own w p (stages_from s) (journal p m) up own)
  | of_next p live ahead passed own ↦ own_ends w c m p (journal p m) up (asks_own w p all_stages (journal p m) up own)
  | rests passed r ↦ elim (rest_at c m up r) [ inl i ↦ subst (λ (u : Upcoming). EndsUp w c m u) i.1 tt | inr b ↦ begin_ends w c m up e b.1 ]
  | begins x b ↦ begin_ends w c m up e b
  | accepts x t a ↦ subst (λ (u : Upcoming). EndsUp w c m u) a tt
  | refuses p x a ↦ subst (λ (u : Upcoming). EndsUp w c m u) a tt
  | stops how x a ↦ subst (λ (u : Upcoming). EndsUp w c m u) a (stop_ends w c m how (subst (λ (y : Point). LedTo m y) x (led_to m)))
  | closes x a ↦ closing_ends w c m (live_pairs m) up a
]

-- the service never ends by itself because a sink failed, or for want of memory
abbrev is_outer : Upcoming → Bool
is_outer (Do a) = false
is_outer (Settle p) = false
is_outer (EndBy Stopped) = false
is_outer (EndBy PairsDone) = false
is_outer (EndBy TurnLimit) = false
is_outer (EndBy (Fault outside.Accept)) = false
is_outer (EndBy (Fault outside.Out)) = true
is_outer (EndBy (Fault outside.Capture)) = true
is_outer (EndBy Memory) = true
is_outer Done = false

own_inner : (w : RelayWords) (p : ℕ) (h : List Entry) (up : Upcoming) → Own w p h up → is_outer up ≡ false
own_inner w p h (Do a) own = refl
own_inner w p h (Settle q) own = refl
own_inner w p h (EndBy how) own = absurd own
own_inner w p h Done own = refl

stop_inner : (m : History) (how : Served) → StopMark m how → is_outer (EndBy how) ≡ false
stop_inner m Stopped s = refl
stop_inner m PairsDone s = absurd s
stop_inner m TurnLimit s = absurd s
stop_inner m (Fault outside.Accept) s = refl
stop_inner m (Fault outside.Out) s = absurd s
stop_inner m (Fault outside.Capture) s = absurd s
stop_inner m Memory s = absurd s

begin_inner : (c : Limits) (m : History) (up : Upcoming) → begin c m ≡ up → is_outer up ≡ false
begin_inner c m up e = elim (begin_at c m up e) [
  | inl h ↦ sym (ap is_outer h.1)
  | inr g ↦ elim g [ inl h ↦ sym (ap is_outer h.2) | inr h ↦ sym (ap is_outer h.1) ]
]

closing_inner : (m : History) (ps : List ℕ) → is_outer (closing m ps) ≡ false
closing_inner m [] = refl
closing_inner m (p ∷ ps) = refl

next_inner : (w : RelayWords) (c : Limits) (m : History) (up : Upcoming) → Follows w c m → next w c m ≡ up → is_outer up ≡ false
next_inner w c m up f e = elim (cover_at w c m (point m) up (ordered w c m f).rising e) [
  | of_pair p s x own ↦ own_inner w p (journal p m) up (asks_own w p (stages_from s) (journal p m) up own)
  | of_next p live ahead passed own ↦ own_inner w p (journal p m) up (asks_own w p all_stages (journal p m) up own)
  | rests passed r ↦ elim (rest_at c m up r) [ inl i ↦ sym (ap is_outer i.1) | inr b ↦ begin_inner c m up b.1 ]
  | begins x b ↦ begin_inner c m up b
  | accepts x t a ↦ sym (ap is_outer a)
  | refuses p x a ↦ sym (ap is_outer a)
  | stops how x a ↦ sym (ap is_outer a) ∙ stop_inner m how (subst (λ (y : Point). LedTo m y) x (led_to m))
  | closes x a ↦ sym (ap is_outer a) ∙ closing_inner m (live_pairs m)
]

pub never_next : (w : RelayWords) (c : Limits) (m : History) (how : Served) → Follows w c m → next w c m ≡ EndBy how → is_outer (EndBy how) ≡ true → ⊥
never_next w c m how f e t = let clash : false ≡ true = sym (next_inner w c m (EndBy how) f e) ∙ t in cc

ends_as : (w : RelayWords) (c : Limits) (m : History) (how : Served) → Follows w c m → EndsBy w c how m → EndsAs w c m how
ends_as w c m Stopped f e = ends_up w c m (EndBy Stopped) f e
ends_as w c m PairsDone f e = ends_up w c m (EndBy PairsDone) f e
ends_as w c m TurnLimit f e = ends_up w c m (EndBy TurnLimit) f e
ends_as w c m (Fault outside.Accept) f e = ends_up w c m (EndBy (Fault outside.Accept)) f e
ends_as w c m (Fault outside.Out) f e = e
ends_as w c m (Fault outside.Capture) f e = e
ends_as w c m Memory f e = e

-- the service ends at most once
pub ends_once : (w : RelayWords) (c : Limits) (m : History) → Follows w c m → EndsOnce w c m
ends_once w c [] f = tt
ends_once w c (Call entry ∷ m) f = (comes_after w c m entry f.2 f.0, ends_once w c m f.2)
ends_once w c (Refuse p ∷ m) f = (record { lasts = lasts_at w c m f.1 (refuse_runs p m f.0); goes_on = refuse_at p m f.0 }, ends_once w c m f.1)
ends_once w c (TakeUp p ∷ m) f = (runs_at w c m (Settle p) f.1 f.0 refl refl, ends_once w c m f.1)
ends_once w c (RunOut p s cut ∷ m) f =
    (record { lasts = lasts_at w c m f.2 (run_out_runs w c p s cut m f.1); goes_on = run_out_at w c p s cut m f.1 }, ends_once w c m f.2)
ends_once w c (Finish how ∷ m) f = (lasts_at w c m f.2 f.1, ends_as w c m how f.2 f.0, ends_once w c m f.2)

-- ---- what each turn did

-- a turn is to begin, or the service is to end between two turns
abbrev is_between : Upcoming → Bool
is_between (Do AskAccept) = false
is_between (Do (AskConnect q)) = false
is_between (Do (AskRead q end room)) = false
is_between (Do (AskWrite q end bytes)) = false
is_between (Do (AskShut q end)) = false
is_between (Do AskIdle) = false
is_between (Do AskNow) = true
is_between (Settle q) = false
is_between (EndBy Stopped) = false
is_between (EndBy PairsDone) = true
is_between (EndBy TurnLimit) = true
is_between (EndBy (Fault what)) = false
is_between (EndBy Memory) = false
is_between Done = false

own_within : (w : RelayWords) (p : ℕ) (h : List Entry) (up : Upcoming) → Own w p h up → is_between up ≡ true → ⊥
own_within w p h (Do AskAccept) own t = own
own_within w p h (Do (AskConnect q)) own t = cc
own_within w p h (Do (AskRead q end room)) own t = cc
own_within w p h (Do (AskWrite q end bytes)) own t = cc
own_within w p h (Do (AskShut q end)) own t = cc
own_within w p h (Do AskIdle) own t = own
own_within w p h (Do AskNow) own t = own
own_within w p h (Settle q) own t = cc
own_within w p h (EndBy how) own t = own
own_within w p h Done own t = own

stop_within : (m : History) (how : Served) → StopMark m how → is_between (EndBy how) ≡ false
stop_within m Stopped s = refl
stop_within m PairsDone s = absurd s
stop_within m TurnLimit s = absurd s
stop_within m (Fault what) s = refl
stop_within m Memory s = refl

closing_within : (m : History) (ps : List ℕ) → is_between (closing m ps) ≡ false
closing_within m [] = refl
closing_within m (p ∷ ps) = refl

begin_did : (m : History) → LedTo m BetweenTurns → Did m
begin_did m (inl none) = NoneYet none
begin_did m (inr idle) = Idled idle

did : (w : RelayWords) (c : Limits) (m : History) (up : Upcoming) → Follows w c m → next w c m ≡ up → is_between up ≡ true → Did m
did w c m up f e t = elim (cover_at w c m (point m) up (ordered w c m f).rising e) [
  | of_pair p s x own ↦ absurd (own_within w p (journal p m) up (asks_own w p (stages_from s) (journal p m) up own) t)
  | of_next p live ahead passed own ↦ absurd (own_within w p (journal p m) up (asks_own w p all_stages (journal p m) up own) t)
  | rests passed r ↦ elim (rest_at c m up r) [ inl i ↦ absurd (unlike is_between _ up i.1 refl t) | inr b ↦ Moved b.0 ]
  | begins x b ↦ begin_did m (subst (λ (y : Point). LedTo m y) x (led_to m))
  | accepts x k a ↦ absurd (unlike is_between _ up a refl t)
  | refuses p x a ↦ absurd (unlike is_between _ up a refl t)
  | stops how x a ↦ absurd (unlike is_between _ up a (stop_within m how (subst (λ (y : Point). LedTo m y) x (led_to m))) t)
  | closes x a ↦ absurd (unlike is_between _ up a (closing_within m (live_pairs m)) t)
]

pub turns_did : (w : RelayWords) (c : Limits) (m : History) → Follows w c m → TurnsDid m
turns_did w c [] f = tt
turns_did w c (Call (Accept answer) ∷ m) f = turns_did w c m f.2
turns_did w c (Call (Connect p answer) ∷ m) f = turns_did w c m f.2
turns_did w c (Call (Read p end room answer bytes) ∷ m) f = turns_did w c m f.2
turns_did w c (Call (Write p end bytes answer) ∷ m) f = turns_did w c m f.2
turns_did w c (Call (Shut p end) ∷ m) f = turns_did w c m f.2
turns_did w c (Call (Idle answer) ∷ m) f = turns_did w c m f.2
turns_did w c (Call (Now ms) ∷ m) f = (did w c m (Do AskNow) f.2 f.0 refl, turns_did w c m f.2)
turns_did w c (Refuse p ∷ m) f = turns_did w c m f.1
turns_did w c (TakeUp p ∷ m) f = turns_did w c m f.1
turns_did w c (RunOut p s cut ∷ m) f = turns_did w c m f.2
turns_did w c (Finish Stopped ∷ m) f = turns_did w c m f.2
turns_did w c (Finish PairsDone ∷ m) f = (did w c m (EndBy PairsDone) f.2 f.0 refl, turns_did w c m f.2)
turns_did w c (Finish TurnLimit ∷ m) f = (did w c m (EndBy TurnLimit) f.2 f.0 refl, turns_did w c m f.2)
turns_did w c (Finish (Fault what) ∷ m) f = turns_did w c m f.2
turns_did w c (Finish Memory ∷ m) f = turns_did w c m f.2
