-- A pair lives while it has an open end; and why each call is asked.
use Rattle.std.proofs.Common.{◌≡◌, ◌≢◌, ℕ, ◌==◌, Bool, true, false, if◌then◌else◌, List, [], ◌∷◌}
use Rattle.std.proofs.Common.{None, Some, ◌⊎◌, refl, sym, ap, ◌∙◌, subst, inl, inr}
use Rattle.std.proofs.lemmas.Bool.Decides.{eqb_tells}
use Rattle.gate_outside.specs.declared.ports.End.{End}
use Rattle.gate_outside.specs.declared.ports.End.TheVariants.{Client, Up}
use Rattle.gate_outside.specs.declared.ports.Accepted.TheVariants as accepted
use Rattle.gate_outside.specs.declared.ports.Got.{Got}
use Rattle.gate_outside.specs.declared.ports.Got.TheVariants as got
use Rattle.gate_outside.specs.declared.ports.Linked.{Linked}
use Rattle.gate_outside.specs.declared.ports.Put.{Put}
use Rattle.gate_outside.specs.declared.ports.Put.TheVariants as put
use Rattle.gate_outside.specs.declared.ports.Next.TheVariants.{Go, Stop}
use Rattle.gate_outside.specs.declared.log.LogEntry.TheVariants.{Accept, Connect, Read, Write, Shut}
use Rattle.gate_outside.specs.declared.log.LogEntry.TheVariants.{Idle, Now}
use Rattle.gate_relay.specs.declared.loss.Loss.TheVariants as loss
use Rattle.gate_relay.specs.declared.sides.Side.{Side}
use Rattle.gate_relay.specs.declared.sides.Side.TheVariants as side
use Rattle.gate_relay.specs.declared.sides.Sides.{Sides}
use Rattle.gate_relay.specs.Entries.{Entry, Began, Refused, Moment, Settled, Joined, Lost}
use Rattle.gate_relay.specs.Entries.{OutOfMemory, Over}
use Rattle.gate_relay.specs.Guards.{reads, takes_up, connects, offers, shuts}
use Rattle.gate_relay.specs.Relayed.{read_room}
use Rattle.gate_relay.specs.RelayWords.{RelayWords}
use Rattle.gate_relay.specs.Sides.{sides, side_of, side_linked, with_side, is_readable, is_writable}
use Rattle.gate_relay.specs.Sides.{is_open_side, is_absent, has_end}
use Rattle.gate_runs.specs.declared.limits.Limits.{Limits}
use Rattle.gate_runs.specs.Marks.{History, Call, Refuse, TakeUp, RunOut, Finish}
use Rattle.gate_runs.specs.Journal.{journal, moment, read_entry, write_entry, since}
use Rattle.gate_runs.specs.Stages.{Stage, Reading, Taking, Linking, Writing, Shutting, Past, later}
use Rattle.gate_runs.specs.Stages.{stages_from}
use Rattle.gate_runs.specs.Next.{AskAccept, AskConnect, AskRead, AskWrite, AskShut, AskIdle, AskNow}
use Rattle.gate_runs.specs.Next.{Upcoming, Do, Settle, EndBy, Done, Point, BetweenTurns, ClockRead}
use Rattle.gate_runs.specs.Next.{BeforePairs, Refusing, InPair, Ending, Ended, begin, closing}
use Rattle.gate_runs.specs.Next.{first_open, live_pairs, unless_gone, point, next, may_accept}
use Rattle.gate_runs.specs.Next.{has_moved, turns_begun}
use Rattle.gate_runs.specs.Serving.{RunsOutAt, AtRead, AtTakeUp, AtWrite, RefusesAt, Follows}
use Rattle.gate_turn_laws.specs.Pairs.{is_among, is_live}
use Rattle.gate_turn_laws.proofs.Lists.{is_or_isnt, or_left, or_right, or_parts, and_parts, if_same}
use Rattle.gate_turn_laws.proofs.Lists.{among_first, among_push, among_push-other, among_without}
use Rattle.gate_turn_laws.proofs.Lists.{among_without-other}
use Rattle.gate_turn_laws.proofs.Points.{after_shut_by}
use Rattle.gate_turn_laws.proofs.Order.{ordered}
use Rattle.gate_turn_laws.proofs.Cover.{Own, Asks, asks_own, due_parts, of_pair, of_next, rests}
use Rattle.gate_turn_laws.proofs.Cover.{begins, accepts, refuses, stops, closes, cover_at, rest_at}
use Rattle.gate_turn_laws.proofs.Cover.{begin_at, all_stages}

-- ---- ends

pub readable_open : (x : Side) → is_readable x ≡ true → is_open_side x ≡ true
readable_open side.Absent e = absurd cc
readable_open side.Open e = refl
readable_open side.Ended e = absurd cc
readable_open side.Failed e = absurd cc
readable_open side.Gone e = absurd cc

pub writable_open : (x : Side) → is_writable x ≡ true → is_open_side x ≡ true
writable_open side.Absent e = absurd cc
writable_open side.Open e = refl
writable_open side.Ended e = refl
writable_open side.Failed e = absurd cc
writable_open side.Gone e = absurd cc

absent_closed : (x : Side) → is_absent x ≡ true → is_open_side x ≡ false
absent_closed side.Absent e = refl
absent_closed side.Open e = absurd cc
absent_closed side.Ended e = absurd cc
absent_closed side.Failed e = absurd cc
absent_closed side.Gone e = absurd cc

pub has_open : (end : End) (s : Sides) → is_open_side (side_of end s) ≡ true → has_end s ≡ true
has_open Client s e = or_left (is_open_side s.client) (is_open_side s.up) e
has_open Up s e = or_right (is_open_side s.client) (is_open_side s.up) e

lost_open : (end : End) (x : Side) (s : Sides) → is_open_side x ≡ true → has_end (with_side end x s) ≡ true
lost_open Client x s e = or_left (is_open_side x) (is_open_side s.up) e
lost_open Up x s e = or_right (is_open_side s.client) (is_open_side x) e

client_open : (s : Sides) → has_end s ≡ true → is_absent s.up ≡ true → is_open_side s.client ≡ true
client_open s e absent = elim (or_parts (is_open_side s.client) (is_open_side s.up) e) [
  | inl here ↦ here
  | inr up ↦ let clash : false ≡ true = sym (absent_closed s.up absent) ∙ up in absurd cc
]

first_opens : (h : List Entry) → has_end (sides h) ≡ true → is_open_side (side_of (first_open h) (sides h)) ≡ true
first_opens h e = elim (is_or_isnt (is_open_side (side_of Up (sides h)))) [
  | inl up ↦ rw up up
  | inr none ↦ elim (or_parts (is_open_side (sides h).client) (is_open_side (sides h).up) e) [
    | inl client ↦ rw none client
    | inr up ↦ let clash : false ≡ true = sym none ∙ up in absurd cc
  ]
]

-- what each guard says of the end
pub reads_end : (w : RelayWords) (end : End) (h : List Entry) → reads w end h ≡ true → is_readable (side_of end (sides h)) ≡ true
reads_end w end h e = (and_parts (is_readable (side_of end (sides h))) _ e).0

pub connects_end : (w : RelayWords) (h : List Entry) → connects w h ≡ true → is_absent (sides h).up ≡ true
connects_end w h e = (and_parts (is_absent (sides h).up) _ e).0

pub shuts_end : (w : RelayWords) (end : End) (h : List Entry) → shuts w end h ≡ true → is_open_side (side_of end (sides h)) ≡ true
shuts_end w end h e = (and_parts (is_open_side (side_of end (sides h))) _ e).0

pub offers_end : (w : RelayWords) (end : End) (h : List Entry) (bytes : List ℕ) → offers w end h ≡ Some bytes → is_writable (side_of end (sides h)) ≡ true
offers_end w end h bytes e = elim (is_or_isnt (is_writable (side_of end (sides h)))) [
  | inl t ↦ t
  | inr f ↦ let clash : None ≡ Some bytes = sym (ap (λ (b : Bool). if b then w.offer end h else None) f) ∙ e in absurd cc
]

-- ---- what is so of the live pairs

-- before the last of the shuts of a pair's part of a turn
abbrev pub is_before_shut : Stage → Bool
is_before_shut (Reading end) = true
is_before_shut Taking = true
is_before_shut Linking = true
is_before_shut (Writing lap k) = true
is_before_shut (Shutting Up) = true
is_before_shut (Shutting Client) = false
is_before_shut Past = false

-- the pair was refused right after its accept
abbrev pub IsRefusal : ℕ → List Entry → Type 0
IsRefusal p h = (ms : ℕ) × (h ≡ Refused ∷ Began p ms ∷ [])

-- the pair of the point
abbrev pub LivesAt : History → Point → Type 0
LivesAt m BetweenTurns = Unit {0}
LivesAt m ClockRead = Unit {0}
LivesAt m BeforePairs = Unit {0}
LivesAt m (Refusing p) = IsRefusal p (journal p m)
LivesAt m (InPair p s) = is_before_shut s ≡ true → is_live p m ≡ true
LivesAt m (Ending how) = Unit {0}
LivesAt m Ended = Unit {0}

-- a pair lives exactly while it has an open end
pub record Lives (m : History) : Type 0 where
  pub each : (p : ℕ) → is_live p m ≡ has_end (sides (journal p m))
  pub here : LivesAt m (point m)

-- why a call is asked, or the taking up of what came
abbrev pub Wanted : RelayWords → Limits → History → Upcoming → Type 0
Wanted w c m (Do AskAccept) = (point m ≡ ClockRead) × (may_accept c m ≡ true)
Wanted w c m (Do (AskConnect p)) = (is_live p m ≡ true) × (connects w (journal p m) ≡ true)
Wanted w c m (Do (AskRead p end room)) = (is_live p m ≡ true) × (room ≡ read_room) × (reads w end (journal p m) ≡ true)
Wanted w c m (Do (AskWrite p end bytes)) = (is_live p m ≡ true) × (offers w end (journal p m) ≡ Some bytes)
Wanted w c m (Do (AskShut p end)) = (is_live p m ≡ true) × (is_open_side (side_of end (sides (journal p m))) ≡ true)
    × ((shuts w end (journal p m) ≡ true) ⊎ (IsRefusal p (journal p m) × (end ≡ Client)) ⊎ (point m ≡ Ended))
Wanted w c m (Do AskIdle) = has_moved m ≡ false
Wanted w c m (Do AskNow) = turns_begun m ≢ c.turns
Wanted w c m (Settle p) = (is_live p m ≡ true) × (takes_up w (journal p m) ≡ true)
Wanted w c m (EndBy how) = Unit {0}
Wanted w c m Done = Unit {0}

-- something is asked of a pair that lives
live_asked : (w : RelayWords) (m : History) (p : ℕ) (s : Stage) (up : Upcoming) → Lives m → (is_before_shut s ≡ true → is_live p m ≡ true)
    → Asks w p (stages_from s) (journal p m) up → is_live p m ≡ true
live_asked w m p (Shutting Client) up v l (inl e) =
    let d : (shuts w Client (journal p m) ≡ true) × (Do (AskShut p Client) ≡ up) = due_parts _ _ _ e in
    v.each p ∙ has_open Client (sides (journal p m)) (shuts_end w Client (journal p m) d.0)
live_asked w m p (Shutting Client) up v l (inr more) = absurd more.1
live_asked w m p Past up v l a = absurd a
live_asked w m p s up v l a = l refl

by_pair : (w : RelayWords) (c : Limits) (m : History) (p : ℕ) (up : Upcoming) → is_live p m ≡ true → Own w p (journal p m) up → Wanted w c m up
by_pair w c m p (Do AskAccept) live own = absurd own
by_pair w c m p (Do (AskConnect q)) live own = subst (λ (x : ℕ). (is_live x m ≡ true) × (connects w (journal x m) ≡ true)) own.0 (live, own.1)
by_pair w c m p (Do (AskRead q end room)) live own =
    subst (λ (x : ℕ). (is_live x m ≡ true) × (room ≡ read_room) × (reads w end (journal x m) ≡ true)) own.0 (live, own.1, own.2)
by_pair w c m p (Do (AskWrite q end bytes)) live own = subst (λ (x : ℕ). (is_live x m ≡ true) × (offers w end (journal x m) ≡ Some bytes)) own.0 (live, own.1)
by_pair w c m p (Do (AskShut q end)) live own =
    subst (λ (x : ℕ). Wanted w c m (Do (AskShut x end))) own.0 (live, shuts_end w end (journal p m) own.1, inl own.1)
by_pair w c m p (Do AskIdle) live own = absurd own
by_pair w c m p (Do AskNow) live own = absurd own
by_pair w c m p (Settle q) live own = subst (λ (x : ℕ). (is_live x m ≡ true) × (takes_up w (journal x m) ≡ true)) own.0 (live, own.1)
by_pair w c m p (EndBy how) live own = tt
by_pair w c m p Done live own = tt

by_begin : (w : RelayWords) (c : Limits) (m : History) (up : Upcoming) → begin c m ≡ up → Wanted w c m up
by_begin w c m up e = elim (begin_at c m up e) [
  | inl t ↦ subst (λ (u : Upcoming). Wanted w c m u) t.1 tt
  | inr f ↦ elim f [ inl t ↦ subst (λ (u : Upcoming). Wanted w c m u) t.2 tt | inr t ↦ subst (λ (u : Upcoming). Wanted w c m u) t.1 t.0 ]
]

by_closing : (w : RelayWords) (c : Limits) (m : History) (ps : List ℕ) (up : Upcoming) → Lives m → live_pairs m ≡ ps → point m ≡ Ended → closing m ps ≡ up
    → Wanted w c m up
by_closing w c m [] up v l x e = subst (λ (u : Upcoming). Wanted w c m u) e tt
by_closing w c m (p ∷ ps) up v l x e =
    let live : is_live p m ≡ true = ap (λ (qs : List ℕ). is_among p qs) l ∙ among_first p ps in
    subst (λ (u : Upcoming). Wanted w c m u) e (live, first_opens (journal p m) (sym (v.each p) ∙ live), inr (inr x))

by_refusal : (w : RelayWords) (c : Limits) (m : History) (p : ℕ) → Lives m → IsRefusal p (journal p m) → Wanted w c m (Do (AskShut p Client))
by_refusal w c m p v r = (
  v.each p ∙ ap (λ (h : List Entry). has_end (sides h)) r.1,
  ap (λ (h : List Entry). is_open_side (side_of Client (sides h))) r.1,
  inr (inl (r, refl)),
)

pub wanted_by : (w : RelayWords) (c : Limits) (m : History) (up : Upcoming) → Follows w c m → Lives m → next w c m ≡ up → Wanted w c m up
wanted_by w c m up f v e = elim (cover_at w c m (point m) up (ordered w c m f).rising e) [
  | of_pair p s x own ↦ by_pair w c m p up (live_asked w m p s up v (subst (λ (y : Point). LivesAt m y) x v.here) own) (asks_own w p (stages_from s) (journal p m) up own)
  | of_next p live ahead passed own ↦ by_pair w c m p up live (asks_own w p all_stages (journal p m) up own)
  | rests passed r ↦ elim (rest_at c m up r) [ inl i ↦ subst (λ (u : Upcoming). Wanted w c m u) i.1 i.0 | inr b ↦ by_begin w c m up b.1 ]
  | begins x b ↦ by_begin w c m up b
  | accepts x t a ↦ subst (λ (u : Upcoming). Wanted w c m u) a (x, t)
  | refuses p x a ↦ subst (λ (u : Upcoming). Wanted w c m u) a (by_refusal w c m p v (subst (λ (y : Point). LivesAt m y) x v.here))
  | stops how x a ↦ subst (λ (u : Upcoming). Wanted w c m u) a tt
  | closes x a ↦ by_closing w c m (live_pairs m) up v refl x a
]

-- ---- what a mark does to the ends of a pair

-- one entry of q
ends_one : (q p : ℕ) (e : Entry) (h : List Entry) → (q ≡ p → has_end (sides (e ∷ h)) ≡ has_end (sides h))
    → has_end (sides (if q == p then e ∷ h else h)) ≡ has_end (sides h)
ends_one q p e h keeps = elim (eqb_tells q p) [
  | inl t ↦ ap (λ (b : Bool). has_end (sides (if b then e ∷ h else h))) t.0 ∙ keeps t.1
  | inr f ↦ ap (λ (b : Bool). has_end (sides (if b then e ∷ h else h))) f.0
]

ends_moment : (ms : ℕ) (h : List Entry) → has_end (sides (since (Moment ms) h)) ≡ has_end (sides h)
ends_moment ms [] = refl
ends_moment ms (x ∷ h) = refl

ends_over : (h : List Entry) → has_end (sides (since Over h)) ≡ has_end (sides h)
ends_over [] = refl
ends_over (x ∷ h) = refl

ends_read : (end : End) (answer : Got) (bytes : List ℕ) (h : List Entry) → is_readable (side_of end (sides h)) ≡ true
    → has_end (sides (read_entry end answer bytes ∷ h)) ≡ has_end (sides h)
ends_read end (got.Bytes n) bytes h r = refl
ends_read end got.NotYet bytes h r = refl
ends_read end got.Ended bytes h r = lost_open end side.Ended (sides h) refl ∙ sym (has_open end (sides h) (readable_open _ r))
ends_read end got.Failed bytes h r = lost_open end side.Failed (sides h) refl ∙ sym (has_open end (sides h) (readable_open _ r))

ends_write : (end : End) (bytes : List ℕ) (answer : Put) (h : List Entry) → is_writable (side_of end (sides h)) ≡ true
    → has_end (sides (write_entry end bytes answer ∷ h)) ≡ has_end (sides h)
ends_write end bytes (put.Took n) h r = refl
ends_write end bytes put.NotYet h r = refl
ends_write end bytes put.Failed h r = lost_open end side.Failed (sides h) refl ∙ sym (has_open end (sides h) (writable_open _ r))

ends_link : (answer : Linked) (h : List Entry) → has_end (sides h) ≡ true → is_absent (sides h).up ≡ true → has_end (sides (Joined answer ∷ h)) ≡ has_end (sides h)
ends_link answer h some absent =
    or_left (is_open_side (sides h).client) (is_open_side (side_linked answer)) (client_open (sides h) some absent) ∙ sym some

accept_lives : (p q : ℕ) (m : History) → is_live p m ≡ has_end (sides (journal p m))
    → is_live p (Call (Accept (accepted.Pair q)) ∷ m) ≡ has_end (sides (journal p (Call (Accept (accepted.Pair q)) ∷ m)))
accept_lives p q m e = elim (eqb_tells q p) [
  | inl t ↦
      among_push p q (live_pairs m) ∙ or_right (is_among p (live_pairs m)) (q == p) t.0
      ∙ sym (ap (λ (b : Bool). has_end (sides (if b then Began p (moment m) ∷ [] else journal p m))) t.0)
  | inr f ↦
      among_push-other p q (live_pairs m) f.1 ∙ e
      ∙ sym (ap (λ (b : Bool). has_end (sides (if b then Began p (moment m) ∷ [] else journal p m))) f.0)
]

shut_gone : (b : Bool) (p : ℕ) (ps : List ℕ) → is_among p ps ≡ true → is_among p (unless_gone b p ps) ≡ b
shut_gone true p ps e = e
shut_gone false p ps e = among_without p ps

among_gone-other : (b : Bool) (p q : ℕ) (ps : List ℕ) → q ≢ p → is_among p (unless_gone b q ps) ≡ is_among p ps
among_gone-other true p q ps ne = refl
among_gone-other false p q ps ne = among_without-other p q ps ne

shut_lives : (p q : ℕ) (end : End) (m : History) → is_live q m ≡ true → is_live p m ≡ has_end (sides (journal p m))
    → is_live p (Call (Shut q end) ∷ m) ≡ has_end (sides (journal p (Call (Shut q end) ∷ m)))
shut_lives p q end m live e = elim (eqb_tells q p) [
  | inl t ↦ subst (λ (x : ℕ). is_among x (live_pairs (Call (Shut q end) ∷ m)) ≡ has_end (sides (journal x (Call (Shut q end) ∷ m)))) t.1
      (shut_gone (has_end (sides (journal q (Call (Shut q end) ∷ m)))) q (live_pairs m) live)
  | inr f ↦ among_gone-other (has_end (sides (journal q (Call (Shut q end) ∷ m)))) p q (live_pairs m) f.1 ∙ e
      ∙ sym (ap (λ (b : Bool). has_end (sides (if b then Lost end loss.Shut ∷ journal p m else journal p m))) f.0)
]

pub run_out_lives : (w : RelayWords) (c : Limits) (p : ℕ) (s : Stage) (cut : ℕ) (m : History) → RunsOutAt w c p s cut m → Follows w c m → Lives m → is_live p m ≡ true
run_out_lives w c p s k m (AtRead cut Client room n bytes old) f v = v.here refl
run_out_lives w c p s k m (AtRead cut Up room n bytes old) f v = v.here refl
run_out_lives w c p s k m (AtTakeUp cut old) f v = v.here refl
run_out_lives w c p s k m (AtWrite end bytes old e t) f v = (wanted_by w c old (Do (AskWrite p end bytes)) f v e).0

refusal_at : (p : ℕ) (m : History) → RefusesAt p m → IsRefusal p (journal p (Refuse p ∷ m))
refusal_at p (Call (Accept (accepted.Pair q)) ∷ m) r = (
  moment m,
  if_same p (Refused ∷ journal p (Call (Accept (accepted.Pair q)) ∷ m)) (journal p (Call (Accept (accepted.Pair q)) ∷ m))
      ∙ ap (λ (h : List Entry). Refused ∷ h) (subst (λ (x : ℕ). journal p (Call (Accept (accepted.Pair x)) ∷ m) ≡ Began p (moment m) ∷ []) (sym r)
      (if_same p (Began p (moment m) ∷ []) (journal p m))),
)
refusal_at p m r = absurd r

shut_here : (p : ℕ) (end : End) (m : History) → LivesAt m (InPair p (later (Shutting end)))
shut_here p Up m = λ b. absurd cc
shut_here p Client m = λ b. absurd cc

-- a pair lives exactly while it has an open end
pub lives : (w : RelayWords) (c : Limits) (m : History) → Follows w c m → Lives m
lives w c [] f = record { each = λ p. refl; here = tt }
lives w c (Call (Accept (accepted.Pair q)) ∷ m) f = let v : Lives m = lives w c m f.2 in record { each = λ p. accept_lives p q m (v.each p); here = tt }
lives w c (Call (Accept accepted.NotYet) ∷ m) f = let v : Lives m = lives w c m f.2 in record { each = v.each; here = tt }
lives w c (Call (Accept accepted.Failed) ∷ m) f = let v : Lives m = lives w c m f.2 in record { each = v.each; here = tt }
lives w c (Call (Connect q answer) ∷ m) f =
    let v : Lives m = lives w c m f.2 in
    let a : (is_live q m ≡ true) × (connects w (journal q m) ≡ true) = wanted_by w c m _ f.2 v f.0 in
    record {
      each = λ p. v.each p ∙ sym (ends_one q p (Joined answer) (journal p m) (λ e. subst (λ (x : ℕ). has_end (sides (Joined answer ∷ journal x m)) ≡ has_end (sides (journal x m))) e
          (ends_link answer (journal q m) (sym (v.each q) ∙ a.0) (connects_end w (journal q m) a.1))));
      here = λ b. a.0;
    }
lives w c (Call (Read q end room answer bytes) ∷ m) f =
    let v : Lives m = lives w c m f.2 in
    let a : (is_live q m ≡ true) × (room ≡ read_room) × (reads w end (journal q m) ≡ true) = wanted_by w c m _ f.2 v f.0 in
    record {
      each = λ p. v.each p ∙ sym (ends_one q p (read_entry end answer bytes) (journal p m)
          (λ e. ends_read end answer bytes (journal p m) (subst (λ (x : ℕ). is_readable (side_of end (sides (journal x m))) ≡ true) e (reads_end w end (journal q m) a.2))));
      here = λ b. a.0;
    }
lives w c (Call (Write q end bytes answer) ∷ m) f =
    let v : Lives m = lives w c m f.2 in
    let a : (is_live q m ≡ true) × (offers w end (journal q m) ≡ Some bytes) = wanted_by w c m _ f.2 v f.0 in
    record {
      each = λ p. v.each p ∙ sym (ends_one q p (write_entry end bytes answer) (journal p m)
          (λ e. ends_write end bytes answer (journal p m) (subst (λ (x : ℕ). is_writable (side_of end (sides (journal x m))) ≡ true) e (offers_end w end (journal q m) bytes a.1))));
      here = λ b. a.0;
    }
lives w c (Call (Shut q end) ∷ m) f =
    let v : Lives m = lives w c m f.2 in
    let a : Wanted w c m (Do (AskShut q end)) = wanted_by w c m _ f.2 v f.0 in
    record {
      each = λ p. shut_lives p q end m a.0 (v.each p);
      here = after_shut_by (λ (x : Point). LivesAt (Call (Shut q end) ∷ m) x) q end (point m) tt (shut_here q end (Call (Shut q end) ∷ m)) (λ o. tt);
    }
lives w c (Call (Idle Go) ∷ m) f = let v : Lives m = lives w c m f.2 in record { each = v.each; here = tt }
lives w c (Call (Idle Stop) ∷ m) f = let v : Lives m = lives w c m f.2 in record { each = v.each; here = tt }
lives w c (Call (Now ms) ∷ m) f = let v : Lives m = lives w c m f.2 in record { each = λ p. v.each p ∙ sym (ends_moment ms (journal p m)); here = tt }
lives w c (Refuse q ∷ m) f =
    let v : Lives m = lives w c m f.1 in
    record { each = λ p. v.each p ∙ sym (ends_one q p Refused (journal p m) (λ e. refl)); here = refusal_at q m f.0 }
lives w c (TakeUp q ∷ m) f =
    let v : Lives m = lives w c m f.1 in
    let a : (is_live q m ≡ true) × (takes_up w (journal q m) ≡ true) = wanted_by w c m _ f.1 v f.0 in
    record { each = λ p. v.each p ∙ sym (ends_one q p Settled (journal p m) (λ e. refl)); here = λ b. a.0 }
lives w c (RunOut q s cut ∷ m) f =
    let v : Lives m = lives w c m f.2 in
    record { each = λ p. v.each p ∙ sym (ends_one q p (OutOfMemory cut) (journal p m) (λ e. refl)); here = λ b. run_out_lives w c q s cut m f.1 f.2 v }
lives w c (Finish how ∷ m) f = let v : Lives m = lives w c m f.2 in record { each = λ p. v.each p ∙ sym (ends_over (journal p m)); here = tt }

-- why each call is asked
pub wanted : (w : RelayWords) (c : Limits) (m : History) (up : Upcoming) → Follows w c m → next w c m ≡ up → Wanted w c m up
wanted w c m up f e = wanted_by w c m up f (lives w c m f) e
