-- What entries that are asked for say is a list of steps whose outgoing ones are picks. No loop is in sight here.
use Rattle.std.proofs.Common.{◌≡◌, ◌∙◌, ℕ, zero, suc, ◌≤◌, Bool, true, false, not, ◌&&◌, ◌||◌}
use Rattle.std.proofs.Common.{if◌then◌else◌, List, [], ◌∷◌, ◌++◌, drop, length, nat_lt, Option}
use Rattle.std.proofs.Common.{None, Some, refl, sym, ap, subst, append_assoc}
use Rattle.std.specs.Option.{option_map}
use Rattle.gate_outside.specs.declared.ports.End.{End}
use Rattle.gate_outside.specs.declared.ports.End.TheVariants.{Client, Up}
use Rattle.gate_relay.specs.Entries as entry
use Rattle.gate_relay.specs.Entries.{Entry, is_out_of_memory, is_over, moment_of}
use Rattle.gate_relay.specs.Guards.{reads}
use Rattle.gate_relay.specs.Relayed.{IsRelayed, is_new}
use Rattle.gate_relay.specs.Sides.{is_absent, is_readable, is_writable, sides, side_of}
use Rattle.close_translate.specs.declared.codes.TheConstants.{FRAME_ERROR}
use Rattle.frames_091.specs.FrameScan.{scan_of}
use Rattle.frames_091.specs.Headers.{header_scan}
use Rattle.frames_10.specs.FrameScan as frames_10
use Rattle.frames_10.specs.Headers as headers_10
use Rattle.machine_091.specs.State.{awaits, is_opening}
use Rattle.machine_091.specs.declared.state.Awaited91.{Awaited91}
use Rattle.machine_091.specs.declared.state.Awaited91.TheVariants as awaited
use Rattle.machine_091.specs.declared.unit.Unit91.{Unit91}
use Rattle.machine_091.specs.declared.unit.Unit91.TheVariants as unit
use Rattle.machine_10.specs.declared.limits.TheConstants.{FRAME_MAX}
use Rattle.machine_10.specs.declared.state.Awaited10.{Awaited10}
use Rattle.machine_10.specs.declared.state.Awaited10.TheVariants as awaited_10
use Rattle.machine_10.specs.declared.state.Upstream.{Upstream}
use Rattle.machine_10.specs.declared.unit.Unit10.{Unit10}
use Rattle.machine_10.specs.declared.unit.Unit10.TheVariants as unit_10
use Rattle.performatives_10.specs.declared.condition.Condition.{Condition}
use Rattle.performatives_10.specs.declared.condition.Condition.TheVariants.{FramingError}
use Rattle.wire_base.specs.declared.scan.Scan.{Scan}
use Rattle.wire_base.specs.declared.scan.Scan.TheVariants.{Whole, More, Bad}
use Rattle.gate_model.specs.declared.outgoing.Outgoing.{Outgoing}
use Rattle.gate_model.specs.declared.outgoing.Outgoing.TheVariants.{ToClient, ToUp}
use Rattle.gate_model.specs.Due.{can_leave, carries, is_awaited, is_busy, is_connect_due, pick}
use Rattle.gate_model.specs.Folds.{container, moment_in, ran_out_in}
use Rattle.gate_model.specs.Paths.{is_laden}
use Rattle.gate_model.specs.Picks.{ArePicks, MayBeHeard, MayComeAs, MayQueue, MayStep}
use Rattle.gate_model.specs.Queue.{is_bad_unit, is_full}
use Rattle.gate_model.specs.Setup.{SetupText}
use Rattle.gate_model.specs.State as state
use Rattle.gate_model.specs.State.{State, Step, Gave, Heard, Queued, TakenUp, before, close_waits}
use Rattle.gate_model.specs.State.{step}
use Rattle.gate_model.specs.Upstream.{awaited_of}
use Rattle.gate_model.proofs.Known.{container_is, known}
use Rattle.gate_model.proofs.Known as knows
use Rattle.gate_model.proofs.Basics.{and_left, and_right}
use Rattle.gate_pair.specs.Cutting.{after, as_step, as_unit, behind, cut_all, cut_of, on_scan}
use Rattle.gate_pair.specs.Cutting.{read_end, settle, step_scan, unit_scan, up_scan}
use Rattle.gate_pair.specs.Meaning.{begins, ends, given, leaves, offered, pair_words, spelled_in}
use Rattle.gate_pair.specs.Meaning.{state_of, steps_of, told}
use Rattle.gate_pair.proofs.Memories.{memory_of}
use Rattle.gate_pair.proofs.Queued.{IsGood, IsGoodAt, IsReady, IsReadyAt, behind_picks}
use Rattle.gate_pair.proofs.Queued.{behind_ready, none_of_both, queued_good, settle_picks}
use Rattle.gate_pair.proofs.Saids.{after_before}
use Rattle.gate_pair.proofs.Sounds.{client_picks, up_picks}
use Rattle.gate_pair.proofs.Taken.{AreTaken, FindsTaken, IsTaken, all_leave, behind_taken}
use Rattle.gate_pair.proofs.Taken.{cut_leaves, found, fresh_leave, moment_is}
use Rattle.gate_pair.proofs.Ticks.{tick_all}

-- ---- units come as they are awaited

abbrev FindsAs : Awaited91 → Scan Unit91 ℕ → Type 0
FindsAs a More = Unit {0}
FindsAs a (Bad code) = MayComeAs a (unit.Bad code)
FindsAs a (Whole u n) = MayComeAs a u × (is_bad_unit u ≡ false)

header_as : {A F : Type 0} (s : Scan A F) → FindsAs awaited.Header (as_unit (λ x. unit.Protocol) 0 s)
header_as (Whole x n) = (tt, refl)
header_as More = tt
header_as (Bad f) = refl

found_as : (a : Awaited91) (bytes : List ℕ) → FindsAs a (unit_scan a bytes)
found_as awaited.Header bytes = header_as (header_scan bytes)
found_as (awaited.Frame size) bytes = by (scan_of size bytes)
  where
    by : {F : Type 0} (s : Scan _ F) → FindsAs (awaited.Frame size) (as_unit unit.Frame FRAME_ERROR s)
    by (Whole x n) = (tt, refl)
    by More = tt
    by (Bad f) = refl
found_as awaited.Nothing bytes = tt

abbrev HearsAs : Awaited10 → Scan Unit10 Condition → Type 0
HearsAs a More = Unit {0}
HearsAs a (Bad why) = MayBeHeard a (unit_10.Bad why)
HearsAs a (Whole u n) = MayBeHeard a u

heard_as : (a : Awaited10) (bytes : List ℕ) → HearsAs a (up_scan a bytes)
heard_as (awaited_10.Header k) bytes = by (headers_10.header_scan k bytes)
  where
    by : {A F : Type 0} (s : Scan A F) → HearsAs (awaited_10.Header k) (as_unit (λ x. unit_10.Header k) FramingError s)
    by (Whole x n) = tt
    by More = tt
    by (Bad f) = refl
heard_as awaited_10.Frame bytes = by (frames_10.scan_of FRAME_MAX bytes)
  where
    by : {F : Type 0} (s : Scan _ F) → HearsAs awaited_10.Frame (as_unit unit_10.Frame FramingError s)
    by (Whole x n) = tt
    by More = tt
    by (Bad f) = refl
heard_as awaited_10.Nothing bytes = tt

-- a step that is found may come, and is no bad unit where it is whole
abbrev pub FindsMay : End → List Step → State → Scan Step Step → Type 0
FindsMay end h w More = Unit {0}
FindsMay end h w (Bad s) = MayStep h s
FindsMay end h w (Whole s n) = MayStep h s × IsGoodAt end (step w s)

client_may : (h : List Step) (bytes : List ℕ) → (before h).out_of_memory ≡ false → IsReady (before h) → FindsMay Client h (before h) (step_scan Client (before h) bytes)
client_may h bytes calm r = by (unit_scan (awaits (before h).conn) bytes) (found_as (awaits (before h).conn) bytes)
  where
    queue : MayQueue (before h)
    queue = record { taken = r.taken; good = r.good }

    by : (x : Scan Unit91 ℕ) → FindsAs (awaits (before h).conn) x → FindsMay Client h (before h) (as_step Queued unit.Bad x)
    by More m = tt
    by (Bad code) m = (m, queue)
    by (Whole u n) m = ((m.0, queue), queued_good (before h) u calm r.good m.1)

up_may : (h : List Step) (bytes : List ℕ) → ArePicks h → FindsMay Up h (before h) (step_scan Up (before h) bytes)
up_may h bytes p = by (up_scan (awaited_of (before h).up.container) bytes) (heard_as (awaited_of (before h).up.container) bytes)
  where
    may : (u : Unit10) → MayBeHeard (awaited_of (before h).up.container) u → MayBeHeard (awaited_of (container h)) u
    may u m = subst (λ (c : Option Upstream). MayBeHeard (awaited_of c) u) (container_is (known h p)) m

    by : (x : Scan Unit10 Condition) → HearsAs (awaited_of (before h).up.container) x → FindsMay Up h (before h) (as_step Heard unit_10.Bad x)
    by More m = tt
    by (Bad why) m = may (unit_10.Bad why) m
    by (Whole u n) m = (may u m, tt)

pub found_may : (end : End) (h : List Step) (bytes : List ℕ) → ArePicks h → (before h).out_of_memory ≡ false → IsReadyAt end (before h)
    → FindsMay end h (before h) (step_scan end (before h) bytes)
found_may Client h bytes p calm r = client_may h bytes calm r
found_may Up h bytes p calm r = up_may h bytes p

-- the same since a state
pub found_since : (end : End) (h g : List Step) (bytes : List ℕ) → ArePicks (g ++ h) → (before h).out_of_memory ≡ false → AreTaken g → IsReadyAt end (after g (before h))
    → FindsMay end (g ++ h) (after g (before h)) (step_scan end (after g (before h)) bytes)
found_since end h g bytes p calm a r =
    let same : before (g ++ h) ≡ after g (before h) = after_before g h in
    subst (λ (w : State). FindsMay end (g ++ h) w (step_scan end w bytes)) same
    (found_may end (g ++ h) bytes p (ap (λ (w : State). w.out_of_memory) same ∙ (all_leave g (before h) a).memory_is ∙ calm)
    (subst (IsReadyAt end) (sym same) r))

read_picks : (end : End) (h : List Step) (f : ℕ) (g : List Step) (bytes : List ℕ) → ArePicks (g ++ h) → (before h).out_of_memory ≡ false → AreTaken g
    → IsReadyAt end (after g (before h)) → ArePicks ((read_end end (before h) f g bytes).fresh ++ h)
read_picks end h zero g bytes p calm a r = p
read_picks end h (suc f) g bytes p calm a r =
    by (step_scan end (after g (before h)) bytes) (found end (after g (before h)) bytes) (found_since end h g bytes p calm a r)
    (λ s n t m. read_picks end h f (behind end (before h) (s ∷ g)) (drop n bytes) (behind_picks end h (s ∷ g) (m.0, p)) calm (behind_taken end (before h) (s ∷ g) (t, a))
    (behind_ready end (before h) (s ∷ g) m.1))
  where
    w : State
    w = before h

    by : (x : Scan Step Step) → FindsTaken x → FindsMay end (g ++ h) (after g w) x
        → ((s : Step) (n : ℕ) → IsTaken s → MayStep (g ++ h) s × IsGoodAt end (step (after g w) s)
        → ArePicks ((read_end end w f (behind end w (s ∷ g)) (drop n bytes)).fresh ++ h))
        → ArePicks ((on_scan x (cut_of g bytes) (λ s. cut_of (behind end w (s ∷ g)) []) (λ s n. read_end end w f (behind end w (s ∷ g)) (drop n bytes))).fresh ++ h)
    by More t m rec = p
    by (Bad s) t m rec = behind_picks end h (s ∷ g) (m, p)
    by (Whole s n) t m rec = rec s n t m

cut_picks : (end : End) (h : List Step) (bytes : List ℕ) → ArePicks h → (before h).out_of_memory ≡ false → IsGoodAt end (before h)
    → ArePicks ((cut_all end (before h) bytes).fresh ++ h)
cut_picks end h bytes p calm good =
    read_picks end h (length bytes) (behind end (before h) []) bytes (behind_picks end h [] p) calm (behind_taken end (before h) [] tt)
    (behind_ready end (before h) [] good)

-- an end is read while the pair has memory, and the client while no unit that waits is bad
isnt : (a : Bool) → not a ≡ true → a ≡ false
isnt true e = absurd cc
isnt false e = refl

pub read_calm : (r m a : Bool) → (r && (not m && a)) ≡ true → m ≡ false
read_calm r m a e = isnt m (and_left (not m) a (and_right r _ e))

read_good : (r m a o c b f : Bool) → (r && (not m && (a && not (o || (c || (b || f)))))) ≡ true → b ≡ false
read_good r m a o c b f e =
    let held : (o || (c || (b || f))) ≡ false = isnt _ (and_right a _ (and_right (not m) _ (and_right r _ e))) in
    (none_of_both b f (none_of_both c _ (none_of_both o _ held).1).1).0

pub good_at : (s : SetupText) (h : List Entry) → reads (pair_words s) Client h ≡ true → IsGood (state_of s h)
unfolding pair_words
good_at s h e =
    let w : State = state_of s h in
    let readable : Bool = is_readable (side_of Client (sides h)) in
    record {
      calm = memory_of s h ∙ read_calm readable (is_out_of_memory h) _ e;
      good = read_good readable (is_out_of_memory h) (is_awaited (awaits w.conn) || w.given_up) (is_opening w.conn) (close_waits w) _ (is_full w.queue || is_laden w.paths) e;
    }

-- bytes that came change none of that
pub fed_good : (w : State) → IsGood w → IsGood (step w (state.Fed Client))
fed_good w x = record { calm = x.calm; good = x.good }

-- ---- units that go are those that are offered

given_may : (end : End) (h : List Step) (o : Option Outgoing) → is_busy (before h) end ≡ false → pick (before h) end ≡ o → ArePicks h → ArePicks (given (before h) o ++ h)
given_may end h None free at p = p
given_may Client h (Some (ToClient u)) free at p = ((free, at, refl), p)
given_may Client h (Some (ToUp u)) free at p = absurd (client_picks (before h) u at)
given_may Up h (Some (ToClient u)) free at p = absurd (up_picks (before h) u at)
given_may Up h (Some (ToUp u)) free at p = ((free, at, refl), p)

took_picks : (end : End) (s : SetupText) (h : List Step) (n : ℕ) (rest bytes : List ℕ) → offered s end (before h) rest ≡ Some bytes → ArePicks h
    → ArePicks ((ends end n bytes ++ begins end (before h)) ++ h)
took_picks end s h n rest bytes e p = begun (is_busy (before h) end) refl (pick (before h) end) refl e
  where
    last : (g : List Step) (b : Bool) → is_busy (before (g ++ h)) end ≡ true → ArePicks (g ++ h) → ArePicks (((if b then [] else state.Whole end ∷ []) ++ g) ++ h)
    last g true is q = q
    last g false is q = (is, q)

    goes : (u : Outgoing) → pick (before h) end ≡ Some u → is_busy (before (Gave u (carries (before h) u) ∷ h)) end ≡ true
    goes u at = by end u at
      where
        by : (end : End) (u : Outgoing) → pick (before h) end ≡ Some u → is_busy (before (Gave u (carries (before h) u) ∷ h)) end ≡ true
        by Client (ToClient r) at = refl
        by Client (ToUp r) at = absurd (client_picks (before h) r at)
        by Up (ToClient r) at = absurd (up_picks (before h) r at)
        by Up (ToUp r) at = refl

    begun : (b : Bool) → is_busy (before h) end ≡ b → (o : Option Outgoing) → pick (before h) end ≡ o → (if b then Some rest else option_map (spelled_in s (before h)) o) ≡ Some bytes
        → ArePicks ((ends end n bytes ++ (if b then [] else given (before h) o)) ++ h)
    begun true is o at f = last [] (nat_lt n (length bytes)) is p
    begun false is None at f = absurd cc
    begun false is (Some u) at f = last (Gave u (carries (before h) u) ∷ []) (nat_lt n (length bytes)) (goes u at) (given_may end h (Some u) is at p)

-- any older part of a list of picks is one
pub drop_picks : (n : ℕ) (g h : List Step) → ArePicks (g ++ h) → ArePicks (drop n g ++ h)
drop_picks zero g h p = p
drop_picks (suc n) [] h p = p
drop_picks (suc n) (s ∷ g) h p = drop_picks n g h p.1

leaves_picks : (h : List Step) → ArePicks h → ArePicks (leaves (before h) ++ h)
leaves_picks h p = by (can_leave (before h)) refl
  where
    by : (b : Bool) → can_leave (before h) ≡ b → ArePicks ((if b then TakenUp ∷ [] else []) ++ h)
    by true e = (e, p)
    by false e = p

-- what is offered while the end takes bytes
pub offered_is : (b : Bool) (o : Option (List ℕ)) (bytes : List ℕ) → (if b then o else None) ≡ Some bytes → o ≡ Some bytes
offered_is true o bytes e = e
offered_is false o bytes e = absurd cc

-- the connection is asked for where that is due
connect_is : (x y z : Bool) → (x && (not y && z)) ≡ true → z ≡ true
connect_is true true z e = absurd cc
connect_is true false z e = e
connect_is false y z e = absurd cc

-- nothing happened but the accept
pub new_calm : (h : List Entry) → is_new h ≡ true → is_out_of_memory h ≡ false
new_calm [] e = absurd cc
new_calm (entry.Began p ms ∷ []) e = refl
new_calm (entry.Began p ms ∷ (x ∷ h)) e = absurd cc
new_calm (entry.Refused ∷ h) e = absurd cc
new_calm (entry.Moment ms ∷ h) e = absurd cc
new_calm (entry.Came end bytes ∷ h) e = absurd cc
new_calm (entry.Dry end ∷ h) e = absurd cc
new_calm (entry.Settled ∷ h) e = absurd cc
new_calm (entry.Joined answer ∷ h) e = absurd cc
new_calm (entry.Took end bytes n ∷ h) e = absurd cc
new_calm (entry.Stuck end bytes ∷ h) e = absurd cc
new_calm (entry.Lost end how ∷ h) e = absurd cc
new_calm (entry.OutOfMemory cut ∷ h) e = absurd cc
new_calm (entry.Over ∷ h) e = absurd cc

-- steps know whether the pair ran out of memory
pub memory_in : (s : SetupText) (h : List Entry) → ArePicks (steps_of s h) → ran_out_in (steps_of s h) ≡ is_out_of_memory h
memory_in s h p = sym (knows.memory_is (known (steps_of s h) p)) ∙ memory_of s h

-- moments don't fall
later : (s : SetupText) (ms : ℕ) (h : List Entry) → moment_of h ≤ ms → moment_in (steps_of s h) ≤ ms
later s ms h e = subst (λ (n : ℕ). n ≤ ms) (sym (moment_is s h)) e

pub picks : (s : SetupText) (h : List Entry) → IsRelayed (pair_words s) h → ArePicks (steps_of s h)
unfolding pair_words
picks s [] r = tt
picks s (entry.Began p ms ∷ h) r = (ap (steps_of s) r.0, picks s h r.2)
picks s (entry.Refused ∷ h) r = let p = picks s h r.2 in (memory_in s h p ∙ new_calm h r.0, p)
picks s (entry.Moment ms ∷ h) r = tick_all ArePicks (λ end g e p. (e, p)) ms (told s h) (later s ms h r.0, picks s h r.2)
picks s (entry.Came Client bytes ∷ h) r =
    let good : IsGood (state_of s h) = good_at s h r.0.0 in
    cut_picks Client (state.Fed Client ∷ steps_of s h) ((told s h).client.unread ++ bytes) (tt, picks s h r.2) good.calm (fed_good (state_of s h) good)
picks s (entry.Came Up bytes ∷ h) r =
    cut_picks Up (state.Fed Up ∷ steps_of s h) ((told s h).up.unread ++ bytes) (tt, picks s h r.2)
    (memory_of s h ∙ read_calm (is_readable (side_of Up (sides h))) (is_out_of_memory h) _ r.0.0) tt
picks s (entry.Dry end ∷ h) r = picks s h r.2
picks s (entry.Settled ∷ h) r =
    let g : List Step = state.LinesTold ∷ steps_of s h in
    let k : List Step = settle (before g) [] in
    subst ArePicks (sym (append_assoc (leaves (before (k ++ g))) k g)) (leaves_picks (k ++ g) (settle_picks g [] (tt, picks s h r.2)))
picks s (entry.Joined answer ∷ h) r = (connect_is (is_absent (side_of Up (sides h))) (is_out_of_memory h) (is_connect_due (state_of s h)) r.0, picks s h r.2)
picks s (entry.Took Client bytes n ∷ h) r =
    took_picks Client s (steps_of s h) n (told s h).client.rest bytes
    (offered_is (is_writable (side_of Client (sides h))) (offered s Client (state_of s h) (told s h).client.rest) bytes r.0.0) (picks s h r.2)
picks s (entry.Took Up bytes n ∷ h) r =
    took_picks Up s (steps_of s h) n (told s h).up.rest bytes
    (offered_is (is_writable (side_of Up (sides h))) (offered s Up (state_of s h) (told s h).up.rest) bytes r.0.0) (picks s h r.2)
picks s (entry.Stuck end bytes ∷ h) r = picks s h r.2
picks s (entry.Lost end how ∷ h) r = (tt, picks s h r.2)
picks s (entry.OutOfMemory cut ∷ h) r =
    let p = picks s h r.2 in
    ((cut_leaves s cut h).memory_is ∙ sym (fresh_leave s h).memory_is ∙ memory_in s h p ∙ r.0.0, drop_picks cut (state.LinesTold ∷ (told s h).fresh) (told s h).past (tt, p))
picks s (entry.Over ∷ h) r = picks s h r.2

-- before ends are given up at a moment
pub moment_picks : (s : SetupText) (ms : ℕ) (h : List Entry) → IsRelayed (pair_words s) (entry.Moment ms ∷ h) → ArePicks (state.Moment ms ∷ steps_of s h)
moment_picks s ms h r = (later s ms h r.0, picks s h r.2)
