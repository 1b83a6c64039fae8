-- What ports read is bytes, so the units of a client are; and the exchanges that it may publish to are those of the set-up.
use Rattle.std.proofs.Common.{◌≡◌, ℕ, zero, suc, ◌+◌, ◌==◌, Bool, true, false}
use Rattle.std.proofs.Common.{if◌then◌else◌, List, [], ◌∷◌, ◌++◌, Option, None, Some, drop}
use Rattle.std.proofs.Common.{length, nat_lt, refl, sym, subst}
use Rattle.std.specs.Prelude.{slice_get, slice_index}
use Rattle.std.specs.List.{AllByRecursion}
use Rattle.wire_base.specs.Bytes.{IsBytes}
use Rattle.wire_base.proofs.Bytes.{IsBytes-append, IsBytes-drop, IsBytes-replicate, IsBytes-take}
use Rattle.wire_base.specs.declared.scan.Scan.{Scan}
use Rattle.wire_base.specs.declared.scan.Scan.TheVariants.{Whole, More, Bad}
use Rattle.frames_091.specs.FrameScan.{bad, frame_in, kind_of, scan_kind, scan_of, stated_size}
use Rattle.frames_091.specs.Headers.{header_scan}
use Rattle.frames_091.specs.declared.frame.FrameFault.TheVariants as fault
use Rattle.frames_091.specs.declared.frame.Kind91.{Kind91}
use Rattle.gate_outside.specs.declared.ports.End.{End}
use Rattle.gate_outside.specs.declared.ports.End.TheVariants.{Client, Up}
use Rattle.gate_outside.specs.declared.ports.Accepted.TheVariants as accepted
use Rattle.gate_outside.specs.declared.ports.Got.{Got}
use Rattle.gate_outside.specs.declared.ports.Got.TheVariants as got
use Rattle.gate_outside.specs.declared.ports.Linked.TheVariants as link
use Rattle.gate_outside.specs.declared.ports.Put.{Put}
use Rattle.gate_outside.specs.declared.ports.Put.TheVariants as put
use Rattle.gate_outside.specs.declared.log.LogEntry.{LogEntry}
use Rattle.gate_outside.specs.declared.log.LogEntry.TheVariants as log
use Rattle.gate_relay.specs.declared.loss.Loss.TheVariants as loss
use Rattle.gate_relay.specs.Entries as entry
use Rattle.gate_relay.specs.Entries.{Entry}
use Rattle.gate_relay.specs.RelayWords.{RelayWords}
use Rattle.gate_runs.specs.declared.limits.Limits.{Limits}
use Rattle.gate_runs.specs.Journal.{journal, moment, read_entry, since, write_entry}
use Rattle.gate_runs.specs.Marks.{History, Call, Refuse, TakeUp, RunOut, Finish}
use Rattle.gate_runs.specs.Serving.{Answered, Follows}
use Rattle.machine_091.specs.State.{awaits}
use Rattle.machine_091.specs.Writable.{AreBytes}
use Rattle.machine_091.specs.declared.state.Awaited91.{Awaited91}
use Rattle.machine_091.specs.declared.state.Awaited91.TheVariants as awaited
use Rattle.machine_091.specs.declared.unit.Unit91.{Unit91}
use Rattle.machine_091.specs.declared.unit.Unit91.TheVariants as unit
use Rattle.machine_10.specs.declared.unit.Unit10.{Unit10}
use Rattle.machine_10.specs.declared.unit.Unit10.TheVariants as unit_10
use Rattle.performatives_10.specs.declared.condition.Condition.{Condition}
use Rattle.close_translate.specs.declared.codes.TheConstants.{FRAME_ERROR}
use Rattle.gate_model.specs.declared.outgoing.Outgoing.{Outgoing}
use Rattle.gate_model.specs.declared.outgoing.Outgoing.TheVariants.{ToClient}
use Rattle.gate_model.specs.Due.{can_leave, is_busy, is_silent, pick}
use Rattle.gate_model.specs.Frames.{AreGiven}
use Rattle.gate_model.specs.Picks.{ArePicks}
use Rattle.gate_model.specs.Queue.{removed, unit_at, without_at}
use Rattle.gate_model.specs.Setup.{AreRoutes, IsInForm, SetupText}
use Rattle.gate_model.specs.State as state
use Rattle.gate_model.specs.State.{State, Step, Began, Came, Fed, Gave, Heard, Joined, Lost}
use Rattle.gate_model.specs.State.{OutOfMemory, Queued, Silent, TakenUp, before, came, dequeued}
use Rattle.gate_model.specs.State.{left, next_unit, place, waits}
use Rattle.gate_model.specs.Upstream.{awaited_of}
use Rattle.gate_model.proofs.Basics.{all_both}
use Rattle.gate_model.proofs.Queues.{rests_fail, rests_heard}
use Rattle.gate_pair.specs.Cutting.{Cut, after, as_step, as_unit, cut_all, cut_of, on_next}
use Rattle.gate_pair.specs.Cutting.{on_scan, read_end, settle, settled, unit_scan}
use Rattle.gate_pair.specs.Cutting.{up_scan}
use Rattle.gate_pair.specs.Meaning.{Told, begins, ends, given, given_up, leaves, steps_of, told}

no_bytes : IsBytes []
no_bytes = IsBytes-replicate 0

-- ---- what ports read

-- what was read of ends is bytes
abbrev AreRead : List Entry → Type 0
AreRead [] = Unit {0}
AreRead (entry.Came end bytes ∷ h) = IsBytes bytes × AreRead h
AreRead (e ∷ h) = AreRead h

one_of : (b : Bool) (e : Entry) (h : List Entry) → AreRead (e ∷ h) → AreRead h → AreRead (if b then e ∷ h else h)
one_of true e h r old = r
one_of false e h r old = old

began_of : (b : Bool) (p ms : ℕ) (h : List Entry) → AreRead h → AreRead (if b then entry.Began p ms ∷ [] else h)
began_of true p ms h r = tt
began_of false p ms h r = r

read_of : (end : End) (answer : Got) (bytes : List ℕ) (h : List Entry) (m : History) (q room : ℕ) → Answered m (log.Read q end room answer bytes) → AreRead h
    → AreRead (read_entry end answer bytes ∷ h)
read_of end (got.Bytes n) bytes h m q room a r = (a.3, r)
read_of end got.NotYet bytes h m q room a r = r
read_of end got.Ended bytes h m q room a r = r
read_of end got.Failed bytes h m q room a r = r

write_of : (end : End) (bytes : List ℕ) (answer : Put) (h : List Entry) → AreRead h → AreRead (write_entry end bytes answer ∷ h)
write_of end bytes (put.Took n) h r = r
write_of end bytes put.NotYet h r = r
write_of end bytes put.Failed h r = r

since_moment : (ms : ℕ) (h : List Entry) → AreRead h → AreRead (since (entry.Moment ms) h)
since_moment ms [] r = r
since_moment ms (e ∷ h) r = r

since_over : (h : List Entry) → AreRead h → AreRead (since entry.Over h)
since_over [] r = r
since_over (e ∷ h) r = r

call_read : (p : ℕ) (m : History) (x : LogEntry) → Answered m x → AreRead (journal p m) → AreRead (journal p (Call x ∷ m))
call_read p m (log.Accept (accepted.Pair q)) a r = began_of (q == p) p (moment m) (journal p m) r
call_read p m (log.Accept accepted.NotYet) a r = r
call_read p m (log.Accept accepted.Failed) a r = r
call_read p m (log.Connect q answer) a r = one_of (q == p) (entry.Joined answer) (journal p m) r r
call_read p m (log.Read q end room answer bytes) a r =
    one_of (q == p) (read_entry end answer bytes) (journal p m) (read_of end answer bytes (journal p m) m q room a r) r
call_read p m (log.Write q end bytes answer) a r =
    one_of (q == p) (write_entry end bytes answer) (journal p m) (write_of end bytes answer (journal p m) r) r
call_read p m (log.Shut q end) a r = one_of (q == p) (entry.Lost end loss.Shut) (journal p m) r r
call_read p m (log.Idle answer) a r = r
call_read p m (log.Now ms) a r = since_moment ms (journal p m) r

are_read : (w : RelayWords) (c : Limits) (m : History) → Follows w c m → (p : ℕ) → AreRead (journal p m)
are_read w c [] f p = tt
are_read w c (Call x ∷ m) f p = call_read p m x f.1 (are_read w c m f.2 p)
are_read w c (Refuse q ∷ m) f p = let r = are_read w c m f.1 p in one_of (q == p) entry.Refused (journal p m) r r
are_read w c (TakeUp q ∷ m) f p = let r = are_read w c m f.1 p in one_of (q == p) entry.Settled (journal p m) r r
are_read w c (RunOut q s cut ∷ m) f p = let r = are_read w c m f.2 p in one_of (q == p) (entry.OutOfMemory cut) (journal p m) r r
are_read w c (Finish how ∷ m) f p = since_over (journal p m) (are_read w c m f.2 p)

-- ---- units

frame_bytes : (kind : Kind91) (bytes : List ℕ) → IsBytes bytes → IsBytes (frame_in kind bytes).payload
unfolding frame_in
frame_bytes kind bytes fit = IsBytes-take (stated_size bytes) (drop 7 bytes) (IsBytes-drop 7 bytes fit)

-- a unit that a scan finds is bytes
abbrev IsFound : Scan Unit91 ℕ → Type 0
IsFound More = Unit {0}
IsFound (Bad code) = Unit {0}
IsFound (Whole u n) = AreBytes u

header_found : {A F : Type 0} (x : Scan A F) → IsFound (as_unit (λ header. unit.Protocol) 0 x)
header_found More = tt
header_found (Bad fault) = tt
header_found (Whole h n) = tt

kind_found : (limit : ℕ) (o : Option Kind91) (bytes : List ℕ) → IsBytes bytes → IsFound (as_unit unit.Frame FRAME_ERROR (scan_kind limit o bytes))
kind_found limit None bytes fit = tt
kind_found limit (Some kind) bytes fit =
    by (nat_lt limit (stated_size bytes + 8)) (nat_lt (length bytes) (stated_size bytes + 8)) (slice_index bytes (7 + stated_size bytes) == 206)
  where
    by : (over few last : Bool)
        → IsFound (as_unit unit.Frame FRAME_ERROR (if over then bad fault.Size 3 else (if few then More else (if last then Whole (frame_in kind bytes) (stated_size bytes + 8) else bad fault.End (7 + stated_size bytes)))))
    by true few last = tt
    by false true last = tt
    by false false true = frame_bytes kind bytes fit
    by false false false = tt

frame_found : (limit : ℕ) (bytes : List ℕ) → IsBytes bytes → IsFound (as_unit unit.Frame FRAME_ERROR (scan_of limit bytes))
unfolding scan_of
frame_found limit [] fit = tt
frame_found limit (b ∷ rest) fit = kind_found limit (kind_of b) (b ∷ rest) fit

unit_found : (a : Awaited91) (bytes : List ℕ) → IsBytes bytes → IsFound (unit_scan a bytes)
unit_found awaited.Header bytes fit = header_found (header_scan bytes)
unit_found (awaited.Frame size) bytes fit = frame_found size bytes fit
unit_found awaited.Nothing bytes fit = tt

-- ---- steps

-- a step brings bytes of the client, and the exchanges of a set-up
abbrev IsFit : Step → Type 0
IsFit (Began site n ms) = AreRoutes site.routes
IsFit (Queued u) = AreBytes u
IsFit s = Unit {0}

abbrev AreFit : List Step → Type 0
AreFit h = AllByRecursion IsFit h

drop_fit : (n : ℕ) (g : List Step) → AreFit g → AreFit (drop n g)
drop_fit zero g a = a
drop_fit (suc n) [] a = a
drop_fit (suc n) (s ∷ g) a = drop_fit n g a.1

-- the steps of a read, and what is left of it
record IsCutFit (c : Cut) : Type 0 where
  fresh : AreFit c.fresh
  unread : IsBytes c.unread

settled_fit : (w : State) (f : ℕ) (g : List Step) → AreFit g → AreFit (settled w f g)
settled_fit w zero g a = a
settled_fit w (suc f) g a = by (next_unit (after g w)) (λ u. settled_fit w f (Came u ∷ g) (tt, a))
  where
    by : (o : Option Unit91) → ((u : Unit91) → AreFit (settled w f (Came u ∷ g))) → AreFit (on_next o g (λ u. settled w f (Came u ∷ g)))
    by None rec = a
    by (Some u) rec = rec u

settle_fit : (w : State) (g : List Step) → AreFit g → AreFit (settle w g)
settle_fit w g a = settled_fit w (length (after g w).queue) g a

read_client : (w : State) (f : ℕ) (g : List Step) (bytes : List ℕ) → AreFit g → IsBytes bytes → IsCutFit (read_end Client w f g bytes)
read_client w zero g bytes a fit = record { fresh = a; unread = fit }
read_client w (suc f) g bytes a fit =
    by (unit_scan (awaits (after g w).conn) bytes) (unit_found (awaits (after g w).conn) bytes fit)
    (λ u n t. read_client w f (settle w (Queued u ∷ g)) (drop n bytes) (settle_fit w (Queued u ∷ g) (t, a)) (IsBytes-drop n bytes fit))
  where
    by : (x : Scan Unit91 ℕ) → IsFound x → ((u : Unit91) (n : ℕ) → AreBytes u → IsCutFit (read_end Client w f (settle w (Queued u ∷ g)) (drop n bytes)))
        → IsCutFit (on_scan (as_step Queued unit.Bad x) (cut_of g bytes) (λ s. cut_of (settle w (s ∷ g)) []) (λ s n. read_end Client w f (settle w (s ∷ g)) (drop n bytes)))
    by More t rec = record { fresh = a; unread = fit }
    by (Bad code) t rec = record { fresh = settle_fit w (Queued (unit.Bad code) ∷ g) (tt, a); unread = no_bytes }
    by (Whole u n) t rec = rec u n t

cut_client : (w : State) (bytes : List ℕ) → IsBytes bytes → IsCutFit (cut_all Client w bytes)
cut_client w bytes fit = read_client w (length bytes) (settle w []) bytes (settle_fit w [] tt) fit

read_up : (w : State) (f : ℕ) (g : List Step) (bytes : List ℕ) → AreFit g → AreFit (read_end Up w f g bytes).fresh
read_up w zero g bytes a = a
read_up w (suc f) g bytes a =
    by (up_scan (awaited_of (after g w).up.container) bytes) (λ u n. read_up w f (Heard u ∷ g) (drop n bytes) (tt, a))
  where
    by : (x : Scan Unit10 Condition) → ((u : Unit10) (n : ℕ) → AreFit (read_end Up w f (Heard u ∷ g) (drop n bytes)).fresh)
        → AreFit (on_scan (as_step Heard unit_10.Bad x) (cut_of g bytes) (λ s. cut_of (s ∷ g) []) (λ s n. read_end Up w f (s ∷ g) (drop n bytes))).fresh
    by More rec = a
    by (Bad why) rec = (tt, a)
    by (Whole u n) rec = rec u n

-- ---- the steps of other entries

given_fit : (w : State) (o : Option Outgoing) → AreFit (given w o)
given_fit w None = tt
given_fit w (Some u) = (tt, tt)

begins_fit : (end : End) (w : State) → AreFit (begins end w)
begins_fit end w = by (is_busy w end)
  where
    by : (b : Bool) → AreFit (if b then [] else given w (pick w end))
    by true = tt
    by false = given_fit w (pick w end)

ends_fit : (end : End) (n : ℕ) (bytes : List ℕ) → AreFit (ends end n bytes)
ends_fit end n bytes = by (nat_lt n (length bytes))
  where
    by : (b : Bool) → AreFit (if b then [] else state.Whole end ∷ [])
    by true = tt
    by false = (tt, tt)

given_up_fit : (end : End) (w : State) → AreFit (given_up end w)
given_up_fit end w = by (is_silent w end)
  where
    by : (b : Bool) → AreFit (if b then Silent end ∷ [] else [])
    by true = (tt, tt)
    by false = tt

leaves_fit : (w : State) → AreFit (leaves w)
leaves_fit w = by (can_leave w)
  where
    by : (b : Bool) → AreFit (if b then TakenUp ∷ [] else [])
    by true = (tt, tt)
    by false = tt

record IsToldFit (t : Told) : Type 0 where
  fresh : AreFit t.fresh
  past : AreFit t.past
  unread : IsBytes t.client.unread

-- all of them
all_fit : (t : Told) → IsToldFit t → AreFit (t.fresh ++ t.past)
all_fit t f = all_both IsFit t.fresh t.past f.fresh f.past

told_fit : (s : SetupText) (h : List Entry) → AreRoutes s.routes → AreRead h → IsToldFit (told s h)
told_fit s [] routes r = record { fresh = tt; past = tt; unread = no_bytes }
told_fit s (entry.Began p ms ∷ h) routes r =
    let f = told_fit s h routes r in record { fresh = tt; past = (routes, all_fit (told s h) f); unread = f.unread }
told_fit s (entry.Refused ∷ h) routes r = let f = told_fit s h routes r in record { fresh = tt; past = (tt, all_fit (told s h) f); unread = f.unread }
told_fit s (entry.Moment ms ∷ h) routes r =
    let f = told_fit s h routes r in
    let old : List Step = state.Moment ms ∷ steps_of s h in
    let silent : List Step = given_up Client (before old) in
    record {
      fresh = tt;
      past = all_both IsFit (given_up Up (before (silent ++ old))) (silent ++ old) (given_up_fit Up (before (silent ++ old)))
          (all_both IsFit silent old (given_up_fit Client (before old)) (tt, all_fit (told s h) f));
      unread = f.unread;
    }
told_fit s (entry.Came Client bytes ∷ h) routes r =
    let f = told_fit s h routes r.1 in
    let c = cut_client (before (Fed Client ∷ steps_of s h)) ((told s h).client.unread ++ bytes) (IsBytes-append (told s h).client.unread bytes f.unread r.0) in
    record { fresh = c.fresh; past = (tt, all_fit (told s h) f); unread = c.unread }
told_fit s (entry.Came Up bytes ∷ h) routes r =
    let f = told_fit s h routes r.1 in
    let all : List ℕ = (told s h).up.unread ++ bytes in
    record { fresh = read_up (before (Fed Up ∷ steps_of s h)) (length all) [] all tt; past = (tt, all_fit (told s h) f); unread = f.unread }
told_fit s (entry.Dry end ∷ h) routes r = let f = told_fit s h routes r in record { fresh = tt; past = all_fit (told s h) f; unread = f.unread }
told_fit s (entry.Settled ∷ h) routes r =
    let f = told_fit s h routes r in
    let old : List Step = state.LinesTold ∷ steps_of s h in
    let g : List Step = settle (before old) [] in
    record {
      fresh = all_both IsFit (leaves (before (g ++ old))) g (leaves_fit (before (g ++ old))) (settle_fit (before old) [] tt);
      past = (tt, all_fit (told s h) f);
      unread = f.unread;
    }
told_fit s (entry.Joined answer ∷ h) routes r = let f = told_fit s h routes r in record { fresh = tt; past = (tt, all_fit (told s h) f); unread = f.unread }
told_fit s (entry.Took Client bytes n ∷ h) routes r =
    let f = told_fit s h routes r in
    let w : State = before (steps_of s h) in
    record {
      fresh = tt;
      past = all_both IsFit (ends Client n bytes ++ begins Client w) (steps_of s h) (all_both IsFit (ends Client n bytes) (begins Client w) (ends_fit Client n bytes) (begins_fit Client w))
          (all_fit (told s h) f);
      unread = f.unread;
    }
told_fit s (entry.Took Up bytes n ∷ h) routes r =
    let f = told_fit s h routes r in
    let w : State = before (steps_of s h) in
    record {
      fresh = tt;
      past = all_both IsFit (ends Up n bytes ++ begins Up w) (steps_of s h) (all_both IsFit (ends Up n bytes) (begins Up w) (ends_fit Up n bytes) (begins_fit Up w)) (all_fit (told s h) f);
      unread = f.unread;
    }
told_fit s (entry.Stuck end bytes ∷ h) routes r = let f = told_fit s h routes r in record { fresh = tt; past = all_fit (told s h) f; unread = f.unread }
told_fit s (entry.Lost end how ∷ h) routes r = let f = told_fit s h routes r in record { fresh = tt; past = (tt, all_fit (told s h) f); unread = f.unread }
told_fit s (entry.OutOfMemory cut ∷ h) routes r =
    let f = told_fit s h routes r in
    let g : List Step = state.LinesTold ∷ (told s h).fresh in
    record {
      fresh = tt;
      past = (tt, all_both IsFit (drop cut g) (told s h).past (drop_fit cut g (tt, f.fresh)) f.past);
      unread = no_bytes;
    }
told_fit s (entry.Over ∷ h) routes r = let f = told_fit s h routes r in record { fresh = tt; past = all_fit (told s h) f; unread = f.unread }

-- ---- what is taken up

abbrev AreAll : List Unit91 → Type 0
AreAll us = AllByRecursion AreBytes us

same_all : (us vs : List Unit91) → vs ≡ us → AreAll us → AreAll vs
same_all us vs e a = subst AreAll (sym e) a

removed_all : (i : ℕ) (us : List Unit91) → AreAll us → AreAll (removed i us)
removed_all i [] a = a
removed_all zero (u ∷ us) a = a.1
removed_all (suc i) (u ∷ us) a = (a.0, removed_all i us a.1)

without_all : (o : Option ℕ) (us : List Unit91) → AreAll us → AreAll (without_at o us)
without_all None us a = a
without_all (Some i) us a = removed_all i us a

queued_all : (b : Bool) (w : State) (u : Unit91) → AreBytes u → AreAll w.queue → AreAll (if b then w else record w { queue = w.queue ++ u ∷ [] }).queue
queued_all true w u fit a = a
queued_all false w u fit a = all_both AreBytes w.queue (u ∷ []) a (fit, tt)

came_all : (b : Bool) (w : State) (u : Unit91) → AreAll w.queue → AreAll (if b then w else came (dequeued w) u).queue
came_all true w u a = a
came_all false w u a = without_all (place w) w.queue a

taken_queue : (b : Bool) (w : State) → (if b then left w else w).queue ≡ w.queue
taken_queue true w = refl
taken_queue false w = refl

-- the units that wait are bytes
queue_all : (h : List Step) → AreFit h → AreAll (before h).queue
queue_all [] f = tt
queue_all (Began site n ms ∷ h) f = queue_all h f.1
queue_all (Fed Client ∷ h) f = queue_all h f.1
queue_all (Silent Client ∷ h) f = tt
queue_all (Silent Up ∷ h) f = same_all _ _ (rests_fail _ _ _).queue (queue_all h f.1)
queue_all (Queued u ∷ h) f = queued_all _ (before h) u f.0 (queue_all h f.1)
queue_all (Came u ∷ h) f = came_all _ (before h) u (queue_all h f.1)
queue_all (TakenUp ∷ h) f = same_all _ _ (taken_queue _ (before h)) (queue_all h f.1)
queue_all (Heard u ∷ h) f = same_all _ _ (rests_heard (before h) u).queue (queue_all h f.1)
queue_all (Joined link.Failed ∷ h) f = same_all _ _ (rests_fail _ None _).queue (queue_all h f.1)
queue_all (Lost Client loss.Ended ∷ h) f = queue_all h f.1
queue_all (Lost Up loss.Ended ∷ h) f = same_all _ _ (rests_fail _ None _).queue (queue_all h f.1)
queue_all (Lost Up loss.Failed ∷ h) f = same_all _ _ (rests_fail _ None _).queue (queue_all h f.1)
queue_all (Gave (ToClient u) text ∷ h) f = queue_all h f.1
queue_all (state.Whole Client ∷ h) f = queue_all h f.1
queue_all (OutOfMemory ∷ h) f = tt
queue_all (s ∷ h) f = queue_all h f.1

at_place : (i : ℕ) (us : List Unit91) (u : Unit91) → AreAll us → slice_get us i ≡ Some u → AreBytes u
at_place i [] u a e = absurd cc
at_place zero (v ∷ us) u a e = let same : v ≡ u = cc in subst AreBytes same a.0
at_place (suc i) (v ∷ us) u a e = at_place i us u a.1 e

next_bytes : (w : State) (u : Unit91) → AreAll w.queue → next_unit w ≡ Some u → AreBytes u
next_bytes w u a e = by (place w) e
  where
    by : (o : Option ℕ) → unit_at o w.queue ≡ Some u → AreBytes u
    by None f = absurd cc
    by (Some i) f = at_place i w.queue u a f

given_by : (h : List Step) → ArePicks h → AreFit h → AreGiven h
given_by [] p f = tt
given_by (Began site n ms ∷ h) p f = (f.0, given_by h p.1 f.1)
given_by (Came u ∷ h) p f = (next_bytes (before h) u (queue_all h f.1) p.0, given_by h p.1 f.1)
given_by (s ∷ h) p f = given_by h p.1 f.1

pub are_given : (s : SetupText) (w : RelayWords) (c : Limits) (m : History) (p : ℕ) → IsInForm s → Follows w c m → ArePicks (steps_of s (journal p m)) → AreGiven (steps_of s (journal p m))
are_given s w c m p form f picks =
    let fit = told_fit s (journal p m) form.routes (are_read w c m f p) in
    given_by (steps_of s (journal p m)) picks (all_fit (told s (journal p m)) fit)
