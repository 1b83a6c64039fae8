-- Heartbeats and shuts are due exactly when the folds say so.
use Rattle.std.proofs.Common.{◌≡◌, ℕ, zero, suc, ◌+◌, ◌-◌, ◌*◌, ◌==◌, ◌<◌, ◌≤◌, nat_le, Bool, true}
use Rattle.std.proofs.Common.{false, not, ◌&&◌, ◌||◌, if◌then◌else◌, List, [], ◌∷◌, ◌++◌, Option}
use Rattle.std.proofs.Common.{None, Some, append-nil, refl, sym, ap, ◌∙◌, subst, arith}
use Rattle.std.specs.Prelude.{is_some, map}
use Rattle.std.specs.List.{list_any}
use Rattle.std.specs.Option.{option_map, option_to_list}
use Rattle.std.proofs.lemmas.Bool.Decides.{nat_tests}
use Rattle.std.proofs.lemmas.List.Folds.{list_any-append}
use Rattle.gate_outside.specs.declared.ports.End.TheVariants.{Client, Up}
use Rattle.gate_outside.specs.declared.ports.Linked.TheVariants as link
use Rattle.gate_relay.specs.declared.loss.Loss.TheVariants as loss
use Rattle.machine_10.specs.Transitions as ten
use Rattle.machine_10.specs.Transitions.{Meaning}
use Rattle.performatives_10.specs.declared.condition.Condition.{Condition}
use Rattle.machine_091.specs.State.{is_closing, is_opening, is_over, is_over_stream}
use Rattle.machine_091.specs.declared.state.Connection.{Connection}
use Rattle.machine_091.specs.declared.state.Stream91.{Stream91}
use Rattle.machine_091.specs.declared.state.Stream91.TheVariants as stream
use Rattle.gate_model.specs.declared.reply.Reply.{Reply}
use Rattle.gate_model.specs.declared.reply.Reply.TheVariants as reply
use Rattle.gate_model.specs.declared.reply.SentLast.{SentLast}
use Rattle.gate_model.specs.declared.timers.TheConstants.{BEAT_PER_SECOND, CLOSING_LIMIT, HANDSHAKE_LIMIT}
use Rattle.gate_model.specs.Answers.{is_close_ok}
use Rattle.gate_model.specs.Due.{is_bad, is_beat_by, is_beat_due, is_busy, is_overdue, is_shut_due, is_unheard, pick, when}
use Rattle.gate_model.specs.Upstream.{first, heard_up, meaning_by}
use Rattle.gate_model.specs.declared.outgoing.Outgoing.TheVariants.{ToClient}
use Rattle.gate_model.specs.Folds.{accepted_in, closed_in, connection, failed_in, moment_in, sent, sent_at}
use Rattle.gate_model.specs.Picks.{ArePicks}
use Rattle.gate_model.specs.State.{Began, Came, Fed, Gave, Heard, Joined, Lost, Queued, Silent, State, Step, TakenUp, Whole, before, came}
use Rattle.gate_model.specs.State.{dequeued, fail, failed, has_left, heard, is_limit_reached, sessions_lost}
use Rattle.gate_model.specs.State.{is_settled, left, new_state, opened, runs, windowed, with_last, with_meaning}
use Rattle.gate_model.specs.Times.{BeatsAtOnce, BeatsWhenDue, IsLate, LateCloses, MayBeat, ShutFor}
use Rattle.gate_model.specs.Times.{Failed, Left, Answered, Greeted, Closed, ClosedBad, ClosedLast}
use Rattle.gate_model.specs.Times.{Unheard, NotOpened, Overdue, ShutsAtOnce, is_any_close, is_protocol, sent_whole}
use Rattle.gate_model.proofs.Basics.{and_both, and_left, and_right, or_false, or_left, or_one, or_right, or_true}
use Rattle.gate_model.proofs.Connections.{clash}
use Rattle.gate_model.proofs.Known.{Known, accepted_is, closed_is, conn_is, known, memory_is, moment_is}
use Rattle.gate_model.proofs.Sessions.{session_cases}
use Rattle.gate_model.proofs.Said.{Beats, IsDue, OnChannel, Picked, calm_now, first_due, of_channel, picked}
use Rattle.gate_model.specs.Setup.{SiteText}

-- ---- what was sent

pub record Part : Type 0 where
  pub going : Option Reply
  pub last : SentLast
  pub at : ℕ
  pub broken : Bool

abbrev part : State → Part
part w = record { going = w.in_progress; last = w.sent_last; at = w.last_sent_at; broken = w.failed }

pub record SendsIn (p : Part) (all whole : List Reply) (at : ℕ) (broken : Bool) : Type 0 where
  pub going_is : all ≡ whole ++ option_to_list p.going
  pub protocol_is : p.last.protocol ≡ list_any is_protocol whole
  pub close_ok_is : p.last.close_ok ≡ list_any is_close_ok whole
  pub close_is : p.last.close ≡ list_any is_any_close whole
  pub at_is : p.at ≡ at
  pub broken_is : p.broken ≡ broken

abbrev pub Sends : List Step → Type 0
Sends h = SendsIn (part (before h)) (sent h) (sent_whole h) (sent_at h) (failed_in h)

free : (o : Option Reply) → is_some (option_map ToClient o) ≡ false → o ≡ None
free None e = refl
free (Some r) e = absurd cc

-- while none is in progress all were sent whole
pub all_whole : (h : List Step) → is_busy (before h) Client ≡ false → Sends h → sent h ≡ sent_whole h
all_whole h e s = s.going_is ∙ ap (λ (o : Option Reply). sent_whole h ++ option_to_list o) (free (before h).in_progress e) ∙ append-nil (sent_whole h)

is_protocol_after : (u : Reply) (s : SentLast) → (with_last (Some u) s).protocol ≡ (s.protocol || is_protocol u)
is_protocol_after reply.Protocol s = or_true s.protocol
is_protocol_after x s = or_false s.protocol

is_close_ok_after : (u : Reply) (s : SentLast) → (with_last (Some u) s).close_ok ≡ (s.close_ok || is_close_ok u)
is_close_ok_after reply.CloseOk s = or_true s.close_ok
is_close_ok_after x s = or_false s.close_ok

is_close_after : (u : Reply) (s : SentLast) → (with_last (Some u) s).close ≡ (s.close || is_any_close u)
is_close_after (reply.Close r) s = or_true s.close
is_close_after reply.NoMemory s = or_true s.close
is_close_after x s = or_false s.close

any_more : (test : Reply → Bool) (whole : List Reply) (u : Reply) (old new : Bool) → old ≡ list_any test whole → new ≡ (old || test u)
    → new ≡ list_any test (whole ++ u ∷ [])
any_more test whole u old new e f = f ∙ ap (λ x. x || test u) e ∙ sym (list_any-append test whole (u ∷ []) ∙ ap (λ x. list_any test whole || x) (or_one (test u)))

-- the last byte of the unit in progress
sends_whole : (o : Option Reply) (s : SentLast) (at ms : ℕ) (broken : Bool) (all whole : List Reply) (at' ms' : ℕ) (broken' : Bool) → is_some (option_map ToClient o) ≡ true → ms ≡ ms'
    → (let p : Part = record { going = o; last = s; at = at; broken = broken } in SendsIn p all whole at' broken')
    → let p : Part = record { going = None; last = with_last o s; at = ms; broken = broken } in SendsIn p all all ms' broken'
sends_whole None s at ms broken all whole at' ms' broken' e m k = absurd cc
sends_whole (Some u) s at ms broken all whole at' ms' broken' e m k = record {
  going_is = sym (append-nil all);
  protocol_is = any_more is_protocol whole u s.protocol _ k.protocol_is (is_protocol_after u s) ∙ ap (list_any is_protocol) (sym k.going_is);
  close_ok_is = any_more is_close_ok whole u s.close_ok _ k.close_ok_is (is_close_ok_after u s) ∙ ap (list_any is_close_ok) (sym k.going_is);
  close_is = any_more is_any_close whole u s.close _ k.close_is (is_close_after u s) ∙ ap (list_any is_any_close) (sym k.going_is);
  at_is = m;
  broken_is = k.broken_is;
}

sends_new : SendsIn (part (new_state (record { vhost = []; routes = [] }) 0 0)) [] [] 0 false
sends_new = record { going_is = refl; protocol_is = refl; close_ok_is = refl; close_is = refl; at_is = refl; broken_is = refl }

sends_began : (site : SiteText) (n ms : ℕ) → SendsIn (part (new_state site n ms)) [] [] ms false
sends_began site n ms = record { going_is = refl; protocol_is = refl; close_ok_is = refl; close_is = refl; at_is = refl; broken_is = refl }

part_came : (w v : State) (b : Bool) → part v ≡ part w → part (if b then w else v) ≡ part w
part_came w v true e = refl
part_came w v false e = e

part_left : (w v : State) (b : Bool) → part v ≡ part w → part (if b then v else w) ≡ part w
part_left w v true e = e
part_left w v false e = refl

part_fail : (code : ℕ) (why : Option Condition) (w : State) → part (fail code why w) ≡ part w
part_fail code why w = by (is_closing w.conn)
  where
    by : (b : Bool) → part (if b then sessions_lost w else failed code why w) ≡ part w
    by true = refl
    by false = refl

part_opened : (w : State) → part (opened w) ≡ part w
part_opened w = by (is_opening w.conn)
  where
    by : (b : Bool) → part (if b then runs w else w) ≡ part w
    by true = refl
    by false = refl

part_meaning : (m : Meaning) (w : State) → part (with_meaning m w) ≡ part w
part_meaning ten.Nothing w = refl
part_meaning ten.Init w = refl
part_meaning ten.AmqpHeader w = refl
part_meaning ten.Opened w = part_opened w
part_meaning (ten.OfSession g p payload) w = session_cases (λ (v : State). part v ≡ part w) g p payload w (record {
  begins = refl;
  stays = refl;
  ends = λ code why. refl;
  parts = refl;
  drops = λ code why. refl;
  fails = λ why. part_fail _ why (windowed g p w);
})
part_meaning (ten.Closed e) w = part_fail _ None w
part_meaning ten.Refused w = part_fail _ None w
part_meaning (ten.Violation c) w = part_fail _ (Some c) w

pub sends : (h : List Step) → ArePicks h → Sends h
sends [] p = sends_new
sends (Began site n ms ∷ h) p = subst (λ (x : List Step). Sends (Began site n ms ∷ x)) (sym p.0) (sends_began site n ms)
sends (Fed Client ∷ h) p = sends h p.1
sends (Silent Up ∷ h) p = subst (λ (x : Part). SendsIn x (sent h) (sent_whole h) (sent_at h) (failed_in h)) (sym (part_fail _ _ _)) (sends h p.1)
sends (Queued u ∷ h) p =
    subst (λ (x : Part). SendsIn x (sent h) (sent_whole h) (sent_at h) (failed_in h)) (sym (part_came (before h) (record (before h) { queue = (before h).queue ++ u ∷ [] }) (before h).out_of_memory refl)) (sends h p.1)
sends (Came u ∷ h) p =
    subst (λ (x : Part). SendsIn x (sent h) (sent_whole h) (sent_at h) (failed_in h)) (sym (part_came (before h) (came (dequeued (before h)) u) (before h).out_of_memory refl)) (sends h p.1)
sends (TakenUp ∷ h) p =
    subst (λ (x : Part). SendsIn x (sent h) (sent_whole h) (sent_at h) (failed_in h)) (sym (part_left (before h) (left (before h)) _ refl)) (sends h p.1)
sends (Heard u ∷ h) p =
    subst (λ (x : Part). SendsIn x (sent h) (sent_whole h) (sent_at h) (failed_in h))
    (sym (part_came (before h) (heard (before h) u) (before h).out_of_memory (part_meaning (meaning_by (before h).up.container u) (record (before h) { up = heard_up u (before h).up })))) (sends h p.1)
sends (Joined link.Failed ∷ h) p = subst (λ (x : Part). SendsIn x (sent h) (sent_whole h) (sent_at h) (failed_in h)) (sym (part_fail _ None _)) (sends h p.1)
sends (Lost Up loss.Ended ∷ h) p = subst (λ (x : Part). SendsIn x (sent h) (sent_whole h) (sent_at h) (failed_in h)) (sym (part_fail _ None _)) (sends h p.1)
sends (Lost Up loss.Failed ∷ h) p = subst (λ (x : Part). SendsIn x (sent h) (sent_whole h) (sent_at h) (failed_in h)) (sym (part_fail _ None _)) (sends h p.1)
sends (Lost Client loss.Failed ∷ h) p =
    let s : Sends h = sends h p.1 in
    record { going_is = s.going_is; protocol_is = s.protocol_is; close_ok_is = s.close_ok_is; close_is = s.close_is; at_is = s.at_is; broken_is = refl }
sends (Gave (ToClient u) text ∷ h) p =
    let s : Sends h = sends h p.1 in
    record {
      going_is = ap (λ (x : List Reply). x ++ u ∷ []) (all_whole h p.0.0 s);
      protocol_is = s.protocol_is;
      close_ok_is = s.close_ok_is;
      close_is = s.close_is;
      at_is = s.at_is;
      broken_is = s.broken_is;
    }
sends (Whole Client ∷ h) p =
    sends_whole (before h).in_progress (before h).sent_last (before h).last_sent_at (before h).moment (before h).failed (sent h) (sent_whole h) (sent_at h) (moment_in h) (failed_in h)
    p.0 (moment_is (known h p.1)) (sends h p.1)
sends (s ∷ h) p = sends h p.1

-- ---- heartbeats

record Beat (close_ok : Bool) (interval ms last : ℕ) : Type 0 where
  agreed : 0 < interval
  quiet : last + BEAT_PER_SECOND * interval ≤ ms
  unclosed : close_ok ≡ false

beat_quiet : (n ms last : ℕ) → nat_le (500 * suc n) (ms - last) ≡ true → last + 500 * suc n ≤ ms
beat_quiet n ms last e = grind (arith, nat_tests)

beat_by : (close_ok : Bool) (interval ms last : ℕ) → is_beat_by close_ok interval ms last ≡ true → Beat close_ok interval ms last
beat_by true interval ms last e = absurd cc
beat_by false zero ms last e = absurd cc
beat_by false (suc n) ms last e = record {
  agreed = omega arith;
  quiet = beat_quiet n ms last (and_right (not (suc n == 0)) _ e);
  unclosed = refl;
}

beats_by : (close_ok : Bool) (interval ms last : ℕ) → Beat close_ok interval ms last → is_beat_by close_ok interval ms last ≡ true
beats_by true interval ms last b = absurd (clash true refl b.unclosed)
beats_by false interval ms last b =
    let some : (not (interval == 0)) ≡ true = grind (arith, nat_tests, b.agreed) in
    let long : nat_le (500 * interval) (ms - last) ≡ true = grind (arith, nat_tests, b.quiet) in
    and_both (not (interval == 0)) (nat_le (500 * interval) (ms - last)) some long

may_beat : (h : List Step) → ArePicks h → is_busy (before h) Client ≡ false → pick (before h) Client ≡ Some (ToClient reply.Heartbeat) → MayBeat h
may_beat h p f e = by (picked (before h) reply.Heartbeat e)
  where
    by : Picked (before h) reply.Heartbeat → MayBeat h
    by (IsDue x) = absurd (clash false (first_due (is_settled (before h)) (before h).pending reply.Heartbeat (calm_now h p) x).answers refl)
    by (OnChannel x) = absurd ((of_channel (before h) reply.Heartbeat x).beats refl)
    by (Beats none due same) =
        let w : State = before h in
        let k : Known h = known h p in
        let s : Sends h = sends h p in
        let b : Beat w.sent_last.close_ok w.conn.limits.heartbeat w.moment w.last_sent_at = beat_by _ _ _ _ due in
        record {
          agreed = subst (λ (c : Connection). 0 < c.limits.heartbeat) (conn_is k) b.agreed;
          quiet = subst (λ (n : ℕ). sent_at h + BEAT_PER_SECOND * (connection h).limits.heartbeat ≤ n) (moment_is k)
              (subst (λ (n : ℕ). n + BEAT_PER_SECOND * (connection h).limits.heartbeat ≤ w.moment) s.at_is
              (subst (λ (c : Connection). w.last_sent_at + BEAT_PER_SECOND * c.limits.heartbeat ≤ w.moment) (conn_is k) b.quiet));
          unclosed = ap (list_any is_close_ok) (all_whole h f s) ∙ sym s.close_ok_is ∙ b.unclosed;
          alone = none;
          free = f;
        }

beats_now : (h : List Step) → ArePicks h → MayBeat h → pick (before h) Client ≡ Some (ToClient reply.Heartbeat)
beats_now h p m =
    let w : State = before h in
    let k : Known h = known h p in
    let s : Sends h = sends h p in
    let b : Beat w.sent_last.close_ok w.conn.limits.heartbeat w.moment w.last_sent_at = record {
      agreed = subst (λ (c : Connection). 0 < c.limits.heartbeat) (sym (conn_is k)) m.agreed;
      quiet = subst (λ (c : Connection). w.last_sent_at + BEAT_PER_SECOND * c.limits.heartbeat ≤ w.moment) (sym (conn_is k))
          (subst (λ (n : ℕ). n + BEAT_PER_SECOND * (connection h).limits.heartbeat ≤ w.moment) (sym s.at_is)
          (subst (λ (n : ℕ). sent_at h + BEAT_PER_SECOND * (connection h).limits.heartbeat ≤ n) (sym (moment_is k)) m.quiet));
      unclosed = s.close_ok_is ∙ ap (list_any is_close_ok) (sym (all_whole h m.free s)) ∙ m.unclosed;
    } in
    ap (λ (x : List Reply). first (map ToClient (x ++ when (is_beat_due w) reply.Heartbeat))) m.alone
    ∙ ap (λ (x : Bool). first (map ToClient (when x reply.Heartbeat))) (beats_by _ _ _ _ b)

pub beats_at_once : (h : List Step) → ArePicks h → BeatsAtOnce h
beats_at_once h p f = (may_beat h p f, beats_now h p)

beats_given : (h : List Step) (u : Reply) (text : List ℕ) → ArePicks h → is_busy (before h) Client ≡ false → pick (before h) Client ≡ Some (ToClient u) → BeatsWhenDue h → BeatsWhenDue (Gave (ToClient u) text ∷ h)
beats_given h reply.Heartbeat text p f e b = (may_beat h p f e, b)
beats_given h x text p f e b = b

pub beats_when_due : (h : List Step) → ArePicks h → BeatsWhenDue h
beats_when_due [] p = tt
beats_when_due (Gave (ToClient u) text ∷ h) p = beats_given h u text p.1 p.0.0 p.0.1 (beats_when_due h p.1)
beats_when_due (s ∷ h) p = beats_when_due h p.1

-- ---- the limits of a connection

late_by : (asked : Bool) (a ms : ℕ) → (not asked && nat_le HANDSHAKE_LIMIT (ms - a)) ≡ true → (asked ≡ false) × (a + HANDSHAKE_LIMIT ≤ ms)
late_by true a ms e = absurd cc
late_by false a ms e = (refl, grind (arith, nat_tests))

late_then : (asked : Bool) (a ms : ℕ) → asked ≡ false → a + HANDSHAKE_LIMIT ≤ ms → (not asked && nat_le HANDSHAKE_LIMIT (ms - a)) ≡ true
late_then true a ms e f = absurd cc
late_then false a ms e f = grind (arith, nat_tests)

limit_is : (h : List Step) → Known h → (before h).late ≡ is_limit_reached (connection h) (accepted_in h) (moment_in h)
limit_is h k =
    k.sound.late_is ∙ ap (λ (c : Connection). is_limit_reached c (before h).accepted_at (before h).moment) (conn_is k)
    ∙ ap (λ (n : ℕ). is_limit_reached (connection h) n (before h).moment) (accepted_is k) ∙ ap (is_limit_reached (connection h) (accepted_in h)) (moment_is k)

is_late : (h : List Step) → Known h → (before h).late ≡ true → IsLate h
is_late h k e =
    let x = late_by (connection h).asked (accepted_in h) (moment_in h) (sym (limit_is h k) ∙ e) in
    record { unasked = x.0; late = x.1 }

late_is : (h : List Step) → Known h → IsLate h → (before h).late ≡ true
late_is h k l = limit_is h k ∙ late_then (connection h).asked (accepted_in h) (moment_in h) l.unasked l.late

pub late_closes : (h : List Step) → ArePicks h → LateCloses h
late_closes h p l = let k : Known h = known h p in ap is_closing (sym (conn_is k)) ∙ k.sound.late_closes (late_is h k l)

overdue_by : (h : List Step) (o : Option ℕ) (ms : ℕ) → o ≡ closed_in h → ms ≡ moment_in h → is_overdue o ms ≡ true → ShutFor h
overdue_by h None ms e m x = absurd cc
overdue_by h (Some at) ms e m x =
    let long : at + CLOSING_LIMIT ≤ ms = grind (arith, nat_tests) in
    Overdue at (sym e) (subst (λ (n : ℕ). at + CLOSING_LIMIT ≤ n) m long)

pub overdue_is : (h : List Step) (at : ℕ) (o : Option ℕ) (ms : ℕ) → o ≡ closed_in h → ms ≡ moment_in h → closed_in h ≡ Some at → at + CLOSING_LIMIT ≤ moment_in h → is_overdue o ms ≡ true
overdue_is h at o ms e m f le =
    let long : nat_le CLOSING_LIMIT (ms - at) ≡ true = grind (arith, nat_tests, m, le) in
    ap (λ (x : Option ℕ). is_overdue x ms) (e ∙ f) ∙ long

over_by : (h : List Step) (s : Stream91) → s ≡ (connection h).stream → is_over_stream s ≡ true → ShutFor h
over_by h stream.Answered e x = Answered (sym e)
over_by h stream.Ended e x = Left (ap has_left (sym e))
over_by h y e x = absurd cc

bad_by : (s : Stream91) → is_bad s ≡ true → s ≡ stream.Bad
bad_by stream.Bad x = refl
bad_by y x = absurd cc

left_over : (s : Stream91) → has_left s ≡ true → is_over_stream s ≡ true
left_over stream.Ended x = refl
left_over y x = absurd cc

pub data Either (a b : Bool) : Type 0 where
  OnLeft : a ≡ true → Either a b
  OnRight : b ≡ true → Either a b

pub either : (a b : Bool) → (a || b) ≡ true → Either a b
either true b e = OnLeft refl
either false b e = OnRight e

shut_for : (h : List Step) → ArePicks h → is_shut_due (before h) Client ≡ true → ShutFor h
shut_for h p e = one (either _ _ e)
  where
    w : State
    w = before h

    k : Known h
    k = known h p

    s : Sends h
    s = sends h p

    closed : Either (is_bad w.conn.stream) w.out_of_memory → w.sent_last.close ≡ true → ShutFor h
    closed (OnLeft x) y = ClosedBad (sym s.close_is ∙ y) (ap (λ (c : Connection). c.stream) (sym (conn_is k)) ∙ bad_by w.conn.stream x)
    closed (OnRight x) y = ClosedLast (sym s.close_is ∙ y) (sym (memory_is k) ∙ x)

    seven : Either (w.sent_last.close && (is_bad w.conn.stream || w.out_of_memory)) (w.out_of_memory && is_unheard w.conn.stream) → ShutFor h
    seven (OnLeft x) = closed (either _ _ (and_right w.sent_last.close _ x)) (and_left w.sent_last.close _ x)
    seven (OnRight x) = Unheard (sym (memory_is k) ∙ and_left w.out_of_memory _ x) (ap (λ (c : Connection). is_unheard c.stream) (sym (conn_is k)) ∙ and_right w.out_of_memory _ x)

    six : Either w.sent_last.close_ok ((w.sent_last.close && (is_bad w.conn.stream || w.out_of_memory)) || (w.out_of_memory && is_unheard w.conn.stream)) → ShutFor h
    six (OnLeft x) = Closed (sym s.close_ok_is ∙ x)
    six (OnRight x) = seven (either _ _ x)

    five : Either w.sent_last.protocol (w.sent_last.close_ok || ((w.sent_last.close && (is_bad w.conn.stream || w.out_of_memory)) || (w.out_of_memory && is_unheard w.conn.stream))) → ShutFor h
    five (OnLeft x) = Greeted (sym s.protocol_is ∙ x)
    five (OnRight x) = six (either _ _ x)

    four : Either (is_over w.conn) (w.sent_last.protocol || (w.sent_last.close_ok || ((w.sent_last.close && (is_bad w.conn.stream || w.out_of_memory)) || (w.out_of_memory && is_unheard w.conn.stream)))) → ShutFor h
    four (OnLeft x) = over_by h w.conn.stream (ap (λ (c : Connection). c.stream) (conn_is k)) x
    four (OnRight x) = five (either _ _ x)

    three : Either w.late (is_over w.conn || (w.sent_last.protocol || (w.sent_last.close_ok || ((w.sent_last.close && (is_bad w.conn.stream || w.out_of_memory)) || (w.out_of_memory && is_unheard w.conn.stream))))) → ShutFor h
    three (OnLeft x) = NotOpened (is_late h k x)
    three (OnRight x) = four (either _ _ x)

    two : Either (is_overdue w.closed_at w.moment) (w.late || (is_over w.conn || (w.sent_last.protocol || (w.sent_last.close_ok || ((w.sent_last.close && (is_bad w.conn.stream || w.out_of_memory)) || (w.out_of_memory && is_unheard w.conn.stream)))))) → ShutFor h
    two (OnLeft x) = overdue_by h w.closed_at w.moment (closed_is k) (moment_is k) x
    two (OnRight x) = three (either _ _ x)

    one : Either w.failed (is_overdue w.closed_at w.moment || (w.late || (is_over w.conn || (w.sent_last.protocol || (w.sent_last.close_ok || ((w.sent_last.close && (is_bad w.conn.stream || w.out_of_memory)) || (w.out_of_memory && is_unheard w.conn.stream))))))) → ShutFor h
    one (OnLeft x) = Failed (sym s.broken_is ∙ x)
    one (OnRight x) = two (either _ _ x)

shut_now : (h : List Step) → ArePicks h → ShutFor h → is_shut_due (before h) Client ≡ true
shut_now h p f = by f
  where
    w : State
    w = before h

    k : Known h
    k = known h p

    s : Sends h
    s = sends h p

    stream_is : w.conn.stream ≡ (connection h).stream
    stream_is = ap (λ (c : Connection). c.stream) (conn_is k)

    -- the places behind the first
    at_2 : is_overdue w.closed_at w.moment ≡ true → is_shut_due w Client ≡ true
    at_2 e = or_right w.failed _ (or_left _ _ e)

    at_3 : w.late ≡ true → is_shut_due w Client ≡ true
    at_3 e = or_right w.failed _ (or_right (is_overdue w.closed_at w.moment) _ (or_left _ _ e))

    at_4 : is_over w.conn ≡ true → is_shut_due w Client ≡ true
    at_4 e = or_right w.failed _ (or_right (is_overdue w.closed_at w.moment) _ (or_right w.late _ (or_left _ _ e)))

    at_5 : w.sent_last.protocol ≡ true → is_shut_due w Client ≡ true
    at_5 e = or_right w.failed _ (or_right (is_overdue w.closed_at w.moment) _ (or_right w.late _ (or_right (is_over w.conn) _ (or_left _ _ e))))

    at_6 : w.sent_last.close_ok ≡ true → is_shut_due w Client ≡ true
    at_6 e = or_right w.failed _ (or_right (is_overdue w.closed_at w.moment) _ (or_right w.late _ (or_right (is_over w.conn) _ (or_right w.sent_last.protocol _ (or_left _ _ e)))))

    behind : ((w.sent_last.close && (is_bad w.conn.stream || w.out_of_memory)) || (w.out_of_memory && is_unheard w.conn.stream)) ≡ true → is_shut_due w Client ≡ true
    behind e = or_right w.failed _ (or_right (is_overdue w.closed_at w.moment) _ (or_right w.late _ (or_right (is_over w.conn) _ (or_right w.sent_last.protocol _ (or_right w.sent_last.close_ok _ e)))))

    by : ShutFor h → is_shut_due w Client ≡ true
    by (Failed e) = or_left w.failed _ (s.broken_is ∙ e)
    by (Left e) = at_4 (left_over w.conn.stream (ap has_left stream_is ∙ e))
    by (Answered e) = at_4 (ap is_over_stream (stream_is ∙ e))
    by (Greeted e) = at_5 (s.protocol_is ∙ e)
    by (Closed e) = at_6 (s.close_ok_is ∙ e)
    by (ClosedBad e f) = behind (or_left _ _ (and_both w.sent_last.close _ (s.close_is ∙ e) (or_left _ _ (ap is_bad (stream_is ∙ f)))))
    by (ClosedLast e f) = behind (or_left _ _ (and_both w.sent_last.close _ (s.close_is ∙ e) (or_right (is_bad w.conn.stream) _ ((memory_is k) ∙ f))))
    by (Unheard e f) = behind (or_right (w.sent_last.close && (is_bad w.conn.stream || w.out_of_memory)) _ (and_both w.out_of_memory _ ((memory_is k) ∙ e) (ap is_unheard stream_is ∙ f)))
    by (NotOpened l) = at_3 (late_is h k l)
    by (Overdue at e f) = at_2 (overdue_is h at w.closed_at w.moment (closed_is k) (moment_is k) e f)

pub shuts_at_once : (h : List Step) → ArePicks h → ShutsAtOnce h
shuts_at_once h p = (shut_for h p, shut_now h p)
