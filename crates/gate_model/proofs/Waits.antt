-- What ends a client's connection waits for the upstream end, and connection.open-ok for the container's open.
use Rattle.std.proofs.Common.{◌≡◌, ℕ, Bool, true, false, not, ◌&&◌, ◌||◌, if◌then◌else◌, List, []}
use Rattle.std.proofs.Common.{◌∷◌, Option, None, Some, refl, sym, ap, ◌∙◌, subst}
use Rattle.gate_outside.specs.declared.ports.End.TheVariants.{Client, Up}
use Rattle.gate_outside.specs.declared.ports.Linked.TheVariants as link
use Rattle.gate_relay.specs.Sides.{is_readable}
use Rattle.gate_relay.specs.declared.loss.Loss.TheVariants as loss
use Rattle.machine_091.specs.State.{is_closing}
use Rattle.machine_091.specs.declared.state.Phase91.{Phase91}
use Rattle.machine_091.specs.declared.state.Phase91.TheVariants as phase
use Rattle.machine_091.specs.declared.unit.Refusal.{Refusal}
use Rattle.machine_091.specs.declared.unit.Unit91.{Unit91}
use Rattle.machine_091.specs.declared.unit.Want91.{Want91}
use Rattle.machine_091.specs.declared.unit.Want91.TheVariants as want
use Rattle.machine_10.specs.Parts.{Parts}
use Rattle.machine_10.specs.Transitions as ten
use Rattle.machine_10.specs.Transitions.{Meaning}
use Rattle.machine_10.specs.declared.state.Upstream.{Upstream}
use Rattle.machine_10.specs.declared.unit.Unit10.{Unit10}
use Rattle.performatives_10.specs.declared.condition.Condition.{Condition}
use Rattle.gate_model.specs.Lives.{is_of_channel}
use Rattle.gate_model.specs.declared.outgoing.Outgoing.TheVariants.{ToClient}
use Rattle.gate_model.specs.declared.reply.Pending.{Pending}
use Rattle.gate_model.specs.declared.reply.Reply.{Reply}
use Rattle.gate_model.specs.declared.reply.Reply.TheVariants as reply
use Rattle.gate_model.specs.Due.{may_go, rows}
use Rattle.gate_model.specs.Folds.{container, is_answer, ran_out_in}
use Rattle.gate_model.specs.Picks.{ArePicks}
use Rattle.gate_model.specs.Requests.{client_step}
use Rattle.gate_model.specs.State.{Began, Came, Fed, Gave, Heard, Joined, Lost, OutOfMemory}
use Rattle.gate_model.specs.State.{Queued, Silent, State, Step, TakenUp, Whole, before, came}
use Rattle.gate_model.specs.State.{dequeued, fail, failed, heard, is_settled, last_pending, left, sessions_lost}
use Rattle.gate_model.specs.State.{turns_foreign, windowed, with_header, with_meaning, with_session, with_want, without}
use Rattle.gate_model.specs.Upstream.{first, has_closed, heard_up, is_closed_stream, meaning_by, stream_in}
use Rattle.gate_model.specs.Waiting.{EndsWhenSettled, OpensWhenOpened, Settled, RanOut, NotOpen}
use Rattle.gate_model.specs.Waiting.{HasClosed, is_ending, is_opened, opened_in, GivenUp}
use Rattle.gate_model.proofs.Basics.{or_left, or_true}
use Rattle.gate_model.proofs.Connections.{clash}
use Rattle.gate_model.proofs.Known.{Known, container_is, known, memory_is, side_is, silent_is}
use Rattle.gate_model.proofs.Sessions.{session_cases}
use Rattle.gate_model.proofs.Said.{Beats, IsDue, OnChannel, Picked, calm_now, of_channel, picked}

-- ---- what ends the connection

abbrev pending_of : (protocol start tune open_ok ok : Bool) (close : Option Refusal) (no_memory : Bool) → Pending
pending_of protocol start tune open_ok ok close no_memory =
    record { protocol = protocol; start = start; tune = tune; open_ok = open_ok; close_ok = ok; close = close; no_memory = no_memory }

no_ending : (it r : Reply) → is_ending it ≡ false → Some it ≡ Some r → is_ending r ≡ true → ⊥
no_ending it r isnt same e = let here : it ≡ r = cc in clash (is_ending it) (ap is_ending here ∙ e) isnt

ends_settled : (settled : Bool) (d : Pending) (r : Reply) → (settled ≡ false → d.no_memory ≡ false) → first (rows (may_go settled d)) ≡ Some r
    → is_ending r ≡ true → settled ≡ true
ends_settled settled d r calm e is = by settled d.protocol d.start d.tune d.open_ok d.close_ok d.close d.no_memory calm e
  where
    by : (settled protocol start tune open_ok ok : Bool) (close : Option Refusal) (wanting : Bool) → (settled ≡ false → wanting ≡ false)
        → first (rows (may_go settled (pending_of protocol start tune open_ok ok close wanting))) ≡ Some r → settled ≡ true
    by true protocol start tune open_ok ok close wanting calm same = refl
    by false true start tune open_ok ok close wanting calm same = absurd (no_ending reply.Protocol r refl same is)
    by false false true tune open_ok ok close wanting calm same = absurd (no_ending reply.Start r refl same is)
    by false false false true open_ok ok close wanting calm same = absurd (no_ending reply.Tune r refl same is)
    by false false false false true ok close wanting calm same = absurd (no_ending reply.OpenOk r refl same is)
    by false false false false false ok close true calm same = absurd (clash true refl (calm refl))
    by false false false false false ok close false calm same = absurd cc

-- what the state says of that, the folds say
pub settled_in : (h : List Step) → Known h → is_settled (before h) ≡ true → Settled h
settled_in h k e = by (before h).out_of_memory (is_readable (before h).up.side) (has_closed (before h).up) refl refl refl e
  where
    by : (m b c : Bool) → (before h).out_of_memory ≡ m → is_readable (before h).up.side ≡ b → has_closed (before h).up ≡ c
        → (m || (not b || (c || (before h).up.silent))) ≡ true → Settled h
    by true b c f g k' e = RanOut (sym (memory_is k) ∙ f)
    by false false c f g k' e = NotOpen (ap is_readable (sym (side_is k)) ∙ g)
    by false true true f g k' e = HasClosed (ap (λ (o : Option Upstream). is_closed_stream (stream_in o)) (sym (container_is k)) ∙ k')
    by false true false f g k' e = GivenUp (sym (silent_is k) ∙ e)

isnt_ending : (u : Reply) → is_answer u ≡ false → is_ending u ≡ false
isnt_ending reply.Heartbeat e = refl
isnt_ending (reply.ChannelOpenOk n) e = refl
isnt_ending (reply.OnChannel n u) e = refl
isnt_ending (reply.ChannelCloseOk n) e = refl
isnt_ending (reply.CrossedOk n) e = refl
isnt_ending (reply.ChannelClose n r) e = refl
isnt_ending x e = absurd cc

ends_picked : (h : List Step) (u : Reply) → ArePicks h → Picked (before h) u → is_ending u ≡ true → Settled h
ends_picked h u p (IsDue e) is = settled_in h (known h p) (ends_settled (is_settled (before h)) (before h).pending u (calm_now h p) e is)
ends_picked h u p (OnChannel o) is = absurd (clash (is_ending u) is (isnt_ending u (of_channel (before h) u o).answers))
ends_picked h u p (Beats none due same) is = absurd (clash (is_ending u) is (ap is_ending same))

pub ends_when_settled : (h : List Step) → ArePicks h → EndsWhenSettled h
ends_when_settled [] p = tt
ends_when_settled (Gave (ToClient u) text ∷ h) p = (ends_picked h u p.1 (picked (before h) u p.0.1), ends_when_settled h p.1)
ends_when_settled (s ∷ h) p = ends_when_settled h p.1

-- ---- connection.open-ok

open_ok_after : (b : Bool) (w : Want91) (d : Pending) → (with_header b (with_want w d)).open_ok ≡ d.open_ok
open_ok_after b (want.Refuse r) d = by (is_of_channel r)
  where
    by : (x : Bool) → (with_header b (if x then d else record d { close = Some r })).open_ok ≡ d.open_ok
    by true = refl
    by false = refl
open_ok_after b x d = refl

open_ok_queued : (w : State) (us : List Unit91) → (if w.out_of_memory then w else record w { queue = us }).pending.open_ok ≡ w.pending.open_ok
open_ok_queued w us = by w.out_of_memory
  where
    by : (b : Bool) → (if b then w else record w { queue = us }).pending.open_ok ≡ w.pending.open_ok
    by true = refl
    by false = refl

open_ok_came : (w : State) (u : Unit91) → (if w.out_of_memory then w else came (dequeued w) u).pending.open_ok ≡ w.pending.open_ok
open_ok_came w u = by w.out_of_memory
  where
    by : (b : Bool) → (if b then w else came (dequeued w) u).pending.open_ok ≡ w.pending.open_ok
    by true = refl
    by false = open_ok_after (turns_foreign w.routes w.paths w.conn u) (client_step w.routes w.paths w.conn u).1 w.pending

open_ok_taken : (w : State) (b : Bool) → (if b then left w else w).pending.open_ok ≡ w.pending.open_ok
open_ok_taken w true = refl
open_ok_taken w false = refl

open_ok_fail : (code : ℕ) (why : Option Condition) (w : State) → (fail code why w).pending.open_ok ≡ w.pending.open_ok
open_ok_fail code why w = by (is_closing w.conn)
  where
    by : (b : Bool) → (if b then sessions_lost w else failed code why w).pending.open_ok ≡ w.pending.open_ok
    by true = refl
    by false = refl

open_ok_session : (g : ℕ) (p : Parts) (payload : List ℕ) (w : State) → (with_session g p payload w).pending.open_ok ≡ w.pending.open_ok
open_ok_session g p payload w = session_cases (λ (v : State). v.pending.open_ok ≡ w.pending.open_ok) g p payload w (record {
  begins = refl;
  stays = refl;
  ends = λ code why. refl;
  parts = refl;
  drops = λ code why. refl;
  fails = λ why. open_ok_fail _ why (windowed g p w);
})

open_ok_meaning : (m : Meaning) (w : State) → (with_meaning m w).pending.open_ok ≡ true → (w.pending.open_ok || is_opened m) ≡ true
open_ok_meaning m w e = by m e
  where
    by : (m : Meaning) → (with_meaning m w).pending.open_ok ≡ true → (w.pending.open_ok || is_opened m) ≡ true
    by ten.Nothing e = or_left _ _ e
    by ten.Init e = or_left _ _ e
    by ten.AmqpHeader e = or_left _ _ e
    by ten.Opened e = sym (or_true w.pending.open_ok)
    by (ten.OfSession g p payload) e = or_left _ _ (sym (open_ok_session g p payload w) ∙ e)
    by (ten.Closed x) e = or_left _ _ (sym (open_ok_fail _ None w) ∙ e)
    by ten.Refused e = or_left _ _ (sym (open_ok_fail _ None w) ∙ e)
    by (ten.Violation c) e = or_left _ _ (sym (open_ok_fail _ (Some c) w) ∙ e)

or_case : (a b c : Bool) → (a ≡ true → c ≡ true) → (a || b) ≡ true → (c || b) ≡ true
or_case true b true f e = refl
or_case true b false f e = absurd (clash false (f refl) refl)
or_case false b true f e = refl
or_case false b false f e = e

open_ok_heard : (w : State) (u : Unit10) (b : Bool) (o : Option Upstream) (opened : Bool) → w.out_of_memory ≡ b → w.up.container ≡ o
    → (w.pending.open_ok ≡ true → opened ≡ true) → (if w.out_of_memory then w else heard w u).pending.open_ok ≡ true
    → (opened || (not b && is_opened (meaning_by o u))) ≡ true
open_ok_heard w u b o opened m c f e =
    by b (subst (λ (x : Bool). (if x then w else heard w u).pending.open_ok ≡ true) m e)
  where
    by : (b : Bool) → (if b then w else heard w u).pending.open_ok ≡ true → (opened || (not b && is_opened (meaning_by o u))) ≡ true
    by true e = or_case (w.pending.open_ok) false opened f (ap (λ (x : Bool). x || false) e)
    by false e =
        or_case w.pending.open_ok (is_opened (meaning_by o u)) opened f
        (subst (λ (x : Option Upstream). (w.pending.open_ok || is_opened (meaning_by x u)) ≡ true) c
        (open_ok_meaning (meaning_by w.up.container u) (record w { up = heard_up u w.up }) e))

open_ok_gone : (r : Reply) (d : Pending) → (without r d).open_ok ≡ true → d.open_ok ≡ true
open_ok_gone reply.OpenOk d e = absurd cc
open_ok_gone x d e = e

open_ok_last : (p : Phase91) (d : Pending) → (last_pending p d).open_ok ≡ false
open_ok_last phase.Header d = refl
open_ok_last x d = refl

-- one that is due was called for by the container's open
open_ok_opened : (h : List Step) → ArePicks h → (before h).pending.open_ok ≡ true → opened_in h ≡ true
open_ok_opened [] p e = absurd cc
open_ok_opened (Began site n ms ∷ h) p e =
    let none : (before (Began site n ms ∷ [])).pending.open_ok ≡ true = subst (λ (x : List Step). (before (Began site n ms ∷ x)).pending.open_ok ≡ true) p.0 e in absurd cc
open_ok_opened (Fed Client ∷ h) p e = open_ok_opened h p.1 e
open_ok_opened (Silent Up ∷ h) p e = open_ok_opened h p.1 (sym (open_ok_fail _ _ _) ∙ e)
open_ok_opened (Queued u ∷ h) p e = open_ok_opened h p.1 (sym (open_ok_queued (before h) _) ∙ e)
open_ok_opened (Came u ∷ h) p e = open_ok_opened h p.1 (sym (open_ok_came (before h) u) ∙ e)
open_ok_opened (TakenUp ∷ h) p e = open_ok_opened h p.1 (sym (open_ok_taken (before h) _) ∙ e)
open_ok_opened (Heard u ∷ h) p e =
    let k : Known h = known h p.1 in
    open_ok_heard (before h) u (ran_out_in h) (container h) (opened_in h) (memory_is k) (container_is k) (open_ok_opened h p.1) e
open_ok_opened (Joined link.Failed ∷ h) p e = open_ok_opened h p.1 (sym (open_ok_fail _ None _) ∙ e)
open_ok_opened (Lost Client loss.Ended ∷ h) p e = open_ok_opened h p.1 e
open_ok_opened (Lost Up loss.Ended ∷ h) p e = open_ok_opened h p.1 (sym (open_ok_fail _ None _) ∙ e)
open_ok_opened (Lost Up loss.Failed ∷ h) p e = open_ok_opened h p.1 (sym (open_ok_fail _ None _) ∙ e)
open_ok_opened (Gave (ToClient u) text ∷ h) p e = open_ok_opened h p.1 (open_ok_gone u (before h).pending e)
open_ok_opened (Whole Client ∷ h) p e = open_ok_opened h p.1 e
open_ok_opened (OutOfMemory ∷ h) p e = absurd (clash _ e (open_ok_last (before h).conn.phase (before h).pending))
open_ok_opened (s ∷ h) p e = open_ok_opened h p.1 e

abbrev is_open_ok : Reply → Bool
is_open_ok reply.OpenOk = true
is_open_ok x = false

is_other : (it : Reply) → is_open_ok it ≡ false → Some it ≡ Some reply.OpenOk → ⊥
is_other it isnt same = let here : it ≡ reply.OpenOk = cc in clash (is_open_ok it) (ap is_open_ok here) isnt

open_ok_first : (settled : Bool) (d : Pending) → first (rows (may_go settled d)) ≡ Some reply.OpenOk → d.open_ok ≡ true
open_ok_first settled d e = by settled d.protocol d.start d.tune d.open_ok d.close_ok d.close d.no_memory e
  where
    by : (settled protocol start tune open_ok ok : Bool) (close : Option Refusal) (wanting : Bool)
        → first (rows (may_go settled (pending_of protocol start tune open_ok ok close wanting))) ≡ Some reply.OpenOk → open_ok ≡ true
    by settled protocol start tune true ok close wanting same = refl
    by true true start tune false ok close wanting same = absurd (is_other reply.Protocol refl same)
    by true false true tune false ok close wanting same = absurd (is_other reply.Start refl same)
    by true false false true false ok close wanting same = absurd (is_other reply.Tune refl same)
    by true false false false false true close wanting same = absurd (is_other reply.CloseOk refl same)
    by true false false false false false (Some r) wanting same = absurd (is_other (reply.Close r) refl same)
    by true false false false false false None true same = absurd (is_other reply.NoMemory refl same)
    by true false false false false false None false same = absurd cc
    by false true start tune false ok close wanting same = absurd (is_other reply.Protocol refl same)
    by false false true tune false ok close wanting same = absurd (is_other reply.Start refl same)
    by false false false true false ok close wanting same = absurd (is_other reply.Tune refl same)
    by false false false false false ok close true same = absurd (is_other reply.NoMemory refl same)
    by false false false false false ok close false same = absurd cc

opens_picked : (h : List Step) → ArePicks h → Picked (before h) reply.OpenOk → opened_in h ≡ true
opens_picked h p (IsDue e) = open_ok_opened h p (open_ok_first (is_settled (before h)) (before h).pending e)
opens_picked h p (OnChannel o) = absurd (clash true refl (of_channel (before h) reply.OpenOk o).answers)
opens_picked h p (Beats none due same) = absurd cc

opens_given : (h : List Step) (u : Reply) (text : List ℕ) → ArePicks h → Picked (before h) u → OpensWhenOpened h → OpensWhenOpened (Gave (ToClient u) text ∷ h)
opens_given h reply.OpenOk text p f o = (opens_picked h p f, o)
opens_given h x text p f o = o

pub opens_when_opened : (h : List Step) → ArePicks h → OpensWhenOpened h
opens_when_opened [] p = tt
opens_when_opened (Gave (ToClient u) text ∷ h) p = opens_given h u text p.1 (picked (before h) u p.0.1) (opens_when_opened h p.1)
opens_when_opened (s ∷ h) p = opens_when_opened h p.1
