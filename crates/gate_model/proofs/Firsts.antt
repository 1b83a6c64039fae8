-- What holds of the first of each row holds of the unit that goes: one of a channel's answers and confirms, or one of its session's
-- links, is the next of its kind.
use Rattle.gate_model.specs.declared.reply.Reason.{Reason}
use Rattle.std.proofs.Common.{◌≡◌, ℕ, zero, suc, ◌+◌, ◌<◌, length, not, ◌&&◌, ◌||◌, Bool, true, false}
use Rattle.std.proofs.Common.{if◌then◌else◌, List, [], ◌∷◌, ◌++◌, Option, None, Some, arith, refl, subst, sym, map}
use Rattle.std.specs.Prelude.{IfSome}
use Rattle.gate_outside.specs.declared.ports.End.TheVariants.{Client, Up}
use Rattle.gate_relay.specs.Sides.{is_readable}
use Rattle.machine_091.specs.State.{is_closing}
use Rattle.machine_091.specs.declared.unit.Refusal.{Refusal}
use Rattle.publish_path.specs.declared.publish.Confirm.{Confirm}
use Rattle.publish_path.specs.declared.publish.NextReturn.{NextReturn}
use Rattle.publish_path.specs.declared.publish.NextFrame.{NextFrame}
use Rattle.consume_path.specs.declared.delivery.NextSettle.{NextSettle}
use Rattle.session_path.specs.Due.{next_attach, next_confirm, next_content, next_deliver, next_detach, next_dispose}
use Rattle.session_path.specs.Due.{next_flow, next_frame, next_ok, next_return, next_settle}
use Rattle.session_path.specs.declared.path.AttachDue.{AttachDue}
use Rattle.session_path.specs.declared.path.ContentDue.{ContentDue}
use Rattle.session_path.specs.declared.path.DeliverDue.{DeliverDue}
use Rattle.session_path.specs.declared.path.FlowDue.{FlowDue}
use Rattle.session_path.specs.declared.path.PathLink.{PathLink}
use Rattle.session_path.specs.declared.path.PathOk.{PathOk}
use Rattle.session_path.specs.declared.path.Settling.{Settling}
use Rattle.gate_model.specs.declared.channel.ChannelUnit.{ChannelUnit}
use Rattle.gate_model.specs.declared.channel.ChannelUnit.TheVariants as to_client
use Rattle.gate_model.specs.declared.channel.SessionUnit.{SessionUnit}
use Rattle.gate_model.specs.declared.channel.SessionUnit.TheVariants as unit
use Rattle.gate_model.specs.declared.life.Life.{Life}
use Rattle.gate_model.specs.declared.outgoing.Outgoing.TheVariants.{ToClient, ToUp}
use Rattle.gate_model.specs.declared.outgoing.UpUnit.{UpUnit}
use Rattle.gate_model.specs.declared.outgoing.UpUnit.TheVariants as up
use Rattle.gate_model.specs.declared.reply.Pending.{Pending}
use Rattle.gate_model.specs.declared.reply.Reply.{Reply}
use Rattle.gate_model.specs.declared.reply.Reply.TheVariants as reply
use Rattle.gate_model.specs.Due.{answers, attaches, begins, carried_rows, channel_closes, channel_oks, contents, content_on}
use Rattle.gate_model.specs.Due.{consume_ok_on, consume_oks, deliver_on, delivers, detach_out, disposals, is_consume_ok}
use Rattle.gate_model.specs.Due.{empty_on, get_ok_on, get_on, gets, is_empty_ok, is_plain_ok, may_return, return_on, writing_on, writings}
use Rattle.gate_model.specs.Due.{client_rows, client_units, close_behind, close_oks, close_oks_on}
use Rattle.gate_model.specs.Due.{closes, confirm_on, confirms, detaches, ends, frame_max_in, if_so}
use Rattle.gate_model.specs.Due.{is_beat_due, is_end_due, last_closes, link_flows, may_answer}
use Rattle.gate_model.specs.Due.{may_confirm, may_confirm_all, may_confirm_some, may_end, may_go_on, may_go, may_tell, none_left, ok_on, open_oks}
use Rattle.gate_model.specs.Due.{openings, path_oks, pick, refused_on, row_on, rows_in}
use Rattle.gate_model.specs.Due.{session_flows, session_rows, settlings, transfers, unless_out, may_idle, other_rows, up_rows, when}
use Rattle.gate_model.specs.Lives.{each, is_carried, is_free as is_free_session, life_at, session_in}
use Rattle.gate_model.specs.Paths.{attach_out, flow_out, path_at, transfer_of}
use Rattle.gate_model.specs.State.{State, is_channel_settled, is_settled}
use Rattle.gate_model.specs.Upstream.{first, opening_rows, when_up}

-- ---- of lists

abbrev pub FirstIs : {A : Type 0} → (A → Type 0) → List A → Type 0
FirstIs P us = IfSome (first us) P

pub both_are : {A : Type 0} (P : A → Type 0) (us vs : List A) → FirstIs P us → FirstIs P vs → FirstIs P (us ++ vs)
both_are P [] vs p q = q
both_are P (u ∷ us) vs p q = p

each_from : {A : Type 0} (P : A → Type 0) (f : ℕ → Life → List A) (n : ℕ) (ls : List Life) → ((k : ℕ) → k < length ls → FirstIs P (f (n + k) (life_at ls k)))
    → FirstIs P (each f n ls)
each_from P f n [] is = tt
each_from P f n (l ∷ ls) is =
    let here : n + zero ≡ n = omega arith in
    both_are P (f n l) (each f (n + 1) ls) (subst (λ (m : ℕ). FirstIs P (f m l)) here (is zero (omega arith))) (each_from P f (n + 1) ls later)
  where
    later : (k : ℕ) → k < length ls → FirstIs P (f ((n + 1) + k) (life_at ls k))
    later k less =
        let next : n + suc k ≡ (n + 1) + k = omega arith in
        subst (λ (m : ℕ). FirstIs P (f m (life_at ls k))) next (is (suc k) (omega (arith, less)))

-- by the numbers of channels, of which there are so many
pub each_in : {A : Type 0} (P : A → Type 0) (f : ℕ → Life → List A) (ls : List Life) → ((n : ℕ) → n < length ls → FirstIs P (f n (life_at ls n))) → FirstIs P (each f 0 ls)
each_in P f ls is = each_from P f 0 ls (λ k less. let same : k ≡ 0 + k = omega arith in subst (λ (m : ℕ). FirstIs P (f m (life_at ls k))) same (is k less))

pub each_is : {A : Type 0} (P : A → Type 0) (f : ℕ → Life → List A) (ls : List Life) → ((n : ℕ) → FirstIs P (f n (life_at ls n))) → FirstIs P (each f 0 ls)
each_is P f ls is = each_in P f ls (λ n less. is n)

pub when_up_is : (P : UpUnit → Type 0) (b : Bool) (u : UpUnit) → P u → FirstIs P (when_up b u)
when_up_is P true u p = p
when_up_is P false u p = tt

pub when_is : (P : Reply → Type 0) (b : Bool) (u : Reply) → P u → FirstIs P (when b u)
when_is P true u p = p
when_is P false u p = tt

if_so_is : (P : Reply → Type 0) (b : Bool) (us : List Reply) → FirstIs P us → FirstIs P (if_so b us)
if_so_is P true us p = p
if_so_is P false us p = tt

-- ---- to the container

-- what holds of the units of sessions' links
abbrev pub OfSession : (ℕ → SessionUnit → Type 0) → UpUnit → Type 0
OfSession Q (up.OnSession n u) = Q n u
OfSession Q u = Unit {0}

pub record SessionUnits (Q : ℕ → SessionUnit → Type 0) (w : State) : Type 0 where
  pub attach : (n : ℕ) (a : AttachDue) → next_attach (path_at w.paths n) ≡ Some a → Q n (unit.Attach (attach_out w.attached a))
  pub flow : (n : ℕ) (f : FlowDue) → next_flow (path_at w.paths n) ≡ Some f → Q n (unit.Flow (flow_out (life_at w.lives n).session f))
  pub transfer : (n : ℕ) (f : NextFrame) → next_frame (life_at w.lives n).session.windows.window (path_at w.paths n) ≡ Some f
      → Q n (unit.Transfer (transfer_of (frame_max_in w.up.container) (path_at w.paths n) f))
  pub dispose : (n : ℕ) (x : NextSettle) → next_dispose (path_at w.paths n) ≡ Some x → Q n (unit.Dispose x)
  pub settle : (n : ℕ) (x : Settling) → next_settle (path_at w.paths n) ≡ Some x → Q n (unit.Settle x)
  pub detach : (n : ℕ) (x : PathLink) → next_detach (path_at w.paths n) ≡ Some x → Q n (detach_out x)

-- it neither is of a link, nor begins or ends a session
abbrev pub is_free : UpUnit → Bool
is_free (up.OnSession n u) = false
is_free (up.Begin n) = false
is_free (up.End n why) = false
is_free u = true

row_is : {A : Type 0} (P : UpUnit → Type 0) (w : State) (n : ℕ) (o : Option A) (f : A → SessionUnit) → ((x : A) → o ≡ Some x → P (up.OnSession n (f x)))
    → FirstIs P (row_on w.up.container n o f)
row_is P w n None f is = tt
row_is P w n (Some x) f is = when_up_is P (is_carried (session_in w.up.container n)) (up.OnSession n (f x)) (is x refl)

pub session_by : (P : UpUnit → Type 0) (w : State) → SessionUnits (λ n u. P (up.OnSession n u)) w → ((u : UpUnit) → is_free u ≡ true → P u)
    → FirstIs P (session_rows w)
session_by P w us free =
    both_are P (unless_out w.out_of_memory (carried_rows w)) _ (by w.out_of_memory)
    (both_are P (disposals w) _ (each_is P _ w.lives (λ n. row_is P w n _ _ (us.dispose n)))
    (both_are P (settlings w) (detaches w) (each_is P _ w.lives (λ n. row_is P w n _ _ (us.settle n)))
    (each_is P _ w.lives (λ n. row_is P w n _ _ (us.detach n)))))
  where
    carried : FirstIs P (carried_rows w)
    carried =
        both_are P (attaches w) _ (each_is P _ w.lives (λ n. row_is P w n _ _ (us.attach n)))
        (both_are P (link_flows w) _ (each_is P _ w.lives (λ n. row_is P w n _ _ (us.flow n)))
        (both_are P (session_flows w) (transfers w) (each_is P _ w.lives (λ n. when_up_is P _ (up.Flow n _ _) (free (up.Flow n _ _) refl)))
        (each_is P _ w.lives (λ n. row_is P w n _ _ (us.transfer n)))))

    by : (b : Bool) → FirstIs P (unless_out b (carried_rows w))
    by true = tt
    by false = carried

abbrev pub closes_all : State → Bool
closes_all w = w.out_of_memory || is_closing w.conn

pub record UpRows (P : UpUnit → Type 0) (w : State) : Type 0 where
  pub free : (u : UpUnit) → is_free u ≡ true → P u
  pub begin : (n : ℕ) → closes_all w ≡ false → ((life_at w.lives n).begin && is_free_session (session_in w.up.container n)) ≡ true → P (up.Begin n)
  pub last : (n : ℕ) → n < length w.lives → is_end_due (closes_all w) w n ≡ true → P (up.End n (life_at w.lives n).why)
  pub session : FirstIs P (session_rows w)

pub up_rows_by : (P : UpUnit → Type 0) (w : State) → UpRows P w → FirstIs P (up_rows w)
up_rows_by P w us = all (is_readable w.up.side && not w.up.sent.close)
  where
    when_so : (b : Bool) (u : UpUnit) → (b ≡ true → P u) → FirstIs P (when_up b u)
    when_so true u f = f refl
    when_so false u f = tt

    ending : (b : Bool) → b ≡ closes_all w → FirstIs P (ends b w)
    ending b c =
        each_in P _ w.lives (λ n less. when_so (is_end_due b w n) (up.End n (life_at w.lives n).why)
        (λ e. us.last n less (subst (λ (x : Bool). is_end_due x w n ≡ true) c e)))

    opening : FirstIs P (opening_rows w.up.pending)
    opening =
        both_are P _ _ (when_up_is P w.up.pending.sasl_header up.SaslHeader (us.free up.SaslHeader refl))
        (both_are P _ _ (when_up_is P w.up.pending.init up.SaslInit (us.free up.SaslInit refl))
        (both_are P _ _ (when_up_is P w.up.pending.amqp_header up.AmqpHeader (us.free up.AmqpHeader refl))
        (when_up_is P w.up.pending.«open» up.Open (us.free up.Open refl))))

    others : (b : Bool) → b ≡ closes_all w → FirstIs P (other_rows b w)
    others true c =
        both_are P (session_rows w) _ us.session
        (both_are P (ends true w) (close_behind w) (ending true c)
        (when_up_is P (none_left w && w.up.sent.«open») (up.Close w.up.condition) (us.free (up.Close w.up.condition) refl)))
    others false c =
        both_are P (opening_rows w.up.pending) _ opening
        (both_are P (begins w) _ (each_is P _ w.lives (λ n. when_so _ (up.Begin n) (us.begin n (sym c))))
        (both_are P (session_rows w) (ends false w) us.session (ending false c)))

    rows : FirstIs P (rows_in (closes_all w) w)
    rows = both_are P (other_rows (closes_all w) w) _ (others (closes_all w) refl) (when_up_is P (may_idle w) up.Empty (us.free up.Empty refl))

    all : (b : Bool) → FirstIs P (if b then rows_in (closes_all w) w else [])
    all true = rows
    all false = tt

up_rows_are : (Q : ℕ → SessionUnit → Type 0) (w : State) → SessionUnits Q w → FirstIs (OfSession Q) (up_rows w)
up_rows_are Q w us =
    up_rows_by (OfSession Q) w (record { free = free; begin = λ n c e. tt; last = λ n less e. tt; session = session_by (OfSession Q) w us free })
  where
    free : (u : UpUnit) → is_free u ≡ true → OfSession Q u
    free (up.OnSession n u) e = absurd cc
    free u e = tt

-- ---- to the client

-- what holds of the units of channels that are open
abbrev pub OfChannel : (ℕ → ChannelUnit → Type 0) → Reply → Type 0
OfChannel Q (reply.OnChannel n u) = Q n u
OfChannel Q u = Unit {0}

pub record ChannelUnits (Q : ℕ → ChannelUnit → Type 0) (w : State) : Type 0 where
  pub answer : (n : ℕ) (x : PathOk) → next_ok (path_at w.paths n) ≡ Some x → Q n (to_client.Ok x)
  pub deliver : (n : ℕ) (d : DeliverDue) → next_deliver (path_at w.paths n) ≡ Some d → Q n (to_client.Deliver d)
  pub content : (n : ℕ) (c : ContentDue) → next_content (path_at w.paths n) ≡ Some c → Q n (to_client.Content c)
  pub confirm : (n : ℕ) (c : Confirm) → next_confirm (path_at w.paths n) ≡ Some c → Q n (to_client.Confirm c)
  pub back : (n : ℕ) (r : NextReturn) → next_return (path_at w.paths n) ≡ Some r → Q n (to_client.Return r)

client_rows_are : (Q : ℕ → ChannelUnit → Type 0) (w : State) → ChannelUnits Q w → FirstIs (OfChannel Q) (client_rows w)
client_rows_are Q w us =
    both_are P (client_units w) _ (both_are P (if_so (may_return w) (contents w)) _ (if_so_is P (may_return w) (contents w) going_on)
    (both_are P (if_so (may_answer w) (writings w)) _ (if_so_is P (may_answer w) (writings w) writing)
    (both_are P (openings p) _ opening (both_are P _ _ (if_so_is P (may_answer w) _ answering) confirming))))
    (when_is P (is_beat_due w) reply.Heartbeat tt)
  where
    P : Reply → Type 0
    P = OfChannel Q

    p : Pending
    p = may_go (is_settled w) w.pending

    opening : FirstIs P (openings p)
    opening =
        both_are P _ _ (when_is P p.protocol reply.Protocol tt)
        (both_are P _ _ (when_is P p.start reply.Start tt) (both_are P _ _ (when_is P p.tune reply.Tune tt) (when_is P p.open_ok reply.OpenOk tt)))

    unless : (over : Bool) (rs : List Reply) → FirstIs P rs → FirstIs P (if over then [] else rs)
    unless true rs x = tt
    unless false rs x = x

    answer_is : (n : ℕ) (o : Option PathOk) → next_ok (path_at w.paths n) ≡ o → FirstIs P (ok_on n o)
    answer_is n None e = tt
    answer_is n (Some x) e = when_is P (is_plain_ok x) (reply.OnChannel n (to_client.Ok x)) (us.answer n x e)

    consume_is : (n : ℕ) (o : Option PathOk) → next_ok (path_at w.paths n) ≡ o → FirstIs P (consume_ok_on n o)
    consume_is n None e = tt
    consume_is n (Some x) e = when_is P (is_consume_ok x) (reply.OnChannel n (to_client.Ok x)) (us.answer n x e)

    deliver_is : (n : ℕ) (o : Option DeliverDue) → next_deliver (path_at w.paths n) ≡ o → FirstIs P (deliver_on n o)
    deliver_is n None e = tt
    deliver_is n (Some d) e = when_is P (not d.get) (reply.OnChannel n (to_client.Deliver d)) (us.deliver n d e)

    empty_is : (n : ℕ) (o : Option PathOk) → next_ok (path_at w.paths n) ≡ o → FirstIs P (empty_on n o)
    empty_is n None e = tt
    empty_is n (Some x) e = when_is P (is_empty_ok x) (reply.OnChannel n (to_client.Ok x)) (us.answer n x e)

    get_ok_is : (n : ℕ) (o : Option DeliverDue) → next_deliver (path_at w.paths n) ≡ o → FirstIs P (get_ok_on n o)
    get_ok_is n None e = tt
    get_ok_is n (Some d) e = when_is P d.get (reply.OnChannel n (to_client.Deliver d)) (us.deliver n d e)

    get_is : (n : ℕ) → FirstIs P (get_on n (path_at w.paths n))
    get_is n = both_are P (empty_on n (next_ok (path_at w.paths n))) _ (empty_is n (next_ok (path_at w.paths n)) refl) (get_ok_is n (next_deliver (path_at w.paths n)) refl)

    writing_is : (n : ℕ) (o : Option ContentDue) → next_content (path_at w.paths n) ≡ o → FirstIs P (writing_on n o)
    writing_is n None e = tt
    writing_is n (Some c) e = us.content n c e

    writing : FirstIs P (writings w)
    writing = each_is P _ w.lives (λ n. unless (life_at w.lives n).over _ (writing_is n (next_content (path_at w.paths n)) refl))

    answering : FirstIs P (answers w)
    answering =
        both_are P (open_oks w) _ (each_is P _ w.lives (λ n. when_is P (life_at w.lives n).open_ok (reply.ChannelOpenOk n) tt))
        (both_are P (path_oks w) _ (each_is P _ w.lives (λ n. unless (life_at w.lives n).over _ (answer_is n (next_ok (path_at w.paths n)) refl)))
        (both_are P (consume_oks w) _ (each_is P _ w.lives (λ n. unless (life_at w.lives n).over _ (consume_is n (next_ok (path_at w.paths n)) refl)))
        (both_are P (gets w) (delivers w) (each_is P _ w.lives (λ n. unless (life_at w.lives n).over _ (get_is n)))
        (each_is P _ w.lives (λ n. unless (life_at w.lives n).over _ (deliver_is n (next_deliver (path_at w.paths n)) refl))))))

    confirm_is : (n : ℕ) (may : Bool) (o : Option Confirm) → next_confirm (path_at w.paths n) ≡ o → FirstIs P (confirm_on may n o)
    confirm_is n may None e = tt
    confirm_is n may (Some c) e = when_is P may (reply.OnChannel n (to_client.Confirm c)) (us.confirm n c e)

    return_is : (n : ℕ) (may : Bool) (o : Option NextReturn) → next_return (path_at w.paths n) ≡ o → FirstIs P (return_on may n o)
    return_is n may None e = tt
    return_is n may (Some r) e = when_is P (may && r.first) (reply.OnChannel n (to_client.Return r)) (us.back n r e)

    content_is : (n : ℕ) (may : Bool) (o : Option NextReturn) → next_return (path_at w.paths n) ≡ o → FirstIs P (content_on may n o)
    content_is n may None e = tt
    content_is n may (Some r) e = when_is P (may && not r.first) (reply.OnChannel n (to_client.Return r)) (us.back n r e)

    going_on : FirstIs P (contents w)
    going_on = each_is P _ w.lives (λ n. content_is n (may_go_on (may_confirm_all w) (life_at w.lives n)) (next_return (path_at w.paths n)) refl)

    ok_is : (n : ℕ) (settled : Bool) (l : Life) → FirstIs P (close_oks_on n settled l)
    ok_is n settled l = both_are P (when l.crossed_ok (reply.CrossedOk n)) _ (when_is P l.crossed_ok (reply.CrossedOk n) tt) (when_is P settled (reply.ChannelCloseOk n) tt)

    refusal_is : (n : ℕ) (settled : Bool) (o : Option Reason) → FirstIs P (refused_on settled n o)
    refusal_is n settled None = tt
    refusal_is n settled (Some r) = when_is P settled (reply.ChannelClose n r) tt

    close_is : (o : Option Refusal) → FirstIs P (closes o)
    close_is None = tt
    close_is (Some r) = tt

    closing : FirstIs P (close_oks p ++ (if_so (may_end w) (channel_oks w) ++ (last_closes p ++ if_so (may_tell w) (channel_closes w))))
    closing =
        both_are P (close_oks p) _ (when_is P p.close_ok reply.CloseOk tt)
        (both_are P (if_so (may_end w) (channel_oks w)) _
        (if_so_is P (may_end w) (channel_oks w) (each_is P _ w.lives (λ n. ok_is n _ (life_at w.lives n))))
        (both_are P (last_closes p) _ (both_are P (closes p.close) _ (close_is p.close) (when_is P p.no_memory reply.NoMemory tt))
        (if_so_is P (may_tell w) (channel_closes w) (each_is P _ w.lives (λ n. refusal_is n (is_channel_settled w n) (life_at w.lives n).close)))))

    confirming : FirstIs P (if_so (may_confirm_some w) (confirms w)
        ++ (close_oks p ++ (if_so (may_end w) (channel_oks w) ++ (last_closes p ++ if_so (may_tell w) (channel_closes w)))))
    confirming =
        both_are P (if_so (may_confirm_some w) (confirms w)) _
        (if_so_is P (may_confirm_some w) (confirms w)
        (each_is P _ w.lives (λ n. both_are P (return_on (not w.out_of_memory && may_confirm (may_confirm_all w) (life_at w.lives n)) n (next_return (path_at w.paths n))) _
        (return_is n (not w.out_of_memory && may_confirm (may_confirm_all w) (life_at w.lives n)) (next_return (path_at w.paths n)) refl)
        (confirm_is n (may_confirm (may_confirm_all w) (life_at w.lives n)) (next_confirm (path_at w.paths n)) refl))))
        closing

-- ---- the unit that goes

pub of_up : (P : UpUnit → Type 0) (us : List UpUnit) (u : UpUnit) → FirstIs P us → first (map ToUp us) ≡ Some (ToUp u) → P u
of_up P [] u p e = absurd cc
of_up P (x ∷ us) u p e = let same : x ≡ u = cc in subst P same p

pub of_client : (P : Reply → Type 0) (us : List Reply) (u : Reply) → FirstIs P us → first (map ToClient us) ≡ Some (ToClient u) → P u
of_client P [] u p e = absurd cc
of_client P (x ∷ us) u p e = let same : x ≡ u = cc in subst P same p

pub goes_up_as : (Q : ℕ → SessionUnit → Type 0) (w : State) (u : UpUnit) → SessionUnits Q w → pick w Up ≡ Some (ToUp u) → OfSession Q u
goes_up_as Q w u us e = of_up (OfSession Q) (up_rows w) u (up_rows_are Q w us) e

pub goes_as : (Q : ℕ → ChannelUnit → Type 0) (w : State) (u : Reply) → ChannelUnits Q w → pick w Client ≡ Some (ToClient u) → OfChannel Q u
goes_as Q w u us e = of_client (OfChannel Q) (client_rows w) u (client_rows_are Q w us) e
