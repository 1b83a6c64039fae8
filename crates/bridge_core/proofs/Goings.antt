-- What goes next may go: a frame of a transfer is the one that is due, and so is a confirm.
use Rattle.std.proofs.Common.{◌≡◌, ◌≤◌, ℕ, ◌==◌, not, ◌&&◌, Bool, true, false, if◌then◌else◌}
use Rattle.std.proofs.Common.{List, [], ◌∷◌, Option, None, Some, arith, refl, subst, sym, map}
use Rattle.std.specs.Prelude.{IfSome}
use Rattle.std.proofs.lemmas.Bool.Decides.{nat_tests}
use Rattle.gate_outside.specs.declared.ports.End.TheVariants.{Client, Up}
use Rattle.machine_091.specs.declared.unit.Refusal.{Refusal}
use Rattle.publish_path.specs.Offers.{next_frame_of}
use Rattle.publish_path.specs.declared.publish.Confirm.{Confirm}
use Rattle.publish_path.specs.declared.publish.NextFrame.{NextFrame}
use Rattle.publish_path.specs.declared.publish.NextReturn.{NextReturn}
use Rattle.session_path.specs.Due.{next_confirm, next_content, next_deliver, next_frame}
use Rattle.session_path.specs.Due.{next_ok, next_return}
use Rattle.session_path.specs.declared.path.ContentDue.{ContentDue}
use Rattle.session_path.specs.declared.path.DeliverDue.{DeliverDue}
use Rattle.session_path.specs.Path.{PathState}
use Rattle.session_path.specs.declared.path.PathOk.{PathOk}
use Rattle.gate_model.specs.declared.reply.Reason.{Reason}
use Rattle.gate_model.specs.declared.channel.ChannelUnit.TheVariants as to_client
use Rattle.gate_model.specs.declared.channel.SessionUnit.{SessionUnit}
use Rattle.gate_model.specs.declared.channel.SessionUnit.TheVariants as unit
use Rattle.gate_model.specs.declared.life.Life.{Life}
use Rattle.gate_model.specs.declared.outgoing.Outgoing.TheVariants.{ToClient, ToUp}
use Rattle.gate_model.specs.declared.outgoing.UpUnit.{UpUnit}
use Rattle.gate_model.specs.declared.outgoing.UpUnit.TheVariants as up
use Rattle.gate_model.specs.declared.reply.Pending.{Pending}
use Rattle.gate_model.specs.declared.reply.Reply.{Reply}
use Rattle.gate_model.specs.declared.reply.Reply.TheVariants as reply
use Rattle.gate_model.specs.Due.{carries_back, client_rows, close_oks_on, closes, confirm_on, consume_ok_on, content_on, deliver_on}
use Rattle.gate_model.specs.Due.{empty_on, frame_max_in, get_ok_on, get_on, is_beat_due, is_consume_ok, is_empty_ok, is_plain_ok}
use Rattle.gate_model.specs.Due.{last_closes, may_confirm, may_confirm_all, may_go, may_go_on, may_idle, none_left, ok_on, openings, pick}
use Rattle.gate_model.specs.Due.{refused_on, return_on, row_on, transfers, up_rows, when, writing_on}
use Rattle.gate_model.specs.Lives.{is_carried, life_at, session_in}
use Rattle.gate_model.specs.Paths.{path_at, transfer_of}
use Rattle.gate_model.specs.Spelling.{spell_reply}
use Rattle.gate_model.specs.State.{State, is_channel_settled, is_settled}
use Rattle.gate_model.specs.Upstream.{first, opening_rows}
use Rattle.bridge_core.specs.Offers.{IsOffer, IsUpOffer, SlotState, UpSlotState}
use Rattle.bridge_core.specs.PathChanges.{MayGoUp, MayReply}
use Rattle.bridge_core.specs.Rows.{in_order, is_up_open, may_send, may_send_up, units_in, units_of, units_if, up_units_in, up_units_of}
use Rattle.bridge_core.specs.declared.rows.Row.{Row}
use Rattle.bridge_core.specs.declared.rows.Row.TheVariants as row
use Rattle.bridge_core.specs.declared.rows.UpRow.{UpRow}
use Rattle.bridge_core.specs.declared.rows.UpRow.TheVariants as up_row
use Rattle.bridge_core.proofs.Order.{client_in_order, client_order, up_in_order, up_order}
use Rattle.bridge_core.proofs.FirstOf.{FirstIs, both_are, each_is, when_is, when_up_is}

-- ---- to the container

record IsDue (window : ℕ) (s : PathState) (f : NextFrame) : Type 0 where
  room : 1 ≤ window
  frame : next_frame_of s.links.sending s.publishes.list ≡ Some f

due_by : (window : ℕ) (s : PathState) (f : NextFrame) → next_frame window s ≡ Some f → IsDue window s f
due_by window s f e = by (window == 0) refl e
  where
    by : (b : Bool) → (window == 0) ≡ b → (if b then None else next_frame_of s.links.sending s.publishes.list) ≡ Some f → IsDue window s f
    by true g e = absurd cc
    by false g e = record { room = grind (arith, nat_tests, g); frame = e }

row_is : {A : Type 0} (w : State) (n : ℕ) (o : Option A) (f : A → SessionUnit) → ((x : A) → o ≡ Some x → MayGoUp w (up.OnSession n (f x)))
    → FirstIs (MayGoUp w) (row_on w.up.container n o f)
row_is w n None f is = tt
row_is w n (Some x) f is = when_up_is (MayGoUp w) (is_carried (session_in w.up.container n)) (up.OnSession n (f x)) (is x refl)

transfers_are : (w : State) → FirstIs (MayGoUp w) (transfers w)
transfers_are w = each_is (MayGoUp w) _ w.lives (λ n. row_is w n _ _ (one n))
  where
    one : (n : ℕ) (f : NextFrame) → next_frame (life_at w.lives n).session.windows.window (path_at w.paths n) ≡ Some f
        → MayGoUp w (up.OnSession n (unit.Transfer (transfer_of (frame_max_in w.up.container) (path_at w.paths n) f)))
    one n f e =
        let d : IsDue (life_at w.lives n).session.windows.window (path_at w.paths n) f = due_by _ _ f e in
        (d.room, (d.frame, omega arith))

openings_are : (w : State) → FirstIs (MayGoUp w) (opening_rows w.up.pending)
openings_are w =
    both_are (MayGoUp w) _ _ (when_up_is (MayGoUp w) w.up.pending.sasl_header up.SaslHeader tt)
    (both_are (MayGoUp w) _ _ (when_up_is (MayGoUp w) w.up.pending.init up.SaslInit tt)
    (both_are (MayGoUp w) _ _ (when_up_is (MayGoUp w) w.up.pending.amqp_header up.AmqpHeader tt)
    (when_up_is (MayGoUp w) w.up.pending.«open» up.Open tt)))

up_row_is : (w : State) (r : UpRow) → FirstIs (MayGoUp w) (up_units_in w r)
up_row_is w up_row.Opening = openings_are w
up_row_is w up_row.Begin = each_is (MayGoUp w) _ w.lives (λ n. when_up_is (MayGoUp w) _ _ tt)
up_row_is w up_row.Attach = each_is (MayGoUp w) _ w.lives (λ n. row_is w n _ _ (λ x e. (tt, tt)))
up_row_is w up_row.LinkFlow = each_is (MayGoUp w) _ w.lives (λ n. row_is w n _ _ (λ x e. (tt, tt)))
up_row_is w up_row.SessionFlow = each_is (MayGoUp w) _ w.lives (λ n. when_up_is (MayGoUp w) _ _ tt)
up_row_is w up_row.Transfer = transfers_are w
up_row_is w up_row.Dispose = each_is (MayGoUp w) _ w.lives (λ n. row_is w n _ _ (λ x e. (tt, tt)))
up_row_is w up_row.Settle = each_is (MayGoUp w) _ w.lives (λ n. row_is w n _ _ (λ x e. (tt, tt)))
up_row_is w up_row.Detach = each_is (MayGoUp w) _ w.lives (λ n. row_is w n _ _ (λ x e. (tt, tt)))
up_row_is w up_row.End = each_is (MayGoUp w) _ w.lives (λ n. when_up_is (MayGoUp w) _ _ tt)
up_row_is w up_row.Close = when_up_is (MayGoUp w) (none_left w && w.up.sent.«open») _ tt
up_row_is w up_row.Empty = when_up_is (MayGoUp w) (may_idle w) up.Empty tt

if_is : {A : Type 0} (P : A → Type 0) (b : Bool) (us : List A) → FirstIs P us → FirstIs P (units_if b us)
if_is P true us p = p
if_is P false us p = tt

in_order_is : {R A : Type 0} (P : A → Type 0) (f : R → List A) (rs : List R) → ((r : R) → FirstIs P (f r)) → FirstIs P (in_order f rs)
in_order_is P f [] is = tt
in_order_is P f (r ∷ rs) is = both_are P (f r) (in_order f rs) (is r) (in_order_is P f rs is)

up_are : (w : State) → FirstIs (MayGoUp w) (up_rows w)
up_are w =
    subst (FirstIs (MayGoUp w)) (sym (up_in_order w))
    (if_is (MayGoUp w) (is_up_open w) _ (in_order_is (MayGoUp w) (up_units_of w) up_order
    (λ r. if_is (MayGoUp w) (may_send_up w r) (up_units_in w r) (up_row_is w r))))

-- ---- to the client

open_is : (P : Reply → Type 0) (over : Bool) (us : List Reply) → FirstIs P us → FirstIs P (if over then [] else us)
open_is P true us p = tt
open_is P false us p = p

ok_is : (w : State) (n : ℕ) (o : Option PathOk) → FirstIs (MayReply w) (ok_on n o)
ok_is w n None = tt
ok_is w n (Some x) = when_is (MayReply w) (is_plain_ok x) (reply.OnChannel n (to_client.Ok x)) tt

consume_ok_is : (w : State) (n : ℕ) (o : Option PathOk) → FirstIs (MayReply w) (consume_ok_on n o)
consume_ok_is w n None = tt
consume_ok_is w n (Some x) = when_is (MayReply w) (is_consume_ok x) (reply.OnChannel n (to_client.Ok x)) tt

deliver_is : (w : State) (n : ℕ) (o : Option DeliverDue) → next_deliver (path_at w.paths n) ≡ o → FirstIs (MayReply w) (deliver_on n o)
deliver_is w n None e = tt
deliver_is w n (Some d) e = when_is (MayReply w) (not d.get) (reply.OnChannel n (to_client.Deliver d)) e

empty_is : (w : State) (n : ℕ) (o : Option PathOk) → FirstIs (MayReply w) (empty_on n o)
empty_is w n None = tt
empty_is w n (Some x) = when_is (MayReply w) (is_empty_ok x) (reply.OnChannel n (to_client.Ok x)) tt

get_ok_is : (w : State) (n : ℕ) (o : Option DeliverDue) → next_deliver (path_at w.paths n) ≡ o → FirstIs (MayReply w) (get_ok_on n o)
get_ok_is w n None e = tt
get_ok_is w n (Some d) e = when_is (MayReply w) d.get (reply.OnChannel n (to_client.Deliver d)) e

get_is : (w : State) (n : ℕ) → FirstIs (MayReply w) (get_on n (path_at w.paths n))
get_is w n = both_are (MayReply w) (empty_on n (next_ok (path_at w.paths n))) _ (empty_is w n (next_ok (path_at w.paths n))) (get_ok_is w n (next_deliver (path_at w.paths n)) refl)

writing_is : (w : State) (n : ℕ) (o : Option ContentDue) → FirstIs (MayReply w) (writing_on n o)
writing_is w n None = tt
writing_is w n (Some c) = tt

return_is : (w : State) (n : ℕ) (may : Bool) (o : Option NextReturn) → next_return (path_at w.paths n) ≡ o → FirstIs (MayReply w) (return_on may n o)
return_is w n may None e = tt
return_is w n may (Some r) e = when_is (MayReply w) (may && r.first) (reply.OnChannel n (to_client.Return r)) e

content_is : (w : State) (n : ℕ) (may : Bool) (o : Option NextReturn) → next_return (path_at w.paths n) ≡ o → FirstIs (MayReply w) (content_on may n o)
content_is w n may None e = tt
content_is w n may (Some r) e = when_is (MayReply w) (may && not r.first) (reply.OnChannel n (to_client.Return r)) e

confirm_is : (w : State) (n : ℕ) (may : Bool) (o : Option Confirm) → next_confirm (path_at w.paths n) ≡ o → FirstIs (MayReply w) (confirm_on may n o)
confirm_is w n may None e = tt
confirm_is w n may (Some c) e = when_is (MayReply w) may (reply.OnChannel n (to_client.Confirm c)) e

closings_are : (w : State) (n : ℕ) (settled : Bool) (l : Life) → FirstIs (MayReply w) (close_oks_on n settled l)
closings_are w n settled l =
    both_are (MayReply w) (when l.crossed_ok (reply.CrossedOk n)) _ (when_is (MayReply w) l.crossed_ok (reply.CrossedOk n) tt)
    (when_is (MayReply w) settled (reply.ChannelCloseOk n) tt)

refusal_is : (w : State) (n : ℕ) (settled : Bool) (o : Option Reason) → FirstIs (MayReply w) (refused_on settled n o)
refusal_is w n settled None = tt
refusal_is w n settled (Some r) = when_is (MayReply w) settled (reply.ChannelClose n r) tt

close_is : (w : State) (o : Option Refusal) → FirstIs (MayReply w) (closes o)
close_is w None = tt
close_is w (Some r) = tt

first_are : (w : State) (p : Pending) → FirstIs (MayReply w) (openings p)
first_are w p =
    both_are (MayReply w) _ _ (when_is (MayReply w) p.protocol reply.Protocol tt)
    (both_are (MayReply w) _ _ (when_is (MayReply w) p.start reply.Start tt)
    (both_are (MayReply w) _ _ (when_is (MayReply w) p.tune reply.Tune tt) (when_is (MayReply w) p.open_ok reply.OpenOk tt)))

last_are : (w : State) (p : Pending) → FirstIs (MayReply w) (last_closes p)
last_are w p = both_are (MayReply w) (closes p.close) _ (close_is w p.close) (when_is (MayReply w) p.no_memory reply.NoMemory tt)

reply_is : (w : State) (r : Row) → FirstIs (MayReply w) (units_in w r)
reply_is w row.Content = each_is (MayReply w) _ w.lives
    (λ n. content_is w n (may_go_on (may_confirm_all w) (life_at w.lives n)) (next_return (path_at w.paths n)) refl)
reply_is w row.Writing = each_is (MayReply w) _ w.lives
    (λ n. open_is (MayReply w) (life_at w.lives n).over _ (writing_is w n (next_content (path_at w.paths n))))
reply_is w row.Opening = first_are w (may_go (is_settled w) w.pending)
reply_is w row.ChannelOpenOk = each_is (MayReply w) _ w.lives
    (λ n. when_is (MayReply w) (life_at w.lives n).open_ok (reply.ChannelOpenOk n) tt)
reply_is w row.Ok = each_is (MayReply w) _ w.lives
    (λ n. open_is (MayReply w) (life_at w.lives n).over _ (ok_is w n (next_ok (path_at w.paths n))))
reply_is w row.ConsumeOk = each_is (MayReply w) _ w.lives
    (λ n. open_is (MayReply w) (life_at w.lives n).over _ (consume_ok_is w n (next_ok (path_at w.paths n))))
reply_is w row.Get = each_is (MayReply w) _ w.lives
    (λ n. open_is (MayReply w) (life_at w.lives n).over _ (get_is w n))
reply_is w row.Deliver = each_is (MayReply w) _ w.lives
    (λ n. open_is (MayReply w) (life_at w.lives n).over _ (deliver_is w n (next_deliver (path_at w.paths n)) refl))
reply_is w row.Confirm = each_is (MayReply w) _ w.lives
    (λ n. both_are (MayReply w) (return_on _ n (next_return (path_at w.paths n))) _
    (return_is w n (not w.out_of_memory && may_confirm (may_confirm_all w) (life_at w.lives n)) (next_return (path_at w.paths n)) refl)
    (confirm_is w n (may_confirm (may_confirm_all w) (life_at w.lives n)) (next_confirm (path_at w.paths n)) refl))
reply_is w row.CloseOk = when_is (MayReply w) (may_go (is_settled w) w.pending).close_ok reply.CloseOk tt
reply_is w row.ChannelCloseOk = each_is (MayReply w) _ w.lives
    (λ n. closings_are w n ((life_at w.lives n).close_ok && is_channel_settled w n) (life_at w.lives n))
reply_is w row.Close = last_are w (may_go (is_settled w) w.pending)
reply_is w row.ChannelClose = each_is (MayReply w) _ w.lives (λ n. refusal_is w n (is_channel_settled w n) (life_at w.lives n).close)
reply_is w row.Heartbeat = when_is (MayReply w) (is_beat_due w) reply.Heartbeat tt

client_are : (w : State) → FirstIs (MayReply w) (client_rows w)
client_are w =
    subst (FirstIs (MayReply w)) (sym (client_in_order w)) (in_order_is (MayReply w) (units_of w) client_order
    (λ r. if_is (MayReply w) (may_send w r) (units_in w r) (reply_is w r)))

-- ---- what is offered

of_up : (w : State) (us : List UpUnit) (u : UpUnit) → FirstIs (MayGoUp w) us → first (map ToUp us) ≡ Some (ToUp u) → MayGoUp w u
of_up w [] u p e = absurd cc
of_up w (x ∷ us) u p e = let same : x ≡ u = cc in subst (MayGoUp w) same p

of_client : (w : State) (us : List Reply) (u : Reply) → FirstIs (MayReply w) us → first (map ToClient us) ≡ Some (ToClient u) → MayReply w u
of_client w [] u p e = absurd cc
of_client w (x ∷ us) u p e = let same : x ≡ u = cc in subst (MayReply w) same p

pub offered_may_reply : (w : State) (s : SlotState) (u : Reply) → IsOffer w s → Some u ≡ s.chosen → MayReply w u
offered_may_reply w s u offer e =
    of_client w (client_rows w) u (client_are w) (subst (λ (o : Option Reply). IfSome o (λ r. (pick w Client ≡ Some (ToClient r)) × (s.bytes ≡ spell_reply r (carries_back w r)))) (sym e) offer).0

pub offered_may_go : (w : State) (s : UpSlotState) (u : UpUnit) → IsUpOffer w s → Some u ≡ s.chosen → MayGoUp w u
offered_may_go w s u offer e =
    of_up w (up_rows w) u (up_are w) (subst (λ (o : Option UpUnit). IfSome o (λ r. pick w Up ≡ Some (ToUp r))) (sym e) offer)
