-- What goes on a channel goes while its life does, or for what its container closed.
use Rattle.std.proofs.Common.{◌≡◌, inl, inr, ℕ, zero, suc, ◌+◌, ◌<◌, ◌≤◌, not, ◌&&◌, ◌||◌, Bool, true, false, if◌then◌else◌, List, [], ◌∷◌, ◌++◌, Option, None, Some}
use Rattle.std.proofs.Common.{is_some, length, refl, sym, ap, ◌∙◌, arith, subst}
use Rattle.machine_091.specs.State.{is_closing, is_open}
use Rattle.machine_091.specs.declared.limits.TheConstants.{CHANNEL_MAX}
use Rattle.machine_091.specs.declared.state.Connection.{Connection}
use Rattle.machine_091.specs.declared.unit.Refusal.{Refusal}
use Rattle.machine_091.specs.declared.unit.Want91.{Want91}
use Rattle.publish_path.specs.declared.publish.Confirm.{Confirm}
use Rattle.publish_path.specs.declared.publish.NextReturn.{NextReturn}
use Rattle.session_path.specs.Due.{next_confirm, next_content, next_deliver, next_ok, next_return}
use Rattle.session_path.specs.Path.{PathState}
use Rattle.session_path.specs.declared.path.ContentDue.{ContentDue}
use Rattle.session_path.specs.declared.path.DeliverDue.{DeliverDue}
use Rattle.session_path.specs.declared.path.PathOk.{PathOk}
use Rattle.gate_model.specs.declared.channel.ChannelUnit.{ChannelUnit}
use Rattle.gate_model.specs.declared.channel.ChannelUnit.TheVariants as to_client
use Rattle.gate_model.specs.declared.life.Life.{Life}
use Rattle.gate_model.specs.declared.outgoing.Outgoing.TheVariants.{ToClient}
use Rattle.gate_model.specs.declared.reply.Pending.{Pending}
use Rattle.gate_model.specs.declared.reply.Reason.{Reason}
use Rattle.gate_model.specs.declared.reply.Reply.{Reply}
use Rattle.gate_model.specs.declared.reply.Reply.TheVariants as reply
use Rattle.gate_model.specs.Due.{answers, channel_closes, channel_oks, client_rows, client_units, close_oks, close_oks_on, closes, confirm_on, confirms}
use Rattle.gate_model.specs.Due.{consume_ok_on, consume_oks, content_on, contents, deliver_on, delivers, empty_on, get_ok_on, get_on, gets, if_so, is_beat_due}
use Rattle.gate_model.specs.Due.{is_consume_ok, is_empty_ok, is_plain_ok, last_closes, may_answer, may_confirm, may_confirm_all, may_confirm_some, may_end, may_go, may_go_on}
use Rattle.gate_model.specs.Due.{may_return, may_tell}
use Rattle.gate_model.specs.Due.{ok_on, open_oks, openings, path_oks, refused_on, return_on, when, writing_on, writings}
use Rattle.gate_model.specs.Folds.{connection, paths_in, peers, ran_out_in, routes_in}
use Rattle.gate_model.specs.Lives.{life_at}
use Rattle.gate_model.specs.Once.{is_channel_open, is_method_on, one_if, wanted_in}
use Rattle.gate_model.specs.Parting.{IsCalledFor, MayStillGo, StopsWhenClosed}
use Rattle.gate_model.specs.Paths.{or_no_path, path_at, slot_at}
use Rattle.gate_model.specs.Picks.{ArePicks}
use Rattle.gate_model.specs.Publishing.{path_life}
use Rattle.gate_model.specs.State.{Came, Gave, State, Step, before, is_channel_settled, is_settled, want_in}
use Rattle.gate_model.proofs.Basics.{and_left, and_right}
use Rattle.gate_model.proofs.Connections.{clash}
use Rattle.gate_model.proofs.Fates.{IsLived, lived}
use Rattle.gate_model.proofs.Firsts.{FirstIs, both_are, each_is, of_client, when_is}
use Rattle.gate_model.proofs.Known.{conn_is, known}
use Rattle.gate_model.proofs.Lives.{lives_all}
use Rattle.gate_model.proofs.Once.{is_opening_ok}
use Rattle.gate_model.proofs.Staying.{StandsIn, stands}

-- ---- what the rows say of the unit that goes

-- an answer or a delivery is of a life that goes on
pub record Answers (w : State) (n : ℕ) : Type 0 where
  pub may : may_answer w ≡ true
  pub goes : (life_at w.lives n).over ≡ false
  pub there : is_some (slot_at w.paths n) ≡ true

-- what is owed for publishes is of such a one, or of one that the container closed
pub record Owed (w : State) (n : ℕ) : Type 0 where
  can : may_confirm (may_confirm_all w) (life_at w.lives n) ≡ true
  there : is_some (slot_at w.paths n) ≡ true

abbrev pub GoesOn : State → ℕ → ChannelUnit → Type 0
GoesOn w n (to_client.Ok x) = Answers w n
GoesOn w n (to_client.Deliver d) = Answers w n
GoesOn w n (to_client.Content c) = Answers w n
GoesOn w n (to_client.Confirm c) = Owed w n
GoesOn w n (to_client.Return r) = r.first ≡ true → Owed w n

-- channel.open-ok is due, while the connection goes on
pub record Opens (w : State) (n : ℕ) : Type 0 where
  pub may : may_answer w ≡ true
  pub due : (life_at w.lives n).open_ok ≡ true

abbrev pub Goes : State → Reply → Type 0
Goes w (reply.ChannelOpenOk n) = Opens w n
Goes w (reply.OnChannel n u) = GoesOn w n u
Goes w u = Unit {0}

-- something is next on a path that is there
there_by : {A : Type 0} (next : PathState → Option A) (ps : List (Option PathState)) (n : ℕ) (x : A) → next (or_no_path None) ≡ None → next (path_at ps n) ≡ Some x
    → is_some (slot_at ps n) ≡ true
there_by {A} next ps n x none e = by (slot_at ps n) e
  where
    by : (o : Option PathState) → next (or_no_path o) ≡ Some x → is_some o ≡ true
    by None f = let wrong : None ≡ Some x = sym none ∙ f in absurd cc
    by (Some s) f = refl

if_so_by : (P : Reply → Type 0) (b : Bool) (us : List Reply) → (b ≡ true → FirstIs P us) → FirstIs P (if_so b us)
if_so_by P true us p = p refl
if_so_by P false us p = tt

unless_by : (P : Reply → Type 0) (over : Bool) (us : List Reply) → (over ≡ false → FirstIs P us) → FirstIs P (if over then [] else us)
unless_by P true us p = tt
unless_by P false us p = p refl

pub when_by : (P : Reply → Type 0) (b : Bool) (u : Reply) → (b ≡ true → P u) → FirstIs P (when b u)
when_by P true u p = p refl
when_by P false u p = tt

pub rows_go : (w : State) → FirstIs (Goes w) (client_rows w)
rows_go w =
    both_are P (client_units w) _ (both_are P (if_so (may_return w) (contents w)) _ (if_so_by P (may_return w) (contents w) (λ e. going_on))
    (both_are P (if_so (may_answer w) (writings w)) _ (if_so_by P (may_answer w) (writings w) writing)
    (both_are P (openings p) _ opening (both_are P (if_so (may_answer w) (answers w)) _ (if_so_by P (may_answer w) (answers w) answering) confirming))))
    (when_is P (is_beat_due w) reply.Heartbeat tt)
  where
    P : Reply → Type 0
    P = Goes w

    p : Pending
    p = may_go (is_settled w) w.pending

    opening : FirstIs P (openings p)
    opening =
        both_are P _ _ (when_is P p.protocol reply.Protocol tt)
        (both_are P _ _ (when_is P p.start reply.Start tt) (both_are P _ _ (when_is P p.tune reply.Tune tt) (when_is P p.open_ok reply.OpenOk tt)))

    content_is : (n : ℕ) (may : Bool) (o : Option NextReturn) → FirstIs P (content_on may n o)
    content_is n may None = tt
    content_is n may (Some r) =
        when_by P (may && not r.first) (reply.OnChannel n (to_client.Return r)) (λ e f. absurd (clash _ f (not_so r.first (and_right may _ e))))
      where
        not_so : (b : Bool) → not b ≡ true → b ≡ false
        not_so true e = absurd cc
        not_so false e = refl

    going_on : FirstIs P (contents w)
    going_on = each_is P _ w.lives (λ n. content_is n (may_go_on (may_confirm_all w) (life_at w.lives n)) (next_return (path_at w.paths n)))

    here : may_answer w ≡ true → (n : ℕ) → (life_at w.lives n).over ≡ false → is_some (slot_at w.paths n) ≡ true → Answers w n
    here may n o t = record { may = may; goes = o; there = t }

    writing_is : may_answer w ≡ true → (n : ℕ) (o : Option ContentDue) → next_content (path_at w.paths n) ≡ o → (life_at w.lives n).over ≡ false → FirstIs P (writing_on n o)
    writing_is may n None e f = tt
    writing_is may n (Some c) e f = here may n f (there_by next_content w.paths n c refl e)

    writing : may_answer w ≡ true → FirstIs P (writings w)
    writing may = each_is P _ w.lives (λ n. unless_by P (life_at w.lives n).over _ (writing_is may n (next_content (path_at w.paths n)) refl))

    answer_is : may_answer w ≡ true → (n : ℕ) (o : Option PathOk) → next_ok (path_at w.paths n) ≡ o → (life_at w.lives n).over ≡ false → FirstIs P (ok_on n o)
    answer_is may n None e f = tt
    answer_is may n (Some x) e f = when_is P (is_plain_ok x) (reply.OnChannel n (to_client.Ok x)) (here may n f (there_by next_ok w.paths n x refl e))

    consume_is : may_answer w ≡ true → (n : ℕ) (o : Option PathOk) → next_ok (path_at w.paths n) ≡ o → (life_at w.lives n).over ≡ false → FirstIs P (consume_ok_on n o)
    consume_is may n None e f = tt
    consume_is may n (Some x) e f = when_is P (is_consume_ok x) (reply.OnChannel n (to_client.Ok x)) (here may n f (there_by next_ok w.paths n x refl e))

    empty_is : may_answer w ≡ true → (n : ℕ) (o : Option PathOk) → next_ok (path_at w.paths n) ≡ o → (life_at w.lives n).over ≡ false → FirstIs P (empty_on n o)
    empty_is may n None e f = tt
    empty_is may n (Some x) e f = when_is P (is_empty_ok x) (reply.OnChannel n (to_client.Ok x)) (here may n f (there_by next_ok w.paths n x refl e))

    deliver_is : may_answer w ≡ true → (n : ℕ) (o : Option DeliverDue) → next_deliver (path_at w.paths n) ≡ o → (life_at w.lives n).over ≡ false → FirstIs P (deliver_on n o)
    deliver_is may n None e f = tt
    deliver_is may n (Some d) e f = when_is P (not d.get) (reply.OnChannel n (to_client.Deliver d)) (here may n f (there_by next_deliver w.paths n d refl e))

    get_ok_is : may_answer w ≡ true → (n : ℕ) (o : Option DeliverDue) → next_deliver (path_at w.paths n) ≡ o → (life_at w.lives n).over ≡ false → FirstIs P (get_ok_on n o)
    get_ok_is may n None e f = tt
    get_ok_is may n (Some d) e f = when_is P d.get (reply.OnChannel n (to_client.Deliver d)) (here may n f (there_by next_deliver w.paths n d refl e))

    get_is : may_answer w ≡ true → (n : ℕ) → (life_at w.lives n).over ≡ false → FirstIs P (get_on n (path_at w.paths n))
    get_is may n f =
        both_are P (empty_on n (next_ok (path_at w.paths n))) _ (empty_is may n (next_ok (path_at w.paths n)) refl f)
        (get_ok_is may n (next_deliver (path_at w.paths n)) refl f)

    answering : may_answer w ≡ true → FirstIs P (answers w)
    answering may =
        both_are P (open_oks w) _ (each_is P _ w.lives (λ n. when_by P (life_at w.lives n).open_ok (reply.ChannelOpenOk n) (λ e. record { may = may; due = e })))
        (both_are P (path_oks w) _ (each_is P _ w.lives (λ n. unless_by P (life_at w.lives n).over _ (answer_is may n (next_ok (path_at w.paths n)) refl)))
        (both_are P (consume_oks w) _ (each_is P _ w.lives (λ n. unless_by P (life_at w.lives n).over _ (consume_is may n (next_ok (path_at w.paths n)) refl)))
        (both_are P (gets w) (delivers w) (each_is P _ w.lives (λ n. unless_by P (life_at w.lives n).over _ (get_is may n)))
        (each_is P _ w.lives (λ n. unless_by P (life_at w.lives n).over _ (deliver_is may n (next_deliver (path_at w.paths n)) refl))))))

    ok_is : (n : ℕ) (settled : Bool) (l : Life) → FirstIs P (close_oks_on n settled l)
    ok_is n settled l = both_are P (when l.crossed_ok (reply.CrossedOk n)) _ (when_is P l.crossed_ok (reply.CrossedOk n) tt) (when_is P settled (reply.ChannelCloseOk n) tt)

    refusal_is : (n : ℕ) (settled : Bool) (o : Option Reason) → FirstIs P (refused_on settled n o)
    refusal_is n settled None = tt
    refusal_is n settled (Some r) = when_is P settled (reply.ChannelClose n r) tt

    close_is : (o : Option Refusal) → FirstIs P (closes o)
    close_is None = tt
    close_is (Some r) = tt

    closing : FirstIs P (close_oks p ++ (if_so (may_end w) (channel_oks w) ++ (last_closes p ++ if_so (may_tell w) (channel_closes w))))
    closing =
        both_are P (close_oks p) _ (when_is P p.close_ok reply.CloseOk tt)
        (both_are P (if_so (may_end w) (channel_oks w)) _
        (if_so_by P (may_end w) (channel_oks w) (λ e. each_is P _ w.lives (λ n. ok_is n _ (life_at w.lives n))))
        (both_are P (last_closes p) _ (both_are P (closes p.close) _ (close_is p.close) (when_is P p.no_memory reply.NoMemory tt))
        (if_so_by P (may_tell w) (channel_closes w) (λ e. each_is P _ w.lives (λ n. refusal_is n (is_channel_settled w n) (life_at w.lives n).close)))))

    confirm_is : (n : ℕ) (o : Option Confirm) → next_confirm (path_at w.paths n) ≡ o → FirstIs P (confirm_on (may_confirm (may_confirm_all w) (life_at w.lives n)) n o)
    confirm_is n None e = tt
    confirm_is n (Some c) e =
        when_by P (may_confirm (may_confirm_all w) (life_at w.lives n)) (reply.OnChannel n (to_client.Confirm c))
        (λ can. record { can = can; there = there_by next_confirm w.paths n c refl e })

    return_is : (n : ℕ) (o : Option NextReturn) → next_return (path_at w.paths n) ≡ o
        → FirstIs P (return_on (not w.out_of_memory && may_confirm (may_confirm_all w) (life_at w.lives n)) n o)
    return_is n None e = tt
    return_is n (Some r) e =
        when_by P ((not w.out_of_memory && may_confirm (may_confirm_all w) (life_at w.lives n)) && r.first) (reply.OnChannel n (to_client.Return r))
        (λ can f. record {
          can = and_right (not w.out_of_memory) _ (and_left (not w.out_of_memory && may_confirm (may_confirm_all w) (life_at w.lives n)) _ can);
          there = there_by next_return w.paths n r refl e;
        })

    confirming : FirstIs P (if_so (may_confirm_some w) (confirms w)
        ++ (close_oks p ++ (if_so (may_end w) (channel_oks w) ++ (last_closes p ++ if_so (may_tell w) (channel_closes w)))))
    confirming =
        both_are P (if_so (may_confirm_some w) (confirms w)) _
        (if_so_by P (may_confirm_some w) (confirms w)
        (λ e. each_is P _ w.lives (λ n. both_are P (return_on (not w.out_of_memory && may_confirm (may_confirm_all w) (life_at w.lives n)) n (next_return (path_at w.paths n))) _
        (return_is n (next_return (path_at w.paths n)) refl)
        (confirm_is n (next_confirm (path_at w.paths n)) refl))))
        closing

-- ---- so the channel is open, or its container closed it

pub record IsThere (h : List Step) (n : ℕ) : Type 0 where
  pub below : n < 256
  pub lives : is_some (path_life h n) ≡ true

pub there_is : (h : List Step) (n : ℕ) → ArePicks h → is_some (slot_at (before h).paths n) ≡ true → IsThere h n
there_is h n p e = by (slot_at (before h).paths n) refl e
  where
    made : (s : PathState) → IsLived h n s → IsThere h n
    made s l =
        let least : n ≤ CHANNEL_MAX = l.below in
        let most : CHANNEL_MAX ≡ 255 = refl in
        record { below = omega (arith, least, most); lives = ap is_some l.lives }

    by : (o : Option PathState) → slot_at (before h).paths n ≡ o → is_some o ≡ true → IsThere h n
    by None f g = absurd cc
    by (Some s) f g = made s (lived h n s p f)

open_by : (h : List Step) (n : ℕ) → ArePicks h → is_open (before h).conn n ≡ true → is_open (connection h) n ≡ true
open_by h n p e = sym (ap (λ (c : Connection). is_open c n) (conn_is (known h p))) ∙ e

runs_still : (out closing : Bool) → not (out || closing) ≡ true → closing ≡ false
runs_still true c e = absurd cc
runs_still false true e = absurd cc
runs_still false false e = refl

answered : (h : List Step) (n : ℕ) → ArePicks h → Answers (before h) n → is_open (connection h) n ≡ true
answered h n p a =
    let t = there_is h n p a.there in
    open_by h n p ((stands n h t.below p t.lives).goes a.goes (runs_still (before h).out_of_memory (is_closing (before h).conn) a.may))

owed : (h : List Step) (n : ℕ) → ArePicks h → Owed (before h) n → IsCalledFor h n
owed h n p a = by (life_at (before h).lives n).over refl (is_closing (before h).conn) refl
  where
    t : IsThere h n
    t = there_is h n p a.there

    s : StandsIn n h
    s = stands n h t.below p t.lives

    at : (o b all : Bool) → (if o then b else all) ≡ true → (v : Bool) → o ≡ v → (if v then b else all) ≡ true
    at o b all e v f = sym (ap (λ (x : Bool). if x then b else all) f) ∙ e

    can : (v : Bool) → (life_at (before h).lives n).over ≡ v → (if v then (life_at (before h).lives n).by_peer else may_confirm_all (before h)) ≡ true
    can = at (life_at (before h).lives n).over (life_at (before h).lives n).by_peer (may_confirm_all (before h)) a.can

    peers_doing : (out k q : Bool) → k ≡ true → (not (out || k) || q) ≡ true → q ≡ true
    peers_doing true true q e f = f
    peers_doing false true q e f = f
    peers_doing out false q e f = absurd cc

    by : (v : Bool) → (life_at (before h).lives n).over ≡ v → (k : Bool) → is_closing (before h).conn ≡ k → IsCalledFor h n
    by true e k f = inr (s.peer (can true e))
    by false e true f = inr (s.all e (peers_doing (before h).out_of_memory (is_closing (before h).conn) (before h).by_peer f (can false e)))
    by false e false f = inl (open_by h n p (s.goes e f))

-- a channel.open was taken up in the life in progress, or before it
opened_there : (n : ℕ) (h : List Step) → 1 ≤ wanted_in (is_method_on is_channel_open n) h → is_some (path_life h n) ≡ true
opened_there n [] e = absurd (omega (arith, e))
opened_there n (Came u ∷ h) e = by (ran_out_in h) (is_method_on is_channel_open n x) (opened_there n h) e
  where
    x : Want91
    x = want_in (routes_in h) (paths_in h) (connection h) u

    k : ℕ
    k = wanted_in (is_method_on is_channel_open n) h

    by : (a b : Bool) → (1 ≤ k → is_some (path_life h n) ≡ true) → 1 ≤ (if a then k else k + one_if b)
        → is_some (if not a && b then Some ((peers h).opened + 1) else path_life h n) ≡ true
    by true b more f = more f
    by false true more f = refl
    by false false more f = more (omega (arith, f))
opened_there n (s ∷ h) e = opened_there n h e

in_range : (ls : List Life) (n : ℕ) → (life_at ls n).open_ok ≡ true → n < length ls
in_range [] n e = absurd cc
in_range (x ∷ ls) zero e = omega arith
in_range (x ∷ ls) (suc n) e = let less : n < length ls = in_range ls n e in omega (arith, less)

-- its channel has a life, and is open
pub record IsThereOpen (h : List Step) (n : ℕ) : Type 0 where
  pub below : n < 256
  pub lives : is_some (path_life h n) ≡ true
  pub opened : is_open (before h).conn n ≡ true

pub there_open : (h : List Step) (n : ℕ) → ArePicks h → Opens (before h) n → IsThereOpen h n
there_open h n p a =
    let o = is_opening_ok h n p a.due in
    let below : n < 256 = subst (λ (m : ℕ). n < m) (lives_all h p) (in_range (before h).lives n a.due) in
    let lives : is_some (path_life h n) ≡ true = opened_there n h o.asked in
    record {
      below = below;
      lives = lives;
      opened = (stands n h below p lives).goes o.goes (runs_still (before h).out_of_memory (is_closing (before h).conn) a.may);
    }

opens_there : (h : List Step) (n : ℕ) → ArePicks h → Opens (before h) n → is_open (connection h) n ≡ true
opens_there h n p a = open_by h n p (there_open h n p a).opened

still_goes : (h : List Step) (u : Reply) → ArePicks h → Goes (before h) u → MayStillGo h u
still_goes h (reply.ChannelOpenOk n) p e = opens_there h n p e
still_goes h (reply.OnChannel n (to_client.Ok x)) p e = answered h n p e
still_goes h (reply.OnChannel n (to_client.Deliver d)) p e = answered h n p e
still_goes h (reply.OnChannel n (to_client.Content c)) p e = answered h n p e
still_goes h (reply.OnChannel n (to_client.Confirm c)) p e = owed h n p e
still_goes h (reply.OnChannel n (to_client.Return r)) p e = λ f. owed h n p (e f)
still_goes h u p e = tt

pub stops : (h : List Step) → ArePicks h → StopsWhenClosed h
stops [] p = tt
stops (Gave (ToClient u) text ∷ h) p = (still_goes h u p.1 (of_client (Goes (before h)) (client_rows (before h)) u (rows_go (before h)) p.0.1), stops h p.1)
stops (s ∷ h) p = stops h p.1
