-- What an event does to the content of a delivery that is being written, and to the fates of the deliveries that were taken.
use Rattle.std.proofs.Common.{◌≡◌, ℕ, ◌+◌, ◌==◌, ◌<◌, ◌≤◌, not, ◌&&◌, ◌||◌, Bool, true, false, if◌then◌else◌, List, [], ◌∷◌, ◌++◌, Option, None, Some}
use Rattle.std.proofs.Common.{refl, ap, ◌∙◌, arith, is_some}
use Rattle.std.proofs.lemmas.Bool.Decides.{nat_tests}
use Rattle.std.specs.List.{AllByRecursion}
use Rattle.std.specs.Option.{option_or}
use Rattle.consume_path.specs.Deliveries as on
use Rattle.consume_path.specs.Deliveries.{DeliveryEvent}
use Rattle.consume_path.specs.Journal.{Fate, IsTaken, arrives, caused, closes, fate_of, first_cause, is_closed, is_pending, new_fate, numbers_of}
use Rattle.consume_path.specs.Journal.{passes, tags_of, waits}
use Rattle.consume_path.specs.Offers.{next_settle_of}
use Rattle.consume_path.specs.declared.delivery.Content.{Content}
use Rattle.consume_path.specs.declared.delivery.NextSettle.{NextSettle}
use Rattle.consume_path.specs.declared.delivery.Settle.{Settle}
use Rattle.consume_path.specs.declared.delivery.Settle.TheVariants.{Accepted, Released}
use Rattle.consume_path.specs.declared.delivery.Taker.{Taker}
use Rattle.consume_path.specs.Items.{is_no_ack, is_on}
use Rattle.consume_path.specs.declared.receiving.NextGrant.{NextGrant}
use Rattle.consume_path.specs.declared.receiving.Part.{Part}
use Rattle.session_path.specs.Events as event
use Rattle.session_path.specs.Events.{PathEvent, after_event, delivery_events}
use Rattle.session_path.specs.Links.{asked_by, named}
use Rattle.session_path.specs.Path.{PathState, begun_if, begun_on, detaching_of, disposed_by, dropped, dropped_by, flowed_by, get_link, got_on}
use Rattle.session_path.specs.Path.{grant_in, granted_by, is_grant_next, queue_or, receiver_in, taking, transferred_on}
use Rattle.session_path.specs.declared.path.AttachHeard.{AttachHeard}
use Rattle.session_path.specs.declared.path.PathLink.{PathLink}
use Rattle.session_path.specs.declared.path.PathOk.{PathOk}
use Rattle.gate_model.proofs.Brought.{OfEvent, event_all, is_mild}
use Rattle.gate_model.proofs.Quiet.{is_told}

-- ---- delivery events

-- neither the last byte of a content was taken nor did the life close
abbrev pub is_other : DeliveryEvent → Bool
is_other (on.Written tag) = false
is_other on.Closed = false
is_other x = true

abbrev pub AreOther : List DeliveryEvent → Type 0
AreOther ys = AllByRecursion (λ y. is_other y ≡ true) ys

pub other_closed : (ys ds : List DeliveryEvent) → AreOther ys → is_closed (ys ++ ds) ≡ is_closed ds
other_closed [] ds p = refl
other_closed (y ∷ ys) ds p = ap (λ (b : Bool). b || is_closed (ys ++ ds)) (no_close y p.0) ∙ other_closed ys ds p.1
  where
    no_close : (y : DeliveryEvent) → is_other y ≡ true → closes y ≡ false
    no_close on.Closed e = absurd cc
    no_close (on.Written tag) e = absurd cc
    no_close y e = refl

-- ---- one that was taken

pub taken_more : (ys ds : List DeliveryEvent) (n : ℕ) → IsTaken ds n → IsTaken (ys ++ ds) n
taken_more [] ds n t = t
taken_more (y ∷ ys) ds n t = let u = taken_more ys ds n t in (u.0, by (arrives y) u.1)
  where
    by : (b : Bool) → n ≤ numbers_of (ys ++ ds) → n ≤ (if b then numbers_of (ys ++ ds) + 1 else numbers_of (ys ++ ds))
    by true le = omega (arith, le)
    by false le = le

-- its delivery-id and its content stay, and a tag that it has
pub record Stays (f g : Fate) : Type 0 where
  pub id : g.id ≡ f.id
  pub content : g.content ≡ f.content
  pub tag : (t : ℕ) → f.tag ≡ Some t → g.tag ≡ Some t

the_same : (f : Fate) → Stays f f
the_same f = record { id = refl; content = refl; tag = λ t e. e }

tagged_waits : (p : Bool) (o : Option ℕ) (t : ℕ) → o ≡ Some t → (p && not (is_some o)) ≡ false
tagged_waits true o t e = ap (λ (x : Option ℕ). not (is_some x)) e
tagged_waits false o t e = refl

pub not_new : (h : List DeliveryEvent) (n : ℕ) → IsTaken h n → (n == numbers_of h + 1) ≡ false
not_new h n t = let le : n ≤ numbers_of h = t.1 in let more : n < numbers_of h + 1 = omega (arith, le) in grind (arith, nat_tests, more)

stays : (h : List DeliveryEvent) (x : DeliveryEvent) (n : ℕ) → IsTaken h n → Stays (fate_of n h) (fate_of n (x ∷ h))
stays h (on.Arrived a content again) n t = by (n == numbers_of h + 1) (not_new h n t)
  where
    by : (b : Bool) → b ≡ false → Stays (fate_of n h) (if b then new_fate (is_closed h) a content again else fate_of n h)
    by true e = absurd cc
    by false e = the_same (fate_of n h)
stays h (on.Delivered number) n t =
    record { id = refl; content = refl; tag = λ k e. by (n == number) (waits (fate_of n h)) k (tagged_waits (is_pending (fate_of n h)) (fate_of n h).tag k e) e }
  where
    by : (a b : Bool) (k : ℕ) → b ≡ false → (fate_of n h).tag ≡ Some k → (if a && b then Some (tags_of h + 1) else (fate_of n h).tag) ≡ Some k
    by true true k e f = absurd cc
    by true false k e f = f
    by false b k e f = f
stays h (on.LinkDropped link) n t = record { id = refl; content = refl; tag = λ k e. e }
stays h (on.Written tag) n t = record { id = refl; content = refl; tag = λ k e. e }
stays h (on.Answered tag multiple s) n t = record { id = refl; content = refl; tag = λ k e. e }
stays h (on.Cancelled link) n t = record { id = refl; content = refl; tag = λ k e. e }
stays h on.Closed n t = record { id = refl; content = refl; tag = λ k e. e }
stays h on.EndLost n t = record { id = refl; content = refl; tag = λ k e. e }
stays h (on.SettleSent s) n t = record { id = refl; content = refl; tag = λ k e. e }
stays h on.LinesTold n t = record { id = refl; content = refl; tag = λ k e. e }
stays h x n t = the_same (fate_of n h)

pub stays_all : (ys ds : List DeliveryEvent) (n : ℕ) → IsTaken ds n → Stays (fate_of n ds) (fate_of n (ys ++ ds))
stays_all [] ds n t = the_same (fate_of n ds)
stays_all (y ∷ ys) ds n t =
    let old = stays_all ys ds n t in
    let new = stays (ys ++ ds) y n (taken_more ys ds n t) in
    record { id = new.id ∙ old.id; content = new.content ∙ old.content; tag = λ k e. new.tag k (old.tag k e) }

-- it is complete once its last byte was taken alone
unfinished : (h : List DeliveryEvent) (x : DeliveryEvent) (n : ℕ) → IsTaken h n → is_other x ≡ true → (fate_of n (x ∷ h)).complete ≡ (fate_of n h).complete
unfinished h (on.Arrived a content again) n t e = by (n == numbers_of h + 1) (not_new h n t)
  where
    by : (b : Bool) → b ≡ false → (if b then new_fate (is_closed h) a content again else fate_of n h).complete ≡ (fate_of n h).complete
    by true f = absurd cc
    by false f = refl
unfinished h (on.Written tag) n t e = absurd cc
unfinished h on.Closed n t e = absurd cc
unfinished h x n t e = refl

pub unfinished_all : (ys ds : List DeliveryEvent) (n : ℕ) → IsTaken ds n → AreOther ys → (fate_of n (ys ++ ds)).complete ≡ (fate_of n ds).complete
unfinished_all [] ds n t p = refl
unfinished_all (y ∷ ys) ds n t p = unfinished (ys ++ ds) y n (taken_more ys ds n t) p.0 ∙ unfinished_all ys ds n t p.1

-- and only one that has a tag
pub none_written : (h : List DeliveryEvent) (n : ℕ) → (fate_of n h).tag ≡ None → (fate_of n h).complete ≡ false
none_written [] n e = refl
none_written (on.Arrived a content again ∷ h) n e = by (n == numbers_of h + 1) (none_written h n) e
  where
    by : (b : Bool) → ((fate_of n h).tag ≡ None → (fate_of n h).complete ≡ false) → (if b then new_fate (is_closed h) a content again else fate_of n h).tag ≡ None
        → (if b then new_fate (is_closed h) a content again else fate_of n h).complete ≡ false
    by true old f = refl
    by false old f = old f
none_written (on.Delivered number ∷ h) n e = by (n == number && waits (fate_of n h)) (none_written h n) e
  where
    by : (b : Bool) → ((fate_of n h).tag ≡ None → (fate_of n h).complete ≡ false) → (if b then Some (tags_of h + 1) else (fate_of n h).tag) ≡ None
        → (fate_of n h).complete ≡ false
    by true old f = absurd cc
    by false old f = old f
none_written (on.Written tag ∷ h) n e = by (fate_of n h).tag (fate_of n h).complete e (none_written h n e)
  where
    by : (o : Option ℕ) (b : Bool) → o ≡ None → b ≡ false → (b || passes (λ t. t == tag) o) ≡ false
    by None false f g = refl
    by None true f g = absurd cc
    by (Some t) b f g = absurd cc
none_written (x ∷ h) n e = none_written h n e

-- once the life closed, something settles it
due_stays : (b : Bool) (s : Settle) (o : Option Settle) → is_some o ≡ true → is_some (caused b s o) ≡ true
due_stays true s (Some x) e = refl
due_stays true s None e = refl
due_stays false s o e = e

closed_due : (image : Bool) (taker : Taker) → is_some (first_cause true image taker) ≡ true
closed_due true taker = refl
closed_due false taker = refl

pub closed_settles : (h : List DeliveryEvent) (n : ℕ) → is_closed h ≡ true → IsTaken h n → is_some (fate_of n h).due ≡ true
closed_settles [] n e t = absurd cc
closed_settles (on.Arrived a content again ∷ h) n e t = by (n == numbers_of h + 1) refl (closed_settles h n e)
  where
    new : (b : Bool) → b ≡ true → is_some (first_cause b (is_some content) a.taker) ≡ true
    new true f = closed_due (is_some content) a.taker
    new false f = absurd cc

    by : (b : Bool) → (n == numbers_of h + 1) ≡ b → (IsTaken h n → is_some (fate_of n h).due ≡ true)
        → is_some (if b then new_fate (is_closed h) a content again else fate_of n h).due ≡ true
    by true f old = new (is_closed h) e
    by false f old =
        let le : n ≤ numbers_of h + 1 = t.1 in
        let other : n < numbers_of h + 1 = grind (arith, nat_tests, f, le) in
        old (t.0, omega (arith, other))
closed_settles (on.Closed ∷ h) n e t = by (fate_of n h).due
  where
    by : (o : Option Settle) → is_some (option_or o (Some Released)) ≡ true
    by None = refl
    by (Some x) = refl
closed_settles (on.Written tag ∷ h) n e t = due_stays (is_no_ack (fate_of n h).taker && _) Accepted (fate_of n h).due (closed_settles h n e t)
closed_settles (on.Answered tag multiple s ∷ h) n e t = due_stays (not (is_no_ack (fate_of n h).taker) && _) s (fate_of n h).due (closed_settles h n e t)
closed_settles (on.Cancelled link ∷ h) n e t = due_stays (is_on link (fate_of n h).link && _) Released (fate_of n h).due (closed_settles h n e t)
closed_settles (x ∷ h) n e t = closed_settles h n e t

-- so one that waits is of a life that goes on
pub waits_open : (h : List DeliveryEvent) (n : ℕ) → IsTaken h n → waits (fate_of n h) ≡ true → is_closed h ≡ false
waits_open h n t w = by (is_closed h) refl
  where
    none : (b l s : Bool) → b ≡ true → ((not b && not l) && s) ≡ true → ⊥
    none true l s e f = cc
    none false l s e f = cc

    by : (b : Bool) → is_closed h ≡ b → b ≡ false
    by true e = absurd (none (is_some (fate_of n h).due) (fate_of n h).left (not (is_some (fate_of n h).tag)) (closed_settles h n e t) w)
    by false e = refl

-- ---- events of a path

-- what is written stays, or none is any more and the life is closed
pub data Calm (s : PathState) (x : PathEvent) : Type 0 where
  Still : (after_event x s).writing ≡ s.writing → AreOther (delivery_events s x) → Calm s x
  Shuts : (after_event x s).writing ≡ None → ((ds : List DeliveryEvent) → is_closed (delivery_events s x ++ ds) ≡ true) → Calm s x

if_same : (b : Bool) (t u s : PathState) → t.writing ≡ s.writing → u.writing ≡ s.writing → (if b then t else u).writing ≡ s.writing
if_same true t u s e f = e
if_same false t u s e f = f

others : (s : PathState) (x : PathEvent) → OfEvent (λ (d : DeliveryEvent). is_other d ≡ true) s x → AreOther (delivery_events s x)
others = event_all (λ (d : DeliveryEvent). is_other d ≡ true) mild
  where
    mild : (d : DeliveryEvent) → is_mild d ≡ true → is_other d ≡ true
    mild (on.Written tag) e = absurd cc
    mild on.Closed e = absurd cc
    mild d e = refl

still : (s : PathState) (x : PathEvent) → (after_event x s).writing ≡ s.writing → OfEvent (λ (d : DeliveryEvent). is_other d ≡ true) s x → Calm s x
still s x e o = Still e (others s x o)

pub owed_calm : (x : PathOk) (s : PathState) → Calm s (event.Owed x)
owed_calm x s = still s (event.Owed x) refl tt

pub told_calm : (x : PathOk) (s : PathState) → Calm s (event.OkSent x)
told_calm x s = still s (event.OkSent x) refl tt

got_calm : (queue : List ℕ) (no_ack : Bool) (s : PathState) → Calm s (event.GetAsked queue no_ack)
got_calm queue no_ack s = still s (event.GetAsked queue no_ack) (stay (get_link (queue_or s.queue queue) s)) refl
  where
    stay : (o : Option PathLink) → (got_on o (queue_or s.queue queue) no_ack s).writing ≡ s.writing
    stay None = refl
    stay (Some l) = refl

attach_calm : (a : AttachHeard) (s : PathState) → Calm s (event.AttachCame a)
attach_calm a s = still s (event.AttachCame a) (stay (asked_by a s.links) _ refl) tt
  where
    stay : (o : Option PathLink) (t : PathState) → t.writing ≡ s.writing → (begun_if o a t).writing ≡ s.writing
    stay None t e = e
    stay (Some l) t e = if_same (l.receives && a.there) (begun_on l.link a.count t) t s e e

flow_calm : (peer : ℕ) (count : Option ℕ) (credit : ℕ) (drain echo : Bool) (s : PathState) → Calm s (event.FlowCame peer count credit drain echo)
flow_calm peer count credit drain echo s = still s (event.FlowCame peer count credit drain echo) (stay (receiver_in (named peer s.links))) tt
  where
    stay : (o : Option PathLink) → (flowed_by o peer count credit drain echo s).writing ≡ s.writing
    stay None = refl
    stay (Some l) = refl

transfer_calm : (peer : ℕ) (part : Part) (payload : List ℕ) (image : Option Content) (again : Bool) (s : PathState)
    → Calm s (event.TransferCame peer part payload image again)
transfer_calm peer part payload image again s =
    still s (event.TransferCame peer part payload image again) (stay (taking peer s)) (λ link d. refl)
  where
    stay : (o : Option PathLink) → (transferred_on o part payload image again s).writing ≡ s.writing
    stay None = refl
    stay (Some l) = refl

flow_sent_calm : (s : PathState) → Calm s event.LinkFlowSent
flow_sent_calm s = still s event.LinkFlowSent (if_same (is_grant_next s) (granted_by (grant_in s) s) _ s (stay (grant_in s)) refl) tt
  where
    stay : (o : Option NextGrant) → (granted_by o s).writing ≡ s.writing
    stay None = refl
    stay (Some g) = refl

dispose_calm : (s : PathState) → Calm s event.DisposeSent
dispose_calm s = still s event.DisposeSent (stay (next_settle_of s.deliveries.list)) tt
  where
    stay : (o : Option NextSettle) → (disposed_by o s).writing ≡ s.writing
    stay None = refl
    stay (Some x) = refl

detach_calm : (s : PathState) → Calm s event.DetachSent
detach_calm s = still s event.DetachSent (stay (detaching_of s) _ refl) tt
  where
    stay : (o : Option PathLink) (t : PathState) → t.writing ≡ s.writing → (dropped_by o t).writing ≡ s.writing
    stay None t e = e
    stay (Some l) t e = if_same l.receives (dropped l.link t) t s e e

abbrev pub IsCalm : PathEvent → Type 0
IsCalm x = (s : PathState) → Calm s x

pub each_calm : (x : PathEvent) → is_told x ≡ false → IsCalm x
each_calm (event.Owed x) e = owed_calm x
each_calm (event.Consumed address tag no_ack no_wait) e = λ s. Still refl (refl, tt)
each_calm (event.CancelCame tag no_wait) e = λ s. still s (event.CancelCame tag no_wait) refl tt
each_calm (event.Declared queue no_wait) e = λ s. Still refl (refl, tt)
each_calm (event.GetAsked queue no_ack) e = got_calm queue no_ack
each_calm (event.AnswerCame tag multiple settle) e = λ s. Still refl (refl, tt)
each_calm (event.AttachCame a) e = attach_calm a
each_calm (event.FlowCame peer count credit drain echo) e = flow_calm peer count credit drain echo
each_calm (event.TransferCame peer part payload image again) e = transfer_calm peer part payload image again
each_calm event.LinkFlowSent e = flow_sent_calm
each_calm event.DisposeSent e = dispose_calm
each_calm event.DetachSent e = detach_calm
each_calm event.LinesWent e = λ s. Still refl (refl, tt)
each_calm event.LifeClosed e = λ s. Shuts refl (λ ds. refl)
each_calm event.SessionLost e = λ s. Shuts refl (λ ds. refl)
each_calm event.SessionEnded e = λ s. Shuts refl (λ ds. refl)
each_calm event.UpLost e = λ s. Shuts refl (λ ds. refl)
each_calm (event.ConfirmWent c) e = absurd cc
each_calm (event.ReturnWent number) e = absurd cc
each_calm (event.DeliverSent d) e = absurd cc
each_calm event.ContentSent e = absurd cc
each_calm (event.ContentWhole tag) e = absurd cc
each_calm (event.OkSent x) e = absurd cc
each_calm x e = λ s. Still refl tt
