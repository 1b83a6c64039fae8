-- The laws of a session's path, by its events.
use Rattle.std.proofs.Common.{◌≡◌, ◌∙◌, ℕ, List, [], ◌∷◌, ◌++◌, Bool, true, false, Option, Some}
use Rattle.std.proofs.Common.{None, drop, refl, sym, ap, cond}
use Rattle.std.specs.Prelude.{not, ◌&&◌}
use Rattle.std.specs.List.{list_any}
use Rattle.consume_path.specs.Deliveries as on
use Rattle.consume_path.specs.Deliveries.{DeliveryEvent, DeliveryState}
use Rattle.consume_path.specs.Deliveries.{after_event as delivery_event}
use Rattle.consume_path.specs.Deliveries.{after_events as deliveries_after}
use Rattle.consume_path.specs.Links.{consumer_link}
use Rattle.consume_path.specs.Offers.{is_drained, next_settle_of}
use Rattle.consume_path.specs.declared.delivery.Content.{Content}
use Rattle.consume_path.specs.declared.delivery.NextSettle.{NextSettle}
use Rattle.consume_path.specs.declared.receiving.NextGrant.{NextGrant}
use Rattle.consume_path.specs.declared.receiving.Part.{Part}
use Rattle.consume_path.specs.declared.receiving.RecvKind.TheVariants.{Consumer, Get, Probe}
use Rattle.publish_path.specs.Links.{link_to}
use Rattle.publish_path.specs.Offers.{frame_sent}
use Rattle.publish_path.specs.Publishes.{PublishEvent, PublishState, TakenUp, OutcomeCame, LinkGone}
use Rattle.publish_path.specs.Publishes.{ConfirmSent, LinesTold, ReturnSent, is_told}
use Rattle.publish_path.specs.Publishes.{after_event as publish_event}
use Rattle.publish_path.specs.Publishes.{after_events as publishes_after}
use Rattle.session_path.specs.Links.{asked_by, attached, free_number, linked_to, named}
use Rattle.session_path.specs.Links.{parted, told_on}
use Rattle.session_path.specs.Path.{PathState, arrival_on, arrived_on, begun_if, begun_on}
use Rattle.session_path.specs.Path.{detaching_of, disposed_by, dropped, dropped_by, emptied_in}
use Rattle.session_path.specs.Path.{flow_in, flow_of, flowed_by, get_link, got_on, queue_or}
use Rattle.session_path.specs.Path.{transferred as transferred_in}
use Rattle.session_path.specs.Path.{grant_in, granted_by, is_grant_next, is_last, last_or, lost_on}
use Rattle.session_path.specs.Path.{number_of, receiver_in, sender_in, settle_if, tag_for, taking}
use Rattle.session_path.specs.Path.{cancelled_on, first_of, global_by, prefetch_by}
use Rattle.session_path.specs.Path.{transferred_on}
use Rattle.session_path.specs.Events.{PathEvent, Began, Published, Selected, Owed, Consumed}
use Rattle.session_path.specs.Events.{AnswerCame, CancelCame, Declared, GetAsked, AttachCame}
use Rattle.session_path.specs.Events.{FlowCame, DetachCame, TransferCame}
use Rattle.session_path.specs.Events.{LinkFailed, DispositionCame, AttachSent, LinkFlowSent}
use Rattle.session_path.specs.Events.{TransferSent, SettleSent, DisposeSent, DetachSent}
use Rattle.session_path.specs.Events.{ConfirmWent, ReturnWent, DeliverSent, ContentSent}
use Rattle.session_path.specs.Events.{ContentWhole, OkSent, LinesWent, LifeClosed, SessionLost}
use Rattle.session_path.specs.Events.{SessionEnded, UpLost, after_event, after_events, arrivals, begins}
use Rattle.session_path.specs.Events.{deliveries_of, delivery_events, disposes, drops, flows}
use Rattle.session_path.specs.Events.{grants}
use Rattle.session_path.specs.Events.{cancels, counts, echoes, empties, gets, globals, losses}
use Rattle.session_path.specs.Events.{prefetches, publish_events, publishes_of, transfers}
use Rattle.session_path.specs.Laws.{IsFrontOf, AreAnswers, AreSettles, answers, oks_owed, oks_sent}
use Rattle.session_path.specs.Laws.{owed_by, owes, settles, settles_owed, settles_sent}
use Rattle.session_path.specs.declared.path.AttachHeard.{AttachHeard}
use Rattle.session_path.specs.declared.path.PathLink.{PathLink}
use Rattle.session_path.specs.declared.path.PathOk.{PathOk}
use Rattle.session_path.specs.declared.path.PathOk.TheVariants as ok
use Rattle.session_path.specs.declared.path.Settling.{Settling}
use Rattle.session_path.proofs.Kept.{begun, disposed, flowed, got_keeps, granted, parted_keeps}
use Rattle.session_path.proofs.Kept.{transferred}

lost_step : (life : ℕ) (b : Bool) (o : Option PathLink) (p : PublishState) (h : List PublishEvent) → p ≡ publishes_after life h → lost_on b o p ≡ publishes_after life (losses b o ++ h)
lost_step life b None p h e = e
lost_step life b (Some l) p h e = ap (lost_on b (Some l)) e

publish_step : (life : ℕ) (x : PathEvent) (s : PathState) (h : List PublishEvent) → s.publishes ≡ publishes_after life h → (after_event x s).publishes ≡ publishes_after life (publish_events s x ++ h)
publish_step life (Began handle_max) s h e = e
publish_step life (Published address payload back) s h e = ap (publish_event (TakenUp (number_of (link_to (linked_to address s.links).sending address)) s.confirms payload back)) e
publish_step life Selected s h e = e
publish_step life (Owed ok) s h e = e
publish_step life (Consumed address tag no_ack no_wait) s h e = e
publish_step life (CancelCame tag no_wait) s h e = e
publish_step life (Declared queue no_wait) s h e = e
publish_step life (GetAsked queue no_ack) s h e = (got_keeps (get_link (queue_or s.queue queue) s) (queue_or s.queue queue) no_ack s).publishes ∙ e
publish_step life (AnswerCame tag multiple settle) s h e = e
publish_step life (AttachCame attach) s h e = (begun (asked_by attach s.links) attach (record s { links = attached attach s.links })).publishes ∙ e
publish_step life (FlowCame peer count credit drain echo) s h e = (flowed (receiver_in (named peer s.links)) peer count credit drain echo s).publishes ∙ e
publish_step life (DetachCame peer not_found) s h e = lost_step life not_found (sender_in (named peer s.links)) s.publishes h e
publish_step life (TransferCame peer part payload image again) s h e = (transferred (taking peer s) part payload image again s).publishes ∙ e
publish_step life (LinkFailed peer fault) s h e = e
publish_step life (DispositionCame first last outcome settled) s h e = ap (publish_event (OutcomeCame first (last_or first last) outcome)) e
publish_step life (AttachSent name) s h e = e
publish_step life LinkFlowSent s h e = (granted (is_grant_next s) (grant_in s) s).publishes ∙ e
publish_step life (TransferSent frame count) s h e = ap (publish_event (frame_sent frame count s.publishes.list)) e
publish_step life (SettleSent settling) s h e = e
publish_step life DisposeSent s h e = (disposed (next_settle_of s.deliveries.list) s).publishes ∙ e
publish_step life DetachSent s h e = (parted_keeps (detaching_of s) (record s { links = parted (detaching_of s) s.links })).publishes ∙ e
publish_step life (ConfirmWent confirm) s h e = ap (publish_event (ConfirmSent confirm)) e
publish_step life (ReturnWent number) s h e = ap (publish_event (ReturnSent number)) e
publish_step life (DeliverSent due) s h e = e
publish_step life ContentSent s h e = e
publish_step life (ContentWhole tag) s h e = e
publish_step life (OkSent ok) s h e = e
publish_step life LinesWent s h e = ap (publish_event LinesTold) e
publish_step life LifeClosed s h e = e
publish_step life SessionLost s h e = ap (publish_event (LinkGone None false)) e
publish_step life SessionEnded s h e = ap (publish_event (LinkGone None false)) e
publish_step life UpLost s h e = ap (publish_event (LinkGone None false)) e

pub publishes_are : (life : ℕ) (h : List PathEvent) → (after_events life h).publishes ≡ publishes_after life (publishes_of life h)
publishes_are life [] = refl
publishes_are life (x ∷ h) = publish_step life x (after_events life h) (publishes_of life h) (publishes_are life h)

-- what went, and then what is due, are what was owed: where one more goes
nil : {A : Type 0} (xs : List A) → xs ++ [] ≡ xs
nil [] = refl
nil (x ∷ xs) = ap (λ ys. x ∷ ys) (nil xs)

assoc : {A : Type 0} (xs ys zs : List A) → (xs ++ ys) ++ zs ≡ xs ++ (ys ++ zs)
assoc [] ys zs = refl
assoc (x ∷ xs) ys zs = ap (λ ws. x ∷ ws) (assoc xs ys zs)

cancel : {A : Type 0} (xs ys zs : List A) → xs ++ ys ≡ xs ++ zs → ys ≡ zs
cancel [] ys zs e = e
cancel (x ∷ xs) ys zs e = cancel xs ys zs (cc)

one_gone : {A : Type 0} (sent : List A) (a : A) (due all rest : List A) → sent ++ due ≡ all → (sent ++ a ∷ []) ++ rest ≡ all → (sent ++ a ∷ []) ++ drop 1 due ≡ all
one_gone {A} sent a due all rest e f =
    let same : due ≡ a ∷ rest = cancel sent due (a ∷ rest) (e ∙ (sym f ∙ assoc sent (a ∷ []) rest)) in
    assoc sent (a ∷ []) (drop 1 due) ∙ (ap (λ (ds : List A). sent ++ (a ∷ drop 1 ds)) same ∙ (sym (assoc sent (a ∷ []) rest) ∙ f))

one_owed : {A : Type 0} (sent due all new : List A) → sent ++ due ≡ all → (sent ++ []) ++ (due ++ new) ≡ all ++ new
one_owed {A} sent due all new e = ap (λ (xs : List A). xs ++ (due ++ new)) (nil sent) ∙ (sym (assoc sent due new) ∙ ap (λ (xs : List A). xs ++ new) e)

none : {A : Type 0} (sent due all : List A) → sent ++ due ≡ all → (sent ++ []) ++ due ≡ all ++ []
none {A} sent due all e = ap (λ (xs : List A). xs ++ due) (nil sent) ∙ (e ∙ sym (nil all))

one_unless : {A : Type 0} (b : Bool) (sent due all : List A) (a : A) → sent ++ due ≡ all → (sent ++ []) ++ cond b due (due ++ a ∷ []) ≡ all ++ cond b [] (a ∷ [])
one_unless true sent due all a e = none sent due all e
one_unless false sent due all a e = one_owed sent due all (a ∷ []) e

gone_if : {A : Type 0} (b : Bool) (sent : List A) (a : A) (due all : List A) → sent ++ due ≡ all → IsFrontOf (sent ++ cond b (a ∷ []) []) all
    → (sent ++ cond b (a ∷ []) []) ++ cond b (drop 1 due) due ≡ all ++ []
gone_if true sent a due all e f = one_gone sent a due all f.0 e f.1 ∙ sym (nil all)
gone_if false sent a due all e f = none sent due all e

same_all : {A : Type 0} (sent due all : List A) → sent ++ due ≡ all → (sent ++ []) ++ due ≡ all
same_all {A} sent due all e = ap (λ (xs : List A). xs ++ due) (nil sent) ∙ e

pub oks_are : (life : ℕ) (h : List PathEvent) → AreAnswers life h → oks_sent h ++ (after_events life h).oks ≡ oks_owed life h
oks_are life [] a = refl
oks_are life (x ∷ h) a = by x (oks_are life h a.1) a.0
  where
    by : (x : PathEvent) → oks_sent h ++ (after_events life h).oks ≡ oks_owed life h → IsFrontOf (oks_sent h ++ answers x) (oks_owed life h)
        → (oks_sent h ++ answers x) ++ (after_event x (after_events life h)).oks ≡ oks_owed life h ++ owes (after_events life h) x
    by (Began handle_max) e f = none (oks_sent h) (after_events life h).oks (oks_owed life h) e
    by (Published address payload back) e f = none (oks_sent h) (after_events life h).oks (oks_owed life h) e
    by Selected e f = none (oks_sent h) (after_events life h).oks (oks_owed life h) e
    by (Owed ok) e f = one_owed (oks_sent h) (after_events life h).oks (oks_owed life h) (ok ∷ []) e
    by (Consumed address tag no_ack no_wait) e f = none (oks_sent h) (after_events life h).oks (oks_owed life h) e
    by (CancelCame tag no_wait) e f = one_unless no_wait (oks_sent h) (after_events life h).oks (oks_owed life h) ok.Cancel e
    by (Declared queue no_wait) e f = none (oks_sent h) (after_events life h).oks (oks_owed life h) e
    by (GetAsked queue no_ack) e f = let s = after_events life h in ap (λ (xs : List PathOk). (oks_sent h ++ []) ++ xs) (got_keeps (get_link (queue_or s.queue queue) s) (queue_or s.queue queue) no_ack s).oks ∙ none (oks_sent h) s.oks (oks_owed life h) e
    by (AnswerCame tag multiple settle) e f = none (oks_sent h) (after_events life h).oks (oks_owed life h) e
    by (AttachCame attach) e f = let s = after_events life h in ap (λ (xs : List PathOk). (oks_sent h ++ []) ++ xs) (begun (asked_by attach s.links) attach (record s { links = attached attach s.links })).oks ∙ one_owed (oks_sent h) s.oks (oks_owed life h) (owes s (AttachCame attach)) e
    by (FlowCame peer count credit drain echo) e f = let s = after_events life h in ap (λ (xs : List PathOk). (oks_sent h ++ []) ++ xs) (flowed (receiver_in (named peer s.links)) peer count credit drain echo s).oks ∙ one_owed (oks_sent h) s.oks (oks_owed life h) (owes s (FlowCame peer count credit drain echo)) e
    by (DetachCame peer not_found) e f = none (oks_sent h) (after_events life h).oks (oks_owed life h) e
    by (TransferCame peer part payload image again) e f = let s = after_events life h in ap (λ (xs : List PathOk). (oks_sent h ++ []) ++ xs) (transferred (taking peer s) part payload image again s).oks ∙ one_owed (oks_sent h) s.oks (oks_owed life h) (owes s (TransferCame peer part payload image again)) e
    by (LinkFailed peer fault) e f = none (oks_sent h) (after_events life h).oks (oks_owed life h) e
    by (DispositionCame first last outcome settled) e f = none (oks_sent h) (after_events life h).oks (oks_owed life h) e
    by (AttachSent name) e f = none (oks_sent h) (after_events life h).oks (oks_owed life h) e
    by LinkFlowSent e f = let s = after_events life h in ap (λ (xs : List PathOk). (oks_sent h ++ []) ++ xs) (granted (is_grant_next s) (grant_in s) s).oks ∙ none (oks_sent h) s.oks (oks_owed life h) e
    by (TransferSent frame count) e f = none (oks_sent h) (after_events life h).oks (oks_owed life h) e
    by (SettleSent settling) e f = none (oks_sent h) (after_events life h).oks (oks_owed life h) e
    by DisposeSent e f = let s = after_events life h in ap (λ (xs : List PathOk). (oks_sent h ++ []) ++ xs) (disposed (next_settle_of s.deliveries.list) s).oks ∙ none (oks_sent h) s.oks (oks_owed life h) e
    by DetachSent e f = let s = after_events life h in ap (λ (xs : List PathOk). (oks_sent h ++ []) ++ xs) (parted_keeps (detaching_of s) (record s { links = parted (detaching_of s) s.links })).oks ∙ none (oks_sent h) s.oks (oks_owed life h) e
    by (ConfirmWent confirm) e f = none (oks_sent h) (after_events life h).oks (oks_owed life h) e
    by (ReturnWent number) e f = none (oks_sent h) (after_events life h).oks (oks_owed life h) e
    by (DeliverSent due) e f = gone_if due.get (oks_sent h) ok.Get (after_events life h).oks (oks_owed life h) e f
    by ContentSent e f = none (oks_sent h) (after_events life h).oks (oks_owed life h) e
    by (ContentWhole tag) e f = none (oks_sent h) (after_events life h).oks (oks_owed life h) e
    by (OkSent ok) e f = one_gone (oks_sent h) ok (after_events life h).oks (oks_owed life h) f.0 e f.1 ∙ sym (nil (oks_owed life h))
    by LinesWent e f = none (oks_sent h) (after_events life h).oks (oks_owed life h) e
    by LifeClosed e f = none (oks_sent h) (after_events life h).oks (oks_owed life h) e
    by SessionLost e f = none (oks_sent h) (after_events life h).oks (oks_owed life h) e
    by SessionEnded e f = none (oks_sent h) (after_events life h).oks (oks_owed life h) e
    by UpLost e f = none (oks_sent h) (after_events life h).oks (oks_owed life h) e

settle_more : (due told_now told_then : Bool) (x : Settling) (sent due_list all : List Settling) → told_now ≡ told_then → sent ++ due_list ≡ all
    → (sent ++ []) ++ settle_if (due && told_now) x due_list ≡ settle_if (due && told_then) x all
settle_more due told_now told_then x sent due_list all same e =
    ap (λ b. (sent ++ []) ++ settle_if (due && b) x due_list) same ∙ by (due && told_then)
  where
    by : (b : Bool) → (sent ++ []) ++ settle_if b x due_list ≡ settle_if b x all
    by true = one_owed sent due_list all (x ∷ []) e
    by false = same_all sent due_list all e

pub settles_are : (life : ℕ) (h : List PathEvent) → AreSettles life h → settles_sent h ++ (after_events life h).settles ≡ settles_owed life h
settles_are life [] a = refl
settles_are life (x ∷ h) a = by x (settles_are life h a.1) a.0
  where
    by : (x : PathEvent) → settles_sent h ++ (after_events life h).settles ≡ settles_owed life h → IsFrontOf (settles_sent h ++ settles x) (settles_owed life h)
        → (settles_sent h ++ settles x) ++ (after_event x (after_events life h)).settles ≡ owed_by life h (settles_owed life h) x
    by (Began handle_max) e f = same_all (settles_sent h) (after_events life h).settles (settles_owed life h) e
    by (Published address payload back) e f = same_all (settles_sent h) (after_events life h).settles (settles_owed life h) e
    by Selected e f = same_all (settles_sent h) (after_events life h).settles (settles_owed life h) e
    by (Owed ok) e f = same_all (settles_sent h) (after_events life h).settles (settles_owed life h) e
    by (Consumed address tag no_ack no_wait) e f = same_all (settles_sent h) (after_events life h).settles (settles_owed life h) e
    by (CancelCame tag no_wait) e f = same_all (settles_sent h) (after_events life h).settles (settles_owed life h) e
    by (Declared queue no_wait) e f = same_all (settles_sent h) (after_events life h).settles (settles_owed life h) e
    by (GetAsked queue no_ack) e f = let s = after_events life h in ap (λ (xs : List Settling). (settles_sent h ++ []) ++ xs) (got_keeps (get_link (queue_or s.queue queue) s) (queue_or s.queue queue) no_ack s).settles ∙ same_all (settles_sent h) s.settles (settles_owed life h) e
    by (AnswerCame tag multiple settle) e f = same_all (settles_sent h) (after_events life h).settles (settles_owed life h) e
    by (AttachCame attach) e f = let s = after_events life h in ap (λ (xs : List Settling). (settles_sent h ++ []) ++ xs) (begun (asked_by attach s.links) attach (record s { links = attached attach s.links })).settles ∙ same_all (settles_sent h) s.settles (settles_owed life h) e
    by (FlowCame peer count credit drain echo) e f = let s = after_events life h in ap (λ (xs : List Settling). (settles_sent h ++ []) ++ xs) (flowed (receiver_in (named peer s.links)) peer count credit drain echo s).settles ∙ same_all (settles_sent h) s.settles (settles_owed life h) e
    by (DetachCame peer not_found) e f = same_all (settles_sent h) (after_events life h).settles (settles_owed life h) e
    by (TransferCame peer part payload image again) e f = let s = after_events life h in ap (λ (xs : List Settling). (settles_sent h ++ []) ++ xs) (transferred (taking peer s) part payload image again s).settles ∙ same_all (settles_sent h) s.settles (settles_owed life h) e
    by (LinkFailed peer fault) e f = same_all (settles_sent h) (after_events life h).settles (settles_owed life h) e
    by (DispositionCame first last outcome settled) e f = settle_more (not settled) _ _ (record { first = first; last = last }) (settles_sent h) (after_events life h).settles (settles_owed life h) (ap (λ (p : PublishState). list_any (is_told first (last_or first last)) p.list) (publishes_are life h)) e
    by (AttachSent name) e f = same_all (settles_sent h) (after_events life h).settles (settles_owed life h) e
    by LinkFlowSent e f = let s = after_events life h in ap (λ (xs : List Settling). (settles_sent h ++ []) ++ xs) (granted (is_grant_next s) (grant_in s) s).settles ∙ same_all (settles_sent h) s.settles (settles_owed life h) e
    by (TransferSent frame count) e f = same_all (settles_sent h) (after_events life h).settles (settles_owed life h) e
    by (SettleSent settling) e f = one_gone (settles_sent h) settling (after_events life h).settles (settles_owed life h) f.0 e f.1
    by DisposeSent e f = let s = after_events life h in ap (λ (xs : List Settling). (settles_sent h ++ []) ++ xs) (disposed (next_settle_of s.deliveries.list) s).settles ∙ same_all (settles_sent h) s.settles (settles_owed life h) e
    by DetachSent e f = let s = after_events life h in ap (λ (xs : List Settling). (settles_sent h ++ []) ++ xs) (parted_keeps (detaching_of s) (record s { links = parted (detaching_of s) s.links })).settles ∙ same_all (settles_sent h) s.settles (settles_owed life h) e
    by (ConfirmWent confirm) e f = same_all (settles_sent h) (after_events life h).settles (settles_owed life h) e
    by (ReturnWent number) e f = same_all (settles_sent h) (after_events life h).settles (settles_owed life h) e
    by (DeliverSent due) e f = same_all (settles_sent h) (after_events life h).settles (settles_owed life h) e
    by ContentSent e f = same_all (settles_sent h) (after_events life h).settles (settles_owed life h) e
    by (ContentWhole tag) e f = same_all (settles_sent h) (after_events life h).settles (settles_owed life h) e
    by (OkSent ok) e f = same_all (settles_sent h) (after_events life h).settles (settles_owed life h) e
    by LinesWent e f = same_all (settles_sent h) (after_events life h).settles (settles_owed life h) e
    by LifeClosed e f = same_all (settles_sent h) (after_events life h).settles (settles_owed life h) e
    by SessionLost e f = same_all (settles_sent h) (after_events life h).settles (settles_owed life h) e
    by SessionEnded e f = nil (settles_sent h ++ []) ∙ nil (settles_sent h)
    by UpLost e f = nil (settles_sent h ++ []) ∙ nil (settles_sent h)

-- the deliveries

module _ (life : ℕ) where
  prefetch_step : (x : PathOk) (d : DeliveryState) (h : List DeliveryEvent) → d ≡ deliveries_after life h → prefetch_by x d ≡ deliveries_after life (prefetches x ++ h)
  prefetch_step ok.Flow d h e = e
  prefetch_step ok.Declare d h e = e
  prefetch_step ok.Select d h e = e
  prefetch_step (ok.Consume link) d h e = e
  prefetch_step (ok.Qos count true) d h e = e
  prefetch_step (ok.Qos count false) d h e = ap (delivery_event (on.PrefetchSet count)) e
  prefetch_step ok.Cancel d h e = e
  prefetch_step ok.Queue d h e = e
  prefetch_step ok.Get d h e = e
  prefetch_step (ok.Empty link) d h e = e
  prefetch_step ok.Recover d h e = e

  global_step : (o : Option PathOk) (d : DeliveryState) (h : List DeliveryEvent) → d ≡ deliveries_after life h → global_by o d ≡ deliveries_after life (globals o ++ h)
  global_step None d h e = e
  global_step (Some ok.Flow) d h e = e
  global_step (Some ok.Declare) d h e = e
  global_step (Some ok.Select) d h e = e
  global_step (Some (ok.Consume link)) d h e = e
  global_step (Some (ok.Qos count true)) d h e = ap (delivery_event (on.GlobalSet count)) e
  global_step (Some (ok.Qos count false)) d h e = e
  global_step (Some ok.Cancel) d h e = e
  global_step (Some ok.Queue) d h e = e
  global_step (Some ok.Get) d h e = e
  global_step (Some (ok.Empty link)) d h e = e
  global_step (Some ok.Recover) d h e = e

  cancelled_step : (o : Option ℕ) (d : DeliveryState) (h : List DeliveryEvent) → d ≡ deliveries_after life h → cancelled_on o d ≡ deliveries_after life (cancels o ++ h)
  cancelled_step None d h e = e
  cancelled_step (Some link) d h e = ap (delivery_event (on.Cancelled link)) e

  begun_step : (o : Option PathLink) (a : AttachHeard) (s : PathState) (h : List DeliveryEvent) → s.deliveries ≡ deliveries_after life h → (begun_if o a s).deliveries ≡ deliveries_after life (begins o a ++ h)
  begun_step None a s h e = e
  begun_step (Some l) a s h e = by (l.receives && a.there)
    where
      by : (b : Bool) → (cond b (begun_on l.link a.count s) s).deliveries ≡ deliveries_after life (cond b (on.LinkAttached l.link a.count ∷ []) [] ++ h)
      by true = ap (delivery_event (on.LinkAttached l.link a.count)) e
      by false = e

  got_step : (o : Option PathLink) (address : List ℕ) (no_ack : Bool) (s : PathState) (h : List DeliveryEvent) → s.deliveries ≡ deliveries_after life h
      → (got_on o address no_ack s).deliveries ≡ deliveries_after life (gets o no_ack s ++ h)
  got_step None address no_ack s h e =
      ap (λ d. delivery_event (on.GetCame (free_number s.links.links) no_ack) (delivery_event (on.LinkAdded (free_number s.links.links) Get) d)) e
  got_step (Some l) address no_ack s h e = ap (delivery_event (on.GetCame l.link no_ack)) e

  -- a get that was found empty waits no more
  emptied_step : (link : ℕ) (d : DeliveryState) (new h : List DeliveryEvent) → d ≡ deliveries_after life (new ++ h) → emptied_in link d ≡ deliveries_after life ((empties link d ++ new) ++ h)
  emptied_step link d new h e = by (is_drained link d.links)
    where
      by : (b : Bool) → cond b (delivery_event (on.Emptied link) d) d ≡ deliveries_after life ((cond b (on.Emptied link ∷ []) [] ++ new) ++ h)
      by true = ap (delivery_event (on.Emptied link)) e
      by false = e

  flow_step : (link : ℕ) (count : Option ℕ) (echo : Bool) (d : DeliveryState) (h : List DeliveryEvent) → d ≡ deliveries_after life h
      → flow_in link count echo d ≡ deliveries_after life ((echoes echo link ++ counts count link) ++ h)
  flow_step link None false d h e = e
  flow_step link None true d h e = ap (delivery_event (on.LinkEchoed link)) e
  flow_step link (Some n) false d h e = ap (delivery_event (on.LinkFlowed link n)) e
  flow_step link (Some n) true d h e = ap (λ d. delivery_event (on.LinkEchoed link) (delivery_event (on.LinkFlowed link n) d)) e

  flowed_step : (o : Option PathLink) (peer : ℕ) (count : Option ℕ) (credit : ℕ) (drain echo : Bool) (s : PathState) (h : List DeliveryEvent) → s.deliveries ≡ deliveries_after life h
      → (flowed_by o peer count credit drain echo s).deliveries ≡ deliveries_after life (flows o count echo s.deliveries ++ h)
  flowed_step None peer count credit drain echo s h e = e
  flowed_step (Some l) peer count credit drain echo s h e =
      emptied_step l.link (flow_in l.link count echo s.deliveries) (echoes echo l.link ++ counts count l.link) h (flow_step l.link count echo s.deliveries h e)

  transferred_step : (o : Option PathLink) (part : Part) (payload : List ℕ) (image : Option Content) (again : Bool) (s : PathState) (h : List DeliveryEvent) → s.deliveries ≡ deliveries_after life h
      → (transferred_on o part payload image again s).deliveries ≡ deliveries_after life (transfers o part payload image again s.deliveries ++ h)
  transferred_step None part payload image again s h e = e
  transferred_step (Some l) part payload image again s h e =
      emptied_step l.link (transferred_in l.link part payload image again s.deliveries) (arrivals (is_last part) l.link image again (delivery_event came s.deliveries) ++ came ∷ []) h (by (is_last part))
    where
      came : DeliveryEvent
      came = on.TransferCame l.link part payload

      by : (b : Bool) → cond b (arrived_on l.link image again (delivery_event came s.deliveries)) (delivery_event came s.deliveries) ≡ deliveries_after life ((arrivals b l.link image again (delivery_event came s.deliveries) ++ came ∷ []) ++ h)
      by true = ap (λ d. delivery_event (arrival_on l.link image again (delivery_event came s.deliveries)) (delivery_event came d)) e
      by false = ap (delivery_event came) e

  granted_step : (b : Bool) (o : Option NextGrant) (s : PathState) (h : List DeliveryEvent) → s.deliveries ≡ deliveries_after life h
      → (cond b (granted_by o s) (record s { links = told_on (flow_of s.publishes.list s.links) s.links })).deliveries ≡ deliveries_after life (cond b (grants o) [] ++ h)
  granted_step true None s h e = e
  granted_step true (Some g) s h e = ap (delivery_event (on.GrantSent g)) e
  granted_step false o s h e = e

  disposed_step : (o : Option NextSettle) (s : PathState) (h : List DeliveryEvent) → s.deliveries ≡ deliveries_after life h → (disposed_by o s).deliveries ≡ deliveries_after life (disposes o ++ h)
  disposed_step None s h e = e
  disposed_step (Some x) s h e = ap (delivery_event (on.SettleSent x)) e

  dropped_step : (o : Option PathLink) (s : PathState) (h : List DeliveryEvent) → s.deliveries ≡ deliveries_after life h → (dropped_by o s).deliveries ≡ deliveries_after life (drops o ++ h)
  dropped_step None s h e = e
  dropped_step (Some l) s h e = by l.receives
    where
      by : (b : Bool) → (cond b (dropped l.link s) s).deliveries ≡ deliveries_after life (cond b (on.LinkDropped l.link ∷ []) [] ++ h)
      by true = ap (delivery_event (on.LinkDropped l.link)) e
      by false = e

delivery_step : (life : ℕ) (x : PathEvent) (s : PathState) (h : List DeliveryEvent) → s.deliveries ≡ deliveries_after life h → (after_event x s).deliveries ≡ deliveries_after life (delivery_events s x ++ h)
delivery_step life (Began handle_max) s h e = e
delivery_step life (Published address payload back) s h e = e
delivery_step life Selected s h e = e
delivery_step life (Owed ok) s h e = prefetch_step life ok s.deliveries h e
delivery_step life (Consumed address tag no_ack no_wait) s h e = ap (delivery_event (on.LinkAdded (free_number s.links.links) (Consumer (tag_for tag s.deliveries.links) no_ack))) e
delivery_step life (CancelCame tag no_wait) s h e = cancelled_step life (consumer_link tag s.deliveries.links) s.deliveries h e
delivery_step life (Declared queue no_wait) s h e = ap (delivery_event (on.LinkAdded (free_number s.links.links) Probe)) e
delivery_step life (GetAsked queue no_ack) s h e = got_step life (get_link (queue_or s.queue queue) s) (queue_or s.queue queue) no_ack s h e
delivery_step life (AnswerCame tag multiple settle) s h e = ap (delivery_event (on.Answered tag multiple settle)) e
delivery_step life (AttachCame attach) s h e = begun_step life (asked_by attach s.links) attach (record s { links = attached attach s.links }) h e
delivery_step life (FlowCame peer count credit drain echo) s h e = flowed_step life (receiver_in (named peer s.links)) peer count credit drain echo s h e
delivery_step life (DetachCame peer not_found) s h e = e
delivery_step life (TransferCame peer part payload image again) s h e = transferred_step life (taking peer s) part payload image again s h e
delivery_step life (LinkFailed peer fault) s h e = e
delivery_step life (DispositionCame first last outcome settled) s h e = e
delivery_step life (AttachSent name) s h e = e
delivery_step life LinkFlowSent s h e = granted_step life (is_grant_next s) (grant_in s) s h e
delivery_step life (TransferSent frame count) s h e = e
delivery_step life (SettleSent settling) s h e = e
delivery_step life DisposeSent s h e = disposed_step life (next_settle_of s.deliveries.list) s h e
delivery_step life DetachSent s h e = dropped_step life (detaching_of s) (record s { links = parted (detaching_of s) s.links }) h e
delivery_step life (ConfirmWent confirm) s h e = e
delivery_step life (ReturnWent number) s h e = e
delivery_step life (DeliverSent due) s h e = ap (delivery_event (on.Delivered due.next.number)) e
delivery_step life ContentSent s h e = e
delivery_step life (ContentWhole tag) s h e = ap (delivery_event (on.Written tag)) e
delivery_step life (OkSent ok) s h e = global_step life (first_of s.oks) s.deliveries h e
delivery_step life LinesWent s h e = ap (delivery_event on.LinesTold) e
delivery_step life LifeClosed s h e = ap (delivery_event on.Closed) e
delivery_step life SessionLost s h e = ap (delivery_event on.Closed) e
delivery_step life SessionEnded s h e = ap (delivery_event on.Closed) e
delivery_step life UpLost s h e = ap (λ d. delivery_event on.EndLost (delivery_event on.Closed d)) e

pub deliveries_are : (life : ℕ) (h : List PathEvent) → (after_events life h).deliveries ≡ deliveries_after life (deliveries_of life h)
deliveries_are life [] = refl
deliveries_are life (x ∷ h) = delivery_step life x (after_events life h) (deliveries_of life h) (deliveries_are life h)
