-- What the requests of a life wish for is what was met, what is due, and what waits for the container, behind each event.
use Rattle.std.proofs.Common.{◌≡◌, ◌∙◌, ◌⊎◌, inl, inr, ℕ, ◌==◌, not, ◌&&◌, ◌||◌, Bool, true, false, if◌then◌else◌, List, [], ◌∷◌, ◌++◌, drop, find}
use Rattle.std.proofs.Common.{Option, None, Some, refl, sym, ap, subst, append_assoc, append-nil}
use Rattle.std.specs.List.{list_any}
use Rattle.std.specs.Prelude.{IfSome, is_some}
use Rattle.open_items.proofs.Filtered.{all_find, all_weaker}
use Rattle.consume_path.specs.Deliveries as on
use Rattle.consume_path.specs.Deliveries.{DeliveryEvent, DeliveryState}
use Rattle.consume_path.specs.Journal.{is_closed}
use Rattle.consume_path.specs.Laws.{AreCalls}
use Rattle.consume_path.specs.Links.{consumer_link, in_link, is_empty, link_of, tag_in}
use Rattle.consume_path.specs.Offers.{awaits_get, holds, is_all_covered, is_at_rest, is_drained, is_for_gets, is_getting, is_over, is_probe, next_settle_of}
use Rattle.consume_path.specs.declared.delivery.Content.{Content}
use Rattle.consume_path.specs.declared.delivery.NextSettle.{NextSettle}
use Rattle.consume_path.specs.declared.receiving.NextGrant.{NextGrant}
use Rattle.consume_path.specs.declared.receiving.Part.{Part}
use Rattle.consume_path.specs.declared.receiving.ReceivingLink.{ReceivingLink}
use Rattle.consume_path.specs.declared.receiving.RecvKind.{RecvKind}
use Rattle.consume_path.specs.declared.receiving.RecvKind.TheVariants.{Consumer, Get, Probe}
use Rattle.consume_path.specs.declared.receiving.WaitingGet.{WaitingGet}
use Rattle.session_path.specs.Due.{is_get_awaited, is_waiting, next_deliver, next_name, next_ok, or_no_name}
use Rattle.session_path.specs.Events as event
use Rattle.session_path.specs.Events.{PathEvent, after_event, after_events, deliveries_of, gets}
use Rattle.session_path.specs.Laws.{AreHeard}
use Rattle.session_path.specs.Links.{Rises, asked_by, attach_fault, attached, free_number, has_number, is_asked_as, is_given, is_stage_asked, is_stage_given, is_stage_open}
use Rattle.session_path.specs.Links.{is_stage_refused, is_to_part, named, parted, told_on}
use Rattle.session_path.specs.Path.{IsThere, PathState, begun_if, begun_on, cancelled_on, closes_at, closes_on, detaching_of, disposed_by, dropped, dropped_by, first_of, flow_of}
use Rattle.session_path.specs.Path.{flowed_by, get_link, gives_name, global_by, got_on, grant_in, granted_by, is_awaited_on, is_get_link, is_grant_next, is_serving, is_source_of, names_by}
use Rattle.session_path.specs.Path.{name_in, oks_by, prefetch_by, queue_or, receiver_in, still_awaited, tag_for, taking, transferred_on}
use Rattle.session_path.specs.declared.path.AttachHeard.{AttachHeard}
use Rattle.session_path.specs.declared.path.Awaited.{Awaited}
use Rattle.session_path.specs.declared.path.DeliverDue.{DeliverDue}
use Rattle.session_path.specs.declared.path.PathLink.{PathLink}
use Rattle.session_path.specs.declared.path.PathOk.{PathOk}
use Rattle.session_path.specs.declared.path.PathOk.TheVariants as ok
use Rattle.session_path.specs.declared.path.Stage.{Stage}
use Rattle.session_path.specs.declared.path.Stage.TheVariants.{Asked}
use Rattle.session_path.proofs.Idle.{detaching_there}
use Rattle.session_path.proofs.Ties.{eq_of, eq_to, found_passes, unique}
use Rattle.session_path.proofs.Wanted.{absent}
use Rattle.gate_model.specs.Wishes.{Begins, Cancels, Finds, Gets, Plain, Wish, unless, wish_of, wished, wishes}
use Rattle.gate_model.proofs.Awaiting.{IsReady, ready}
use Rattle.gate_model.proofs.Basics.{and_left, and_right, left_false, or_left, or_right, right_false}
use Rattle.gate_model.proofs.Calling.{get_calls}
use Rattle.gate_model.proofs.Connections.{clash}
use Rattle.gate_model.proofs.Granting.{DeliveriesAre}
use Rattle.gate_model.proofs.Heard.{AllHold, ClosedAre, events_open}
use Rattle.gate_model.proofs.Parted.{AllParted, Fits, parts_kept, step, suits}
use Rattle.gate_model.proofs.Proper.{IsProper, no_request}
use Rattle.gate_model.proofs.Quiet.{is_asked_ok}
use Rattle.gate_model.proofs.Quotas.{Kept, kept}
use Rattle.gate_model.proofs.Receivers.{LinksAre}
use Rattle.gate_model.proofs.Releases.{Goes, detaching_goes}
use Rattle.gate_model.proofs.Serving.{is_due as due_is}
use Rattle.gate_model.proofs.Settles.{CallsAre}
use Rattle.gate_model.proofs.Sources.{QueuesAre, found_takes, found_without, goes as sources_go, has}
use Rattle.gate_model.proofs.Starts.{IsEven, are_even, evens, get_first}
use Rattle.gate_model.proofs.WaitingGets.{Added, Dropped, Empty, GetOk, Nothing, Outcome, Same, Turned, added, added_tag, came_elsewhere, came_there, came_undrained, flow_turns, link_drops, same_event, the_same}
use Rattle.gate_model.proofs.WaitingGets.{transfer_turns}
use Rattle.gate_model.proofs.Walks.{is_free}

-- ---- answers that are due, each with the name that it gives back

abbrev due : List PathOk → List (List ℕ) → List Wish
due [] ns = []
due (x ∷ xs) ns = wish_of x (or_no_name (first_of ns)) ∷ due xs (if gives_name (Some x) then drop 1 ns else ns)

due_both : (xs ys : List PathOk) (ns ms : List (List ℕ)) → are_even xs ns ≡ true → due (xs ++ ys) (ns ++ ms) ≡ due xs ns ++ due ys ms
due_both [] ys [] ms e = refl
due_both [] ys (n ∷ ns) ms e = absurd cc
due_both (ok.Consume k ∷ xs) ys [] ms e = absurd cc
due_both (ok.Cancel ∷ xs) ys [] ms e = absurd cc
due_both (ok.Queue ∷ xs) ys [] ms e = absurd cc
due_both (x ∷ xs) ys [] ms e = ap (λ (ws : List Wish). wish_of x [] ∷ ws) (due_both xs ys [] ms e)
due_both (ok.Consume k ∷ xs) ys (n ∷ ns) ms e = ap (λ (ws : List Wish). Begins n ∷ ws) (due_both xs ys ns ms e)
due_both (ok.Cancel ∷ xs) ys (n ∷ ns) ms e = ap (λ (ws : List Wish). Cancels n ∷ ws) (due_both xs ys ns ms e)
due_both (ok.Queue ∷ xs) ys (n ∷ ns) ms e = ap (λ (ws : List Wish). Finds n ∷ ws) (due_both xs ys ns ms e)
due_both (x ∷ xs) ys (n ∷ ns) ms e = ap (λ (ws : List Wish). wish_of x n ∷ ws) (due_both xs ys (n ∷ ns) ms e)

abbrev pub owed : PathState → List Wish
owed s = due s.oks s.names

owed_more : (s t : PathState) (xs : List PathOk) (ms : List (List ℕ)) → IsEven s → t.oks ≡ s.oks ++ xs → t.names ≡ s.names ++ ms → owed t ≡ owed s ++ due xs ms
owed_more s t xs ms even e f = ap (λ (ys : List PathOk). due ys t.names) e ∙ ap (due (s.oks ++ xs)) f ∙ due_both s.oks xs s.names ms even

first_goes : (y : PathOk) (xs : List PathOk) (ns : List (List ℕ)) → first_of xs ≡ Some y
    → due xs ns ≡ wish_of y (or_no_name (first_of ns)) ∷ due (drop 1 xs) (if gives_name (first_of xs) then drop 1 ns else ns)
first_goes y [] ns e = absurd cc
first_goes y (x ∷ xs) ns e = let same : x ≡ y = cc in ap (λ (z : PathOk). wish_of z (or_no_name (first_of ns)) ∷ due xs (if gives_name (Some x) then drop 1 ns else ns)) same

-- ---- what was met

abbrev pub told : PathState → PathEvent → List Wish
told s (event.OkSent x) = wish_of x (next_name s) ∷ []
told s (event.DeliverSent d) = if d.get then Gets ∷ [] else []
told s x = []

abbrev pub met_of : ℕ → List PathEvent → List Wish
met_of life [] = []
met_of life (x ∷ es) = met_of life es ++ told (after_events life es) x

moves : (m d w a go later wait new : List Wish) → (m ++ d) ++ w ≡ a → (go ++ later) ++ wait ≡ (d ++ w) ++ new → ((m ++ go) ++ later) ++ wait ≡ a ++ new
moves m d w a go later wait new e f =
    ap (λ (xs : List Wish). xs ++ wait) (append_assoc m go later) ∙ append_assoc m (go ++ later) wait ∙ ap (λ (xs : List Wish). m ++ xs) f
    ∙ sym (append_assoc m (d ++ w) new) ∙ ap (λ (xs : List Wish). xs ++ new) (sym (append_assoc m d w) ∙ e)

-- ---- what waits for the container

abbrev asked : Awaited → List ℕ → List ℕ → List Wish
asked a tag queue = unless a.no_wait (if a.declares then Finds queue else Begins tag)

-- nothing; a basic.consume or a queue.declare for its attach; or a basic.get
data Waits (s : PathState) (w : List Wish) : Type 0 where
  Free : w ≡ [] → s.awaited ≡ None → ((k : ℕ) → awaits_get k s.deliveries.links ≡ false) → Waits s w
  Asks : (a : Awaited) (tag : List ℕ) → w ≡ asked a tag s.queue → s.awaited ≡ Some a → ((k : ℕ) → awaits_get k s.deliveries.links ≡ false)
      → (a.declares ≡ false → has a.link s.sources ≡ true → tag_in (link_of s.deliveries.links a.link) ≡ tag) → Waits s w
  Serves : (k : ℕ) → w ≡ Gets ∷ [] → s.awaited ≡ None → awaits_get k s.deliveries.links ≡ true → ((j : ℕ) → awaits_get j s.deliveries.links ≡ true → j ≡ k) → Waits s w

abbrev Undrained : PathState → Type 0
Undrained s = (k : ℕ) → is_drained k s.deliveries.links ≡ false

-- no get waits on a link that is to part
abbrev Apart : DeliveryState → PathState → Type 0
Apart d s = AllParted (λ k. awaits_get k d.links ≡ false) s.links.links

record Old (s : PathState) (w : List Wish) : Type 0 where
  waits : Waits s w
  undrained : Undrained s
  apart : Apart s.deliveries s

-- after an event that meets these, and wishes for those
record Next (s t : PathState) (w go new : List Wish) : Type 0 where
  wait : List Wish
  waits : Waits t wait
  undrained : Undrained t
  apart : Apart t.deliveries s
  is : (go ++ owed t) ++ wait ≡ (owed s ++ w) ++ new

-- what leaves it
record Still (s t : PathState) : Type 0 where
  awaited : t.awaited ≡ s.awaited
  queue : t.queue ≡ s.queue
  sources : t.sources ≡ s.sources
  same : Same s.deliveries t.deliveries

still_waits : (s t : PathState) (w : List Wish) → Still s t → Waits s w → Waits t w
still_waits s t w st (Free e f g) = Free e (st.awaited ∙ f) (λ k. st.same.waits k ∙ g k)
still_waits s t w st (Asks a tag e f g h) =
    Asks a tag (e ∙ ap (asked a tag) (sym st.queue)) (st.awaited ∙ f) (λ k. st.same.waits k ∙ g k)
    (λ d i. st.same.tags a.link ∙ h d (ap (has a.link) (sym st.sources) ∙ i))
still_waits s t w st (Serves k e f g h) = Serves k e (st.awaited ∙ f) (st.same.waits k ∙ g) (λ j i. h j (sym (st.same.waits j) ∙ i))

still : (s t : PathState) (w go new : List Wish) → Still s t → (go ++ owed t) ++ w ≡ (owed s ++ w) ++ new → Old s w → Next s t w go new
still s t w go new st is old = record {
  wait = w;
  waits = still_waits s t w st old.waits;
  undrained = λ k. st.same.drained k ∙ old.undrained k;
  apart = all_weaker _ _ (λ l c part. st.same.waits l.link ∙ c part) s.links.links old.apart;
  is = is;
}

calm : (s t : PathState) (w : List Wish) → Still s t → t.oks ≡ s.oks → t.names ≡ s.names → Old s w → Next s t w [] []
calm s t w st e f old =
    still s t w [] [] st (ap (λ (xs : List PathOk). due xs t.names ++ w) e ∙ ap (λ (ns : List (List ℕ)). due s.oks ns ++ w) f ∙ sym (append-nil (owed s ++ w))) old

-- or all but the links
quiet : (s t : PathState) (w : List Wish) → Same s.deliveries t.deliveries → t.awaited ≡ s.awaited → t.queue ≡ s.queue → t.sources ≡ s.sources → t.oks ≡ s.oks → t.names ≡ s.names
    → Old s w → Next s t w [] []
quiet s t w same a q so e f old = calm s t w (record { awaited = a; queue = q; sources = so; same = same }) e f old

-- ---- an answer goes

same_global : (o : Option PathOk) (d : DeliveryState) → Same d (global_by o d)
same_global (Some (ok.Qos count true)) d = same_event (on.GlobalSet count) d refl
same_global (Some (ok.Qos count false)) d = the_same d
same_global (Some x) d = the_same d
same_global None d = the_same d

ok_goes : (s : PathState) (y : PathOk) (w : List Wish) → next_ok s ≡ Some y → Old s w → Next s (after_event (event.OkSent y) s) w (wish_of y (next_name s) ∷ []) []
ok_goes s y w e old =
    still s (after_event (event.OkSent y) s) w (wish_of y (next_name s) ∷ []) []
    (record { awaited = refl; queue = refl; sources = refl; same = same_global (first_of s.oks) s.deliveries })
    (ap (λ (xs : List Wish). xs ++ w) (sym (first_goes y s.oks s.names e)) ∙ sym (append-nil (owed s ++ w))) old

deliver_goes : (s : PathState) (d : DeliverDue) (w : List Wish) → next_deliver s ≡ Some d → Old s w
    → Next s (after_event (event.DeliverSent d) s) w (if d.get then Gets ∷ [] else []) []
deliver_goes s d w e old =
    still s (after_event (event.DeliverSent d) s) w (if d.get then Gets ∷ [] else []) []
    (record { awaited = refl; queue = refl; sources = refl; same = same_event (on.Delivered d.next.number) s.deliveries refl }) (by d.get refl) old
  where
    by : (b : Bool) → d.get ≡ b → ((if b then Gets ∷ [] else []) ++ due (if b then drop 1 s.oks else s.oks) s.names) ++ w ≡ (owed s ++ w) ++ []
    by true f =
        let first : first_of s.oks ≡ Some ok.Get = get_first (first_of s.oks) ((due_is s d e).may f) in
        let goes : owed s ≡ Gets ∷ due (drop 1 s.oks) s.names =
        first_goes ok.Get s.oks s.names first ∙ ap (λ (o : Option PathOk). Gets ∷ due (drop 1 s.oks) (if gives_name o then drop 1 s.names else s.names)) first in
        ap (λ (xs : List Wish). xs ++ w) (sym goes) ∙ sym (append-nil (owed s ++ w))
    by false f = sym (append-nil (owed s ++ w))

-- ---- a request is taken up, while none waits

pub record Rests (s : PathState) : Type 0 where
  pub awaited : s.awaited ≡ None
  pub gets : (k : ℕ) → awaits_get k s.deliveries.links ≡ false

none_on : (links : List ReceivingLink) (k : ℕ) → list_any is_getting links ≡ false → in_link is_getting (link_of links k) ≡ false
none_on [] k e = refl
none_on (l ∷ ls) k e = by (l.link == k) (none_on ls k (right_false (is_getting l) _ e))
  where
    by : (b : Bool) → in_link is_getting (link_of ls k) ≡ false → in_link is_getting (if b then Some l else link_of ls k) ≡ false
    by true rest = left_false (is_getting l) _ e
    by false rest = rest

pub rests : (s : PathState) → is_waiting s ≡ false → s.deliveries.closed ≡ false → Rests s
rests s e open_yet =
    record { awaited = no_request s e; gets = λ k. none_on s.deliveries.links k (by s.deliveries.closed _ open_yet (right_false (is_some s.awaited) (is_get_awaited s.deliveries) e)) }
  where
    by : (c b : Bool) → c ≡ false → (not c && b) ≡ false → b ≡ false
    by true b e f = absurd cc
    by false b e f = f

none_wait : (s : PathState) (w : List Wish) → Rests s → Waits s w → w ≡ []
none_wait s w r (Free e f g) = e
none_wait s w r (Asks a tag e f g h) = absurd (let wrong : None ≡ Some a = sym r.awaited ∙ f in cc)
none_wait s w r (Serves k e f g h) = absurd (clash _ g (r.gets k))

-- it is answered at once
at_once : (s t : PathState) (w new : List Wish) → Rests s → Still s t → owed t ≡ owed s ++ new → Old s w → Next s t w [] new
at_once s t w new r st f old =
    let e : w ≡ [] = none_wait s w r old.waits in
    still s t w [] new st
    (ap (λ (xs : List Wish). owed t ++ xs) e ∙ append-nil (owed t) ∙ f
    ∙ ap (λ (xs : List Wish). xs ++ new) (sym (append-nil (owed s)) ∙ ap (λ (xs : List Wish). owed s ++ xs) (sym e))) old

plain_is : (y : PathOk) → is_asked_ok y ≡ true → wish_of y [] ≡ Plain y
plain_is (ok.Consume k) e = absurd cc
plain_is ok.Cancel e = absurd cc
plain_is ok.Queue e = absurd cc
plain_is ok.Get e = absurd cc
plain_is (ok.Empty k) e = absurd cc
plain_is y e = refl

same_prefetch : (y : PathOk) (d : DeliveryState) → Same d (prefetch_by y d)
same_prefetch (ok.Qos count true) d = the_same d
same_prefetch (ok.Qos count false) d = same_event (on.PrefetchSet count) d refl
same_prefetch y d = the_same d

owed_asked : (s : PathState) (y : PathOk) (w : List Wish) → IsEven s → is_asked_ok y ≡ true → Rests s → Old s w → Next s (after_event (event.Owed y) s) w [] (Plain y ∷ [])
owed_asked s y w even asks r old =
    at_once s (after_event (event.Owed y) s) w (Plain y ∷ []) r (record { awaited = refl; queue = refl; sources = refl; same = same_prefetch y s.deliveries })
    (owed_more s (after_event (event.Owed y) s) (y ∷ []) [] even refl (sym (append-nil s.names)) ∙ ap (λ (x : Wish). owed s ++ x ∷ []) (plain_is y asks)) old

cancel_asked : (s : PathState) (tag : List ℕ) (no_wait : Bool) (w : List Wish) → IsEven s → Rests s → Old s w
    → Next s (after_event (event.CancelCame tag no_wait) s) w [] (unless no_wait (Cancels tag))
cancel_asked s tag no_wait w even r old = by no_wait
  where
    same : (o : Option ℕ) → Same s.deliveries (cancelled_on o s.deliveries)
    same None = the_same s.deliveries
    same (Some k) = same_event (on.Cancelled k) s.deliveries refl

    by : (b : Bool) → Next s (after_event (event.CancelCame tag b) s) w [] (unless b (Cancels tag))
    by true = quiet s (after_event (event.CancelCame tag true) s) w (same (consumer_link tag s.deliveries.links)) refl refl refl refl refl old
    by false =
        at_once s (after_event (event.CancelCame tag false) s) w (Cancels tag ∷ []) r
        (record { awaited = refl; queue = refl; sources = refl; same = same (consumer_link tag s.deliveries.links) })
        (owed_more s (after_event (event.CancelCame tag false) s) (ok.Cancel ∷ []) (tag ∷ []) even refl refl) old

-- or waits
waits_now : (s : PathState) (w new : List Wish) → w ≡ [] → owed s ++ new ≡ (owed s ++ w) ++ new
waits_now s w new e = ap (λ (xs : List Wish). xs ++ new) (sym (append-nil (owed s)) ∙ ap (λ (xs : List Wish). owed s ++ xs) (sym e))

consume_asked : (s : PathState) (queue tag : List ℕ) (no_ack no_wait : Bool) (w : List Wish) → link_of s.deliveries.links (free_number s.links.links) ≡ None → Rests s → Old s w
    → Next s (after_event (event.Consumed queue tag no_ack no_wait) s) w [] (unless no_wait (Begins (tag_for tag s.deliveries.links)))
consume_asked s queue tag no_ack no_wait w none r old =
    record {
      wait = unless no_wait (Begins name);
      waits = Asks (record { link = m; declares = false; no_wait = no_wait }) name refl refl (λ k. new.waits k ∙ r.gets k) (λ d i. added_tag m (Consumer name no_ack) s.deliveries none);
      undrained = λ k. new.drained k ∙ old.undrained k;
      apart = all_weaker _ _ (λ l c part. new.waits l.link ∙ c part) s.links.links old.apart;
      is = waits_now s w (unless no_wait (Begins name)) (none_wait s w r old.waits);
    }
  where
    m : ℕ
    m = free_number s.links.links

    name : List ℕ
    name = tag_for tag s.deliveries.links

    new : Added s.deliveries (on.after_event (on.LinkAdded m (Consumer name no_ack)) s.deliveries)
    new = added m (Consumer name no_ack) s.deliveries

declare_asked : (s : PathState) (queue : List ℕ) (no_wait : Bool) (w : List Wish) → Rests s → Old s w
    → Next s (after_event (event.Declared queue no_wait) s) w [] (unless no_wait (Finds queue))
declare_asked s queue no_wait w r old =
    record {
      wait = unless no_wait (Finds queue);
      waits = Asks (record { link = free_number s.links.links; declares = true; no_wait = no_wait }) [] refl refl (λ k. new.waits k ∙ r.gets k) (λ d i. absurd (clash true refl d));
      undrained = λ k. new.drained k ∙ old.undrained k;
      apart = all_weaker _ _ (λ l c part. new.waits l.link ∙ c part) s.links.links old.apart;
      is = waits_now s w (unless no_wait (Finds queue)) (none_wait s w r old.waits);
    }
  where
    new : Added s.deliveries (on.after_event (on.LinkAdded (free_number s.links.links) Probe) s.deliveries)
    new = added (free_number s.links.links) Probe s.deliveries

-- a basic.get waits on its link
one_waits : (d : DeliveryState) (m : ℕ) (no_ack : Bool) → ((k : ℕ) → awaits_get k d.links ≡ false) → (j : ℕ) → awaits_get j (on.after_event (on.GetCame m no_ack) d).links ≡ true → j ≡ m
one_waits d m no_ack none j i = by (j == m) refl
  where
    by : (b : Bool) → (j == m) ≡ b → j ≡ m
    by true e = eq_of j m e
    by false e = absurd (clash _ i (came_elsewhere d m no_ack j e ∙ none j))

-- its link is there
abbrev IsGetThere : PathState → Option PathLink → Type 0
IsGetThere s None =
    in_link (λ (l : ReceivingLink). is_for_gets l.kind) (link_of (on.after_event (on.LinkAdded (free_number s.links.links) Get) s.deliveries).links (free_number s.links.links)) ≡ true
IsGetThere s (Some l) = in_link (λ (l : ReceivingLink). is_for_gets l.kind) (link_of s.deliveries.links l.link) ≡ true

get_asked : (s : PathState) (address : List ℕ) (no_ack : Bool) (w : List Wish) → Rises 0 s.links.links → (o : Option PathLink) → get_link address s ≡ o → IsGetThere s o → Rests s → Old s w
    → Next s (got_on o address no_ack s) w [] (Gets ∷ [])
get_asked s address no_ack w rises None e there r old = record {
  wait = Gets ∷ [];
  waits = Serves m refl r.awaited (came_there d m no_ack there) (one_waits d m no_ack none);
  undrained = λ k. came_undrained d m no_ack k (new.drained k ∙ old.undrained k);
  apart = all_weaker _ _ (λ l off part. came_elsewhere d m no_ack l.link off ∙ none l.link) s.links.links (absent s.links.links rises);
  is = waits_now s w (Gets ∷ []) (none_wait s w r old.waits);
}
  where
    m : ℕ
    m = free_number s.links.links

    d : DeliveryState
    d = on.after_event (on.LinkAdded m Get) s.deliveries

    new : Added s.deliveries d
    new = added m Get s.deliveries

    none : (k : ℕ) → awaits_get k d.links ≡ false
    none k = new.waits k ∙ r.gets k
get_asked s address no_ack w rises (Some l) e there r old = record {
  wait = Gets ∷ [];
  waits = Serves l.link refl r.awaited (came_there s.deliveries l.link no_ack there) (one_waits s.deliveries l.link no_ack r.gets);
  undrained = λ k. came_undrained s.deliveries l.link no_ack k (old.undrained k);
  apart = all_weaker _ _ (λ k same part. elsewhere k part same (k.link == l.link) refl) s.links.links (unique (is_get_link address s.deliveries s.sources) s.links.links l rises e);
  is = waits_now s w (Gets ∷ []) (none_wait s w r old.waits);
}
  where
    serves : is_serving l ≡ true
    serves = and_left (is_serving l) _ (found_passes (is_get_link address s.deliveries s.sources) s.links.links l e)

    never : (a b c : Bool) → not ((a || b) || c) ≡ true → a ≡ true → ⊥
    never true b c f g = cc
    never false b c f g = cc

    elsewhere : (k : PathLink) → (k.receives && is_to_part k) ≡ true → ((k.link == l.link) ≡ true → k ≡ l) → (b : Bool) → (k.link == l.link) ≡ b
        → awaits_get k.link (on.after_event (on.GetCame l.link no_ack) s.deliveries).links ≡ false
    elsewhere k part same true i =
        absurd (never (is_to_part l) (is_given l) (is_stage_refused l.stage) (and_right l.receives _ serves)
        (subst (λ (x : PathLink). is_to_part x ≡ true) (same i) (and_right k.receives (is_to_part k) part)))
    elsewhere k part same false i = came_elsewhere s.deliveries l.link no_ack k.link i ∙ r.gets k.link

-- ---- the container attaches a link

module _ (s : PathState) (a : AttachHeard) (w : List Wish) (even : IsEven s) (old : Old s w) where
  abbrev linked : PathState
  linked = record s { links = attached a s.links }

  left : Next s linked w [] []
  left = quiet s linked w (the_same s.deliveries) refl refl refl refl refl old

  module _ (l : PathLink) (sourced : has l.link s.sources ≡ true) where
    abbrev begun : PathState
    begun = begun_on l.link a.count linked

    same : Same s.deliveries begun.deliveries
    same = same_event (on.LinkAttached l.link a.count) s.deliveries refl

    unanswered : begun.awaited ≡ s.awaited → oks_by l.link s.awaited ≡ [] → names_by l.link s.awaited s.queue s.deliveries ≡ [] → Next s begun w [] []
    unanswered e f g =
        calm s begun w (record { awaited = e; queue = refl; sources = refl; same = same })
        (ap (λ (xs : List PathOk). s.oks ++ xs) f ∙ append-nil s.oks) (ap (λ (ns : List (List ℕ)). s.names ++ ns) g ∙ append-nil s.names) old

    none : s.awaited ≡ None → Next s begun w [] []
    none f = unanswered (ap (still_awaited l.link) f ∙ sym f) (ap (oks_by l.link) f) (ap (λ (o : Option Awaited). names_by l.link o s.queue s.deliveries) f)

    -- what waited for it has its answer
    answered : (xs : List PathOk) (ms : List (List ℕ)) → begun.awaited ≡ None → ((k : ℕ) → awaits_get k s.deliveries.links ≡ false) → oks_by l.link s.awaited ≡ xs
        → names_by l.link s.awaited s.queue s.deliveries ≡ ms → due xs ms ≡ w → Next s begun w [] []
    answered xs ms gone g e f q = record {
      wait = [];
      waits = Free refl gone (λ k. same.waits k ∙ g k);
      undrained = λ k. same.drained k ∙ old.undrained k;
      apart = all_weaker _ _ (λ x c part. same.waits x.link ∙ c part) s.links.links old.apart;
      is = ap (λ (ws : List Wish). ws ++ [])
          (owed_more s begun xs ms even (ap (λ (ys : List PathOk). s.oks ++ ys) e) (ap (λ (ns : List (List ℕ)). s.names ++ ns) f) ∙ ap (λ (ws : List Wish). owed s ++ ws) q);
    }

    asks : (x : Awaited) (tag : List ℕ) → w ≡ asked x tag s.queue → s.awaited ≡ Some x → ((k : ℕ) → awaits_get k s.deliveries.links ≡ false)
        → (x.declares ≡ false → has x.link s.sources ≡ true → tag_in (link_of s.deliveries.links x.link) ≡ tag) → (b : Bool) → (x.link == l.link) ≡ b → Next s begun w [] []
    asks x tag e f g h false i =
        unanswered (ap (still_awaited l.link) f ∙ ap (λ (b : Bool). if b then None else Some x) i ∙ sym f)
        (ap (oks_by l.link) f ∙ ap (λ (b : Bool). if b && not x.no_wait then (if x.declares then ok.Queue else ok.Consume l.link) ∷ [] else []) i)
        (ap (λ (o : Option Awaited). names_by l.link o s.queue s.deliveries) f ∙ ap (λ (b : Bool). if b && not x.no_wait then name_in (Some x) s.queue s.deliveries ∷ [] else []) i)
    asks x tag e f g h true i = by x.no_wait x.declares refl refl
      where
        gone : begun.awaited ≡ None
        gone = ap (still_awaited l.link) f ∙ ap (λ (b : Bool). if b then None else Some x) i

        oks : (n b : Bool) → x.no_wait ≡ n → x.declares ≡ b → oks_by l.link s.awaited ≡ (if not n then (if b then ok.Queue else ok.Consume l.link) ∷ [] else [])
        oks n b j k =
            ap (oks_by l.link) f
            ∙ ap (λ (c : Bool). if c && not x.no_wait then (if x.declares then ok.Queue else ok.Consume l.link) ∷ [] else []) i
            ∙ ap (λ (c : Bool). if not c then (if x.declares then ok.Queue else ok.Consume l.link) ∷ [] else []) j
            ∙ ap (λ (c : Bool). if not n then (if c then ok.Queue else ok.Consume l.link) ∷ [] else []) k

        names : (n b : Bool) → x.no_wait ≡ n → x.declares ≡ b
            → names_by l.link s.awaited s.queue s.deliveries ≡ (if not n then (if b then s.queue else tag_in (link_of s.deliveries.links x.link)) ∷ [] else [])
        names n b j k =
            ap (λ (o : Option Awaited). names_by l.link o s.queue s.deliveries) f
            ∙ ap (λ (c : Bool). if c && not x.no_wait then name_in (Some x) s.queue s.deliveries ∷ [] else []) i
            ∙ ap (λ (c : Bool). if not c then name_in (Some x) s.queue s.deliveries ∷ [] else []) j
            ∙ ap (λ (c : Bool). if not n then (if c then s.queue else tag_in (link_of s.deliveries.links x.link)) ∷ [] else []) k

        wish : (n b : Bool) → x.no_wait ≡ n → x.declares ≡ b → unless n (if b then Finds s.queue else Begins tag) ≡ w
        wish n b j k =
            sym (e ∙ ap (λ (c : Bool). unless c (if x.declares then Finds s.queue else Begins tag)) j ∙ ap (λ (c : Bool). unless n (if c then Finds s.queue else Begins tag)) k)

        by : (n b : Bool) → x.no_wait ≡ n → x.declares ≡ b → Next s begun w [] []
        by true b j k = answered [] [] gone g (oks true b j k) (names true b j k) (wish true b j k)
        by false true j k = answered (ok.Queue ∷ []) (s.queue ∷ []) gone g (oks false true j k) (names false true j k) (wish false true j k)
        by false false j k =
            let own : has x.link s.sources ≡ true = ap (λ (m : ℕ). has m s.sources) (eq_of x.link l.link i) ∙ sourced in
            answered (ok.Consume l.link ∷ []) (tag_in (link_of s.deliveries.links x.link) ∷ []) gone g (oks false false j k) (names false false j k)
            (ap (λ (name : List ℕ). Begins name ∷ []) (h k own) ∙ wish false false j k)

    begins : Next s begun w [] []
    begins = by old.waits
      where
        by : Waits s w → Next s begun w [] []
        by (Free e f g) = none f
        by (Asks x tag e f g h) = asks x tag e f g h (x.link == l.link) refl
        by (Serves k e f g h) = none f

  attach_heard : ((l : PathLink) → asked_by a s.links ≡ Some l → l.receives ≡ true → has l.link s.sources ≡ true) → Next s (after_event (event.AttachCame a) s) w [] []
  attach_heard there = by (asked_by a s.links) refl
    where
      by : (o : Option PathLink) → asked_by a s.links ≡ o → Next s (begun_if o a linked) w [] []
      by None e = left
      by (Some l) e = at (l.receives && a.there) refl
        where
          at : (b : Bool) → (l.receives && a.there) ≡ b → Next s (if b then begun_on l.link a.count linked else linked) w [] []
          at true f = begins l (there l e (and_left l.receives a.there f))
          at false f = left

-- ---- a get has its answer

turned : (s t : PathState) (w : List Wish) (xs : List PathOk) → IsEven s → t.awaited ≡ s.awaited → t.queue ≡ s.queue → t.sources ≡ s.sources → t.names ≡ s.names → t.oks ≡ s.oks ++ xs
    → Turned s.deliveries t.deliveries xs → Old s w → Next s t w [] []
turned s t w xs even a q so n o u old = by u.outcome
  where
    answers : (k : ℕ) (x : PathOk) → xs ≡ x ∷ [] → due (x ∷ []) [] ≡ Gets ∷ [] → awaits_get k s.deliveries.links ≡ true → awaits_get k t.deliveries.links ≡ false
        → ((j : ℕ) → (j == k) ≡ false → awaits_get j t.deliveries.links ≡ awaits_get j s.deliveries.links) → Next s t w [] []
    answers k x e one waited after others = from old.waits
      where
        from : Waits s w → Next s t w [] []
        from (Free f g h) = absurd (clash _ waited (h k))
        from (Asks y tag f g h i) = absurd (clash _ waited (h k))
        from (Serves m f g h i) = record {
          wait = [];
          waits = Free refl (a ∙ g) none;
          undrained = u.undrained;
          apart = all_weaker _ _ (λ l c part. none l.link) s.links.links old.apart;
          is = ap (λ (ws : List Wish). ws ++ [])
              (owed_more s t (x ∷ []) [] even (o ∙ ap (λ (ys : List PathOk). s.oks ++ ys) e) (n ∙ sym (append-nil s.names)) ∙ ap (λ (ws : List Wish). owed s ++ ws) (one ∙ sym f));
        }
          where
            own : k ≡ m
            own = i k waited

            other : (j : ℕ) (b : Bool) → awaits_get j s.deliveries.links ≡ b → (j == k) ≡ false → b ≡ false
            other j true e off = absurd (clash _ (eq_to j k (i j e ∙ sym own)) off)
            other j false e off = refl

            none : (j : ℕ) → awaits_get j t.deliveries.links ≡ false
            none j = at (j == k) refl
              where
                at : (b : Bool) → (j == k) ≡ b → awaits_get j t.deliveries.links ≡ false
                at true e = ap (λ (z : ℕ). awaits_get z t.deliveries.links) (eq_of j k e) ∙ after
                at false e = others j e ∙ other j (awaits_get j s.deliveries.links) refl e

    by : Outcome s.deliveries t.deliveries xs → Next s t w [] []
    by (Nothing e f) =
        calm s t w
        (record { awaited = a; queue = q; sources = so; same = record { waits = f; drained = λ k. u.undrained k ∙ sym (old.undrained k); tags = u.tags } })
        (o ∙ ap (λ (ys : List PathOk). s.oks ++ ys) e ∙ append-nil s.oks) n old
    by (GetOk k e waited after others) = answers k ok.Get e refl waited after others
    by (Empty k e waited after others) = answers k (ok.Empty k) e refl waited after others

flow_heard : (s : PathState) (peer : ℕ) (count : Option ℕ) (credit : ℕ) (drain echo : Bool) (w : List Wish) → IsEven s → Old s w
    → Next s (after_event (event.FlowCame peer count credit drain echo) s) w [] []
flow_heard s peer count credit drain echo w even old = by (receiver_in (named peer s.links))
  where
    by : (o : Option PathLink) → Next s (flowed_by o peer count credit drain echo s) w [] []
    by None = quiet s _ w (the_same s.deliveries) refl refl refl refl refl old
    by (Some l) = turned s _ w _ even refl refl refl refl refl (flow_turns s.deliveries old.undrained l.link count echo) old

transfer_heard : (s : PathState) (peer : ℕ) (part : Part) (payload : List ℕ) (image : Option Content) (again : Bool) (w : List Wish) → IsEven s → Old s w
    → Next s (after_event (event.TransferCame peer part payload image again) s) w [] []
transfer_heard s peer part payload image again w even old = by (taking peer s)
  where
    by : (o : Option PathLink) → Next s (transferred_on o part payload image again s) w [] []
    by None = quiet s s w (the_same s.deliveries) refl refl refl refl refl old
    by (Some l) = turned s _ w _ even refl refl refl refl refl (transfer_turns s.deliveries old.undrained l.link part payload image again) old

-- ---- the gateway's detach goes

detach_goes : (s : PathState) (w : List Wish) → ((l : PathLink) → detaching_of s ≡ Some l → l.receives ≡ true → awaits_get l.link s.deliveries.links ≡ false) → Old s w
    → Next s (after_event event.DetachSent s) w [] []
detach_goes s w rests_there old = by (detaching_of s) refl
  where
    gone : (l : PathLink) → awaits_get l.link s.deliveries.links ≡ false → Next s (dropped l.link (record s { links = parted (Some l) s.links })) w [] []
    gone l none = record {
      wait = w;
      waits = from old.waits;
      undrained = λ k. x.undrained k (old.undrained k);
      apart = all_weaker _ _ (λ m c part. x.waits none m.link ∙ c part) s.links.links old.apart;
      is = sym (append-nil (owed s ++ w));
    }
      where
        t : PathState
        t = dropped l.link (record s { links = parted (Some l) s.links })

        x : Dropped s.deliveries t.deliveries l.link
        x = link_drops l.link s.deliveries

        from : Waits s w → Waits t w
        from (Free e f g) = Free e f (λ k. x.waits none k ∙ g k)
        from (Asks a tag e f g h) = Asks a tag e f (λ k. x.waits none k ∙ g k) (λ d i. at d (a.link == l.link) refl (sym (ap is_some (found_without l.link a.link s.sources)) ∙ i))
          where
            at : a.declares ≡ false → (b : Bool) → (a.link == l.link) ≡ b → is_some (if a.link == l.link then None else find (is_source_of a.link) s.sources) ≡ true
                → tag_in (link_of t.deliveries.links a.link) ≡ tag
            at d true i j = absurd (clash _ j (ap (λ (b : Bool). is_some (if b then None else find (is_source_of a.link) s.sources)) i))
            at d false i j = x.tags a.link i ∙ h d (sym (ap (λ (b : Bool). is_some (if b then None else find (is_source_of a.link) s.sources)) i) ∙ j)
        from (Serves k e f g h) = Serves k e f (x.waits none k ∙ g) (λ j i. h j (sym (x.waits none j) ∙ i))

    by : (o : Option PathLink) → detaching_of s ≡ o → Next s (dropped_by o (record s { links = parted o s.links })) w [] []
    by None e = quiet s _ w (the_same s.deliveries) refl refl refl refl refl old
    by (Some l) e = at l.receives refl
      where
        at : (b : Bool) → l.receives ≡ b → Next s (if b then dropped l.link (record s { links = parted (Some l) s.links }) else record s { links = parted (Some l) s.links }) w [] []
        at true f = gone l (rests_there l e f)
        at false f = quiet s _ w (the_same s.deliveries) refl refl refl refl refl old

-- ---- each event

-- what one needs: a request comes while none waits, and a detach of the container closes no channel
abbrev pub Fit : PathState → PathEvent → Type 0
Fit s (event.Owed x) = Rests s
Fit s (event.Consumed queue tag no_ack no_wait) = Rests s
Fit s (event.CancelCame tag no_wait) = Rests s
Fit s (event.Declared queue no_wait) = Rests s
Fit s (event.GetAsked queue no_ack) = Rests s
Fit s (event.DetachCame peer not_found) = closes_at peer s ≡ false
Fit s (event.LinkFailed peer fault) = ⊥
Fit s x = Unit {0}

abbrev pub IsOpen : ℕ → List PathEvent → Type 0
IsOpen life es = is_closed (deliveries_of life es) ≡ false

-- what stands behind these events of a life
pub record Stands (life : ℕ) (es : List PathEvent) : Type 0 where
  pub wait : List Wish
  old : Old (after_events life es) wait
  pub is : (met_of life es ++ owed (after_events life es)) ++ wait ≡ wishes life es

-- while they are heard and proper and the life goes on
abbrev pub MayStand : ℕ → List PathEvent → Type 0
MayStand life es = AreHeard life es → AllHold IsProper life es → IsOpen life es → Stands life es

pub none_yet : (life : ℕ) → MayStand life []
none_yet life heard met open_yet = record {
  wait = [];
  old = record { waits = Free refl refl (λ k. refl); undrained = λ k. refl; apart = tt };
  is = refl;
}

pub shut : (life : ℕ) (es : List PathEvent) → is_closed (deliveries_of life es) ≡ true → MayStand life es
shut life es e heard met open_yet = absurd (clash _ e open_yet)

module _ (deliveries : DeliveriesAre) (closed : ClosedAre) (calls : CallsAre) (queues : QueuesAre) (tied : LinksAre) (life : ℕ) where
  -- no get waits on a link that no client needs
  unasked : (es : List PathEvent) (k : ℕ) → AreHeard life es → IsOpen life es
      → (is_over k (after_events life es).deliveries || is_at_rest k (after_events life es).deliveries) ≡ true → awaits_get k (after_events life es).deliveries.links ≡ false
  unasked es k heard open_yet e =
      ap (λ (d : DeliveryState). awaits_get k d.links) (deliveries life es)
      ∙ by (link_of z.links k) (kept life ds is_calls k) (ready life ds is_calls (get_calls deliveries life es is_calls) (closed life ds ∙ open_yet) k)
      (ap (λ (d : DeliveryState). is_over k d || is_at_rest k d) (sym (deliveries life es)) ∙ e)
    where
      ds : List DeliveryEvent
      ds = deliveries_of life es

      z : DeliveryState
      z = on.after_events life ds

      is_calls : AreCalls life ds
      is_calls = calls life es heard

      c : Bool
      c = is_all_covered k z.list

      not_probe : (kind : RecvKind) → is_for_gets kind ≡ true → is_probe kind ≡ false
      not_probe Get e = refl
      not_probe kind e = absurd cc

      never : (cancelled probe gets : Bool) → cancelled ≡ false → probe ≡ false → (((cancelled || probe) && c) || ((gets && false) && c)) ≡ true → ⊥
      never false false true e f g = cc
      never false false false e f g = cc
      never true probe gets e f g = cc
      never cancelled true gets e f g = cc

      by : (o : Option ReceivingLink) → IfSome o (Kept ds k) → IfSome o (IsReady ds k)
          → ((in_link (λ (l : ReceivingLink). l.cancelled || is_probe l.kind) o && c) || (in_link (λ (l : ReceivingLink). is_for_gets l.kind && not (is_some l.get)) o && c)) ≡ true
          → in_link is_getting o ≡ false
      by None a b f = refl
      by (Some l) a b f = at l.get refl f
        where
          at : (g : Option WaitingGet) → l.get ≡ g → (((l.cancelled || is_probe l.kind) && c) || ((is_for_gets l.kind && not (is_some l.get)) && c)) ≡ true
              → (is_some g && not (is_empty g)) ≡ false
          at None i f = refl
          at (Some g) i f =
              let gets : is_for_gets l.kind ≡ true = a.gets (ap is_some i) in
              absurd (never l.cancelled (is_probe l.kind) (is_for_gets l.kind) (b gets).kept (not_probe l.kind gets)
              (ap (λ (o : Option WaitingGet). ((l.cancelled || is_probe l.kind) && c) || ((is_for_gets l.kind && not (is_some o)) && c)) (sym i) ∙ f))

  module _ (es : List PathEvent) where
    abbrev s : PathState
    s = after_events life es

    -- the gateway detaches no link on which one waits
    detach_rests : (w : List Wish) → AreHeard life es → IsOpen life es → Old s w → (l : PathLink) → detaching_of s ≡ Some l → l.receives ≡ true
        → awaits_get l.link s.deliveries.links ≡ false
    detach_rests w heard open_yet old l e r = by (detaching_goes s l e)
      where
        there : IsThere s.links l
        there = subst (λ (o : Option PathLink). IfSome o (IsThere s.links)) e (detaching_there s.publishes.list s.deliveries s.oks s.links (tied life es).rising)

        d : DeliveryState
        d = s.deliveries

        parts_so : (b h o v : Bool) → is_to_part l ≡ b → ((b && not (l.receives && h)) || ((l.receives && o) && v)) ≡ true → (is_to_part l ≡ true) ⊎ (v ≡ true)
        parts_so true h o v f g = inl f
        parts_so false h o v f g = inr (and_right (l.receives && o) v g)

        rests_so : (b o v x y : Bool) → b ≡ true → (o && (if b then v && x else y)) ≡ true → v ≡ true
        rests_so true true v x y f g = and_left v x g
        rests_so true false v x y f g = absurd cc
        rests_so false o v x y f g = absurd cc

        part : (is_to_part l ≡ true) ⊎ (is_over l.link d ≡ true) → awaits_get l.link d.links ≡ false
        part (inl f) = (all_find _ (has_number l.link) s.links.links l old.apart there.0).0 (ap (λ (b : Bool). b && is_to_part l) r ∙ f)
        part (inr f) = unasked es l.link heard open_yet (or_left (is_over l.link d) (is_at_rest l.link d) f)

        by : Goes s l → awaits_get l.link d.links ≡ false
        by (inl f) = part (parts_so (is_to_part l) (holds l.link d.list) (is_stage_open l.stage) (is_over l.link d) refl f)
        by (inr f) = unasked es l.link heard open_yet (or_right (is_over l.link d) (is_at_rest l.link d) (rests_so l.receives (is_stage_open l.stage) (is_at_rest l.link d) _ _ r f))

    -- a link that the container attaches has a source
    sourced : AreHeard life es → (a : AttachHeard) (l : PathLink) → asked_by a s.links ≡ Some l → l.receives ≡ true → has l.link s.sources ≡ true
    sourced heard a l e r =
        let found : find (is_asked_as a.name a.role) s.links.links ≡ Some l = by (is_some (attach_fault a.name a.role a.peer s.links)) e in
        (sources_go deliveries closed tied queues life es heard).there l.link
        (found_takes (is_asked_as a.name a.role) s.links.links l found
        (ap (λ (b : Bool). b && not (is_given l)) r ∙ ap not (ungiven l.stage (and_left (is_stage_asked l.stage) _ (and_left _ _ (found_passes (is_asked_as a.name a.role) s.links.links l found))))))
      where
        by : (b : Bool) → (if b then None else find (is_asked_as a.name a.role) s.links.links) ≡ Some l → find (is_asked_as a.name a.role) s.links.links ≡ Some l
        by true f = absurd cc
        by false f = f

        ungiven : (x : Stage) → is_stage_asked x ≡ true → is_stage_given x ≡ false
        ungiven (Asked h) f = refl
        ungiven x f = absurd cc

    get_there : (queue : List ℕ) (no_ack : Bool) (o : Option PathLink) → AreCalls life (gets o no_ack s ++ deliveries_of life es) → IsGetThere s o
    get_there queue no_ack None c =
        ap (λ (d : DeliveryState). in_link (λ (l : ReceivingLink). is_for_gets l.kind) (link_of (on.after_event (on.LinkAdded (free_number s.links.links) Get) d).links (free_number s.links.links))) (deliveries life es)
        ∙ c.0
    get_there queue no_ack (Some l) c = ap (λ (d : DeliveryState). in_link (λ (l : ReceivingLink). is_for_gets l.kind) (link_of d.links l.link)) (deliveries life es) ∙ c.0

    next : (x : PathEvent) (w : List Wish) → AreHeard life (x ∷ es) → IsProper s x → IsEven s → IsOpen life (x ∷ es) → Fit s x → Old s w
        → Next s (after_event x s) w (told s x) (wished life es x)
    next (event.Owed y) w heard m even o f old = owed_asked s y w even m f old
    next (event.Consumed queue tag no_ack no_wait) w heard m even o f old =
        consume_asked s queue tag no_ack no_wait w
        (ap (λ (d : DeliveryState). link_of d.links (free_number s.links.links)) (deliveries life es) ∙ (calls life (event.Consumed queue tag no_ack no_wait ∷ es) heard).0) f old
    next (event.CancelCame tag no_wait) w heard m even o f old = cancel_asked s tag no_wait w even f old
    next (event.Declared queue no_wait) w heard m even o f old = declare_asked s queue no_wait w f old
    next (event.GetAsked queue no_ack) w heard m even o f old =
        let link : Option PathLink = get_link (queue_or s.queue queue) s in
        get_asked s (queue_or s.queue queue) no_ack w (tied life es).rising link refl (get_there queue no_ack link (calls life (event.GetAsked queue no_ack ∷ es) heard)) f old
    next (event.AnswerCame tag multiple settle) w heard m even o f old =
        quiet s _ w (same_event (on.Answered tag multiple settle) s.deliveries refl) refl refl refl refl refl old
    next (event.AttachCame a) w heard m even o f old = attach_heard s a w even old (sourced heard.1 a)
    next (event.FlowCame peer count credit drain echo) w heard m even o f old = flow_heard s peer count credit drain echo w even old
    next (event.TransferCame peer part payload image again) w heard m even o f old = transfer_heard s peer part payload image again w even old
    next (event.LinkFailed peer fault) w heard m even o f old = absurd f
    next event.LinkFlowSent w heard m even o f old = by (is_grant_next s) (grant_in s)
      where
        by : (b : Bool) (g : Option NextGrant) → Next s (if b then granted_by g s else record s { links = told_on (flow_of s.publishes.list s.links) s.links }) w [] []
        by true None = quiet s _ w (the_same s.deliveries) refl refl refl refl refl old
        by true (Some g) = quiet s _ w (same_event (on.GrantSent g) s.deliveries refl) refl refl refl refl refl old
        by false g = quiet s _ w (the_same s.deliveries) refl refl refl refl refl old
    next event.DisposeSent w heard m even o f old = by (next_settle_of s.deliveries.list)
      where
        by : (x : Option NextSettle) → Next s (disposed_by x s) w [] []
        by None = quiet s _ w (the_same s.deliveries) refl refl refl refl refl old
        by (Some x) = quiet s _ w (same_event (on.SettleSent x) s.deliveries refl) refl refl refl refl refl old
    next event.DetachSent w heard m even o f old = detach_goes s w (detach_rests w heard.1 (events_open life (event.DetachSent ∷ []) es o) old) old
    next (event.DeliverSent d) w heard m even o f old = deliver_goes s d w m old
    next (event.ContentWhole tag) w heard m even o f old =
        quiet s _ w (same_event (on.Written tag) s.deliveries refl) refl refl refl refl refl old
    next (event.OkSent y) w heard m even o f old = ok_goes s y w m old
    next event.LinesWent w heard m even o f old =
        quiet s _ w (same_event on.LinesTold s.deliveries refl) refl refl refl refl refl old
    next event.LifeClosed w heard m even o f old = absurd cc
    next event.SessionLost w heard m even o f old = absurd cc
    next event.SessionEnded w heard m even o f old = absurd cc
    next event.UpLost w heard m even o f old = absurd cc
    next x w heard m even o f old = quiet s (after_event x s) w (the_same s.deliveries) refl refl refl refl refl old

  -- what makes a link part
  parting : (C : ℕ → Type 0) (x : PathEvent) (t : PathState)
      → ((peer : ℕ) (not_found : Bool) → x ≡ event.DetachCame peer not_found → (l : PathLink) → named peer t.links ≡ Some l → l.receives ≡ true → is_given l ≡ false → C l.link)
      → Fit t x → Fits C t x
  parting C (event.DetachCame peer not_found) t c f = c peer not_found refl
  parting C (event.LinkFailed peer fault) t c f = absurd f
  parting C x t c f = tt

  pub grows : (x : PathEvent) (es : List PathEvent) → (IsOpen life es → Fit (after_events life es) x) → MayStand life es → MayStand life (x ∷ es)
  grows x es fit old heard met open_now = record {
    wait = n.wait;
    old = record {
      waits = n.waits;
      undrained = n.undrained;
      apart = step (λ l. (l.receives && is_to_part l) ≡ true → C l.link) (parts_kept C) x t (suits C t x (parting C x t detached f)) n.apart;
    };
    is = moves (met_of life es) (owed t) o.wait (wishes life es) (told t x) (owed (after_event x t)) n.wait (wished life es x) o.is n.is;
  }
    where
      t : PathState
      t = after_events life es

      C : ℕ → Type 0
      C k = awaits_get k (after_event x t).deliveries.links ≡ false

      before : IsOpen life es
      before = events_open life (x ∷ []) es open_now

      o : Stands life es
      o = old heard.1 met.1 before

      f : Fit t x
      f = fit before

      n : Next t (after_event x t) o.wait (told t x) (wished life es x)
      n = next es x o.wait heard met.0 (evens life es met.1) open_now f o.old

      detached : (peer : ℕ) (not_found : Bool) → x ≡ event.DetachCame peer not_found → (l : PathLink) → named peer t.links ≡ Some l → l.receives ≡ true → is_given l ≡ false → C l.link
      detached peer not_found is l e r g =
          ap (λ (y : PathEvent). awaits_get l.link (after_event y t).deliveries.links) is
          ∙ unasked es l.link heard.1 before (needed (is_given l) (is_awaited_on l.link t.awaited) (is_over l.link t.deliveries || is_at_rest l.link t.deliveries) g
          (ap (λ (p : Option PathLink). closes_on p t) (sym (ap receiver_in e ∙ ap (λ (b : Bool). if b then Some l else None) r)) ∙ subst (Fit t) is f))
        where
          needed : (g a v : Bool) → g ≡ false → (not g && (a || not v)) ≡ false → v ≡ true
          needed true a v i j = absurd cc
          needed false true v i j = absurd cc
          needed false false true i j = refl
          needed false false false i j = absurd cc

  pub frees : (x : PathEvent) (es : List PathEvent) → is_free x ≡ true → MayStand life es → MayStand life (x ∷ es)
  frees x es e old = grows x es (λ o. by x e) old
    where
      by : (x : PathEvent) → is_free x ≡ true → Fit (after_events life es) x
      by (event.Owed y) e = absurd cc
      by (event.Consumed queue tag no_ack no_wait) e = absurd cc
      by (event.CancelCame tag no_wait) e = absurd cc
      by (event.Declared queue no_wait) e = absurd cc
      by (event.GetAsked queue no_ack) e = absurd cc
      by (event.DetachCame peer not_found) e = absurd cc
      by (event.LinkFailed peer fault) e = absurd cc
      by x e = tt
